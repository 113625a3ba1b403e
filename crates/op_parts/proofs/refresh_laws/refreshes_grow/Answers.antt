use Rattle.std.proofs.Common.{inl, inr, ℕ, List, [], ◌∷◌, refl, ap}
use Rattle.statement.specs.declared.member.Member.{Member}
use Rattle.statement.specs.declared.view_block.ViewBlock.{ViewBlock}
use Rattle.port.specs.Trace.{Event}
use Rattle.view_ledger.specs.Views.{ViewChain}
use Rattle.view_ledger.specs.Receipts.{Accepts}
use Rattle.op_parts.specs.Refresh.{Grew, HasGrown}
use Rattle.op_parts.specs.RefreshSound.{Sound, IsHalfway}
use Rattle.op_parts.specs.RefreshState.{RefreshState, AtView, AtFinals, AtEnd}
use Rattle.op_parts.proofs.refresh_laws.refreshes_grow.Goals as goal

module _ (accepts : Accepts) (from chain : ViewChain) where
  and_newest : (event : Event) (past : List Event) → HasGrown accepts from chain past → HasGrown accepts from chain (event ∷ past)
  and_newest event past grown = (event ∷ grown.0, grown.1, ap (λ (l : List Event). event ∷ l) grown.2, grown.3)

  by_grew : (past : List Event) → Grew accepts from past chain → HasGrown accepts from chain past
  by_grew past grew = ([], past, refl, grew)

  halfway : (body : List ℕ) (block : ViewBlock) (config : List Member) (past : List Event) → IsHalfway accepts from body block config chain past → HasGrown accepts from chain past
  halfway body block config [] half = absurd half
  halfway body block config (event ∷ past) half = and_newest event past (by_grew past half.0)

  by_refresh : (refresh : RefreshState) (past : List Event) → Sound accepts from refresh chain past → HasGrown accepts from chain past
  by_refresh AtView past sound = by_grew past sound
  by_refresh (AtFinals body block config) past sound = halfway body block config past sound
  by_refresh AtEnd [] sound = absurd sound
  by_refresh AtEnd (event ∷ past) (inl ended) = and_newest event past (by_grew past ended.0)
  by_refresh AtEnd (event ∷ past) (inr ended) = and_newest event past (halfway ended.0 ended.1 ended.2 past ended.3)

pub returns : goal.returns
returns c accepts from chain refresh past sound = by_refresh accepts from chain refresh past sound
