-- How the chain of views of a latest read grew.
use Rattle.std.proofs.Common.{List, [], ◌∷◌, ◌++◌, refl, sym, ap, ◌∙◌}
use Rattle.std.proofs.lemmas.List.{append_assoc}
use Rattle.port.specs.Trace.{Event}
use Rattle.view_ledger.specs.Views.{ViewChain}
use Rattle.view_ledger.specs.Receipts.{Accepts}
use Rattle.op_parts.specs.Refresh.{HasGrown}
use Rattle.op_parts.specs.RefreshSound.{Sound as SoundRefresh}
use Rattle.op_parts.specs.RefreshState.{RefreshState}
use Rattle.op_latest.specs.LatestAsked.{LatestAsk}
use Rattle.op_latest.specs.LatestSays.{IsFresh, IsAfter}
use Rattle.op_latest.specs.LatestSound.{AtLive, AtStage}
use Rattle.op_latest.specs.LatestState.{Stage, Refreshing, Asking, CatchingUp, AskingAgain, Getting, Ended}

-- the law of refreshes
abbrev pub Growing : Type 0
Growing = (accepts : Accepts) (from chain : ViewChain) (refresh : RefreshState) (past : List Event) → SoundRefresh accepts from refresh chain past → HasGrown accepts from chain past

module _ (law : Growing) (accepts : Accepts) (ask : LatestAsk) (from chain : ViewChain) where
  by_fresh : (past : List Event) → IsFresh accepts from chain past → HasGrown accepts from chain past
  by_fresh [] fresh = absurd fresh
  by_fresh (event ∷ past) fresh = (event ∷ [], past, refl, fresh.0)

  by_after : (past calls : List Event) → IsAfter accepts from chain past calls → HasGrown accepts from chain past
  by_after past calls after =
      let grown = by_fresh after.fresh after.refreshed in
      (calls ++ grown.0, grown.1, after.split ∙ ap (λ (l : List Event). calls ++ l) grown.2 ∙ sym (append_assoc calls grown.0 grown.1), grown.3)

  by_live : (stage : Stage) (past : List Event) → AtLive accepts ask from chain stage past → HasGrown accepts from chain past
  by_live (Refreshing refresh) past at = law accepts from chain refresh past at
  by_live (Asking votes) past at = by_after past at.0 at.1
  by_live (CatchingUp second catch_up) past at = by_after past at.0 at.1
  by_live (AskingAgain second) past at = by_after past at.0 at.1
  by_live (Getting head receipt) past at = by_after past at.0 at.1
  by_live (Ended answer) past at = by_after past at.0 at.1

  pub has_grown : (stage : Stage) (past : List Event) → AtStage accepts ask from chain stage past → HasGrown accepts from chain past
  has_grown (Ended answer) [] at = absurd at
  has_grown (Ended answer) (event ∷ past) at =
      let grown = by_live at.0.0 past at.0.1 in (event ∷ grown.0, grown.1, ap (λ (l : List Event). event ∷ l) grown.2, grown.3)
  has_grown (Refreshing refresh) past at = by_live (Refreshing refresh) past at
  has_grown (Asking votes) past at = by_live (Asking votes) past at
  has_grown (CatchingUp second catch_up) past at = by_live (CatchingUp second catch_up) past at
  has_grown (AskingAgain second) past at = by_live (AskingAgain second) past at
  has_grown (Getting head receipt) past at = by_live (Getting head receipt) past at
