-- How the chain of views of an operation grew.
use Rattle.std.proofs.Common.{◌≡◌, inl, inr, ℕ, List, [], ◌∷◌, ◌++◌, Result, Ok, Err, refl, sym, ap, ◌∙◌}
use Rattle.std.proofs.lemmas.List.{append_assoc}
use Rattle.chain_block.specs.declared.meta_block.MetaBlock.{MetaBlock}
use Rattle.statement.specs.declared.member.Member.{Member}
use Rattle.statement.specs.declared.view_block.ViewBlock.{ViewBlock}
use Rattle.statement.specs.Receipt.{Receipt}
use Rattle.port.specs.declared.store_answers.Put.{Put}
use Rattle.port.specs.declared.store_answers.Put.TheVariants as puts
use Rattle.port.specs.Cause.{Cause, Conflict}
use Rattle.port.specs.Reply.{Standing}
use Rattle.port.specs.Row.{Content}
use Rattle.port.specs.Stored.{Stored}
use Rattle.port.specs.Trace.{Event}
use Rattle.view_ledger.specs.Views.{ViewChain}
use Rattle.view_ledger.specs.Receipts.{Accepts}
use Rattle.op_parts.specs.Refresh.{Grew, HasGrown}
use Rattle.op_parts.specs.RefreshSound.{Sound as SoundRefresh, IsHalfway}
use Rattle.op_parts.specs.RefreshState.{RefreshState, AtView, AtFinals, AtEnd}
use Rattle.settle.specs.State.{State as Settle}
use Rattle.op_entry.specs.declared.found.Found.{Found}
use Rattle.op_entry.specs.Ask.{Ask, NewLedger, AppendEntry, ReadAt}
use Rattle.op_entry.specs.State.{Stage, Refreshing, GettingBelow, Putting, GettingTaken, GettingAt, Settling, Ended}
use Rattle.op_entry.specs.Sound.{Refreshed, HasOwnRow, WasPut, GaveRow, IsToSettle, IsSettling, Stands, IsConflict, WasBelowRefused, WasRowRefused, WasRefused, IsAnswered, IsAt}

module _ (accepts : Accepts) (from chain : ViewChain) where
  and_newest : (past : List Event) (event : Event) (before : List Event) → past ≡ event ∷ before → HasGrown accepts from chain before → HasGrown accepts from chain past
  and_newest past event before is grown = (event ∷ grown.0, grown.1, is ∙ ap (λ (l : List Event). event ∷ l) grown.2, grown.3)

  and_calls : (past calls before : List Event) → past ≡ calls ++ before → HasGrown accepts from chain before → HasGrown accepts from chain past
  and_calls past calls before is grown =
      (calls ++ grown.0, grown.1, is ∙ ap (λ (l : List Event). calls ++ l) grown.2 ∙ sym (append_assoc calls grown.0 grown.1), grown.3)

  by_grew : (past : List Event) → Grew accepts from past chain → HasGrown accepts from chain past
  by_grew past grew = ([], past, refl, grew)

  halfway : (body : List ℕ) (block : ViewBlock) (config : List Member) (past : List Event) → IsHalfway accepts from body block config chain past → HasGrown accepts from chain past
  halfway body block config [] half = absurd half
  halfway body block config (event ∷ past) half = and_newest (event ∷ past) event past refl (by_grew past half.0)

  by_refresh : (refresh : RefreshState) (past : List Event) → SoundRefresh accepts from refresh chain past → HasGrown accepts from chain past
  by_refresh AtView past sound = by_grew past sound
  by_refresh (AtFinals body block config) past sound = halfway body block config past sound
  by_refresh AtEnd [] sound = absurd sound
  by_refresh AtEnd (event ∷ past) (inl ended) = and_newest (event ∷ past) event past refl (by_grew past ended.0)
  by_refresh AtEnd (event ∷ past) (inr ended) = and_newest (event ∷ past) event past refl (halfway ended.0 ended.1 ended.2 past ended.3)

  by_refreshed : (past : List Event) → Refreshed accepts from chain past → HasGrown accepts from chain past
  by_refreshed past fresh = and_newest past fresh.0 fresh.1 fresh.2 (by_grew fresh.1 fresh.3)

  by_row : (ask : Ask) (row : Content) (past : List Event) → HasOwnRow accepts ask from chain row past → HasGrown accepts from chain past
  by_row (NewLedger entry) row past has = by_refreshed past has.2
  by_row (AppendEntry entry) row past has = and_newest past _ has.2 has.3 (by_refreshed has.2 has.6)
  by_row (ReadAt handle height) row past has = absurd has

  by_put : (ask : Ask) (row : Content) (put : Put) (past : List Event) → WasPut accepts ask from chain row put past → HasGrown accepts from chain past
  by_put ask row put past was = and_newest past _ was.0 was.1 (by_row ask row was.0 was.2)

  by_given : (ask : Ask) (found : Found) (stored : Stored) (past : List Event) → GaveRow accepts ask from chain found stored past → HasGrown accepts from chain past
  by_given (NewLedger entry) found stored past gave = and_newest past _ gave.1 gave.2 (by_put (NewLedger entry) gave.0 puts.Taken gave.1 gave.5)
  by_given (AppendEntry entry) found stored past gave = and_newest past _ gave.1 gave.2 (by_put (AppendEntry entry) gave.0 puts.Taken gave.1 gave.5)
  by_given (ReadAt handle height) found stored past gave = and_newest past _ gave.0 gave.1 (by_refreshed gave.0 gave.4)

  by_to_settle : (ask : Ask) (found : Found) (past : List Event) → IsToSettle accepts ask from chain found past → HasGrown accepts from chain past
  by_to_settle ask found past (inl is) = by_put ask found.row puts.Done past is.1
  by_to_settle ask found past (inr is) = by_given ask found is.0 past is.1

  by_settling : (ask : Ask) (found : Found) (settle : Settle) (past : List Event) → IsSettling accepts ask from chain found settle past → HasGrown accepts from chain past
  by_settling ask found settle past settling = and_calls past settling.calls settling.before settling.split (by_to_settle ask found settling.before settling.began)

  by_stands : (ask : Ask) (found : Found) (blocks : List MetaBlock) (receipt : Receipt) (past : List Event) → Stands accepts ask from chain found blocks receipt past → HasGrown accepts from chain past
  by_stands ask found blocks receipt past (inl is) = by_given ask found is.1.stored past is.1.given
  by_stands ask found blocks receipt past (inr was) = by_settling ask found was.settle past was.settling

  by_below : (ask : Ask) (cause : Cause) (past : List Event) → WasBelowRefused accepts ask from chain cause past → HasGrown accepts from chain past
  by_below (NewLedger entry) cause past was = absurd was
  by_below (AppendEntry entry) cause past was = and_newest past _ was.1 was.2 (by_refreshed was.1 was.3)
  by_below (ReadAt handle height) cause past was = absurd was

  by_row_refused : (ask : Ask) (cause : Cause) (past : List Event) → WasRowRefused accepts ask from chain cause past → HasGrown accepts from chain past
  by_row_refused (NewLedger entry) cause past was = and_newest past _ was.2 was.3 (by_put (NewLedger entry) was.0 puts.Taken was.2 was.4)
  by_row_refused (AppendEntry entry) cause past was = and_newest past _ was.2 was.3 (by_put (AppendEntry entry) was.0 puts.Taken was.2 was.4)
  by_row_refused (ReadAt handle height) cause past was = and_newest past _ was.1 was.2 (by_refreshed was.1 was.3)

  by_refused : (ask : Ask) (cause : Cause) (past : List Event) → WasRefused accepts ask from chain cause past → HasGrown accepts from chain past
  by_refused ask cause past (inl was) = and_newest past _ was.2 was.3 (by_refresh was.0 was.2 was.4)
  by_refused ask cause past (inr (inl was)) = by_below ask cause past was
  by_refused ask cause past (inr (inr (inl was))) = by_put ask was.0 was.1 past was.2
  by_refused ask cause past (inr (inr (inr (inl was)))) = by_row_refused ask cause past was
  by_refused ask cause past (inr (inr (inr (inr was)))) = by_settling ask was.0 was.1 past was.2

  by_conflict : (ask : Ask) (cause : Cause) (past : List Event) → IsConflict accepts ask from chain cause past → HasGrown accepts from chain past
  by_conflict ask (Conflict standing) past is = by_stands ask _ standing.chain standing.receipt past is
  by_conflict ask cause past is = absurd is

  by_answer : (ask : Ask) (answer : Result Standing Cause) (past : List Event) → IsAnswered accepts ask from chain answer past → HasGrown accepts from chain past
  by_answer ask (Ok standing) past is = by_stands ask _ standing.chain standing.receipt past is
  by_answer ask (Err cause) past (inl is) = by_conflict ask cause past is
  by_answer ask (Err cause) past (inr was) = by_refused ask cause past was

  pub has_grown : (ask : Ask) (stage : Stage) (past : List Event) → IsAt accepts ask from chain stage past → HasGrown accepts from chain past
  has_grown ask (Refreshing asked refresh) past at = by_refresh refresh past at.2
  has_grown ask (GettingBelow entry) past at = by_refreshed past at.1
  has_grown ask (Putting row) past at = by_row ask row past at
  has_grown ask (GettingTaken row) past at = by_put ask row puts.Taken past at
  has_grown ask (GettingAt handle height) past at = by_refreshed past at.1
  has_grown ask (Settling found settle) past at = by_settling ask found settle past at
  has_grown ask (Ended answer) past at = by_answer ask answer past at
