-- An operation whose calls told it of no further view has the chain with which it began.
use Rattle.std.proofs.Common.{◌≡◌, inl, inr, ℕ, List, [], ◌∷◌, Result, Ok, Err, subst}
use Rattle.port.specs.Cause.{Cause, Conflict, Gap, NoQuorum, ViewMoved, StoreFault, BadRow, Contended, Full, TooFar, Reused, NoMemory}
use Rattle.port.specs.declared.store_answers.Put.{Put}
use Rattle.port.specs.Reply.{Standing}
use Rattle.port.specs.Row.{Content}
use Rattle.port.specs.Stored.{Stored}
use Rattle.port.specs.Trace.{Event}
use Rattle.chain_block.specs.declared.meta_block.MetaBlock.{MetaBlock}
use Rattle.statement.specs.declared.member.Member.{Member}
use Rattle.statement.specs.declared.view_block.ViewBlock.{ViewBlock}
use Rattle.statement.specs.Receipt.{Receipt}
use Rattle.view_ledger.specs.Receipts.{Accepts}
use Rattle.view_ledger.specs.Views.{ViewChain}
use Rattle.op_parts.specs.RefreshSound.{Sound as SoundRefresh, IsHalfway}
use Rattle.op_parts.specs.RefreshState.{RefreshState, AtView, AtFinals, AtEnd}
use Rattle.op_entry.specs.declared.found.Found.{Found}
use Rattle.op_entry.specs.Ask.{AppendEntry, Ask, NewLedger, ReadAt}
use Rattle.op_entry.specs.Sound.{GaveRow, HasOwnRow, IsAnswered, IsAt, IsSettling, IsToSettle, Refreshed, Sound, Stands, WasPut, WasBelowRefused, WasRowRefused, WasRefused}
use Rattle.op_entry.specs.State.{Stage, Refreshing, GettingBelow, Putting, GettingTaken, GettingAt, Settling, Ended, State}
use Rattle.script_runs.proofs.Still.{AreDry, IsDry, all_back, grew_none}

module _ (accepts : Accepts) (from chain : ViewChain) where
  -- what is so of the tail of calls is so
  behind : (event : Event) (before past : List Event) → past ≡ event ∷ before → AreDry past → AreDry before
  behind event before past is dry = (subst AreDry is dry).1

  halfway_stays : (body : List ℕ) (block : ViewBlock) (config : List Member) (past : List Event) → AreDry past → IsHalfway accepts from body block config chain past → chain ≡ from
  halfway_stays body block config [] dry half = absurd half
  halfway_stays body block config (event ∷ past) dry half = grew_none accepts from chain past dry.1 half.0

  refresh_stays : (refresh : RefreshState) (past : List Event) → AreDry past → SoundRefresh accepts from refresh chain past → chain ≡ from
  refresh_stays AtView past dry sound = grew_none accepts from chain past dry sound
  refresh_stays (AtFinals body block config) past dry sound = halfway_stays body block config past dry sound
  refresh_stays AtEnd [] dry sound = absurd sound
  refresh_stays AtEnd (event ∷ past) dry (inl (grew, got)) = grew_none accepts from chain past dry.1 grew
  refresh_stays AtEnd (event ∷ past) dry (inr (body, block, config, half, got)) = halfway_stays body block config past dry.1 half

  refreshed_stays : (past : List Event) → AreDry past → Refreshed accepts from chain past → chain ≡ from
  refreshed_stays past dry (event, before, is, grew, none) = grew_none accepts from chain before (behind event before past is dry) grew

  own_stays : (ask : Ask) (row : Content) (past : List Event) → AreDry past → HasOwnRow accepts ask from chain row past → chain ≡ from
  own_stays (NewLedger entry) row past dry (zero_height, is, refreshed) = refreshed_stays past dry refreshed
  own_stays (AppendEntry entry) row past dry (stored, below, before, is, good, same, refreshed) = refreshed_stays before (behind _ before past is dry) refreshed
  own_stays (ReadAt handle height) row past dry own = absurd own

  put_stays : (ask : Ask) (row : Content) (put : Put) (past : List Event) → AreDry past → WasPut accepts ask from chain row put past → chain ≡ from
  put_stays ask row put past dry (before, is, own) = own_stays ask row before (behind _ before past is dry) own

  gave_stays : (ask : Ask) (found : Found) (stored : Stored) (past : List Event) → AreDry past → GaveRow accepts ask from chain found stored past → chain ≡ from
  gave_stays (ReadAt handle height) found stored past dry (before, is, good, own, refreshed) = refreshed_stays before (behind _ before past is dry) refreshed
  gave_stays (NewLedger entry) found stored past dry (own, before, is, place, same, put) = put_stays (NewLedger entry) own _ before (behind _ before past is dry) put
  gave_stays (AppendEntry entry) found stored past dry (own, before, is, place, same, put) = put_stays (AppendEntry entry) own _ before (behind _ before past is dry) put

  to_settle_stays : (ask : Ask) (found : Found) (past : List Event) → AreDry past → IsToSettle accepts ask from chain found past → chain ≡ from
  to_settle_stays ask found past dry (inl (own, put)) = put_stays ask found.row _ past dry put
  to_settle_stays ask found past dry (inr (stored, gave, none)) = gave_stays ask found stored past dry gave

  settling_stays : (ask : Ask) (found : Found) (settle : _) (past : List Event) → AreDry past → IsSettling accepts ask from chain found settle past → chain ≡ from
  settling_stays ask found settle past dry is = to_settle_stays ask found is.before (all_back IsDry is.calls is.before (subst AreDry is.split dry)) is.began

  stands_stays : (ask : Ask) (found : Found) (blocks : List MetaBlock) (receipt : Receipt) (past : List Event) → AreDry past → Stands accepts ask from chain found blocks receipt past → chain ≡ from
  stands_stays ask found blocks receipt past dry (inl (none, is)) = gave_stays ask found is.stored past dry is.given
  stands_stays ask found blocks receipt past dry (inr is) = settling_stays ask found is.settle past dry is.settling

  below_stays : (ask : Ask) (cause : Cause) (past : List Event) → AreDry past → WasBelowRefused accepts ask from chain cause past → chain ≡ from
  below_stays (AppendEntry entry) cause past dry (got, before, is, refreshed, why) = refreshed_stays before (behind _ before past is dry) refreshed
  below_stays (NewLedger entry) cause past dry refused = absurd refused
  below_stays (ReadAt handle height) cause past dry refused = absurd refused

  row_stays : (ask : Ask) (cause : Cause) (past : List Event) → AreDry past → WasRowRefused accepts ask from chain cause past → chain ≡ from
  row_stays (ReadAt handle height) cause past dry (got, before, is, refreshed, why) = refreshed_stays before (behind _ before past is dry) refreshed
  row_stays (NewLedger entry) cause past dry (own, got, before, is, put, why) = put_stays (NewLedger entry) own _ before (behind _ before past is dry) put
  row_stays (AppendEntry entry) cause past dry (own, got, before, is, put, why) = put_stays (AppendEntry entry) own _ before (behind _ before past is dry) put

  refused_stays : (ask : Ask) (cause : Cause) (past : List Event) → AreDry past → WasRefused accepts ask from chain cause past → chain ≡ from
  refused_stays ask cause past dry (inl (refresh, got, before, is, sound, why)) = refresh_stays refresh before (behind _ before past is dry) sound
  refused_stays ask cause past dry (inr (inl refused)) = below_stays ask cause past dry refused
  refused_stays ask cause past dry (inr (inr (inl (row, put, was, why)))) = put_stays ask row put past dry was
  refused_stays ask cause past dry (inr (inr (inr (inl refused)))) = row_stays ask cause past dry refused
  refused_stays ask cause past dry (inr (inr (inr (inr (found, settle, settling, why))))) = settling_stays ask found settle past dry settling

  err_stays : (ask : Ask) (cause : Cause) (past : List Event) → AreDry past → IsAnswered accepts ask from chain (Err cause) past → chain ≡ from
  err_stays ask cause past dry (inr refused) = refused_stays ask cause past dry refused
  err_stays ask (Conflict standing) past dry (inl stands) = stands_stays ask _ standing.chain standing.receipt past dry stands
  err_stays ask (Gap handle missing) past dry (inl none) = absurd none
  err_stays ask (NoQuorum need reasons) past dry (inl none) = absurd none
  err_stays ask (ViewMoved view id statement sig) past dry (inl none) = absurd none
  err_stays ask StoreFault past dry (inl none) = absurd none
  err_stays ask (BadRow key bytes) past dry (inl none) = absurd none
  err_stays ask (Contended id first later) past dry (inl none) = absurd none
  err_stays ask (Full id) past dry (inl none) = absurd none
  err_stays ask (TooFar needed) past dry (inl none) = absurd none
  err_stays ask (Reused id) past dry (inl none) = absurd none
  err_stays ask NoMemory past dry (inl none) = absurd none

  answered_stays : (ask : Ask) (answer : Result Standing Cause) (past : List Event) → AreDry past → IsAnswered accepts ask from chain answer past → chain ≡ from
  answered_stays ask (Ok standing) past dry stands = stands_stays ask _ standing.chain standing.receipt past dry stands
  answered_stays ask (Err cause) past dry is = err_stays ask cause past dry is

  stage_stays : (ask : Ask) (stage : Stage) (past : List Event) → AreDry past → IsAt accepts ask from chain stage past → chain ≡ from
  stage_stays ask (Refreshing asked refresh) past dry (same, fit, sound) = refresh_stays refresh past dry sound
  stage_stays ask (GettingBelow entry) past dry (is, refreshed) = refreshed_stays past dry refreshed
  stage_stays ask (Putting row) past dry own = own_stays ask row past dry own
  stage_stays ask (GettingTaken row) past dry put = put_stays ask row _ past dry put
  stage_stays ask (GettingAt handle height) past dry (is, refreshed) = refreshed_stays past dry refreshed
  stage_stays ask (Settling found settle) past dry settling = settling_stays ask found settle past dry settling
  stage_stays ask (Ended answer) past dry answered = answered_stays ask answer past dry answered

pub chain_stays : (accepts : Accepts) (ask : Ask) (from : ViewChain) (state : State) (past : List Event) → AreDry past → Sound accepts ask from state past → state.chain ≡ from
chain_stays accepts ask from state past dry sound = stage_stays accepts from state.chain ask state.stage past dry sound
