-- Which views the chain of an operation over a calm service has.
use Rattle.std.proofs.Common.{◌≡◌, ◌≢◌, ◌⊎◌, inl, inr, List, [], ◌∷◌, ◌++◌, Result, Ok, Err, refl, sym, subst, ap, ◌∙◌}
use Rattle.std.proofs.lemmas.List.{append_assoc, append-nil}
use Rattle.chain_block.specs.declared.meta_block.MetaBlock.{MetaBlock}
use Rattle.statement.specs.Receipt.{Receipt}
use Rattle.port.specs.declared.store_answers.Put.{Put}
use Rattle.port.specs.declared.store_answers.Put.TheVariants as puts
use Rattle.port.specs.Cause.{Cause, Conflict, NoMemory}
use Rattle.port.specs.Contents.{Contents}
use Rattle.port.specs.Reply.{Standing}
use Rattle.port.specs.Row.{Content}
use Rattle.port.specs.Stored.{Stored}
use Rattle.port.specs.Trace.{Event, AreHonest}
use Rattle.view_ledger.specs.Views.{ViewChain}
use Rattle.op_parts.specs.RefreshSound.{Sound as SoundRefresh}
use Rattle.op_parts.specs.RefreshState.{RefreshState}
use Rattle.settle.specs.State.{State as Settle}
use Rattle.op_entry.specs.declared.found.Found.{Found}
use Rattle.op_entry.specs.Ask.{Ask, NewLedger, AppendEntry, ReadAt}
use Rattle.op_entry.specs.State.{Stage, Refreshing, GettingBelow, Putting, GettingTaken, GettingAt, Settling, Ended}
use Rattle.op_entry.specs.Sound.{Refreshed, HasOwnRow, WasPut, GaveRow, IsToSettle, IsSettling, Stands, IsConflict, WasRefreshRefused, WasBelowRefused, WasRowRefused, WasRefused, IsAnswered, IsAt}
use Rattle.calm.specs.Calm.{ServiceState, IsCalm}
use Rattle.calm.specs.Refreshing.{ReadyRefresh}
use Rattle.calm.specs.StandingViews.{IsFront}
use Rattle.calm_entry.specs.CalmRun.{all_views}
use Rattle.calm_entry.proofs.LowerLaws.{CutLaws, RowLaws}
use Rattle.calm_entry.proofs.Quiet.{RefreshLaws, refresh}
use Rattle.calm_entry.proofs.Refusing.{refresh_lacks}

-- by the oldest of some calls a chain has the first of the views
abbrev pub FrontLaw : Type 0
FrontLaw = (ready : ReadyRefresh) (chain : ViewChain) (state : RefreshState) (past : List Event) (later : Contents)
    → SoundRefresh ready.accepts ready.from state chain past → AreHonest ready.contents past later → IsFront ready.roster ready.configs chain

module _ (service : ServiceState) (from chain : ViewChain) where
  -- the chain was refreshed by the oldest of these calls
  abbrev pub IsFresh : List Event → Type 0
  IsFresh past = (later earlier : List Event) × (past ≡ later ++ earlier) × Refreshed service.accepts from chain earlier

  now_fresh : (past : List Event) → Refreshed service.accepts from chain past → IsFresh past
  now_fresh past is = ([], past, refl, is)

  and_newest : (past : List Event) (event : Event) (before : List Event) → past ≡ event ∷ before → IsFresh before → IsFresh past
  and_newest past event before is known = (event ∷ known.0, known.1, is ∙ ap (λ (l : List Event). event ∷ l) known.2, known.3)

  and_calls : (past calls before : List Event) → past ≡ calls ++ before → IsFresh before → IsFresh past
  and_calls past calls before is known = (calls ++ known.0, known.1, is ∙ ap (λ (l : List Event). calls ++ l) known.2 ∙ sym (append_assoc calls known.0 known.1), known.3)

  by_own : (ask : Ask) (row : Content) (past : List Event) → HasOwnRow service.accepts ask from chain row past → IsFresh past
  by_own (NewLedger entry) row past has = now_fresh past has.2
  by_own (AppendEntry entry) row past has = and_newest past _ has.2 has.3 (now_fresh has.2 has.6)
  by_own (ReadAt handle height) row past has = absurd has

  by_put : (ask : Ask) (row : Content) (put : Put) (past : List Event) → WasPut service.accepts ask from chain row put past → IsFresh past
  by_put ask row put past was = and_newest past _ was.0 was.1 (by_own ask row was.0 was.2)

  by_given : (ask : Ask) (found : Found) (stored : Stored) (past : List Event) → GaveRow service.accepts ask from chain found stored past → IsFresh past
  by_given (NewLedger entry) found stored past gave = and_newest past _ gave.1 gave.2 (by_put (NewLedger entry) gave.0 puts.Taken gave.1 gave.5)
  by_given (AppendEntry entry) found stored past gave = and_newest past _ gave.1 gave.2 (by_put (AppendEntry entry) gave.0 puts.Taken gave.1 gave.5)
  by_given (ReadAt handle height) found stored past gave = and_newest past _ gave.0 gave.1 (now_fresh gave.0 gave.4)

  by_began : (ask : Ask) (found : Found) (past : List Event) → IsToSettle service.accepts ask from chain found past → IsFresh past
  by_began ask found past (inl is) = by_put ask found.row puts.Done past is.1
  by_began ask found past (inr is) = by_given ask found is.0 past is.1

  by_settling : (ask : Ask) (found : Found) (settle : Settle) (past : List Event) → IsSettling service.accepts ask from chain found settle past → IsFresh past
  by_settling ask found settle past settling = and_calls past settling.calls settling.before settling.split (by_began ask found settling.before settling.began)

  by_stands : (ask : Ask) (found : Found) (blocks : List MetaBlock) (receipt : Receipt) (past : List Event) → Stands service.accepts ask from chain found blocks receipt past → IsFresh past
  by_stands ask found blocks receipt past (inl is) = by_given ask found is.1.stored past is.1.given
  by_stands ask found blocks receipt past (inr was) = by_settling ask found was.settle past was.settling

  by_below : (ask : Ask) (cause : Cause) (past : List Event) → WasBelowRefused service.accepts ask from chain cause past → IsFresh past
  by_below (NewLedger entry) cause past was = absurd was
  by_below (AppendEntry entry) cause past was = and_newest past _ was.1 was.2 (now_fresh was.1 was.3)
  by_below (ReadAt handle height) cause past was = absurd was

  by_row : (ask : Ask) (cause : Cause) (past : List Event) → WasRowRefused service.accepts ask from chain cause past → IsFresh past
  by_row (NewLedger entry) cause past was = and_newest past _ was.2 was.3 (by_put (NewLedger entry) was.0 puts.Taken was.2 was.4)
  by_row (AppendEntry entry) cause past was = and_newest past _ was.2 was.3 (by_put (AppendEntry entry) was.0 puts.Taken was.2 was.4)
  by_row (ReadAt handle height) cause past was = and_newest past _ was.1 was.2 (now_fresh was.1 was.3)

  by_refused : (ask : Ask) (cause : Cause) (past : List Event) → WasRefused service.accepts ask from chain cause past → WasRefreshRefused service.accepts from chain cause past ⊎ IsFresh past
  by_refused ask cause past (inl was) = inl was
  by_refused ask cause past (inr (inl was)) = inr (by_below ask cause past was)
  by_refused ask cause past (inr (inr (inl was))) = inr (by_put ask was.0 was.1 past was.2)
  by_refused ask cause past (inr (inr (inr (inl was)))) = inr (by_row ask cause past was)
  by_refused ask cause past (inr (inr (inr (inr was)))) = inr (by_settling ask was.0 was.1 past was.2)

  by_conflict : (ask : Ask) (cause : Cause) (past : List Event) → IsConflict service.accepts ask from chain cause past → IsFresh past
  by_conflict ask (Conflict standing) past is = by_stands ask _ standing.chain standing.receipt past is
  by_conflict ask cause past is = absurd is

  module _ (cut : CutLaws) (rows : RowLaws) (refreshes : RefreshLaws) (fronts : FrontLaw) (calm : IsCalm service) (front : IsFront service.roster service.configs from)
      (ask : Ask) (past : List Event) (contents : Contents) (honest : AreHonest service.contents past contents) where
    -- a fresh chain has all views
    has_all : IsFresh past → chain ≡ all_views service
    has_all (later, earlier, is, (event, before, newest, grew, gave)) =
        let h = cut.store service.contents contents later earlier (subst (λ (p : List Event). AreHonest service.contents p contents) is honest) in
        refreshes.all (refresh service refreshes calm from front) chain before event h.0 grew gave (subst (λ (p : List Event). AreHonest service.contents p h.0) newest h.1)

    fresh_front : IsFresh past → IsFront service.roster service.configs chain
    fresh_front is =
        subst (λ (c : ViewChain). IsFront service.roster service.configs c) (sym (has_all is))
        (record { genuine = refl; some = calm.views.some; rest = []; split = sym (append-nil service.configs) })

    refused_front : (cause : Cause) → WasRefreshRefused service.accepts from chain cause past → IsFront service.roster service.configs chain
    refused_front cause (state, got, before, is, sound, refused) =
        let h = subst (λ (p : List Event). AreHonest service.contents p contents) is honest in
        fronts (refresh service refreshes calm from front) chain state before h.0 sound h.1

    by_answer : (answer : Result Standing Cause) → IsAnswered service.accepts ask from chain answer past → IsFront service.roster service.configs chain
    by_answer (Ok standing) is = fresh_front (by_stands ask _ standing.chain standing.receipt past is)
    by_answer (Err cause) (inl is) = fresh_front (by_conflict ask cause past is)
    by_answer (Err cause) (inr was) = by (by_refused ask cause past was)
      where
        by : WasRefreshRefused service.accepts from chain cause past ⊎ IsFresh past → IsFront service.roster service.configs chain
        by (inl refused) = refused_front cause refused
        by (inr is) = fresh_front is

    pub has_front : (stage : Stage) → IsAt service.accepts ask from chain stage past → IsFront service.roster service.configs chain
    has_front (Refreshing asked state) at = fronts (refresh service refreshes calm from front) chain state past contents at.2 honest
    has_front (GettingBelow entry) at = fresh_front (now_fresh past at.1)
    has_front (Putting row) at = fresh_front (by_own ask row past at)
    has_front (GettingTaken row) at = fresh_front (by_put ask row puts.Taken past at)
    has_front (GettingAt handle height) at = fresh_front (now_fresh past at.1)
    has_front (Settling found settle) at = fresh_front (by_settling ask found settle past at)
    has_front (Ended answer) at = by_answer answer at

    pub knows_all : (answer : Result Standing Cause) → answer ≢ Err NoMemory → IsAnswered service.accepts ask from chain answer past → chain ≡ all_views service
    knows_all (Ok standing) had is = has_all (by_stands ask _ standing.chain standing.receipt past is)
    knows_all (Err cause) had (inl is) = has_all (by_conflict ask cause past is)
    knows_all (Err cause) had (inr was) = by (by_refused ask cause past was)
      where
        by : WasRefreshRefused service.accepts from chain cause past ⊎ IsFresh past → chain ≡ all_views service
        by (inl refused) = absurd (had (ap (λ (c : Cause). Err c) (refresh_lacks rows refreshes service calm from front chain cause past contents honest refused)))
        by (inr is) = has_all is
