-- No line of a script says that a reply of the coordinator was refused.
use Rattle.std.proofs.Common.{◌≡◌, ◌≢◌, inl, inr, ℕ, List, [], ◌∷◌, Result, Ok, Err, sym, subst, ◌∙◌}
use Rattle.std.specs.Fmt.{decimal}
use Rattle.chain_block.specs.declared.entry.Entry.{Entry}
use Rattle.chain_block.specs.Entry.{height_of}
use Rattle.fault_script.specs.Spelling.{joined}
use Rattle.fault_script.specs.Command.{Request, Command, Genesis, Plain, Restart, Begin, Step, Finish, Retry, LoseRequest, LoseReply, StoreFail, StoreHide, StoreStale, StoreFork, StoreHonest, RawAppend, RawLatest, RawShow, RawFinalize, Offer, Forge, End}
use Rattle.fault_script.specs.Command as requests
use Rattle.statement.specs.declared.member.Member.{Member}
use Rattle.port.specs.Cause.{Cause, Conflict, NoMemory}
use Rattle.port.specs.Link.{LinkView}
use Rattle.port.specs.Service.{Refused, Replied, ServiceAnswer, Stood}
use Rattle.port.specs.Store.{StoreView}
use Rattle.port.specs.View.{ViewRow}
use Rattle.verifier.specs.declared.reply_fault.ReplyFault.{ReplyFault}
use Rattle.view_ledger.specs.Receipts.{Accepts}
use Rattle.client_acts.specs.ClientActs.{ClientActs}
use Rattle.endorser_cell.specs.CellBank.{CellBank, bank_view}
use Rattle.blob_store.specs.LyingStore.{lying_view}
use Rattle.coordinator.specs.State.{State}
use Rattle.reply_lines.specs.Causes.{payload_of}
use Rattle.reply_lines.specs.Lines.{bad_reply_line, entry_values, raw_values}
use Rattle.answer_lines.specs.Taken.{Printed, Sides}
use Rattle.script_operations.specs.Giving.{Asks, Given}
use Rattle.script_operations.specs.Operations.{NoneIsNamed, NoneIsOpen}
use Rattle.script_operations.specs.Task.{Height, Newest, Own, Task}
use Rattle.script_world.specs.Carried.{Finished, Retried}
use Rattle.script_world.specs.Running.{Running, acts_of, world_of}
use Rattle.script_world.specs.World.{World}
use Rattle.script_runs.specs.Accepted.{AcceptedAt, AcceptedFor, AcceptedLatest, AcceptedOwn, AllAccepted, AsksAccepted, DoesAccepted, GivenAccepted, LineAccepted, OnSaid}
use Rattle.script_runs.specs.BadReplies.{NoBadReply, NoneRefused, NoneRefusedElse}
use Rattle.script_runs.specs.Runs.{DidLine, Does, Runs, SaysOr, first_line}
use Rattle.script_runs.proofs.OtherWords.{other_conflict, other_done, other_newest, other_ok, other_raw, other_refusal, other_view}

-- the line doesn't say so
abbrev IsOther : List ℕ → Type 0
IsOther line = (fault : ReplyFault) → line ≢ bad_reply_line fault

said_none : (said : List (List ℕ)) → said ≡ [] → NoBadReply said
said_none said is = subst NoBadReply (sym is) tt

said_one : (said : List (List ℕ)) (line : List ℕ) → said ≡ line ∷ [] → IsOther line → NoBadReply said
said_one said line is other = subst NoBadReply (sym is) (other, tt)

prints : (line printed : List ℕ) → line ≡ printed → IsOther printed → IsOther line
prints line printed is other = λ fault same. other fault (sym is ∙ same)

module _ {S L C : Type 0} (sides : Sides S L C) (label : List ℕ) where
  printed_other : (cause : Cause) (line : List ℕ) → Printed sides label cause line → IsOther line
  printed_other NoMemory line printed = absurd printed
  printed_other cause line printed = prints line _ printed.1 (λ fault. other_refusal fault label cause)

  own_other : (entry : Entry) (answer : ServiceAnswer) (line : List ℕ) → AcceptedOwn sides label entry answer line → IsOther line
  own_other entry (Stood standing) line (draw, drawn, is) = prints line _ is.printed (λ fault. other_ok fault (entry_values label (height_of entry) (payload_of entry)))
  own_other entry (Refused (Conflict standing)) line is = prints line _ is.printed (λ fault. other_conflict fault (entry_values label (height_of entry) (payload_of standing.row.entry)))
  own_other entry (Refused cause) line is = printed_other cause line is
  own_other entry answer line is = absurd is

  at_other : (handle : List ℕ) (height : ℕ) (answer : ServiceAnswer) (line : List ℕ) → AcceptedAt sides label handle height answer line → IsOther line
  at_other handle height (Stood standing) line is = prints line _ is.printed (λ fault. other_ok fault (entry_values label height (payload_of standing.row.entry)))
  at_other handle height (Refused cause) line is = printed_other cause line is
  at_other handle height answer line is = absurd is

  latest_other : (handle nonce : List ℕ) (answer : ServiceAnswer) (line : List ℕ) → AcceptedLatest sides label handle nonce answer line → IsOther line
  latest_other handle nonce (Replied reply) line (draw, drawn, is) = prints line _ is.printed (λ fault. other_newest fault label reply.row)
  latest_other handle nonce (Refused cause) line is = printed_other cause line is
  latest_other handle nonce answer line is = absurd is

  for_other : (task : Task) (answer : ServiceAnswer) (line : List ℕ) → AcceptedFor sides label task answer line → IsOther line
  for_other (Own client draw entry) answer line is = own_other entry answer line is
  for_other (Newest client draw handle nonce) answer line is = latest_other handle nonce answer line is
  for_other (Height client handle height) answer line is = at_other handle height answer line is

does_other : {L C : Type 0} (accepts : C → Accepts) (lv : L → LinkView) (old new : World L C) (place : ℕ) (request : Request) (line : List ℕ) → (does : Does accepts lv old new place request line)
    → DoesAccepted accepts lv old new place request line does → IsOther line
does_other accepts lv old new place (requests.New client label payload) line does is = own_other _ label _ does.asked.answer line is
does_other accepts lv old new place (requests.Append client label height payload) line does is = own_other _ label _ does.asked.answer line is
does_other accepts lv old new place (requests.Latest client label) line does is = latest_other _ label _ _ does.asked.answer line is
does_other accepts lv old new place (requests.At client label height) line does is = at_other _ label _ height does.asked.answer line is
does_other accepts lv old new place (requests.Reconfigure ids) line does is = absurd does

given_other : {S L C : Type 0} (checks : Accepts) (name : List ℕ) (task : Task) (label : List ℕ) (old new : ClientActs C) (before after : State S L C) (answer : ServiceAnswer) (line : List ℕ)
    → (given : Given checks name task label old new before after answer line) → GivenAccepted checks name task label old new before after answer line given → IsOther line
given_other checks name task label old new before after answer line (inl done) is = prints line _ done.printed (λ fault. other_done fault (name ∷ []))
given_other checks name task label old new before after answer line (inr given) (from, to, acts, is) = for_other _ label task answer line is

asks_other : {S L C : Type 0} (accepts : C → Accepts) (sv : S → StoreView) (lv : L → LinkView) (checks : Accepts) (name : List ℕ) (old new : ClientActs C) (before after : State S L C) (task : Task) (label line : List ℕ)
    → (asks : Asks accepts sv lv checks name old new before after task label line) → AsksAccepted accepts sv lv checks name old new before after task label line asks → IsOther line
asks_other accepts sv lv checks name old new before after task label line (inl done) is = prints line _ done.printed (λ fault. other_done fault (name ∷ []))
asks_other accepts sv lv checks name old new before after task label line (inr anew) (from, to, acts, is) = for_other _ label task anew.answer line is

first_other : (ids : List ℕ) (answer : Result ViewRow Cause) → IsOther (first_line ids answer)
first_other ids (Ok row) = λ fault. other_view fault (decimal 0 ∷ joined ids ∷ [])
first_other ids (Err cause) = λ fault. other_refusal fault [] cause

module _ {S C : Type 0} (key : S → List ℕ) (left size : S → ℕ) (signs : S → List ℕ → List ℕ → S → Type 0) (fit : S → C → Type 0) (accepts : C → Accepts) (key_of : ℕ → List ℕ) (left_of : ℕ → ℕ) (checks : Accepts)
    (configs : List (List Member)) where
  module _ (old new : Running (CellBank S C) C) (said : List (List ℕ)) where
    finish_other : (op : List ℕ) → (told : SaysOr (NoneIsOpen old.operations op × (new ≡ old)) (Finished key left accepts checks old new op) said)
        → OnSaid
        (λ (line : List ℕ) (finished : Finished key left accepts checks old new op line).
        GivenAccepted checks op finished.begun.task finished.begun.label (acts_of old) (acts_of new) finished.end.middle new.state finished.end.answer line finished.end.given) told
        → NoBadReply said
    finish_other op (inl (line, one, finished)) is =
        said_one said line one
        (given_other checks op finished.begun.task finished.begun.label (acts_of old) (acts_of new) finished.end.middle new.state finished.end.answer line finished.end.given is)
    finish_other op (inr (none, open_none)) is = said_none said none

    retry_other : (op : List ℕ) → (told : SaysOr (NoneIsNamed old.operations op × (new ≡ old)) (Retried key left accepts checks old new op) said)
        → OnSaid
        (λ (line : List ℕ) (retried : Retried key left accepts checks old new op line).
        AsksAccepted accepts lying_view (bank_view key left accepts) checks op (acts_of old) (acts_of new) old.state new.state retried.begun.task retried.begun.label line retried.asked) told
        → NoBadReply said
    retry_other op (inl (line, one, retried)) is =
        said_one said line one
        (asks_other accepts lying_view (bank_view key left accepts) checks op (acts_of old) (acts_of new) old.state new.state retried.begun.task retried.begun.label line retried.asked is)
    retry_other op (inr (none, named_none)) is = said_none said none

    line_other : (command : Command) → (did : DidLine key left size signs fit accepts key_of left_of checks old new said command)
        → LineAccepted key left size signs fit accepts key_of left_of checks configs old new said command did → NoneRefused said command
    line_other (Genesis ids) did is = said_one said _ did.one (first_other ids did.answer)
    line_other (Plain request) did is = said_one said did.line did.one (does_other accepts (bank_view key left accepts) (world_of did.asking) (world_of new) did.place request did.line did.does is)
    line_other Restart did is = said_none said did.1
    line_other (Begin op request) did is = said_none said did.none
    line_other (Step op n) did is = said_none said did.none
    line_other (Finish op) did is = finish_other op did.told is
    line_other (Retry op) did is = retry_other op did.told is
    line_other (LoseRequest id n) did is = said_none said did.none
    line_other (LoseReply id n) did is = said_none said did.none
    line_other (StoreFail n) did is = said_none said did.1
    line_other (StoreHide label height) did is = said_none said did.1
    line_other (StoreStale label height from) did is = said_none said did.1
    line_other (StoreFork label height) did is = said_none said did.1
    line_other StoreHonest did is = said_none said did.1
    line_other (RawAppend id label height payload number) did is = said_one said did.line did.one (prints did.line _ did.answers.answered.printed (λ fault. other_raw fault (raw_values did.answers.answered.answer)))
    line_other (RawLatest id label number) did is = said_one said did.line did.one (prints did.line _ did.answers.printed (λ fault. other_raw fault (raw_values did.answers.answer)))
    line_other (RawShow id label) did is = said_one said did.line did.one (prints did.line _ did.answers.printed (λ fault. other_raw fault (raw_values did.answers.answer)))
    line_other (RawFinalize id ids) did is = absurd did
    line_other (Offer op ids) did is = tt
    line_other (Forge op count ids) did is = tt
    line_other End did is = said_none said did.1

  -- so it is of each line
  pub none_refused_else : (script : List Command) (old new : Running (CellBank S C) C) (printed : List (List ℕ)) → (runs : Runs key left size signs fit accepts key_of left_of checks script old new printed)
      → AllAccepted key left size signs fit accepts key_of left_of checks configs script old new printed runs → NoneRefusedElse key left size signs fit accepts key_of left_of checks script old new printed runs
  none_refused_else [] old new printed runs all = tt
  none_refused_else (command ∷ commands) old new printed (middle, said, rest, did, runs, is) all =
      (line_other old middle said command did all.0, none_refused_else commands middle new rest runs all.1)
