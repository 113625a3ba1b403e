-- What the client of an operation is given.
use Rattle.std.proofs.Common.{◌≡◌, ℕ, Bool, false, List, [], slice_get, Some, Result, Ok, Err, inl, inr, refl, sym, ◌∙◌, subst, append-nil}
use Rattle.std.specs.Prelude.{IfOk, IsTrue, ◌↔◌}
use Rattle.chain_block.specs.declared.entry.Entry.{Entry}
use Rattle.chain_block.specs.declared.entry.Entry.TheVariants.{Genesis, Later}
use Rattle.chain_block.specs.Entry.{bare}
use Rattle.client_pass.specs.ClientList.{IsAnswered}
use Rattle.client_pass.specs.ClientPass.{ClientPass}
use Rattle.client_acts.specs.ClientActs.{ClientActs}
use Rattle.client_acts.specs.declared.turn.Turn.{Turn}
use Rattle.client_acts.specs.Turns.{TurnsAt}
use Rattle.port.specs.declared.refusal.Refusal.{Refusal}
use Rattle.port.specs.Link.{LinkView}
use Rattle.port.specs.Reply.{LatestReply, Standing}
use Rattle.port.specs.Service.{ServiceAnswer, ServiceCall, replied, stood}
use Rattle.port.specs.Store.{StoreView}
use Rattle.op_entry.specs.State as entry
use Rattle.op_latest.specs.LatestState as latest
use Rattle.view_ledger.specs.Receipts.{Accepts}
use Rattle.coordinator.specs.Says.{coordinator_says}
use Rattle.coordinator.specs.State.{State}
use Rattle.reply_lines.specs.Lines.{done_line}
use Rattle.roster_bank.specs.Counting.{served_count}
use Rattle.answer_lines.specs.Asking.{call_for}
use Rattle.answer_lines.specs.Draws.{IsOpen}
use Rattle.answer_lines.specs.Giving.{Gave, OnlyLearned}
use Rattle.answer_lines.specs.Taken.{TookAt, TookLatest, TookOwn}
use Rattle.script_operations.specs.Ending.{CameTo, Ends, EndsEntry, EndsLatest}
use Rattle.script_operations.specs.Giving.{Asks, AsksAnew, Given, GivesEnd, IsDone, WasDone, WasGiven}
use Rattle.script_operations.specs.Operations.{Begun, InEntry, InNewest, Progress}
use Rattle.script_operations.specs.Task.{Height, Newest, Own, Task, call_of, client_of}

pub call_bare : (entry : Entry) → call_for entry ≡ call_for (bare entry)
call_bare (Genesis nonce payload) = refl
call_bare (Later handle height nonce payload) = refl

pub bare_twice : (entry : Entry) → bare (bare entry) ≡ bare entry
bare_twice (Genesis nonce payload) = refl
bare_twice (Later handle height nonce payload) = refl

-- so many calls were served then
pub turned_at : (client calls count : ℕ) (old new : List Turn) → calls ≡ count → TurnsAt client calls old new → TurnsAt client count old new
turned_at client calls count old new same turned = subst (λ (n : ℕ). TurnsAt client n old new) same turned

-- nobody wrote anything
pub no_turn : (client calls : ℕ) (turns : List Turn) → TurnsAt client calls turns turns
no_turn client calls turns = ([], sym (append-nil turns), tt)

-- the client's draw has no accepted reply
pub opened : {C : Type 0} (clients : List (ClientPass C)) (client draw : ℕ) (said : Bool) → ((pass : ClientPass C) → slice_get clients client ≡ Some pass → IsTrue said ↔ IsAnswered pass.lines draw) → said ≡ false
    → IsOpen clients client draw
opened clients client draw said tells not_said = λ pass stood answered. absurd (cc (sym ((tells pass stood).1 answered) ∙ not_said))

module _ {S L C : Type 0} (sv : S → StoreView) (lv : L → LinkView) (accepts : Accepts) (before middle : State S L C) where
  -- what an operation was led to, as an answer of a coordinator
  pub entry_led : (state : entry.State) (answer : Result Standing Refusal) → CameTo sv lv before middle (λ events. EndsEntry accepts state events (entry.answer_of answer))
      → CameTo sv lv before middle (λ events. Ends accepts (InEntry state) events (stood answer))
  entry_led state (Ok standing) came = record { events = came.events; calls = came.calls; ended = came.ended }
  entry_led state (Err refusal) came = record { events = came.events; calls = came.calls; ended = came.ended }

  pub latest_led : (state : latest.State) (answer : Result LatestReply Refusal) → CameTo sv lv before middle (λ events. EndsLatest accepts state events (latest.outcome_of answer))
      → CameTo sv lv before middle (λ events. Ends accepts (InNewest state) events (replied answer))
  latest_led state (Ok reply) came = record { events = came.events; calls = came.calls; ended = came.ended }
  latest_led state (Err refusal) came = record { events = came.events; calls = came.calls; ended = came.ended }

more : {T E : Type 0} {P Q : T → Type 0} → ((line : T) → P line → Q line) → (said : Result T E) → IfOk said P → IfOk said Q
more all (Ok line) is = all line is
more all (Err e) is = tt

module _ {S L C T E : Type 0} (bytes : T → List ℕ) (checks : Accepts) (name label : List ℕ) (old new : ClientActs C) (before after : State S L C) (result : Result T E) where
  -- what was given was given under this label
  module _ (shown : List ℕ) (is : shown ≡ label) where
    own_gave : (client : ℕ) (entry : Entry) (answer : ServiceAnswer) (line : List ℕ) → Gave old new client before after (λ sides. TookOwn checks sides shown entry answer line)
        → Gave old new client before after (λ sides. TookOwn checks sides label entry answer line)
    own_gave client entry answer line gave = subst (λ (l : List ℕ). Gave old new client before after (λ sides. TookOwn checks sides l entry answer line)) is gave

    latest_gave : (client : ℕ) (handle nonce : List ℕ) (answer : ServiceAnswer) (line : List ℕ) → Gave old new client before after (λ sides. TookLatest checks sides shown handle nonce answer line)
        → Gave old new client before after (λ sides. TookLatest checks sides label handle nonce answer line)
    latest_gave client handle nonce answer line gave = subst (λ (l : List ℕ). Gave old new client before after (λ sides. TookLatest checks sides l handle nonce answer line)) is gave

    at_gave : (client : ℕ) (handle : List ℕ) (height : ℕ) (answer : ServiceAnswer) (line : List ℕ) → Gave old new client before after (λ sides. TookAt checks sides shown handle height answer line)
        → Gave old new client before after (λ sides. TookAt checks sides label handle height answer line)
    at_gave client handle height answer line gave = subst (λ (l : List ℕ). Gave old new client before after (λ sides. TookAt checks sides l handle height answer line)) is gave

    module _ (client draw : ℕ) (opened : IsOpen old.clients client draw) where
      own_was_given : (entry : Entry) (answer : ServiceAnswer) (line : List ℕ) → Gave old new client before after (λ sides. TookOwn checks sides shown entry answer line)
          → WasGiven checks name (Own client draw entry) label old new before after answer line
      own_was_given entry answer line gave = record { undone = λ done. opened done.0 done.1 done.2; gave = own_gave client entry answer line gave }

      latest_was_given : (handle nonce : List ℕ) (answer : ServiceAnswer) (line : List ℕ) → Gave old new client before after (λ sides. TookLatest checks sides shown handle nonce answer line)
          → WasGiven checks name (Newest client draw handle nonce) label old new before after answer line
      latest_was_given handle nonce answer line gave = record { undone = λ done. opened done.0 done.1 done.2; gave = latest_gave client handle nonce answer line gave }

      pub own_given : (entry : Entry) (answer : ServiceAnswer) → IfOk result (λ line. Gave old new client before after (λ sides. TookOwn checks sides shown entry answer (bytes line)))
          → IfOk result (λ line. Given checks name (Own client draw entry) label old new before after answer (bytes line))
      own_given entry answer gave = more (λ line gave. inr (own_was_given entry answer (bytes line) gave)) result gave

      pub latest_given : (handle nonce : List ℕ) (answer : ServiceAnswer) → IfOk result (λ line. Gave old new client before after (λ sides. TookLatest checks sides shown handle nonce answer (bytes line)))
          → IfOk result (λ line. Given checks name (Newest client draw handle nonce) label old new before after answer (bytes line))
      latest_given handle nonce answer gave = more (λ line gave. inr (latest_was_given handle nonce answer (bytes line) gave)) result gave

  -- its client has an accepted reply
  module _ (task : Task) (done : IsDone old.clients task) (printed : IfOk result (λ line. bytes line ≡ done_line name)) (quiet : after ≡ before) (same : new ≡ old) where
    was_done : (line : List ℕ) → line ≡ done_line name → WasDone checks name task label old new before after line
    was_done line is = record { done = done; printed = is; quiet = quiet; same = same }

    pub done_given : (answer : ServiceAnswer) → IfOk result (λ line. Given checks name task label old new before after answer (bytes line))
    done_given answer = more (λ line is. inl (was_done (bytes line) is)) result printed

    pub done_asked : (accepts : C → Accepts) (sv : S → StoreView) (lv : L → LinkView) → IfOk result (λ line. Asks accepts sv lv checks name old new before after task label (bytes line))
    done_asked accepts sv lv = more (λ line is. inl (was_done (bytes line) is)) result printed

  module _ (accepts : C → Accepts) (sv : S → StoreView) (lv : L → LinkView) (first : State S L C) (learned : OnlyLearned accepts sv lv before after) where
    abbrev Turned : ℕ → Type 0
    Turned client = TurnsAt client (served_count (lv before.link)) old.turns new.turns

    pub own_asked : (client draw : ℕ) (entry : Entry) (call : ServiceCall) (answer : ServiceAnswer) → Turned client → IsOpen old.clients client draw → call ≡ call_for entry → coordinator_says accepts sv lv first before call answer
        → (shown : List ℕ) → shown ≡ label → IfOk result (λ line. Gave old new client before after (λ sides. TookOwn checks sides shown entry answer (bytes line)))
        → IfOk result (λ line. Asks accepts sv lv checks name old new first after (Own client draw entry) label (bytes line))
    own_asked client draw entry call answer turned opened same says shown is gave =
        let says_so : coordinator_says accepts sv lv first before (call_of (Own client draw entry)) answer = subst (λ (call : ServiceCall). coordinator_says accepts sv lv first before call answer) same says in
        more (λ line gave. inr (record { middle = before; answer = answer; says = says_so; given = own_was_given shown is client draw opened entry answer (bytes line) gave; learned = learned; turns = turned })) result gave

    pub latest_asked : (client draw : ℕ) (handle nonce : List ℕ) (answer : ServiceAnswer) → Turned client → IsOpen old.clients client draw
        → coordinator_says accepts sv lv first before (call_of (Newest client draw handle nonce)) answer
        → (shown : List ℕ) → shown ≡ label → IfOk result (λ line. Gave old new client before after (λ sides. TookLatest checks sides shown handle nonce answer (bytes line)))
        → IfOk result (λ line. Asks accepts sv lv checks name old new first after (Newest client draw handle nonce) label (bytes line))
    latest_asked client draw handle nonce answer turned opened says shown is gave =
        more (λ line gave. inr (record { middle = before; answer = answer; says = says; given = latest_was_given shown is client draw opened handle nonce answer (bytes line) gave; learned = learned; turns = turned })) result gave

    pub height_asked : (client : ℕ) (handle : List ℕ) (height : ℕ) (answer : ServiceAnswer) → Turned client → coordinator_says accepts sv lv first before (call_of (Height client handle height)) answer
        → (shown : List ℕ) → shown ≡ label → IfOk result (λ line. Gave old new client before after (λ sides. TookAt checks sides shown handle height answer (bytes line)))
        → IfOk result (λ line. AsksAnew accepts sv lv checks name old new first after (Height client handle height) label (bytes line))
    height_asked client handle height answer turned says shown is gave =
        more (λ line gave. record { middle = before; answer = answer; says = says; given = record { undone = λ none. none; gave = at_gave shown is client handle height answer (bytes line) gave }; learned = learned; turns = turned }) result gave

    pub height_ends : (client : ℕ) (handle : List ℕ) (height : ℕ) (progress : Progress) (answer : ServiceAnswer) → Turned client → CameTo sv lv first before (λ events. Ends (accepts first.checker) progress events answer)
        → (shown : List ℕ) → shown ≡ label → IfOk result (λ line. Gave old new client before after (λ sides. TookAt checks sides shown handle height answer (bytes line)))
        → IfOk result (λ line. GivesEnd accepts sv lv checks name old new first after (Height client handle height) label progress (bytes line))
    height_ends client handle height progress answer turned came shown is gave =
        more (λ line gave. record { middle = before; answer = answer; came = came; given = inr (record { undone = λ none. none; gave = at_gave shown is client handle height answer (bytes line) gave }); learned = learned; turns = turned }) result gave

    pub ends_given : (task : Task) (progress : Progress) (answer : ServiceAnswer) → Turned (client_of task) → CameTo sv lv first before (λ events. Ends (accepts first.checker) progress events answer)
        → IfOk result (λ line. Given checks name task label old new before after answer (bytes line))
        → IfOk result (λ line. GivesEnd accepts sv lv checks name old new first after task label progress (bytes line))
    ends_given task progress answer turned came given =
        more (λ line given. record { middle = before; answer = answer; came = came; given = given; learned = learned; turns = turned }) result given

  module _ (accepts : C → Accepts) (sv : S → StoreView) (lv : L → LinkView) (first : State S L C) where
    pub asked_anew : (one begun : Begun) → one ≡ begun → IfOk result (λ line. AsksAnew accepts sv lv checks name old new first after begun.task begun.label (bytes line))
        → IfOk result (λ line. Asks accepts sv lv checks name old new first after one.task one.label (bytes line))
    asked_anew one begun same anew =
        subst (λ (begun : Begun). IfOk result (λ line. Asks accepts sv lv checks name old new first after begun.task begun.label (bytes line))) (sym same) (more (λ line asks. inr asks) result anew)
