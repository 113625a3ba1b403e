-- What clients add to their lines when they take an answer whose receipt has marks that were signed.
use Rattle.std.proofs.Common.{◌≡◌, inl, inr, ℕ, zero, suc, List, [], ◌∷◌, ◌++◌, slice_get, slice_set, Option, Some, Ok, Err, refl, sym, ap, subst, ◌∙◌, append_assoc}
use Rattle.std.proofs.lemmas.List.{append-nil}
use Rattle.chain_block.specs.declared.entry.Entry.{Entry}
use Rattle.port.specs.Cause.{Cause, Conflict, Gap, NoQuorum, ViewMoved, StoreFault, BadRow, Contended, Full, TooFar, Reused, NoMemory}
use Rattle.port.specs.Link.{Served}
use Rattle.port.specs.Service.{Knew, Refused, Replied, ServiceAnswer, Stood}
use Rattle.view_ledger.specs.Receipts.{Accepts}
use Rattle.client_pass.specs.Act.{Act, Draw, Line, line}
use Rattle.client_pass.specs.ClientPass.{ClientPass, Notes}
use Rattle.reply_taking.specs.Learning.{AreViews, NotedAfterViews}
use Rattle.answer_lines.specs.Taken.{Printed, Sides, TookAt, TookLatest, TookOwn}
use Rattle.script_operations.specs.Giving.{TookFor}
use Rattle.script_operations.specs.Task.{Height, Newest, Own, Task}
use Rattle.script_world.specs.Lines.{ClientCame}
use Rattle.script_world.specs.World.{World}
use Rattle.script_runs.specs.SignedMarks.{AreOfSigned, AreSigned, IsOfSigned, lines_at}
use Rattle.script_runs.proofs.AnswersSigned.{IsResultSigned}
use Rattle.script_runs.proofs.KeptCalls.{all_append}
use Rattle.script_runs.proofs.SignedCalls.{Signs, receipt_on}

-- the receipt of an answer, where it has one, has marks that were signed
abbrev pub IsAnswerSigned : List Served → ServiceAnswer → Type 0
IsAnswerSigned served (Stood standing) = IsResultSigned served (Ok standing)
IsAnswerSigned served (Refused cause) = IsResultSigned served (Err cause)
IsAnswerSigned served (Replied reply) = AreSigned served reply.receipt
IsAnswerSigned served (Knew rows) = Unit {0}

result_on : (served served' : List Served) → Signs served served' → (cause : Cause) → IsResultSigned served (Err cause) → IsResultSigned served' (Err cause)
result_on served served' signs (Conflict standing) signed = receipt_on served served' signs standing.receipt signed
result_on served served' signs (Gap handle missing) signed = tt
result_on served served' signs (NoQuorum need reasons) signed = tt
result_on served served' signs (ViewMoved view id statement sig) signed = tt
result_on served served' signs StoreFault signed = tt
result_on served served' signs (BadRow key bytes) signed = tt
result_on served served' signs (Contended id first later) signed = tt
result_on served served' signs (Full id) signed = tt
result_on served served' signs (TooFar needed) signed = tt
result_on served served' signs (Reused id) signed = tt
result_on served served' signs NoMemory signed = tt

pub answer_on : (served served' : List Served) → Signs served served' → (answer : ServiceAnswer) → IsAnswerSigned served answer → IsAnswerSigned served' answer
answer_on served served' signs (Stood standing) signed = receipt_on served served' signs standing.receipt signed
answer_on served served' signs (Refused cause) signed = result_on served served' signs cause signed
answer_on served served' signs (Replied reply) signed = receipt_on served served' signs reply.receipt signed
answer_on served served' signs (Knew rows) signed = tt

-- ---- lists of clients

module _ (served : List Served) where
  -- one client has its lines, and more of replies with such receipts
  abbrev pub Writes : {C : Type 0} → ClientPass C → ClientPass C → Type 0
  Writes from to = (more : List Line) × (to.lines ≡ from.lines ++ more) × AreOfSigned served more

  -- all have
  abbrev pub AllWrite : {C : Type 0} → List (ClientPass C) → List (ClientPass C) → Type 0
  AllWrite old new = (place : ℕ) → (more : List Line) × (lines_at new place ≡ lines_at old place ++ more) × AreOfSigned served more

  pub writes_not : {C : Type 0} (from to : ClientPass C) → to ≡ from → Writes from to
  writes_not {C} from to same = ([], ap (λ (p : ClientPass C). p.lines) same ∙ sym (append-nil from.lines), tt)

  pub writes_then : {C : Type 0} (from middle to : ClientPass C) → Writes from middle → Writes middle to → Writes from to
  writes_then from middle to (more, is, all) (later, then_is, then_all) =
      (more ++ later, then_is ∙ ap (λ (l : List Line). l ++ later) is ∙ append_assoc from.lines more later, all_append (λ (line : Line). IsOfSigned served line.act) more later all then_all)

  pub write_not : {C : Type 0} (old new : List (ClientPass C)) → new ≡ old → AllWrite old new
  write_not {C} old new same place = ([], ap (λ (l : List (ClientPass C)). lines_at l place) same ∙ sym (append-nil (lines_at old place)), tt)

  pub write_then : {C : Type 0} (old middle new : List (ClientPass C)) → AllWrite old middle → AllWrite middle new → AllWrite old new
  write_then old middle new first next place =
      let one = first place in
      let two = next place in
      (one.0 ++ two.0, two.1 ∙ ap (λ (l : List Line). l ++ two.0) one.1 ∙ append_assoc (lines_at old place) one.0 two.0, all_append (λ (line : Line). IsOfSigned served line.act) one.0 two.0 one.2 two.2)

  write_set : {C : Type 0} (all : List (ClientPass C)) (place : ℕ) (from to : ClientPass C) → slice_get all place ≡ Some from → Writes from to → AllWrite all (slice_set all place to)
  write_set [] place from to stood writes other = absurd (cc stood)
  write_set {C} (first ∷ all) zero from to stood (more, is, signed) zero =
      let same : first ≡ from = cc stood in
      (more, is ∙ ap (λ (p : ClientPass C). p.lines ++ more) (sym same), signed)
  write_set (first ∷ all) zero from to stood writes (suc other) = ([], sym (append-nil (lines_at all other)), tt)
  write_set (first ∷ all) (suc place) from to stood writes zero = ([], sym (append-nil first.lines), tt)
  write_set (first ∷ all) (suc place) from to stood writes (suc other) = write_set all place from to stood writes other

  -- one of them did
  pub write_at : {C : Type 0} (old new : List (ClientPass C)) (place : ℕ) (from to : ClientPass C) → slice_get old place ≡ Some from → new ≡ slice_set old place to → Writes from to → AllWrite old new
  write_at {C} old new place from to stood stands writes = subst (λ (l : List (ClientPass C)). AllWrite old l) (sym stands) (write_set old place from to stood writes)

  write_more : {C : Type 0} (all : List (ClientPass C)) (client : ClientPass C) → client.lines ≡ [] → AllWrite all (all ++ client ∷ [])
  write_more [] client none zero = ([], none, tt)
  write_more [] client none (suc other) = ([], refl, tt)
  write_more (first ∷ all) client none zero = ([], sym (append-nil first.lines), tt)
  write_more (first ∷ all) client none (suc other) = write_more all client none other

  -- one came
  pub write_came : {L C : Type 0} (accepts : C → Accepts) (checks : Accepts) (old new : World L C) (place : ℕ) → ClientCame accepts checks old new place → AllWrite old.clients new.clients
  write_came accepts checks old new place (inl same) = write_not old.clients new.clients (ap (λ w. w.clients) same.0)
  write_came {L} {C} accepts checks old new place (inr (more, at)) = subst (λ (l : List (ClientPass C)). AllWrite old.clients l) (sym more.clients) (write_more old.clients more.client more.lines)

  -- ---- one client

  pub noted_draw : {C : Type 0} (from to : ClientPass C) (number : List ℕ) (intent : Option Entry) → Notes from to (Draw number intent) → Writes from to
  noted_draw {C} from to number intent notes = (line notes.stamp (Draw number intent) ∷ [], ap (λ (p : ClientPass C). p.lines) notes.noted, (tt, tt))

  view_lines : (lines : List Line) → AreViews lines → AreOfSigned served lines
  view_lines [] views = tt
  view_lines (one ∷ lines) ((row, fault, is), views) = (subst (IsOfSigned served) (sym is) tt, view_lines lines views)

  noted_signed : {C : Type 0} (from to : ClientPass C) (act : Act) → NotedAfterViews from to act → IsOfSigned served act → Writes from to
  noted_signed {C} from to act noted signed =
      let last : List Line = line noted.noted.stamp act ∷ [] in
      writes_then from noted.middle to (noted.views.grows.more, noted.views.grows.lines, view_lines noted.views.grows.more noted.views.views)
      (last, ap (λ (p : ClientPass C). p.lines) noted.noted.noted, (signed, tt))

  module _ {S L C : Type 0} (accepts : Accepts) (sides : Sides S L C) (label : List ℕ) where
    abbrev SidesWrite : Type 0
    SidesWrite = Writes sides.from sides.to

    printed_writes : (cause : Cause) (line : List ℕ) → Printed sides label cause line → SidesWrite
    printed_writes NoMemory line printed = absurd printed
    printed_writes (Conflict standing) line printed = writes_not sides.from sides.to printed.2
    printed_writes (Gap handle missing) line printed = writes_not sides.from sides.to printed.2
    printed_writes (NoQuorum need reasons) line printed = writes_not sides.from sides.to printed.2
    printed_writes (ViewMoved view id statement sig) line printed = writes_not sides.from sides.to printed.2
    printed_writes StoreFault line printed = writes_not sides.from sides.to printed.2
    printed_writes (BadRow key bytes) line printed = writes_not sides.from sides.to printed.2
    printed_writes (Contended id first later) line printed = writes_not sides.from sides.to printed.2
    printed_writes (Full id) line printed = writes_not sides.from sides.to printed.2
    printed_writes (TooFar needed) line printed = writes_not sides.from sides.to printed.2
    printed_writes (Reused id) line printed = writes_not sides.from sides.to printed.2

    own_writes : (entry : Entry) (answer : ServiceAnswer) (line : List ℕ) → IsAnswerSigned served answer → TookOwn accepts sides label entry answer line → SidesWrite
    own_writes entry (Stood standing) line signed (draw, is, took) = noted_signed sides.from sides.to _ took.noted signed
    own_writes entry (Refused (Conflict standing)) line signed took = noted_signed sides.from sides.to _ took.noted signed
    own_writes entry (Refused (Gap handle missing)) line signed took = printed_writes (Gap handle missing) line took
    own_writes entry (Refused (NoQuorum need reasons)) line signed took = printed_writes (NoQuorum need reasons) line took
    own_writes entry (Refused (ViewMoved view id statement sig)) line signed took = printed_writes (ViewMoved view id statement sig) line took
    own_writes entry (Refused StoreFault) line signed took = printed_writes StoreFault line took
    own_writes entry (Refused (BadRow key bytes)) line signed took = printed_writes (BadRow key bytes) line took
    own_writes entry (Refused (Contended id first later)) line signed took = printed_writes (Contended id first later) line took
    own_writes entry (Refused (Full id)) line signed took = printed_writes (Full id) line took
    own_writes entry (Refused (TooFar needed)) line signed took = printed_writes (TooFar needed) line took
    own_writes entry (Refused (Reused id)) line signed took = printed_writes (Reused id) line took
    own_writes entry (Refused NoMemory) line signed took = printed_writes NoMemory line took
    own_writes entry (Replied reply) line signed took = absurd took
    own_writes entry (Knew rows) line signed took = absurd took

    at_writes : (handle : List ℕ) (height : ℕ) (answer : ServiceAnswer) (line : List ℕ) → IsAnswerSigned served answer → TookAt accepts sides label handle height answer line → SidesWrite
    at_writes handle height (Stood standing) line signed took = noted_signed sides.from sides.to _ took.noted signed
    at_writes handle height (Refused cause) line signed took = printed_writes cause line took
    at_writes handle height (Replied reply) line signed took = absurd took
    at_writes handle height (Knew rows) line signed took = absurd took

    latest_writes : (handle nonce : List ℕ) (answer : ServiceAnswer) (line : List ℕ) → IsAnswerSigned served answer → TookLatest accepts sides label handle nonce answer line → SidesWrite
    latest_writes handle nonce (Replied reply) line signed (draw, is, took) = noted_signed sides.from sides.to _ took.noted signed
    latest_writes handle nonce (Refused cause) line signed took = printed_writes cause line took
    latest_writes handle nonce (Stood standing) line signed took = absurd took
    latest_writes handle nonce (Knew rows) line signed took = absurd took

    -- a client takes an answer for a task
    pub took_writes : (task : Task) (answer : ServiceAnswer) (line : List ℕ) → IsAnswerSigned served answer → TookFor accepts task label answer line sides → SidesWrite
    took_writes (Own client draw entry) answer line signed took = own_writes entry answer line signed took
    took_writes (Newest client draw handle nonce) answer line signed took = latest_writes handle nonce answer line signed took
    took_writes (Height client handle height) answer line signed took = at_writes handle height answer line signed took
