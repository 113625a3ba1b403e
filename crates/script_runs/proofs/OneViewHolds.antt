-- A run in which all know one view alone.
use Rattle.std.proofs.Common.{◌≡◌, inl, inr, ℕ, zero, suc, List, [], ◌∷◌, ◌++◌, slice_get, slice_set, true, Some, Option, sym, ap, subst, ◌∙◌}
use Rattle.std.specs.List.{AllByRecursion}
use Rattle.statement.specs.declared.member.Member.{Member}
use Rattle.statement.specs.Statement.{view_of}
use Rattle.blob_store.specs.declared.lying_store.LyingStore.{LyingStore}
use Rattle.port.specs.Reply.{LatestReply}
use Rattle.port.specs.Service.{Replied, ServiceAnswer}
use Rattle.view_ledger.specs.Views.{ViewChain}
use Rattle.view_ledger.specs.Receipts.{Accepts}
use Rattle.verifier.specs.Outcomes.{is_known}
use Rattle.client_acts.specs.ClientActs.{ClientActs}
use Rattle.client_pass.specs.Act.{Act}
use Rattle.client_pass.specs.ClientPass.{ClientPass}
use Rattle.endorser_cell.specs.CellBank.{CellBank, bank_view}
use Rattle.coordinator.specs.State.{State}
use Rattle.answer_lines.specs.Giving.{Gave}
use Rattle.answer_lines.specs.Taken.{IsQuiet, Sides}
use Rattle.script_operations.specs.Giving.{Given, TookFor, WasDone}
use Rattle.script_operations.specs.Operations.{Begun, Closed, Operations, at_progress, with_begun}
use Rattle.script_operations.specs.Task.{Height, Newest, Own, Task, call_of, client_of}
use Rattle.script_world.specs.Carried.{CameAs}
use Rattle.script_world.specs.Lines.{Asked, ClientCame, Drew}
use Rattle.script_world.specs.Running.{Running, world_of}
use Rattle.script_world.specs.World.{World}
use Rattle.script_runs.specs.Accepted.{AcceptedFor, GivenAccepted, GivenJudged}
use Rattle.script_runs.proofs.Going.{IsGoing}
use Rattle.script_runs.proofs.OneState.{OneState, alone, task_good}
use Rattle.script_runs.proofs.Standing.{Means}
use Rattle.script_runs.proofs.Taking.{GoodFor, for_quiet, took_for, took_judged}

pub one_of : {X : Type 0} (P : X → Type 0) (xs : List X) (n : ℕ) (x : X) → AllByRecursion P xs → slice_get xs n ≡ Some x → P x
one_of P [] n x all is = absurd (cc is)
one_of P (first ∷ xs) zero x all is = let same : first ≡ x = cc is in subst P same all.0
one_of P (first ∷ xs) (suc n) x all is = one_of P xs n x all.1 is

pub all_push : {X : Type 0} (P : X → Type 0) (xs : List X) (x : X) → AllByRecursion P xs → P x → AllByRecursion P (xs ++ x ∷ [])
all_push P [] x all one = (one, tt)
all_push P (first ∷ xs) x all one = (all.0, all_push P xs x all.1 one)

pub all_set : {X : Type 0} (P : X → Type 0) (xs : List X) (n : ℕ) (x : X) → AllByRecursion P xs → P x → AllByRecursion P (slice_set xs n x)
all_set P [] n x all one = tt
all_set P (first ∷ xs) zero x all one = (one, all.1)
all_set P (first ∷ xs) (suc n) x all one = (all.0, all_set P xs n x all.1 one)

-- a client and a coordinator, before and after
abbrev pub the_sides : {S L C : Type 0} → ClientPass C → ClientPass C → State S L C → State S L C → Sides S L C
the_sides from to before after = record { from = from; to = to; before = before; after = after }

module _ {S C : Type 0} (key : S → List ℕ) (left : S → ℕ) (accepts : C → Accepts) (checks : Accepts) (roster config : List Member) where
  -- a client that knows the view alone
  abbrev pub IsOne : ClientPass C → Type 0
  IsOne pass = (pass.chain ≡ alone roster config) × (accepts pass.checker ≡ checks)

  abbrev pub AreOne : List (ClientPass C) → Type 0
  AreOne clients = AllByRecursion IsOne clients

  abbrev pub AreGoing : List Begun → Type 0
  AreGoing all = AllByRecursion (λ (begun : Begun). IsGoing checks (alone roster config) begun.task begun.progress) all

  pub record Holds (running : Running (CellBank S C) C) : Type 0 where
    pub state : OneState key left accepts checks roster config running.state
    pub first : running.first ≡ alone roster config
    pub clients : AreOne running.clients
    pub operations : AreGoing running.operations.all

  -- the same of what a request changes
  pub record WorldHolds (world : World (CellBank S C) C) : Type 0 where
    pub state : OneState key left accepts checks roster config world.state
    pub first : world.first ≡ alone roster config
    pub clients : AreOne world.clients

  pub in_world : (running : Running (CellBank S C) C) → Holds running → WorldHolds (world_of running)
  in_world running holds = record { state = holds.state; first = holds.first; clients = holds.clients }

  pub from_world : (running : Running (CellBank S C) C) → WorldHolds (world_of running) → AreGoing running.operations.all → Holds running
  from_world running holds going = record { state = holds.state; first = holds.first; clients = holds.clients; operations = going }

  -- a client came
  came_in : (old new : World (CellBank S C) C) (place : ℕ) → ClientCame accepts checks old new place → WorldHolds old → WorldHolds new
  came_in old new place (inl (same, below)) holds = subst WorldHolds (sym same) holds
  came_in old new place (inr (more, at)) holds = record {
    state = subst (OneState key left accepts checks roster config) (sym more.state) holds.state;
    first = more.first ∙ holds.first;
    clients = subst AreOne (sym more.clients) (all_push IsOne old.clients more.client holds.clients (more.chain ∙ holds.first, more.checker));
  }

  pub came_holds : (old new : Running (CellBank S C) C) (name : List ℕ) (place : ℕ) → CameAs accepts checks old new name place → Holds old → Holds new
  came_holds old new name place came holds =
      from_world new (came_in (world_of old) (world_of new) place came.came (in_world old holds))
      (subst (λ (operations : Operations). AreGoing operations.all) (sym came.operations) holds.operations)

  -- an operation was closed
  pub closed_going : (was now : Operations) (place : ℕ) (begun : Begun) → AreGoing was.all → now ≡ with_begun was place (at_progress begun Closed) → AreGoing now.all
  closed_going was now place begun going closed =
      subst (λ (operations : Operations). AreGoing operations.all) (sym closed)
      (all_set (λ (begun : Begun). IsGoing checks (alone roster config) begun.task begun.progress) was.all place (at_progress begun Closed) going tt)

  configs_of : (chain : ViewChain) → chain ≡ alone roster config → chain.configs ≡ config ∷ []
  configs_of chain is = ap (λ (c : ViewChain). c.configs) is

  -- A request was done at once: each reply was accepted, and all know the view alone.
  module _ (means : Means) (old new : World (CellBank S C) C) (place : ℕ) (draw : Option Act) (task : Task) (label line : List ℕ) (holds : WorldHolds old)
      (drew : (from drawn : ClientPass C) → Drew draw from drawn → drawn.chain ≡ from.chain)
      (asked : Asked accepts (bank_view key left accepts) old new place draw (call_of task)
      (λ (checks : Accepts) (sides : Sides LyingStore (CellBank S C) C) (answer : ServiceAnswer). TookFor checks task label answer line sides)) where
    abbrev sides_of : Sides LyingStore (CellBank S C) C
    sides_of = record { from = asked.drawn; to = asked.to; before = asked.middle; after = new.state }

    from_one : IsOne asked.from
    from_one = one_of IsOne old.clients place asked.from holds.clients asked.stood

    drawn_one : asked.drawn.chain ≡ alone roster config
    drawn_one = drew asked.from asked.drawn asked.drew ∙ from_one.0

    good : OneState key left accepts checks roster config asked.middle × GoodFor checks (config ∷ []) task asked.answer
    good = task_good key left accepts checks roster config means old.state asked.middle holds.state task asked.answer asked.says

    pub asked_accepted : AcceptedFor sides_of label task asked.answer line
    asked_accepted =
        took_for checks (config ∷ []) task label asked.answer line sides_of (configs_of asked.drawn.chain drawn_one) good.1
        (subst (λ (a : Accepts). TookFor a task label asked.answer line sides_of) from_one.1 asked.taken)

    pub asked_holds : WorldHolds new
    asked_holds =
        let quiet : IsQuiet sides_of = for_quiet sides_of label task asked.answer line asked_accepted in
        record {
          state = subst (OneState key left accepts checks roster config) (sym quiet.0) good.0;
          first = asked.first ∙ holds.first;
          clients = subst AreOne (sym asked.stands) (all_set IsOne old.clients place asked.to holds.clients (quiet.1 ∙ drawn_one, ap accepts asked.grows.checker ∙ from_one.1));
        }

  -- Clients that were given an answer: it is accepted, and all know the view alone.
  module _ (old new : ClientActs C) (before after : State LyingStore (CellBank S C) C) (holds : OneState key left accepts checks roster config before) (clients : AreOne old.clients) where
    abbrev pub Kept : Type 0
    Kept = OneState key left accepts checks roster config after × AreOne new.clients

    kept_by : (place : ℕ) (from to : ClientPass C) → slice_get old.clients place ≡ Some from → new.clients ≡ slice_set old.clients place to → to.checker ≡ from.checker
        → IsQuiet (the_sides from to before after) → Kept
    kept_by place from to stood stands checker quiet =
        let one = one_of IsOne old.clients place from clients stood in (
          subst (OneState key left accepts checks roster config) (sym quiet.0) holds,
          subst AreOne (sym stands) (all_set IsOne old.clients place to clients (quiet.1 ∙ one.0, ap accepts checker ∙ one.1)),
        )

    pub gave_accepted : (place : ℕ) (task : Task) (label : List ℕ) (answer : ServiceAnswer) (line : List ℕ) → GoodFor checks (config ∷ []) task answer
        → Gave old new place before after (λ sides. TookFor checks task label answer line sides)
        → Gave old new place before after (λ sides. AcceptedFor sides label task answer line) × Kept
    gave_accepted place task label answer line is_good (from, to, acts, took) =
        let one = one_of IsOne old.clients place from clients acts.stood in
        let accepted = took_for checks (config ∷ []) task label answer line (the_sides from to before after) (configs_of from.chain one.0) is_good took in
        let quiet = for_quiet (the_sides from to before after) label task answer line accepted in
        ((from, to, acts, accepted), kept_by place from to acts.stood acts.stands acts.grows.checker quiet)

    pub done_kept : (name : List ℕ) (task : Task) (label line : List ℕ) → WasDone checks name task label old new before after line → Kept
    done_kept name task label line done =
        (subst (OneState key left accepts checks roster config) (sym done.quiet) holds, subst AreOne (ap (λ (a : ClientActs C). a.clients) (sym done.same)) clients)

    pub given_accepted : (name : List ℕ) (task : Task) (label : List ℕ) (answer : ServiceAnswer) (line : List ℕ) → GoodFor checks (config ∷ []) task answer
        → (given : Given checks name task label old new before after answer line) → GivenAccepted checks name task label old new before after answer line given × Kept
    given_accepted name task label answer line is_good (inl done) = (tt, done_kept name task label line done)
    given_accepted name task label answer line is_good (inr given) = gave_accepted (client_of task) task label answer line is_good given.gave

    pub given_judged : (name : List ℕ) (task : Task) (label : List ℕ) (reply : LatestReply) (line : List ℕ) (client draw : ℕ) (handle nonce : List ℕ) → task ≡ Newest client draw handle nonce
        → is_known (config ∷ []) (view_of reply.receipt.statement) ≡ true → (given : Given checks name task label old new before after (Replied reply) line)
        → GivenJudged checks (config ∷ []) name task label old new before after reply line given × Kept
    given_judged name (Newest client draw handle nonce) label reply line c d h n is known (inl done) = (tt, done_kept name (Newest client draw handle nonce) label line done)
    given_judged name (Newest client draw handle nonce) label reply line c d h n is known (inr given) =
        let (from, to, acts, took) = given.gave in
        let one = one_of IsOne old.clients client from clients acts.stood in
        let judged = took_judged checks (config ∷ []) (the_sides from to before after) (configs_of from.chain one.0) label handle nonce reply line known took in
        ((from, to, acts, judged), kept_by client from to acts.stood acts.stands acts.grows.checker judged.2.quiet)
    given_judged name (Own client draw entry) label reply line c d h n is known given = absurd (cc is)
    given_judged name (Height client handle height) label reply line c d h n is known given = absurd (cc is)
