-- How a run that is tied to what is known is tied again after a request.
use Rattle.std.proofs.Common.{◌≡◌, ℕ, ◌+◌, ◌-◌, ◌≤◌, true, false, List, [], ◌∷◌, ◌++◌, length, Option, refl, sym, ap, ◌∙◌, subst, arith}
use Rattle.std.specs.Prelude.{Contains, count_by}
use Rattle.std.proofs.lemmas.List.Elements.{Contains-append_right}
use Rattle.chain_block.specs.declared.entry.Entry.{Entry}
use Rattle.chain_block.specs.Entry.{handle_of}
use Rattle.fault_script.specs.Command.{Request, Command, Plain}
use Rattle.fault_script.specs.Limits.{is_new}
use Rattle.statement.specs.declared.member.Member.{Member}
use Rattle.port.specs.Link.{LinkView}
use Rattle.port.specs.Service.{ServiceCall, ServiceAnswer}
use Rattle.blob_store.specs.LyingStore.{lying_view}
use Rattle.blob_store.specs.declared.lying_store.LyingStore.{LyingStore}
use Rattle.view_ledger.specs.Receipts.{Accepts}
use Rattle.view_ledger.specs.Views.{ViewChain}
use Rattle.verifier.specs.Outcomes.{is_known}
use Rattle.calm.specs.Calls.{Later, StaysCalm, GrowsCalm}
use Rattle.calm.specs.Calm.{ServiceState, with_next}
use Rattle.client_pass.specs.Act.{Act, Draw}
use Rattle.client_pass.specs.ClientPass.{ClientPass, Notes}
use Rattle.coordinator.specs.CalmStates.{Tells, after as now}
use Rattle.coordinator.specs.Says.{coordinator_says}
use Rattle.coordinator.specs.State.{State}
use Rattle.script_world.specs.Lines.{Asked}
use Rattle.answer_lines.specs.Taken.{Sides, IsQuiet, Took}
use Rattle.script_world.specs.World.{World}
use Rattle.world_run.specs.Plain.{Known, reply_to_request, after_request}
use Rattle.world_run.specs.PlainRun.{IsRunnable}
use Rattle.world_run.specs.SetUp.{draws_of}
use Rattle.world_run.specs.Tied.{AreTied, IsTied}
use Rattle.world_run.proofs.CalmRuns.{Laws, still_unbent, same_checker, same_chain, tied_then, more_news}
use Rattle.world_run.proofs.TiedLedgers.{same_ledgers}

-- a draw leaves the chain as it is
pub draw_keeps_chain : {C : Type 0} (from drawn : ClientPass C) (nonce : List ℕ) (intent : Option Entry) → Notes from drawn (Draw nonce intent) → drawn.chain ≡ from.chain
draw_keeps_chain {C} from drawn nonce intent notes = ap (λ (pass : ClientPass C). pass.chain) notes.noted

module _ {S L C : Type 0} (from drawn to : ClientPass C) (before after : State S L C) (same : drawn.chain ≡ from.chain) where
  pub quiet_since : IsQuiet (record { from = drawn; to = to; before = before; after = after }) → IsQuiet (record { from = from; to = to; before = before; after = after })
  quiet_since quiet = (quiet.0, quiet.1 ∙ same)

  -- a reply whose view the client's chain has
  pub quiet_line : {O : Type 0} (view : List ℕ) (outcome : List (List Member) → O) (act_by : O → Act) (line_by : O → List ℕ) (line : List ℕ)
      → Took (record { from = drawn; to = to; before = before; after = after }) view outcome act_by line_by line → is_known from.chain.configs view ≡ true
      → IsQuiet (record { from = from; to = to; before = before; after = after }) × (line ≡ line_by (outcome from.chain.configs))
  quiet_line view outcome act_by line_by line took known =
      let quiet = quiet_since (took.known (subst (λ (chain : ViewChain). is_known chain.configs view ≡ true) (sym same) known)) in
      (quiet, took.printed ∙ ap (λ (chain : ViewChain). line_by (outcome chain.configs)) quiet.1)

pub stands_in : {X : Type 0} (xs below above : List X) (x : X) → xs ≡ below ++ x ∷ above → Contains xs x
stands_in {X} xs below above x split = subst (λ (l : List X). Contains l x) (sym split) (Contains-append_right below (x ∷ above) x (0, omega arith, refl))

module _ {L C : Type 0} (accepts : C → Accepts) (checks : Accepts) (lv : L → LinkView) (laws : Laws accepts lv) (texts_of : ℕ → List (List ℕ)) (script before after : List Command) (fits : IsRunnable texts_of script)
    (old new : World L C) (known : Known) (place left : ℕ) (tied : IsTied accepts checks lv before old known (left + 1)) where
  abbrev pub Then : Request → List ℕ → Type 0
  Then request line = (line ≡ reply_to_request known request) × IsTied accepts checks lv (before ++ Plain request ∷ []) new (after_request known request) left

  abbrev low : ℕ
  low = tied.service.left - 1

  no_less : (later : Later) → later.left ≡ low → left ≤ later.left
  no_less later is = omega (arith, is, tied.enough)

  -- the client's checker and chain are the coordinator's
  pub same_eyes : {draw : Option Act} (call : ServiceCall) (took : Accepts → Sides LyingStore L C → ServiceAnswer → Type 0) (asked : Asked accepts lv old new place draw call took) (answer : ServiceAnswer)
      → coordinator_says accepts lying_view lv old.state asked.middle call answer
      → (P : Accepts → List (List Member) → Type 0) → P (accepts old.state.checker) asked.middle.chain.configs → P (accepts asked.from.checker) asked.from.chain.configs
  same_eyes call took asked answer says P is =
      let own = tied.clients place asked.from asked.stood in
      let chain = same_chain accepts checks lv laws before old new known left tied asked.middle call answer says in
      subst (λ accepted. P accepted asked.from.chain.configs) (tied.checker ∙ sym own.checker)
      (subst (λ (view : ViewChain). P (accepts old.state.checker) view.configs) (chain ∙ sym own.chain) is)

  -- nothing was appended
  pub stays_tied : (request : Request) → script ≡ before ++ Plain request ∷ after → is_new (Plain request) ≡ false → after_request known request ≡ known
      → {draw : Option Act} (call : ServiceCall) (took : Accepts → Sides LyingStore L C → ServiceAnswer → Type 0) (asked : Asked accepts lv old new place draw call took) (answer : ServiceAnswer)
      → (says : coordinator_says accepts lying_view lv old.state asked.middle call answer) → new.labels ≡ old.labels → new.draws ≡ old.draws + draws_of (Plain request)
      → IsQuiet (record { from = asked.from; to = asked.to; before = asked.middle; after = new.state })
      → (later : Later) → later.left ≡ low → Tells accepts lying_view lv asked.middle (now tied.service later) → StaysCalm tied.service later
      → IsTied accepts checks lv (before ++ Plain request ∷ []) new (after_request known request) left
  stays_tied request split not_new same call took asked answer says labels draws quiet later less tells stays =
      let done = before ++ Plain request ∷ [] in
      let next : ServiceState = record tied.service { bank = later.bank; left = later.left } in
      let ledgers : AreTied done old.labels new.draws tied.service.ledgers known.ledgers =
      same_ledgers texts_of script before after (Plain request) fits split old.labels old.draws tied.service.ledgers known.ledgers tied.ledgers new.draws draws not_new in
      let news : length tied.service.rows ≤ count_by is_new done = omega (arith, tied.room, more_news before (Plain request)) in
      subst (λ then. IsTied accepts checks lv done new then left) (sym same)
      (tied_then accepts checks lv laws before old new known left tied asked.middle place asked.from asked.to asked.stood asked.stands asked.grows asked.first
      (same_checker accepts checks lv laws before old new known left tied asked.middle call answer says) quiet.0 quiet.1
      done next known (laws.stays asked.middle tied.service later tells stays) (still_unbent accepts checks lv laws before old new known left tied asked.middle call answer says)
      (no_less later less) refl refl (subst (λ named. AreTied done named new.draws tied.service.ledgers known.ledgers) (sym labels) ledgers) news)

  -- an entry was appended
  pub grows_tied : (request : Request) (then : Known) (entry : Entry)
      → {draw : Option Act} (call : ServiceCall) (took : Accepts → Sides LyingStore L C → ServiceAnswer → Type 0) (asked : Asked accepts lv old new place draw call took) (answer : ServiceAnswer)
      → (says : coordinator_says accepts lying_view lv old.state asked.middle call answer)
      → IsQuiet (record { from = asked.from; to = asked.to; before = asked.middle; after = new.state })
      → (later : Later) → later.left ≡ low → Tells accepts lying_view lv asked.middle (now tied.service later) → GrowsCalm tied.service entry later
      → AreTied (before ++ Plain request ∷ []) new.labels new.draws (with_next tied.service (handle_of entry) entry later.contents later.bank later.left).ledgers then.ledgers
      → length (with_next tied.service (handle_of entry) entry later.contents later.bank later.left).rows ≤ count_by is_new (before ++ Plain request ∷ [])
      → IsTied accepts checks lv (before ++ Plain request ∷ []) new then left
  grows_tied request then entry call took asked answer says quiet later less tells grows ledgers room =
      tied_then accepts checks lv laws before old new known left tied asked.middle place asked.from asked.to asked.stood asked.stands asked.grows asked.first
      (same_checker accepts checks lv laws before old new known left tied asked.middle call answer says) quiet.0 quiet.1
      (before ++ Plain request ∷ []) (with_next tied.service (handle_of entry) entry later.contents later.bank later.left) then
      (laws.grows asked.middle tied.service entry later tells grows) (still_unbent accepts checks lv laws before old new known left tied asked.middle call answer says)
      (no_less later less) refl refl ledgers room
