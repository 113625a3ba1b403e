-- What lines that are done at once make of a run.
use Rattle.std.proofs.Common.{◌≡◌, ℕ, ◌+◌, List, Option, Some, None, refl, ap, subst, ◌∙◌}
use Rattle.chain_block.specs.declared.entry.Entry.{Entry}
use Rattle.chain_block.specs.Entry.{bare, handle_of, nonce_of}
use Rattle.blob_store.specs.declared.lying_store.LyingStore.{LyingStore}
use Rattle.port.specs.Link.{LinkView}
use Rattle.port.specs.Service.{ServiceCall, Latest, At, ServiceAnswer}
use Rattle.view_ledger.specs.Receipts.{Accepts}
use Rattle.client_pass.specs.Act.{Act, Draw}
use Rattle.coordinator.specs.Entries.{first_entry, later_entry}
use Rattle.coordinator.specs.State.{State}
use Rattle.client_acts.specs.ClientActs.{ClientActs}
use Rattle.name_map.specs.NameMap.{means, with_name}
use Rattle.answer_lines.specs.Asking.{call_for}
use Rattle.answer_lines.specs.Taken.{Sides, TookAt, TookLatest, TookOwn}
use Rattle.script_operations.specs.Operations.{Operations}
use Rattle.script_world.specs.Labels.{handle_for}
use Rattle.script_world.specs.Lines.{Appended, Asked, MadeLedger, ReadHeight, ReadNewest}
use Rattle.script_world.specs.Nonce.{nonce}
use Rattle.script_world.specs.Running.{Running, seen, world_of}
use Rattle.script_world.proofs.Goes.{value}

module _ {L C : Type 0} (accepts : C → Accepts) (link_view : L → LinkView) (state later : State LyingStore L C) (acts after : ClientActs C) (operations : Operations) (place : ℕ) where
  -- what else there is of a run doesn't matter
  asked_over : (ledgers others : List (List ℕ × List ℕ)) (draws more : ℕ) (draw : Option Act) (call : ServiceCall) (took : Accepts → Sides LyingStore L C → ServiceAnswer → Type 0)
      → Asked accepts link_view (seen state acts) (seen later after) place draw call took
      → Asked accepts link_view (world_of (value state acts operations ledgers draws)) (world_of (value later after operations others more)) place draw call took
  asked_over ledgers others draws more draw call took asked = record {
    middle = asked.middle;
    answer = asked.answer;
    says = asked.says;
    from = asked.from;
    drawn = asked.drawn;
    to = asked.to;
    stood = asked.stood;
    stands = asked.stands;
    drew = asked.drew;
    grows = asked.grows;
    taken = asked.taken;
    learned = asked.learned;
    turns = asked.turns;
    first = asked.first;
  }

  -- the entry was asked for
  abbrev pub AskedForEntry : Entry → List ℕ → List ℕ → Type 0
  AskedForEntry entry label line = Asked accepts link_view (seen state acts) (seen later after) place (Some (Draw (nonce_of entry) (Some (bare entry)))) (call_for entry)
      (λ checks sides answer. TookOwn checks sides label (bare entry) answer line)

  pub made_ledger : (old : Running L C) (ledgers others : List (List ℕ × List ℕ)) (draws more : ℕ) (entry : Entry) (handle label payload line : List ℕ)
      → value state acts operations ledgers draws ≡ old → entry ≡ first_entry (nonce draws) payload → AskedForEntry entry label line
      → more ≡ draws + 1 → handle ≡ handle_of entry → means others ≡ with_name (means ledgers) label handle
      → MadeLedger accepts link_view (world_of old) (world_of (value later after operations others more)) place label payload line
  made_ledger old ledgers others draws more entry handle label payload line view is asked next has named =
      subst (λ (old : Running L C). MadeLedger accepts link_view (world_of old) (world_of (value later after operations others more)) place label payload line) view (record {
        asked = asked_over ledgers others draws more _ _ (λ checks sides answer. TookOwn checks sides label (first_entry (nonce draws) payload) answer line)
            (subst (λ (entry : Entry). AskedForEntry entry label line) is asked);
        draws = next;
        labels = named ∙ ap (λ (handle : List ℕ). with_name (means ledgers) label handle) (has ∙ ap handle_of is);
      })

  pub appended : (old : Running L C) (ledgers : List (List ℕ × List ℕ)) (draws more : ℕ) (entry : Entry) (handle label : List ℕ) (height : ℕ) (payload line : List ℕ)
      → value state acts operations ledgers draws ≡ old → handle ≡ handle_for (means ledgers) label → entry ≡ later_entry handle height (nonce draws) payload → AskedForEntry entry label line
      → more ≡ draws + 1
      → Appended accepts link_view (world_of old) (world_of (value later after operations ledgers more)) place label height payload line
  appended old ledgers draws more entry handle label height payload line view means_it is asked next =
      let own = is ∙ ap (λ (handle : List ℕ). later_entry handle height (nonce draws) payload) means_it in
      subst (λ (old : Running L C). Appended accepts link_view (world_of old) (world_of (value later after operations ledgers more)) place label height payload line) view (record {
        asked = asked_over ledgers ledgers draws more _ _ (λ checks sides answer. TookOwn checks sides label (later_entry (handle_for (means ledgers) label) height (nonce draws) payload) answer line)
            (subst (λ (entry : Entry). AskedForEntry entry label line) own asked);
        draws = next;
        labels = refl;
      })

  abbrev pub AskedForNewest : List ℕ → List ℕ → List ℕ → List ℕ → Type 0
  AskedForNewest handle drawn label line = Asked accepts link_view (seen state acts) (seen later after) place (Some (Draw drawn None)) (Latest handle drawn)
      (λ checks sides answer. TookLatest checks sides label handle drawn answer line)

  pub read_newest : (old : Running L C) (ledgers : List (List ℕ × List ℕ)) (draws more : ℕ) (handle drawn label line : List ℕ)
      → value state acts operations ledgers draws ≡ old → handle ≡ handle_for (means ledgers) label → drawn ≡ nonce draws → AskedForNewest handle drawn label line
      → more ≡ draws + 1
      → ReadNewest accepts link_view (world_of old) (world_of (value later after operations ledgers more)) place label line
  read_newest old ledgers draws more handle drawn label line view means_it is asked next =
      subst (λ (old : Running L C). ReadNewest accepts link_view (world_of old) (world_of (value later after operations ledgers more)) place label line) view (record {
        asked = asked_over ledgers ledgers draws more _ _ (λ checks sides answer. TookLatest checks sides label (handle_for (means ledgers) label) (nonce draws) answer line)
            (subst (λ (drawn : List ℕ). AskedForNewest (handle_for (means ledgers) label) drawn label line) is
            (subst (λ (handle : List ℕ). AskedForNewest handle drawn label line) means_it asked));
        draws = next;
        labels = refl;
      })

  abbrev pub AskedForRow : List ℕ → ℕ → List ℕ → List ℕ → Type 0
  AskedForRow handle height label line = Asked accepts link_view (seen state acts) (seen later after) place None (At handle height)
      (λ checks sides answer. TookAt checks sides label handle height answer line)

  pub read_height : (old : Running L C) (ledgers : List (List ℕ × List ℕ)) (draws : ℕ) (handle label : List ℕ) (height : ℕ) (line : List ℕ)
      → value state acts operations ledgers draws ≡ old → handle ≡ handle_for (means ledgers) label → AskedForRow handle height label line
      → ReadHeight accepts link_view (world_of old) (world_of (value later after operations ledgers draws)) place label height line
  read_height old ledgers draws handle label height line view means_it asked =
      subst (λ (old : Running L C). ReadHeight accepts link_view (world_of old) (world_of (value later after operations ledgers draws)) place label height line) view (record {
        asked = asked_over ledgers ledgers draws draws _ _ (λ checks sides answer. TookAt checks sides label (handle_for (means ledgers) label) height answer line)
            (subst (λ (handle : List ℕ). AskedForRow handle height label line) means_it asked);
        draws = refl;
        labels = refl;
      })
