-- What it makes of a run that an operation is begun.
use Rattle.std.proofs.Common.{◌≡◌, ℕ, ◌+◌, List, [], ◌∷◌, ◌++◌, Option, Some, None, refl, ap, subst, ◌∙◌}
use Rattle.chain_block.specs.declared.entry.Entry.{Entry}
use Rattle.chain_block.specs.declared.entry.Entry.TheVariants as entries
use Rattle.chain_block.specs.Entry.{bare, handle_of, nonce_of, IsWithinLimits}
use Rattle.blob_store.specs.declared.lying_store.LyingStore.{LyingStore}
use Rattle.client_pass.specs.Act.{Draw}
use Rattle.coordinator.specs.Entries.{first_entry, later_entry}
use Rattle.coordinator.specs.State.{State}
use Rattle.client_acts.specs.ClientActs.{ClientActs}
use Rattle.client_acts.specs.Turns.{turn_of}
use Rattle.port.specs.Link.{LinkView}
use Rattle.roster_bank.specs.Counting.{served_count}
use Rattle.name_map.specs.NameMap.{means, with_name}
use Rattle.script_operations.specs.Operations.{Operations}
use Rattle.script_world.specs.Begun.{BeganAppend, BeganLatest, BeganNew, DrewOf, DrewOnly}
use Rattle.script_world.specs.Labels.{handle_for}
use Rattle.script_world.specs.Nonce.{nonce}
use Rattle.script_world.specs.Running.{Running, world_of}
use Rattle.script_world.proofs.Goes.{value}

pub bare_within : (entry : Entry) → IsWithinLimits entry → IsWithinLimits (bare entry)
bare_within (entries.Genesis nonce payload) within = within
bare_within (entries.Later handle height nonce payload) within = within

module _ {L C : Type 0} (state : State LyingStore L C) (acts after : ClientActs C) (operations begun : Operations) (place : ℕ) where
  drew_only : (ledgers others : List (List ℕ × List ℕ)) (draws more : ℕ) (intent : Option Entry) → DrewOf acts after place (Draw (nonce draws) intent) → more ≡ draws + 1
      → DrewOnly (world_of (value state acts operations ledgers draws)) (world_of (value state after begun others more)) place intent
  drew_only ledgers others draws more intent drew next = record {
    from = drew.0;
    to = drew.1;
    stood = drew.2.stood;
    stands = drew.2.stands;
    drew = drew.3;
    state = refl;
    first = drew.2.first;
    draws = next;
  }

  abbrev pub DrewFor : Entry → Type 0
  DrewFor entry = DrewOf acts after place (Draw (nonce_of entry) (Some (bare entry)))

  pub began_new : (old : Running L C) (ledgers others : List (List ℕ × List ℕ)) (draws more : ℕ) (entry : Entry) (handle label payload : List ℕ)
      → value state acts operations ledgers draws ≡ old → entry ≡ first_entry (nonce draws) payload → DrewFor entry → more ≡ draws + 1
      → handle ≡ handle_of entry → means others ≡ with_name (means ledgers) label handle
      → BeganNew (world_of old) (world_of (value state after begun others more)) place label payload
  began_new old ledgers others draws more entry handle label payload view is drew next has named =
      subst (λ (old : Running L C). BeganNew (world_of old) (world_of (value state after begun others more)) place label payload) view (record {
        drew = drew_only ledgers others draws more (Some (first_entry (nonce draws) payload)) (subst (λ (entry : Entry). DrewFor entry) is drew) next;
        labels = named ∙ ap (λ (handle : List ℕ). with_name (means ledgers) label handle) (has ∙ ap handle_of is);
      })

  pub began_append : (old : Running L C) (ledgers : List (List ℕ × List ℕ)) (draws more : ℕ) (entry : Entry) (handle label : List ℕ) (height : ℕ) (payload : List ℕ)
      → value state acts operations ledgers draws ≡ old → handle ≡ handle_for (means ledgers) label → entry ≡ later_entry handle height (nonce draws) payload → DrewFor entry
      → more ≡ draws + 1
      → BeganAppend (world_of old) (world_of (value state after begun ledgers more)) place label height payload
  began_append old ledgers draws more entry handle label height payload view means_it is drew next =
      let own = is ∙ ap (λ (handle : List ℕ). later_entry handle height (nonce draws) payload) means_it in
      subst (λ (old : Running L C). BeganAppend (world_of old) (world_of (value state after begun ledgers more)) place label height payload) view (record {
        drew = drew_only ledgers ledgers draws more (Some (later_entry (handle_for (means ledgers) label) height (nonce draws) payload)) (subst (λ (entry : Entry). DrewFor entry) own drew) next;
        labels = refl;
      })

  pub began_latest : (old : Running L C) (ledgers : List (List ℕ × List ℕ)) (draws more : ℕ) (drawn : List ℕ)
      → value state acts operations ledgers draws ≡ old → drawn ≡ nonce draws → DrewOf acts after place (Draw drawn None) → more ≡ draws + 1
      → BeganLatest (world_of old) (world_of (value state after begun ledgers more)) place
  began_latest old ledgers draws more drawn view is drew next =
      subst (λ (old : Running L C). BeganLatest (world_of old) (world_of (value state after begun ledgers more)) place) view (record {
        drew = drew_only ledgers ledgers draws more None (subst (λ (drawn : List ℕ). DrewOf acts after place (Draw drawn None)) is drew) next;
        labels = refl;
      })

-- the turn of a beginning's draw, by the run before
module _ {L C : Type 0} (link_view : L → LinkView) (old : Running L C) (state : State LyingStore L C) (acts after : ClientActs C) (operations : Operations) (ledgers : List (List ℕ × List ℕ)) (draws : ℕ)
    (view : value state acts operations ledgers draws ≡ old) where
  pub turn_begun : (place calls : ℕ) → calls ≡ served_count (link_view state.link) → after.turns ≡ acts.turns ++ turn_of place calls 1 ∷ []
      → after.turns ≡ old.turns ++ turn_of place (served_count (link_view old.state.link)) 1 ∷ []
  turn_begun place calls count one =
      subst (λ (old : Running L C). after.turns ≡ old.turns ++ turn_of place (served_count (link_view old.state.link)) 1 ∷ []) view
      (one ∙ ap (λ (n : ℕ). acts.turns ++ turn_of place n 1 ∷ []) count)

-- the entry of a beginning, by the run before
module _ {L C : Type 0} (old : Running L C) (state : State LyingStore L C) (acts : ClientActs C) (operations : Operations) (ledgers : List (List ℕ × List ℕ)) (draws : ℕ) (view : value state acts operations ledgers draws ≡ old) where
  pub bare_first : (entry : Entry) (payload : List ℕ) → entry ≡ first_entry (nonce draws) payload → bare entry ≡ first_entry (nonce old.draws) payload
  bare_first entry payload is = ap bare is ∙ ap (λ (running : Running L C). first_entry (nonce running.draws) payload) view

  pub bare_later : (entry : Entry) (handle label : List ℕ) (height : ℕ) (payload : List ℕ) → handle ≡ handle_for (means ledgers) label → entry ≡ later_entry handle height (nonce draws) payload
      → bare entry ≡ later_entry (handle_for (world_of old).labels label) height (nonce old.draws) payload
  bare_later entry handle label height payload means_it is =
      ap bare is
      ∙ (ap (λ (handle : List ℕ). later_entry handle height (nonce draws) payload) means_it
      ∙ ap (λ (running : Running L C). later_entry (handle_for (world_of running).labels label) height (nonce running.draws) payload) view)
