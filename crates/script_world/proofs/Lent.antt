-- A store or a link of a run that is lent for a call.
use Rattle.std.proofs.Common.{◌≡◌, ℕ, List, Option, Some, None, IfSome, Result, Ok, refl, sym, ap, subst, ◌∙◌}
use Rattle.blob_store.specs.declared.lying_store.LyingStore.{LyingStore}
use Rattle.chain_block.specs.declared.entry.Entry.{Entry}
use Rattle.chain_block.specs.Entry.{entry_digest}
use Rattle.nim_base.specs.Text.{Content as TextContent}
use Rattle.nim_base.specs.declared.no_memory.NoMemory.{NoMemory}
use Rattle.port.specs.declared.endorser_answer.EndorserAnswer.{EndorserAnswer}
use Rattle.port.specs.Answer.{answer_of}
use Rattle.port.specs.Call.{Append, Call}
use Rattle.coordinator.specs.Entries.{later_entry}
use Rattle.coordinator.specs.State.{State}
use Rattle.client_acts.specs.ClientActs.{ClientActs}
use Rattle.endorser_cell.specs.Asking.{IsRaw}
use Rattle.endorser_cell.specs.CellBank.{CellBank}
use Rattle.endorser_cell.specs.Cells.{cell_of}
use Rattle.endorser_cell.specs.EndorserCell.{EndorserCell}
use Rattle.name_map.specs.NameMap.{means}
use Rattle.reply_lines.specs.Lines.{raw_line}
use Rattle.script_operations.specs.Operations.{Operations}
use Rattle.script_world.specs.Labels.{handle_for}
use Rattle.script_world.specs.Nonce.{nonce}
use Rattle.script_world.specs.Raw.{AnsweredRaw, AppendedRaw, IsPrevFor, IsPrevOf, OnlyLink, OnlyStore}
use Rattle.script_world.specs.Running.{Running, acts_of, world_of}
use Rattle.script_world.proofs.Goes.{value}

module _ {L C : Type 0} (old : Running L C) (state : State LyingStore L C) (acts : ClientActs C) (operations : Operations) (ledgers : List (List ℕ × List ℕ)) (draws : ℕ) (view : value state acts operations ledgers draws ≡ old) where
  pub state_is : state ≡ old.state
  state_is = ap (λ (running : Running L C). running.state) view

  pub acts_are : acts ≡ acts_of old
  acts_are = ap acts_of view

  pub names_are : acts.names ≡ old.names
  names_are = ap (λ (running : Running L C). running.names) view

  pub turns_are : acts.turns ≡ old.turns
  turns_are = ap (λ (running : Running L C). running.turns) view

  pub operations_are : operations ≡ old.operations
  operations_are = ap (λ (running : Running L C). running.operations) view

  pub ledgers_are : ledgers ≡ old.ledgers
  ledgers_are = ap (λ (running : Running L C). running.ledgers) view

  pub draws_are : draws ≡ old.draws
  draws_are = ap (λ (running : Running L C). running.draws) view

  pub only_state : (later : State LyingStore L C) → value later acts operations ledgers draws ≡ record old { state = later }
  only_state later = ap (λ (running : Running L C). record running { state = later }) view

  pub only_operations : (begun : Operations) → value state acts begun ledgers draws ≡ record old { operations = begun }
  only_operations begun = ap (λ (running : Running L C). record running { operations = begun }) view

  pub only_run : (later : State LyingStore L C) (begun : Operations) → value later acts begun ledgers draws ≡ record old { state = later; operations = begun }
  only_run later begun = ap (λ (running : Running L C). record running { state = later; operations = begun }) view

  pub only_link : (link : L) → OnlyLink old (value (record state { link = link }) acts operations ledgers draws)
  only_link link = subst (λ (old : Running L C). OnlyLink old (value (record state { link = link }) acts operations ledgers draws)) view refl

  pub was_link : (link : L) → link ≡ state.link → link ≡ old.state.link
  was_link link is = is ∙ ap (λ (running : Running L C). running.state.link) view

  pub was_store : (store : LyingStore) → store ≡ state.store → store ≡ old.state.store
  was_store store is = is ∙ ap (λ (running : Running L C). running.state.store) view

  pub only_store : (store : LyingStore) → OnlyStore old (value (record state { store = store }) acts operations ledgers draws)
  only_store store = subst (λ (old : Running L C). OnlyStore old (value (record state { store = store }) acts operations ledgers draws)) view refl

module _ {S C : Type 0} (key : S → List ℕ) (left size : S → ℕ) (signs : S → List ℕ → List ℕ → S → Type 0) (fit : S → C → Type 0) (old new : CellBank S C) where
  pub answered_raw : (id : ℕ) (call : Call) (result : Option (Result EndorserAnswer NoMemory)) (asked : Result EndorserAnswer NoMemory) (answer : EndorserAnswer) (line : List ℕ)
      → IsRaw key left size signs fit old.cells new.cells old.log new.log id call result → result ≡ Some asked → asked ≡ Ok answer → line ≡ raw_line (answer_of answer)
      → AnsweredRaw key left size signs fit old new id call line
  answered_raw id call result asked answer line raw some ok printed = record {
    answer = answer_of answer;
    asks = subst (λ (r : Option (Result EndorserAnswer NoMemory)). IsRaw key left size signs fit old.cells new.cells old.log new.log id call r) (some ∙ ap (λ (r : Result EndorserAnswer NoMemory). Some r) ok) raw;
    printed = printed;
  }

-- the tail on which a direct append builds, where the cell was found
pub prev_found : {S C : Type 0} (state : State LyingStore (CellBank S C) C) (bank : CellBank S C) (store : LyingStore) (found : Option (EndorserCell S C)) (cell : EndorserCell S C) (id : ℕ) (handle : List ℕ) (height : ℕ) (prev : List ℕ)
    → bank ≡ state.link → store ≡ state.store → found ≡ cell_of bank.cells id → found ≡ Some cell → IsPrevOf store cell handle height prev
    → IsPrevFor state id handle height prev
prev_found {S} {C} state bank store found cell id handle height prev link_is store_is found_is some above = (
  cell,
  sym (ap (λ (bank : CellBank S C). cell_of bank.cells id) link_is) ∙ sym found_is ∙ some,
  subst (λ (store : LyingStore). IsPrevOf store cell handle height prev) store_is above,
)

module _ {S C : Type 0} (key : S → List ℕ) (left size : S → ℕ) (signs : S → List ℕ → List ℕ → S → Type 0) (fit : S → C → Type 0) (old : Running (CellBank S C) C) (lent new : CellBank S C) (id : ℕ) where
  abbrev pub Raw : CellBank S C → Call → List ℕ → Type 0
  Raw bank call line = AnsweredRaw key left size signs fit bank new id call line

  -- what was answered, by the run before
  pub raw_seen : (call asked : Call) (line : Option TextContent) → lent ≡ old.state.link → call ≡ asked
      → IfSome line (λ line. Raw lent call line.bytes) → IfSome line (λ line. Raw old.state.link asked line.bytes)
  raw_seen call asked line was is raw =
      subst (λ (call : Call). IfSome line (λ line. Raw old.state.link call line.bytes)) is
      (subst (λ (bank : CellBank S C). IfSome line (λ line. Raw bank call line.bytes)) was raw)

  pub appended_raw : (state : State LyingStore (CellBank S C) C) (acts : ClientActs C) (operations : Operations) (ledgers : List (List ℕ × List ℕ)) (draws : ℕ)
      (handle label : List ℕ) (height number : ℕ) (payload prev digest : List ℕ) (entry : Entry) (line : Option TextContent)
      → value state acts operations ledgers draws ≡ old → handle ≡ handle_for (means ledgers) label → IsPrevFor state id handle height prev → lent ≡ state.link
      → entry ≡ later_entry handle height (nonce number) payload → digest ≡ entry_digest entry
      → IfSome line (λ line. Raw lent (Append handle prev digest height) line.bytes)
      → IfSome line (λ line. AppendedRaw key left size signs fit old.state new id (handle_for (world_of old).labels label) height (nonce number) payload line.bytes)
  appended_raw state acts operations ledgers draws handle label height number payload prev digest entry None view means_it above was is has raw = tt
  appended_raw state acts operations ledgers draws handle label height number payload prev digest entry (Some line) view means_it above was is has raw =
      let whole : AppendedRaw key left size signs fit state new id handle height (nonce number) payload line.bytes = record {
        prev = prev;
        above = above;
        answered = subst (λ (digest : List ℕ). Raw state.link (Append handle prev digest height) line.bytes) (has ∙ ap entry_digest is)
            (subst (λ (bank : CellBank S C). Raw bank (Append handle prev digest height) line.bytes) was raw);
      } in
      subst (λ (running : Running (CellBank S C) C). AppendedRaw key left size signs fit running.state new id (handle_for (world_of running).labels label) height (nonce number) payload line.bytes) view
      (subst (λ (handle : List ℕ). AppendedRaw key left size signs fit state new id handle height (nonce number) payload line.bytes) means_it whole)
