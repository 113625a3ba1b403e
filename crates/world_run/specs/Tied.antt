-- How a run over a calm service is tied to what is known of it.
use Rattle.std.specs.Prelude.{◌≡◌, ◌⊎◌, ℕ, ◌<◌, ◌≤◌, List, [], ◌∷◌, length, map, slice_get, count_by, Contains, Some, None, is_some, Result, Ok, Err}
use Rattle.sha2.specs.Sha256.{sha256}
use Rattle.chain_block.specs.declared.entry.Entry.{Entry}
use Rattle.chain_block.specs.Entry.{nonce_of}
use Rattle.fault_script.specs.Command.{Command, Genesis}
use Rattle.fault_script.specs.Limits.{is_new}
use Rattle.statement.specs.declared.member.Member.{Member}
use Rattle.port.specs.Cause.{Cause, NoMemory}
use Rattle.port.specs.Link.{LinkView}
use Rattle.port.specs.View.{ViewRow}
use Rattle.blob_store.specs.LyingStore.{lying_view, held_in}
use Rattle.blob_store.specs.TrueStores.{NeitherLiesNorFails}
use Rattle.view_ledger.specs.Receipts.{Accepts}
use Rattle.view_ledger.specs.Views.{ViewChain}
use Rattle.client_pass.specs.ClientPass.{ClientPass}
use Rattle.op_reconf.specs.First.{first_row}
use Rattle.calm.specs.Calm.{ServiceState}
use Rattle.calm.specs.Ledgers.{Ledgers}
use Rattle.calm_first.specs.First.{BeforeFirst}
use Rattle.coordinator.specs.CalmStates.{IsCalmOver}
use Rattle.reply_lines.specs.Causes.{payload_of}
use Rattle.script_world.specs.Labels.{Labels}
use Rattle.script_world.specs.Nonce.{nonce}
use Rattle.script_world.specs.World.{World}
use Rattle.world_run.specs.Plain.{Ledgers as Payloads, Known, nothing, after}
use Rattle.world_run.specs.PlainRun.{draws_in, is_made}
use Rattle.world_run.specs.SetUp.{first_entries}

-- the handle is the digest of a first entry that these lines made
abbrev pub IsFirst : List Command → List ℕ → Type 0
IsFirst before handle = (text : List ℕ) × Contains (first_entries 0 before) text × (handle ≡ sha256 text)

-- the nonce is one of the first ones, so many
abbrev pub IsDrawn : ℕ → List ℕ → Type 0
IsDrawn draws bytes = (number : ℕ) × (number < draws) × (bytes ≡ nonce number)

-- The ledgers of a service after these lines, by the labels that were given to them and the nonces that were drawn, hold the payloads
-- that are known.
pub record AreTied (before : List Command) (labels : Labels) (draws : ℕ) (ledgers : Ledgers) (known : Payloads) : Type 0 where
  -- so many nonces were drawn, and each entry has one of them
  pub drawn : draws ≡ draws_in before
  pub nonces : (handle : List ℕ) (entry : Entry) → Contains (ledgers handle) entry → IsDrawn draws (nonce_of entry)
  -- the labels that were made mean the ledgers of their first entries, each one of its own, and no other ledger has an entry
  pub made : (label : List ℕ) → is_some (labels label) ≡ is_made before label
  pub first : (label handle : List ℕ) → labels label ≡ Some handle → IsFirst before handle
  pub apart : (one other handle : List ℕ) → labels one ≡ Some handle → labels other ≡ Some handle → one ≡ other
  pub stand : (handle : List ℕ) → (ledgers handle ≡ []) ⊎ ((label : List ℕ) × (labels label ≡ Some handle))
  -- the payloads, the oldest first
  pub payloads : (label handle : List ℕ) → labels label ≡ Some handle → map payload_of (ledgers handle) ≡ known label
  pub unmade : (label : List ℕ) → labels label ≡ None → known label ≡ []

-- The client knows the first view, and accepts this.
pub record KnowsFirst {C : Type 0} (accepts : C → Accepts) (checks : Accepts) (first : ViewChain) (client : ClientPass C) : Type 0 where
  pub chain : client.chain ≡ first
  pub checker : accepts client.checker ≡ checks

-- A run of which these lines are done is tied to what is known then.
pub record IsTied {L C : Type 0} (accepts : C → Accepts) (checks : Accepts) (link_view : L → LinkView) (before : List Command) (world : World L C) (known : Known) (left : ℕ) : Type 0 where
  -- its coordinator is calm, over a store that tells no lie and fails no call, and each member has so many stamps and signatures left
  pub service : ServiceState
  pub calm : IsCalmOver accepts lying_view link_view world.state service
  pub unbent : NeitherLiesNorFails (held_in world.state.store)
  pub enough : left ≤ service.left
  -- all accept the same
  pub checker : accepts world.state.checker ≡ checks
  -- there is one view, and all clients know it
  pub config : List Member
  pub one_view : service.configs ≡ config ∷ []
  pub alone : world.first ≡ record { roster = service.roster; configs = service.configs }
  pub clients : (place : ℕ) (client : ClientPass C) → slice_get world.clients place ≡ Some client → KnowsFirst accepts checks world.first client
  -- its ledgers are those that are known, and no more than were made
  pub ledgers : AreTied before world.labels world.draws service.ledgers known.ledgers
  pub room : length service.rows ≤ count_by is_new before

-- the view was answered and the run is tied to what is known after the first line, or memory was wanted
abbrev pub BeginsTied : {L C : Type 0} → (C → Accepts) → (L → LinkView) → World L C → List ℕ → BeforeFirst → Result ViewRow Cause → Type 0
BeginsTied accepts lv world ids first (Ok row) =
    (row ≡ first_row first.config) × IsTied accepts first.accepts lv (Genesis ids ∷ []) world (after nothing (Genesis ids)) first.left
BeginsTied accepts lv world ids first (Err NoMemory) = Unit {0}
BeginsTied accepts lv world ids first (Err cause) = ⊥
