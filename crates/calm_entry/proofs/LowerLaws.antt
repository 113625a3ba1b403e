-- Laws of the crates below, as these proofs use them.
use Rattle.std.specs.Prelude.{◌≡◌, ◌⊎◌, ℕ, ◌+◌, ◌<◌, ◌≤◌, List, [], ◌∷◌, ◌++◌, length, map, take, Option, Some, replicate}
use Rattle.std.specs.List.{AllByRecursion}
use Rattle.chain_block.specs.declared.entry.Entry.{Entry}
use Rattle.sha2.specs.Sha256.{sha256}
use Rattle.statement.specs.declared.member.Member.{Member}
use Rattle.statement.specs.Config.{IsConfig, ids, quorum, weight_together}
use Rattle.statement.specs.Mark.{Content as Mark, id_of}
use Rattle.statement.specs.Receipt.{IsReceipt}
use Rattle.statement.specs.ViewBlock.{view_block_bytes}
use Rattle.port.specs.declared.key.Key.{Key}
use Rattle.port.specs.declared.store_answers.Attached.{Attached}
use Rattle.port.specs.Answer.{Full}
use Rattle.port.specs.Cause.{MemberCause, Cause, Denied}
use Rattle.port.specs.Contents.{Contents}
use Rattle.port.specs.GoodRow.{IsGoodRow}
use Rattle.port.specs.Link.{Bank}
use Rattle.port.specs.Row.{Content}
use Rattle.port.specs.Store.{Attach, WasAttached, IsHonest}
use Rattle.port.specs.Stored.{Stored}
use Rattle.port.specs.Trace.{Event, Had, AreHonest, AreFaithful}
use Rattle.catch_up.specs.Says.{IsRowRefused}
use Rattle.view_ledger.specs.Receipts.{Accepts}
use Rattle.view_ledger.specs.Views.{newest_config, newest_tail}
use Rattle.op_parts.specs.declared.round_refusal.Contention.{Contention}
use Rattle.op_parts.specs.RoundAsking.{Asking}
use Rattle.op_parts.specs.RoundLaws.{IsOwnCall, IsMarkShown}
use Rattle.op_parts.specs.RoundRefusal.{cause_without_quorum}
use Rattle.op_parts.specs.RoundSound.{AreAsked, Sound}
use Rattle.op_parts.specs.RoundState.{State}
use Rattle.op_parts.specs.Walk.{block_tail}
use Rattle.calm.specs.Appending.{AreReady, ReadyRound, RoundHasRoom, RoundIsFull, IsNext, HasRoom, IsFull, IsRefusedByFirst, append_next, receipt_of}
use Rattle.calm.specs.Calm.{ServiceState, IsCalm, newest_block, with_next}
use Rattle.calm.specs.Ledgers.{IsNextEntry, row_above, tail_of}
use Rattle.calm.specs.Members.{Signs}
use Rattle.calm.specs.StandingRows.{StandsAbove}
use Rattle.calm.specs.Storing.{TakesBytes, with_row}

-- lists of calls are cut
pub record CutLaws : Type 0 where
  pub store : (contents after : Contents) (newer older : List Event) → AreHonest contents (newer ++ older) after
      → (middle : Contents) × AreHonest contents older middle × AreHonest middle newer after
  pub link : (signs : Signs) (bank after : Bank) (newer older : List Event) → AreFaithful signs bank (newer ++ older) after
      → (middle : Bank) × AreFaithful signs bank older middle × AreFaithful signs middle newer after

-- ledgers are lists, and what a store gives of them
pub record RowLaws : Type 0 where
  pub at : (entries : List Entry) (height : ℕ) → height < length entries
      → (below : List Entry) × (entry : Entry) × (above : List Entry) × (entries ≡ below ++ entry ∷ above) × (length below ≡ height)
  pub tail : (below : List Entry) (entry : Entry) → tail_of (below ++ entry ∷ []) ≡ block_tail (row_above below entry).metablock
  pub no_tail : tail_of [] ≡ replicate 32 0
  pub kept : (accepts : Accepts) (configs : List (List Member)) (contents after : Contents) (handle : List ℕ) (below : List Entry) (entry : Entry) (event : Event) (cause : Cause)
      → StandsAbove accepts configs contents handle below entry → AreHonest contents (event ∷ []) after → IsRowRefused handle (length below) event cause → ⊥
  pub one : (below : List Entry) (entry : Entry) (handle bytes : List ℕ) (row : Content)
      → IsGoodRow handle (length below) bytes (row_above below entry) → IsGoodRow handle (length below) bytes row → row ≡ row_above below entry
  pub attached : (contents after : Contents) (key : Key) (stored : Stored) (bytes : List ℕ) (answer : Attached)
      → contents key ≡ Some stored → IsHonest contents (Attach key bytes) (WasAttached answer) after → TakesBytes contents key stored bytes answer after

-- the members of a calm service are ready
pub record ReadyLaws : Type 0 where
  pub ready : (service : ServiceState) (ask : Asking) → IsCalm service → ask.members ≡ newest_config service.configs → ask.view ≡ newest_tail service.configs
      → AreReady service.accepts service.signs service.bank (newest_block service.configs) service.rows service.left ask
  pub config : (service : ServiceState) → IsCalm service → IsConfig (newest_config service.configs)
  pub tail : (configs : List (List Member)) → 0 < length configs → newest_tail configs ≡ sha256 (view_block_bytes (newest_block configs))
  pub next : (service : ServiceState) (handle : List ℕ) (entry : Entry) → IsCalm service → IsNextEntry service.ledgers handle entry
      → IsNext service.rows handle (row_above (service.ledgers handle) entry).metablock
  pub room : (service : ServiceState) (handle : List ℕ) → IsCalm service → (0 < length (service.ledgers handle)) ⊎ (length service.rows < 4096)
      → HasRoom service.rows handle
  pub full : (service : ServiceState) (handle : List ℕ) → IsCalm service → length (service.ledgers handle) ≡ 0 → length service.rows ≡ 4096
      → IsFull service.rows handle

-- a round over them gathers all marks, or finds full maps
pub record RoundLaws : Type 0 where
  pub own : (accepts : Accepts) (ask : Asking) (state : State) (past : List Event) → Sound accepts ask state past
      → (event : Event) → Had past event → IsOwnCall ask past event
  pub marks : (accepts : Accepts) (ask : Asking) (state : State) (past : List Event) → Sound accepts ask state past
      → AllByRecursion (IsMarkShown accepts ask past) state.marks
  pub enough : (round : ReadyRound) (state : State) (past : List Event) (after : Bank)
      → RoundHasRoom round → Sound round.accepts round.ask state past → state.asked ≡ length round.ask.members → AreFaithful round.signs round.bank past after
      → quorum round.ask.members ≤ weight_together round.ask.members (map id_of state.marks)
  pub reasons : (round : ReadyRound) (asked : ℕ) (marks : List Mark) (reasons : List (ℕ × MemberCause)) (past : List Event) (after : Bank)
      → RoundIsFull round → AreAsked round.accepts round.ask asked marks reasons past → AreFaithful round.signs round.bank past after
      → reasons ≡ map (λ id. (id, Denied Full)) (take asked (ids round.ask.members))
  pub no_mark : (round : ReadyRound) (asked : ℕ) (marks : List Mark) (reasons : List (ℕ × MemberCause)) (past : List Event) (after : Bank)
      → RoundIsFull round → AreAsked round.accepts round.ask asked marks reasons past → AreFaithful round.signs round.bank past after
      → marks ≡ []
  pub refusal : (round : ReadyRound) (state : State) (past : List Event) (after : Bank)
      → RoundIsFull round → Sound round.accepts round.ask state past → state.asked ≡ length round.ask.members → AreFaithful round.signs round.bank past after
      → (from : ℕ) (higher : Option Contention) → IsRefusedByFirst round.ask.members (cause_without_quorum from (quorum round.ask.members) higher state.reasons)

-- a whole append leaves the service calm
abbrev pub AppendLaw : Type 0
AppendLaw = (service : ServiceState) (left : ℕ) (handle : List ℕ) (entry : Entry) (state : State) (past : List Event) (after : Bank)
    → IsCalm service → service.left ≡ left + 1 → IsNextEntry service.ledgers handle entry → (0 < length (service.ledgers handle)) ⊎ (length service.rows < 4096)
    → let ask = append_next service.configs handle (service.ledgers handle) entry in let receipt = receipt_of ask state.marks in
    Sound service.accepts ask state past → state.asked ≡ length ask.members → AreFaithful service.signs service.bank past after → IsReceipt receipt
    → IsCalm (with_next service handle entry (with_row service.contents handle (service.ledgers handle) entry receipt) after left)
