-- What a coordinator says of its answers, as a client reads it.
use Rattle.std.proofs.Common.{◌≡◌, ℕ, List}
use Rattle.chain_block.specs.declared.entry.Entry.{Entry}
use Rattle.chain_block.specs.Entry.{bare}
use Rattle.port.specs.Cause.{Conflict}
use Rattle.port.specs.Link.{LinkView}
use Rattle.port.specs.Reply.{Standing, LatestReply}
use Rattle.port.specs.Service.{NewLedger, Append, Latest, At, Stood, Replied, Refused}
use Rattle.port.specs.Store.{StoreView}
use Rattle.view_ledger.specs.Receipts.{Accepts}
use Rattle.op_entry.specs.Ask as asks
use Rattle.verifier.specs.Yes.{Stands, IsLatest}
use Rattle.coordinator.specs.Entries.{first_entry, later_entry}
use Rattle.coordinator.specs.Says.{coordinator_says}
use Rattle.coordinator.specs.State.{State}
use Rattle.replies_stand.proofs.Newest.{replied}
use Rattle.replies_stand.proofs.Standings.{StandsFor, stood, stood_instead, stands_for}

module _ {S L C : Type 0} (accepts : C → Accepts) (sv : S → StoreView) (lv : L → LinkView) (old new : State S L C) where
  pub new_stands : (nonce payload : List ℕ) (entry : Entry) (standing : Standing) → coordinator_says accepts sv lv old new (NewLedger nonce payload) (Stood standing)
      → bare entry ≡ first_entry nonce payload → StandsFor (accepts old.checker) new.chain.configs entry standing
  new_stands nonce payload entry standing says is =
      let own = first_entry nonce payload in
      let s = stood (accepts old.checker) (asks.NewLedger own) old.chain new.chain says.events standing says.did in
      stands_for (accepts old.checker) new.chain.configs standing own entry is s.0 s.1

  pub append_stands : (handle : List ℕ) (height : ℕ) (nonce payload : List ℕ) (entry : Entry) (standing : Standing)
      → coordinator_says accepts sv lv old new (Append handle height nonce payload) (Stood standing) → bare entry ≡ later_entry handle height nonce payload
      → StandsFor (accepts old.checker) new.chain.configs entry standing
  append_stands handle height nonce payload entry standing says is =
      let own = later_entry handle height nonce payload in
      let s = stood (accepts old.checker) (asks.AppendEntry own) old.chain new.chain says.events standing says.did in
      stands_for (accepts old.checker) new.chain.configs standing own entry is s.0 s.1

  pub at_stands : (handle : List ℕ) (height : ℕ) (standing : Standing) → coordinator_says accepts sv lv old new (At handle height) (Stood standing)
      → Stands (accepts old.checker) new.chain.configs handle height standing
  at_stands handle height standing says = (stood (accepts old.checker) (asks.ReadAt handle height) old.chain new.chain says.events standing says.did).0

  pub latest_stands : (handle nonce : List ℕ) (reply : LatestReply) → coordinator_says accepts sv lv old new (Latest handle nonce) (Replied reply)
      → (count : ℕ) × IsLatest (accepts old.checker) new.chain.configs handle nonce count reply
  latest_stands handle nonce reply says = replied (accepts old.checker) (record { handle = handle; nonce = nonce }) old.chain new.chain says.events reply says.did

  pub conflict_stands : (handle : List ℕ) (height : ℕ) (nonce payload : List ℕ) (standing : Standing)
      → coordinator_says accepts sv lv old new (Append handle height nonce payload) (Refused (Conflict standing)) → Stands (accepts old.checker) new.chain.configs handle height standing
  conflict_stands handle height nonce payload standing says =
      (stood_instead (accepts old.checker) (asks.AppendEntry (later_entry handle height nonce payload)) old.chain new.chain says.events standing says.did).0

  pub no_conflict : (nonce payload : List ℕ) (standing : Standing) → coordinator_says accepts sv lv old new (NewLedger nonce payload) (Refused (Conflict standing)) → ⊥
  no_conflict nonce payload standing says =
      (stood_instead (accepts old.checker) (asks.NewLedger (first_entry nonce payload)) old.chain new.chain says.events standing says.did).1
