-- What a coordinator says of a reply that stands, as a client reads it.
use Rattle.std.proofs.Common.{◌≡◌, ◌⊎◌, inl, inr, ℕ, ◌+◌, List, length, Ok, Err, refl, sym, ap, subst, ◌∙◌}
use Rattle.chain_block.specs.declared.entry.Entry.{Entry}
use Rattle.chain_block.specs.declared.entry.Entry.TheVariants.{Genesis, Later}
use Rattle.chain_block.specs.Entry.{bare, handle_of, height_of}
use Rattle.statement.specs.declared.member.Member.{Member}
use Rattle.statement.specs.declared.statement.Statement.{Statement}
use Rattle.statement.specs.declared.statement.Statement.TheVariants.{Held, Latest, Final}
use Rattle.statement.specs.Statement.{view_of}
use Rattle.port.specs.Cause.{Conflict}
use Rattle.port.specs.GoodRow.{IsRowAt as IsGoodRowAt}
use Rattle.port.specs.Reply.{Standing}
use Rattle.port.specs.Row.{Content}
use Rattle.port.specs.Trace.{Event}
use Rattle.view_ledger.specs.Views.{ViewChain}
use Rattle.view_ledger.specs.Receipts.{Accepts}
use Rattle.op_parts.specs.declared.attachment.Head.{Head}
use Rattle.op_parts.specs.Attachment.{IsHeld}
use Rattle.op_entry.specs.Ask.{Ask, ledger_of, place_of}
use Rattle.op_entry.specs.Says.{IsStanding, HasOwnEntry, HasOtherEntry, Says}
use Rattle.verifier.specs.Yes.{IsRowAt, Stands}
use Rattle.coordinator.specs.Calls.{IsUnbegun}
use Rattle.coordinator.specs.Entries.{EntryServed}

held_is : (head : Head) (statement : Statement) → IsHeld head statement → statement ≡ Held (view_of statement) head.handle head.tail head.count
held_is head (Held view handle tail count) is =
    ap (λ (h : List ℕ). Held view h tail count) is.0 ∙ ap (λ (t : List ℕ). Held view head.handle t count) is.1 ∙ ap (λ (n : ℕ). Held view head.handle head.tail n) is.2
held_is head (Latest view handle tail count nonce) is = absurd is
held_is head (Final view next map) is = absurd is

pub row_at : (handle : List ℕ) (height : ℕ) (row : Content) → IsGoodRowAt handle height row → IsRowAt handle height row
row_at handle height row at = record { entry_handle = at.of_ledger; entry_height = at.of_height; height_is = at.block_height; digest = sym at.of_entry }

stands : (accepts : Accepts) (ask : Ask) (configs : List (List Member)) (past : List Event) (standing : Standing) → IsStanding accepts ask configs past standing
    → Stands accepts configs (ledger_of ask) (place_of ask) standing
stands accepts ask configs past standing is =
    record {
      view = view_of standing.receipt.statement;
      tail = is.tail;
      says = held_is (record { handle = ledger_of ask; tail = is.tail; count = place_of ask + 1 + length standing.chain }) standing.receipt.statement is.accepted.0;
      accepted = is.accepted.1;
      row = row_at (ledger_of ask) (place_of ask) standing.row is.at;
      leads = (is.at.block_height, refl, is.links);
    }

module _ (accepts : Accepts) (ask : Ask) (from chain : ViewChain) (events : List Event) (standing : Standing) where
  pub stood : EntryServed accepts ask from chain events (Ok standing) → Stands accepts chain.configs (ledger_of ask) (place_of ask) standing × HasOwnEntry ask standing.row
  stood served = by_says served.says
    where
      by_says : IsUnbegun events (Ok standing) ⊎ Says accepts ask from chain events (Ok standing) → Stands accepts chain.configs (ledger_of ask) (place_of ask) standing × HasOwnEntry ask standing.row
      by_says (inl never) = absurd never
      by_says (inr says) = (stands accepts ask chain.configs events standing says.0, says.1)

  pub stood_instead : EntryServed accepts ask from chain events (Err (Conflict standing)) → Stands accepts chain.configs (ledger_of ask) (place_of ask) standing × HasOtherEntry ask standing.row
  stood_instead served = by_says served.says
    where
      by_says : IsUnbegun events (Err (Conflict standing)) ⊎ Says accepts ask from chain events (Err (Conflict standing)) → Stands accepts chain.configs (ledger_of ask) (place_of ask) standing × HasOtherEntry ask standing.row
      by_says (inl never) = absurd never
      by_says (inr says) = (stands accepts ask chain.configs events standing says.0, says.1)

-- the reply is one to the entry of the client, which may have room behind its payload
abbrev pub StandsFor : Accepts → List (List Member) → Entry → Standing → Type 0
StandsFor accepts configs entry standing = Stands accepts configs (handle_of entry) (height_of entry) standing × (bare entry ≡ standing.row.entry)

module _ (accepts : Accepts) (configs : List (List Member)) (standing : Standing) where
  with_room : (entry : Entry) → Stands accepts configs (handle_of (bare entry)) (height_of (bare entry)) standing → Stands accepts configs (handle_of entry) (height_of entry) standing
  with_room (Genesis nonce payload) is = is
  with_room (Later handle height nonce payload) is = is

  pub stands_for : (own entry : Entry) → bare entry ≡ own → Stands accepts configs (handle_of own) (height_of own) standing → standing.row.entry ≡ own → StandsFor accepts configs entry standing
  stands_for own entry is at has = (with_room entry (subst (λ (e : Entry). Stands accepts configs (handle_of e) (height_of e) standing) (sym is) at), is ∙ sym has)
