-- A reply that is accepted has a view that the chain has.
use Rattle.std.proofs.Common.{◌≡◌, ℕ, Bool, true, false, cond, List, Option, Some, None, Result, Ok, Err, refl}
use Rattle.std.specs.Option.{option_or}
use Rattle.std.specs.Prelude.{IsOk}
use Rattle.chain_block.specs.declared.entry.Entry.{Entry}
use Rattle.chain_block.specs.Entry.{handle_of, height_of}
use Rattle.statement.specs.declared.member.Member.{Member}
use Rattle.statement.specs.declared.statement.Statement.{Statement}
use Rattle.statement.specs.declared.statement.Statement.TheVariants.{Held, Latest, Final}
use Rattle.statement.specs.Statement.{view_of}
use Rattle.port.specs.Reply.{Standing, LatestReply}
use Rattle.view_ledger.specs.Receipts.{Accepts}
use Rattle.verifier.specs.declared.reply_fault.ReplyFault.{ReplyFault}
use Rattle.verifier.specs.Outcomes.{append_outcome, at_outcome, latest_outcome, latest_by, standing_fault, is_known, unless}

none_first : {X : Type 0} → (one other : Option X) → option_or one other ≡ None → one ≡ None
none_first None other e = refl
none_first (Some x) other e = absurd cc

passed : {X : Type 0} → (test : Bool) (rest : Option X) (fault : X) → cond test rest (Some fault) ≡ None → test ≡ true
passed true rest fault e = refl
passed false rest fault e = absurd cc

no_fault : {X : Type 0} → (fault : Option ReplyFault) (value count : X) → unless fault value ≡ Ok count → fault ≡ None
no_fault None value count e = refl
no_fault (Some fault) value count e = absurd cc

standing_known : (accepts : Accepts) (configs : List (List Member)) (asked : List ℕ) (height : ℕ) (own : Option Entry) (reply : Standing) (statement : Statement)
    → standing_fault accepts configs asked height own reply statement ≡ None → is_known configs (view_of statement) ≡ true
standing_known accepts configs asked height own reply (Held view handle tail count) e = passed (is_known configs view) _ _ (none_first _ _ e)
standing_known accepts configs asked height own reply (Latest view handle tail count nonce) e = absurd cc
standing_known accepts configs asked height own reply (Final view next map) e = absurd cc

pub append_known : (accepts : Accepts) (configs : List (List Member)) (own : Entry) (reply : Standing) → append_outcome accepts configs own reply ≡ None
    → is_known configs (view_of reply.receipt.statement) ≡ true
unfolding append_outcome
append_known accepts configs own reply e = standing_known accepts configs (handle_of own) (height_of own) (Some own) reply reply.receipt.statement e

pub at_known : (accepts : Accepts) (configs : List (List Member)) (handle : List ℕ) (height : ℕ) (reply : Standing) → at_outcome accepts configs handle height reply ≡ None
    → is_known configs (view_of reply.receipt.statement) ≡ true
unfolding at_outcome
at_known accepts configs handle height reply e = standing_known accepts configs handle height None reply reply.receipt.statement e

latest_view : (accepts : Accepts) (configs : List (List Member)) (handle nonce : List ℕ) (reply : LatestReply) (statement : Statement) (count : ℕ)
    → latest_by accepts configs handle nonce reply statement ≡ Ok count → is_known configs (view_of statement) ≡ true
latest_view accepts configs handle nonce reply (Latest view own tail number other) count e = passed (is_known configs view) _ _ (none_first _ _ (no_fault _ number count e))
latest_view accepts configs handle nonce reply (Held view own tail number) count e = absurd cc
latest_view accepts configs handle nonce reply (Final view next map) count e = absurd cc

pub latest_known : (accepts : Accepts) (configs : List (List Member)) (handle nonce : List ℕ) (reply : LatestReply) (count : ℕ) → latest_outcome accepts configs handle nonce reply ≡ Ok count
    → is_known configs (view_of reply.receipt.statement) ≡ true
unfolding latest_outcome
latest_known accepts configs handle nonce reply count e = latest_view accepts configs handle nonce reply reply.receipt.statement count e

pub count_of : (outcome : Result ℕ ReplyFault) → IsOk outcome → (count : ℕ) × (outcome ≡ Ok count)
count_of (Ok count) ok = (count, refl)
count_of (Err fault) ok = absurd cc
