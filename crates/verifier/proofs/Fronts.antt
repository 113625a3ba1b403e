-- What a chain that has the first of another's views makes of a reply.
use Rattle.std.proofs.Common.{◌≡◌, ℕ, zero, suc, ◌+◌, ◌<◌, ◌≤◌, List, [], ◌++◌, length, true, false, Option, Some, None, Ok, Err, inl, inr, refl, sym, ap, subst, ◌∙◌, arith}
use Rattle.std.specs.Prelude.{is_some}
use Rattle.std.specs.Option.{option_map_or}
use Rattle.std.specs.Str.{bytes_eq}
use Rattle.std.proofs.lemmas.Bool.{cases_Bool, cases_lt}
use Rattle.std.proofs.lemmas.List.{get_or_append_left, take-append-le, length-append}
use Rattle.std.proofs.lemmas.Slice.Eq.{bytes_eq-Decides}
use Rattle.chain_block.specs.declared.entry.Entry.{Entry}
use Rattle.statement.specs.declared.member.Member.{Member}
use Rattle.statement.specs.declared.statement.Statement.{Statement}
use Rattle.statement.specs.declared.statement.Statement.TheVariants.{Held, Latest, Final}
use Rattle.statement.specs.Statement.{view_of, statement_bytes}
use Rattle.statement.specs.Receipt.{Receipt}
use Rattle.port.specs.Reply.{Standing, LatestReply}
use Rattle.view_ledger.specs.Views.{newest_tail, tail_at, config_at, newest_below, number_of}
use Rattle.view_ledger.specs.Receipts.{Accepts, marks_fault, receipt_outcome}
use Rattle.view_ledger.specs.Tails.{newest_below-found}
use Rattle.verifier.specs.declared.reply_fault.ReplyFault.TheVariants.{UnknownView}
use Rattle.verifier.specs.Fronts.{AreFirstOf, HaveOwnTails}
use Rattle.verifier.specs.Outcomes.{is_known, standing_fault, latest_by}

-- the one view that has a tail is found
module _ (configs : List (List Member)) (tail : List ℕ) (own : HaveOwnTails configs) (m : ℕ) (below : m < length configs) (is : tail_at configs m ≡ tail) where
  further : (n : ℕ) → m < suc n → bytes_eq (tail_at configs n) tail ≡ false → m < n
  further n less other =
      elim (cases_lt m n) [
        | inl lt ↦ lt
        | inr le ↦
            let same : m ≡ n = omega (arith, less, le) in
            let hit : bytes_eq (tail_at configs n) tail ≡ true = (bytes_eq-Decides (tail_at configs n) tail).1 (ap (tail_at configs) (sym same) ∙ is) in absurd (cc (hit, other))
      ]

  found_alone : (n : ℕ) → m < n → n ≤ length configs → newest_below configs tail n ≡ Some m
  unfolding newest_below
  found_alone zero less within = absurd (omega (arith, less))
  found_alone (suc n) less within =
      elim (cases_Bool (bytes_eq (tail_at configs n) tail)) [
        | inl same ↦
            let here : n ≡ m = own n m (omega (arith, within)) below ((bytes_eq-Decides (tail_at configs n) tail).0 same ∙ sym is) in
            rw same (ap (λ (k : ℕ). Some k) here)
        | inr other ↦ rw other (found_alone n (further n less other) (omega (arith, within)))
      ]

module _ (front rest : List (List Member)) (m : ℕ) (below : m < length front) where
  tail_alike : tail_at (front ++ rest) m ≡ tail_at front m
  tail_alike = ap newest_tail (take-append-le (m + 1) front rest (omega (arith, below)))

  config_alike : config_at (front ++ rest) m ≡ config_at front m
  config_alike = get_or_append_left front rest [] m below

  longer : m < length (front ++ rest)
  longer = omega (arith, below, length-append front rest)

-- what is known in the front is known by the same number
number_alike : (front rest : List (List Member)) (view : List ℕ) (m : ℕ) → HaveOwnTails (front ++ rest) → number_of front view ≡ Some m → number_of (front ++ rest) view ≡ Some m
number_alike front rest view m own found =
    let at = newest_below-found front view (length front) m found in
    let all = longer front rest m at.0 in
    found_alone (front ++ rest) view own m all (tail_alike front rest m at.0 ∙ at.1) (length (front ++ rest)) all (omega arith)

outcome_at : (accepts : Accepts) (configs : List (List Member)) (receipt : Receipt) (m : ℕ) → number_of configs (view_of receipt.statement) ≡ Some m
    → receipt_outcome accepts configs receipt ≡ option_map_or Err (marks_fault accepts (config_at configs m) (statement_bytes receipt.statement) receipt.marks) (Ok m)
unfolding receipt_outcome
outcome_at accepts configs receipt m found = rw found refl

outcome_alike : (accepts : Accepts) (front rest : List (List Member)) (receipt : Receipt) (m : ℕ) → HaveOwnTails (front ++ rest) → number_of front (view_of receipt.statement) ≡ Some m
    → receipt_outcome accepts front receipt ≡ receipt_outcome accepts (front ++ rest) receipt
outcome_alike accepts front rest receipt m own found =
    let at = newest_below-found front (view_of receipt.statement) (length front) m found in
    outcome_at accepts front receipt m found
    ∙ ap (λ (c : List Member). option_map_or Err (marks_fault accepts c (statement_bytes receipt.statement) receipt.marks) (Ok m)) (sym (config_alike front rest m at.0))
    ∙ sym (outcome_at accepts (front ++ rest) receipt m (number_alike front rest (view_of receipt.statement) m own found))

-- both know the view of the receipt, and make the same of it
pub record Alike (accepts : Accepts) (front configs : List (List Member)) (receipt : Receipt) : Type 0 where
  pub knows : is_known front (view_of receipt.statement) ≡ is_known configs (view_of receipt.statement)
  pub outcome : receipt_outcome accepts front receipt ≡ receipt_outcome accepts configs receipt

alike_by : (accepts : Accepts) (front rest : List (List Member)) (receipt : Receipt) → HaveOwnTails (front ++ rest) → (found : Option ℕ) → number_of front (view_of receipt.statement) ≡ found
    → is_some found ≡ true → Alike accepts front (front ++ rest) receipt
alike_by accepts front rest receipt own None found known = absurd cc
alike_by accepts front rest receipt own (Some m) found known =
    record {
      knows = ap (λ (n : Option ℕ). is_some n) (found ∙ sym (number_alike front rest (view_of receipt.statement) m own found));
      outcome = outcome_alike accepts front rest receipt m own found;
    }

pub alike : (accepts : Accepts) (front configs : List (List Member)) (receipt : Receipt) → AreFirstOf front configs → HaveOwnTails configs → is_known front (view_of receipt.statement) ≡ true
    → Alike accepts front configs receipt
alike accepts front configs receipt first own known =
    subst (λ (c : List (List Member)). Alike accepts front c receipt) (sym first.1)
    (alike_by accepts front first.0 receipt (subst (λ (c : List (List Member)). HaveOwnTails c) first.1 own) (number_of front (view_of receipt.statement)) refl known)

-- the same of a reply
module _ (accepts : Accepts) (front configs : List (List Member)) (asked : List ℕ) where
  by_statement : (height : ℕ) (own : Option Entry) (reply : Standing) (statement : Statement) → is_known front (view_of statement) ≡ is_known configs (view_of statement)
      → receipt_outcome accepts front reply.receipt ≡ receipt_outcome accepts configs reply.receipt → standing_fault accepts front asked height own reply statement ≡ standing_fault accepts configs asked height own reply statement
  by_statement height own reply (Held view handle tail count) knows same = rw (knows, same) refl
  by_statement height own reply (Latest view handle tail count nonce) knows same = refl
  by_statement height own reply (Final view next map) knows same = refl

  pub standing_alike : (height : ℕ) (own : Option Entry) (reply : Standing) → Alike accepts front configs reply.receipt
      → standing_fault accepts front asked height own reply reply.receipt.statement ≡ standing_fault accepts configs asked height own reply reply.receipt.statement
  standing_alike height own reply is = by_statement height own reply reply.receipt.statement is.knows is.outcome

  by_latest : (nonce : List ℕ) (reply : LatestReply) (statement : Statement) → is_known front (view_of statement) ≡ is_known configs (view_of statement)
      → receipt_outcome accepts front reply.receipt ≡ receipt_outcome accepts configs reply.receipt → latest_by accepts front asked nonce reply statement ≡ latest_by accepts configs asked nonce reply statement
  by_latest nonce reply (Held view handle tail count) knows same = refl
  by_latest nonce reply (Latest view handle tail count own) knows same = rw (knows, same) refl
  by_latest nonce reply (Final view next map) knows same = refl

  pub latest_alike : (nonce : List ℕ) (reply : LatestReply) → Alike accepts front configs reply.receipt
      → latest_by accepts front asked nonce reply reply.receipt.statement ≡ latest_by accepts configs asked nonce reply reply.receipt.statement
  latest_alike nonce reply is = by_latest nonce reply reply.receipt.statement is.knows is.outcome

-- a view that isn't known
module _ (accepts : Accepts) (front : List (List Member)) (asked view handle tail : List ℕ) (count : ℕ) (strange : is_known front view ≡ false) where
  pub standing_unknown : (height : ℕ) (own : Option Entry) (reply : Standing) (statement : Statement) → statement ≡ Held view handle tail count
      → standing_fault accepts front asked height own reply statement ≡ Some UnknownView
  standing_unknown height own reply statement is = ap (standing_fault accepts front asked height own reply) is ∙ rw strange refl

  pub latest_unknown : (asked_nonce nonce : List ℕ) (reply : LatestReply) (statement : Statement) → statement ≡ Latest view handle tail count nonce
      → latest_by accepts front asked asked_nonce reply statement ≡ Err UnknownView
  latest_unknown asked_nonce nonce reply statement is = ap (latest_by accepts front asked asked_nonce reply) is ∙ rw strange refl
