-- Where the outcome of a receipt is the number of a view, the receipt is accepted under it, and the other way round.
use Rattle.std.proofs.Common.{◌≡◌, ℕ, ◌≤◌, List, length, map, not, Bool, true, false, ltb, Option, Some, None, Result, Ok, Err, inl, inr, refl, sym, ap, ◌∙◌}
use Rattle.std.specs.Prelude.{is_none, option_map}
use Rattle.std.specs.List.{AllByRecursion}
use Rattle.std.specs.Option.{option_or, option_map_or}
use Rattle.std.proofs.lemmas.Bool.{cases_Bool, ltb-false, le-ltb}
use Rattle.statement.specs.declared.member.Member.{Member}
use Rattle.statement.specs.Ids.{IsRising, first_fall}
use Rattle.statement.specs.Config.{key_of, weight_together, quorum, IsQuorum}
use Rattle.statement.specs.Statement.{view_of, statement_bytes}
use Rattle.statement.specs.Mark.{Content, id_of}
use Rattle.statement.specs.Receipt.{Receipt}
use Rattle.view_ledger.specs.declared.receipt_fault.ReceiptFault.{ReceiptFault}
use Rattle.view_ledger.specs.declared.receipt_fault.ReceiptFault.TheVariants.{UnknownView, Order, NotMember, BadMark, Few}
use Rattle.view_ledger.specs.Views.{config_at, number_of}
use Rattle.view_ledger.specs.Receipts.{Accepts, IsSigned, IsAcceptedIn, is_signed, first_stranger, first_bad_mark, few, marks_fault, receipt_outcome}
use Rattle.view_ledger.specs.Tails.{newest_below-found}
use Rattle.view_ledger.specs.Firsts.{or_none, none_found, found_none, all_map, rises, no_fall}
use Rattle.view_ledger.specs.Signers.{signed, is_signed-true, are_quorum}

not_false : (b : Bool) → not b ≡ false → b ≡ true
not_false true e = refl
not_false false e = absurd cc

few_none : (got need : ℕ) → few got need ≡ None → need ≤ got
few_none got need e =
    elim (cases_Bool (ltb got need)) [
      | inl less ↦ let never : Some (Few got need) ≡ None = rw less at e in absurd cc
      | inr enough ↦ ltb-false got need enough
    ]

none_few : (got need : ℕ) → need ≤ got → few got need ≡ None
none_few got need le = rw (le-ltb got need le) refl

module _ (accepts : Accepts) (config : List Member) (bytes : List ℕ) (marks : List Content) where
  abbrev Signed : Content → Type 0
  Signed mark = IsSigned accepts config bytes mark.id mark.sig

  pub good : marks_fault accepts config bytes marks ≡ None → IsRising (map id_of marks) × AllByRecursion Signed marks × IsQuorum config (map id_of marks)
  unfolding marks_fault
  good e =
      let a = or_none Order (first_fall None (map id_of marks)) _ e in
      let b = or_none NotMember (first_stranger config marks) _ a.1 in
      let d = or_none BadMark (first_bad_mark accepts config bytes marks) _ b.1 in
      let rising : IsRising (map id_of marks) = rises None (map id_of marks) a.0 in
      let each : AllByRecursion Signed marks =
      all_map (λ mark. not (is_signed accepts config bytes mark.id mark.sig) ≡ false) Signed (λ mark n. signed accepts config bytes mark.id mark.sig (not_false (is_signed accepts config bytes mark.id mark.sig) n)) marks (none_found id_of (λ mark. not (is_signed accepts config bytes mark.id mark.sig)) marks d.0) in
      (rising, each, are_quorum accepts config (λ _. bytes) (λ mark. mark.sig) id_of marks rising each (few_none (weight_together config (map id_of marks)) (quorum config) d.1))

  pub no_fault : IsRising (map id_of marks) → AllByRecursion Signed marks → IsQuorum config (map id_of marks) → marks_fault accepts config bytes marks ≡ None
  unfolding marks_fault
  no_fault rising each enough =
      let a = no_fall None (map id_of marks) rising in
      let b = found_none id_of (λ mark. is_none (key_of config mark.id)) marks (all_map Signed (λ mark. is_none (key_of config mark.id) ≡ false) (λ mark is. rw is.1 refl) marks each) in
      let d = found_none id_of (λ mark. not (is_signed accepts config bytes mark.id mark.sig)) marks (all_map Signed (λ mark. not (is_signed accepts config bytes mark.id mark.sig) ≡ false) (λ mark is. ap not (is_signed-true accepts config bytes mark.id mark.sig is)) marks each) in
      rw (a, b, d) (none_few (weight_together config (map id_of marks)) (quorum config) enough.enough)

or_step : {A : Type 0} (f : A → ReceiptFault) → ((x : A) → f x ≡ UnknownView → ⊥) → (x : Option A) (y : Option ReceiptFault) → (y ≡ Some UnknownView → ⊥) → option_or (option_map f x) y ≡ Some UnknownView → ⊥
or_step f other None y rest e = rest e
or_step f other (Some x) y rest e = let same : f x ≡ UnknownView = cc in other x same

few_known : (got need : ℕ) → few got need ≡ Some UnknownView → ⊥
few_known got need e =
    elim (cases_Bool (ltb got need)) [
      | inl less ↦ let never : Some (Few got need) ≡ Some UnknownView = rw less at e in absurd cc
      | inr enough ↦ let never : ◌≡◌ {A = Option ReceiptFault} None (Some UnknownView) = rw enough at e in absurd cc
    ]

never_unknown : (accepts : Accepts) (config : List Member) (bytes : List ℕ) (marks : List Content) → marks_fault accepts config bytes marks ≡ Some UnknownView → ⊥
unfolding marks_fault
never_unknown accepts config bytes marks e =
    or_step Order (λ x e. absurd cc) (first_fall None (map id_of marks)) _
    (or_step NotMember (λ x e. absurd cc) (first_stranger config marks) _
    (or_step BadMark (λ x e. absurd cc) (first_bad_mark accepts config bytes marks) _
    (few_known (weight_together config (map id_of marks)) (quorum config))))
    e

module _ (accepts : Accepts) (configs : List (List Member)) (receipt : Receipt) where
  abbrev outcome_at : Option ℕ → Result ℕ ReceiptFault
  outcome_at found = option_map_or (λ number. option_map_or Err (marks_fault accepts (config_at configs number) (statement_bytes receipt.statement) receipt.marks) (Ok number)) found (Err UnknownView)

  outcome_is : receipt_outcome accepts configs receipt ≡ outcome_at (number_of configs (view_of receipt.statement))
  unfolding receipt_outcome
  outcome_is = refl

  -- by what the look-up and the marks give
  pub outcome_none : number_of configs (view_of receipt.statement) ≡ None → receipt_outcome accepts configs receipt ≡ Err UnknownView
  outcome_none none = outcome_is ∙ ap outcome_at none

  pub outcome_fault : (number : ℕ) (fault : ReceiptFault) → number_of configs (view_of receipt.statement) ≡ Some number
      → marks_fault accepts (config_at configs number) (statement_bytes receipt.statement) receipt.marks ≡ Some fault → receipt_outcome accepts configs receipt ≡ Err fault
  outcome_fault number fault found e = outcome_is ∙ ap outcome_at found ∙ ap (λ (o : Option ReceiptFault). option_map_or Err o (Ok number)) e

  pub outcome_ok : (number : ℕ) → number_of configs (view_of receipt.statement) ≡ Some number
      → marks_fault accepts (config_at configs number) (statement_bytes receipt.statement) receipt.marks ≡ None → receipt_outcome accepts configs receipt ≡ Ok number
  outcome_ok number found e = outcome_is ∙ ap outcome_at found ∙ ap (λ (o : Option ReceiptFault). option_map_or Err o (Ok number)) e

  ok_at : (number : ℕ) (found : Option ℕ) → outcome_at found ≡ Ok number → (found ≡ Some number) × (marks_fault accepts (config_at configs number) (statement_bytes receipt.statement) receipt.marks ≡ None)
  ok_at number None e = absurd cc
  ok_at number (Some n) e = by_fault (marks_fault accepts (config_at configs n) (statement_bytes receipt.statement) receipt.marks) refl e
    where
      by_fault : (fault : Option ReceiptFault) → marks_fault accepts (config_at configs n) (statement_bytes receipt.statement) receipt.marks ≡ fault → option_map_or Err fault (Ok n) ≡ Ok number
          → (◌≡◌ {A = Option ℕ} (Some n) (Some number)) × (marks_fault accepts (config_at configs number) (statement_bytes receipt.statement) receipt.marks ≡ None)
      by_fault (Some fault) is e = absurd cc
      by_fault None is e =
          let same : n ≡ number = cc in
          (ap (λ (k : ℕ). Some k) same, ap (λ k. marks_fault accepts (config_at configs k) (statement_bytes receipt.statement) receipt.marks) (sym same) ∙ is)

  pub accepted : (number : ℕ) → receipt_outcome accepts configs receipt ≡ Ok number → IsAcceptedIn accepts configs number receipt
  accepted number e =
      let p = ok_at number (number_of configs (view_of receipt.statement)) (sym outcome_is ∙ e) in
      let q = good accepts (config_at configs number) (statement_bytes receipt.statement) receipt.marks p.1 in
      let tail = newest_below-found configs (view_of receipt.statement) (length configs) number p.0 in
      (p.0, record { own_view = sym tail.1; rising = q.0; signed = q.1; enough = q.2 })

  pub accepts_it : (number : ℕ) → IsAcceptedIn accepts configs number receipt → receipt_outcome accepts configs receipt ≡ Ok number
  accepts_it number is =
      outcome_ok number is.0 (no_fault accepts (config_at configs number) (statement_bytes receipt.statement) receipt.marks is.1.rising is.1.signed is.1.enough)

  unknown_at : (found : Option ℕ) → outcome_at found ≡ Err UnknownView → found ≡ None
  unknown_at None e = refl
  unknown_at (Some n) e = absurd (by_fault (marks_fault accepts (config_at configs n) (statement_bytes receipt.statement) receipt.marks) refl e)
    where
      by_fault : (fault : Option ReceiptFault) → marks_fault accepts (config_at configs n) (statement_bytes receipt.statement) receipt.marks ≡ fault → option_map_or Err fault (Ok n) ≡ Err UnknownView → ⊥
      by_fault (Some fault) is e =
          let unknown : fault ≡ UnknownView = cc in never_unknown accepts (config_at configs n) (statement_bytes receipt.statement) receipt.marks (is ∙ ap (λ (f : ReceiptFault). Some f) unknown)
      by_fault None is e = absurd cc

  pub unknown : receipt_outcome accepts configs receipt ≡ Err UnknownView → number_of configs (view_of receipt.statement) ≡ None
  unknown e = unknown_at (number_of configs (view_of receipt.statement)) (sym outcome_is ∙ e)
