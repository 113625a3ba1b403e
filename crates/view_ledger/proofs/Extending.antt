-- When a view follows, and what the outcome of an extension is.
use Rattle.std.proofs.Common.{◌≡◌, ℕ, suc, ◌≤◌, List, [], ◌∷◌, map, not, Bool, true, false, eqb, ltb, ◌&&◌, Option, Some, None, Ok, Err, inl, inr, refl, ap, ◌∙◌, arith}
use Rattle.std.specs.Prelude.{Contains, option_map}
use Rattle.std.specs.List.{AllByRecursion}
use Rattle.std.specs.Option.{option_or, option_map_or}
use Rattle.std.specs.Str.{bytes_eq}
use Rattle.std.proofs.lemmas.Bool.{cases_Bool, eqb-true, ltb-false, and_parts}
use Rattle.std.proofs.lemmas.Slice.Eq.{bytes_eq-Decides}
use Rattle.statement.specs.declared.member.Member.{Member}
use Rattle.statement.specs.declared.view_block.ViewBlock.{ViewBlock}
use Rattle.statement.specs.Ids.{is_above, RisesFrom}
use Rattle.statement.specs.Config.{weight_together, quorum, IsQuorum}
use Rattle.statement.specs.Config.{id_of as member_id}
use Rattle.port.specs.View.{FinalMark, ViewRow}
use Rattle.view_ledger.specs.declared.view_fault.ViewFault.{ViewFault}
use Rattle.view_ledger.specs.declared.view_fault.ViewFault.TheVariants.{BadLink, BadMark, NoQuorum, NotGenuine}
use Rattle.view_ledger.specs.Views.{ViewChain, newest_config, next_block}
use Rattle.view_ledger.specs.Receipts.{Accepts, IsSigned, is_signed}
use Rattle.view_ledger.specs.Extension.{AreGenuine, final_id, final_bytes, Follows, extended, is_genuine, first_not_genuine, is_block, first_bad_final, no_quorum, finals_fault, extend_fault, extend_outcome}
use Rattle.view_ledger.specs.Firsts.{or_none, none_found, all_map}
use Rattle.view_ledger.specs.Signers.{signed, are_quorum}

not_false : (b : Bool) → not b ≡ false → b ≡ true
not_false true e = refl
not_false false e = absurd cc

none_of : {A : Type 0} (x y : Option A) → option_or x y ≡ None → (x ≡ None) × (y ≡ None)
none_of None y e = (refl, e)
none_of (Some x) y e = absurd cc

no_id : (id : Option ℕ) → option_map NotGenuine id ≡ None → id ≡ None
no_id None e = refl
no_id (Some id) e = absurd cc

-- members who stand in a roster
same_member : (a b : Member) → a.id ≡ b.id → a.key ≡ b.key → a ≡ b
same_member a b id key = ap (λ (i : ℕ). record { id = i; key = a.key }) id ∙ ap (λ (k : List ℕ). record { id = b.id; key = k }) key

stands : (roster : List Member) (member : Member) → is_genuine roster member ≡ true → Contains roster member
stands [] member e = absurd cc
stands (known ∷ roster) member e =
    elim (cases_Bool (eqb known.id member.id && bytes_eq known.key member.key)) [
      | inl same ↦
          let parts = and_parts (eqb known.id member.id) (bytes_eq known.key member.key) same in
          (0, omega arith, same_member known member (eqb-true known.id member.id parts.0) ((bytes_eq-Decides known.key member.key).0 parts.1))
      | inr other ↦
          let rest : is_genuine roster member ≡ true = rw other at e in
          let there = stands roster member rest in (suc there.0, omega (arith, there.1), there.2)
    ]

pub all_genuine : (roster members : List Member) → first_not_genuine roster members ≡ None → AreGenuine roster members
all_genuine roster members e =
    all_map (λ member. not (is_genuine roster member) ≡ false) (λ member. Contains roster member) (λ member n. stands roster member (not_false (is_genuine roster member) n)) members (none_found member_id (λ member. not (is_genuine roster member)) members e)

-- finals that end a view
module _ (accepts : Accepts) (config : List Member) (bytes : List ℕ → List ℕ) where
  abbrev Signed : FinalMark → Type 0
  Signed final = IsSigned accepts config (bytes final.map) final.id final.sig

  good_finals : (before : Option ℕ) (finals : List FinalMark) → first_bad_final accepts config bytes before finals ≡ None → RisesFrom before (map final_id finals) × AllByRecursion Signed finals
  good_finals before [] e = (tt, tt)
  good_finals before (final ∷ finals) e =
      elim (cases_Bool (is_above before final.id && is_signed accepts config (bytes final.map) final.id final.sig)) [
        | inl good ↦
            let parts = and_parts (is_above before final.id) (is_signed accepts config (bytes final.map) final.id final.sig) good in
            let rest : first_bad_final accepts config bytes (Some final.id) finals ≡ None = rw good at e in
            let others = good_finals (Some final.id) finals rest in
            ((parts.0, others.0), (signed accepts config (bytes final.map) final.id final.sig parts.1, others.1))
        | inr bad ↦ let never : Some final.id ≡ None = rw bad at e in absurd cc
      ]

  enough : (got need : ℕ) → no_quorum got need ≡ None → need ≤ got
  enough got need e =
      elim (cases_Bool (ltb got need)) [
        | inl less ↦ let never : Some (NoQuorum got need) ≡ None = rw less at e in absurd cc
        | inr many ↦ ltb-false got need many
      ]

  pub ended : (finals : List FinalMark) → finals_fault accepts config bytes finals ≡ None → RisesFrom None (map final_id finals) × AllByRecursion Signed finals × IsQuorum config (map final_id finals)
  unfolding finals_fault
  ended finals e =
      let a = or_none BadMark (first_bad_final accepts config bytes None finals) (no_quorum (weight_together config (map final_id finals)) (quorum config)) e in
      let b = good_finals None finals a.0 in
      (b.0, b.1, are_quorum accepts config (λ final. bytes final.map) (λ final. final.sig) final_id finals b.0 b.1 (enough (weight_together config (map final_id finals)) (quorum config) a.1))

-- blocks
pub same_block : (a b : ViewBlock) → is_block a b ≡ true → a ≡ b
same_block a b e =
    let p = and_parts (bytes_eq a.prev b.prev) (bytes_eq a.config b.config && eqb a.number b.number) e in
    let q = and_parts (bytes_eq a.config b.config) (eqb a.number b.number) p.1 in
    ap (λ (x : List ℕ). record { prev = x; config = a.config; number = a.number }) ((bytes_eq-Decides a.prev b.prev).0 p.0)
    ∙ ap (λ (x : List ℕ). record { prev = b.prev; config = x; number = a.number }) ((bytes_eq-Decides a.config b.config).0 q.0)
    ∙ ap (λ (x : ℕ). record { prev = b.prev; config = b.config; number = x }) (eqb-true a.number b.number q.1)

-- by the first that applies
module _ (accepts : Accepts) (chain : ViewChain) (next : ViewRow) where
  abbrev links : Bool
  links = is_block next.block (next_block chain.configs next.config)

  abbrev fault_of_finals : Option ViewFault
  fault_of_finals = finals_fault accepts (newest_config chain.configs) (final_bytes chain.configs next.config) next.finals

  pub not_linked : links ≡ false → extend_fault accepts chain next ≡ Some BadLink
  unfolding extend_fault
  not_linked e = rw e refl

  pub not_ended : (fault : ViewFault) → links ≡ true → fault_of_finals ≡ Some fault → extend_fault accepts chain next ≡ Some fault
  unfolding extend_fault
  not_ended fault e bad = rw (e, bad) refl

  pub rests : (other : Option ℕ) → links ≡ true → fault_of_finals ≡ None → first_not_genuine chain.roster next.config ≡ other → extend_fault accepts chain next ≡ option_map NotGenuine other
  unfolding extend_fault
  rests other e good is = rw (e, good, is) refl

  pub follows : extend_fault accepts chain next ≡ None → Follows accepts chain next
  unfolding extend_fault
  follows e =
      elim (cases_Bool links) [
        | inr apart ↦ let never : Some BadLink ≡ None = rw apart at e in absurd cc
        | inl linked ↦
            let rest : option_or fault_of_finals (option_map NotGenuine (first_not_genuine chain.roster next.config)) ≡ None = rw linked at e in
            let p = none_of fault_of_finals (option_map NotGenuine (first_not_genuine chain.roster next.config)) rest in
            let q = ended accepts (newest_config chain.configs) (final_bytes chain.configs next.config) next.finals p.0 in
            record {
              block = same_block next.block (next_block chain.configs next.config) linked;
              rising = q.0;
              signed = q.1;
              enough = q.2;
              genuine = all_genuine chain.roster next.config (no_id (first_not_genuine chain.roster next.config) p.1);
            }
      ]

  -- the outcome by the first fault
  pub outcome_err : (fault : ViewFault) → extend_fault accepts chain next ≡ Some fault → extend_outcome accepts chain next ≡ Err fault
  unfolding extend_outcome
  outcome_err fault e = ap (λ (o : Option ViewFault). option_map_or Err o (Ok (extended chain next.config))) e

  pub outcome_ok : extend_fault accepts chain next ≡ None → extend_outcome accepts chain next ≡ Ok (extended chain next.config)
  unfolding extend_outcome
  outcome_ok e = ap (λ (o : Option ViewFault). option_map_or Err o (Ok (extended chain next.config))) e
