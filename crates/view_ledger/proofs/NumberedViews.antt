-- The view of a number among views that are kept with their tails.
use Rattle.std.proofs.Common.{◌≡◌, ℕ, ◌+◌, ◌-◌, ◌<◌, ◌≤◌, ◌↔◌, List, [], ◌∷◌, ◌++◌, length, map, get_or, take, not, true, false, eqb, ◌&&◌, Option, Some, None, Result, Err, inl, inr, refl, sym, ap, ◌∙◌, subst, arith}
use Rattle.std.specs.Prelude.{IfNone, zero, suc}
use Rattle.std.specs.List.{AllByRecursion}
use Rattle.std.specs.Str.{bytes_eq}
use Rattle.std.proofs.lemmas.Bool.{eq-eqb, cases_Bool}
use Rattle.std.proofs.lemmas.List.{length-take-le, get_or-take, take_more}
use Rattle.std.proofs.lemmas.List.Elements.{All-from_recursion}
use Rattle.std.proofs.lemmas.Slice.Eq.{bytes_eq-Decides}
use Rattle.statement.specs.declared.member.Member.{Member}
use Rattle.statement.specs.declared.view_block.ViewBlock.{ViewBlock}
use Rattle.statement.specs.Config.{id_of as member_id}
use Rattle.port.specs.View.{FinalMark}
use Rattle.view_ledger.specs.declared.view.View.{View}
use Rattle.view_ledger.specs.declared.view_fault.ViewFault.{ViewFault}
use Rattle.view_ledger.specs.Views.{ViewChain, newest_tail, tail_at, config_at, newest_config}
use Rattle.view_ledger.specs.Receipts.{Accepts}
use Rattle.view_ledger.specs.Extension.{AreGenuine, Follows, is_block, is_genuine, first_not_genuine, final_bytes, finals_fault, extend_fault, extend_outcome}
use Rattle.view_ledger.specs.Kept.{config_of, AreViews}
use Rattle.view_ledger.specs.Firsts.{found_none}
use Rattle.view_ledger.specs.Numbered.{chain_below, block_at, row_at}
use Rattle.view_ledger.proofs.Extending.{not_ended, rests, follows, outcome_err, outcome_ok}

-- the newest of the views below a number
pub newest_below_config : (configs : List (List Member)) (n : ℕ) → 1 ≤ n → n ≤ length configs → newest_config (take n configs) ≡ config_at configs (n - 1)
newest_below_config configs n first within =
    ap (λ (k : ℕ). get_or (take n configs) (k - 1) []) (length-take-le n configs within)
    ∙ get_or-take n configs (n - 1) [] (omega (arith, first))

pub newest_below_tail : (configs : List (List Member)) (n : ℕ) → 1 ≤ n → newest_tail (take n configs) ≡ tail_at configs (n - 1)
newest_below_tail configs n first =
    let k : n ≡ n - 1 + 1 = omega (arith, first) in
    ap (λ (m : ℕ). newest_tail (take m configs)) k

-- with the view of the number
pub tail_with : (configs : List (List Member)) (n : ℕ) → n < length configs → newest_tail (take n configs ++ config_at configs n ∷ []) ≡ tail_at configs n
tail_with configs n known = ap newest_tail (sym (take_more configs n [] known))

-- a block is itself, and who stands in a roster is found there
same_bytes : (a : List ℕ) → bytes_eq a a ≡ true
same_bytes a = (bytes_eq-Decides a a).1 refl

own_block : (block : ViewBlock) → is_block block block ≡ true
own_block block = rw (same_bytes block.prev, same_bytes block.config, eq-eqb block.number block.number refl) refl

own_test : (known member : Member) → known ≡ member → eqb known.id member.id && bytes_eq known.key member.key ≡ true
own_test known member e = rw (eq-eqb known.id member.id (ap (λ (m : Member). m.id) e), (bytes_eq-Decides known.key member.key).1 (ap (λ (m : Member). m.key) e)) refl

found_at : (roster : List Member) (member : Member) (k : ℕ) → k < length roster → get_or roster k member ≡ member → is_genuine roster member ≡ true
found_at [] member k lt e = absurd (omega (arith, lt))
found_at (known ∷ roster) member zero lt e = rw (own_test known member e) refl
found_at (known ∷ roster) member (suc k) lt e =
    let rest = found_at roster member k (omega (arith, lt)) e in
    elim (cases_Bool (eqb known.id member.id && bytes_eq known.key member.key)) [
      | inl same ↦ rw same refl
      | inr other ↦ rw (other, rest) refl
    ]

all_found : (roster members : List Member) → AreGenuine roster members → AllByRecursion (λ member. not (is_genuine roster member) ≡ false) members
all_found roster [] all = tt
all_found roster (member ∷ members) all = (ap not (found_at roster member all.0.0 all.0.1 all.0.2), all_found roster members all.1)

pub none_strange : (roster members : List Member) → AreGenuine roster members → first_not_genuine roster members ≡ None
none_strange roster members all = found_none member_id (λ member. not (is_genuine roster member)) members (all_found roster members all)

-- the finals of a view of a chain, by which the one below ended for it
module _ (accepts : Accepts) (chain : ViewChain) (n : ℕ) (finals : List FinalMark) (genuine : AreGenuine chain.roster (config_at chain.configs n)) where
  abbrev judged : Option ViewFault
  judged = finals_fault accepts (newest_config (take n chain.configs)) (final_bytes (take n chain.configs) (config_at chain.configs n)) finals

  by_finals : (found : Option ViewFault) → judged ≡ found → extend_fault accepts (chain_below chain n) (row_at chain.configs n finals) ≡ found
  by_finals None e = rests accepts (chain_below chain n) (row_at chain.configs n finals) None (own_block (block_at chain.configs n)) e (none_strange chain.roster (config_at chain.configs n) genuine)
  by_finals (Some fault) e = not_ended accepts (chain_below chain n) (row_at chain.configs n finals) fault (own_block (block_at chain.configs n)) e

  pub ends_it : judged ≡ None → Follows accepts (chain_below chain n) (row_at chain.configs n finals)
  ends_it e = follows accepts (chain_below chain n) (row_at chain.configs n finals) (by_finals None e)

  abbrev outcome : Result ViewChain ViewFault
  outcome = extend_outcome accepts (chain_below chain n) (row_at chain.configs n finals)

  same_fault : (found : Option ViewFault) (fault : ViewFault) → judged ≡ found → outcome ≡ Err fault → found ≡ Some fault
  same_fault None fault e refused =
      let ok = outcome_ok accepts (chain_below chain n) (row_at chain.configs n finals) (by_finals None e) in absurd (cc (ok, refused))
  same_fault (Some other) fault e refused =
      let err = outcome_err accepts (chain_below chain n) (row_at chain.configs n finals) other (by_finals (Some other) e) in cc (err, refused)

  pub is_fault : (fault : ViewFault) → (judged ≡ Some fault) ↔ (outcome ≡ Err fault)
  is_fault fault = (
    λ e. outcome_err accepts (chain_below chain n) (row_at chain.configs n finals) fault (by_finals (Some fault) e),
    λ refused. same_fault judged fault refl refused,
  )

  pub if_none : (found : Option ViewFault) → found ≡ judged → IfNone found (Follows accepts (chain_below chain n) (row_at chain.configs n finals))
  if_none None e = ends_it (sym e)
  if_none (Some fault) e = tt

  pub by_fault : (found : Option ViewFault) → found ≡ judged → (fault : ViewFault) → (found ≡ Some fault) ↔ (outcome ≡ Err fault)
  by_fault found e fault = subst (λ (o : Option ViewFault). (o ≡ Some fault) ↔ (outcome ≡ Err fault)) (sym e) (is_fault fault)

-- the members of each view are genuine
pub genuine_in : (roster : List Member) (views : List View) (n : ℕ) → AreViews roster views → n < length (map config_of views) → AreGenuine roster (config_at (map config_of views) n)
genuine_in roster views n are below = All-from_recursion (AreGenuine roster) (map config_of views) are.genuine n [] below
