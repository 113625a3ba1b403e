-- The extension of a chain by a view that follows isn't refused.
use Rattle.std.proofs.Common.{◌≡◌, ℕ, zero, suc, ◌<◌, List, [], ◌∷◌, length, get_or, map, true, false, eqb, not, ◌&&◌, Option, Some, None, Ok, inl, inr, refl, ap, subst, arith, rules}
use Rattle.std.specs.Prelude.{Contains}
use Rattle.std.specs.List.{AllByRecursion}
use Rattle.std.specs.Str.{bytes_eq}
use Rattle.std.proofs.lemmas.Bool.{cases_Bool, le-ltb}
use Rattle.std.proofs.lemmas.Slice.Eq.{bytes_eq-Decides}
use Rattle.statement.specs.declared.member.Member.{Member}
use Rattle.statement.specs.declared.view_block.ViewBlock.{ViewBlock}
use Rattle.statement.specs.Ids.{is_above, RisesFrom}
use Rattle.statement.specs.Config.{weight_together, quorum, IsQuorum}
use Rattle.statement.specs.Config.{id_of as member_id}
use Rattle.port.specs.View.{FinalMark, ViewRow}
use Rattle.view_ledger.specs.Views.{ViewChain, newest_config, next_block}
use Rattle.view_ledger.specs.Receipts.{Accepts, IsSigned, is_signed}
use Rattle.view_ledger.specs.Extension.{AreGenuine, final_id, final_bytes, Follows, extended, is_genuine, first_not_genuine, is_block, first_bad_final, finals_fault, extend_fault, extend_outcome}
use Rattle.view_ledger.specs.Firsts.{found_none, all_map}
use Rattle.view_ledger.specs.Signers.{is_signed-true}

same_bytes : (bytes : List ℕ) → bytes_eq bytes bytes ≡ true
same_bytes bytes = (bytes_eq-Decides bytes bytes).1 refl

same_number : (n : ℕ) → eqb n n ≡ true
same_number n = search rules

-- a member of the roster is found there
genuine : (roster : List Member) (member : Member) (place : ℕ) → place < length roster → get_or roster place member ≡ member → is_genuine roster member ≡ true
genuine [] member place below is = absurd (omega arith)
genuine (known ∷ roster) member zero below is = rw (is, same_number member.id, same_bytes member.key) refl
genuine (known ∷ roster) member (suc place) below is =
    elim (cases_Bool (eqb known.id member.id && bytes_eq known.key member.key)) [
      | inl same ↦ rw same refl
      | inr other ↦ rw other (genuine roster member place (omega arith) is)
    ]

all_found : (roster members : List Member) → AreGenuine roster members → first_not_genuine roster members ≡ None
all_found roster members all =
    found_none member_id (λ member. not (is_genuine roster member)) members
    (all_map (λ member. Contains roster member) (λ member. not (is_genuine roster member) ≡ false) (λ member there. ap not (genuine roster member there.0 there.1 there.2)) members all)

-- finals that end a view
module _ (accepts : Accepts) (config : List Member) (bytes : List ℕ → List ℕ) where
  none_bad : (before : Option ℕ) (finals : List FinalMark) → RisesFrom before (map final_id finals)
      → AllByRecursion (λ final. IsSigned accepts config (bytes final.map) final.id final.sig) finals → first_bad_final accepts config bytes before finals ≡ None
  none_bad before [] rising signed = refl
  none_bad before (final ∷ finals) rising signed =
      let above : is_above before final.id ≡ true = rising.0 in
      let is : is_signed accepts config (bytes final.map) final.id final.sig ≡ true = is_signed-true accepts config (bytes final.map) final.id final.sig signed.0 in
      rw (above, is) (none_bad (Some final.id) finals rising.1 signed.1)

  no_fault : (finals : List FinalMark) → RisesFrom None (map final_id finals) → AllByRecursion (λ final. IsSigned accepts config (bytes final.map) final.id final.sig) finals
      → IsQuorum config (map final_id finals) → finals_fault accepts config bytes finals ≡ None
  unfolding finals_fault
  no_fault finals rising signed enough =
      rw (none_bad None finals rising signed, le-ltb (weight_together config (map final_id finals)) (quorum config) enough.enough) refl

same_block : (block : ViewBlock) → is_block block block ≡ true
same_block block = rw (same_bytes block.prev, same_bytes block.config, same_number block.number) refl

-- it is extended
pub follows_extends : (accepts : Accepts) (chain : ViewChain) (next : ViewRow) → Follows accepts chain next → extend_outcome accepts chain next ≡ Ok (extended chain next.config)
unfolding extend_outcome extend_fault
follows_extends accepts chain next follows =
    let block : is_block next.block (next_block chain.configs next.config) ≡ true = subst (λ (b : ViewBlock). is_block next.block b ≡ true) follows.block (same_block next.block) in
    let finals = no_fault accepts (newest_config chain.configs) (final_bytes chain.configs next.config) next.finals follows.rising follows.signed follows.enough in
    let all = all_found chain.roster next.config follows.genuine in
    rw (block, finals, all) refl
