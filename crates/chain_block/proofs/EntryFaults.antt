-- Bytes without a fault are those of an entry.
use Rattle.std.proofs.Common.{◌≡◌, ℕ, suc, ◌-◌, ◌<◌, ◌≤◌, List, [], ◌∷◌, length, take, drop, All, Option, Some, None, Bool, true, false, cond, ◌⊎◌, inl, inr, eqb, ltb, leb, refl, sym, ap, subst, ◌∙◌, arith}
use Rattle.std.specs.Int.{w32, w64, from_be_bytes}
use Rattle.std.proofs.lemmas.Bool.{cases_lt, eqb-true, ltb-true, ltb-false, leb-true, and_parts}
use Rattle.std.proofs.lemmas.List.{take-append-drop, length-take, length-drop, drop-drop, get_or_past}
use Rattle.std.proofs.lemmas.List.Elements.{All-get_or}
use Rattle.chain_block.specs.declared.entry.TheConstants.{MAX_PAYLOAD, MAX_HEIGHT}
use Rattle.chain_block.specs.declared.entry.Entry.{Entry}
use Rattle.chain_block.specs.declared.entry.Entry.TheVariants.{Genesis, Later}
use Rattle.chain_block.specs.declared.entry_fault.EntryFault.{EntryFault}
use Rattle.chain_block.specs.declared.entry_fault.EntryFault.TheVariants.{Short, Kind, Height, Length, Trailing}
use Rattle.chain_block.specs.Entry.{IsWellFormed, entry_bytes}
use Rattle.chain_block.specs.EntryFault.{payload_fault, genesis_fault, later_fault, entry_fault, number_at}
use Rattle.chain_block.proofs.Parts.{IsBytes}
use Rattle.chain_block.proofs.EntryLaws.{is_height, genesis_found, later_found, no_fault}

abbrev IsOf : List ℕ → Type 0
IsOf bytes = (entry : Entry) × IsWellFormed entry × (bytes ≡ entry_bytes entry)

-- a test that found no fault
passed : (b : Bool) (fault : EntryFault) (others : Option EntryFault) → cond b (Some fault) others ≡ None → (b ≡ false) × (others ≡ None)
passed true fault others e = absurd cc
passed false fault others e = (refl, e)

chosen : (b : Bool) (x y : Option EntryFault) → cond b x y ≡ None → ((b ≡ true) × (x ≡ None)) ⊎ ((b ≡ false) × (y ≡ None))
chosen true x y e = inl (refl, e)
chosen false x y e = inr (refl, e)

payload_fits : (stated left : ℕ) → payload_fault stated left ≡ None → (stated ≤ MAX_PAYLOAD) × (left ≡ stated)
unfolding payload_fault
payload_fits stated left e =
    let a = passed (ltb MAX_PAYLOAD stated) Length (cond (ltb left stated) (Some Short) (cond (ltb stated left) (Some Trailing) None)) e in
    let b = passed (ltb left stated) Short (cond (ltb stated left) (Some Trailing) None) a.1 in
    let c = passed (ltb stated left) Trailing None b.1 in
    (ltb-false _ _ a.0, omega (arith, ltb-false _ _ b.0, ltb-false _ _ c.0))

genesis_of : (bytes : List ℕ) → IsBytes bytes → genesis_fault bytes ≡ None → IsOf (1 ∷ bytes)
unfolding genesis_fault
genesis_of bytes fits e =
    let stated = number_at w32 16 bytes in
    let a = passed (ltb (length bytes) 20) Short (payload_fault stated (length bytes - 20)) e in
    let long : 20 ≤ length bytes = ltb-false _ _ a.0 in
    let size = payload_fits stated (length bytes - 20) a.1 in
    let behind = drop 16 bytes in
    let payload = drop 4 behind in
    let nonce_len : length (take 16 bytes) ≡ 16 = omega (arith, length-take 16 bytes) in
    let number_len : length (take 4 behind) ≡ 4 = omega (arith, length-take 4 behind, length-drop 16 bytes) in
    let payload_len : length payload ≡ stated = omega (arith, length-drop 4 behind, length-drop 16 bytes, size.1) in
    let within : length payload ≤ MAX_PAYLOAD = omega (arith, payload_len, size.0) in
    (Genesis (take 16 bytes) (record { bytes = payload; room = 0 }), (within, nonce_len), genesis_found bytes (take 16 bytes) behind (take 4 behind) payload payload stated fits (sym (take-append-drop 16 bytes)) (sym (take-append-drop 4 behind)) number_len refl refl payload_len)

later_of : (bytes : List ℕ) → IsBytes bytes → later_fault bytes ≡ None → IsOf (2 ∷ bytes)
unfolding later_fault
later_of bytes fits e =
    let height = number_at w64 32 bytes in
    let stated = number_at w32 56 bytes in
    let a = passed (ltb (length bytes) 60) Short (cond (is_height height) (payload_fault stated (length bytes - 60)) (Some Height)) e in
    let long : 60 ≤ length bytes = ltb-false _ _ a.0 in
    let b : (is_height height ≡ true) × (payload_fault stated (length bytes - 60) ≡ None) = elim (chosen (is_height height) (payload_fault stated (length bytes - 60)) (Some Height) a.1) [ inl p ↦ p | inr p ↦ let never : Some Height ≡ None = p.1 in absurd cc ] in
    let range = and_parts (ltb 0 height) (leb height MAX_HEIGHT) b.0 in
    let size = payload_fits stated (length bytes - 60) b.1 in
    let r1 = drop 32 bytes in
    let r2 = drop 8 r1 in
    let r3 = drop 16 r2 in
    let payload = drop 4 r3 in
    let handle_len : length (take 32 bytes) ≡ 32 = omega (arith, length-take 32 bytes) in
    let height_len : length (take 8 r1) ≡ 8 = omega (arith, length-take 8 r1, length-drop 32 bytes) in
    let r3_len : length r3 ≡ length bytes - 56 = omega (arith, length-drop 16 r2, length-drop 8 r1, length-drop 32 bytes) in
    let nonce_len : length (take 16 r2) ≡ 16 = omega (arith, length-take 16 r2, length-drop 8 r1, length-drop 32 bytes) in
    let number_len : length (take 4 r3) ≡ 4 = omega (arith, length-take 4 r3) in
    let payload_len : length payload ≡ stated = omega (arith, length-drop 4 r3, size.1) in
    let within : length payload ≤ MAX_PAYLOAD = omega (arith, payload_len, size.0) in
    let place : drop 56 bytes ≡ r3 = sym (drop-drop 16 8 r1 ∙ drop-drop 24 32 bytes) in (
      Later (take 32 bytes) height (take 16 r2) (record { bytes = payload; room = 0 }),
      ((ltb-true _ _ range.0, leb-true _ _ range.1, within), handle_len, nonce_len),
      later_found bytes (take 32 bytes) r1 (take 8 r1) r2 (take 16 r2) r3 (take 4 r3) payload payload height stated fits (sym (take-append-drop 32 bytes)) (sym (take-append-drop 8 r1)) height_len refl (sym (take-append-drop 16 r2)) (sym (take-append-drop 4 r3)) number_len (ap (λ l. from_be_bytes w32 (take 4 l)) place) refl payload_len,
    )

from_no_fault : (bytes : List ℕ) → IsBytes bytes → entry_fault bytes ≡ None → IsOf bytes
from_no_fault [] fits e = absurd cc
from_no_fault (kind ∷ rest) fits e =
    elim (chosen (eqb kind 1) (genesis_fault rest) (cond (eqb kind 2) (later_fault rest) (Some Kind)) e) [
      | inl p ↦ subst (λ (k : ℕ). IsOf (k ∷ rest)) (sym (eqb-true kind 1 p.0)) (genesis_of rest (λ i. fits (suc i)) p.1)
      | inr p ↦ elim (chosen (eqb kind 2) (later_fault rest) (Some Kind) p.1) [
        | inl q ↦ subst (λ (k : ℕ). IsOf (k ∷ rest)) (sym (eqb-true kind 2 q.0)) (later_of rest (λ i. fits (suc i)) q.1)
        | inr q ↦ let never : Some Kind ≡ None = q.1 in absurd cc
      ]
    ]

each_is_byte : (bytes : List ℕ) → All (λ byte. byte < 256) bytes → IsBytes bytes
each_is_byte bytes all i =
    elim (cases_lt i (length bytes)) [
      | inl lt ↦ All-get_or (λ byte. byte < 256) bytes i 0 lt all
      | inr le ↦ rw (get_or_past bytes i 0 le) (omega arith)
    ]

pub no_fault_iff : (bytes : List ℕ) → All (λ byte. byte < 256) bytes → (entry_fault bytes ≡ None → IsOf bytes) × (IsOf bytes → entry_fault bytes ≡ None)
no_fault_iff bytes fits = (from_no_fault bytes (each_is_byte bytes fits), λ of. ap entry_fault of.2 ∙ no_fault of.0 of.1)
