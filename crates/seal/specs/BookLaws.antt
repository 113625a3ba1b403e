-- A book accepts just what the signers of its ids sign.
use Rattle.std.proofs.Common.{◌≡◌, ◌↔◌, ℕ, List, length, true, Contains, refl, sym, ap, subst, ◌∙◌, bytes_eq, arith}
use Rattle.std.proofs.lemmas.Bool.{and_from, and_parts}
use Rattle.std.proofs.lemmas.List.Folds.{Any-from_list_any, list_any_at}
use Rattle.std.proofs.lemmas.Slice.Eq.{bytes_eq-Decides}
use Rattle.sha2.proofs.Facts256.{length-sha256}
use Rattle.seal.specs.KeyBook.{is_signed_by, book_accepts, IsSignedByOne}
use Rattle.seal.specs.MacKey.{mac_key, mac}
use Rattle.seal.specs.Signature.{IsSize}

pub length_mac : (id : ℕ) (bytes : List ℕ) → length (mac id bytes) ≡ 32
length_mac id bytes = length-sha256 _

pub signed_by : (ids key bytes sig : List ℕ) → book_accepts ids key bytes sig ≡ true → IsSignedByOne ids key bytes sig
signed_by ids key bytes sig good =
    let found = Any-from_list_any (λ id. is_signed_by id key bytes sig) ids good in
    let parts = and_parts (bytes_eq (mac_key found.1) key) (bytes_eq (mac found.1 bytes) sig) found.4 in (
      found.1,
      (found.0, found.2, found.3),
      sym ((bytes_eq-Decides (mac_key found.1) key).0 parts.0),
      sym ((bytes_eq-Decides (mac found.1 bytes) sig).0 parts.1),
    )

pub accepts_signed : (ids : List ℕ) (id : ℕ) (bytes : List ℕ) → Contains ids id → book_accepts ids (mac_key id) bytes (mac id bytes) ≡ true
accepts_signed ids id bytes held =
    list_any_at (λ own. is_signed_by own (mac_key id) bytes (mac id bytes)) ids held.0 id held.1
    (ap (λ own. is_signed_by own (mac_key id) bytes (mac id bytes)) held.2
    ∙ and_from _ _ ((bytes_eq-Decides (mac_key id) (mac_key id)).1 refl) ((bytes_eq-Decides (mac id bytes) (mac id bytes)).1 refl))

pub accepts_just_signed : (ids key bytes sig : List ℕ) → (book_accepts ids key bytes sig ≡ true) ↔ IsSignedByOne ids key bytes sig
accepts_just_signed ids key bytes sig = (
  signed_by ids key bytes sig,
  λ signed. subst (λ k. book_accepts ids k bytes sig ≡ true) (sym signed.2)
      (subst (λ s. book_accepts ids (mac_key signed.0) bytes s ≡ true) (sym signed.3) (accepts_signed ids signed.0 bytes signed.1)),
)

pub accepted_size : (ids key bytes sig : List ℕ) → book_accepts ids key bytes sig ≡ true → IsSize (length sig)
accepted_size ids key bytes sig good =
    let signed = signed_by ids key bytes sig good in
    let size : length sig ≡ 32 = ap length signed.3 ∙ length_mac signed.0 bytes in
    (omega arith, omega arith)

-- a signer of the book is accepted, and stays the one of its id
pub fitting : (id after : ℕ) (ids bytes sig : List ℕ) → Contains ids id → (sig ≡ mac id bytes) × (after ≡ id)
    → (book_accepts ids (mac_key id) bytes sig ≡ true) × Contains ids after
fitting id after ids bytes sig held signed = (
  subst (λ s. book_accepts ids (mac_key id) bytes s ≡ true) (sym signed.0) (accepts_signed ids id bytes held),
  subst (Contains ids) (sym signed.1) held,
)
