-- What two rows with the same bytes have in common.
use Rattle.std.proofs.Common.{◌≡◌, ◌⊎◌, inl, inr, ℕ, ◌+◌, ◌^◌, ◌<◌, ◌≤◌, List, [], ◌∷◌, ◌++◌, length, refl, sym, ap, ◌∙◌, arith, append_assoc}
use Rattle.std.specs.Int.{w32, w64, to_be_bytes, from_be_bytes}
use Rattle.std.proofs.lemmas.List.{length-append}
use Rattle.std.proofs.lemmas.Bool.{cases_lt}
use Rattle.std.proofs.lemmas.Nat.{from_be_bytes-to_be_bytes_4}
use Rattle.sha2.proofs.Facts256.{length-sha256}
use Rattle.chain_block.specs.declared.entry.Entry.{Entry}
use Rattle.chain_block.specs.declared.entry.Entry.TheVariants.{Genesis, Later}
use Rattle.chain_block.specs.Entry.{entry_bytes, entry_digest}
use Rattle.port.specs.Row.{Content}
use Rattle.port.specs.RowForm.{IsStored, block_bytes, IsRow, row_bytes}

-- two texts that begin with parts of one length
pub same_parts : {A : Type 0} (a b c d : List A) → length a ≡ length b → a ++ c ≡ b ++ d → (a ≡ b) × (c ≡ d)
same_parts [] [] c d sizes same = (refl, same)
same_parts [] (y ∷ b) c d sizes same = absurd (omega (arith, sizes))
same_parts (x ∷ a) [] c d sizes same = absurd (omega (arith, sizes))
same_parts {A} (x ∷ a) (y ∷ b) c d sizes same =
    let size : length a ≡ length b = omega (arith, sizes) in
    let rest : a ++ c ≡ b ++ d = cc same in
    let first : x ≡ y = cc same in
    let inside = same_parts a b c d size rest in
    (ap (λ (h : A). h ∷ a) first ∙ ap (λ (l : List A). y ∷ l) inside.0, inside.1)

abbrev behind_first : List ℕ → List ℕ
behind_first [] = []
behind_first (x ∷ xs) = xs

pub small : (entry : Entry) → IsStored entry → length (entry_bytes entry) < 2 ^ 31
small (Genesis n p) ok =
    let size = to_be_bytes w32 (length p.bytes) in omega (arith, length-append ((1 ∷ n) ++ size) p.bytes, length-append (1 ∷ n) size, ok.0.0, ok.0.1)
small (Later h k n p) ok =
    let size = to_be_bytes w32 (length p.bytes) in
    let height = to_be_bytes w64 k in
    omega (arith, length-append ((((2 ∷ h) ++ height) ++ n) ++ size) p.bytes, length-append (((2 ∷ h) ++ height) ++ n) size, length-append ((2 ∷ h) ++ height) n, length-append (2 ∷ h) height, ok.0.0.2, ok.0.1, ok.0.2)

-- one number in four bytes, where one of both is below 2^32
lower : (m n : ℕ) → n < 2 ^ 31 → to_be_bytes w32 m ≡ to_be_bytes w32 n → (m ≡ n) ⊎ (2 ^ 32 ≤ m)
lower m n within same = by_size (cases_lt m (2 ^ 32))
  where
    by_size : (m < 2 ^ 32) ⊎ (2 ^ 32 ≤ m) → (m ≡ n) ⊎ (2 ^ 32 ≤ m)
    by_size (inl low) = inl (sym (from_be_bytes-to_be_bytes_4 m low) ∙ ap (from_be_bytes w32) same ∙ from_be_bytes-to_be_bytes_4 n (omega (arith, within)))
    by_size (inr high) = inr high

-- A row with an entry's digest that has the bytes of a row whose fields have their lengths: its metablock has the same tail and entry.
pub same_block : (row own : Content) → IsRow own → row.metablock.entry ≡ entry_digest row.entry → row_bytes row ≡ row_bytes own
    → (row.metablock.prev ≡ own.metablock.prev) × (row.metablock.entry ≡ own.metablock.entry)
same_block row own is digest same =
    let e = entry_bytes row.entry in
    let f = entry_bytes own.entry in
    let n = to_be_bytes w32 (length e) in
    let m = to_be_bytes w32 (length f) in
    let b = block_bytes row.metablock in
    let c = block_bytes own.metablock in
    let behind : (n ++ e) ++ b ≡ (m ++ f) ++ c = ap behind_first same in
    let flat : n ++ (e ++ b) ≡ m ++ (f ++ c) = sym (append_assoc n e b) ∙ behind ∙ append_assoc m f c in
    let heads = same_parts n m (e ++ b) (f ++ c) refl flat in
    let inside : e ++ b ≡ f ++ c = heads.1 in
    let digest_size : length row.metablock.entry ≡ 32 = ap length digest ∙ length-sha256 _ in
    let whole : length (e ++ b) ≡ length (f ++ c) = ap length inside in
    let b_size = length-append ((0x10 ∷ row.metablock.prev) ++ row.metablock.entry) (to_be_bytes w64 row.metablock.height) in
    let b_front = length-append (0x10 ∷ row.metablock.prev) row.metablock.entry in
    let c_size = length-append ((0x10 ∷ own.metablock.prev) ++ own.metablock.entry) (to_be_bytes w64 own.metablock.height) in
    let c_front = length-append (0x10 ∷ own.metablock.prev) own.metablock.entry in
    let few = small own.entry is.entry in
    let sizes : length e ≡ length f = by_size (lower (length e) (length f) few heads.0) (length-append e b) (length-append f c) whole few (omega (arith, c_size, c_front, is.metablock.0, is.metablock.1)) in
    let parts = same_parts e f b c sizes inside in
    let fields : (row.metablock.prev ++ row.metablock.entry) ++ to_be_bytes w64 row.metablock.height ≡ (own.metablock.prev ++ own.metablock.entry) ++ to_be_bytes w64 own.metablock.height = ap behind_first parts.1 in
    let blocks : row.metablock.prev ++ (row.metablock.entry ++ to_be_bytes w64 row.metablock.height) ≡ own.metablock.prev ++ (own.metablock.entry ++ to_be_bytes w64 own.metablock.height) =
    sym (append_assoc row.metablock.prev row.metablock.entry _) ∙ fields ∙ append_assoc own.metablock.prev own.metablock.entry _ in
    let prev_size : length row.metablock.prev ≡ length own.metablock.prev = omega (arith, ap length parts.1, b_size, b_front, c_size, c_front, digest_size, is.metablock.0, is.metablock.1) in
    let prevs = same_parts row.metablock.prev own.metablock.prev _ _ prev_size blocks in
    let entries = same_parts row.metablock.entry own.metablock.entry _ _ (digest_size ∙ sym is.metablock.1) prevs.1 in
    (prevs.0, entries.0)
  where
    by_size : (length (entry_bytes row.entry) ≡ length (entry_bytes own.entry)) ⊎ (2 ^ 32 ≤ length (entry_bytes row.entry))
        → length (entry_bytes row.entry ++ block_bytes row.metablock) ≡ length (entry_bytes row.entry) + length (block_bytes row.metablock)
        → length (entry_bytes own.entry ++ block_bytes own.metablock) ≡ length (entry_bytes own.entry) + length (block_bytes own.metablock)
        → length (entry_bytes row.entry ++ block_bytes row.metablock) ≡ length (entry_bytes own.entry ++ block_bytes own.metablock)
        → length (entry_bytes own.entry) < 2 ^ 31 → length (block_bytes own.metablock) ≡ 73
        → length (entry_bytes row.entry) ≡ length (entry_bytes own.entry)
    by_size (inl equal) x y whole few size = equal
    by_size (inr high) x y whole few size = absurd (omega (arith, high, x, y, whole, few, size))
