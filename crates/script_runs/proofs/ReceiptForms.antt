-- Receipts for the head of a ledger in a known view: no two of them have the same bytes.
use Rattle.std.proofs.Common.{◌≡◌, ◌⊎◌, inl, inr, ℕ, ◌^◌, ◌<◌, ◌≤◌, List, [], ◌∷◌, ◌++◌, length, refl, sym, ap, ◌∙◌, arith, append_assoc}
use Rattle.std.specs.List.{AllByRecursion, flat_map}
use Rattle.std.specs.Int.{w16, w32, w64, to_be_bytes, from_be_bytes}
use Rattle.std.proofs.lemmas.Bool.{cases_lt}
use Rattle.std.proofs.lemmas.Nat.{from_be_bytes-to_be_bytes_2, from_be_bytes-to_be_bytes_4, from_be_bytes-to_be_bytes_8}
use Rattle.statement.specs.declared.statement.Statement.{Statement}
use Rattle.statement.specs.declared.statement.Statement.TheVariants.{Held}
use Rattle.statement.specs.Mark.{Content as Mark, mark_bytes}
use Rattle.statement.specs.Receipt.{Receipt, receipt_bytes}
use Rattle.statement.specs.Statement.{statement_bytes}
use Rattle.script_runs.proofs.RowBytes.{same_parts}

abbrev behind_first : List ℕ → List ℕ
behind_first [] = []
behind_first (x ∷ xs) = xs

-- Of a statement that so many rows are held: the tail of the view, and fields of their lengths.
pub record IsHeldIn (view : List ℕ) (statement : Statement) : Type 0 where
  pub handle : List ℕ
  pub tail : List ℕ
  pub count : ℕ
  pub is : statement ≡ Held view handle tail count
  pub handle_size : length handle ≡ 32
  pub tail_size : length tail ≡ 32
  pub some : 1 ≤ count
  pub few : count ≤ 2 ^ 64

-- an id of four bytes, and a signature whose length has two
abbrev pub IsShort : Mark → Type 0
IsShort mark = (mark.id < 2 ^ 32) × (length mark.sig < 2 ^ 16)

pub record IsPlain (view : List ℕ) (receipt : Receipt) : Type 0 where
  pub statement : IsHeldIn view receipt.statement
  pub marks : AllByRecursion IsShort receipt.marks

-- ---- numbers

same_short : (m n : ℕ) → m < 2 ^ 16 → n < 2 ^ 16 → to_be_bytes w16 m ≡ to_be_bytes w16 n → m ≡ n
same_short m n x y same = sym (from_be_bytes-to_be_bytes_2 m x) ∙ ap (from_be_bytes w16) same ∙ from_be_bytes-to_be_bytes_2 n y

same_id : (m n : ℕ) → m < 2 ^ 32 → n < 2 ^ 32 → to_be_bytes w32 m ≡ to_be_bytes w32 n → m ≡ n
same_id m n x y same = sym (from_be_bytes-to_be_bytes_4 m x) ∙ ap (from_be_bytes w32) same ∙ from_be_bytes-to_be_bytes_4 n y

same_long : (m n : ℕ) → m < 2 ^ 64 → n < 2 ^ 64 → to_be_bytes w64 m ≡ to_be_bytes w64 n → m ≡ n
same_long m n x y same = sym (from_be_bytes-to_be_bytes_8 m x) ∙ ap (from_be_bytes w64) same ∙ from_be_bytes-to_be_bytes_8 n y

-- 2^64 has the bytes of 0, which is no count here
same_top : (m : ℕ) → 1 ≤ m → m < 2 ^ 64 → to_be_bytes w64 m ≡ to_be_bytes w64 (2 ^ 64) → ⊥
same_top m some low same = let zero_is : m ≡ 0 = same_long m 0 low (omega arith) same in omega (arith, zero_is, some)

same_count : (m n : ℕ) → 1 ≤ m → m ≤ 2 ^ 64 → 1 ≤ n → n ≤ 2 ^ 64 → to_be_bytes w64 m ≡ to_be_bytes w64 n → m ≡ n
same_count m n m_some m_few n_some n_few same = by (cases_lt m (2 ^ 64)) (cases_lt n (2 ^ 64))
  where
    by : (m < 2 ^ 64) ⊎ (2 ^ 64 ≤ m) → (n < 2 ^ 64) ⊎ (2 ^ 64 ≤ n) → m ≡ n
    by (inl x) (inl y) = same_long m n x y same
    by (inl x) (inr y) = let top : n ≡ 2 ^ 64 = omega (arith, n_few, y) in absurd (same_top m m_some x (same ∙ ap (to_be_bytes w64) top))
    by (inr x) (inl y) = let top : m ≡ 2 ^ 64 = omega (arith, m_few, x) in absurd (same_top n n_some y (sym same ∙ ap (to_be_bytes w64) top))
    by (inr x) (inr y) = omega (arith, m_few, x, n_few, y)

-- ---- statements and marks

-- what is read off the front of two texts that begin with such statements
same_held : (view : List ℕ) (a b : Statement) (c d : List ℕ) → IsHeldIn view a → IsHeldIn view b → statement_bytes a ++ c ≡ statement_bytes b ++ d → (a ≡ b) × (c ≡ d)
same_held view a b c d x y same =
    let bytes : statement_bytes (Held view x.handle x.tail x.count) ++ c ≡ statement_bytes (Held view y.handle y.tail y.count) ++ d =
    ap (λ (s : Statement). statement_bytes s ++ c) (sym x.is) ∙ same ∙ ap (λ (s : Statement). statement_bytes s ++ d) y.is in
    let one = to_be_bytes w64 x.count in
    let other = to_be_bytes w64 y.count in
    let behind : (((view ++ x.handle) ++ x.tail) ++ one) ++ c ≡ (((view ++ y.handle) ++ y.tail) ++ other) ++ d = ap behind_first bytes in
    let flat : view ++ (x.handle ++ (x.tail ++ (one ++ c))) ≡ view ++ (y.handle ++ (y.tail ++ (other ++ d))) =
    sym (flatten view x.handle x.tail one c) ∙ behind ∙ flatten view y.handle y.tail other d in
    let first = same_parts view view _ _ refl flat in
    let second = same_parts x.handle y.handle _ _ (x.handle_size ∙ sym y.handle_size) first.1 in
    let third = same_parts x.tail y.tail _ _ (x.tail_size ∙ sym y.tail_size) second.1 in
    let fourth = same_parts one other c d refl third.1 in
    let count : x.count ≡ y.count = same_count x.count y.count x.some x.few y.some y.few fourth.0 in (
      x.is
          ∙ ap (λ (h : List ℕ). Held view h x.tail x.count) second.0
          ∙ ap (λ (t : List ℕ). Held view y.handle t x.count) third.0
          ∙ ap (λ (n : ℕ). Held view y.handle y.tail n) count
          ∙ sym y.is,
      fourth.1,
    )
  where
    flatten : (p q r s t : List ℕ) → (((p ++ q) ++ r) ++ s) ++ t ≡ p ++ (q ++ (r ++ (s ++ t)))
    flatten p q r s t = append_assoc ((p ++ q) ++ r) s t ∙ append_assoc (p ++ q) r (s ++ t) ∙ append_assoc p q (r ++ (s ++ t))

same_mark : (a b : Mark) (c d : List ℕ) → IsShort a → IsShort b → mark_bytes a ++ c ≡ mark_bytes b ++ d → (a ≡ b) × (c ≡ d)
same_mark a b c d x y same =
    let flat : to_be_bytes w32 a.id ++ (to_be_bytes w16 (length a.sig) ++ (a.sig ++ c)) ≡ to_be_bytes w32 b.id ++ (to_be_bytes w16 (length b.sig) ++ (b.sig ++ d)) =
    sym (flatten (to_be_bytes w32 a.id) (to_be_bytes w16 (length a.sig)) a.sig c) ∙ same ∙ flatten (to_be_bytes w32 b.id) (to_be_bytes w16 (length b.sig)) b.sig d in
    let first = same_parts (to_be_bytes w32 a.id) (to_be_bytes w32 b.id) _ _ refl flat in
    let second = same_parts (to_be_bytes w16 (length a.sig)) (to_be_bytes w16 (length b.sig)) _ _ refl first.1 in
    let size : length a.sig ≡ length b.sig = same_short (length a.sig) (length b.sig) x.1 y.1 second.0 in
    let third = same_parts a.sig b.sig c d size second.1 in
    let id : a.id ≡ b.id = same_id a.id b.id x.0 y.0 first.0 in (
      ap (λ (n : ℕ). let m : Mark = record { id = n; sig = a.sig } in m) id ∙ ap (λ (s : List ℕ). let m : Mark = record { id = b.id; sig = s } in m) third.0,
      third.1,
    )
  where
    flatten : (p q r s : List ℕ) → ((p ++ q) ++ r) ++ s ≡ p ++ (q ++ (r ++ s))
    flatten p q r s = append_assoc (p ++ q) r s ∙ append_assoc p q (r ++ s)

same_marks : (a b : List Mark) → AllByRecursion IsShort a → AllByRecursion IsShort b → length a ≡ length b → flat_map mark_bytes a ≡ flat_map mark_bytes b → a ≡ b
same_marks [] [] x y sizes same = refl
same_marks [] (m ∷ b) x y sizes same = absurd (omega (arith, sizes))
same_marks (m ∷ a) [] x y sizes same = absurd (omega (arith, sizes))
same_marks (m ∷ a) (n ∷ b) x y sizes same =
    let size : length a ≡ length b = omega (arith, sizes) in
    let parts = same_mark m n (flat_map mark_bytes a) (flat_map mark_bytes b) x.0 y.0 same in
    let rest = same_marks a b x.1 y.1 size parts.1 in
    ap (λ (h : Mark). h ∷ a) parts.0 ∙ ap (λ (l : List Mark). n ∷ l) rest

-- two such receipts with the same bytes are one
pub same_receipt : (view : List ℕ) (a b : Receipt) → IsPlain view a → IsPlain view b → receipt_bytes a ≡ receipt_bytes b → a ≡ b
same_receipt view a b x y same =
    let behind : statement_bytes a.statement ++ (length a.marks ∷ flat_map mark_bytes a.marks) ≡ statement_bytes b.statement ++ (length b.marks ∷ flat_map mark_bytes b.marks) = ap behind_first same in
    let parts = same_held view a.statement b.statement _ _ x.statement y.statement behind in
    let sizes : length a.marks ≡ length b.marks = cc parts.1 in
    let marks : flat_map mark_bytes a.marks ≡ flat_map mark_bytes b.marks = ap behind_first parts.1 in
    let rest = same_marks a.marks b.marks x.marks y.marks sizes marks in
    ap (λ (s : Statement). let r : Receipt = record { statement = s; marks = a.marks } in r) parts.0
    ∙ ap (λ (m : List Mark). let r : Receipt = record { statement = b.statement; marks = m } in r) rest
