-- Lists of so many words, word by word.
use Rattle.std.proofs.Common.{◌≡◌, refl, ap, ℕ, List, [], ◌∷◌, length, arith}
use Rattle.fault_script.specs.Words.{word_at}

none : (words : List (List ℕ)) → length words ≡ 0 → words ≡ []
none [] h = refl
none (word ∷ words) h = absurd (omega arith)

pub one : (words : List (List ℕ)) → length words ≡ 1 → words ≡ word_at words 0 ∷ []
one [] h = absurd (omega arith)
one (word ∷ words) h = ap (λ rest. word ∷ rest) (none words (omega arith))

pub two : (words : List (List ℕ)) → length words ≡ 2 → words ≡ word_at words 0 ∷ word_at words 1 ∷ []
two [] h = absurd (omega arith)
two (word ∷ words) h = ap (λ rest. word ∷ rest) (one words (omega arith))

pub three : (words : List (List ℕ)) → length words ≡ 3 → words ≡ word_at words 0 ∷ word_at words 1 ∷ word_at words 2 ∷ []
three [] h = absurd (omega arith)
three (word ∷ words) h = ap (λ rest. word ∷ rest) (two words (omega arith))

pub four : (words : List (List ℕ)) → length words ≡ 4 → words ≡ word_at words 0 ∷ word_at words 1 ∷ word_at words 2 ∷ word_at words 3 ∷ []
four [] h = absurd (omega arith)
four (word ∷ words) h = ap (λ rest. word ∷ rest) (three words (omega arith))

pub five : (words : List (List ℕ)) → length words ≡ 5 → words ≡ word_at words 0 ∷ word_at words 1 ∷ word_at words 2 ∷ word_at words 3 ∷ word_at words 4 ∷ []
five [] h = absurd (omega arith)
five (word ∷ words) h = ap (λ rest. word ∷ rest) (four words (omega arith))

pub six : (words : List (List ℕ)) → length words ≡ 6 → words ≡ word_at words 0 ∷ word_at words 1 ∷ word_at words 2 ∷ word_at words 3 ∷ word_at words 4 ∷ word_at words 5 ∷ []
six [] h = absurd (omega arith)
six (word ∷ words) h = ap (λ rest. word ∷ rest) (five words (omega arith))

pub seven : (words : List (List ℕ)) → length words ≡ 7 → words ≡ word_at words 0 ∷ word_at words 1 ∷ word_at words 2 ∷ word_at words 3 ∷ word_at words 4 ∷ word_at words 5 ∷ word_at words 6 ∷ []
seven [] h = absurd (omega arith)
seven (word ∷ words) h = ap (λ rest. word ∷ rest) (six words (omega arith))
