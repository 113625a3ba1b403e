-- Different texts with one digest.
use Rattle.std.specs.Prelude.{◌≡◌, ◌≢◌, ℕ, List, Contains}
use Rattle.std.specs.declared.cmp.Ordering.{Ordering}
use Rattle.std.specs.declared.cmp.Ordering.TheVariants.{Less}
use Rattle.std.specs.Ordering.{nat_cmp, ordering_then}
use Rattle.std.specs.Cmp.Lexicographic.{slice_cmp}
use Rattle.sha2.specs.Sha256.{sha256}

-- two different ones of these texts have one digest
pub record IsCollision (texts : List (List ℕ)) (one other : List ℕ) : Type 0 where
  pub one_stands : Contains texts one
  pub other_stands : Contains texts other
  pub differ : one ≢ other
  pub one_digest : sha256 one ≡ sha256 other

-- any two of these texts with one digest are equal
abbrev pub NoCollision : List (List ℕ) → Type 0
NoCollision texts = (one other : List ℕ) → Contains texts one → Contains texts other → sha256 one ≡ sha256 other → one ≡ other

-- the order of pairs of texts: the first texts decide, and the second ones where those are equal. Texts are in
-- the order of their bytes, and a text stands before a longer one that it begins.
abbrev pub pair_cmp : List ℕ → List ℕ → List ℕ → List ℕ → Ordering
pair_cmp one other first second = ordering_then (slice_cmp nat_cmp one first) (slice_cmp nat_cmp other second)

-- a pair of this kind, and none of this kind comes before it
pub record IsLeastPair (Kind : List ℕ → List ℕ → Type 0) (one other : List ℕ) : Type 0 where
  pub kind : Kind one other
  pub least : (first second : List ℕ) → Kind first second → pair_cmp first second one other ≢ Less

-- a collision of these texts, and none of theirs comes before it
abbrev pub IsLeastCollision : List (List ℕ) → List ℕ → List ℕ → Type 0
IsLeastCollision texts = IsLeastPair (IsCollision texts)

-- a text, and the digest that is given for it
pub record DigestedText : Type 0 where
  pub digest : List ℕ
  pub text : List ℕ

-- a text beside its SHA-256 digest
abbrev pub digested_text : List ℕ → DigestedText
digested_text text = record { digest = sha256 text; text = text }

-- this text is given with this digest
abbrev pub IsGiven : List DigestedText → List ℕ → List ℕ → Type 0
IsGiven given digest text = Contains given (record { digest = digest; text = text })

-- two different texts are given with one digest
pub record ShareDigest (given : List DigestedText) (one other : List ℕ) : Type 0 where
  pub digest : List ℕ
  pub one_given : IsGiven given digest one
  pub other_given : IsGiven given digest other
  pub differ : one ≢ other

-- some two different texts are
abbrev pub SomeShareDigest : List DigestedText → Type 0
SomeShareDigest given = (one : List ℕ) × (other : List ℕ) × ShareDigest given one other

-- any two texts that are given with one digest are equal
abbrev pub NoneShareDigest : List DigestedText → Type 0
NoneShareDigest given = (digest one other : List ℕ) → IsGiven given digest one → IsGiven given digest other → one ≡ other

-- a text that differs from this one is given with its digest
abbrev pub IsPartner : List DigestedText → DigestedText → List ℕ → Type 0
IsPartner given one text = IsGiven given one.digest text × (text ≢ one.text)

-- no text is
abbrev pub HasNoPartner : List DigestedText → DigestedText → Type 0
HasNoPartner given one = (text : List ℕ) → IsPartner given one text → ⊥

-- such a text, and none of them comes before it
abbrev pub IsLeastPartner : List DigestedText → DigestedText → List ℕ → Type 0
IsLeastPartner given one least = IsPartner given one least × ((text : List ℕ) → IsPartner given one text → slice_cmp nat_cmp text least ≢ Less)
