-- Bytes that are known of a source, read after read.
use Rattle.std.proofs.Common.{◌≡◌, ℕ, ◌≤◌, List, [], ◌++◌, length, take, Option, None, Some, IfSome, refl, sym, ap, ◌∙◌, append_assoc}
use Rattle.std.specs.Io.KnownBytes.{Consumes, IsAtEnd, Keeps}
use Rattle.std.proofs.lemmas.List.{append-nil, take_at, take_all}

pub keeps_all : (known : Option (List ℕ)) → Keeps known known
keeps_all None = tt
keeps_all (Some bytes) = refl

pub Consumes_nil : (o : Option (List ℕ)) → Consumes o o []
Consumes_nil None = tt
Consumes_nil (Some xs) = refl

pub Consumes_then : (a b c : Option (List ℕ)) (xs ys : List ℕ) → Consumes a b xs → Consumes b c ys → Consumes a c (xs ++ ys)
Consumes_then None b c xs ys p q = tt
Consumes_then (Some us) None c xs ys p q = absurd p
Consumes_then (Some us) (Some bs) None xs ys p q = absurd q
Consumes_then (Some us) (Some bs) (Some cs) xs ys p q = p ∙ ap (λ l. xs ++ l) q ∙ sym (append_assoc xs ys cs)

pub consumed_limit : (a b : Option (List ℕ)) (bytes : List ℕ) (n : ℕ) → Consumes a b bytes → length bytes ≡ n → IfSome a (λ all. bytes ≡ take n all)
consumed_limit None b bytes n h e = tt
consumed_limit (Some us) None bytes n h e = absurd h
consumed_limit (Some us) (Some bs) bytes n h e = sym (ap (take n) h ∙ take_at bytes bs n e)

pub consumed_end : (a b : Option (List ℕ)) (bytes : List ℕ) (n : ℕ) → Consumes a b bytes → IsAtEnd b → length bytes ≤ n → IfSome a (λ all. bytes ≡ take n all)
consumed_end None b bytes n h end le = tt
consumed_end (Some us) None bytes n h end le = absurd h
consumed_end (Some us) (Some bs) bytes n h end le =
    sym (ap (take n) (h ∙ ap (λ l. bytes ++ l) end ∙ append-nil bytes) ∙ take_all n bytes le)
