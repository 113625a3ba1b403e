-- Clients at their places, and how many lines they wrote in turns.
use Rattle.std.proofs.Common.{◌≡◌, ◌⊎◌, inl, inr, ◌≢◌, ℕ, zero, suc, ◌+◌, ◌==◌, Bool, true, false, if◌then◌else◌, List, [], ◌∷◌, ◌++◌, length, map, slice_get, set, Option, Some, None, IfSome, option_map, ◌↔◌, refl, sym, ap, subst, ◌∙◌, arith}
use Rattle.std.specs.Option.{option_map_or}
use Rattle.std.proofs.lemmas.Bool.Decides.{eqb_tells}
use Rattle.std.specs.Str.{bytes_eq}
use Rattle.std.proofs.lemmas.Slice.Eq.{bytes_eq-Decides}
use Rattle.run_clients.specs.Clients.{Client, IsNamed, place_of, pass_at, with_pass}
use Rattle.client_pass.specs.ClientPass.{ClientPass}
use Rattle.client_acts.specs.declared.turn.Turn.{Turn}
use Rattle.client_acts.specs.Turns.{lines_by}
use Rattle.client_acts.specs.ClientActs.{Each, line_count}

-- ---- lists

get_set_cases : {X : Type 0} (xs : List X) (n m : ℕ) (x y : X) → slice_get (set xs n x) m ≡ Some y → (x ≡ y) ⊎ (slice_get xs m ≡ Some y)
get_set_cases [] n m x y e = absurd cc
get_set_cases (z ∷ zs) zero zero x y e = inl cc
get_set_cases (z ∷ zs) zero (suc m) x y e = inr e
get_set_cases (z ∷ zs) (suc n) zero x y e = inr e
get_set_cases (z ∷ zs) (suc n) (suc m) x y e = get_set_cases zs n m x y e

pub get_set : {X : Type 0} (xs : List X) (n : ℕ) (old x : X) → slice_get xs n ≡ Some old → slice_get (set xs n x) n ≡ Some x
get_set [] n old x e = absurd cc
get_set (z ∷ zs) zero old x e = refl
get_set (z ∷ zs) (suc n) old x e = get_set zs n old x e

pub get_other : {X : Type 0} (xs : List X) (n m : ℕ) (x : X) → n ≢ m → slice_get (set xs n x) m ≡ slice_get xs m
get_other [] n m x e = refl
get_other (z ∷ zs) zero zero x e = absurd (e refl)
get_other (z ∷ zs) zero (suc m) x e = refl
get_other (z ∷ zs) (suc n) zero x e = refl
get_other (z ∷ zs) (suc n) (suc m) x e = get_other zs n m x (λ same. e (ap suc same))

get_push_cases : {X : Type 0} (xs : List X) (m : ℕ) (x y : X) → slice_get (xs ++ x ∷ []) m ≡ Some y → (x ≡ y) ⊎ (slice_get xs m ≡ Some y)
get_push_cases [] zero x y e = inl cc
get_push_cases [] (suc m) x y e = absurd cc
get_push_cases (z ∷ zs) zero x y e = inr e
get_push_cases (z ∷ zs) (suc m) x y e = get_push_cases zs m x y e

by_cases : {X : Type 0} (P : X → Type 0) (x y : X) {Q : Type 0} → (x ≡ y) ⊎ Q → P x → (Q → P y) → P y
by_cases P x y (inl e) here there = subst P e here
by_cases P x y (inr q) here there = there q

pub each_set : {X : Type 0} (P : X → Type 0) (xs : List X) (n : ℕ) (x : X) → Each P xs → P x → Each P (set xs n x)
each_set P xs n x each here = λ m y e. by_cases P x y (get_set_cases xs n m x y e) here (each m y)

pub each_push : {X : Type 0} (P : X → Type 0) (xs : List X) (x : X) → Each P xs → P x → Each P (xs ++ x ∷ [])
each_push P xs x each here = λ m y e. by_cases P x y (get_push_cases xs m x y e) here (each m y)

get_map : {X Y : Type 0} (f : X → Y) (xs : List X) (n : ℕ) → slice_get (map f xs) n ≡ option_map f (slice_get xs n)
get_map f [] n = refl
get_map f (x ∷ xs) zero = refl
get_map f (x ∷ xs) (suc n) = get_map f xs n

-- ---- clients by name

first_named : (b : Bool) (rest : Option ℕ) (found : b ≡ true → ⊥) → rest ≡ None → (if b then Some 0 else option_map (λ place. suc place) rest) ≡ None
first_named true rest found none = absurd (found refl)
first_named false rest found none = ap (option_map (λ place. suc place)) none

module _ {C : Type 0} where
  pub passes_with : (clients : List (Client C)) (place : ℕ) (pass : ClientPass C)
      → map (λ client. client.pass) (with_pass clients place pass) ≡ set (map (λ client. client.pass) clients) place pass
  passes_with [] place pass = refl
  passes_with (client ∷ clients) zero pass = refl
  passes_with (client ∷ clients) (suc place) pass = ap (λ (passes : List (ClientPass C)). client.pass ∷ passes) (passes_with clients place pass)

  pub names_with : (clients : List (Client C)) (place : ℕ) (pass : ClientPass C)
      → map (λ client. client.name) (with_pass clients place pass) ≡ map (λ client. client.name) clients
  names_with [] place pass = refl
  names_with (client ∷ clients) zero pass = refl
  names_with (client ∷ clients) (suc place) pass = ap (λ (names : List (List ℕ)). client.name ∷ names) (names_with clients place pass)

  pub named : (clients : List (Client C)) (place : ℕ) (name : List ℕ) → IsNamed clients place name → slice_get (map (λ client. client.name) clients) place ≡ Some name
  named clients place name (found, stands, is) =
      get_map (λ client. client.name) clients place ∙ ap (option_map (λ client. client.name)) stands ∙ ap (λ (n : List ℕ). Some n) is

  pub unnamed : (clients : List (Client C)) (name : List ℕ) → ((place : ℕ) → slice_get (map (λ client. client.name) clients) place ≢ Some name) → place_of clients name ≡ None
  unnamed [] name none = refl
  unnamed (client ∷ clients) name none =
      first_named (bytes_eq client.name name) (place_of clients name)
      (λ is. none 0 (ap (λ (n : List ℕ). Some n) ((bytes_eq-Decides client.name name).0 is)))
      (unnamed clients name (λ place. none (suc place)))

  pub named_at : (clients : List (Client C)) (place : ℕ) (name : List ℕ) → slice_get (map (λ client. client.name) clients) place ≡ Some name → IsNamed clients place name
  named_at [] place name e = absurd cc
  named_at (client ∷ clients) zero name e = (client, refl, cc)
  named_at (client ∷ clients) (suc place) name e = named_at clients place name e

  pub named_in : (clients : List (Client C)) (name : List ℕ) (found : Option ℕ) → ((place : ℕ) → (found ≡ Some place) ↔ IsNamed clients place name)
      → IfSome found (λ place. slice_get (map (λ client. client.name) clients) place ≡ Some name)
  named_in clients name None at = tt
  named_in clients name (Some place) at = named clients place name ((at place).0 refl)

  pub none_in : (clients : List (Client C)) (name : List ℕ) (found : Option ℕ) → ((place : ℕ) → (found ≡ Some place) ↔ IsNamed clients place name)
      → found ≡ None → (place : ℕ) → slice_get (map (λ client. client.name) clients) place ≢ Some name
  none_in clients name found at none place e =
      let some : found ≡ Some place = (at place).1 (named_at clients place name e) in
      cc (some, none)

  pub pass_got : (clients : List (Client C)) (place : ℕ) → pass_at clients place ≡ slice_get (map (λ client. client.pass) clients) place
  pass_got clients place = sym (get_map (λ client. client.pass) clients place)

-- ---- turns

pub lines_push : (place : ℕ) (turns : List Turn) (turn : Turn) → lines_by place (turns ++ turn ∷ []) ≡ lines_by place turns + (if turn.client == place then turn.lines else 0)
lines_push place [] turn = omega arith
lines_push place (first ∷ turns) turn = omega (arith, lines_push place turns turn)

module _ {C : Type 0} where
  count_own : (clients : List (ClientPass C)) (place : ℕ) (from to : ClientPass C) → slice_get clients place ≡ Some from
      → (line_count clients place ≡ length from.lines) × (line_count (set clients place to) place ≡ length to.lines)
  count_own clients place from to e = (
    ap (λ (o : Option (ClientPass C)). option_map_or (λ client. length client.lines) o 0) e,
    ap (λ (o : Option (ClientPass C)). option_map_or (λ client. length client.lines) o 0) (get_set clients place from to e),
  )

  count_other : (clients : List (ClientPass C)) (place p : ℕ) (to : ClientPass C) → place ≢ p → line_count (set clients place to) p ≡ line_count clients p
  count_other clients place p to e = ap (λ (o : Option (ClientPass C)). option_map_or (λ client. length client.lines) o 0) (get_other clients place p to e)

  -- the turns with one of a client that wrote so many lines
  pub counted_set : (clients : List (ClientPass C)) (turns : List Turn) (turn : Turn) (from to : ClientPass C) → slice_get clients turn.client ≡ Some from
      → length to.lines ≡ length from.lines + turn.lines
      → ((p : ℕ) → lines_by p turns ≡ line_count clients p)
      → (p : ℕ) → lines_by p (turns ++ turn ∷ []) ≡ line_count (set clients turn.client to) p
  counted_set clients turns turn from to e l counted p =
      elim (eqb_tells turn.client p) [
        | inl is ↦
            let own = count_own clients turn.client from to e in
            let more : (if turn.client == p then turn.lines else 0) ≡ turn.lines = ap (λ (b : Bool). if b then turn.lines else 0) is.0 in
            let here : lines_by p (turns ++ turn ∷ []) ≡ length to.lines = omega (arith, lines_push p turns turn, more, counted p, subst (λ (n : ℕ). line_count clients n ≡ length from.lines) is.1 own.0, l) in
            here ∙ sym (subst (λ (n : ℕ). line_count (set clients turn.client to) n ≡ length to.lines) is.1 own.1)
        | inr other ↦
            let more : (if turn.client == p then turn.lines else 0) ≡ 0 = ap (λ (b : Bool). if b then turn.lines else 0) other.0 in
            omega (arith, lines_push p turns turn, more, counted p, count_other clients turn.client p to other.1)
      ]

  pub count_push : (clients : List (ClientPass C)) (client : ClientPass C) (p : ℕ) → client.lines ≡ [] → line_count (clients ++ client ∷ []) p ≡ line_count clients p
  count_push [] client zero e = ap length e
  count_push [] client (suc p) e = refl
  count_push (first ∷ clients) client zero e = refl
  count_push (first ∷ clients) client (suc p) e = count_push clients client p e
