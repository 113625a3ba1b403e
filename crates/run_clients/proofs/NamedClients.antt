-- Places of names in lists of clients.
use Rattle.std.proofs.Common.{◌≡◌, ◌≢◌, ◌∙◌, refl, sym, ap, subst, Bool, true, false, cond, ℕ, zero, suc, ◌<◌, List, [], ◌∷◌, ◌++◌, length, set, slice_get, slice_index_or, Option, Some, None, IfSome, option_map, arith}
use Rattle.std.proofs.lemmas.Option.{slice_get_read, slice_get_within}
use Rattle.std.specs.Str.{bytes_eq}
use Rattle.std.proofs.lemmas.Slice.Eq.{bytes_eq-Decides}
use Rattle.client_pass.specs.ClientPass.{ClientPass}
use Rattle.run_clients.specs.Clients.{Client, AreApart, IsNamed, pass_at, place_of, with_pass}

abbrev next : Option ℕ → Option ℕ
next place = option_map (λ place. suc place) place

-- a first test and what is found else
none_else : (a : Bool) (o : Option ℕ) → cond a (Some 0) (next o) ≡ None → (a ≡ false) × (o ≡ None)
none_else true o e = cc e
none_else false None e = (refl, refl)
none_else false (Some n) e = cc e

first_else : (a b : Bool) (n : ℕ) (o r : Option ℕ) → r ≡ cond b (Some n) o → (a ≡ true → b ≡ false)
    → cond a (Some 0) (next r) ≡ cond b (Some (suc n)) (cond a (Some 0) (next o))
first_else true true n o r e h = cc (h refl)
first_else true false n o r e h = refl
first_else false true n o r e h = ap next e
first_else false false n o r e h = ap next e

same_name : (a b : List ℕ) → bytes_eq a b ≡ true → a ≡ b
same_name a b = (bytes_eq-Decides a b).0

is_same_name : (a b : List ℕ) → a ≡ b → bytes_eq a b ≡ true
is_same_name a b = (bytes_eq-Decides a b).1

both_ways : (s t : Bool) → (s ≡ true → t ≡ true) → (t ≡ true → s ≡ true) → s ≡ t
both_ways true t f g = sym (f refl)
both_ways false true f g = g refl
both_ways false false f g = refl

turned : (a b : List ℕ) → bytes_eq a b ≡ bytes_eq b a
turned a b = both_ways (bytes_eq a b) (bytes_eq b a) (λ e. is_same_name b a (sym (same_name a b e))) (λ e. is_same_name a b (sym (same_name b a e)))

some_inj : {A : Type 0} {a b : A} → Some a ≡ Some b → a ≡ b
some_inj {A} {a} {b} e = cc e

swapped : (a b c : List ℕ) → bytes_eq a c ≡ false → bytes_eq a b ≡ true → bytes_eq b c ≡ false
swapped a b c apart same = subst (λ (name : List ℕ). bytes_eq name c ≡ false) (same_name a b same) apart

later_else : (a : Bool) (o : Option ℕ) (place : ℕ) → (a ≡ true → ⊥) → o ≡ Some place → cond a (Some 0) (next o) ≡ Some (suc place)
later_else true o place differs is = absurd (differs refl)
later_else false o place differs is = ap next is

module _ {C : Type 0} where
  -- of one client more, whose name is new
  pub place_more : (clients : List (Client C)) (more : Client C) (name : List ℕ) → place_of clients more.name ≡ None
      → place_of (clients ++ more ∷ []) name ≡ cond (bytes_eq name more.name) (Some (length clients)) (place_of clients name)
  place_more [] more name fresh = ap (λ (t : Bool). cond t (Some 0) None) (turned more.name name)
  place_more (client ∷ clients) more name fresh =
      let parts = none_else (bytes_eq client.name more.name) (place_of clients more.name) fresh in
      first_else (bytes_eq client.name name) (bytes_eq name more.name) (length clients) (place_of clients name) (place_of (clients ++ more ∷ []) name)
      (place_more clients more name parts.1) (swapped client.name name more.name parts.0)

  pub apart_more : (clients : List (Client C)) (more : Client C) → AreApart clients → place_of clients more.name ≡ None → AreApart (clients ++ more ∷ [])
  apart_more [] more apart fresh = (refl, tt)
  apart_more (client ∷ clients) more apart fresh =
      let parts = none_else (bytes_eq client.name more.name) (place_of clients more.name) fresh in (
        place_more clients more client.name parts.1
            ∙ ap (λ (t : Bool). cond t (Some (length clients)) (place_of clients client.name)) parts.0
            ∙ apart.0,
        apart_more clients more apart.1 parts.1,
      )

  -- what is found has the name
  found_step : (client : Client C) (clients : List (Client C)) (name : List ℕ) (a : Bool) (o : Option ℕ) (place : ℕ) → bytes_eq client.name name ≡ a
      → ((earlier : ℕ) → o ≡ Some earlier → IsNamed clients earlier name) → cond a (Some 0) (next o) ≡ Some place → IsNamed (client ∷ clients) place name
  found_step client clients name true o place e h is =
      let at : 0 ≡ place = some_inj is in subst (λ (n : ℕ). IsNamed (client ∷ clients) n name) at (client, refl, same_name client.name name e)
  found_step client clients name false None place e h is = cc is
  found_step client clients name false (Some earlier) place e h is =
      let at : suc earlier ≡ place = some_inj is in
      let there = h earlier refl in
      subst (λ (n : ℕ). IsNamed (client ∷ clients) n name) at (there.0, there.1, there.2)

  pub found_is_named : (clients : List (Client C)) (name : List ℕ) (place : ℕ) → place_of clients name ≡ Some place → IsNamed clients place name
  found_is_named [] name place is = cc is
  found_is_named (client ∷ clients) name place is =
      found_step client clients name (bytes_eq client.name name) (place_of clients name) place refl (found_is_named clients name) is

  -- what has the name is found
  pub named_is_found : (clients : List (Client C)) (name : List ℕ) (place : ℕ) → AreApart clients → IsNamed clients place name → place_of clients name ≡ Some place
  named_is_found [] name place apart named = cc named.1
  named_is_found (client ∷ clients) name zero apart named =
      let same : client ≡ named.0 = some_inj named.1 in
      ap (λ (t : Bool). cond t (Some 0) (next (place_of clients name))) (is_same_name client.name name (ap (λ (c : Client C). c.name) same ∙ named.2))
  named_is_found (client ∷ clients) name (suc place) apart named =
      let there = named_is_found clients name place apart.1 (named.0, named.1, named.2) in
      later_else (bytes_eq client.name name) (place_of clients name) place
      (λ same. cc (sym (subst (λ (n : List ℕ). place_of clients n ≡ None) (same_name client.name name same) apart.0) ∙ there)) there

  -- what a pass becomes moves no name
  pub place_kept : (clients : List (Client C)) (place : ℕ) (pass : ClientPass C) (name : List ℕ) → place_of (with_pass clients place pass) name ≡ place_of clients name
  place_kept [] place pass name = refl
  place_kept (client ∷ clients) zero pass name = refl
  place_kept (client ∷ clients) (suc place) pass name = ap (λ (o : Option ℕ). cond (bytes_eq client.name name) (Some 0) (next o)) (place_kept clients place pass name)

  pub count_kept : (clients : List (Client C)) (place : ℕ) (pass : ClientPass C) → length (with_pass clients place pass) ≡ length clients
  count_kept [] place pass = refl
  count_kept (client ∷ clients) zero pass = refl
  count_kept (client ∷ clients) (suc place) pass = ap (λ (n : ℕ). suc n) (count_kept clients place pass)

  pub apart_kept : (clients : List (Client C)) (place : ℕ) (pass : ClientPass C) → AreApart clients → AreApart (with_pass clients place pass)
  apart_kept [] place pass apart = apart
  apart_kept (client ∷ clients) zero pass apart = apart
  apart_kept (client ∷ clients) (suc place) pass apart = (place_kept clients place pass client.name ∙ apart.0, apart_kept clients place pass apart.1)

  pub pass_is_set : (clients : List (Client C)) (place : ℕ) (pass : ClientPass C) → place < length clients → pass_at (with_pass clients place pass) place ≡ Some pass
  pass_is_set [] place pass within = absurd (omega (arith, within))
  pass_is_set (client ∷ clients) zero pass within = refl
  pass_is_set (client ∷ clients) (suc place) pass within = pass_is_set clients place pass (omega (arith, within))

  pub other_kept : (clients : List (Client C)) (place other : ℕ) (pass : ClientPass C) → other ≢ place → pass_at (with_pass clients place pass) other ≡ pass_at clients other
  other_kept [] place other pass apart = refl
  other_kept (client ∷ clients) zero zero pass apart = absurd (apart refl)
  other_kept (client ∷ clients) zero (suc other) pass apart = refl
  other_kept (client ∷ clients) (suc place) zero pass apart = refl
  other_kept (client ∷ clients) (suc place) (suc other) pass apart = other_kept clients place other pass (λ same. apart (ap (λ (n : ℕ). suc n) same))

  pub place_within : (clients : List (Client C)) (name : List ℕ) (found : Option ℕ) → found ≡ place_of clients name → IfSome found (λ place. place < length clients)
  place_within clients name None is = tt
  place_within clients name (Some place) is = let named = found_is_named clients name place (sym is) in slice_get_within clients place named.0 named.1

  -- one client more, where the list before is known by other names
  pub grown_from : (now clients room longer : List (Client C)) (copy : List ℕ) (pass : ClientPass C) → longer ≡ room ++ record { name = copy; pass = pass } ∷ [] → room ≡ clients → clients ≡ now
      → longer ≡ now ++ record { name = copy; pass = pass } ∷ []
  grown_from now clients room longer copy pass pushed same is = subst (λ (l : List (Client C)). longer ≡ l ++ record { name = copy; pass = pass } ∷ []) is
      (subst (λ (l : List (Client C)). longer ≡ l ++ record { name = copy; pass = pass } ∷ []) same pushed)

  -- the longer list has the new name at its end
  pub place_grown : (clients longer : List (Client C)) (name copy : List ℕ) (pass : ClientPass C) → longer ≡ clients ++ record { name = copy; pass = pass } ∷ [] → copy ≡ name
      → place_of clients name ≡ None → (other : List ℕ) → place_of longer other ≡ cond (bytes_eq other name) (Some (length clients)) (place_of clients other)
  place_grown clients longer name copy pass is same fresh other =
      ap (λ (l : List (Client C)). place_of l other) is
      ∙ place_more clients (record { name = copy; pass = pass }) other (ap (λ (n : List ℕ). place_of clients n) same ∙ fresh)
      ∙ ap (λ (n : List ℕ). cond (bytes_eq other n) (Some (length clients)) (place_of clients other)) same

  abbrev pub AreKept : (List ℕ → Option ℕ) → List (Client C) → Type 0
  AreKept kept clients = ((name : List ℕ) → kept name ≡ place_of clients name) × AreApart clients

  pub kept_grown : (kept after : List ℕ → Option ℕ) (clients longer : List (Client C)) (name copy : List ℕ) (pass : ClientPass C) (place : ℕ) → AreKept kept clients
      → longer ≡ clients ++ record { name = copy; pass = pass } ∷ [] → copy ≡ name → place ≡ length clients → place_of clients name ≡ None
      → ((other : List ℕ) → after other ≡ cond (bytes_eq other name) (Some place) (kept other)) → AreKept after longer
  kept_grown kept after clients longer name copy pass place are is same at fresh set = (
    λ other.
        set other
        ∙ ap (λ (n : ℕ). cond (bytes_eq other name) (Some n) (kept other)) at
        ∙ ap (λ (o : Option ℕ). cond (bytes_eq other name) (Some (length clients)) o) (are.0 other)
        ∙ sym (place_grown clients longer name copy pass is same fresh other),
    subst (λ (l : List (Client C)). AreApart l) (sym is)
        (apart_more clients (record { name = copy; pass = pass }) are.1 (ap (λ (n : List ℕ). place_of clients n) same ∙ fresh)),
  )

  pub kept_as : (kept : List ℕ → Option ℕ) (clients now : List (Client C)) → clients ≡ now → AreKept kept clients → AreKept kept now
  kept_as kept clients now is are = subst (λ (l : List (Client C)). AreKept kept l) is are

  -- a client whose pass is another one then
  set_pass : (clients : List (Client C)) (place : ℕ) (found : Client C) (pass : ClientPass C) → slice_get clients place ≡ Some found
      → set clients place (record { name = found.name; pass = pass }) ≡ with_pass clients place pass
  set_pass [] place found pass is = refl
  set_pass (client ∷ clients) zero found pass is =
      let same : client ≡ found = some_inj is in sym (ap (λ (c : Client C). record { name = c.name; pass = pass } ∷ clients) same)
  set_pass (client ∷ clients) (suc place) found pass is = ap (λ (l : List (Client C)). client ∷ l) (set_pass clients place found pass is)

  module _ (clients now : List (Client C)) (place : ℕ) (found : Client C) (is : clients ≡ now) (in' : place < length now) (read : found ≡ slice_index_or clients place found) where
    stands : slice_get clients place ≡ Some found
    stands = slice_get_read clients (length clients) place found refl (subst (λ (l : List (Client C)). place < length l) (sym is) in') read

    pub pass_stands : pass_at now place ≡ Some found.pass
    pass_stands = subst (λ (l : List (Client C)). pass_at l place ≡ Some found.pass) is (ap (option_map (λ (c : Client C). c.pass)) stands)

    pub pass_set : (pass : ClientPass C) → set clients place (record { name = found.name; pass = pass }) ≡ with_pass now place pass
    pass_set pass = set_pass clients place found pass stands ∙ ap (λ (l : List (Client C)). with_pass l place pass) is

    pub kept_lent : (kept : List ℕ → Option ℕ) → AreKept kept clients → (pass : ClientPass C) → AreKept kept (set clients place (record { name = found.name; pass = pass }))
    kept_lent kept are pass =
        subst (λ (l : List (Client C)). AreKept kept l) (sym (set_pass clients place found pass stands))
        (λ name. are.0 name ∙ sym (place_kept clients place pass name), apart_kept clients place pass are.1)
