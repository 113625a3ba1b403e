-- Clients that stay on, whatever is done.
use Rattle.std.proofs.Common.{◌≡◌, inl, inr, ℕ, zero, suc, List, [], ◌∷◌, ◌++◌, length, slice_get, set, Some, refl, sym, ap, subst, ◌∙◌, append_assoc, append-nil}
use Rattle.std.proofs.lemmas.Bool.Decides.{eqb_tells}
use Rattle.std.proofs.Math.ListN.{length-set}
use Rattle.client_pass.specs.Act.{Line}
use Rattle.client_pass.specs.ClientPass.{ClientPass}
use Rattle.reply_taking.specs.Learning.{Grows, TakesViews}
use Rattle.client_acts.specs.ClientActs.{ClientActs, Acts, StaysOn}
use Rattle.client_acts.proofs.Placing.{get_set, get_other}

grows_same : {C : Type 0} (pass : ClientPass C) → Grows pass pass
grows_same pass = record {
  client = refl;
  checker = refl;
  first = refl;
  more = [];
  lines = sym (append-nil pass.lines);
}

pub views_same : {C : Type 0} (pass : ClientPass C) → TakesViews pass pass
unfolding grows_same
views_same pass = record { grows = grows_same pass; views = tt }

grows_again : {C : Type 0} (old middle new : ClientPass C) → Grows old middle → Grows middle new → Grows old new
grows_again old middle new one other = record {
  client = other.client ∙ one.client;
  checker = other.checker ∙ one.checker;
  first = other.first ∙ one.first;
  more = one.more ++ other.more;
  lines = other.lines ∙ ap (λ (lines : List Line). lines ++ other.more) one.lines ∙ append_assoc old.lines one.more other.more;
}

pub stays_same : {C : Type 0} (acts : ClientActs C) → StaysOn acts acts
stays_same acts = record {
  first = refl;
  names = refl;
  count = refl;
  grow = λ place from stood. (from, stood, grows_same from);
}

pub stays_again : {C : Type 0} (old middle new : ClientActs C) → StaysOn old middle → StaysOn middle new → StaysOn old new
stays_again old middle new one other = record {
  first = other.first ∙ one.first;
  names = other.names ∙ one.names;
  count = other.count ∙ one.count;
  grow = λ place from stood.
      let between = one.grow place from stood in
      let after = other.grow place between.0 between.1 in
      (after.0, after.1, grows_again from between.0 after.0 between.2 after.2);
}

one_grows : {C : Type 0} (clients : List (ClientPass C)) (place : ℕ) (from to : ClientPass C) → slice_get clients place ≡ Some from → Grows from to
    → (other : ℕ) (was : ClientPass C) → slice_get clients other ≡ Some was
    → (now : ClientPass C) × (slice_get (set clients place to) other ≡ Some now) × Grows was now
one_grows {C} clients place from to stood grows other was is =
    elim (eqb_tells place other) [
      | inl same ↦
          let here : slice_get clients other ≡ Some from = subst (λ (n : ℕ). slice_get clients n ≡ Some from) same.1 stood in
          let equal : from ≡ was = cc (here, is) in
          (to, subst (λ (n : ℕ). slice_get (set clients place to) n ≡ Some to) same.1 (get_set clients place from to stood), subst (λ (pass : ClientPass C). Grows pass to) equal grows)
      | inr differs ↦ (was, get_other clients place other to differs.1 ∙ is, grows_same was)
    ]

pub stays_acts : {C : Type 0} (old new : ClientActs C) (place : ℕ) (from to : ClientPass C) → Acts old new place from to → StaysOn old new
stays_acts {C} old new place from to acts = record {
  first = acts.first;
  names = acts.names;
  count = ap length acts.stands ∙ length-set old.clients place to;
  grow = λ other was is.
      let found = one_grows old.clients place from to acts.stood acts.grows other was is in
      (found.0, ap (λ (clients : List (ClientPass C)). slice_get clients other) acts.stands ∙ found.1, found.2);
}

set_same : {X : Type 0} (xs : List X) (n : ℕ) (x : X) → slice_get xs n ≡ Some x → set xs n x ≡ xs
set_same [] n x e = refl
set_same (z ∷ zs) zero x e = cc
set_same (z ∷ zs) (suc n) x e = ap (λ rest. z ∷ rest) (set_same zs n x e)

pub idle : {C : Type 0} (acts : ClientActs C) (place : ℕ) (from : ClientPass C) → slice_get acts.clients place ≡ Some from → Acts acts acts place from from
idle acts place from stood = record {
  stood = stood;
  stands = sym (set_same acts.clients place from stood);
  grows = grows_same from;
  first = refl;
  names = refl;
}
