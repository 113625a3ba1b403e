-- Clients that do more, one thing after the other.
use Rattle.std.proofs.Common.{◌≡◌, List, [], ◌∷◌, ◌++◌, Option, Some, None, Result, Ok, Err, refl, sym, ap, subst, ◌∙◌, append_assoc, append-nil}
use Rattle.std.specs.List.{AllByRecursion}
use Rattle.port.specs.View.{ViewRow}
use Rattle.view_ledger.specs.declared.view_fault.ViewFault.{ViewFault}
use Rattle.verifier.specs.declared.reply_fault.ReplyFault.{ReplyFault}
use Rattle.client_pass.specs.declared.take_fault.TakeFault.{TakeFault}
use Rattle.client_pass.specs.declared.take_fault.TakeFault.TheVariants.{Reply, View, Again, NoMemory}
use Rattle.client_pass.specs.Act.{Act, Line, line}
use Rattle.client_pass.specs.Act as acts
use Rattle.client_pass.specs.Answers.{IfReplyNoted, IfNotNoted, IfViewNoted}
use Rattle.client_pass.specs.ClientList.{chain_after}
use Rattle.client_pass.specs.ClientPass.{ClientPass, Notes}
use Rattle.reply_taking.specs.Learning.{AreViews, Grows, TakesViews}

pub grows_same : {C : Type 0} (pass : ClientPass C) → Grows pass pass
grows_same pass = record {
  client = refl;
  checker = refl;
  first = refl;
  more = [];
  lines = sym (append-nil pass.lines);
}

pub grows_again : {C : Type 0} (old middle new : ClientPass C) → Grows old middle → Grows middle new → Grows old new
grows_again old middle new one other = record {
  client = other.client ∙ one.client;
  checker = other.checker ∙ one.checker;
  first = other.first ∙ one.first;
  more = one.more ++ other.more;
  lines = other.lines ∙ ap (λ (lines : List Line). lines ++ other.more) one.lines ∙ append_assoc old.lines one.more other.more;
}

notes_grow : {C : Type 0} (old new : ClientPass C) (act : Act) → Notes old new act → Grows old new
notes_grow {C} old new act notes = record {
  client = ap (λ (pass : ClientPass C). pass.client) notes.noted;
  checker = ap (λ (pass : ClientPass C). pass.checker) notes.noted;
  first = ap (λ (pass : ClientPass C). pass.first) notes.noted;
  more = line notes.stamp act ∷ [];
  lines = ap (λ (pass : ClientPass C). pass.lines) notes.noted;
}

same_grows : {C : Type 0} (old new : ClientPass C) → new ≡ old → Grows old new
same_grows old new same = subst (λ pass. Grows old pass) (sym same) (grows_same old)

noted_chain : {C : Type 0} (old new : ClientPass C) (act : Act) → chain_after old.chain act ≡ old.chain → Notes old new act → new.chain ≡ old.chain
noted_chain {C} old new act stays notes = ap (λ (pass : ClientPass C). pass.chain) notes.noted ∙ stays

-- ---- views that are taken

all_append : {X : Type 0} (P : X → Type 0) (xs ys : List X) → AllByRecursion P xs → AllByRecursion P ys → AllByRecursion P (xs ++ ys)
all_append P [] ys one other = other
all_append P (x ∷ xs) ys one other = (one.0, all_append P xs ys one.1 other)

views_append : (some more : List Line) → AreViews some → AreViews more → AreViews (some ++ more)
views_append some more one other = all_append (λ (line : Line). (row : ViewRow) × (fault : Option ViewFault) × (line.act ≡ acts.View row fault)) some more one other

pub views_same : {C : Type 0} (pass : ClientPass C) → TakesViews pass pass
unfolding grows_same
views_same pass = record { grows = grows_same pass; views = tt }

pub views_again : {C : Type 0} (old middle new : ClientPass C) → TakesViews old middle → TakesViews middle new → TakesViews old new
unfolding grows_again
views_again old middle new one other = record {
  grows = grows_again old middle new one.grows other.grows;
  views = views_append one.grows.more other.grows.more one.views other.views;
}

same_views : {C : Type 0} (old new : ClientPass C) → new ≡ old → TakesViews old new
same_views old new same = subst (λ pass. TakesViews old pass) (sym same) (views_same old)

one_view : {C : Type 0} (old new : ClientPass C) (row : ViewRow) (fault : Option ViewFault) → Notes old new (acts.View row fault) → TakesViews old new
unfolding notes_grow
one_view old new row fault notes = record {
  grows = notes_grow old new (acts.View row fault) notes;
  views = ((row, fault, refl), tt);
}

-- a check of a view notes one line, or none
pub view_taken : {A C : Type 0} (old new : ClientPass C) (row : ViewRow) (result : Result A TakeFault)
    → IfViewNoted result (λ fault. Notes old new (acts.View row fault)) → IfNotNoted result (new ≡ old) → TakesViews old new
view_taken old new row (Ok value) notes same = one_view old new row None notes
view_taken old new row (Err (Reply fault)) notes same = absurd notes
view_taken old new row (Err (View fault)) notes same = one_view old new row (Some fault) notes
view_taken old new row (Err Again) notes same = absurd notes
view_taken old new row (Err NoMemory) notes same = same_views old new same

-- ---- replies

-- a check of a reply notes one line, or none
module _ {A C : Type 0} (old new : ClientPass C) (act : Option ReplyFault → Act) where
  pub reply_grows : (result : Result A TakeFault) → IfReplyNoted result (λ fault. Notes old new (act fault)) → IfNotNoted result (new ≡ old) → Grows old new
  reply_grows (Ok value) notes same = notes_grow old new (act None) notes
  reply_grows (Err (Reply fault)) notes same = notes_grow old new (act (Some fault)) notes
  reply_grows (Err (View fault)) notes same = absurd notes
  reply_grows (Err Again) notes same = same_grows old new same
  reply_grows (Err NoMemory) notes same = same_grows old new same

  pub reply_keeps_chain : (result : Result A TakeFault) → ((fault : Option ReplyFault) → chain_after old.chain (act fault) ≡ old.chain)
      → IfReplyNoted result (λ fault. Notes old new (act fault)) → IfNotNoted result (new ≡ old) → new.chain ≡ old.chain
  reply_keeps_chain (Ok value) stays notes same = noted_chain old new (act None) (stays None) notes
  reply_keeps_chain (Err (Reply fault)) stays notes same = noted_chain old new (act (Some fault)) (stays (Some fault)) notes
  reply_keeps_chain (Err (View fault)) stays notes same = absurd notes
  reply_keeps_chain (Err Again) stays notes same = ap (λ (pass : ClientPass C). pass.chain) same
  reply_keeps_chain (Err NoMemory) stays notes same = ap (λ (pass : ClientPass C). pass.chain) same
