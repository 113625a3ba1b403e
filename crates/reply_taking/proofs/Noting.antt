-- What a client notes after the views that it took.
use Rattle.std.proofs.Common.{◌≡◌, Option, Some, None, Result, Ok, Err, sym, subst}
use Rattle.verifier.specs.declared.reply_fault.ReplyFault.{ReplyFault}
use Rattle.client_pass.specs.declared.take_fault.TakeFault.{TakeFault}
use Rattle.client_pass.specs.declared.take_fault.TakeFault.TheVariants.{Reply, View, Again, NoMemory}
use Rattle.client_pass.specs.Act.{Act}
use Rattle.client_pass.specs.Answers.{IfNotNoted, IfReplyNoted}
use Rattle.client_pass.specs.ClientPass.{ClientPass, Notes}
use Rattle.reply_taking.specs.Learning.{NotedAfterViews, TakesViews}

after : {C : Type 0} (old middle new : ClientPass C) (act : Act) → TakesViews old middle → Notes middle new act → NotedAfterViews old new act
after old middle new act views notes = record { middle = middle; views = views; noted = notes }

unnoted_same : {C : Type 0} (old middle new : ClientPass C) → TakesViews old middle → new ≡ middle → TakesViews old new
unnoted_same old middle new views same = subst (λ pass. TakesViews old pass) (sym same) views

module _ {A C : Type 0} (old middle new : ClientPass C) (act : Option ReplyFault → Act) (views : TakesViews old middle) where
  pub noted_after : (result : Result A TakeFault) → IfReplyNoted result (λ fault. Notes middle new (act fault)) → IfReplyNoted result (λ fault. NotedAfterViews old new (act fault))
  noted_after (Ok value) notes = after old middle new (act None) views notes
  noted_after (Err (Reply fault)) notes = after old middle new (act (Some fault)) views notes
  noted_after (Err (View fault)) notes = notes
  noted_after (Err Again) notes = tt
  noted_after (Err NoMemory) notes = tt

  pub unnoted_after : (result : Result A TakeFault) → IfNotNoted result (new ≡ middle) → IfNotNoted result (TakesViews old new)
  unnoted_after (Ok value) same = tt
  unnoted_after (Err (Reply fault)) same = tt
  unnoted_after (Err (View fault)) same = tt
  unnoted_after (Err Again) same = unnoted_same old middle new views same
  unnoted_after (Err NoMemory) same = unnoted_same old middle new views same
