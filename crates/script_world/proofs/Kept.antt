-- What stays so of a run, whatever is done.
use Rattle.std.proofs.Common.{◌≡◌, ℕ, ◌+◌, List, [], ◌∷◌, ◌++◌, length, map, sym, ap, subst, ◌∙◌}
use Rattle.std.specs.Option.{option_map}
use Rattle.std.proofs.lemmas.List.{length-append, map-append}
use Rattle.std.proofs.lemmas.Option.{slice_get-map}
use Rattle.client_pass.specs.ClientPass.{ClientPass}
use Rattle.client_acts.specs.ClientActs.{ClientActs, StaysOn}
use Rattle.view_ledger.specs.Views.{ViewChain}
use Rattle.script_operations.specs.Operations.{Operations, Begun, HasBegun, IsOpen, Progress, task_in, tasks_of}
use Rattle.script_operations.specs.Task.{AllHave, HasDraw, IsAmong, Newest, Task}
use Rattle.script_world.specs.Running.{IsKept}

-- the tasks of operations of which one more was begun
tasks_more : (old new : Operations) (name : List ℕ) (task : Task) (label : List ℕ) (chain : ViewChain) → HasBegun old new name task label chain → tasks_of new ≡ tasks_of old ++ task ∷ []
tasks_more old new name task label chain has =
    let begun : Begun = record { task = task; label = label; progress = has.progress } in
    ap (λ (all : List Begun). map task_in all) has.more.all ∙ map-append task_in old.all (begun ∷ [])

-- whoever reads is one of the tasks
pub reads_among : (operations : Operations) (name : List ℕ) (client : ℕ) (handle nonce : List ℕ)
    → ((place : ℕ) × (draw : ℕ) × (label : List ℕ) × (progress : Progress) × IsOpen operations name place (record { task = Newest client draw handle nonce; label = label; progress = progress }))
    → (draw : ℕ) × IsAmong (Newest client draw handle nonce) (tasks_of operations)
reads_among operations name client handle nonce (place, draw, label, progress, open_read) =
    (draw, (place, slice_get-map task_in operations.all place ∙ ap (option_map task_in) open_read.is.stands))

module _ {C : Type 0} where
  pub kept_on : ((old new : ClientActs C) (tasks : List Task) → StaysOn old new → AllHave old.clients tasks → AllHave new.clients tasks)
      → (old new : ClientActs C) (operations : Operations) → StaysOn old new → IsKept old operations → IsKept new operations
  kept_on law old new operations stays kept = record {
    named = ap length stays.names ∙ (kept.named ∙ sym stays.count);
    drawn = law old new (tasks_of operations) stays kept.drawn;
  }

  pub kept_with : (acts : ClientActs C) (old new : Operations) → tasks_of new ≡ tasks_of old → IsKept acts old → IsKept acts new
  kept_with acts old new same kept = record {
    named = kept.named;
    drawn = subst (λ (tasks : List Task). AllHave acts.clients tasks) (sym same) kept.drawn;
  }

  pub kept_begun : ((clients : List (ClientPass C)) (tasks : List Task) (more : Task) → AllHave clients tasks → HasDraw clients more → AllHave clients (tasks ++ more ∷ []))
      → (acts : ClientActs C) (old new : Operations) (name : List ℕ) (task : Task) (label : List ℕ) (chain : ViewChain)
      → HasBegun old new name task label chain → HasDraw acts.clients task → IsKept acts old → IsKept acts new
  kept_begun law acts old new name task label chain has draw kept = record {
    named = kept.named;
    drawn = subst (λ (tasks : List Task). AllHave acts.clients tasks) (sym (tasks_more old new name task label chain has)) (law acts.clients (tasks_of old) task kept.drawn draw);
  }

  pub kept_more : ((clients : List (ClientPass C)) (more : ClientPass C) (tasks : List Task) → AllHave clients tasks → AllHave (clients ++ more ∷ []) tasks)
      → (old new : ClientActs C) (operations : Operations) (name : List ℕ) (client : ClientPass C)
      → new.names ≡ old.names ++ name ∷ [] → new.clients ≡ old.clients ++ client ∷ [] → IsKept old operations → IsKept new operations
  kept_more law old new operations name client names clients kept =
      let count : length new.names ≡ length old.names + 1 = ap length names ∙ length-append old.names (name ∷ []) in
      let places : length new.clients ≡ length old.clients + 1 = ap length clients ∙ length-append old.clients (client ∷ []) in
      record {
        named = count ∙ (ap (λ (n : ℕ). n + 1) kept.named ∙ sym places);
        drawn = subst (λ (clients : List (ClientPass C)). AllHave clients (tasks_of operations)) (sym clients) (law old.clients client (tasks_of operations) kept.drawn);
      }

  pub kept_closed : (acts : ClientActs C) (old new : Operations) → new ≡ record { all = old.all; names = old.names; open_from = length old.all } → IsKept acts old → IsKept acts new
  kept_closed acts old new closed kept = kept_with acts old new (ap tasks_of closed) kept
