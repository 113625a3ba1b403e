-- The draws of operations stay.
use Rattle.std.proofs.Common.{◌≡◌, ℕ, zero, suc, ◌<◌, List, [], ◌∷◌, ◌++◌, length, slice_get, Some, refl, sym, ap, subst, arith}
use Rattle.chain_block.specs.declared.entry.Entry.{Entry}
use Rattle.client_pass.specs.Act.{Line}
use Rattle.client_pass.specs.ClientList.{IsForEntry, IsForRead}
use Rattle.client_pass.specs.ClientPass.{ClientPass}
use Rattle.client_acts.specs.ClientActs.{ClientActs, StaysOn}
use Rattle.answer_lines.specs.Draws.{DrewRead}
use Rattle.script_operations.specs.Task.{AllHave, HasDraw, IsAmong, Height, Newest, Own, Task}
use Rattle.script_operations.proofs.Tasks.{all_more, all_push, get_more, one_of}

pub within : {X : Type 0} (xs : List X) (place : ℕ) (x : X) → slice_get xs place ≡ Some x → place < length xs
within [] place x stood = absurd (cc stood)
within (y ∷ xs) zero x stood = omega arith
within (y ∷ xs) (suc place) x stood = let rest = within xs place x stood in omega (arith, rest)

one_longer : {X : Type 0} (xs : List X) (x : X) → length (xs ++ x ∷ []) ≡ suc (length xs)
one_longer [] x = refl
one_longer (first ∷ xs) x = ap suc (one_longer xs x)

module _ {C : Type 0}
    (entries_stay : (lines more : List Line) (draw : ℕ) (entry : Entry) → IsForEntry lines draw entry → IsForEntry (lines ++ more) draw entry)
    (reads_stay : (lines more : List Line) (draw : ℕ) (nonce : List ℕ) → IsForRead lines draw nonce → IsForRead (lines ++ more) draw nonce)
    (old new : ClientActs C) (stays : StaysOn old new) where
  one_stays : (task : Task) → HasDraw old.clients task → HasDraw new.clients task
  one_stays (Own client draw entry) ((pass, stood, is_for), limits) =
      let now = stays.grow client pass stood in
      ((now.0, now.1, subst (λ (lines : List Line). IsForEntry lines draw entry) (sym now.2.lines) (entries_stay pass.lines now.2.more draw entry is_for)), limits)
  one_stays (Newest client draw handle nonce) (pass, stood, is_for) =
      let now = stays.grow client pass stood in
      (now.0, now.1, subst (λ (lines : List Line). IsForRead lines draw nonce) (sym now.2.lines) (reads_stay pass.lines now.2.more draw nonce is_for))
  one_stays (Height client handle height) (here, below) = (subst (λ (n : ℕ). client < n) (sym stays.count) here, below)

  pub all_stay : (tasks : List Task) → AllHave old.clients tasks → AllHave new.clients tasks
  all_stay tasks all = all_more (HasDraw old.clients) (HasDraw new.clients) one_stays tasks all

module _ {C : Type 0} (clients : List (ClientPass C)) where
  one_more : (more : ClientPass C) (task : Task) → HasDraw clients task → HasDraw (clients ++ more ∷ []) task
  one_more more (Own client draw entry) ((pass, stood, is_for), limits) = ((pass, get_more clients more pass client stood, is_for), limits)
  one_more more (Newest client draw handle nonce) (pass, stood, is_for) = (pass, get_more clients more pass client stood, is_for)
  one_more more (Height client handle height) (here, below) =
      let longer = one_longer clients more in
      (omega (arith, here, longer), below)

  pub all_with_client : (more : ClientPass C) (tasks : List Task) → AllHave clients tasks → AllHave (clients ++ more ∷ []) tasks
  all_with_client more tasks all = all_more (HasDraw clients) (HasDraw (clients ++ more ∷ [])) (one_more more) tasks all

  pub all_with_task : (tasks : List Task) (more : Task) → AllHave clients tasks → HasDraw clients more → AllHave clients (tasks ++ more ∷ [])
  all_with_task tasks more all one = all_push (HasDraw clients) tasks more all one

  pub who_reads : (tasks : List Task) (client draw : ℕ) (handle nonce : List ℕ) → AllHave clients tasks → IsAmong (Newest client draw handle nonce) tasks → client < length clients
  who_reads tasks client draw handle nonce all (place, is) =
      let drew : DrewRead clients client draw nonce = one_of (HasDraw clients) tasks place (Newest client draw handle nonce) all is in
      within clients client drew.0 drew.1
