-- Calls to the outside, one after another.
use Rattle.std.specs.Prelude.{◌≡◌, ◌⊎◌, ℕ, ◌+◌, ◌≤◌, Bool, List, [], ◌∷◌}
use Rattle.port.specs.Call.{Call}
use Rattle.port.specs.Heard.{Heard}
use Rattle.port.specs.Contents.{Contents}
use Rattle.port.specs.Store.{StoreCall, StoreAnswer, StoreView, StoreStep, IsHonest, Truth, Follows, failures}
use Rattle.port.specs.Link.{LinkView, LinkStep, Bank, Served, IsFaithful, IsServing, losses}

-- a call of a store and its answer; a call over a link, by id, and what was heard
pub data Event : Type 0 where
  AtStore : StoreCall → StoreAnswer → Event
  AtLink : ℕ → Call → Heard → Event

module _ {S L : Type 0} (store_view : S → StoreView) (link_view : L → LinkView) where
  -- this call was made, and no other
  abbrev pub Happened : S → L → Event → S → L → Type 0
  Happened s l (AtStore call answer) s' l' = StoreStep store_view s s' call answer × (l' ≡ l)
  Happened s l (AtLink id call heard) s' l' = LinkStep link_view l l' id call heard × (s' ≡ s)

  -- these calls were made, the newest first, and no other
  abbrev pub Ran : S → L → List Event → S → L → Type 0
  Ran s l [] s' l' = (s' ≡ s) × (l' ≡ l)
  Ran s l (event ∷ past) s' l' = (m : S) × (k : L) × Ran s l past m k × Happened m k event s' l'

  -- some calls were made of which P holds, the newest first, and no other
  abbrev pub Asked : S → L → S → L → (List Event → Type 0) → Type 0
  Asked s l s' l' P = (events : List Event) × Ran s l events s' l' × P events

-- this call is one of them
abbrev pub Had : List Event → Event → Type 0
Had [] event = ⊥
Had (first ∷ past) event = (first ≡ event) ⊎ Had past event

-- the call stands under a number from the first state on
abbrev pub StoreFact : {S : Type 0} → (S → StoreView) → S → S → StoreCall → StoreAnswer → Type 0
StoreFact view s s' call answer = (n : ℕ) × ((view s).calls ≤ n) × (view s').was n call answer

abbrev pub LinkFact : {L : Type 0} → (L → LinkView) → L → L → ℕ → Call → Heard → Type 0
LinkFact view l l' id call heard = (n : ℕ) × ((view l).calls ≤ n) × (view l').was n id call heard

-- what honest contents became by these calls
abbrev pub AreHonest : Contents → List Event → Contents → Type 0
AreHonest contents [] after = after ≡ contents
AreHonest contents (AtStore call answer ∷ past) after = (before : Contents) × AreHonest contents past before × IsHonest before call answer after
AreHonest contents (AtLink id call heard ∷ past) after = AreHonest contents past after

-- what became by these calls of what really stood
abbrev pub AllFollow : Truth → List Event → Truth → Type 0
AllFollow truth [] after = after ≡ truth
AllFollow truth (AtStore call answer ∷ past) after = (before : Truth) × AllFollow truth past before × Follows before call answer after
AllFollow truth (AtLink id call heard ∷ past) after = AllFollow truth past after

-- what became by these calls of endorsers that lose none
abbrev pub AreFaithful : (List ℕ → List ℕ → List ℕ → Bool) → Bank → List Event → Bank → Type 0
AreFaithful signs bank [] after = after ≡ bank
AreFaithful signs bank (AtStore call answer ∷ past) after = AreFaithful signs bank past after
AreFaithful signs bank (AtLink id call heard ∷ past) after = (before : Bank) × AreFaithful signs bank past before × IsFaithful signs before id call heard after

-- what was served, also by these calls
abbrev pub AllServe : List Served → List Event → List Served → Type 0
AllServe served [] after = after ≡ served
AllServe served (AtStore call answer ∷ past) after = AllServe served past after
AllServe served (AtLink id call heard ∷ past) after = (before : List Served) × AllServe served past before × IsServing before id call heard after

-- how many of the calls failed
abbrev pub failed_in : List Event → ℕ
failed_in [] = 0
failed_in (AtStore call answer ∷ past) = failures answer + failed_in past
failed_in (AtLink id call heard ∷ past) = failed_in past

-- how many of the calls of this id were lost
abbrev pub lost_in : ℕ → List Event → ℕ
lost_in id [] = 0
lost_in id (AtStore call answer ∷ past) = lost_in id past
lost_in id (AtLink other call heard ∷ past) = losses other heard id + lost_in id past
