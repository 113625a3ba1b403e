-- Lists of calls, one after the other.
use Rattle.std.proofs.Common.{◌≡◌, List, [], ◌∷◌, ◌++◌, refl, sym, subst}
use Rattle.port.specs.Store.{StoreView}
use Rattle.port.specs.Link.{LinkView}
use Rattle.port.specs.Trace.{Event, AtStore, AtLink, Ran}
use Rattle.coordinator.specs.ViewsGot.{Asked}

module _ {S L : Type 0} (sv : S → StoreView) (lv : L → LinkView) where
  pub ran_more : (s m s' : S) (l k l' : L) (past events : List Event) → Ran sv lv s l past m k → Ran sv lv m k events s' l' → Ran sv lv s l (events ++ past) s' l'
  ran_more s m s' l k l' past [] ran more = subst (λ (x : S). Ran sv lv s l past x l') (sym more.0) (subst (λ (y : L). Ran sv lv s l past m y) (sym more.1) ran)
  ran_more s m s' l k l' past (event ∷ events) ran more = (more.0, more.1, ran_more s m more.0 l k more.1 past events ran more.2, more.3)

  -- calls of the store alone leave the link as it was
  pub ran_at_store : (s s' : S) (l : L) (events : List Event) → Asked sv s events s' → Ran sv lv s l events s' l
  ran_at_store s s' l [] asked = (asked, refl)
  ran_at_store s s' l (AtStore call answer ∷ past) asked = (asked.0, l, ran_at_store s asked.0 l past asked.1, (asked.2, refl))
  ran_at_store s s' l (AtLink id call heard ∷ past) asked = absurd asked

module _ {S : Type 0} (sv : S → StoreView) where
  pub asked_more : (s m s' : S) (past events : List Event) → Asked sv s past m → Asked sv m events s' → Asked sv s (events ++ past) s'
  asked_more s m s' past [] asked more = subst (λ (x : S). Asked sv s past x) (sym more) asked
  asked_more s m s' past (AtStore call answer ∷ events) asked more = (more.0, asked_more s m more.0 past events asked more.1, more.2)
  asked_more s m s' past (AtLink id call heard ∷ events) asked more = absurd more
