-- What an honest store gave.
use Rattle.std.proofs.Common.{◌≡◌, List, [], ◌∷◌, ◌++◌, refl, subst}
use Rattle.port.specs.declared.key.Key.{Key}
use Rattle.port.specs.declared.store_answers.Got.{Got}
use Rattle.port.specs.declared.store_answers.Got.TheVariants as gots
use Rattle.port.specs.Contents.{Contents}
use Rattle.port.specs.Store.{Get, WasGot, IsHonest}
use Rattle.port.specs.Trace.{Event, AtStore, AtLink, AreHonest}

-- what stood before the newest call, a get
pub record Before (contents : Contents) (past : List Event) (key : Key) (got : Got) (after : Contents) : Type 0 where
  pub before : Contents
  pub honest : AreHonest contents past before
  pub answered : IsHonest before (Get key) (WasGot got) after

pub newest_get : (contents after : Contents) (past : List Event) (event : Event) (key : Key) (got : Got) → event ≡ AtStore (Get key) (WasGot got)
    → AreHonest contents (event ∷ past) after → Before contents past key got after
newest_get contents after past event key got is honest =
    let h = subst (λ (e : Event). AreHonest contents (e ∷ past) after) is honest in
    record { before = h.0; honest = h.1; answered = h.2 }

-- a get changes nothing
pub unchanged : (before : Contents) (key : Key) (got : Got) (after : Contents) → IsHonest before (Get key) (WasGot got) after → after ≡ before
unchanged before key (gots.Some stored) after honest = honest.1
unchanged before key gots.None after honest = honest.1
unchanged before key gots.NoMemory after honest = honest
unchanged before key gots.Failed after honest = absurd honest

-- the older of some calls, and then the newer
pub split_calls : (contents : Contents) (newer older : List Event) (after : Contents) → AreHonest contents (newer ++ older) after
    → (middle : Contents) × AreHonest contents older middle × AreHonest middle newer after
split_calls contents [] older after honest = (after, honest, refl)
split_calls contents (AtStore call answer ∷ newer) older after honest =
    let s = split_calls contents newer older honest.0 honest.1 in (s.0, s.1, (honest.0, s.2, honest.2))
split_calls contents (AtLink id call heard ∷ newer) older after honest =
    let s = split_calls contents newer older after honest in (s.0, s.1, s.2)
