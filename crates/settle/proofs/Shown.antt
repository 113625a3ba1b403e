-- What shows the cause of a refusal.
use Rattle.std.proofs.Common.{◌≡◌, inl, inr, ℕ, List, [], ◌∷◌, Some, refl, sym, ◌∙◌, ap}
use Rattle.port.specs.declared.key.Key.{Key}
use Rattle.port.specs.declared.key.Key.TheVariants as keys
use Rattle.port.specs.declared.store_answers.Got.{Got}
use Rattle.port.specs.declared.store_answers.Got.TheVariants as gots
use Rattle.port.specs.Answer.{Refused, Stands}
use Rattle.port.specs.Cause.{MemberCause, Cause, StoreFault, Gap, BadRow, NoQuorum, ViewMoved, Contended, Full, TooFar, IsShown}
use Rattle.port.specs.Store.{Get, WasGot}
use Rattle.port.specs.Trace.{Event, AtStore}
use Rattle.catch_up.specs.Says.{IsRowRefused}
use Rattle.view_ledger.specs.Receipts.{Accepts}
use Rattle.op_parts.specs.Walk.{Place, IsRefused as IsWalkRefused}
use Rattle.settle.specs.Settling.{Settling}
use Rattle.settle.specs.Sound.{got_at}
use Rattle.settle.specs.Says.{Tells, IsRefused}

row_shown : (handle : List ℕ) (height : ℕ) (event : Event) (past : List Event) (cause : Cause) → IsRowRefused handle height event cause → IsShown (event ∷ past) cause
row_shown handle height event past StoreFault is = (Get (keys.Row handle height), WasGot gots.Failed, inl is, refl)
row_shown handle height event past (Gap ledger missing) is =
    inl (is.2 ∙ ap (λ (h : List ℕ). AtStore (Get (keys.Row h height)) (WasGot gots.None)) (sym is.0)
    ∙ ap (λ (n : ℕ). AtStore (Get (keys.Row ledger n)) (WasGot gots.None)) (sym is.1))
row_shown handle height event past (BadRow key (Some bytes)) is = (is.1.0, inl is.1.1, is.1.2)
row_shown handle height event past cause is = absurd is

walk_shown : (settling : Settling) (place : Place) (got : Got) (event : Event) (past : List Event) (cause : Cause) → event ≡ got_at settling place.height got
    → IsWalkRefused settling.handle place got cause → IsShown (event ∷ past) cause
walk_shown settling place got event past StoreFault at is =
    (Get (keys.Row settling.handle place.height), WasGot gots.Failed, inl (at ∙ ap (λ (g : Got). got_at settling place.height g) is), refl)
walk_shown settling place got event past (BadRow key (Some bytes)) at is = (
  is.1.0,
  inl (at ∙ ap (λ (g : Got). got_at settling place.height g) is.1.1 ∙ ap (λ (k : Key). AtStore (Get k) (WasGot (gots.Some is.1.0))) (sym is.0)),
  is.1.2,
)
walk_shown settling place got event past (TooFar needed) at is = tt
walk_shown settling place got event past cause at is = absurd is

told_shown : (settling : Settling) (place : Place) (causes : List (ℕ × MemberCause)) (past : List Event) (cause : Cause) → Tells settling place causes past cause → IsShown past cause
told_shown settling place causes past (ViewMoved from id statement sig) tells = tells.2
told_shown settling place causes past (Full id) tells = tells.1
told_shown settling place causes past (Contended id first later) tells = (tells.2, (Refused (Stands later tells.4.0), tells.4.1, refl))
told_shown settling place causes past (NoQuorum need reasons) tells = tells.3
told_shown settling place causes past cause tells = absurd tells

-- the calls show the cause
pub shown : (accepts : Accepts) (settling : Settling) (past : List Event) (cause : Cause) → IsRefused accepts settling past cause → IsShown past cause
shown accepts settling [] cause (inl is) = absurd is
shown accepts settling (event ∷ past) cause (inl (round, place, asked, id, below, is)) = row_shown settling.handle _ event past cause is
shown accepts settling [] cause (inr (inl is)) = absurd is
shown accepts settling (event ∷ past) cause (inr (inl (causes, place, got, so_far, at, is))) = walk_shown settling place got event past cause at is
shown accepts settling past cause (inr (inr (place, causes, none, is, tells))) = told_shown settling place causes past cause tells
