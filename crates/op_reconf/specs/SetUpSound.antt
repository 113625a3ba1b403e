-- Which calls have set up the members of a view.
use Rattle.std.specs.Prelude.{◌≡◌, ◌⊎◌, ℕ, zero, suc, Bool, true, false, List, [], ◌∷◌, ◌++◌, Option, Some, None}
use Rattle.statement.specs.declared.member.Member.{Member}
use Rattle.port.specs.Answer.{Done}
use Rattle.port.specs.Cause.{MemberCause}
use Rattle.port.specs.Heard.{Heard, Answered}
use Rattle.port.specs.Trace.{Event, AtLink}
use Rattle.op_reconf.specs.SettingUp.{Asking, SettingUp, IsMember, Gives}

-- the first call to this member, and the second one, and what was heard of it
abbrev pub initialize_at : Asking → ℕ → Heard → Event
initialize_at ask id heard = AtLink id ask.initialize heard

abbrev pub activate_at : Asking → ℕ → Heard → Event
activate_at ask id heard = AtLink id ask.activate heard

-- after these calls a member got the first call, of which that was heard; or it was done with that and got the second
abbrev pub WasAsked : Asking → ℕ → Heard → List Event → List Event → Type 0
WasAsked ask id heard before past =
    (past ≡ initialize_at ask id heard ∷ before)
    ⊎ (past ≡ activate_at ask id heard ∷ initialize_at ask id (Answered Done) ∷ before)

-- after these calls a member's turn ended: it is done with both, or has this reason
abbrev pub Ends : Asking → ℕ → Option MemberCause → List Event → List Event → Type 0
Ends ask id None before past = past ≡ activate_at ask id (Answered Done) ∷ initialize_at ask id (Answered Done) ∷ before
Ends ask id (Some cause) before past = (heard : Heard) × Gives heard (Some cause) × WasAsked ask id heard before past

-- After these calls the first members, so many, had their turns, one after the other; these are done, and the others have
-- these reasons.
abbrev pub AreAsked : Asking → List Event → ℕ → List ℕ → List (ℕ × MemberCause) → List Event → Type 0
AreAsked ask base zero done reasons past = (done ≡ []) × (reasons ≡ []) × (past ≡ base)
AreAsked ask base (suc n) done reasons past =
    (member : Member) × (before : List Event) × IsMember ask n member
    × (((others : List ℕ) × (done ≡ others ++ member.id ∷ []) × Ends ask member.id None before past × AreAsked ask base n others reasons before)
    ⊎ ((cause : MemberCause) × (others : List (ℕ × MemberCause)) × (reasons ≡ others ++ (member.id, cause) ∷ [])
    × Ends ask member.id (Some cause) before past × AreAsked ask base n done others before))

-- the next member is done with the first call, or its turn hasn't begun
abbrev pub HasBegun : Asking → ℕ → Bool → List Event → List Event → Type 0
HasBegun ask n false before past = past ≡ before
HasBegun ask n true before past = (member : Member) × IsMember ask n member × (past ≡ initialize_at ask member.id (Answered Done) ∷ before)

-- Of these members so many were asked by the calls after the first ones, and no other call was made.
pub record SetUpSound (ask : Asking) (base : List Event) (state : SettingUp) (past : List Event) : Type 0 where
  pub asks : state.ask ≡ ask
  pub before : List Event
  pub asked : AreAsked ask base state.asked state.done state.reasons before
  pub begun : HasBegun ask state.asked state.begun before past

-- after these calls memory was wanted in a member's turn
abbrev pub WasCut : Asking → List Event → List Event → Type 0
WasCut ask base past =
    (n : ℕ) × (done : List ℕ) × (reasons : List (ℕ × MemberCause)) × (before : List Event) × (member : Member) × (heard : Heard)
    × AreAsked ask base n done reasons before × IsMember ask n member × WasAsked ask member.id heard before past
