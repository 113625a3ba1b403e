-- What contracts see of the setting up of a view's members, and what their answers make of it.
use Rattle.std.specs.Prelude.{◌≡◌, ℕ, ◌+◌, Bool, true, false, if◌then◌else◌, List, [], ◌∷◌, ◌++◌, replicate, slice_get, Option, Some, None}
use Rattle.statement.specs.declared.member.Member.{Member}
use Rattle.port.specs.Call.{Call}
use Rattle.port.specs.Answer.{Answer, Done, Refused, Behind}
use Rattle.port.specs.Cause.{MemberCause, WasLost, Denied, OtherTail}
use Rattle.port.specs.Heard.{Heard, Answered, Lost, NoMemory}

-- each of these members gets the first call, and where it answers that it is done, the second
pub record Asking : Type 0 where
  pub initialize : Call
  pub activate : Call
  pub members : List Member

-- what is asked; how many members' turns have ended; whether the next member has answered the first call; who has done
-- both, and the reasons of the others, each by rising ids
pub record SettingUp : Type 0 where
  pub ask : Asking
  pub asked : ℕ
  pub begun : Bool
  pub done : List ℕ
  pub reasons : List (ℕ × MemberCause)

abbrev pub IsMember : Asking → ℕ → Member → Type 0
IsMember ask n member = slice_get ask.members n ≡ Some member

-- nobody was asked
abbrev pub fresh : Asking → SettingUp
fresh ask = record { ask = ask; asked = 0; begun = false; done = []; reasons = [] }

-- the call to the member whose turn it is
abbrev pub next_call : SettingUp → Call
next_call state = if state.begun then state.ask.activate else state.ask.initialize

-- the reason of a member whose answer is out of place
abbrev pub stray : MemberCause
stray = OtherTail 0 (replicate 32 0)

-- the reason that an answer to one of the two calls is, None where the member is done: a count that it is behind by answers
-- neither of them, and no more does a statement or what it shows of itself
abbrev pub reason_in : Answer → Option MemberCause
reason_in Done = None
reason_in (Refused (Behind count)) = Some stray
reason_in (Refused denial) = Some (Denied denial)
reason_in answer = Some stray

-- what was heard is this reason, or that the member is done
abbrev pub Gives : Heard → Option MemberCause → Type 0
Gives (Answered answer) reason = reason ≡ reason_in answer
Gives Lost reason = reason ≡ Some WasLost
Gives NoMemory reason = ⊥

-- the next member's turn comes
abbrev pub passed : SettingUp → SettingUp
passed state = record state { asked = state.asked + 1; begun = false }

-- a member that is done with the first call is to get the second; any other end of a call ends its turn
abbrev pub taken : ℕ → Option MemberCause → SettingUp → SettingUp
taken id (Some cause) state = passed (record state { reasons = state.reasons ++ (id, cause) ∷ [] })
taken id None state = if state.begun then passed (record state { done = state.done ++ id ∷ [] }) else record state { begun = true }
