-- What calls make of a reconfiguration.
use Rattle.std.specs.Prelude.{◌≡◌, ◌⊎◌, ℕ, ◌==◌, nat_le, if◌then◌else◌, List, [], ◌∷◌, length, Option, Ok, Err}
use Rattle.statement.specs.declared.member.Member.{Member}
use Rattle.statement.specs.Config.{quorum, weight_together}
use Rattle.port.specs.declared.store_answers.Put.{Put}
use Rattle.port.specs.declared.store_answers.Put.TheVariants as puts
use Rattle.port.specs.declared.store_answers.Attached.{Attached}
use Rattle.port.specs.declared.store_answers.Attached.TheVariants as attaches
use Rattle.port.specs.Cause.{MemberCause, StoreFault, NoQuorum, NoMemory}
use Rattle.port.specs.Heard.{Heard}
use Rattle.port.specs.Store.{WasPut, WasAttached}
use Rattle.port.specs.Trace.{Event, AtStore, AtLink}
use Rattle.port.specs.View.{ViewRow}
use Rattle.view_ledger.specs.Views.{ViewChain}
use Rattle.op_reconf.specs.SettingUp.{SettingUp, IsMember, Gives, fresh, next_call, taken}
use Rattle.op_reconf.specs.First.{first_config, first_row, first_put, first_asking, first_mark}
use Rattle.op_reconf.specs.State.{StageState, AtPut, AtMembers, AtMark, AtEnd}

-- it ended for want of memory
abbrev pub wanting : StageState
wanting = AtEnd (Err NoMemory)

-- what the answer to the put of view 0 makes of it
abbrev pub TakesPut : ViewChain → Put → StageState → Type 0
TakesPut chain puts.Failed new = new ≡ AtEnd (Err StoreFault)
TakesPut chain puts.NoMemory new = new ≡ wanting
TakesPut chain put new = (new ≡ AtMembers (fresh (first_asking chain))) ⊎ (new ≡ wanting)

-- once all members were asked, the view is marked where a quorum of them is done
abbrev pub judged : SettingUp → StageState
judged set_up =
    let members = set_up.ask.members in
    if nat_le (quorum members) (weight_together members set_up.done) then AtMark (first_row members) else AtEnd (Err (NoQuorum (quorum members) set_up.reasons))

abbrev pub after_turn : SettingUp → StageState
after_turn set_up = if set_up.asked == length set_up.ask.members then judged set_up else AtMembers set_up

-- what was heard of a call to this member makes this of it
abbrev pub TakesHeard : SettingUp → ℕ → Heard → StageState → Type 0
TakesHeard set_up id heard new =
    ((reason : Option MemberCause) × Gives heard reason × (new ≡ after_turn (taken id reason set_up))) ⊎ (new ≡ wanting)

-- what the answer to the attaching of the mark makes of it
abbrev pub TakesMark : ViewRow → Attached → StageState → Type 0
TakesMark row attaches.Failed new = new ≡ AtEnd (Err StoreFault)
TakesMark row attaches.NoMemory new = new ≡ wanting
TakesMark row attached new = new ≡ AtEnd (Ok row)

-- By this call, or by none, it came from one stage to the next. Only before its first call is memory wanted for a call.
abbrev pub Takes : ViewChain → StageState → List Event → StageState → Type 0
Takes chain AtPut [] new = new ≡ wanting
Takes chain AtPut (AtStore call (WasPut put) ∷ []) new = (call ≡ first_put (first_config chain)) × TakesPut chain put new
Takes chain (AtMembers set_up) (AtLink id call heard ∷ []) new =
    (member : Member) × IsMember set_up.ask set_up.asked member × (id ≡ member.id) × (call ≡ next_call set_up) × TakesHeard set_up id heard new
Takes chain (AtMark row) (AtStore call (WasAttached attached) ∷ []) new = (call ≡ first_mark) × TakesMark row attached new
Takes chain (AtEnd answer) [] new = new ≡ AtEnd answer
Takes chain stage events new = ⊥
