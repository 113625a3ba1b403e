-- Which calls the setting up of view 0 makes.
use Rattle.std.specs.Prelude.{◌≡◌, ◌⊎◌, ◌<◌, ℕ, List, [], ◌∷◌}
use Rattle.statement.specs.declared.member.Member.{Member}
use Rattle.port.specs.Answer.{Done}
use Rattle.port.specs.Heard.{Answered}
use Rattle.port.specs.Trace.{Event, AtStore, AtLink}
use Rattle.view_ledger.specs.Views.{ViewChain}
use Rattle.op_reconf.specs.SettingUp.{IsMember}
use Rattle.op_reconf.specs.SetUpSound.{initialize_at}
use Rattle.op_reconf.specs.First.{first_config, first_put, first_asking, first_mark}
use Rattle.op_reconf.specs.Says.{IsPut, IsSetUp}

-- of the members only those with lower ids got a call
abbrev pub AreLower : ℕ → List Event → Type 0
AreLower id [] = Unit {0}
AreLower id (AtStore call answer ∷ past) = AreLower id past
AreLower id (AtLink other call heard ∷ past) = (other < id) × AreLower id past

-- this call is the newest
abbrev pub IsNewest : List Event → Event → Type 0
IsNewest [] event = ⊥
IsNewest (first ∷ past) event = first ≡ event

-- A call that may be made after these: the put of view 0, as the first; once that stands, to each of its members in rising ids
-- the first call, and just after it was done with that the second; and the mark, once a quorum of the members is done.
abbrev pub IsOwnCall : ViewChain → List Event → Event → Type 0
IsOwnCall from past (AtStore call answer) = ((call ≡ first_put (first_config from)) × (past ≡ [])) ⊎ ((call ≡ first_mark) × IsSetUp from past)
IsOwnCall from past (AtLink id call heard) =
    ((place : ℕ) × (member : Member) × IsMember (first_asking from) place member × (id ≡ member.id))
    × (((call ≡ (first_asking from).initialize) × IsPut from past × AreLower id past)
    ⊎ ((call ≡ (first_asking from).activate) × IsNewest past (initialize_at (first_asking from) id (Answered Done))))

-- no call but those
abbrev pub OwnCalls : ViewChain → List Event → Type 0
OwnCalls from [] = Unit {0}
OwnCalls from (event ∷ past) = IsOwnCall from past event × OwnCalls from past
