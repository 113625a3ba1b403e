-- Why an endorser that isn't active takes no Append and no Latest.
use Rattle.std.specs.Prelude.{◌≡◌}
use Rattle.port.specs.declared.phase.Phase.TheVariants as phases
use Rattle.port.specs.Answer.{Denial, WrongPhase, HasEnded}
use Rattle.port.specs.Table.{State, Uninitialized, Initialized, Active, Finalized}

abbrev pub IsInactive : State → Denial → Type 0
IsInactive Uninitialized denial = denial ≡ WrongPhase phases.Uninitialized
IsInactive (Initialized own) denial = denial ≡ WrongPhase phases.Initialized
IsInactive (Active own) denial = ⊥
IsInactive (Finalized own ending) denial = denial ≡ HasEnded ending.statement ending.sig
