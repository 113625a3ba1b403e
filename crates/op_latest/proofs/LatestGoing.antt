-- What comes next, or memory was wanted.
use Rattle.std.proofs.Common.{◌≡◌, inl, inr}
use Rattle.std.specs.Prelude.{Result, Ok, Err, IfOk, MatchResult}
use Rattle.nim_base.specs.declared.no_memory.NoMemory.{NoMemory}
use Rattle.op_latest.specs.declared.latest_stage.LatestStage.{LatestStage}
use Rattle.op_latest.specs.LatestState.{Stage, State, stage_of}
use Rattle.op_latest.specs.LatestSteps.{Goes, at}

pub goes_on : (P : Stage → Type 0) (old new : State) (result : Result LatestStage NoMemory) → IfOk result (λ s. P (stage_of s))
    → MatchResult result (λ s. new ≡ at (stage_of s) old) (λ e. new ≡ old) → Goes P old new
goes_on P old new (Ok stage) is taken = inl (stage_of stage, taken, is)
goes_on P old new (Err wanted) is taken = inr taken
