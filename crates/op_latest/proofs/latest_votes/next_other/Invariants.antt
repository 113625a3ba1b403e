use Rattle.std.proofs.Common.{◌≤◌, ◌<◌, ℕ}
use Rattle.op_latest.specs.LatestTurn.{IsSettledAt}
use Rattle.op_latest.proofs.latest_votes.next_other.Given as goal

abbrev pub invariant-loop-place : goal.invariant-loop-place
invariant-loop-place l = (n : ℕ) → l.fn.place ≤ n → n < l.place → IsSettledAt l.head l.votes n
