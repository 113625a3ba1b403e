-- The stage of an operation that has this answer, and the height of an entry without its room.
use Rattle.std.proofs.Common.{◌≡◌, ◌≤◌, Some, Result, ap}
use Rattle.chain_block.specs.declared.entry.Entry.{Entry}
use Rattle.chain_block.specs.declared.entry.Entry.TheVariants.{Genesis, Later}
use Rattle.chain_block.specs.Entry.{bare, height_of}
use Rattle.port.specs.Cause.{Cause}
use Rattle.port.specs.Reply.{Standing}
use Rattle.op_entry.specs.State.{Stage, Refreshing, GettingBelow, Putting, GettingTaken, GettingAt, Settling, Ended, answer_at}

pub ended_with : (stage : Stage) (answer : Result Standing Cause) → answer_at stage ≡ Some answer → stage ≡ Ended answer
ended_with (Refreshing ask refresh) answer e = absurd cc
ended_with (GettingBelow entry) answer e = absurd cc
ended_with (Putting row) answer e = absurd cc
ended_with (GettingTaken row) answer e = absurd cc
ended_with (GettingAt handle height) answer e = absurd cc
ended_with (Settling found settle) answer e = absurd cc
ended_with (Ended other) answer e = let same : other ≡ answer = cc in ap (λ (a : Result Standing Cause). Ended a) same

pub later_bare : (entry : Entry) → 1 ≤ height_of entry → 1 ≤ height_of (bare entry)
later_bare (Genesis nonce payload) low = low
later_bare (Later handle height nonce payload) low = low
