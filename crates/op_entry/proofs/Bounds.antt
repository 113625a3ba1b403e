-- How many calls a settling makes at most.
use Rattle.std.proofs.Common.{◌≡◌, ℕ, ◌*◌, ◌^◌, ◌<◌, ◌≤◌, [], arith}
use Rattle.std.proofs.lemmas.Nat.{mul-le}
use Rattle.op_parts.specs.RoundState.{calls_each}
use Rattle.settle.specs.State.{calls_from}
use Rattle.op_entry.specs.State.{most_to_settle}

pub few_calls : (members height calls : ℕ) → members ≤ 15 → height < 2 ^ 32 → calls ≡ calls_from members [] (members * calls_each height) → calls < most_to_settle
few_calls members height calls few low is =
    let each : calls_each height ≤ 2 * 2 ^ 32 = omega (arith, low) in
    let first : members * calls_each height ≤ 15 * (2 * 2 ^ 32) = mul-le members (calls_each height) 15 (2 * 2 ^ 32) few each in
    let above : members * calls_each (2 ^ 64) ≤ 15 * calls_each (2 ^ 64) = mul-le members (calls_each (2 ^ 64)) 15 (calls_each (2 ^ 64)) few (omega arith) in
    omega (arith, first, above, is)
