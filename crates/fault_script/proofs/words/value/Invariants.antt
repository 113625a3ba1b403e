use Rattle.std.proofs.Common.{◌≡◌, ◌+◌, ◌-◌, ◌*◌, ◌<◌, ◌^◌, take, fold}
use Rattle.fault_script.proofs.words.value.Given as goal

abbrev pub invariant-loop-digit : goal.invariant-loop-digit
invariant-loop-digit l =
    (l.value ≡ fold (λ n digit. n * 10 + (digit - 48)) 0 (take l.digit-index l.word)) × (l.value < 10 ^ l.digit-index)
