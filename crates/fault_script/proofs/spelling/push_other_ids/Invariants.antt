use Rattle.std.proofs.Common.{◌≡◌, ◌++◌, ◌∷◌, take}
use Rattle.std.specs.Fmt.{decimal}
use Rattle.std.specs.List.{flat_map}
use Rattle.fault_script.proofs.spelling.push_other_ids.Given as goal

abbrev pub invariant-loop-id : goal.invariant-loop-id
invariant-loop-id l = l.text.bytes ≡ l.fn.text.bytes ++ flat_map (λ other. 44 ∷ decimal other) (take l.id-index l.ids)
