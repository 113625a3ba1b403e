use Rattle.std.proofs.Common.{◌≡◌, map, take}
use Rattle.std.specs.List.{AllByRecursion}
use Rattle.world_run.proofs.operation_lines.signers_of.Given as goal

abbrev pub invariant-loop-id : goal.invariant-loop-id
invariant-loop-id g l =
    (map (λ member. member.id) l.signers.items ≡ take l.id-index l.ids)
    × AllByRecursion (λ member. (g.M.Scheme.Signer.Signer.key_of member.signer ≡ g.M.Seals.key_of l.seals member.id) × (g.M.Scheme.Signer.Signer.left_of member.signer ≡ g.M.Seals.left_of l.seals member.id)) l.signers.items
