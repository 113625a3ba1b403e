use Rattle.std.proofs.Common.{◌≡◌, ◌∷◌, length, take}
use Rattle.std.specs.List.{flat_map}
use Rattle.statement.specs.ConfigForm.{member_bytes}
use Rattle.statement.proofs.config.Config.write.Given as goal

abbrev pub invariant-loop-member : goal.invariant-loop-member
invariant-loop-member l = l.text.bytes ≡ 0x12 ∷ length l.self ∷ flat_map member_bytes (take l.member-index l.self)
