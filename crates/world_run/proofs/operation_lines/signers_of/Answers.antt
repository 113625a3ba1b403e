use Rattle.std.proofs.Common.{◌≡◌, refl, arith}
use Rattle.world_run.proofs.Genesis.{within}
use Rattle.world_run.proofs.RunLines.{all_more, ids_more}
use Rattle.world_run.proofs.operation_lines.signers_of.Goals as goal

pub signer-requires : goal.signer-requires
signer-requires g c =
    let at = within 0 c.args.ids.now c.loop-id.id-index 0 c.requires.2 c.loop-id-test.true in
    (omega (arith, at.0), at.1)

pub loop-id-preserved : goal.loop-id-preserved
loop-id-preserved g c = (
  ids_more (λ member. member.id) c.loop-id.signers.items c.push.new.self.items _ c.args.ids.now c.loop-id.id-index 0 c.loop-id-test.true refl c.in_ok-push.ensures.items c.loop-id.invariant.0,
  all_more (λ member. (g.M.Scheme.Signer.Signer.key_of member.signer ≡ g.M.Seals.key_of c.args.seals.now member.id) × (g.M.Scheme.Signer.Signer.left_of member.signer ≡ g.M.Seals.left_of c.args.seals.now member.id))
      c.loop-id.signers.items c.push.new.self.items _ c.in_ok-push.ensures.items c.loop-id.invariant.1 (c.in_ok-signer.ensures.key, c.in_ok-signer.ensures.left),
)
