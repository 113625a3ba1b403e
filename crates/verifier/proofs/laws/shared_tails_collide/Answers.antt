use Rattle.verifier.proofs.Collisions.{collide}
use Rattle.verifier.proofs.laws.shared_tails_collide.Goals as goal

pub returns : goal.returns
returns c = λ configs one other within below within_other differ same. collide configs c.view_blocks_have_own_bytes.ensures one other within below within_other differ same
