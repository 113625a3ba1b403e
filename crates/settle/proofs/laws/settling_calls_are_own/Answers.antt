use Rattle.settle.proofs.LowerLaws.{Laws}
use Rattle.settle.proofs.Own.{all_own}
use Rattle.settle.proofs.laws.settling_calls_are_own.Goals as goal

pub returns : goal.returns
returns c =
    let laws : Laws = record {
      marks = c.members_are_shown.ensures.marks;
      reasons = c.members_are_shown.ensures.reasons;
      each = c.members_are_shown.ensures.each;
      few = c.members_are_shown.ensures.few;
      accepted = c.members_are_shown.ensures.accepted;
      own = c.round_calls_are_own.ensures;
      heights = c.walks_link.ensures.heights;
      links = c.walks_link.ensures.links;
    } in
    λ accepts settling state past sound event had. all_own laws accepts settling state past sound event had
