use Rattle.std.proofs.Common.{◌∙◌}
use Rattle.least_collision.proofs.Collisions.{least_of_texts, none_of_texts}
use Rattle.least_collision.proofs.search.least_collision.Goals as goal

pub returns-clause-none : goal.returns-clause-none
returns-clause-none c = none_of_texts _ _ _ (c.deref.ensures.value ∙ c.in_ok-given.ensures) c.least_collision_among.ensures.none

pub returns-clause-least : goal.returns-clause-least
returns-clause-least c = least_of_texts _ _ _ (c.deref.ensures.value ∙ c.in_ok-given.ensures) c.least_collision_among.ensures.least
