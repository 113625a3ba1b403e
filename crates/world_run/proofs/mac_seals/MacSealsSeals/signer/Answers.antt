use Rattle.std.proofs.Common.{List, ℕ, subst, sym}
use Rattle.std.specs.Prelude.{Contains}
use Rattle.script_runs.specs.Ids.{all_ids}
use Rattle.world_run.proofs.Ids.{has_id}
use Rattle.world_run.proofs.mac_seals.MacSealsSeals.signer.Goals as goal

pub returns-clause-fits : goal.returns-clause-fits
returns-clause-fits c = λ checker is.
    subst (λ (ids : List ℕ). Contains ids c.of_id.result) (sym is) (subst (λ (id : ℕ). Contains all_ids id) (sym c.of_id.ensures) (has_id c.args.id c.requires.0 c.requires.1))
