use Rattle.port.specs.Table.{Uninitialized}
use Rattle.endorser_core.proofs.Outcomes.{lawful_push, replay_push}
use Rattle.endorser_core.proofs.laws.lines_go_on.Goals as goal

pub returns : goal.returns
returns c = record {
  lawful = λ accepts me lines line. lawful_push accepts me Uninitialized lines line;
  replayed = λ me lines line. replay_push me Uninitialized lines line;
}
