use Rattle.sha2.specs.Sha256.{sha256}
use Rattle.std.proofs.Common.{[]}
use Rattle.tail_map.specs.MapForm.{map_bytes}
use Rattle.calm.proofs.NewMembers.{initialized, activated}
use Rattle.calm.proofs.first_laws.first_members_begin.Goals as goal

pub returns-clause-initialized : goal.returns-clause-initialized
returns-clause-initialized c = λ signs bank after config place member stamps signatures heard at in_state was. initialized signs bank after config place member stamps signatures heard at in_state was

pub returns-clause-activated : goal.returns-clause-activated
returns-clause-activated c = λ signs bank after config member stamps signatures heard in_state was. activated signs bank after config member stamps signatures heard in_state was

pub returns-clause-able : goal.returns-clause-able
returns-clause-able c = λ bank config member left in_state. record {
  told = in_state.told;
  known = in_state.known;
  me = in_state.me;
  first = sha256 (map_bytes []);
  active = in_state.now;
  stamps = in_state.stamps_left;
  signatures = in_state.signatures_left;
}
