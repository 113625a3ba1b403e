use Rattle.script_operations.proofs.Staying.{all_stay, all_with_client, all_with_task, who_reads}
use Rattle.script_operations.proofs.laws.operations_keep_draws.Goals as goal

pub returns-clause-stays : goal.returns-clause-stays
returns-clause-stays g c = λ old new tasks stays. all_stay c.draws_stay.ensures.entry c.draws_stay.ensures.read old new stays tasks

pub returns-clause-client : goal.returns-clause-client
returns-clause-client g c = λ clients more tasks. all_with_client clients more tasks

pub returns-clause-task : goal.returns-clause-task
returns-clause-task g c = λ clients tasks more. all_with_task clients tasks more

pub returns-clause-reads : goal.returns-clause-reads
returns-clause-reads g c = λ clients tasks client draw handle nonce. who_reads clients tasks client draw handle nonce
