use Rattle.std.proofs.Common.{length, ap}
use Rattle.statement.specs.Receipt.{receipt_bytes}
use Rattle.port.specs.declared.key.Key.TheVariants as keys
use Rattle.port.specs.RowForm.{row_bytes}
use Rattle.op_parts.specs.RoundAsking.{Asking}
use Rattle.calm.specs.Ledgers.{row_above}
use Rattle.calm.proofs.CalmSteps.{appended, stands, receipted}
use Rattle.calm.proofs.Keys.{put_and_attached}
use Rattle.calm.proofs.calm_laws.calm_services_go_on.Goals as goal

pub returns-clause-appended : goal.returns-clause-appended
returns-clause-appended c = λ service handle entry later after left calm next room new only able.
    appended c.one_row_changes.ensures.own c.one_row_changes.ensures.others service handle entry later after left calm next room new only able

pub returns-clause-stands : goal.returns-clause-stands
returns-clause-stands c = λ accepts configs contents ledgers handle entry receipt next is_receipt for. stands accepts configs contents ledgers handle entry receipt next is_receipt for

pub returns-clause-only : goal.returns-clause-only
returns-clause-only c = λ contents handle below entry receipt. put_and_attached contents (keys.Row handle (length below)) (row_bytes (row_above below entry)) (receipt_bytes receipt)

pub returns-clause-receipted : goal.returns-clause-receipted
returns-clause-receipted c = λ accepts configs ledgers handle entry ask receipt some asked is accepted.
    receipted accepts configs ledgers handle entry ask receipt some (ap (λ (a : Asking). a.handle) asked) (ap (λ (a : Asking). a.block) asked) (ap (λ (a : Asking). a.view) asked) (ap (λ (a : Asking). a.members) asked) is accepted
