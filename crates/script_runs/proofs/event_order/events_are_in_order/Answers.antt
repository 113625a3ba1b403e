use Rattle.script_runs.proofs.InOrder.{none_before}
use Rattle.script_runs.proofs.OwnCallRuns.{all_ordered}
use Rattle.script_runs.proofs.event_order.events_are_in_order.Goals as goal

pub returns-clause-lines : goal.returns-clause-lines
returns-clause-lines g c = λ key_of left_of checks ids script first last printed can begins ran.
    all_ordered g.G.Signer.Signer.key_of g.G.Signer.Signer.left_of g.G.Signer.Signer.size_of g.G.Signer.Signer.signs g.G.Scheme.fits g.G.Checker.Checker.accepts key_of left_of checks
    (record {
      rows = c.rows_have_own_bytes.ensures;
      entry = c.entry_calls_are_own.ensures;
      read_store = c.latest_calls_are_own.ensures.store;
      read_link = c.latest_calls_are_own.ensures.link;
    })
    script ids first last printed can begins ran

pub returns-clause-none : goal.returns-clause-none
returns-clause-none g c = λ key_of left_of checks ids roster first begins. none_before roster first begins.bank.log begins.turns
