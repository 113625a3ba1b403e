use Rattle.script_runs.proofs.OwnCallRuns.{entries_drawn}
use Rattle.script_runs.proofs.own_calls.entries_were_drawn.Goals as goal

pub returns : goal.returns
returns g c = λ key_of left_of checks ids script first last printed can begins ran.
    entries_drawn g.G.Signer.Signer.key_of g.G.Signer.Signer.left_of g.G.Signer.Signer.size_of g.G.Signer.Signer.signs g.G.Scheme.fits g.G.Checker.Checker.accepts key_of left_of checks
    (record {
      rows = c.rows_have_own_bytes.ensures;
      entry = c.entry_calls_are_own.ensures;
      read_store = c.latest_calls_are_own.ensures.store;
      read_link = c.latest_calls_are_own.ensures.link;
    })
    script ids first last printed can begins ran
