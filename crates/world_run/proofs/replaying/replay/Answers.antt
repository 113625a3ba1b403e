use Rattle.world_run.proofs.MacKeys.{macs_apart}
use Rattle.world_run.proofs.MacRuns.{if_ok, mac_front, mac_prints}
use Rattle.world_run.proofs.replaying.replay.Goals as goal

pub replay_with-requires-clause-keys : goal.replay_with-requires-clause-keys
replay_with-requires-clause-keys g c = macs_apart c.args.script.now c.requires

pub returns-clause-ran : goal.returns-clause-ran
returns-clause-ran g c = if_ok c.replay_with.result (λ made ran. (ran.0, mac_prints c.args.script.now made ran.0 c.lines.ensures.count ran.1, ran.2)) c.replay_with.ensures.ran

pub returns-clause-write : goal.returns-clause-write
returns-clause-write g c = λ sink.
    let wrote = c.replay_with.ensures.write sink in
    (wrote.0, (wrote.1.0, wrote.1.2.0, mac_front c.args.script.now wrote.1.0 c.lines.ensures.count wrote.1.1, wrote.1.2.1))

pub returns-clause-no_memory : goal.returns-clause-no_memory
returns-clause-no_memory g c = λ none.
    let wrote = c.replay_with.ensures.no_memory none in
    (wrote.0, mac_front c.args.script.now wrote.0 c.lines.ensures.count wrote.1, wrote.2)
