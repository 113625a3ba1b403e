use Rattle.std.proofs.Common.{sym, ap, ◌∙◌}
use Rattle.std.specs.Option.{option_map}
use Rattle.chain_block.specs.Entry.{bare}
use Rattle.op_entry.specs.Ask.{NewLedger}
use Rattle.op_entry.specs.State.{answer_of}
use Rattle.coordinator.proofs.Entering.{ends}
use Rattle.coordinator.proofs.entries.make.Goals as goal

pub returns : goal.returns
returns g c =
    let accepts = g.C.Checker.accepts c.args.checker.now in
    let ask = NewLedger (bare c.args.entry) in
    let tells = c.into_parts-chain.ensures in
    ends accepts g.S.Store.view g.L.Link.view ask c.args.chain c.args.store.now c.loop-alloc.store c.step.new.store c.args.link.now c.loop-alloc.link c.step.new.link c.loop-alloc.op c.step.new.self
    c.into_parts-chain.result.0 c.in-Some.answer c.loop-alloc.invariant c.step.ensures.call
    (record {
      answers = λ run result is ended none. c.calm_services_make_ledgers.ensures run (bare c.args.entry) result is c.stored.ensures none ended;
      front = c.calm_runs_know_views.ensures.front;
    })
    (record {
      same = tells.chain;
      answered = sym (ap (option_map answer_of) c.in-Some.is) ∙ tells.answer;
      own = tells.own accepts ask c.args.chain;
      grown = tells.grown accepts ask c.args.chain;
      says = tells.says accepts ask c.args.chain;
    })
