use Rattle.std.proofs.Common.{◌≡◌, ◌<◌, true, List, subst}
use Rattle.port.specs.Trace.{Event, Ran}
use Rattle.op_reconf.specs.declared.stage.Stage.{Stage}
use Rattle.op_reconf.specs.Sound.{MakesOne, Leads}
use Rattle.op_reconf.specs.State.{State, is_live, calls_left, stage_of}
use Rattle.op_reconf.specs.Steps.{Takes}
use Rattle.op_reconf.proofs.Leading.{leads, makes_one, ready, fewer}
use Rattle.op_reconf.proofs.reconf_op.ReconfOp.step.Goals as goal

pub invariant_of-self : goal.invariant_of-self
invariant_of-self g c =
    let new = stage_of c.next_stage.result in
    let events : List Event = c.next_stage.ensures.0 in
    let takes = subst (λ (s : Stage). Takes c.self.inside.chain (stage_of s) events new) c.replace-stage.ensures.value c.next_stage.ensures.2 in
    ready c.self.inside.chain (stage_of c.self.inside.stage) new events c.first_members.ensures c.self.invariant takes

pub returns-clause-call : goal.returns-clause-call
returns-clause-call g c =
    let chain = c.self.inside.chain in
    let new = stage_of c.next_stage.result in
    let events : List Event = c.next_stage.ensures.0 in
    let takes = subst (λ (s : Stage). Takes chain (stage_of s) events new) c.replace-stage.ensures.value c.next_stage.ensures.2 in
    let accepts = g.C.Checker.accepts c.args.checker.now in
    let after : State = record { chain = chain; stage = new } in
    subst (λ (s : State). is_live s ≡ true → (e : List Event) × Ran g.S.Store.view g.L.Link.view c.args.store.now c.args.link.now e c.next_stage.new.store c.next_stage.new.link
    × MakesOne s e after × Leads accepts s e after) c.self.view_is
    (λ live. (
      events,
      c.next_stage.ensures.1,
      makes_one chain (stage_of c.self.inside.stage) new events live takes,
      leads accepts chain (stage_of c.self.inside.stage) new events takes,
    ))

pub returns-clause-falls : goal.returns-clause-falls
returns-clause-falls g c =
    let chain = c.self.inside.chain in
    let new = stage_of c.next_stage.result in
    let events : List Event = c.next_stage.ensures.0 in
    let takes = subst (λ (s : Stage). Takes chain (stage_of s) events new) c.replace-stage.ensures.value c.next_stage.ensures.2 in
    let after : State = record { chain = chain; stage = new } in
    subst (λ (s : State). is_live s ≡ true → calls_left after < calls_left s) c.self.view_is
    (λ live. fewer chain (stage_of c.self.inside.stage) new events live c.self.invariant takes)
