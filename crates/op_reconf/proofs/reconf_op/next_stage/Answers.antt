use Rattle.op_reconf.specs.State.{stage_of}
use Rattle.op_reconf.proofs.Calling.{puts_view, asks_member, marks_view}
use Rattle.op_reconf.proofs.reconf_op.next_stage.Goals as goal

pub returns-in-Begin : goal.returns-in-Begin
returns-in-Begin g c =
    puts_view g.S.Store.view g.L.Link.view c.args.chain.now c.args.stage (stage_of c.put_view.result) c.args.store.now c.put_view.new.store c.args.link.now
    c.in-Begin.is c.put_view.ensures

pub returns-in-Members : goal.returns-in-Members
returns-in-Members g c =
    asks_member g.S.Store.view g.L.Link.view c.args.chain.now c.args.stage (stage_of c.ask_member.result) c.args.store.now c.args.link.now c.ask_member.new.link
    c.in-Members.set_up c.in-Members.is c.ask_member.ensures

pub returns-in-Mark : goal.returns-in-Mark
returns-in-Mark g c =
    marks_view g.S.Store.view g.L.Link.view c.args.chain.now c.args.stage (stage_of c.mark.result) c.args.store.now c.mark.new.store c.args.link.now
    c.in-Mark.row c.in-Mark.is c.mark.ensures
