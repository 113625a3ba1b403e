use Rattle.std.proofs.Common.{Some}
use Rattle.chain_block.specs.Entry.{bare, nonce_of}
use Rattle.script_world.proofs.AskedFor.{drew_of, is_open, same_stays}
use Rattle.script_world.proofs.asking.draw_entry.Goals as goal

pub returns-clause-drew : goal.returns-clause-drew
returns-clause-drew g c =
    drew_of c.args.acts.now c.draw.new.self c.args.client c.nonce.result (nonce_of c.args.entry.now) (Some (bare c.args.entry.now)) c.nonce.ensures c.in_ok-draw.ensures.acts

pub returns-clause-entry : goal.returns-clause-entry
returns-clause-entry g c =
    let drew = c.in_ok-draw.ensures.for_entry in (drew.0, drew.1, drew.2)

pub returns-clause-open : goal.returns-clause-open
returns-clause-open g c =
    let drew = c.in_ok-draw.ensures.for_entry in
    is_open c.draw.new.self.clients c.args.client c.in_ok-draw.draw drew.0 drew.1 drew.3

pub returns-clause-stays : goal.returns-clause-stays
returns-clause-stays g c =
    let drew = c.in_ok-draw.ensures.acts in
    c.clients_stay_on.ensures.acts c.args.acts.now c.draw.new.self c.args.client drew.0 drew.1 drew.2

pub returns-in_err-draw-clause-stays : goal.returns-in_err-draw-clause-stays
returns-in_err-draw-clause-stays g c =
    same_stays c.args.acts.now c.draw.new.self (c.clients_stay_on.ensures.same c.args.acts.now) c.in_err-draw.ensures.no_memory
