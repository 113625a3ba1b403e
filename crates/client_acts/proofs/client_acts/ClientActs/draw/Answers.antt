use Rattle.std.proofs.Common.{option_copied, option_map}
use Rattle.chain_block.specs.Entry.{bare}
use Rattle.client_pass.specs.Act.{Draw}
use Rattle.client_acts.specs.Turns.{turn_of}
use Rattle.client_acts.proofs.Acting.{acted, draws_keep_chain, drawn_for, drawn_read, noted_more, noted_same, notes_grow, notes_one, on_err, pushed_turn, same_seen}
use Rattle.client_acts.proofs.client_acts.ClientActs.draw.Goals as goal

pub invariant_of-self-in_err-number : goal.invariant_of-self-in_err-number
invariant_of-self-in_err-number g c =
    noted_same g.C.Checker.accepts c.self.inside.first g.K.RunName.accepts c.self.inside.clients c.self.inside.turns.items c.reserve.new.self.items c.args.place c.pass_mut-pass.result.now c.draw.new.self
    c.self.invariant c.pass_mut-pass.ensures.value c.in_err-number.ensures.no_memory c.reserve.ensures.items

pub returns-in_err-number-clause-no_memory : goal.returns-in_err-number-clause-no_memory
returns-in_err-number-clause-no_memory g c =
    on_err c.from_residual-in_err-number.result
    (same_seen c.self.inside.first c.self.inside.clients c.self.inside.turns.items c.reserve.new.self.items c.args.self.now c.args.place c.pass_mut-pass.result.now c.draw.new.self
    c.self.view_is c.pass_mut-pass.ensures.value c.in_err-number.ensures.no_memory c.reserve.ensures.items)

pub invariant_of-self-2 : goal.invariant_of-self-2
invariant_of-self-2 g c =
    let act = Draw c.args.nonce.now (option_map bare (option_copied c.args.intent)) in
    noted_more g.C.Checker.accepts c.self.inside.first g.K.RunName.accepts c.self.inside.clients c.self.inside.turns.items c.reserve.new.self.items c.push_reserved.new.self.items
    (record { client = c.args.place; calls = c.args.calls; lines = 1 }) c.pass_mut-pass.result.now c.draw.new.self
    c.self.invariant c.pass_mut-pass.ensures.value
    (notes_grow c.pass_mut-pass.result.now c.draw.new.self act c.in_ok-number.ensures.noted)
    (notes_one c.pass_mut-pass.result.now c.draw.new.self act c.in_ok-number.ensures.noted)
    c.reserve.ensures.items c.push_reserved.ensures.items

pub returns-clause-acts : goal.returns-clause-acts
returns-clause-acts g c =
    let intent = option_map bare (option_copied c.args.intent) in
    let noted = c.in_ok-number.ensures.noted in (
      c.pass_mut-pass.result.now,
      c.draw.new.self,
      acted c.self.inside.first c.self.inside.clients c.self.inside.turns.items c.push_reserved.new.self.items c.args.self.now c.args.place c.pass_mut-pass.result.now c.draw.new.self
          c.self.view_is c.pass_mut-pass.ensures.value
          (notes_grow c.pass_mut-pass.result.now c.draw.new.self (Draw c.args.nonce.now intent) noted),
      draws_keep_chain c.pass_mut-pass.result.now c.draw.new.self c.args.nonce.now intent noted,
      noted,
    )

pub returns-clause-for_entry : goal.returns-clause-for_entry
returns-clause-for_entry g c =
    drawn_for c.self.inside.clients c.args.place c.pass_mut-pass.result.now c.draw.new.self (option_copied c.args.intent) c.in_ok-number.number
    c.pass_mut-pass.ensures.value c.in_ok-number.ensures.for_entry c.in_ok-number.ensures.open

pub returns-clause-for_read : goal.returns-clause-for_read
returns-clause-for_read g c =
    drawn_read c.self.inside.clients c.args.place c.pass_mut-pass.result.now c.draw.new.self (option_copied c.args.intent) c.in_ok-number.number c.args.nonce.now
    c.pass_mut-pass.ensures.value c.in_ok-number.ensures.for_read c.in_ok-number.ensures.open

pub returns-clause-turn : goal.returns-clause-turn
returns-clause-turn g c =
    pushed_turn c.self.inside.first c.self.inside.clients c.self.inside.turns.items c.reserve.new.self.items c.push_reserved.new.self.items c.args.self.now (turn_of c.args.place c.args.calls 1)
    c.self.view_is c.reserve.ensures.items c.push_reserved.ensures.items
