use Rattle.std.proofs.Common.{◌≤◌, Err, sym, ap, ◌∙◌, arith, length}
use Rattle.std.proofs.lemmas.List.{length-append}
use Rattle.std.proofs.lemmas.Result.{err_from_is_err_and}
use Rattle.chain_block.specs.declared.entry.TheConstants.{MAX_PAYLOAD}
use Rattle.chain_block.specs.declared.entry_fault.EntryFault.TheVariants.{Short}
use Rattle.chain_block.proofs.Parts.{taken, taken_bytes, missing}
use Rattle.chain_block.proofs.EntryLaws.{genesis_short, genesis_on, genesis_found, ok_is_none, err_is_passed}
use Rattle.chain_block.proofs.entry.read_genesis.Goals as goal

pub returns-in_err-nonce-clause-refused : goal.returns-in_err-nonce-clause-refused
returns-in_err-nonce-clause-refused c =
    let p = err_from_is_err_and c.from_residual.result c.from_residual.ensures.1 in
    let m = missing _ _ _ _ c.read_nonce.result Short c.in_err-nonce.field-0.0 (sym c.ok_or.ensures.value ∙ c.in_err-nonce.was) c.read_nonce.ensures in
    let short = genesis_short c.args.bytes.now (omega (arith, m.0, ap length c.new-cursor.ensures)) in
    rw (short, p.1) (ap Err (p.2 ∙ m.1))

pub returns-in_err-stated-clause-refused : goal.returns-in_err-stated-clause-refused
returns-in_err-stated-clause-refused c =
    let p = err_from_is_err_and c.from_residual-in_err-stated.result c.from_residual-in_err-stated.ensures.1 in
    let nonce = taken_bytes _ _ _ c.read_nonce.result Short c.in_ok-nonce.nonce (sym c.ok_or.ensures.value ∙ c.in_ok-nonce.was) c.read_nonce.ensures in
    let m = missing _ _ _ _ c.u32.result Short c.in_err-stated.field-0.0 (sym c.ok_or-2.ensures.value ∙ c.in_err-stated.was) c.u32.ensures in
    let short = genesis_short c.args.bytes.now (omega (arith, m.0, nonce.0, ap length nonce.1, length-append c.in_ok-nonce.nonce c.read_nonce.new.cursor, ap length c.new-cursor.ensures)) in
    rw (short, p.1) (ap Err (p.2 ∙ m.1))

pub returns-in_err-payload-clause-refused : goal.returns-in_err-payload-clause-refused
returns-in_err-payload-clause-refused c =
    let p = err_from_is_err_and c.from_residual-in_err-payload.result c.from_residual-in_err-payload.ensures.1 in
    let nonce = taken_bytes _ _ _ c.read_nonce.result Short c.in_ok-nonce.nonce (sym c.ok_or.ensures.value ∙ c.in_ok-nonce.was) c.read_nonce.ensures in
    let stated = taken _ _ _ _ c.u32.result Short c.in_ok-stated.stated (sym c.ok_or-2.ensures.value ∙ c.in_ok-stated.was) c.u32.ensures in
    let on = genesis_on c.args.bytes.now c.in_ok-nonce.nonce c.read_nonce.new.cursor stated.0 c.u32.new.self c.in_ok-stated.stated (sym c.new-cursor.ensures ∙ nonce.1) nonce.0 stated.2 stated.1 stated.3 in
    rw on (err_is_passed _ c.read_payload.result c.from_residual-in_err-payload.result c.in_err-payload.field-0.0 c.in_err-payload.was (p.1 ∙ ap Err p.2) c.read_payload.ensures.refused)

pub returns-clause-found : goal.returns-clause-found
returns-clause-found c =
    let payload = c.in_ok-payload.ensures in
    let within : length c.in_ok-payload.payload.bytes ≤ MAX_PAYLOAD = omega (arith, payload.within, payload.found.1) in
    let nonce = taken_bytes _ _ _ c.read_nonce.result Short c.in_ok-nonce.nonce (sym c.ok_or.ensures.value ∙ c.in_ok-nonce.was) c.read_nonce.ensures in
    let stated = taken _ _ _ _ c.u32.result Short c.in_ok-stated.stated (sym c.ok_or-2.ensures.value ∙ c.in_ok-stated.was) c.u32.ensures in (
      (within, nonce.0),
      genesis_found c.args.bytes.now c.in_ok-nonce.nonce c.read_nonce.new.cursor stated.0 c.u32.new.self c.in_ok-payload.payload.bytes c.in_ok-stated.stated
          (λ i. omega (arith, c.type_inv.bytes i)) (sym c.new-cursor.ensures ∙ nonce.1) stated.2 stated.1 stated.3 payload.found.0 payload.found.1,
    )

pub returns-clause-refused : goal.returns-clause-refused
returns-clause-refused c =
    let nonce = taken_bytes _ _ _ c.read_nonce.result Short c.in_ok-nonce.nonce (sym c.ok_or.ensures.value ∙ c.in_ok-nonce.was) c.read_nonce.ensures in
    let stated = taken _ _ _ _ c.u32.result Short c.in_ok-stated.stated (sym c.ok_or-2.ensures.value ∙ c.in_ok-stated.was) c.u32.ensures in
    let on = genesis_on c.args.bytes.now c.in_ok-nonce.nonce c.read_nonce.new.cursor stated.0 c.u32.new.self c.in_ok-stated.stated (sym c.new-cursor.ensures ∙ nonce.1) nonce.0 stated.2 stated.1 stated.3 in
    rw (on, ok_is_none _ c.in_ok-payload.payload c.in_ok-payload.ensures.refused) tt
