use Rattle.std.proofs.Common.{◌≡◌, ◌≤◌, Err, sym, ap, ◌∙◌, arith, length, true, false, refl}
use Rattle.std.proofs.lemmas.List.{length-append}
use Rattle.std.proofs.lemmas.Result.{err_from_is_err_and}
use Rattle.chain_block.specs.declared.entry.TheConstants.{MAX_PAYLOAD}
use Rattle.chain_block.specs.declared.entry_fault.EntryFault.TheVariants.{Short}
use Rattle.chain_block.proofs.Parts.{taken, taken_bytes, missing}
use Rattle.chain_block.proofs.EntryLaws.{later_short, later_on, later_found, is_height, is_height-in, is_height-zero, is_height-above, ok_is_none, err_is_passed}
use Rattle.chain_block.proofs.entry.read_later.Goals as goal
use Rattle.chain_block.proofs.entry.read_later.Goals.{then-height-eq0-via-then-height-eq0, then-height-eq0-via-else-height-eq0+then-height-gt-MAX_HEIGHT}

pub returns-in_err-handle-clause-refused : goal.returns-in_err-handle-clause-refused
returns-in_err-handle-clause-refused c =
    let p = err_from_is_err_and c.from_residual.result c.from_residual.ensures.1 in
    let m = missing _ _ _ _ c.read_digest.result Short c.in_err-handle.field-0.0 (sym c.ok_or.ensures.value ∙ c.in_err-handle.was) c.read_digest.ensures in
    let short = later_short c.args.bytes.now (omega (arith, m.0, ap length c.new-cursor.ensures)) in
    rw (short, p.1) (ap Err (p.2 ∙ m.1))

pub returns-in_err-height-clause-refused : goal.returns-in_err-height-clause-refused
returns-in_err-height-clause-refused c =
    let p = err_from_is_err_and c.from_residual-in_err-height.result c.from_residual-in_err-height.ensures.1 in
    let handle = taken_bytes _ _ _ c.read_digest.result Short c.in_ok-handle.handle (sym c.ok_or.ensures.value ∙ c.in_ok-handle.was) c.read_digest.ensures in
    let m = missing _ _ _ _ c.u64.result Short c.in_err-height.field-0.0 (sym c.ok_or-2.ensures.value ∙ c.in_err-height.was) c.u64.ensures in
    let short = later_short c.args.bytes.now (omega (arith, m.0, ap length c.new-cursor.ensures, handle.0, ap length handle.1, length-append c.in_ok-handle.handle c.read_digest.new.cursor)) in
    rw (short, p.1) (ap Err (p.2 ∙ m.1))

pub returns-in_err-nonce-clause-refused : goal.returns-in_err-nonce-clause-refused
returns-in_err-nonce-clause-refused c =
    let p = err_from_is_err_and c.from_residual-in_err-nonce.result c.from_residual-in_err-nonce.ensures.1 in
    let handle = taken_bytes _ _ _ c.read_digest.result Short c.in_ok-handle.handle (sym c.ok_or.ensures.value ∙ c.in_ok-handle.was) c.read_digest.ensures in
    let height = taken _ _ _ _ c.u64.result Short c.in_ok-height.height (sym c.ok_or-2.ensures.value ∙ c.in_ok-height.was) c.u64.ensures in
    let m = missing _ _ _ _ c.read_nonce.result Short c.in_err-nonce.field-0.0 (sym c.ok_or-3.ensures.value ∙ c.in_err-nonce.was) c.read_nonce.ensures in
    let short = later_short c.args.bytes.now (omega (arith, m.0, ap length c.new-cursor.ensures, handle.0, ap length handle.1, length-append c.in_ok-handle.handle c.read_digest.new.cursor, height.1, ap length height.2, length-append height.0 c.u64.new.self)) in
    rw (short, p.1) (ap Err (p.2 ∙ m.1))

pub returns-in_err-stated-clause-refused : goal.returns-in_err-stated-clause-refused
returns-in_err-stated-clause-refused c =
    let p = err_from_is_err_and c.from_residual-in_err-stated.result c.from_residual-in_err-stated.ensures.1 in
    let handle = taken_bytes _ _ _ c.read_digest.result Short c.in_ok-handle.handle (sym c.ok_or.ensures.value ∙ c.in_ok-handle.was) c.read_digest.ensures in
    let height = taken _ _ _ _ c.u64.result Short c.in_ok-height.height (sym c.ok_or-2.ensures.value ∙ c.in_ok-height.was) c.u64.ensures in
    let nonce = taken_bytes _ _ _ c.read_nonce.result Short c.in_ok-nonce.nonce (sym c.ok_or-3.ensures.value ∙ c.in_ok-nonce.was) c.read_nonce.ensures in
    let m = missing _ _ _ _ c.u32.result Short c.in_err-stated.field-0.0 (sym c.ok_or-4.ensures.value ∙ c.in_err-stated.was) c.u32.ensures in
    let short = later_short c.args.bytes.now (omega (arith, m.0, ap length c.new-cursor.ensures, handle.0, ap length handle.1, length-append c.in_ok-handle.handle c.read_digest.new.cursor, height.1, ap length height.2, length-append height.0 c.u64.new.self, nonce.0, ap length nonce.1, length-append c.in_ok-nonce.nonce c.read_nonce.new.cursor)) in
    rw (short, p.1) (ap Err (p.2 ∙ m.1))

pub returns-then-height-eq0-clause-refused : goal.returns-then-height-eq0-clause-refused
returns-then-height-eq0-clause-refused c =
    let handle = taken_bytes _ _ _ c.read_digest.result Short c.in_ok-handle.handle (sym c.ok_or.ensures.value ∙ c.in_ok-handle.was) c.read_digest.ensures in
    let height = taken _ _ _ _ c.u64.result Short c.in_ok-height.height (sym c.ok_or-2.ensures.value ∙ c.in_ok-height.was) c.u64.ensures in
    let nonce = taken_bytes _ _ _ c.read_nonce.result Short c.in_ok-nonce.nonce (sym c.ok_or-3.ensures.value ∙ c.in_ok-nonce.was) c.read_nonce.ensures in
    let stated = taken _ _ _ _ c.u32.result Short c.in_ok-stated.stated (sym c.ok_or-4.ensures.value ∙ c.in_ok-stated.was) c.u32.ensures in
    let on = later_on c.args.bytes.now c.in_ok-handle.handle c.read_digest.new.cursor height.0 c.u64.new.self c.in_ok-nonce.nonce c.read_nonce.new.cursor stated.0 c.u32.new.self c.in_ok-height.height c.in_ok-stated.stated
    (sym c.new-cursor.ensures ∙ handle.1) handle.0 height.2 height.1 height.3 nonce.1 nonce.0 stated.2 stated.1 stated.3 in
    let out : is_height c.in_ok-height.height ≡ false = elim c.then-height-eq0.branch [
      | then-height-eq0-via-then-height-eq0 w ↦ is_height-zero c.in_ok-height.height w.if-height-eq0.true
      | then-height-eq0-via-else-height-eq0+then-height-gt-MAX_HEIGHT w ↦ is_height-above c.in_ok-height.height w.if-height-gt-MAX_HEIGHT.true
    ] in
    rw (on, out) refl

pub returns-in_err-payload-clause-refused : goal.returns-in_err-payload-clause-refused
returns-in_err-payload-clause-refused c =
    let p = err_from_is_err_and c.from_residual-in_err-payload.result c.from_residual-in_err-payload.ensures.1 in
    let handle = taken_bytes _ _ _ c.read_digest.result Short c.in_ok-handle.handle (sym c.ok_or.ensures.value ∙ c.in_ok-handle.was) c.read_digest.ensures in
    let height = taken _ _ _ _ c.u64.result Short c.in_ok-height.height (sym c.ok_or-2.ensures.value ∙ c.in_ok-height.was) c.u64.ensures in
    let nonce = taken_bytes _ _ _ c.read_nonce.result Short c.in_ok-nonce.nonce (sym c.ok_or-3.ensures.value ∙ c.in_ok-nonce.was) c.read_nonce.ensures in
    let stated = taken _ _ _ _ c.u32.result Short c.in_ok-stated.stated (sym c.ok_or-4.ensures.value ∙ c.in_ok-stated.was) c.u32.ensures in
    let on = later_on c.args.bytes.now c.in_ok-handle.handle c.read_digest.new.cursor height.0 c.u64.new.self c.in_ok-nonce.nonce c.read_nonce.new.cursor stated.0 c.u32.new.self c.in_ok-height.height c.in_ok-stated.stated
    (sym c.new-cursor.ensures ∙ handle.1) handle.0 height.2 height.1 height.3 nonce.1 nonce.0 stated.2 stated.1 stated.3 in
    let fits : is_height c.in_ok-height.height ≡ true = is_height-in c.in_ok-height.height (omega arith) (omega arith) in
    rw (on, fits) (err_is_passed _ c.read_payload.result c.from_residual-in_err-payload.result c.in_err-payload.field-0.0 c.in_err-payload.was (p.1 ∙ ap Err p.2) c.read_payload.ensures.refused)

pub returns-clause-found : goal.returns-clause-found
returns-clause-found c =
    let payload = c.in_ok-payload.ensures in
    let within : length c.in_ok-payload.payload.bytes ≤ MAX_PAYLOAD = omega (arith, payload.within, payload.found.1) in
    let handle = taken_bytes _ _ _ c.read_digest.result Short c.in_ok-handle.handle (sym c.ok_or.ensures.value ∙ c.in_ok-handle.was) c.read_digest.ensures in
    let height = taken _ _ _ _ c.u64.result Short c.in_ok-height.height (sym c.ok_or-2.ensures.value ∙ c.in_ok-height.was) c.u64.ensures in
    let nonce = taken_bytes _ _ _ c.read_nonce.result Short c.in_ok-nonce.nonce (sym c.ok_or-3.ensures.value ∙ c.in_ok-nonce.was) c.read_nonce.ensures in
    let stated = taken _ _ _ _ c.u32.result Short c.in_ok-stated.stated (sym c.ok_or-4.ensures.value ∙ c.in_ok-stated.was) c.u32.ensures in (
      ((omega arith, omega arith, within), handle.0, nonce.0),
      later_found c.args.bytes.now c.in_ok-handle.handle c.read_digest.new.cursor height.0 c.u64.new.self c.in_ok-nonce.nonce c.read_nonce.new.cursor stated.0 c.u32.new.self c.in_ok-payload.payload.bytes c.in_ok-height.height c.in_ok-stated.stated
          (λ i. omega (arith, c.type_inv.bytes i)) (sym c.new-cursor.ensures ∙ handle.1) height.2 height.1 height.3 nonce.1 stated.2 stated.1 stated.3 payload.found.0 payload.found.1,
    )

pub returns-clause-refused : goal.returns-clause-refused
returns-clause-refused c =
    let handle = taken_bytes _ _ _ c.read_digest.result Short c.in_ok-handle.handle (sym c.ok_or.ensures.value ∙ c.in_ok-handle.was) c.read_digest.ensures in
    let height = taken _ _ _ _ c.u64.result Short c.in_ok-height.height (sym c.ok_or-2.ensures.value ∙ c.in_ok-height.was) c.u64.ensures in
    let nonce = taken_bytes _ _ _ c.read_nonce.result Short c.in_ok-nonce.nonce (sym c.ok_or-3.ensures.value ∙ c.in_ok-nonce.was) c.read_nonce.ensures in
    let stated = taken _ _ _ _ c.u32.result Short c.in_ok-stated.stated (sym c.ok_or-4.ensures.value ∙ c.in_ok-stated.was) c.u32.ensures in
    let on = later_on c.args.bytes.now c.in_ok-handle.handle c.read_digest.new.cursor height.0 c.u64.new.self c.in_ok-nonce.nonce c.read_nonce.new.cursor stated.0 c.u32.new.self c.in_ok-height.height c.in_ok-stated.stated
    (sym c.new-cursor.ensures ∙ handle.1) handle.0 height.2 height.1 height.3 nonce.1 nonce.0 stated.2 stated.1 stated.3 in
    let fits : is_height c.in_ok-height.height ≡ true = is_height-in c.in_ok-height.height (omega arith) (omega arith) in
    rw (on, fits, ok_is_none _ c.in_ok-payload.payload c.in_ok-payload.ensures.refused) tt
