use Rattle.std.proofs.Common.{arith, ap, length}
use Rattle.std.proofs.lemmas.Bool.{iff_false}
use Rattle.std.proofs.lemmas.List.{length-append}
use Rattle.tail_map.specs.TailMap.{IsCount}
use Rattle.tail_map.proofs.RowTexts.{not_above, cut, bad_count, row_form}
use Rattle.tail_map.proofs.reading.read_row.Goals as goal
use Rattle.tail_map.proofs.reading.read_row.Goals.{then-count-eq0-via-then-count-eq0, then-count-eq0-via-else-count-eq0+then-count-gt-MAX_COUNT}

pub returns-then-not-is_above-clause-fault : goal.returns-then-not-is_above-clause-fault
returns-then-not-is_above-clause-fault c =
    let t = c.in-Some.ensures in
    not_above c.args.before.now c.args.cursor.now t.0 c.read_digest.new.cursor c.in-Some.handle (record { len = t.1; form = t.2; is = t.3 })
    (iff_false c.is_above.ensures c.if-not-is_above.true)

pub returns-in_default-read_digest-clause-fault : goal.returns-in_default-read_digest-clause-fault
returns-in_default-read_digest-clause-fault c =
    let t = c.in-Some.ensures in
    cut c.args.before.now c.args.cursor.now t.0 c.read_digest.new.cursor c.in-Some.handle (record { len = t.1; form = t.2; is = t.3 })
    (c.is_above.ensures.0 c.if-not-is_above.false) (omega (arith, c.in_default-read_digest.ensures.0))

pub returns-in_default-u64-clause-fault : goal.returns-in_default-u64-clause-fault
returns-in_default-u64-clause-fault c =
    let t = c.in-Some.ensures in
    let u = c.in-Some-read_digest.ensures in
    let len = ap length u.2 in
    cut c.args.before.now c.args.cursor.now t.0 c.read_digest.new.cursor c.in-Some.handle (record { len = t.1; form = t.2; is = t.3 })
    (c.is_above.ensures.0 c.if-not-is_above.false) (omega (arith, u.1, len, length-append u.0 c.read_digest-2.new.cursor, c.in_default-u64.ensures.0))

pub returns-then-count-eq0-clause-fault : goal.returns-then-count-eq0-clause-fault
returns-then-count-eq0-clause-fault c =
    let t = c.in-Some.ensures in
    let u = c.in-Some-read_digest.ensures in
    let v = c.in-Some-u64.ensures in
    let never : IsCount c.in-Some-u64.count → ⊥ =
    elim c.then-count-eq0.branch [
      | then-count-eq0-via-then-count-eq0 w ↦ λ is. omega (arith, is.0, w.if-count-eq0.true)
      | then-count-eq0-via-else-count-eq0+then-count-gt-MAX_COUNT w ↦ λ is. omega (arith, is.1, w.if-count-gt-MAX_COUNT.true)
    ] in
    bad_count c.args.cursor.now t.0 u.0 v.0 c.read_digest.new.cursor c.read_digest-2.new.cursor c.u64.new.self c.in-Some.handle c.in-Some-read_digest.tail c.in-Some-u64.count
    (record { len = t.1; form = t.2; is = t.3 }) (record { len = u.1; form = u.2; is = u.3 }) v.1 v.2 v.3 c.args.before.now (c.is_above.ensures.0 c.if-not-is_above.false) never

pub returns-clause-form : goal.returns-clause-form
returns-clause-form c =
    let t = c.in-Some.ensures in
    let u = c.in-Some-read_digest.ensures in
    let v = c.in-Some-u64.ensures in
    row_form c.args.cursor.now t.0 u.0 v.0 c.read_digest.new.cursor c.read_digest-2.new.cursor c.u64.new.self c.in-Some.handle c.in-Some-read_digest.tail c.in-Some-u64.count
    (record { len = t.1; form = t.2; is = t.3 }) (record { len = u.1; form = u.2; is = u.3 }) v.1 v.2 v.3 c.requires.bytes
