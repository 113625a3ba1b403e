use Rattle.std.proofs.Common.{◌≡◌, ◌++◌, length, take, ap, subst, ◌∙◌, arith, List, ℕ}
use Rattle.std.specs.Io.KnownBytes.{Consumes}
use Rattle.std.proofs.lemmas.List.{append-nil, length-take}
use Rattle.nimble.proofs.Known.{Consumes_then, consumed_limit, consumed_end}
use Rattle.nimble.proofs.input.read_input.Goals as goal

pub returns-then-want-eq0-clause-text : goal.returns-then-want-eq0-clause-text
returns-then-want-eq0-clause-text g c =
    consumed_limit _ _ c.loop.text.bytes 1048577 c.loop.invariant.3 (omega (arith, ap length c.bytes.ensures, c.min-want.ensures, c.if-want-eq0.true, c.loop.invariant.0))

pub returns-then-count-eq0-clause-text : goal.returns-then-count-eq0-clause-text
returns-then-count-eq0-clause-text g c =
    let read = c.in_ok-count.ensures.bytes in
    let count = c.in_ok-count.count in
    let same : c.loop.text.bytes ++ take count c.read.new.into ≡ c.loop.text.bytes =
    ap (λ n. c.loop.text.bytes ++ take n c.read.new.into) c.if-count-eq0.true ∙ append-nil c.loop.text.bytes in
    consumed_end (g.S.Source.left c.args.source.now) (g.S.Source.left c.read.new.self) c.loop.text.bytes 1048577
    (subst (λ (bs : List ℕ). Consumes (g.S.Source.left c.args.source.now) (g.S.Source.left c.read.new.self) bs) same (Consumes_then _ _ _ _ _ c.loop.invariant.3 read.0))
    (read.1 c.if-count-eq0.true (omega (arith, c.read.auto.into, length-take c.min-want.result c.loop.piece, c.min-want.ensures, ap length c.bytes.ensures, c.loop.invariant.2, c.if-want-eq0.false))) c.loop.invariant.0

pub returns-clause-text : goal.returns-clause-text
returns-clause-text g c = consumed_limit _ _ c.loop.text.bytes 1048577 c.loop.invariant.3 (omega (arith, c.loop.invariant.0, c.loop.invariant.1))
