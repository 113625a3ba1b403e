use Rattle.std.proofs.Common.{◌≡◌, ◌++◌, List, ℕ, take, drop, sym, ap, subst, ◌∙◌}
use Rattle.std.specs.Io.KnownBytes.{Appends}
use Rattle.std.proofs.KnownBytes.{Appends-kept, Appends-trans}
use Rattle.std.proofs.lemmas.List.{take_rest}
use Rattle.nim_outside.proofs.Written.{front, split_later}
use Rattle.nim_outside.proofs.stream_sink.write_each.Goals as goal
use Rattle.nim_outside.proofs.stream_sink.write_each.Goals.{in-Ok, in-Err+else-ne}

pub returns-in-Ok-eq0 : goal.returns-in-Ok-eq0
returns-in-Ok-eq0 g c =
    let (done, split, wrote) = c.loop.invariant in
    let rest = c.loop.rest.now in
    let n = c.in-Ok-eq0.field-0 in
    front _ _ c.args.bytes.now (drop n rest) (record { done = done ++ take n rest; split = split_later done rest c.args.bytes.now n split; wrote = Appends-trans _ _ _ _ _ wrote c.in-Ok-eq0.ensures.bytes })

pub returns-then-ne : goal.returns-then-ne
returns-then-ne g c =
    let (done, split, wrote) = c.loop.invariant in
    front _ _ c.args.bytes.now c.loop.rest.now (record { done = done; split = split; wrote = Appends-kept _ _ _ _ wrote c.in-Err.ensures.bytes })

pub loop-preserved : goal.loop-preserved
loop-preserved g c =
    let (done, split, wrote) = c.loop.invariant in
    let rest = c.loop.rest.now in
    elim c.match-write.branch [
      | in-Ok w ↦ (
        done ++ take w.in-Ok.count rest,
        split_later done rest c.args.bytes.now w.in-Ok.count split ∙ ap (λ l. (done ++ take w.in-Ok.count rest) ++ l) (sym (ap (λ r. r.now) w.rest-is ∙ take_rest rest w.in-Ok.count)),
        Appends-trans _ _ _ _ _ wrote w.in-Ok.ensures.bytes,
      )
      | in-Err+else-ne w ↦ (
        done,
        split ∙ ap (λ l. done ++ l) (sym (ap (λ r. r.now) w.rest-is)),
        Appends-kept _ _ _ _ wrote w.in-Err.ensures.bytes,
      )
    ]

pub returns : goal.returns
returns g c =
    let (done, split, wrote) = c.loop.invariant in
    front _ _ c.args.bytes.now c.loop.rest.now (record { done = done; split = split; wrote = wrote })
