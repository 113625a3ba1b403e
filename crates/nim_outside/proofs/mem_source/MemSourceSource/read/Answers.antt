use Rattle.std.proofs.Common.{◌≡◌, ◌-◌, min, length, take, drop, sym, ap, ◌∙◌}
use Rattle.std.proofs.lemmas.List.{drop-drop, take_rest}
use Rattle.nim_outside.proofs.Given.{given}
use Rattle.nim_outside.proofs.mem_source.MemSourceSource.read.Goals as goal

pub returns-clause-bytes : goal.returns-clause-bytes
returns-clause-bytes c =
    let source = c.self.inside in
    let all = c.bytes.result.now in
    let left_is : take (length all - source.read) (drop source.read all) ≡ drop source.read source.bytes.bytes =
    take_rest all source.read ∙ ap (drop source.read) c.bytes.ensures in
    rw (← c.self.view_is)
    (given _ c.args.into.now c.copy_from_slice.new.self _ c.min-count.result
    (c.min-count.ensures ∙ ap (λ left. min (length c.args.into.now) (length left)) left_is)
    (c.copy_from_slice.ensures.after ∙ ap (take c.min-count.result) left_is)
    (sym (drop-drop c.min-count.result source.read source.bytes.bytes)))
