use Rattle.std.proofs.Common.{rules, tests, ◌≡◌, eqb, map}
use Rattle.std.specs.List.{slice_split}
use Rattle.std.proofs.lemmas.Result.{IfOk-at_ok}
use Rattle.std.proofs.lemmas.Iterator.Consumers.{map_from_collect}
use Rattle.std.proofs.lemmas.Iterator.Splits.{YieldsList-from_slice_split}
use Rattle.fault_script.proofs.words.parts.Goals as goal

pub returns-in-Ok : goal.returns-in-Ok
returns-in-Ok c =
    IfOk-at_ok (λ found. map (λ part. part.now) found.items ≡ slice_split (λ b. eqb b c.args.separator) c.args.bytes.now) c.in-Ok.is
    (map_from_collect _ c.collect.ensures.ran
    (YieldsList-from_slice_split _ (λ b. eqb b c.args.separator) c.args.bytes.now c.split.ensures.rest c.split.ensures.done c.split.ensures.closure (λ x b q k. search (rules, tests))))
