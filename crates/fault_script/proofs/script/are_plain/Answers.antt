use Rattle.std.proofs.Common.{rules, tests, sym, ◌∙◌}
use Rattle.std.proofs.lemmas.Iterator.{YieldsList-from_slice}
use Rattle.std.proofs.lemmas.Iterator.Search.{all_from_yields_List}
use Rattle.std.proofs.lemmas.List.Folds.{list_all-map}
use Rattle.fault_script.specs.Script.{is_plain_command}
use Rattle.fault_script.specs.Seen.{command_of}
use Rattle.fault_script.proofs.script.are_plain.Goals as goal

pub returns : goal.returns
returns c =
    all_from_yields_List (λ line. is_plain_command (command_of line)) _ _ c.all.result c.all.ensures.ran (YieldsList-from_slice c.args.lines.now cc) (λ x b q k. search (rules, tests))
    ∙ sym (list_all-map is_plain_command command_of c.args.lines.now)
