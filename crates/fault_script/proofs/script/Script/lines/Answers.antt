use Rattle.std.proofs.Common.{◌≤◌, ◌∙◌, sym, ap, subst, [], List, length, count_by}
use Rattle.fault_script.specs.Command.{Command}
use Rattle.fault_script.specs.Limits.{is_new}
use Rattle.fault_script.specs.Line.{has_ended}
use Rattle.fault_script.specs.Seen.{commands_of}
use Rattle.fault_script.specs.Spelling.{text_of}
use Rattle.fault_script.specs.Within.{AllFit}
use Rattle.fault_script.proofs.Again.{scripts_are_whole}
use Rattle.fault_script.proofs.Fitting.{each_fits, few_news}
use Rattle.fault_script.proofs.script.Script.lines.Goals as goal

pub returns-clause-fits : goal.returns-clause-fits
returns-clause-fits c =
    let commands = commands_of c.self.inside.lines.items in
    subst (AllFit []) c.self.view_is (scripts_are_whole (text_of commands) commands c.self.invariant).fit

pub returns-clause-each : goal.returns-clause-each
returns-clause-each c =
    let commands = commands_of c.self.inside.lines.items in
    λ before command after split.
    each_fits commands before command after (scripts_are_whole (text_of commands) commands c.self.invariant).fit (c.self.view_is ∙ split)

pub returns-clause-ended : goal.returns-clause-ended
returns-clause-ended c =
    let commands = commands_of c.self.inside.lines.items in
    ap has_ended (sym c.self.view_is) ∙ (scripts_are_whole (text_of commands) commands c.self.invariant).over

pub returns-clause-count : goal.returns-clause-count
returns-clause-count c =
    let commands = commands_of c.self.inside.lines.items in
    subst (λ (l : List Command). length l ≤ 65536) c.self.view_is (scripts_are_whole (text_of commands) commands c.self.invariant).count

pub returns-clause-news : goal.returns-clause-news
returns-clause-news c =
    let commands = commands_of c.self.inside.lines.items in
    subst (λ (l : List Command). count_by is_new l ≤ 256) c.self.view_is (few_news commands (scripts_are_whole (text_of commands) commands c.self.invariant).fit)
