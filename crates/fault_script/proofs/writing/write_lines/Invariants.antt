use Rattle.std.proofs.Common.{◌≡◌, take}
use Rattle.fault_script.specs.Seen.{commands_of}
use Rattle.fault_script.specs.Spelling.{whole_text}
use Rattle.fault_script.proofs.writing.write_lines.Given as goal

abbrev pub invariant-loop-line : goal.invariant-loop-line
invariant-loop-line l = l.text.bytes ≡ whole_text (commands_of (take l.line-index l.lines))
