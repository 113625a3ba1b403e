use Rattle.std.proofs.Common.{◌∙◌, sym, ap, Ok}
use Rattle.fault_script.specs.Seen.{commands_of}
use Rattle.fault_script.proofs.Again.{reads_again}
use Rattle.fault_script.proofs.reading.read.Goals as goal

pub of-requires : goal.of-requires
of-requires c = reads_again c.args.bytes.now (commands_of c.into_lines.result.items) (c.in_ok-reader.ensures ∙ ap Ok (sym c.into_lines.ensures))
