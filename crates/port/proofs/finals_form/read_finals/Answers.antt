use Rattle.std.proofs.Common.{Ok, Err}
use Rattle.port.specs.FinalsForm.{IsFinals, finals_bytes, FinalsShow}
use Rattle.port.proofs.Forms.{only, first}
use Rattle.port.proofs.FinalsForms.{finals_form}
use Rattle.port.proofs.finals_form.read_finals.Goals as goal

pub returns-clause-only : goal.returns-clause-only
returns-clause-only c = only IsFinals finals_bytes FinalsShow (finals_form c.one_form.ensures) (λ finals. finals.items) c.args.bytes.now c.read_whole.result c.read_whole.ensures.found c.read_whole.ensures.fault

pub returns-clause-first : goal.returns-clause-first
returns-clause-first c = first IsFinals finals_bytes FinalsShow (finals_form c.one_form.ensures) (λ finals. finals.items) c.args.bytes.now c.read_whole.result c.read_whole.ensures.found c.read_whole.ensures.fault
