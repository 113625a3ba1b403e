use Rattle.std.proofs.Common.{Ok, Err}
use Rattle.port.specs.ViewForm.{IsView, view_bytes, ViewShows}
use Rattle.port.proofs.Forms.{only, first, gives}
use Rattle.port.proofs.ViewForms.{view_form}
use Rattle.port.proofs.view_form.read_view.Goals as goal

pub returns-clause-only : goal.returns-clause-only
returns-clause-only c =
    let form = view_form c.view_blocks_have_own_bytes.ensures c.configs_have_own_bytes.ensures c.configs_show_one_fault.ensures.one c.configs_show_one_fault.ensures.none in
    let r = c.read_whole.result in
    λ view good at. gives r (Ok view) (only IsView view_bytes ViewShows form (λ view. view) c.args.bytes.now r c.read_whole.ensures.found c.read_whole.ensures.fault view good at)

pub returns-clause-first : goal.returns-clause-first
returns-clause-first c =
    let form = view_form c.view_blocks_have_own_bytes.ensures c.configs_have_own_bytes.ensures c.configs_show_one_fault.ensures.one c.configs_show_one_fault.ensures.none in
    let r = c.read_whole.result in
    λ fault shown. gives r (Err fault) (first IsView view_bytes ViewShows form (λ view. view) c.args.bytes.now r c.read_whole.ensures.found c.read_whole.ensures.fault fault shown)
