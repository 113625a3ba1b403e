use Rattle.endorser_core.proofs.Cells.{SetLaw}
use Rattle.endorser_core.proofs.Following.{step_size, step_not_full, step_fits, step_lawful, step_replayed, weaker, either_way}
use Rattle.endorser_core.proofs.endorser.Endorser.step.Goals as goal

pub returns-clause-size : goal.returns-clause-size
returns-clause-size g c =
    let law : SetLaw = (c.one_row_changes.ensures.own, c.one_row_changes.ensures.others) in
    weaker c.respond.result _ _ c.respond.ensures.table (λ answer s. step_size law s)

pub returns-clause-never_full : goal.returns-clause-never_full
returns-clause-never_full g c =
    let law : SetLaw = (c.one_row_changes.ensures.own, c.one_row_changes.ensures.others) in
    weaker c.respond.result _ _ c.respond.ensures.table (λ answer s. step_not_full law s)

pub returns-clause-fits : goal.returns-clause-fits
returns-clause-fits g c fits =
    either_way c.respond.result _ c.args.self.now c.respond.new.self (λ e. g.G.Scheme.fits e.signer e.checker) c.respond.ensures.table c.respond.ensures.no_memory
    (λ answer s. step_fits s g.G.Scheme.fits (λ bytes sig after signed. (g.met.G.Scheme.accepted _ _ _ _ _ fits signed).1) fits) fits

pub returns-clause-lawful : goal.returns-clause-lawful
returns-clause-lawful g c =
    let law : SetLaw = (c.one_row_changes.ensures.own, c.one_row_changes.ensures.others) in
    weaker c.respond.result _ _ c.respond.ensures.table
    (λ answer s fits stamp. step_lawful law s (g.G.Checker.Checker.accepts c.args.self.now.checker) stamp (λ bytes sig after signed. (g.met.G.Scheme.accepted _ _ _ _ _ fits signed).0))

pub returns-clause-replayed : goal.returns-clause-replayed
returns-clause-replayed g c =
    let law : SetLaw = (c.one_row_changes.ensures.own, c.one_row_changes.ensures.others) in
    weaker c.respond.result _ _ c.respond.ensures.table (λ answer s stamp. step_replayed law s stamp)
