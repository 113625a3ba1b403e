use Rattle.std.proofs.Common.{◌≡◌, List, length, ap, subst, ◌∙◌}
use Rattle.std.specs.Prelude.{option_copied}
use Rattle.client_pass.specs.Act.{Line}
use Rattle.stamp_clock.specs.Stamps.{times}
use Rattle.client_pass.specs.ClientList.{answered}
use Rattle.client_pass.proofs.Passes.{for_entry, for_read, same_lines, still_open}
use Rattle.client_pass.proofs.client_pass.ClientPass.draw.Goals as goal

pub returns-clause-for_entry : goal.returns-clause-for_entry
returns-clause-for_entry g c =
    let number = c.next-number.ensures.number ∙ ap (λ (lines : List Line). length lines) (same_lines _ c.args.self.now c.self.view_is) in
    for_entry c.args.self.now c.note.new.self c.args.nonce.now c.in_ok-intent.intent (option_copied c.args.intent) c.next-number.result c.in_ok-note.ensures.noted c.in_ok-intent.ensures.copy number

pub returns-clause-for_read : goal.returns-clause-for_read
returns-clause-for_read g c =
    let number = c.next-number.ensures.number ∙ ap (λ (lines : List Line). length lines) (same_lines _ c.args.self.now c.self.view_is) in
    for_read c.args.self.now c.note.new.self c.args.nonce.now c.in_ok-intent.intent (option_copied c.args.intent) c.next-number.result c.in_ok-note.ensures.noted c.in_ok-intent.ensures.copy number

pub returns-clause-open : goal.returns-clause-open
returns-clause-open g c =
    let lines = same_lines _ c.args.self.now c.self.view_is in
    let none = subst (λ (lines : List Line). times c.next-number.result (answered lines) ≡ 0) lines c.next-number.ensures.open in
    still_open c.args.self.now c.note.new.self c.args.nonce.now c.in_ok-intent.intent c.next-number.result c.in_ok-note.ensures.noted none
