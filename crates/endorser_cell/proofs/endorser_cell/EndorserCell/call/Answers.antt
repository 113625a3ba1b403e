use Rattle.std.proofs.Common.{◌≡◌, ℕ, List, [], ◌∷◌, ◌++◌, sym, ap, ◌∙◌}
use Rattle.stamp_clock.specs.Stamps.{Stamps}
use Rattle.port.specs.Call.{call_of}
use Rattle.port.specs.Answer.{answer_of}
use Rattle.endorser_core.specs.Line.{Line, line}
use Rattle.endorser_cell.proofs.Lines.{stamps_push, same_me, lawful_push, leads_push}
use Rattle.endorser_cell.proofs.endorser_cell.EndorserCell.call.Goals as goal

pub invariant_of-self-2 : goal.invariant_of-self-2
invariant_of-self-2 g c =
    let i = c.self.invariant in
    let key = g.G.Signer.Signer.key_of in
    let old = c.self.inside.endorser in
    let new = c.step.new.self in
    let lines : List Line = c.self.inside.lines.items in
    let stamp : ℕ = c.stamp-stamp.result in
    let next : Line = line stamp (call_of c.args.call.now) (answer_of c.in_ok-answer.answer) in
    let same = same_me key old new c.step.ensures.same_id c.step.ensures.same_key in
    let drawn = ap (λ (s : Stamps). s.drawn) c.stamp-stamp.ensures.drawn in
    let noted : c.push_reserved.new.self.items ≡ lines ++ next ∷ [] =
    c.push_reserved.ensures.items
    ∙ (λ k. c.reserve.ensures.items k ++ record { stamp = stamp; call = c.in_ok-asked.ensures k; answer = c.line_answer.ensures k } ∷ []) in
    rw noted (
      lawful_push key g.G.Checker.Checker.accepts old new lines next c.lines_go_on.ensures.lawful same c.step.ensures.same_checker i.0 i.1 (c.in_ok-answer.ensures.lawful i.4 stamp),
      leads_push key old new lines next c.lines_go_on.ensures.replayed same i.1 (c.in_ok-answer.ensures.replayed stamp),
      stamps_push _ _ ∙ ap (λ (stamps : List ℕ). stamps ++ stamp ∷ []) i.2 ∙ sym drawn,
      c.stamp-stamp.ensures.rises i.3,
      c.step.ensures.fits i.4,
    )
