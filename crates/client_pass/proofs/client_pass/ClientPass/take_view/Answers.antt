use Rattle.std.proofs.Common.{◌≡◌, ℕ, ◌-◌, ◌<◌, List, [], ◌∷◌, ◌++◌, length, refl, sym, ap, subst, ◌∙◌}
use Rattle.std.specs.List.{All}
use Rattle.stamp_clock.specs.Stamps.{Stamps}
use Rattle.view_ledger.specs.Views.{ViewChain}
use Rattle.client_pass.specs.Act.{Act, View, Line, line}
use Rattle.client_pass.specs.ClientList.{chain_after, stamps_of}
use Rattle.client_pass.specs.ClientPass.{ClientPass, up_to}
use Rattle.client_pass.proofs.ClientLists.{stamps_push}
use Rattle.client_pass.proofs.Passes.{more, notes, up_to_stays, began_stays, by_view_answer}
use Rattle.client_pass.proofs.client_pass.ClientPass.take_view.Goals as goal

pub invariant_of-self-2 : goal.invariant_of-self-2
invariant_of-self-2 g c =
    let i = c.self.invariant in
    let chain : ViewChain = c.self.inside.verifier.chain in
    let now : ViewChain = c.view_fault.new.verifier.chain in
    let began : ℕ = c.self.inside.began in
    let lines : List Line = c.self.inside.lines.lines in
    let stamp : ℕ = c.stamp-stamp.result in
    let act : Act = View c.args.next.now c.in_ok-fault.fault in
    let next : Line = line stamp act in
    let inside : ClientPass g.row.C.Denot = record { client = c.self.inside.client; checker = c.self.inside.verifier.checker; first = up_to began chain; chain = chain; lines = lines; left = c.self.inside.pass.left } in
    let added : c.add.new.self.lines ≡ lines ++ next ∷ [] =
    c.add.ensures ∙ (λ k. c.reserve.ensures.lines k ++ line stamp (View (c.in_ok-row.ensures k) c.in_ok-fault.fault) ∷ []) in
    let leads : now ≡ chain_after chain act = c.in_ok-fault.ensures.chain in
    let first : up_to began now ≡ up_to began chain = ap (up_to began) leads ∙ up_to_stays began chain act i.2 in
    let drawn = ap (λ (s : Stamps). s.drawn) c.stamp-stamp.ensures.drawn in
    let kept = more g.C.Checker.accepts inside inside c.view_fault.new.verifier.checker (up_to began now) now next refl c.in_ok-fault.ensures.checker first leads i.0 i.1 c.in_ok-fault.ensures.fault tt in
    rw added (kept.0, kept.1, subst (λ (v : ViewChain). began < length v.configs) (sym leads) (began_stays began chain act i.2), stamps_push lines next ∙ ap (λ (stamps : List ℕ). stamps ++ stamp ∷ []) i.3 ∙ sym drawn, c.stamp-stamp.ensures.rises i.4)

pub returns-clause-noted : goal.returns-clause-noted
returns-clause-noted g c =
    let i = c.self.invariant in
    let chain : ViewChain = c.self.inside.verifier.chain in
    let now : ViewChain = c.view_fault.new.verifier.chain in
    let began : ℕ = c.self.inside.began in
    let lines : List Line = c.self.inside.lines.lines in
    let stamp : ℕ = c.stamp-stamp.result in
    let act : Act = View c.args.next.now c.in_ok-fault.fault in
    let next : Line = line stamp act in
    let inside : ClientPass g.row.C.Denot = record { client = c.self.inside.client; checker = c.self.inside.verifier.checker; first = up_to began chain; chain = chain; lines = lines; left = c.self.inside.pass.left } in
    let added : c.add.new.self.lines ≡ lines ++ next ∷ [] =
    c.add.ensures ∙ (λ k. c.reserve.ensures.lines k ++ line stamp (View (c.in_ok-row.ensures k) c.in_ok-fault.fault) ∷ []) in
    let leads : now ≡ chain_after chain act = c.in_ok-fault.ensures.chain in
    let first : up_to began now ≡ up_to began chain = ap (up_to began) leads ∙ up_to_stays began chain act i.2 in
    let left : c.stamp-stamp.new.pass.left ≡ c.self.inside.pass.left - 1 = ap (λ (s : Stamps). s.left) c.stamp-stamp.ensures.drawn in
    let above : All (λ earlier. earlier < stamp) (stamps_of lines) = subst (λ (xs : List ℕ). All (λ earlier. earlier < stamp) xs) (sym i.3) c.stamp-stamp.ensures.above in
    by_view_answer c.in_ok-fault.fault c.view_answer_by.result _ c.view_answer_by.ensures
    (notes inside _ _ stamp act c.self.view_is above (λ k. record { client = c.self.inside.client; checker = c.in_ok-fault.ensures.checker k; first = first k; chain = leads k; lines = added k; left = left k }))
