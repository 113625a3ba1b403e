use Rattle.std.proofs.Common.{◌≡◌, ℕ, List, [], ◌∷◌, ◌++◌, refl, sym, ap, ◌∙◌}
use Rattle.stamp_clock.specs.Stamps.{Stamps}
use Rattle.view_ledger.specs.Views.{ViewChain}
use Rattle.client_pass.specs.Act.{Line, line, act_of}
use Rattle.client_pass.specs.ClientList.{chain_after}
use Rattle.client_pass.specs.ClientPass.{up_to}
use Rattle.client_pass.proofs.ClientLists.{stamps_push}
use Rattle.client_pass.proofs.Passes.{more, same_chain}
use Rattle.client_pass.proofs.client_pass.ClientPass.note.Goals as goal

pub invariant_of-self-2 : goal.invariant_of-self-2
invariant_of-self-2 g c =
    let i = c.self.invariant in
    let chain : ViewChain = c.self.inside.verifier.chain in
    let lines : List Line = c.self.inside.lines.lines in
    let stamp : ℕ = c.stamp-stamp.result in
    let next : Line = line stamp (act_of c.args.act) in
    let added : c.add.new.self.lines ≡ lines ++ next ∷ [] = c.add.ensures ∙ ap (λ (ls : List Line). ls ++ next ∷ []) c.reserve.ensures.lines in
    let drawn = ap (λ (s : Stamps). s.drawn) c.stamp-stamp.ensures.drawn in
    let stays = same_chain _ c.args.self.now c.self.view_is in
    let leads : chain ≡ chain_after chain next.act = stays ∙ sym c.requires.same ∙ ap (λ (v : ViewChain). chain_after v next.act) (sym stays) in
    let kept = more g.C.Checker.accepts _ c.args.self.now c.self.inside.verifier.checker (up_to c.self.inside.began chain) chain next c.self.view_is refl refl leads i.0 i.1 c.requires.done c.requires.open in
    rw added (kept.0, kept.1, i.2, stamps_push lines next ∙ ap (λ (stamps : List ℕ). stamps ++ stamp ∷ []) i.3 ∙ sym drawn, c.stamp-stamp.ensures.rises i.4)
