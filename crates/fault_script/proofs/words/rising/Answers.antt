use Rattle.std.proofs.Common.{◌≡◌, ◌+◌, ◌++◌, ◌∷◌, [], map, drop, get_or, sym, ap, ◌∙◌, rules, arith}
use Rattle.std.proofs.lemmas.List.{at_drop_more}
use Rattle.fault_script.specs.Words.{rising}
use Rattle.fault_script.proofs.Rising.{with_front, with_front_more, rising_some}
use Rattle.fault_script.proofs.words.rising.Goals as goal

pub loop-word-preserved : goal.loop-word-preserved
loop-word-preserved c =
    let words = c.args.words.now in
    let i = c.loop-word.word-index in
    let word = get_or words i (record { ref_ptr = (0, 0); now = [] }) in
    let rest = map (λ word. word.now) (drop (i + 1) words) in
    let pushed : c.push.new.self.items ≡ c.loop-word.ids.items ++ c.in-Some.id ∷ [] = search rules in
    let turn = at_drop_more (λ ps. rising c.loop-word.last (map (λ word. word.now) ps)) words i (record { ref_ptr = (0, 0); now = [] }) (omega arith)
    ∙ rising_some c.loop-word.last word.now rest c.in-Some.id (sym c.in-Some.ensures.number) in (
      c.in-Some.ensures.limit,
      ap (λ front. with_front front (rising c.in-Some.id rest)) pushed
          ∙ with_front_more c.loop-word.ids.items c.in-Some.id (rising c.in-Some.id rest)
          ∙ sym (ap (with_front c.loop-word.ids.items) turn)
          ∙ c.loop-word.invariant.1,
    )
