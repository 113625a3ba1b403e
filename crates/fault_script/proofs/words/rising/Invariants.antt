use Rattle.std.proofs.Common.{◌≡◌, ◌≤◌, map, drop}
use Rattle.fault_script.specs.Words.{rising}
use Rattle.fault_script.proofs.Rising.{with_front}
use Rattle.fault_script.proofs.words.rising.Given as goal

abbrev pub invariant-loop-word : goal.invariant-loop-word
invariant-loop-word l =
    (l.last ≤ 64) × (with_front l.ids.items (rising l.last (map (λ word. word.now) (drop l.word-index l.words))) ≡ rising 0 (map (λ word. word.now) l.words))
