-- What is known after one line more.
use Rattle.std.proofs.Common.{◌≡◌, ◌∙◌, ap, ℕ, ◌+◌, ◌<◌, List, length, take, get_or}
use Rattle.std.proofs.lemmas.List.{map_more}
use Rattle.std.proofs.lemmas.List.Sums.{fold_push}
use Rattle.fault_script.specs.declared.line.Line.{Line}
use Rattle.fault_script.specs.Seen.{command_of, commands_of}
use Rattle.world_run.specs.Plain.{nothing, after, known_after}

pub known_more : (lines : List Line) (i : ℕ) (d : Line) → i < length lines
    → known_after (commands_of (take (i + 1) lines)) ≡ after (known_after (commands_of (take i lines))) (command_of (get_or lines i d))
known_more lines i d below = ap known_after (map_more command_of lines i d below) ∙ fold_push after nothing (commands_of (take i lines)) (command_of (get_or lines i d))
