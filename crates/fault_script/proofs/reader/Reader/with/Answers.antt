use Rattle.std.proofs.Common.{◌≡◌, ◌∙◌, sym, ap, subst, length, ◌+◌, ◌++◌, ◌∷◌, [], ◌||◌, List, ℕ, arith}
use Rattle.std.proofs.lemmas.List.{map_push, length-map}
use Rattle.fault_script.specs.Command.{Command}
use Rattle.fault_script.specs.Seen.{command_of, commands_of}
use Rattle.fault_script.specs.Kept.{IsKept, AreBefore}
use Rattle.fault_script.specs.Line.{is_end}
use Rattle.fault_script.proofs.Adding.{kept_more}
use Rattle.fault_script.proofs.reader.Reader.with.Goals as goal
use Rattle.fault_script.proofs.reader.Reader.with.Goals.{then-ended, else-ended}

pub invariant_of-result : goal.invariant_of-result
invariant_of-result c =
    let lines = c.self.inside.lines.items in
    let pushed : c.push.new.self.items ≡ lines ++ c.args.line ∷ [] = c.in_ok-push.ensures.items in
    let more : commands_of lines ++ command_of c.args.line ∷ [] ≡ commands_of c.push.new.self.items = sym (ap commands_of pushed ∙ map_push command_of lines c.args.line) in
    let over : c.if-ended.ended ≡ (c.self.inside.ended || is_end (command_of c.args.line)) =
    elim c.if-ended.branch [
      | then-ended w ↦ w.ended-is ∙ w.if-ended.true ∙ sym (ap (λ b. b || is_end (command_of c.args.line)) w.if-ended.true)
      | else-ended w ↦ w.ended-is ∙ w.is_end-ended.ensures ∙ sym (ap (λ b. b || is_end (command_of c.args.line)) w.if-ended.false)
    ] in
    let place : c.len.result ≡ length (commands_of lines) = omega (arith, c.len.ensures, length-map lines command_of) in
    let before : AreBefore (length (commands_of lines) + 1) c.note-2.new.self = let Q : ℕ → Type 0 = λ n. AreBefore (n + 1) c.note-2.new.self in subst Q place c.in_ok-note-2.ensures.before in
    let P : List Command → Type 0 = λ commands. IsKept c.note.new.self c.note-2.new.self c.with-counts.result c.if-ended.ended commands in
    subst P more
    (kept_more c.self.inside.labels c.note.new.self c.self.inside.operations c.note-2.new.self c.self.inside.counts c.with-counts.result c.self.inside.ended c.if-ended.ended (commands_of lines) (command_of c.args.line)
    c.self.invariant c.in_ok-note.ensures c.in_ok-note-2.ensures.stand before c.with-counts.ensures.news c.with-counts.ensures.reconfigures c.with-counts.ensures.finalizes over)
