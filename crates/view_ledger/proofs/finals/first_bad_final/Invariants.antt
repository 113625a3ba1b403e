use Rattle.std.proofs.Common.{◌≡◌, None, drop}
use Rattle.statement.specs.declared.statement.Statement.TheVariants.{Final}
use Rattle.statement.specs.Statement.{statement_bytes}
use Rattle.view_ledger.specs.Extension.{first_bad_final}
use Rattle.view_ledger.proofs.finals.first_bad_final.Given as goal

abbrev pub invariant-loop-ended : goal.invariant-loop-ended
invariant-loop-ended g l =
    let accepts = g.C.Checker.accepts l.checker in
    first_bad_final accepts l.config (λ map. statement_bytes (Final l.view l.next map)) l.before (drop l.ended-index l.finals) ≡ first_bad_final accepts l.config (λ map. statement_bytes (Final l.view l.next map)) None l.finals
