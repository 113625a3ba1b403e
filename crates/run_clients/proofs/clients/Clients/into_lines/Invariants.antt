use Rattle.std.proofs.Common.{◌≡◌, map}
use Rattle.std.specs.Prelude.{vec_items}
use Rattle.std.specs.List.{AllByRecursion}
use Rattle.run_clients.specs.Clients.{HasClientLines}
use Rattle.run_clients.proofs.clients.Clients.into_lines.Given as goal

abbrev pub invariant-loop-client : goal.invariant-loop-client
invariant-loop-client g l = record {
  lines : map vec_items l.lists.items ≡ map (λ client. client.pass.lines) l.yielded;
  kept : AllByRecursion (λ client. HasClientLines (g.C.Checker.accepts client.pass.checker) client.pass) l.yielded;
}
