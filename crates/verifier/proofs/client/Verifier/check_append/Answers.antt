use Rattle.std.proofs.Common.{◌≡◌, Some, rules, sym, ◌∙◌, refl}
use Rattle.chain_block.specs.Entry.{bare, handle_of, height_of}
use Rattle.verifier.specs.Outcomes.{standing_fault}
use Rattle.verifier.proofs.Yeses.{stands, fits, some_none, entry_same, same_entry}
use Rattle.verifier.proofs.client.Verifier.check_append.Goals as goal

pub returns-in-Some-clause-yes : goal.returns-in-Some-clause-yes
returns-in-Some-clause-yes g c =
    let accepts = g.C.Checker.accepts c.args.self.now.checker in
    let configs = c.args.self.now.chain.configs in
    let reply = c.args.reply.now in
    let entry = c.args.entry.now in
    let judged : c.standing.result ≡ standing_fault accepts configs (handle_of entry) (height_of entry) (Some entry) reply reply.receipt.statement = search rules in
    (λ e. absurd cc, λ is. some_none c.in-Some.fault (sym c.in-Some.is ∙ judged ∙ fits accepts configs (handle_of entry) (height_of entry) (Some entry) reply is.0 (same_entry (bare entry) reply.row.entry is.1)))

pub returns-in-None-clause-yes : goal.returns-in-None-clause-yes
returns-in-None-clause-yes g c =
    let accepts = g.C.Checker.accepts c.args.self.now.checker in
    let configs = c.args.self.now.chain.configs in
    let reply = c.args.reply.now in
    let entry = c.args.entry.now in
    let judged : c.standing.result ≡ standing_fault accepts configs (handle_of entry) (height_of entry) (Some entry) reply reply.receipt.statement = search rules in (
      λ e.
          let s = stands accepts configs (handle_of entry) (height_of entry) (Some entry) reply reply.receipt.statement refl (sym judged ∙ c.in-None.is) in
          (s.0, entry_same (bare entry) reply.row.entry s.1),
      λ is. refl,
    )
