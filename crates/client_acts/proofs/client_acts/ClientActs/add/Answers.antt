use Rattle.std.proofs.Common.{◌≡◌, ◌∙◌, List, ap, subst, sym}
use Rattle.client_pass.specs.ClientPass.{ClientPass}
use Rattle.run_clients.specs.Clients.{Client}
use Rattle.client_acts.specs.ClientActs.{AreNoted, ClientActs}
use Rattle.client_acts.proofs.Acting.{on_err, passes, seen}
use Rattle.client_acts.proofs.Adding.{added_noted, added_seen, new_name}
use Rattle.client_acts.proofs.client_acts.ClientActs.add.Goals as goal

pub add-requires : goal.add-requires
add-requires g c = record {
  new = new_name c.self.inside.first c.self.inside.clients c.self.inside.turns.items c.args.self.now c.args.name.now c.self.view_is c.requires.new;
}

pub invariant_of-self-in_err-add : goal.invariant_of-self-in_err-add
invariant_of-self-in_err-add g c =
    subst (λ (clients : List (Client g.row.C.Denot)). AreNoted g.C.Checker.accepts c.self.inside.first g.K.RunName.accepts (passes clients) c.self.inside.turns.items)
    (sym c.in_err-add.ensures.no_memory) c.self.invariant

pub invariant_of-self-2 : goal.invariant_of-self-2
invariant_of-self-2 g c =
    let pass = c.new-pass.result in
    let begins : pass.first ≡ c.self.inside.first = ap (λ (pass : ClientPass g.row.C.Denot). pass.first) c.new-pass.ensures ∙ c.new.ensures.chain ∙ c.in_ok-first.ensures in
    let checker : pass.checker ≡ c.args.checker = ap (λ (pass : ClientPass g.row.C.Denot). pass.checker) c.new-pass.ensures ∙ c.new.ensures.checker in
    added_noted g.C.Checker.accepts c.self.inside.first g.K.RunName.accepts c.self.inside.clients c.add.new.self c.self.inside.turns.items c.args.name.now pass
    c.self.invariant c.in_ok-add.ensures.added begins (ap g.C.Checker.accepts checker ∙ c.requires.accepts) (ap (λ (pass : ClientPass g.row.C.Denot). pass.lines) c.new-pass.ensures)

pub returns-clause-client : goal.returns-clause-client
returns-clause-client g c =
    let pass = c.new-pass.result in
    let first = ap (λ (old : ClientActs g.row.C.Denot). old.first) c.self.view_is in (
      pass,
      ap (λ (pass : ClientPass g.row.C.Denot). pass.checker) c.new-pass.ensures ∙ c.new.ensures.checker,
      ap (λ (pass : ClientPass g.row.C.Denot). pass.chain) c.new-pass.ensures ∙ c.new.ensures.chain ∙ c.in_ok-first.ensures ∙ first,
      added_seen c.self.inside.first c.self.inside.clients c.add.new.self c.self.inside.turns.items c.args.self.now c.args.name.now pass c.self.view_is c.in_ok-add.ensures.added,
      ap (λ (pass : ClientPass g.row.C.Denot). pass.lines) c.new-pass.ensures,
    )

pub returns-in_err-add-clause-no_memory : goal.returns-in_err-add-clause-no_memory
returns-in_err-add-clause-no_memory g c =
    on_err c.from_residual-in_err-add.result
    (ap (λ (clients : List (Client g.row.C.Denot)). seen c.self.inside.first clients c.self.inside.turns.items) c.in_err-add.ensures.no_memory ∙ c.self.view_is)
