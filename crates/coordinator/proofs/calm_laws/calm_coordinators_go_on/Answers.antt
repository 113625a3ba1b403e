use Rattle.std.proofs.Common.{◌≡◌, Some, sym, ap, ◌∙◌}
use Rattle.coordinator.proofs.calm_laws.calm_coordinators_go_on.Goals as goal

pub returns-clause-stays : goal.returns-clause-stays
returns-clause-stays g c = λ state service later tells stays.
    record {
      tells = record {
        contents = tells.contents ∙ ap (λ contents. Some contents) stays.0;
        bank = tells.bank;
        signs = tells.signs;
        checks = tells.checks;
        front = tells.front;
      };
      calm = stays.1;
    }

pub returns-clause-grows : goal.returns-clause-grows
returns-clause-grows g c = λ state service entry later tells grows.
    record {
      tells = record { contents = tells.contents; bank = tells.bank; signs = tells.signs; checks = tells.checks; front = tells.front };
      calm = grows;
    }

pub returns-clause-restarts : goal.returns-clause-restarts
returns-clause-restarts g c = λ old new service calm store link checker front.
    record {
      tells = record {
        contents = ap (λ s. (g.S.Store.view s).told) store ∙ calm.tells.contents;
        bank = ap (λ l. (g.L.Link.view l).told) link ∙ calm.tells.bank;
        signs = ap (λ l. (g.L.Link.view l).signs) link ∙ calm.tells.signs;
        checks = ap (λ k. g.C.Checker.accepts k) checker ∙ calm.tells.checks;
        front = front;
      };
      calm = calm.calm;
    }
