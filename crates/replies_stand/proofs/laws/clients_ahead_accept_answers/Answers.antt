use Rattle.replies_stand.proofs.Judges.{Means, Fronts, append_ahead, at_ahead, latest_ahead}
use Rattle.replies_stand.proofs.Saying.{new_stands, append_stands, at_stands, latest_stands, conflict_stands}
use Rattle.replies_stand.proofs.laws.clients_ahead_accept_answers.Given.{Over}
use Rattle.replies_stand.proofs.laws.clients_ahead_accept_answers.Goals as goal

means : (g : Over) (c : goal.After-fronts_judge_alike g) → Means
means g c = record { append = c.outcomes_mean.ensures.append; at = c.outcomes_mean.ensures.at; latest = c.outcomes_mean.ensures.latest }

fronts : (g : Over) (c : goal.After-fronts_judge_alike g) → Fronts
fronts g c = record {
  append = c.fronts_judge_alike.ensures.append;
  at = c.fronts_judge_alike.ensures.at;
  latest = c.fronts_judge_alike.ensures.latest;
  append_unknown = c.fronts_judge_alike.ensures.append_unknown;
  at_unknown = c.fronts_judge_alike.ensures.at_unknown;
  latest_unknown = c.fronts_judge_alike.ensures.latest_unknown;
}

pub returns-clause-new_ledger : goal.returns-clause-new_ledger
returns-clause-new_ledger g c old new nonce payload entry standing configs says is first own =
    append_ahead (means g c) (fronts g c) (g.C.Checker.accepts old.checker) new.chain.configs configs first own entry standing (new_stands g.C.Checker.accepts g.S.Store.view g.L.Link.view old new nonce payload entry standing says is)

pub returns-clause-append : goal.returns-clause-append
returns-clause-append g c old new handle height nonce payload entry standing configs says is first own =
    append_ahead (means g c) (fronts g c) (g.C.Checker.accepts old.checker) new.chain.configs configs first own entry standing (append_stands g.C.Checker.accepts g.S.Store.view g.L.Link.view old new handle height nonce payload entry standing says is)

pub returns-clause-at : goal.returns-clause-at
returns-clause-at g c old new handle height standing configs says first own =
    at_ahead (means g c) (fronts g c) (g.C.Checker.accepts old.checker) new.chain.configs configs first own handle height standing (at_stands g.C.Checker.accepts g.S.Store.view g.L.Link.view old new handle height standing says)

pub returns-clause-conflict : goal.returns-clause-conflict
returns-clause-conflict g c old new handle height nonce payload standing configs says first own =
    at_ahead (means g c) (fronts g c) (g.C.Checker.accepts old.checker) new.chain.configs configs first own handle height standing (conflict_stands g.C.Checker.accepts g.S.Store.view g.L.Link.view old new handle height nonce payload standing says)

pub returns-clause-latest : goal.returns-clause-latest
returns-clause-latest g c old new handle nonce reply configs says first own =
    let l = latest_stands g.C.Checker.accepts g.S.Store.view g.L.Link.view old new handle nonce reply says in
    latest_ahead (means g c) (fronts g c) (g.C.Checker.accepts old.checker) new.chain.configs configs first own handle nonce l.0 reply l.1
