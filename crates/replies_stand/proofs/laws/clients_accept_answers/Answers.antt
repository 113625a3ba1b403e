use Rattle.verifier.specs.Outcomes.{latest_outcome}
use Rattle.replies_stand.proofs.Judges.{ok_of}
use Rattle.replies_stand.proofs.Saying.{new_stands, append_stands, at_stands, latest_stands, conflict_stands, no_conflict}
use Rattle.replies_stand.proofs.laws.clients_accept_answers.Goals as goal

pub returns-clause-new_ledger : goal.returns-clause-new_ledger
returns-clause-new_ledger g c old new nonce payload entry standing says is =
    (c.outcomes_mean.ensures.append (g.C.Checker.accepts old.checker) new.chain.configs entry standing).1 (new_stands g.C.Checker.accepts g.S.Store.view g.L.Link.view old new nonce payload entry standing says is)

pub returns-clause-append : goal.returns-clause-append
returns-clause-append g c old new handle height nonce payload entry standing says is =
    (c.outcomes_mean.ensures.append (g.C.Checker.accepts old.checker) new.chain.configs entry standing).1 (append_stands g.C.Checker.accepts g.S.Store.view g.L.Link.view old new handle height nonce payload entry standing says is)

pub returns-clause-at : goal.returns-clause-at
returns-clause-at g c old new handle height standing says =
    (c.outcomes_mean.ensures.at (g.C.Checker.accepts old.checker) new.chain.configs handle height standing).1 (at_stands g.C.Checker.accepts g.S.Store.view g.L.Link.view old new handle height standing says)

pub returns-clause-conflict : goal.returns-clause-conflict
returns-clause-conflict g c old new handle height nonce payload standing says =
    (c.outcomes_mean.ensures.at (g.C.Checker.accepts old.checker) new.chain.configs handle height standing).1 (conflict_stands g.C.Checker.accepts g.S.Store.view g.L.Link.view old new handle height nonce payload standing says)

pub returns-clause-latest : goal.returns-clause-latest
returns-clause-latest g c old new handle nonce reply says =
    let l = latest_stands g.C.Checker.accepts g.S.Store.view g.L.Link.view old new handle nonce reply says in
    ok_of (latest_outcome (g.C.Checker.accepts old.checker) new.chain.configs handle nonce reply) l.0 ((c.outcomes_mean.ensures.latest (g.C.Checker.accepts old.checker) new.chain.configs handle nonce l.0 reply).1 l.1)

pub returns-clause-no_conflict : goal.returns-clause-no_conflict
returns-clause-no_conflict g c old new nonce payload standing says =
    no_conflict g.C.Checker.accepts g.S.Store.view g.L.Link.view old new nonce payload standing says
