use Rattle.std.proofs.Common.{refl}
use Rattle.coordinator.specs.Entries.{first_entry, later_entry}
use Rattle.world_run.proofs.PlainBegins.{restart_line, end_line, client_more}
use Rattle.world_run.proofs.PlainRequests.{request_line}
use Rattle.world_run.proofs.plain_laws.plain_lines_get_plain_replies.Goals as goal

pub returns-clause-request : goal.returns-clause-request
returns-clause-request g c = λ checks.
    request_line g.C.Checker.accepts checks g.L.Link.view
    (record {
      answers = c.calm_coordinators_answer.ensures.honest;
      stays = c.calm_coordinators_go_on.ensures.stays;
      grows = c.calm_coordinators_go_on.ensures.grows;
      honest = c.true_stores_are_honest.ensures.honest;
      first = λ old new nonce payload standing says. c.clients_accept_answers.ensures.new_ledger old new nonce payload (first_entry nonce payload) standing says refl;
      later = λ old new handle height nonce payload standing says. c.clients_accept_answers.ensures.append old new handle height nonce payload (later_entry handle height nonce payload) standing says refl;
      conflict = c.clients_accept_answers.ensures.conflict;
      at = c.clients_accept_answers.ensures.at;
      newest = c.clients_accept_answers.ensures.latest;
    })

pub returns-clause-restart : goal.returns-clause-restart
returns-clause-restart g c = λ checks. restart_line g.C.Checker.accepts checks g.L.Link.view c.calm_coordinators_go_on.ensures.restarts

pub returns-clause-end : goal.returns-clause-end
returns-clause-end g c = λ checks. end_line g.C.Checker.accepts checks g.L.Link.view

pub returns-clause-client : goal.returns-clause-client
returns-clause-client g c = λ checks. client_more g.C.Checker.accepts checks g.L.Link.view
