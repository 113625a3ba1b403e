use Rattle.std.proofs.Common.{ℕ, refl, subst}
use Rattle.calm.specs.Appending.{AreReady, ReadyRound, append_next, receipt_of}
use Rattle.calm.specs.Calm.{newest_block}
use Rattle.calm.specs.Storing.{with_row}
use Rattle.calm.proofs.calm_calls.calm_services_append.Goals as goal

pub returns : goal.returns
returns c = λ service left handle entry state past after calm one_more next some sound all faithful is_receipt.
    let ask = append_next service.configs handle (service.ledgers handle) entry in
    let receipt = receipt_of ask state.marks in
    let view = newest_block service.configs in
    let round : ReadyRound = record {
      accepts = service.accepts;
      signs = service.signs;
      bank = service.bank;
      view = view;
      rows = service.rows;
      left = left;
      ask = ask;
      ready = subst (λ (n : ℕ). AreReady service.accepts service.signs service.bank view service.rows n ask) one_more (c.calm_members_are_ready.ensures.ready service ask calm refl refl);
      next = c.calm_members_are_ready.ensures.next service handle entry calm next;
    } in
    let room = c.calm_members_are_ready.ensures.room service handle calm some in
    let able = c.rounds_gather_all_marks.ensures.all round state past after room sound all faithful in
    let accepted = c.rounds_gather_all_marks.ensures.accepted round state past after room sound all faithful in
    let receipted = c.calm_services_go_on.ensures.receipted service.accepts service.configs service.ledgers handle entry ask receipt calm.views.some refl refl accepted in
    c.calm_services_go_on.ensures.appended service handle entry (with_row service.contents handle (service.ledgers handle) entry receipt) after left calm next room
    (c.calm_services_go_on.ensures.stands service.accepts service.configs service.contents service.ledgers handle entry receipt next is_receipt receipted)
    (c.calm_services_go_on.ensures.only service.contents handle (service.ledgers handle) entry receipt) able
