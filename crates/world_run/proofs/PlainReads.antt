-- What a run that is tied to what is known prints at a read.
use Rattle.std.proofs.Common.{◌≡◌, ℕ, ◌+◌, ◌-◌, ◌<◌, ◌≤◌, List, [], ◌∷◌, ◌++◌, length, map, Option, Some, None, Ok, refl, sym, ap, ◌∙◌, arith}
use Rattle.std.specs.Result.{result_err}
use Rattle.chain_block.specs.declared.entry.Entry.{Entry}
use Rattle.chain_block.specs.Entry.{height_of}
use Rattle.fault_script.specs.Command.{Request, Command, Plain}
use Rattle.fault_script.specs.Command as requests
use Rattle.statement.specs.Statement.{view_of}
use Rattle.port.specs.Cause.{Gap, NoMemory}
use Rattle.port.specs.Link.{LinkView}
use Rattle.port.specs.Row.{Content}
use Rattle.port.specs.Service.{ServiceCall, Latest, At, ServiceAnswer, Stood, Replied, Knew, Refused}
use Rattle.blob_store.specs.LyingStore.{lying_view}
use Rattle.blob_store.specs.declared.lying_store.LyingStore.{LyingStore}
use Rattle.view_ledger.specs.Receipts.{Accepts}
use Rattle.verifier.specs.Outcomes.{at_outcome, latest_outcome}
use Rattle.client_pass.specs.Act as acts
use Rattle.client_pass.specs.ClientPass.{ClientPass}
use Rattle.calm.specs.Calls.{IsNewestRow}
use Rattle.coordinator.specs.CalmStates.{CalmlyServed}
use Rattle.coordinator.specs.Says.{coordinator_says}
use Rattle.reply_lines.specs.Causes.{payload_of, gap_line}
use Rattle.reply_lines.specs.Lines.{ok_line}
use Rattle.script_world.specs.Labels.{handle_for}
use Rattle.script_world.specs.Lines.{ReadNewest, ReadHeight}
use Rattle.script_world.specs.Nonce.{nonce}
use Rattle.answer_lines.specs.Taken.{Sides, TookAt, TookLatest, taken_line, latest_line, newest_line}
use Rattle.script_world.specs.World.{World}
use Rattle.world_run.specs.Plain.{Known, latest_reply}
use Rattle.world_run.specs.PlainRun.{IsRunnable}
use Rattle.world_run.specs.Tied.{IsTied}
use Rattle.world_run.proofs.Accepting.{at_known, latest_known, count_of}
use Rattle.world_run.proofs.CalmRuns.{Laws, served}
use Rattle.world_run.proofs.PlainReplies.{at_ok, at_gap, latest_none, latest_ok, payload_at, count_at, same_count}
use Rattle.world_run.proofs.PlainSteps.{Then, draw_keeps_chain, quiet_line, quiet_since, same_eyes, stays_tied}
use Rattle.world_run.proofs.TiedLedgers.{payloads_of}

module _ {L C : Type 0} (accepts : C → Accepts) (checks : Accepts) (lv : L → LinkView) (laws : Laws accepts lv) (texts_of : ℕ → List (List ℕ)) (script before after : List Command) (fits : IsRunnable texts_of script)
    (old new : World L C) (known : Known) (place left : ℕ) (tied : IsTied accepts checks lv before old known (left + 1)) (client label : List ℕ) where
  abbrev handle : List ℕ
  handle = handle_for old.labels label

  abbrev standing_payloads : List (List ℕ)
  standing_payloads = known.ledgers label

  abbrev entries : List Entry
  entries = tied.service.ledgers handle

  module _ (height : ℕ) (line : List ℕ) (split : script ≡ before ++ Plain (requests.At client label height) ∷ after) (did : ReadHeight accepts lv old new place label height line) where
    abbrev request_at : Request
    request_at = requests.At client label height

    payloads_at : map payload_of entries ≡ standing_payloads
    payloads_at = payloads_of texts_of script before after (Plain request_at) fits split old.labels old.draws tied.service.ledgers known.ledgers tied.ledgers label refl refl

    abbrev sides_at : Sides LyingStore L C
    sides_at = record { from = did.asked.drawn; to = did.asked.to; before = did.asked.middle; after = new.state }

    abbrev took_at : Accepts → Sides LyingStore L C → ServiceAnswer → Type 0
    took_at = λ accepted sides answer. TookAt accepted sides label handle height answer line

    abbrev SaysAt : ServiceAnswer → Type 0
    SaysAt answer = coordinator_says accepts lying_view lv old.state did.asked.middle (At handle height) answer

    served_at : (answer : ServiceAnswer) → SaysAt answer → CalmlyServed accepts lying_view lv did.asked.middle (At handle height) answer tied.service (tied.service.left - 1)
    served_at answer says = served accepts checks lv laws before old new known left tied did.asked.middle (At handle height) answer says

    -- nothing is drawn
    undrawn : did.asked.drawn.chain ≡ did.asked.from.chain
    undrawn = ap (λ (pass : ClientPass C). pass.chain) did.asked.drew

    at_answer : (answer : ServiceAnswer) → SaysAt answer → TookAt (accepts did.asked.from.checker) sides_at label handle height answer line
        → Then accepts checks lv laws texts_of script before after fits old new known place left tied request_at line
    at_answer (Stood standing) says took =
        let is = served_at (Stood standing) says in
        let calm = is.answered in
        let out : at_outcome (accepts did.asked.from.checker) did.asked.from.chain.configs handle height standing ≡ None =
        same_eyes accepts checks lv laws texts_of script before after fits old new known place left tied (At handle height) took_at did.asked (Stood standing) says
        (λ accepted configs. at_outcome accepted configs handle height standing ≡ None)
        (laws.at old.state did.asked.middle handle height standing says) in
        let got = quiet_line did.asked.from did.asked.drawn did.asked.to did.asked.middle new.state undrawn (view_of standing.receipt.statement)
        (λ configs. at_outcome (accepts did.asked.from.checker) configs handle height standing) (acts.At handle height standing) (taken_line (ok_line label height (payload_of standing.row.entry))) line
        took (at_known (accepts did.asked.from.checker) did.asked.from.chain.configs handle height standing out) in
        let payload : payload_of standing.row.entry ≡ payload_of calm.1 = ap (λ (row : Content). payload_of row.entry) calm.4.0 in
        let below : height < length standing_payloads = omega (arith, calm.3, count_at standing_payloads entries calm.0 calm.2.0 calm.1 payloads_at calm.2.1) in (
          got.1 ∙ ap (taken_line (ok_line label height (payload_of standing.row.entry))) out ∙ ap (ok_line label height) payload
              ∙ sym (at_ok standing_payloads label (payload_of calm.1) height below (payload_at standing_payloads entries calm.0 calm.2.0 calm.1 height payloads_at calm.2.1 calm.3)),
          stays_tied accepts checks lv laws texts_of script before after fits old new known place left tied request_at split refl refl (At handle height) took_at did.asked (Stood standing) says did.labels (did.draws ∙ omega arith) got.0
              is.later is.one_less is.tells calm.5,
        )
    at_answer (Refused (Gap ledger missing)) says took =
        let is = served_at (Refused (Gap ledger missing)) says in
        let calm = is.answered in
        let high : length standing_payloads ≤ height = omega (arith, calm.2, same_count standing_payloads entries payloads_at) in (
          took.1 ∙ ap (gap_line label) calm.1 ∙ sym (at_gap standing_payloads label height high),
          stays_tied accepts checks lv laws texts_of script before after fits old new known place left tied request_at split refl refl (At handle height) took_at did.asked (Refused (Gap ledger missing)) says did.labels (did.draws ∙ omega arith)
              (quiet_since did.asked.from did.asked.drawn did.asked.to did.asked.middle new.state undrawn took.0)
              is.later is.one_less is.tells calm.3,
        )
    at_answer (Refused NoMemory) says took = absurd took
    at_answer (Refused cause) says took = absurd (served_at (Refused cause) says).answered
    at_answer (Replied reply) says took = absurd took
    at_answer (Knew rows) says took = absurd took

    pub at_line : Then accepts checks lv laws texts_of script before after fits old new known place left tied request_at line
    at_line = at_answer did.asked.answer did.asked.says did.asked.taken

  module _ (line : List ℕ) (split : script ≡ before ++ Plain (requests.Latest client label) ∷ after) (did : ReadNewest accepts lv old new place label line) where
    abbrev request_newest : Request
    request_newest = requests.Latest client label

    payloads_newest : map payload_of entries ≡ standing_payloads
    payloads_newest = payloads_of texts_of script before after (Plain request_newest) fits split old.labels old.draws tied.service.ledgers known.ledgers tied.ledgers label refl refl

    abbrev call_newest : ServiceCall
    call_newest = Latest handle (nonce old.draws)

    abbrev sides_newest : Sides LyingStore L C
    sides_newest = record { from = did.asked.drawn; to = did.asked.to; before = did.asked.middle; after = new.state }

    abbrev took_newest : Accepts → Sides LyingStore L C → ServiceAnswer → Type 0
    took_newest = λ accepted sides answer. TookLatest accepted sides label handle (nonce old.draws) answer line

    abbrev SaysNewest : ServiceAnswer → Type 0
    SaysNewest answer = coordinator_says accepts lying_view lv old.state did.asked.middle call_newest answer

    served_newest : (answer : ServiceAnswer) → SaysNewest answer → CalmlyServed accepts lying_view lv did.asked.middle call_newest answer tied.service (tied.service.left - 1)
    served_newest answer says = served accepts checks lv laws before old new known left tied did.asked.middle call_newest answer says

    newest_of : (row : Option Content) → IsNewestRow entries row → newest_line label row ≡ latest_reply standing_payloads label
    newest_of None is = sym (latest_none standing_payloads label (sym payloads_newest ∙ ap (map payload_of) is))
    newest_of (Some row) is =
        let below = is.0 in
        let entry = is.1 in
        let height : height_of entry ≡ length below = ((tied.calm.calm.stand handle).each below [] entry is.2).good.at.of_height in
        let count : length standing_payloads ≡ length below + 1 = omega (arith, count_at standing_payloads entries below [] entry payloads_newest is.2) in
        ap (λ (r : Content). ok_line label (height_of r.entry) (payload_of r.entry)) is.3
        ∙ ap (λ (n : ℕ). ok_line label n (payload_of entry)) height
        ∙ sym (latest_ok standing_payloads label (payload_of entry) (length below) count (payload_at standing_payloads entries below [] entry (length below) payloads_newest is.2 refl))

    newest_answer : (answer : ServiceAnswer) → SaysNewest answer → TookLatest (accepts did.asked.from.checker) sides_newest label handle (nonce old.draws) answer line
        → Then accepts checks lv laws texts_of script before after fits old new known place left tied request_newest line
    newest_answer (Replied reply) says took =
        let is = served_newest (Replied reply) says in
        let calm = is.answered in
        let law = count_of (latest_outcome (accepts old.state.checker) did.asked.middle.chain.configs handle (nonce old.draws) reply) (laws.newest old.state did.asked.middle handle (nonce old.draws) reply says) in
        let out : latest_outcome (accepts did.asked.from.checker) did.asked.from.chain.configs handle (nonce old.draws) reply ≡ Ok law.0 =
        same_eyes accepts checks lv laws texts_of script before after fits old new known place left tied call_newest took_newest did.asked (Replied reply) says
        (λ accepted configs. latest_outcome accepted configs handle (nonce old.draws) reply ≡ Ok law.0) law.1 in
        let got = quiet_line did.asked.from did.asked.drawn did.asked.to did.asked.middle new.state
        (draw_keeps_chain did.asked.from did.asked.drawn (nonce old.draws) None did.asked.drew) (view_of reply.receipt.statement)
        (λ configs. latest_outcome (accepts did.asked.from.checker) configs handle (nonce old.draws) reply) (λ told. acts.Latest took.0 handle reply (result_err told)) (latest_line label reply.row) line
        took.2 (latest_known (accepts did.asked.from.checker) did.asked.from.chain.configs handle (nonce old.draws) reply law.0 out) in (
          got.1 ∙ ap (latest_line label reply.row) out ∙ newest_of reply.row calm.1,
          stays_tied accepts checks lv laws texts_of script before after fits old new known place left tied request_newest split refl refl call_newest took_newest did.asked (Replied reply) says did.labels did.draws got.0
              is.later is.one_less is.tells calm.2,
        )
    newest_answer (Refused NoMemory) says took = absurd took
    newest_answer (Refused cause) says took = absurd (served_newest (Refused cause) says).answered
    newest_answer (Stood standing) says took = absurd took
    newest_answer (Knew rows) says took = absurd took

    pub newest_read : Then accepts checks lv laws texts_of script before after fits old new known place left tied request_newest line
    newest_read = newest_answer did.asked.answer did.asked.says did.asked.taken
