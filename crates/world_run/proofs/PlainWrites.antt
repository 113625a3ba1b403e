-- What a run that is tied to what is known prints where a ledger is made or appended to.
use Rattle.std.proofs.Common.{◌≡◌, ◌≢◌, inl, inr, ℕ, ◌+◌, ◌-◌, ◌<◌, ◌≤◌, true, List, [], ◌∷◌, ◌++◌, length, map, Some, None, refl, sym, ap, ◌∙◌, subst, arith}
use Rattle.std.specs.Prelude.{Contains, count_by, cond}
use Rattle.std.proofs.lemmas.List.Elements.{Contains-push}
use Rattle.std.proofs.lemmas.List.Sums.{sum_by-append}
use Rattle.chain_block.specs.Bytes.{genesis_bytes}
use Rattle.chain_block.specs.declared.entry.Entry.{Entry}
use Rattle.chain_block.specs.Entry.{handle_of}
use Rattle.fault_script.specs.Command.{Request, Command, Plain}
use Rattle.fault_script.specs.Command as requests
use Rattle.fault_script.specs.Limits.{is_new}
use Rattle.statement.specs.Statement.{view_of}
use Rattle.port.specs.Cause.{Conflict, Gap, Full, NoMemory}
use Rattle.port.specs.Link.{LinkView}
use Rattle.port.specs.Row.{Content}
use Rattle.port.specs.Service.{ServiceCall, NewLedger, Append, ServiceAnswer, Stood, Replied, Knew, Refused}
use Rattle.blob_store.specs.LyingStore.{lying_view}
use Rattle.blob_store.specs.declared.lying_store.LyingStore.{LyingStore}
use Rattle.tail_map.specs.TailMap.{has_handle}
use Rattle.view_ledger.specs.Receipts.{Accepts}
use Rattle.verifier.specs.Outcomes.{append_outcome, at_outcome}
use Rattle.client_pass.specs.Act as acts
use Rattle.calm.specs.Appending.{row_of}
use Rattle.calm.specs.Calls.{GrowsCalm}
use Rattle.calm.specs.Calm.{rows_with}
use Rattle.calm.specs.Ledgers.{row_above, tail_of, with_entry}
use Rattle.coordinator.specs.CalmStates.{CalmlyServed}
use Rattle.coordinator.specs.Entries.{first_entry, later_entry}
use Rattle.coordinator.specs.Says.{coordinator_says}
use Rattle.reply_lines.specs.Causes.{payload_of}
use Rattle.reply_lines.specs.Lines.{ok_line, conflict_line}
use Rattle.script_world.specs.Labels.{Labels, handle_for}
use Rattle.script_world.specs.Lines.{MadeLedger, Appended}
use Rattle.script_world.specs.Nonce.{nonce}
use Rattle.answer_lines.specs.Taken.{Sides, TookOwn, taken_line}
use Rattle.script_world.specs.World.{World}
use Rattle.world_run.specs.Plain.{Known, set, with_ledger}
use Rattle.world_run.specs.PlainRun.{IsRunnable}
use Rattle.world_run.specs.Tied.{AreTied, IsTied}
use Rattle.world_run.proofs.Accepting.{append_known, at_known}
use Rattle.world_run.proofs.CalmRuns.{Laws, served, more_news}
use Rattle.world_run.proofs.PlainReplies.{append_ok, append_conflict, append_gap, payload_at, count_at, same_count, after_ok, after_same}
use Rattle.world_run.proofs.PlainSteps.{Then, draw_keeps_chain, quiet_line, quiet_since, stands_in, same_eyes, stays_tied, grows_tied}
use Rattle.world_run.proofs.RowCounts.{one_row_more, no_row_more, counted_row}
use Rattle.world_run.proofs.TiedLedgers.{new_ledger, means, payloads_of, none_own, one_more, first_one}

module _ {L C : Type 0} (accepts : C → Accepts) (checks : Accepts) (lv : L → LinkView) (laws : Laws accepts lv) (texts_of : ℕ → List (List ℕ)) (script before after : List Command) (fits : IsRunnable texts_of script)
    (old new : World L C) (known : Known) (place left : ℕ) (tied : IsTied accepts checks lv before old known (left + 1)) (client label : List ℕ) where
  module _ (height : ℕ) (payload line : List ℕ) (split : script ≡ before ++ Plain (requests.Append client label height payload) ∷ after) (did : Appended accepts lv old new place label height payload line) where
    abbrev handle : List ℕ
    handle = handle_for old.labels label

    abbrev standing : List (List ℕ)
    standing = known.ledgers label

    abbrev entries : List Entry
    entries = tied.service.ledgers handle

    abbrev request : Request
    request = requests.Append client label height payload

    abbrev call : ServiceCall
    call = Append handle height (nonce old.draws) payload

    abbrev entry : Entry
    entry = later_entry handle height (nonce old.draws) payload

    payloads : map payload_of entries ≡ standing
    payloads = payloads_of texts_of script before after (Plain request) fits split old.labels old.draws tied.service.ledgers known.ledgers tied.ledgers label refl refl

    abbrev sides : Sides LyingStore L C
    sides = record { from = did.asked.drawn; to = did.asked.to; before = did.asked.middle; after = new.state }

    abbrev took_by : Accepts → Sides LyingStore L C → ServiceAnswer → Type 0
    took_by = λ accepted sides answer. TookOwn accepted sides label entry answer line

    abbrev SaysTo : ServiceAnswer → Type 0
    SaysTo answer = coordinator_says accepts lying_view lv old.state did.asked.middle call answer

    served_to : (answer : ServiceAnswer) → SaysTo answer → CalmlyServed accepts lying_view lv did.asked.middle call answer tied.service (tied.service.left - 1)
    served_to answer says = served accepts checks lv laws before old new known left tied did.asked.middle call answer says

    -- the entry came next: the label means a ledger
    own_handle : height ≡ length entries → old.labels label ≡ Some handle
    own_handle next = elim (means texts_of script before after (Plain request) fits split old.labels old.draws tied.service.ledgers known.ledgers tied.ledgers label refl refl) [
      | inl made ↦ made
      | inr none ↦
          let empty : length entries ≡ 0 = ap length none.1 in
          absurd (omega (arith, next, empty, (fits.each before (Plain request) after split).limits.0.0))
    ]

    rows_then : height ≡ length entries → length (rows_with tied.service handle entry) ≤ count_by is_new (before ++ Plain request ∷ [])
    rows_then next =
        let some : 0 < length entries = omega (arith, next, (fits.each before (Plain request) after split).limits.0.0) in
        let has : has_handle tied.service.rows handle ≡ true = counted_row tied.service.rows handle (tail_of entries) (length entries) (tied.calm.calm.map.each handle) some in
        let same = no_row_more tied.service.rows (row_of handle (row_above entries entry).metablock) tied.calm.calm.map.lawful.rising has in
        omega (arith, same, tied.room, more_news before (Plain request))

    ledgers_then : height ≡ length entries → AreTied (before ++ Plain request ∷ []) new.labels new.draws (with_entry tied.service.ledgers handle entry) (set known.ledgers label (standing ++ payload ∷ []))
    ledgers_then next =
        let is = one_more texts_of script before after (Plain request) fits split old.labels old.draws tied.service.ledgers known.ledgers tied.ledgers label entry payload refl refl refl handle (own_handle next) refl in
        subst (λ (draws : ℕ). AreTied (before ++ Plain request ∷ []) new.labels draws (with_entry tied.service.ledgers handle entry) (set known.ledgers label (standing ++ payload ∷ []))) (sym did.draws)
        (subst (λ (labels : Labels). AreTied (before ++ Plain request ∷ []) labels (old.draws + 1) (with_entry tied.service.ledgers handle entry) (set known.ledgers label (standing ++ payload ∷ []))) (sym did.labels) is)

    drawn_chain : did.asked.drawn.chain ≡ did.asked.from.chain
    drawn_chain = draw_keeps_chain did.asked.from did.asked.drawn (nonce old.draws) (Some entry) did.asked.drew

    append_answer : (answer : ServiceAnswer) → SaysTo answer → TookOwn (accepts did.asked.from.checker) sides label entry answer line
        → Then accepts checks lv laws texts_of script before after fits old new known place left tied request line
    append_answer (Stood stood) says took =
        let is = served_to (Stood stood) says in
        let out : append_outcome (accepts did.asked.from.checker) did.asked.from.chain.configs entry stood ≡ None =
        same_eyes accepts checks lv laws texts_of script before after fits old new known place left tied call took_by did.asked (Stood stood) says
        (λ accepted configs. append_outcome accepted configs entry stood ≡ None)
        (laws.later old.state did.asked.middle handle height (nonce old.draws) payload stood says) in
        let got = quiet_line did.asked.from did.asked.drawn did.asked.to did.asked.middle new.state drawn_chain (view_of stood.receipt.statement)
        (λ configs. append_outcome (accepts did.asked.from.checker) configs entry stood) (acts.Append took.0 stood) (taken_line (ok_line label height payload)) line
        took.2 (append_known (accepts did.asked.from.checker) did.asked.from.chain.configs entry stood out) in
        elim is.answered [
          | inl grew ↦
              let next : height ≡ length standing = grew.0 ∙ sym (same_count standing entries payloads) in (
                got.1 ∙ ap (taken_line (ok_line label height payload)) out ∙ sym (append_ok standing label payload height next),
                subst (λ then. IsTied accepts checks lv (before ++ Plain request ∷ []) new then left) (sym (after_ok known client label payload height next))
                    (grows_tied accepts checks lv laws texts_of script before after fits old new known place left tied request (with_ledger known label (standing ++ payload ∷ [])) entry call took_by did.asked (Stood stood) says got.0
                    is.later is.one_less is.tells grew.2 (ledgers_then grew.0) (rows_then grew.0)),
              )
          | inr stayed ↦
              absurd (none_own texts_of script before after (Plain request) fits split old.labels old.draws tied.service.ledgers known.ledgers tied.ledgers handle entry refl
              (stands_in entries stayed.0 stayed.1.0 entry stayed.1.1))
        ]
    append_answer (Refused (Conflict stood)) says took =
        let is = served_to (Refused (Conflict stood)) says in
        let calm = is.answered in
        let out : at_outcome (accepts did.asked.from.checker) did.asked.from.chain.configs handle height stood ≡ None =
        same_eyes accepts checks lv laws texts_of script before after fits old new known place left tied call took_by did.asked (Refused (Conflict stood)) says
        (λ accepted configs. at_outcome accepted configs handle height stood ≡ None)
        (laws.conflict old.state did.asked.middle handle height (nonce old.draws) payload stood says) in
        let got = quiet_line did.asked.from did.asked.drawn did.asked.to did.asked.middle new.state drawn_chain (view_of stood.receipt.statement)
        (λ configs. at_outcome (accepts did.asked.from.checker) configs handle height stood) (acts.Look handle height stood) (taken_line (conflict_line label height (payload_of stood.row.entry))) line
        took (at_known (accepts did.asked.from.checker) did.asked.from.chain.configs handle height stood out) in
        let other : payload_of stood.row.entry ≡ payload_of calm.1 = ap (λ (row : Content). payload_of row.entry) calm.5.0 in
        let below : height < length standing = omega (arith, calm.3, count_at standing entries calm.0 calm.2.0 calm.1 payloads calm.2.1) in
        let apart : height ≢ length standing = λ e. absurd (omega (arith, e, below)) in (
          got.1 ∙ ap (taken_line (conflict_line label height (payload_of stood.row.entry))) out ∙ ap (conflict_line label height) other
              ∙ sym (append_conflict standing label payload (payload_of calm.1) height below (payload_at standing entries calm.0 calm.2.0 calm.1 height payloads calm.2.1 calm.3)),
          stays_tied accepts checks lv laws texts_of script before after fits old new known place left tied request split refl (after_same known client label payload height apart) call took_by did.asked (Refused (Conflict stood)) says
              did.labels did.draws got.0 is.later is.one_less is.tells calm.6,
        )
    append_answer (Refused (Gap ledger missing)) says took =
        let is = served_to (Refused (Gap ledger missing)) says in
        let calm = is.answered in
        let count : length standing ≤ missing = omega (arith, calm.2, same_count standing entries payloads) in
        let apart : height ≢ length standing = λ e. absurd (omega (arith, e, count, calm.1)) in (
          took.1 ∙ sym (append_gap standing label payload height missing count calm.1),
          stays_tied accepts checks lv laws texts_of script before after fits old new known place left tied request split refl (after_same known client label payload height apart) call took_by did.asked (Refused (Gap ledger missing)) says
              did.labels did.draws (quiet_since did.asked.from did.asked.drawn did.asked.to did.asked.middle new.state drawn_chain took.0) is.later is.one_less is.tells calm.3,
        )
    append_answer (Refused NoMemory) says took = absurd took
    append_answer (Refused cause) says took = absurd (served_to (Refused cause) says).answered
    append_answer (Replied reply) says took = absurd took
    append_answer (Knew rows) says took = absurd took

    pub append_line : Then accepts checks lv laws texts_of script before after fits old new known place left tied request line
    append_line = append_answer did.asked.answer did.asked.says did.asked.taken

  module _ (payload line : List ℕ) (split : script ≡ before ++ Plain (requests.New client label payload) ∷ after) (did : MadeLedger accepts lv old new place label payload line) where
    abbrev request_new : Request
    request_new = requests.New client label payload

    abbrev call_new : ServiceCall
    call_new = NewLedger (nonce old.draws) payload

    abbrev entry_new : Entry
    entry_new = first_entry (nonce old.draws) payload

    abbrev handle_new : List ℕ
    handle_new = handle_of entry_new

    abbrev sides_new : Sides LyingStore L C
    sides_new = record { from = did.asked.drawn; to = did.asked.to; before = did.asked.middle; after = new.state }

    abbrev took_new : Accepts → Sides LyingStore L C → ServiceAnswer → Type 0
    took_new = λ accepted sides answer. TookOwn accepted sides label entry_new answer line

    abbrev SaysNew : ServiceAnswer → Type 0
    SaysNew answer = coordinator_says accepts lying_view lv old.state did.asked.middle call_new answer

    served_new : (answer : ServiceAnswer) → SaysNew answer → CalmlyServed accepts lying_view lv did.asked.middle call_new answer tied.service (tied.service.left - 1)
    served_new answer says = served accepts checks lv laws before old new known left tied did.asked.middle call_new answer says

    own_text : Contains (genesis_bytes (nonce old.draws) payload ∷ []) (genesis_bytes (nonce old.draws) payload)
    own_text = Contains-push [] (genesis_bytes (nonce old.draws) payload)

    no_entry : tied.service.ledgers handle_new ≡ []
    no_entry = new_ledger texts_of script before after (Plain request_new) fits split old.labels old.draws tied.service.ledgers known.ledgers tied.ledgers payload own_text

    few_rows : length tied.service.rows ≤ 256
    few_rows =
        let sum : count_by is_new script ≡ count_by is_new before + count_by is_new (Plain request_new ∷ after) =
        ap (count_by is_new) split ∙ sum_by-append (λ c. cond (is_new c) 1 0) before (Plain request_new ∷ after) in
        omega (arith, sum, fits.news, tied.room)

    rows_new : length (rows_with tied.service handle_new entry_new) ≤ count_by is_new (before ++ Plain request_new ∷ [])
    rows_new = omega (arith, one_row_more tied.service.rows (row_of handle_new (row_above (tied.service.ledgers handle_new) entry_new).metablock), tied.room, more_news before (Plain request_new))

    ledgers_new : AreTied (before ++ Plain request_new ∷ []) new.labels new.draws (with_entry tied.service.ledgers handle_new entry_new) (set known.ledgers label (payload ∷ []))
    ledgers_new =
        let is = first_one texts_of script before after (Plain request_new) fits split old.labels old.draws tied.service.ledgers known.ledgers tied.ledgers label entry_new payload refl refl refl refl refl refl own_text in
        subst (λ (draws : ℕ). AreTied (before ++ Plain request_new ∷ []) new.labels draws (with_entry tied.service.ledgers handle_new entry_new) (set known.ledgers label (payload ∷ []))) (sym did.draws)
        (subst (λ (labels : Labels). AreTied (before ++ Plain request_new ∷ []) labels (old.draws + 1) (with_entry tied.service.ledgers handle_new entry_new) (set known.ledgers label (payload ∷ []))) (sym did.labels) is)

    new_answer : (answer : ServiceAnswer) → SaysNew answer → TookOwn (accepts did.asked.from.checker) sides_new label entry_new answer line
        → Then accepts checks lv laws texts_of script before after fits old new known place left tied request_new line
    new_answer (Stood stood) says took =
        let is = served_new (Stood stood) says in
        let calm = is.answered (inl no_entry) in
        let out : append_outcome (accepts did.asked.from.checker) did.asked.from.chain.configs entry_new stood ≡ None =
        same_eyes accepts checks lv laws texts_of script before after fits old new known place left tied call_new took_new did.asked (Stood stood) says
        (λ accepted configs. append_outcome accepted configs entry_new stood ≡ None)
        (laws.first old.state did.asked.middle (nonce old.draws) payload stood says) in
        let got = quiet_line did.asked.from did.asked.drawn did.asked.to did.asked.middle new.state
        (draw_keeps_chain did.asked.from did.asked.drawn (nonce old.draws) (Some entry_new) did.asked.drew) (view_of stood.receipt.statement)
        (λ configs. append_outcome (accepts did.asked.from.checker) configs entry_new stood) (acts.Append took.0 stood) (taken_line (ok_line label 0 payload)) line
        took.2 (append_known (accepts did.asked.from.checker) did.asked.from.chain.configs entry_new stood out) in
        let grew : GrowsCalm tied.service entry_new is.later = elim calm.1 [
          | inl more ↦ more.2
          | inr stayed ↦ let both = sym no_entry ∙ stayed.1 in absurd (cc both)
        ] in (
          got.1 ∙ ap (taken_line (ok_line label 0 payload)) out,
          grows_tied accepts checks lv laws texts_of script before after fits old new known place left tied request_new (with_ledger known label (payload ∷ [])) entry_new call_new took_new did.asked (Stood stood) says got.0
              is.later is.one_less is.tells grew ledgers_new rows_new,
        )
    new_answer (Refused (Full member)) says took =
        let calm = (served_new (Refused (Full member)) says).answered (inl no_entry) in
        absurd (omega (arith, calm.1, few_rows))
    new_answer (Refused NoMemory) says took = absurd took
    new_answer (Refused cause) says took = absurd ((served_new (Refused cause) says).answered (inl no_entry))
    new_answer (Replied reply) says took = absurd took
    new_answer (Knew rows) says took = absurd took

    pub new_line : Then accepts checks lv laws texts_of script before after fits old new known place left tied request_new line
    new_line = new_answer did.asked.answer did.asked.says did.asked.taken
