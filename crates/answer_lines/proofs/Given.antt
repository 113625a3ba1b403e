-- A client that was given an answer, and the line that says so.
use Rattle.std.proofs.Common.{◌≡◌, ◌⊎◌, inl, inr, Bool, ℕ, zero, suc, ◌<◌, ◌-◌, true, false, List, [], ◌∷◌, ◌++◌, length, slice_get, Option, Some, None, Result, Ok, Err, IfOk, refl, sym, ap, subst, ◌∙◌, arith, append-nil}
use Rattle.std.specs.Result.{result_err}
use Rattle.chain_block.specs.declared.entry.Entry.{Entry}
use Rattle.chain_block.specs.declared.entry.Entry.TheVariants as entries
use Rattle.chain_block.specs.Entry.{bare, handle_of, height_of}
use Rattle.statement.specs.declared.member.Member.{Member}
use Rattle.port.specs.Link.{LinkView}
use Rattle.port.specs.Row.{Content}
use Rattle.port.specs.Store.{StoreView}
use Rattle.view_ledger.specs.Receipts.{Accepts}
use Rattle.verifier.specs.declared.reply_fault.ReplyFault.{ReplyFault}
use Rattle.verifier.specs.Outcomes.{is_known}
use Rattle.client_pass.specs.declared.take_fault.TakeFault.{TakeFault}
use Rattle.client_pass.specs.declared.take_fault.TakeFault.TheVariants.{NoMemory, Reply}
use Rattle.client_pass.specs.Act.{Act}
use Rattle.client_pass.specs.Answers.{IfReplyNoted, answer_by}
use Rattle.client_pass.specs.ClientList.{IsForEntry, IsForRead}
use Rattle.client_pass.specs.ClientPass.{ClientPass}
use Rattle.coordinator.specs.State.{State}
use Rattle.reply_lines.specs.Causes.{payload_of}
use Rattle.reply_lines.specs.Lines.{bad_reply_line}
use Rattle.reply_taking.specs.Learning.{Learns, NotedAfterViews}
use Rattle.client_acts.specs.declared.turn.Turn.{Turn}
use Rattle.client_acts.specs.ClientActs.{ClientActs}
use Rattle.client_acts.specs.Taking.{IsUnbegun}
use Rattle.client_acts.specs.Taking.{Took as ClientTook}
use Rattle.client_acts.specs.Turns.{TurnsAt, turn_of}
use Rattle.answer_lines.specs.Draws.{DrewEntry, DrewRead}
use Rattle.answer_lines.specs.Taken.{IsQuiet, Sides, Took, latest_line, newest_line, taken_line}
use Rattle.answer_lines.specs.Giving.{Gave, OnlyLearned, count_by}

-- ---- an entry without its room

pub bare_height : (entry : Entry) → height_of entry ≡ height_of (bare entry)
bare_height (entries.Genesis nonce payload) = refl
bare_height (entries.Later handle height nonce payload) = refl

pub bare_handle : (entry : Entry) → handle_of entry ≡ handle_of (bare entry)
bare_handle (entries.Genesis nonce payload) = refl
bare_handle (entries.Later handle height nonce payload) = refl

pub bare_payload : (entry : Entry) → payload_of entry ≡ payload_of (bare entry)
bare_payload (entries.Genesis nonce payload) = refl
bare_payload (entries.Later handle height nonce payload) = refl

-- ---- turns

-- nobody wrote anything
pub no_turn : (place calls : ℕ) (turns : List Turn) → TurnsAt place calls turns turns
no_turn place calls turns = ([], sym (append-nil turns), tt)

-- ---- the client at a place

pub found : {X : Type 0} (xs : List X) (place : ℕ) → place < length xs → (x : X) × (slice_get xs place ≡ Some x)
found [] place within = absurd omega (arith, within)
found (x ∷ xs) zero within = (x, refl)
found (x ∷ xs) (suc place) within = found xs place (omega (arith, within))

pub within : {X : Type 0} (xs : List X) (place : ℕ) (x : X) → slice_get xs place ≡ Some x → place < length xs
within [] place x stood = absurd cc
within (y ∷ xs) zero x stood = omega arith
within (y ∷ xs) (suc place) x stood = omega (arith, within xs place x stood)

module _ {C : Type 0} (clients : List (ClientPass C)) (place draw : ℕ) (from : ClientPass C) where
  pub drew_entry : (entry : Entry) → DrewEntry clients place draw entry → slice_get clients place ≡ Some from → IsForEntry from.lines draw entry
  drew_entry entry (pass, stood, is_for) here =
      let same : pass ≡ from = cc (stood, here) in
      subst (λ (pass : ClientPass C). IsForEntry pass.lines draw entry) same is_for

  pub drew_read : (nonce : List ℕ) → DrewRead clients place draw nonce → slice_get clients place ≡ Some from → IsForRead from.lines draw nonce
  drew_read nonce (pass, stood, is_for) here =
      let same : pass ≡ from = cc (stood, here) in
      subst (λ (pass : ClientPass C). IsForRead pass.lines draw nonce) same is_for

-- ---- what the client's check said

noted_by : (taken : Result (Unit {0}) TakeFault) (fault : Option ReplyFault) (P : Option ReplyFault → Type 0) → taken ≡ answer_by fault → IfReplyNoted taken P → P fault
noted_by taken None P is noted = subst (λ r. IfReplyNoted r P) is noted
noted_by taken (Some fault) P is noted = subst (λ r. IfReplyNoted r P) is noted

answered : (fault : Option ReplyFault) → answer_by fault ≡ Err NoMemory → ⊥
answered None is = absurd cc is
answered (Some fault) is = absurd cc is

counted : (outcome : Result ℕ ReplyFault) → count_by outcome ≡ Err NoMemory → ⊥
counted (Ok count) is = absurd cc is
counted (Err fault) is = absurd cc is

count_by_noted : (taken : Result ℕ TakeFault) (told : Result ℕ ReplyFault) (P : Option ReplyFault → Type 0) → taken ≡ count_by told → IfReplyNoted taken P → P (result_err told)
count_by_noted taken (Ok count) P is noted = subst (λ r. IfReplyNoted r P) is noted
count_by_noted taken (Err fault) P is noted = subst (λ r. IfReplyNoted r P) is noted

told_fault : (fault : ReplyFault) (outcome : Result ℕ ReplyFault) → Some fault ≡ result_err outcome → Err fault ≡ outcome
told_fault fault (Ok count) is = absurd cc is
told_fault fault (Err other) is =
    let same : fault ≡ other = cc is in
    ap (λ (f : ReplyFault). Err f) same

count_noted : (taken : Result ℕ TakeFault) (told outcome : Result ℕ ReplyFault) → taken ≡ count_by told
    → IfReplyNoted taken (λ fault. fault ≡ result_err outcome) → IfOk taken (λ count. outcome ≡ Ok count) → told ≡ outcome
count_noted taken (Ok count) outcome is fault ok = sym (subst (λ r. IfOk r (λ count. outcome ≡ Ok count)) is ok)
count_noted taken (Err fault) outcome is noted ok = told_fault fault outcome (subst (λ r. IfReplyNoted r (λ fault. fault ≡ result_err outcome)) is noted)

-- ---- the line of what the check said

module _ {T E : Type 0} (bytes : T → List ℕ) where
  pub reply_line : (line : Result T E) (fault : TakeFault) (reply : ReplyFault) → fault ≡ Reply reply → IfOk line (λ l. bytes l ≡ bad_reply_line reply)
      → IfOk line (λ l. (told : ReplyFault) × (fault ≡ Reply told) × (bytes l ≡ bad_reply_line told))
  reply_line (Err want) fault reply is printed = tt
  reply_line (Ok l) fault reply is printed = (reply, is, printed)

  pub fault_line : (line : Result T E) (accepted : List ℕ) (taken : Result (Unit {0}) TakeFault) (fault : TakeFault) → taken ≡ Err fault
      → IfOk line (λ l. (told : ReplyFault) × (fault ≡ Reply told) × (bytes l ≡ bad_reply_line told))
      → IfOk line (λ l. (told : Option ReplyFault) × (taken ≡ answer_by told) × (bytes l ≡ taken_line accepted told))
  fault_line (Err want) accepted taken fault is printed = tt
  fault_line (Ok l) accepted taken fault is (told, same, printed) = (Some told, is ∙ ap (λ (f : TakeFault). Err f) same, printed)

  pub latest_row_line : (line : Result T E) (label : List ℕ) (row : Option Content) (taken : Result ℕ TakeFault) (count : ℕ) → taken ≡ Ok count
      → IfOk line (λ l. bytes l ≡ newest_line label row) → IfOk line (λ l. (told : Result ℕ ReplyFault) × (taken ≡ count_by told) × (bytes l ≡ latest_line label row told))
  latest_row_line (Err want) label row taken count is printed = tt
  latest_row_line (Ok l) label row taken count is printed = (Ok count, is, printed)

  pub latest_fault_line : (line : Result T E) (label : List ℕ) (row : Option Content) (taken : Result ℕ TakeFault) (fault : TakeFault) → taken ≡ Err fault
      → IfOk line (λ l. (told : ReplyFault) × (fault ≡ Reply told) × (bytes l ≡ bad_reply_line told))
      → IfOk line (λ l. (told : Result ℕ ReplyFault) × (taken ≡ count_by told) × (bytes l ≡ latest_line label row told))
  latest_fault_line (Err want) label row taken fault is printed = tt
  latest_fault_line (Ok l) label row taken fault is (told, same, printed) = (Err told, is ∙ ap (λ (f : TakeFault). Err f) same, printed)

module _ {S L C : Type 0} (accepts : C → Accepts) (store_view : S → StoreView) (link_view : L → LinkView) (old new : ClientActs C) (before after : State S L C) where
  quiet : {A : Type 0} (taken : Result A TakeFault) (from to : ClientPass C) (view : List ℕ) → (taken ≡ Err NoMemory → ⊥)
      → Learns accepts store_view link_view before after from to view ⊎ IsUnbegun old new before after taken
      → is_known from.chain.configs view ≡ true → IsQuiet (record { from = from; to = to; before = before; after = after })
  quiet taken from to view some (inl learns) known = learns.known known
  quiet taken from to view some (inr unbegun) known = absurd (some unbegun.0)

  known_or_not : (b : Bool) {X : Type 0} → (b ≡ true → X) → (b ≡ false → X) → X
  known_or_not true known unknown = known refl
  known_or_not false known unknown = unknown refl

  learned : {A : Type 0} (taken : Result A TakeFault) (from to : ClientPass C) (view : List ℕ)
      → Learns accepts store_view link_view before after from to view ⊎ IsUnbegun old new before after taken → after.checker ≡ before.checker
  learned taken from to view (inl learns) =
      known_or_not (is_known from.chain.configs view) (λ known. ap (λ (s : State S L C). s.checker) (learns.known known).0) (λ unknown. (learns.unknown unknown).1.checker)
  learned taken from to view (inr unbegun) = ap (λ (s : State S L C). s.checker) unbegun.2

  -- whatever the client learned, the coordinator's checker is as it was
  pub same_checker : {A : Type 0} (taken : Result A TakeFault) (place calls : ℕ) (view : List ℕ) (act : Option ReplyFault → Act) (P : ClientPass C → ClientPass C → Type 0)
      → ClientTook accepts store_view link_view old new before after place calls view taken act P → after.checker ≡ before.checker
  same_checker taken place calls view act P took = learned taken took.from took.to view took.learns

  only_views : {A : Type 0} (taken : Result A TakeFault) (from to : ClientPass C) (view : List ℕ)
      → Learns accepts store_view link_view before after from to view ⊎ IsUnbegun old new before after taken → OnlyLearned accepts store_view link_view before after
  only_views taken from to view (inl learns) =
      known_or_not (is_known from.chain.configs view) (λ known. inl (learns.known known).0) (λ unknown. let asked = learns.unknown unknown in inr (length from.chain.configs, asked.0, asked.1))
  only_views taken from to view (inr unbegun) = inl unbegun.2

  -- whatever the client learned, it was by views
  pub only_learned : {A : Type 0} (taken : Result A TakeFault) (place calls : ℕ) (view : List ℕ) (act : Option ReplyFault → Act) (P : ClientPass C → ClientPass C → Type 0)
      → ClientTook accepts store_view link_view old new before after place calls view taken act P → OnlyLearned accepts store_view link_view before after
  only_learned taken place calls view act P took = only_views taken took.from took.to view took.learns

  -- and what it wrote is one turn, if anything
  pub turned_at : {A : Type 0} (taken : Result A TakeFault) (place calls : ℕ) (view : List ℕ) (act : Option ReplyFault → Act) (P : ClientPass C → ClientPass C → Type 0)
      → ClientTook accepts store_view link_view old new before after place calls view taken act P → TurnsAt place calls old.turns new.turns
  turned_at taken place calls view act P took = at (length took.to.lines - length took.from.lines) took.turn where
    at : (n : ℕ) → (new.turns ≡ old.turns ++ turn_of place calls n ∷ []) ⊎ IsUnbegun old new before after taken → TurnsAt place calls old.turns new.turns
    at n (inl more) = (turn_of place calls n ∷ [], more, ((refl, refl), tt))
    at n (inr unbegun) = subst (λ (now : ClientActs C). TurnsAt place calls old.turns now.turns) (sym unbegun.1) (no_turn place calls old.turns)

  -- the line of a reply that was checked
  pub gave_line : {T E : Type 0} (line : Result T E) (bytes : T → List ℕ) (place calls : ℕ) (view : List ℕ) (taken : Result (Unit {0}) TakeFault) (act named : Option ReplyFault → Act) (P : ClientPass C → ClientPass C → Type 0)
      (accepted wanted : List ℕ) (outcome : List (List Member) → Option ReplyFault) → accepted ≡ wanted → act ≡ named
      → ClientTook accepts store_view link_view old new before after place calls view taken act P
      → ((from to : ClientPass C) → slice_get old.clients place ≡ Some from → P from to → IfReplyNoted taken (λ fault. fault ≡ outcome to.chain.configs))
      → IfOk line (λ l. (fault : Option ReplyFault) × (taken ≡ answer_by fault) × (bytes l ≡ taken_line accepted fault))
      → IfOk line (λ l. Gave old new place before after (λ sides. Took sides view outcome named (taken_line wanted) (bytes l)))
  gave_line (Err fault) bytes place calls view taken act named P accepted wanted outcome same is_act took says printed = tt
  gave_line (Ok l) bytes place calls view taken act named P accepted wanted outcome same is_act took says (fault, is, line) =
      let had : fault ≡ outcome took.to.chain.configs = noted_by taken fault (λ fault. fault ≡ outcome took.to.chain.configs) is (says took.from took.to took.acts.stood took.says) in
      let noted : NotedAfterViews took.from took.to (act fault) = noted_by taken fault (λ fault. NotedAfterViews took.from took.to (act fault)) is took.noted in
      let told : NotedAfterViews took.from took.to (named fault) = subst (λ (by : Option ReplyFault → Act). NotedAfterViews took.from took.to (by fault)) is_act noted in (
        took.from,
        took.to,
        took.acts,
        record {
          known = quiet taken took.from took.to view (λ none. answered fault (sym is ∙ none)) took.learns;
          noted = subst (λ fault. NotedAfterViews took.from took.to (named fault)) had told;
          printed = line ∙ ap (λ (text : List ℕ). taken_line text fault) same ∙ ap (λ (fault : Option ReplyFault). taken_line wanted fault) had;
        },
      )

  -- the same for a latest read
  pub gave_latest_line : {T E : Type 0} (line : Result T E) (bytes : T → List ℕ) (place calls : ℕ) (view : List ℕ) (taken : Result ℕ TakeFault) (act : Option ReplyFault → Act) (P : ClientPass C → ClientPass C → Type 0)
      (label : List ℕ) (row : Option Content) (outcome : List (List Member) → Result ℕ ReplyFault)
      → ClientTook accepts store_view link_view old new before after place calls view taken act P
      → ((from to : ClientPass C) → slice_get old.clients place ≡ Some from → P from to → IfReplyNoted taken (λ fault. fault ≡ result_err (outcome to.chain.configs)))
      → ((from to : ClientPass C) → slice_get old.clients place ≡ Some from → P from to → IfOk taken (λ count. outcome to.chain.configs ≡ Ok count))
      → IfOk line (λ l. (told : Result ℕ ReplyFault) × (taken ≡ count_by told) × (bytes l ≡ latest_line label row told))
      → IfOk line (λ l. Gave old new place before after (λ sides. Took sides view outcome (λ told. act (result_err told)) (latest_line label row) (bytes l)))
  gave_latest_line (Err fault) bytes place calls view taken act P label row outcome took says counts printed = tt
  gave_latest_line (Ok l) bytes place calls view taken act P label row outcome took says counts (told, is, line) =
      let had : told ≡ outcome took.to.chain.configs =
      count_noted taken told (outcome took.to.chain.configs) is (says took.from took.to took.acts.stood took.says) (counts took.from took.to took.acts.stood took.says) in
      let noted : NotedAfterViews took.from took.to (act (result_err told)) = count_by_noted taken told (λ fault. NotedAfterViews took.from took.to (act fault)) is took.noted in (
        took.from,
        took.to,
        took.acts,
        record {
          known = quiet taken took.from took.to view (λ none. counted told (sym is ∙ none)) took.learns;
          noted = subst (λ (told : Result ℕ ReplyFault). NotedAfterViews took.from took.to (act (result_err told))) had noted;
          printed = line ∙ ap (λ (told : Result ℕ ReplyFault). latest_line label row told) had;
        },
      )

  -- the draw that it was taken for
  pub gave_drawn : {T E : Type 0} (line : Result T E) (place draw : ℕ) (Q : ℕ → ClientPass C → Type 0) (P : T → ℕ → Sides S L C → Type 0)
      → ((from : ClientPass C) → slice_get old.clients place ≡ Some from → Q draw from)
      → IfOk line (λ l. Gave old new place before after (λ sides. P l draw sides))
      → IfOk line (λ l. Gave old new place before after (λ sides. (draw : ℕ) × Q draw sides.from × P l draw sides))
  gave_drawn (Err fault) place draw Q P drew gave = tt
  gave_drawn (Ok l) place draw Q P drew (from, to, acts, took) = (from, to, acts, (draw, drew from acts.stood, took))
