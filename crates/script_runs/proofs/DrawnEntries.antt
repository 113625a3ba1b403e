-- Which entries the clients of a run have drawn.
use Rattle.std.proofs.Common.{◌≡◌, ◌⊎◌, inl, inr, ℕ, Bool, true, false, if◌then◌else◌, zero, suc, ◌≤◌, List, [], ◌∷◌, ◌++◌, length, replicate, slice_get, slice_set, Option, Some, None, refl, sym, ap, subst, ◌∙◌, arith, append_assoc}
use Rattle.std.proofs.lemmas.List.{append-nil, length-append}
use Rattle.std.specs.Int.{w64, to_be_bytes}
use Rattle.std.proofs.lemmas.Bool.{cases_Bool}
use Rattle.std.specs.Str.{bytes_eq}
use Rattle.sha2.proofs.Facts256.{length-sha256}
use Rattle.chain_block.specs.declared.entry.Entry.{Entry}
use Rattle.chain_block.specs.Entry.{handle_of}
use Rattle.port.specs.Cause.{BadRow, Cause, Conflict, Contended, Full, Gap, NoMemory, NoQuorum, Reused, StoreFault, TooFar, ViewMoved}
use Rattle.port.specs.RowForm.{IsStored}
use Rattle.port.specs.Service.{Knew, Refused, Replied, ServiceAnswer, Stood}
use Rattle.view_ledger.specs.Receipts.{Accepts}
use Rattle.client_pass.specs.Act.{Act, Draw, Line, line}
use Rattle.client_pass.specs.ClientPass.{ClientPass, Notes}
use Rattle.coordinator.specs.Entries.{first_entry, later_entry}
use Rattle.reply_taking.specs.Learning.{Grows, NotedAfterViews}
use Rattle.answer_lines.specs.Taken.{Printed, Sides, TookOwn}
use Rattle.script_world.specs.Going.{GoesOn}
use Rattle.script_world.specs.Labels.{Labels, handle_for, or_own, with_label}
use Rattle.script_world.specs.Lines.{ClientCame}
use Rattle.script_world.specs.Nonce.{nonce}
use Rattle.script_world.specs.World.{World}
use Rattle.script_runs.specs.OwnCalls.{WasDrawn}

-- ---- lines of clients

-- each client has its lines, and perhaps more
abbrev pub ClientsGrow : {C : Type 0} → List (ClientPass C) → List (ClientPass C) → Type 0
ClientsGrow {C} old new = (place : ℕ) (from : ClientPass C) → slice_get old place ≡ Some from
    → (to : ClientPass C) × (more : List Line) × (slice_get new place ≡ Some to) × (to.lines ≡ from.lines ++ more)

got_more : {A : Type 0} (xs more : List A) (place : ℕ) (x : A) → slice_get xs place ≡ Some x → slice_get (xs ++ more) place ≡ Some x
got_more [] more place x got = absurd cc
got_more (first ∷ xs) more zero x got = got
got_more (first ∷ xs) more (suc place) x got = got_more xs more place x got

got_last : {A : Type 0} (xs : List A) (x : A) → slice_get (xs ++ x ∷ []) (length xs) ≡ Some x
got_last [] x = refl
got_last (first ∷ xs) x = got_last xs x

pub drawn_more : {C : Type 0} (old new : List (ClientPass C)) → ClientsGrow old new → (entry : Entry) → WasDrawn old entry → WasDrawn new entry
drawn_more old new grow entry (place, draw, (pass, stood, (stamp, number, line))) =
    let now = grow place pass stood in
    (place, draw, (now.0, now.2, (stamp, number, ap (λ (l : List Line). slice_get l draw) now.3 ∙ got_more pass.lines now.1 draw _ line)))

pub grow_on : {L C : Type 0} (old new : World L C) → GoesOn old new → ClientsGrow old.clients new.clients
grow_on old new goes place from stood = let now = goes.grow place from stood in (now.0, now.2.more, now.1, now.2.lines)

pub grow_not : {C : Type 0} (old new : List (ClientPass C)) → new ≡ old → ClientsGrow old new
grow_not old new same place from stood = (from, [], ap (λ l. slice_get l place) same ∙ stood, sym (append-nil from.lines))

pub grow_then : {C : Type 0} (old middle new : List (ClientPass C)) → ClientsGrow old middle → ClientsGrow middle new → ClientsGrow old new
grow_then old middle new first next place from stood =
    let one = first place from stood in
    let two = next place one.0 one.2 in
    (two.0, one.1 ++ two.1, two.2, two.3 ∙ ap (λ (l : List Line). l ++ two.1) one.3 ∙ append_assoc from.lines one.1 two.1)

grow_set : {C : Type 0} (all : List (ClientPass C)) (place : ℕ) (from to : ClientPass C) (more : List Line) → slice_get all place ≡ Some from → to.lines ≡ from.lines ++ more → ClientsGrow all (slice_set all place to)
grow_set [] place from to more stood lines other pass found = absurd cc
grow_set {C} (first ∷ all) zero from to more stood lines zero pass found =
    let same : from ≡ pass = (let s : Some from ≡ Some pass = sym stood ∙ found in cc) in
    (to, more, refl, lines ∙ ap (λ (p : ClientPass C). p.lines ++ more) same)
grow_set (first ∷ all) zero from to more stood lines (suc other) pass found = (pass, [], found, sym (append-nil pass.lines))
grow_set (first ∷ all) (suc place) from to more stood lines zero pass found = (pass, [], found, sym (append-nil pass.lines))
grow_set (first ∷ all) (suc place) from to more stood lines (suc other) pass found = grow_set all place from to more stood lines other pass found

got_set : {A : Type 0} (all : List A) (place : ℕ) (from to : A) → slice_get all place ≡ Some from → slice_get (slice_set all place to) place ≡ Some to
got_set [] place from to stood = absurd cc
got_set (first ∷ all) zero from to stood = refl
got_set (first ∷ all) (suc place) from to stood = got_set all place from to stood

-- one client did more
pub grow_at : {C : Type 0} (old new : List (ClientPass C)) (place : ℕ) (from to : ClientPass C) → slice_get old place ≡ Some from → new ≡ slice_set old place to → Grows from to → ClientsGrow old new
grow_at {C} old new place from to stood stands grows = subst (λ (l : List (ClientPass C)). ClientsGrow old l) (sym stands) (grow_set old place from to grows.more stood grows.lines)

-- a client came
pub grow_came : {L C : Type 0} (accepts : C → Accepts) (checks : Accepts) (old new : World L C) (place : ℕ) → ClientCame accepts checks old new place → ClientsGrow old.clients new.clients
grow_came accepts checks old new place (inl same) = grow_not old.clients new.clients (ap (λ w. w.clients) same.0)
grow_came {L} {C} accepts checks old new place (inr (more, at)) = by
  where
    by : ClientsGrow old.clients new.clients
    by other from stood = (from, [], ap (λ (l : List (ClientPass C)). slice_get l other) more.clients ∙ got_more old.clients (more.client ∷ []) other from stood, sym (append-nil from.lines))

-- ---- a draw before a call

-- the lines of a client that drew this and then did more
abbrev pub DrewAndMore : {C : Type 0} → ClientPass C → ClientPass C → Type 0
DrewAndMore drawn to = (more : List Line) × (to.lines ≡ drawn.lines ++ more)

noted_more : {C : Type 0} (from to : ClientPass C) (act : Act) → NotedAfterViews from to act → DrewAndMore from to
noted_more {C} from to act noted =
    let last : List Line = line noted.noted.stamp act ∷ [] in (
      noted.views.grows.more ++ last,
      ap (λ (p : ClientPass C). p.lines) noted.noted.noted ∙ ap (λ (l : List Line). l ++ last) noted.views.grows.lines ∙ append_assoc from.lines noted.views.grows.more last,
    )

module _ {S L C : Type 0} (accepts : Accepts) (sides : Sides S L C) (label : List ℕ) where
  printed_more : (cause : Cause) (line : List ℕ) → Printed sides label cause line → DrewAndMore sides.from sides.to
  printed_more NoMemory line printed = absurd printed
  printed_more (Conflict standing) line (quiet, is, same) = same_lines same
    where
      same_lines : sides.to ≡ sides.from → DrewAndMore sides.from sides.to
      same_lines same = ([], ap (λ (p : ClientPass C). p.lines) same ∙ sym (append-nil sides.from.lines))
  printed_more cause line printed = same_lines cause printed
    where
      same_lines : (cause : Cause) → Printed sides label cause line → DrewAndMore sides.from sides.to
      same_lines (Conflict standing) p = ([], ap (λ (p : ClientPass C). p.lines) p.2 ∙ sym (append-nil sides.from.lines))
      same_lines (Gap handle missing) p = ([], ap (λ (p : ClientPass C). p.lines) p.2 ∙ sym (append-nil sides.from.lines))
      same_lines (NoQuorum need reasons) p = ([], ap (λ (p : ClientPass C). p.lines) p.2 ∙ sym (append-nil sides.from.lines))
      same_lines (ViewMoved from id statement sig) p = ([], ap (λ (p : ClientPass C). p.lines) p.2 ∙ sym (append-nil sides.from.lines))
      same_lines StoreFault p = ([], ap (λ (p : ClientPass C). p.lines) p.2 ∙ sym (append-nil sides.from.lines))
      same_lines (BadRow key bytes) p = ([], ap (λ (p : ClientPass C). p.lines) p.2 ∙ sym (append-nil sides.from.lines))
      same_lines (Contended member first later) p = ([], ap (λ (p : ClientPass C). p.lines) p.2 ∙ sym (append-nil sides.from.lines))
      same_lines (Full member) p = ([], ap (λ (p : ClientPass C). p.lines) p.2 ∙ sym (append-nil sides.from.lines))
      same_lines (TooFar needed) p = ([], ap (λ (p : ClientPass C). p.lines) p.2 ∙ sym (append-nil sides.from.lines))
      same_lines (Reused id) p = ([], ap (λ (p : ClientPass C). p.lines) p.2 ∙ sym (append-nil sides.from.lines))
      same_lines NoMemory p = absurd p

  -- what a client takes of an answer comes after its draw
  pub took_more : (entry : Entry) (answer : ServiceAnswer) (line : List ℕ) → TookOwn accepts sides label entry answer line → DrewAndMore sides.from sides.to
  took_more entry (Stood standing) line (draw, is, took) = noted_more sides.from sides.to _ took.noted
  took_more entry (Refused (Conflict standing)) line took = noted_more sides.from sides.to _ took.noted
  took_more entry (Refused (Gap handle missing)) line took = printed_more (Gap handle missing) line took
  took_more entry (Refused (NoQuorum need reasons)) line took = printed_more (NoQuorum need reasons) line took
  took_more entry (Refused (ViewMoved from id statement sig)) line took = printed_more (ViewMoved from id statement sig) line took
  took_more entry (Refused StoreFault) line took = printed_more StoreFault line took
  took_more entry (Refused (BadRow key bytes)) line took = printed_more (BadRow key bytes) line took
  took_more entry (Refused (Contended member first later)) line took = printed_more (Contended member first later) line took
  took_more entry (Refused (Full member)) line took = printed_more (Full member) line took
  took_more entry (Refused (TooFar needed)) line took = printed_more (TooFar needed) line took
  took_more entry (Refused (Reused id)) line took = printed_more (Reused id) line took
  took_more entry (Refused NoMemory) line took = printed_more NoMemory line took
  took_more entry (Replied reply) line took = absurd took
  took_more entry (Knew rows) line took = absurd took

-- what a client drew before it did more was drawn
pub drew_then : {C : Type 0} (old new : List (ClientPass C)) (place : ℕ) (from drawn to : ClientPass C) (number : List ℕ) (entry : Entry) → slice_get old place ≡ Some from → new ≡ slice_set old place to
    → Notes from drawn (Draw number (Some entry)) → DrewAndMore drawn to → WasDrawn new entry
drew_then {C} old new place from drawn to number entry stood stands notes (more, lines) =
    let own : Line = line notes.stamp (Draw number (Some entry)) in
    let drew : slice_get drawn.lines (length from.lines) ≡ Some own = ap (λ (p : ClientPass C). slice_get p.lines (length from.lines)) notes.noted ∙ got_last from.lines own in
    let now : slice_get new place ≡ Some to = ap (λ (l : List (ClientPass C)). slice_get l place) stands ∙ got_set old place from to stood in
    (place, length from.lines, (to, now, (notes.stamp, number, ap (λ (l : List Line). slice_get l (length from.lines)) lines ∙ got_more drawn.lines more (length from.lines) own drew)))

-- ---- entries and handles of their lengths

nonce_size : (number : ℕ) → length (nonce number) ≡ 16
nonce_size number = omega (arith, length-append (replicate 8 0) (to_be_bytes w64 number))

pub first_stored : (number : ℕ) (payload : List ℕ) → length payload ≤ 65536 → IsStored (first_entry (nonce number) payload)
first_stored number payload within = ((within, nonce_size number), refl)

pub later_stored : (handle : List ℕ) (height number : ℕ) (payload : List ℕ) → length handle ≡ 32 → 1 ≤ height → height ≤ 4294967295 → length payload ≤ 65536 → IsStored (later_entry handle height (nonce number) payload)
later_stored handle height number payload size low high within = (((low, high, within), size, nonce_size number), refl)

-- each label that means a ledger means one with a handle of its length
abbrev pub HandlesFit : Labels → Type 0
HandlesFit labels = (label handle : List ℕ) → labels label ≡ Some handle → length handle ≡ 32

pub handle_size : (labels : Labels) (label : List ℕ) → HandlesFit labels → length (handle_for labels label) ≡ 32
handle_size labels label fit = by (labels label) refl
  where
    by : (own : Option (List ℕ)) → labels label ≡ own → length (or_own label own) ≡ 32
    by (Some handle) is = fit label handle is
    by None is = length-sha256 _

pub handles_with : (labels after : Labels) (label number payload : List ℕ) → after ≡ with_label labels label (handle_of (first_entry number payload)) → HandlesFit labels → HandlesFit after
handles_with labels after label number payload is fit other handle means =
    by (cases_Bool (bytes_eq other label)) (ap (λ (l : Labels). l other) (sym is) ∙ means)
  where
    by : (bytes_eq other label ≡ true) ⊎ (bytes_eq other label ≡ false) → with_label labels label (handle_of (first_entry number payload)) other ≡ Some handle → length handle ≡ 32
    by (inl same) now =
        let own : Some (handle_of (first_entry number payload)) ≡ Some handle = sym (ap (λ (b : Bool). if b then Some (handle_of (first_entry number payload)) else labels other) same) ∙ now in
        let equal : handle_of (first_entry number payload) ≡ handle = cc own in
        ap length (sym equal) ∙ length-sha256 _
    by (inr apart) now = fit other handle (sym (ap (λ (b : Bool). if b then Some (handle_of (first_entry number payload)) else labels other) apart) ∙ now)
