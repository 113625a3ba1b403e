-- Which of its lines a plain reply is.
use Rattle.std.proofs.Common.{◌≡◌, ◌≢◌, ℕ, ◌+◌, ◌-◌, ◌<◌, ◌≤◌, List, [], ◌∷◌, ◌++◌, length, map, get_or, refl, sym, ap, ◌∙◌, arith}
use Rattle.std.specs.Prelude.{slice_index_or}
use Rattle.std.proofs.lemmas.Bool.{le-ltb, lt-ltb, eq-eqb, ne_eqb}
use Rattle.std.proofs.lemmas.List.{get_or_at, length-append, length-map, map-append}
use Rattle.chain_block.specs.declared.entry.Entry.{Entry}
use Rattle.fault_script.specs.Command.{Append}
use Rattle.reply_lines.specs.Causes.{gap_line, payload_of}
use Rattle.reply_lines.specs.Lines.{ok_line, conflict_line, absent_line}
use Rattle.world_run.specs.Plain.{Known, with_ledger, append_reply, at_reply, latest_reply, after_request}

pub append_ok : (standing : List (List ℕ)) (label payload : List ℕ) (height : ℕ) → height ≡ length standing → append_reply standing label height payload ≡ ok_line label height payload
append_ok standing label payload height is = rw (eq-eqb height (length standing) is) refl

pub append_conflict : (standing : List (List ℕ)) (label payload other : List ℕ) (height : ℕ) → height < length standing → slice_index_or standing height [] ≡ other
    → append_reply standing label height payload ≡ conflict_line label height other
append_conflict standing label payload other height below is =
    rw (ne_eqb height (length standing) (λ e. absurd (omega (arith, e, below))), lt-ltb height (length standing) below, is) refl

pub append_gap : (standing : List (List ℕ)) (label payload : List ℕ) (height missing : ℕ) → length standing ≤ missing → height ≡ missing + 1
    → append_reply standing label height payload ≡ gap_line label missing
append_gap standing label payload height missing low is =
    let lower : height - 1 ≡ missing = omega (arith, is) in
    rw (ne_eqb height (length standing) (λ e. absurd (omega (arith, e, low, is))), le-ltb height (length standing) (omega (arith, low, is)), lower) refl

pub at_ok : (standing : List (List ℕ)) (label payload : List ℕ) (height : ℕ) → height < length standing → slice_index_or standing height [] ≡ payload
    → at_reply standing label height ≡ ok_line label height payload
at_ok standing label payload height below is = rw (lt-ltb height (length standing) below, is) refl

pub at_gap : (standing : List (List ℕ)) (label : List ℕ) (height : ℕ) → length standing ≤ height → at_reply standing label height ≡ gap_line label height
at_gap standing label height low = rw (le-ltb height (length standing) low) refl

pub latest_none : (standing : List (List ℕ)) (label : List ℕ) → standing ≡ [] → latest_reply standing label ≡ absent_line label
latest_none standing label none = ap (λ (s : List (List ℕ)). latest_reply s label) none

pub latest_ok : (standing : List (List ℕ)) (label payload : List ℕ) (height : ℕ) → length standing ≡ height + 1 → slice_index_or standing height [] ≡ payload
    → latest_reply standing label ≡ ok_line label height payload
latest_ok standing label payload height count is =
    let lower : length standing - 1 ≡ height = omega (arith, count) in
    rw (ne_eqb (length standing) 0 (λ e. absurd (omega (arith, e, count))), lower, is) refl

-- the payload of the entry above these
pub payload_at : (standing : List (List ℕ)) (entries below above : List Entry) (entry : Entry) (height : ℕ) → map payload_of entries ≡ standing → entries ≡ below ++ entry ∷ above → height ≡ length below
    → slice_index_or standing height [] ≡ payload_of entry
payload_at standing entries below above entry height tied split is =
    let parts : standing ≡ map payload_of below ++ payload_of entry ∷ map payload_of above = sym tied ∙ ap (map payload_of) split ∙ map-append payload_of below (entry ∷ above) in
    ap (λ (s : List (List ℕ)). get_or s height []) parts
    ∙ get_or_at (map payload_of below) (payload_of entry) (map payload_of above) [] height (length-map below payload_of ∙ sym is)

pub count_at : (standing : List (List ℕ)) (entries below above : List Entry) (entry : Entry) → map payload_of entries ≡ standing → entries ≡ below ++ entry ∷ above
    → length standing ≡ length below + (length above + 1)
count_at standing entries below above entry tied split =
    let whole : length standing ≡ length entries = sym (ap length tied) ∙ length-map entries payload_of in
    let sum : length entries ≡ length below + length (entry ∷ above) = ap length split ∙ length-append below (entry ∷ above) in
    omega (arith, whole, sum)

pub same_count : (standing : List (List ℕ)) (entries : List Entry) → map payload_of entries ≡ standing → length standing ≡ length entries
same_count standing entries tied = sym (ap length tied) ∙ length-map entries payload_of

pub after_ok : (known : Known) (client label payload : List ℕ) (height : ℕ) → height ≡ length (known.ledgers label)
    → after_request known (Append client label height payload) ≡ with_ledger known label (known.ledgers label ++ payload ∷ [])
after_ok known client label payload height is = rw (eq-eqb height (length (known.ledgers label)) is) refl

pub after_same : (known : Known) (client label payload : List ℕ) (height : ℕ) → height ≢ length (known.ledgers label) → after_request known (Append client label height payload) ≡ known
after_same known client label payload height is = rw (ne_eqb height (length (known.ledgers label)) is) refl
