-- Which labels the lines of a script make, and the texts of those that none makes.
use Rattle.std.proofs.Common.{◌≡◌, ◌⊎◌, inl, inr, ℕ, ◌+◌, Bool, true, false, ◌||◌, List, [], ◌∷◌, ◌++◌, Some, refl, sym, ap, ◌∙◌, subst, append_assoc, arith}
use Rattle.std.specs.Prelude.{Contains}
use Rattle.std.specs.List.{flat_map, list_any}
use Rattle.std.specs.Str.{bytes_eq}
use Rattle.std.proofs.lemmas.Grind.{flat_map-append}
use Rattle.std.proofs.lemmas.List.{append-nil}
use Rattle.std.proofs.lemmas.List.Elements.{Contains-append_left, Contains-append_right, Contains-push}
use Rattle.std.proofs.lemmas.List.Folds.{list_any-append}
use Rattle.fault_script.specs.Command.{Request, New, Append, Latest, At, Reconfigure, Command, Genesis, Plain, Restart, Begin, Step, Finish, Retry, LoseRequest, LoseReply, StoreFail, StoreHide, StoreStale, StoreFork, StoreHonest, RawAppend, RawLatest, RawShow, RawFinalize, Offer, Forge, End}
use Rattle.fault_script.specs.Labels.{label_of, has_label, is_used, makes_used_label}
use Rattle.fault_script.specs.Limits.{is_new}
use Rattle.world_run.specs.PlainRun.{IsRunnable, is_made, draws_in}
use Rattle.world_run.specs.SetUp.{made_by, draws_of, first_entry, first_entries, label_text, set_up_texts}
use Rattle.script_runs.specs.Ids.{all_ids}
use Rattle.world_run.proofs.Bytes.{same_bytes, bytes_eq-self}
use Rattle.world_run.proofs.Nonces.{first_entries-append}

-- no earlier line has a label that a line makes
pub makes_no_used : (texts_of : ℕ → List (List ℕ)) (script before after : List Command) (command : Command) → IsRunnable texts_of script → script ≡ before ++ command ∷ after
    → makes_used_label (is_used before) command ≡ false
makes_no_used texts_of script before after command fits split = (fits.each before command after split).apart

-- a line that makes the label is a `new` line with that label
abbrev Makes : Command → List ℕ → Type 0
Makes command label = (is_new command ≡ true) × (label_of command ≡ Some label)

or_false : (b : Bool) → (b || false) ≡ true → b ≡ true
or_false true e = refl
or_false false e = e

same_label : (label own : List ℕ) → (bytes_eq label own || false) ≡ true → own ≡ label
same_label label own e = sym (same_bytes label own (or_false (bytes_eq label own) e))

makes_request : (request : Request) (label : List ℕ) → list_any (bytes_eq label) (made_by (Plain request)) ≡ true → Makes (Plain request) label
makes_request (New client own payload) label made = (refl, ap (λ (l : List ℕ). Some l) (same_label label own made))
makes_request (Append client own height payload) label made = absurd cc
makes_request (Latest client own) label made = absurd cc
makes_request (At client own height) label made = absurd cc
makes_request (Reconfigure ids) label made = absurd cc

makes : (command : Command) (label : List ℕ) → list_any (bytes_eq label) (made_by command) ≡ true → Makes command label
makes (Plain request) label made = makes_request request label made
makes (Begin op request) label made = makes_request request label made
makes (Genesis ids) label made = absurd cc
makes Restart label made = absurd cc
makes (Step op n) label made = absurd cc
makes (Finish op) label made = absurd cc
makes (Retry op) label made = absurd cc
makes (LoseRequest id n) label made = absurd cc
makes (LoseReply id n) label made = absurd cc
makes (StoreFail n) label made = absurd cc
makes (StoreHide own height) label made = absurd cc
makes (StoreStale own height from) label made = absurd cc
makes (StoreFork own height) label made = absurd cc
makes StoreHonest label made = absurd cc
makes (RawAppend id own height payload n) label made = absurd cc
makes (RawLatest id own n) label made = absurd cc
makes (RawShow id own) label made = absurd cc
makes (RawFinalize id ids) label made = absurd cc
makes (Offer op ids) label made = absurd cc
makes (Forge op count ids) label made = absurd cc
makes End label made = absurd cc

pub or_right : (a b : Bool) → b ≡ true → (a || b) ≡ true
or_right true b e = refl
or_right false b e = e

or_cases : (a b : Bool) → (a || b) ≡ true → (a ≡ true) ⊎ (b ≡ true)
or_cases true b e = inl refl
or_cases false b e = inr e

none_of : (a b : Bool) → a ≡ false → b ≡ false → (a || b) ≡ false
none_of a b p q = rw (p, q) refl

pub has_own : (command : Command) (label : List ℕ) → label_of command ≡ Some label → has_label label command ≡ true
has_own command label own = rw own (bytes_eq-self label)

-- a label that one of some lines makes is used by them
pub made_is_used : (commands : List Command) (label : List ℕ) → is_made commands label ≡ true → is_used commands label ≡ true
made_is_used [] label made = absurd cc
made_is_used (command ∷ commands) label made =
    elim (or_cases (list_any (bytes_eq label) (made_by command)) (is_made commands label) (sym (list_any-append (bytes_eq label) (made_by command) (flat_map made_by commands)) ∙ made)) [
      | inl own ↦ rw (has_own command label (makes command label own).1) refl
      | inr later ↦ or_right (has_label label command) (is_used commands label) (made_is_used commands label later)
    ]

pub is_made-append : (one other : List Command) (label : List ℕ) → is_made (one ++ other) label ≡ (is_made one label || is_made other label)
is_made-append one other label =
    ap (list_any (bytes_eq label)) (flat_map-append made_by one other) ∙ list_any-append (bytes_eq label) (flat_map made_by one) (flat_map made_by other)

pub is_made-push : (before : List Command) (command : Command) (label : List ℕ) → is_made (before ++ command ∷ []) label ≡ (is_made before label || list_any (bytes_eq label) (made_by command))
is_made-push before command label =
    is_made-append before (command ∷ []) label ∙ ap (λ (l : List (List ℕ)). is_made before label || list_any (bytes_eq label) l) (append-nil (made_by command))

pub false_or_true : (b : Bool) → (b ≡ true → ⊥) → b ≡ false
false_or_true true never = absurd (never refl)
false_or_true false never = refl

used_push : (earlier : List Command) (command : Command) (label : List ℕ) → is_used earlier label ≡ true → is_used (earlier ++ command ∷ []) label ≡ true
used_push earlier command label used = list_any-append (has_label label) earlier (command ∷ []) ∙ rw used refl

pub used_here : (earlier : List Command) (command : Command) (label : List ℕ) → label_of command ≡ Some label → is_used (earlier ++ command ∷ []) label ≡ true
used_here earlier command label own =
    list_any-append (has_label label) earlier (command ∷ []) ∙ or_right (is_used earlier label) (has_label label command || false) (rw (has_own command label own) refl)

makes_used : (used : List ℕ → Bool) (command : Command) (label : List ℕ) → Makes command label → used label ≡ true → makes_used_label used command ≡ true
makes_used used command label does is = rw (does.0, does.1) is

-- after a line that has a label none makes it
none_later : (texts_of : ℕ → List (List ℕ)) (script earlier later : List Command) (label : List ℕ) → IsRunnable texts_of script → script ≡ earlier ++ later → is_used earlier label ≡ true
    → is_made later label ≡ false
none_later texts_of script earlier [] label fits split used = refl
none_later texts_of script earlier (command ∷ later) label fits split used =
    list_any-append (bytes_eq label) (made_by command) (flat_map made_by later)
    ∙ none_of (list_any (bytes_eq label) (made_by command)) (is_made later label)
    (false_or_true (list_any (bytes_eq label) (made_by command)) (λ made.
    let never : makes_used_label (is_used earlier) command ≡ false = makes_no_used texts_of script earlier later command fits split in
    let does : makes_used_label (is_used earlier) command ≡ true = makes_used (is_used earlier) command label (makes command label made) used in
    cc (never, does)))
    (none_later texts_of script (earlier ++ command ∷ []) later label fits (split ∙ sym (append_assoc earlier (command ∷ []) later)) (used_push earlier command label used))

pub makes_none : (command : Command) (label : List ℕ) → is_new command ≡ false → list_any (bytes_eq label) (made_by command) ≡ false
makes_none command label not_new = false_or_true (list_any (bytes_eq label) (made_by command)) (λ made. let does = makes command label made in cc (not_new, does.0))

-- a label that no line before makes, and that a line has which makes none, is made by no line
pub never_made : (texts_of : ℕ → List (List ℕ)) (script before after : List Command) (command : Command) (label : List ℕ) → IsRunnable texts_of script → script ≡ before ++ command ∷ after
    → label_of command ≡ Some label → is_new command ≡ false → is_made before label ≡ false → is_made script label ≡ false
never_made texts_of script before after command label fits split own not_new unmade =
    let later : is_made after label ≡ false =
    none_later texts_of script (before ++ command ∷ []) after label fits (split ∙ sym (append_assoc before (command ∷ []) after)) (used_here before command label own) in
    ap (λ (commands : List Command). is_made commands label) split
    ∙ is_made-append before (command ∷ after) label
    ∙ none_of (is_made before label) (is_made (command ∷ after) label) unmade
    (list_any-append (bytes_eq label) (made_by command) (flat_map made_by after)
    ∙ none_of (list_any (bytes_eq label) (made_by command)) (is_made after label) (makes_none command label not_new) later)

-- its text is one of those that a run rests on
pub has_label_text : (texts_of : ℕ → List (List ℕ)) (script before after : List Command) (command : Command) (label : List ℕ) → script ≡ before ++ command ∷ after
    → label_of command ≡ Some label → is_made script label ≡ false → Contains (set_up_texts texts_of script) (0x43 ∷ label)
has_label_text texts_of script before after command label split own unmade =
    let made = flat_map made_by script in
    let texts = label_text made in
    let here : texts command ≡ (0x43 ∷ label) ∷ [] = rw (own, unmade) refl in
    let parts : flat_map texts script ≡ flat_map texts before ++ (texts command ++ flat_map texts after) =
    ap (flat_map texts) split ∙ flat_map-append texts before (command ∷ after) in
    let stands : Contains (texts command) (0x43 ∷ label) = subst (λ (l : List (List ℕ)). Contains l (0x43 ∷ label)) (sym here) (Contains-push [] (0x43 ∷ label)) in
    Contains-append_right (flat_map texts_of all_ids) (first_entries 0 script ++ flat_map texts script) (0x43 ∷ label)
    (Contains-append_right (first_entries 0 script) (flat_map texts script) (0x43 ∷ label)
    (subst (λ (l : List (List ℕ)). Contains l (0x43 ∷ label)) (sym parts)
    (Contains-append_right (flat_map texts before) (texts command ++ flat_map texts after) (0x43 ∷ label)
    (Contains-append_left (texts command) (flat_map texts after) (0x43 ∷ label) stands))))

-- and so is each first entry of the script
pub has_first_text : (texts_of : ℕ → List (List ℕ)) (script : List Command) (text : List ℕ) → Contains (first_entries 0 script) text → Contains (set_up_texts texts_of script) text
has_first_text texts_of script text has =
    let labels = flat_map (label_text (flat_map made_by script)) script in
    Contains-append_right (flat_map texts_of all_ids) (first_entries 0 script ++ labels) text (Contains-append_left (first_entries 0 script) labels text has)

-- those of its first lines
pub first_of_front : (script before after : List Command) (text : List ℕ) → script ≡ before ++ after → Contains (first_entries 0 before) text → Contains (first_entries 0 script) text
first_of_front script before after text split has =
    subst (λ (commands : List Command). Contains (first_entries 0 commands) text) (sym split)
    (subst (λ (l : List (List ℕ)). Contains l text) (sym (first_entries-append 0 before after))
    (Contains-append_left (first_entries 0 before) (first_entries (0 + draws_in before) after) text has))

-- and the one of the next line
pub first_of_line : (before after : List Command) (command : Command) (draws : ℕ) (text : List ℕ) → draws ≡ draws_in before → Contains (first_entry draws command) text
    → Contains (first_entries 0 (before ++ command ∷ after)) text
first_of_line before after command draws text drawn has =
    let number : draws ≡ 0 + draws_in before = drawn ∙ omega arith in
    let here : Contains (first_entry (0 + draws_in before) command) text = subst (λ (n : ℕ). Contains (first_entry n command) text) number has in
    subst (λ (l : List (List ℕ)). Contains l text) (sym (first_entries-append 0 before (command ∷ after)))
    (Contains-append_right (first_entries 0 before) (first_entries (0 + draws_in before) (command ∷ after)) text
    (Contains-append_left (first_entry (0 + draws_in before) command) (first_entries (0 + draws_in before + draws_of command) after) text here))
