-- What a line makes of ledgers that are tied to what is known.
use Rattle.std.proofs.Common.{◌≡◌, ◌≢◌, ◌⊎◌, inl, inr, ℕ, ◌+◌, ◌^◌, ◌<◌, ◌≤◌, Bool, true, false, ◌||◌, List, [], ◌∷◌, ◌++◌, length, map, Option, Some, None, is_some, refl, sym, ap, ◌∙◌, subst, arith}
use Rattle.std.specs.Prelude.{Contains}
use Rattle.std.specs.List.{list_any}
use Rattle.std.specs.Str.{bytes_eq}
use Rattle.std.proofs.lemmas.Bool.{cases_Bool}
use Rattle.std.proofs.lemmas.List.{length-append, map-append}
use Rattle.std.proofs.lemmas.List.Elements.{Contains-push_cases}
use Rattle.sha2.specs.Sha256.{sha256}
use Rattle.chain_block.specs.Bytes.{genesis_bytes}
use Rattle.chain_block.specs.declared.entry.Entry.{Entry}
use Rattle.chain_block.specs.Entry.{nonce_of}
use Rattle.fault_script.specs.Command.{Command}
use Rattle.fault_script.specs.Labels.{label_of, is_used, makes_used_label}
use Rattle.fault_script.specs.Limits.{is_new}
use Rattle.calm.specs.Ledgers.{Ledgers, with_entry}
use Rattle.reply_lines.specs.Causes.{payload_of}
use Rattle.script_world.specs.Labels.{Labels, handle_for, or_own, with_label}
use Rattle.script_world.specs.Nonce.{nonce}
use Rattle.world_run.specs.Plain.{Ledgers as Payloads, set}
use Rattle.world_run.specs.PlainRun.{IsRunnable, draws_in, is_made}
use Rattle.world_run.specs.SetUp.{draws_of, made_by, first_entry, first_entries, set_up_texts}
use Rattle.world_run.specs.Tied.{AreTied, IsFirst, IsDrawn}
use Rattle.world_run.proofs.Bytes.{same_bytes, bytes_eq-self}
use Rattle.world_run.proofs.Nonces.{one_number, one_nonce, no_label_text, of_draw, few_draws, draws_in-push}
use Rattle.world_run.proofs.MadeLabels.{makes_no_used, made_is_used, makes_none, false_or_true, or_right, is_made-push, never_made, has_label_text, has_first_text, first_of_front, first_of_line}

by_bytes : (one other : List ℕ) → (one ≡ other) ⊎ (bytes_eq one other ≡ false)
by_bytes one other = elim (cases_Bool (bytes_eq one other)) [
  | inl same ↦ inl (same_bytes one other same)
  | inr differ ↦ inr differ
]

differ_bytes : (one other : List ℕ) → bytes_eq one other ≡ false → one ≢ other
differ_bytes one other differ same = let own : bytes_eq one other ≡ true = rw same (bytes_eq-self other) in cc (differ, own)

one_of : {X : Type 0} (a b : X) → Some a ≡ Some b → a ≡ b
one_of a b e = cc e

with_own : (labels : Labels) (label handle : List ℕ) → with_label labels label handle label ≡ Some handle
with_own labels label handle = rw (bytes_eq-self label) refl

with_same : (labels : Labels) (label handle other : List ℕ) → other ≡ label → with_label labels label handle other ≡ Some handle
with_same labels label handle other same = ap (with_label labels label handle) same ∙ with_own labels label handle

with_other : (labels : Labels) (label handle other : List ℕ) → bytes_eq other label ≡ false → with_label labels label handle other ≡ labels other
with_other labels label handle other differ = rw differ refl

entry_own : (ledgers : Ledgers) (handle : List ℕ) (entry : Entry) → with_entry ledgers handle entry handle ≡ ledgers handle ++ entry ∷ []
entry_own ledgers handle entry = rw (bytes_eq-self handle) refl

entry_other : (ledgers : Ledgers) (handle other : List ℕ) (entry : Entry) → bytes_eq other handle ≡ false → with_entry ledgers handle entry other ≡ ledgers other
entry_other ledgers handle other entry differ = rw differ refl

set_own : (known : Payloads) (label : List ℕ) (payloads : List (List ℕ)) → set known label payloads label ≡ payloads
set_own known label payloads = rw (bytes_eq-self label) refl

set_other : (known : Payloads) (label other : List ℕ) (payloads : List (List ℕ)) → bytes_eq other label ≡ false → set known label payloads other ≡ known other
set_other known label other payloads differ = rw differ refl

or_none : (a b : Bool) → b ≡ false → (a || b) ≡ a
or_none true b e = refl
or_none false b e = e

none_there : {X : Type 0} (o : Option X) → is_some o ≡ false → o ≡ None
none_there None e = refl
none_there (Some x) e = absurd cc

module _ (texts_of : ℕ → List (List ℕ)) (script before after : List Command) (command : Command) (fits : IsRunnable texts_of script) (split : script ≡ before ++ command ∷ after)
    (labels : Labels) (draws : ℕ) (ledgers : Ledgers) (known : Payloads) (tied : AreTied before labels draws ledgers known) where
  low : draws < 2 ^ 64
  low =
      let whole : length script ≡ length before + length (command ∷ after) = ap length split ∙ length-append before (command ∷ after) in
      omega (arith, whole, fits.count, few_draws before, tied.drawn)

  -- no label means the ledger of a first entry with the next nonce
  pub new_handle : (payload : List ℕ) → Contains (first_entry draws command) (genesis_bytes (nonce draws) payload) → (other : List ℕ) → labels other ≡ Some (sha256 (genesis_bytes (nonce draws) payload)) → ⊥
  new_handle payload own other means =
      let text = genesis_bytes (nonce draws) payload in
      let is = tied.first other (sha256 text) means in
      let here : Contains (first_entries 0 script) text =
      subst (λ (commands : List Command). Contains (first_entries 0 commands) text) (sym split) (first_of_line before after command draws text tied.drawn own) in
      let same : text ≡ is.0 =
      fits.no_collision text is.0 (has_first_text texts_of script text here) (has_first_text texts_of script is.0 (first_of_front script before (command ∷ after) is.0 split is.1)) is.2 in
      let of = of_draw 0 before is.0 is.1 in
      let below : of.0 < draws = omega (arith, of.3, tied.drawn) in
      let number : draws ≡ of.0 = one_number draws of.0 low (omega (arith, below, low)) (one_nonce draws of.0 payload of.1 (same ∙ of.4)) in
      absurd (omega (arith, number, below))

  pub new_ledger : (payload : List ℕ) → Contains (first_entry draws command) (genesis_bytes (nonce draws) payload) → ledgers (sha256 (genesis_bytes (nonce draws) payload)) ≡ []
  new_ledger payload own = elim (tied.stand (sha256 (genesis_bytes (nonce draws) payload))) [
    | inl none ↦ none
    | inr means ↦ absurd (new_handle payload own means.0 means.1)
  ]

  -- a label that the line has and doesn't make means a ledger of its own, or one without an entry
  abbrev Means : List ℕ → Type 0
  Means label = (labels label ≡ Some (handle_for labels label)) ⊎ ((labels label ≡ None) × (ledgers (handle_for labels label) ≡ []))

  no_entry : (label : List ℕ) → label_of command ≡ Some label → is_new command ≡ false → labels label ≡ None → ledgers (sha256 (0x43 ∷ label)) ≡ []
  no_entry label own not_new none = elim (tied.stand (sha256 (0x43 ∷ label))) [
    | inl empty ↦ empty
    | inr means ↦
        let is = tied.first means.0 (sha256 (0x43 ∷ label)) means.1 in
        let unmade : is_made before label ≡ false = sym (tied.made label) ∙ ap is_some none in
        let text : Contains (set_up_texts texts_of script) (0x43 ∷ label) =
        has_label_text texts_of script before after command label split own (never_made texts_of script before after command label fits split own not_new unmade) in
        let same : 0x43 ∷ label ≡ is.0 =
        fits.no_collision (0x43 ∷ label) is.0 text (has_first_text texts_of script is.0 (first_of_front script before (command ∷ after) is.0 split is.1)) is.2 in
        let of = of_draw 0 before is.0 is.1 in
        absurd (no_label_text (nonce of.0) of.1 label (sym of.4 ∙ sym same))
  ]

  pub means : (label : List ℕ) → label_of command ≡ Some label → is_new command ≡ false → Means label
  means label own not_new = by_option (labels label) refl where
    by_option : (found : Option (List ℕ)) → labels label ≡ found → Means label
    by_option (Some handle) e = inl (e ∙ ap (λ (h : List ℕ). Some h) (sym (ap (or_own label) e)))
    by_option None e = inr (e, ap ledgers (ap (or_own label) e) ∙ no_entry label own not_new e)

  pub payloads_of : (label : List ℕ) → label_of command ≡ Some label → is_new command ≡ false → map payload_of (ledgers (handle_for labels label)) ≡ known label
  payloads_of label own not_new = elim (means label own not_new) [
    | inl made ↦ tied.payloads label (handle_for labels label) made
    | inr none ↦ ap (map payload_of) none.1 ∙ sym (tied.unmade label none.0)
  ]

  -- no entry has the next nonce
  pub none_own : (handle : List ℕ) (entry : Entry) → nonce_of entry ≡ nonce draws → Contains (ledgers handle) entry → ⊥
  none_own handle entry own has =
      let is = tied.nonces handle entry has in
      let number : draws ≡ is.0 = one_number draws is.0 low (omega (arith, is.1, low)) (sym own ∙ is.2) in
      absurd (omega (arith, number, is.1))

  abbrev done : List Command
  done = before ++ command ∷ []

  still_first : (handle : List ℕ) → IsFirst before handle → IsFirst done handle
  still_first handle is = (is.0, first_of_front done before (command ∷ []) is.0 refl is.1, is.2)

  still_drawn : (next : ℕ) (bytes : List ℕ) → draws ≤ next → IsDrawn draws bytes → IsDrawn next bytes
  still_drawn next bytes more is = (is.0, omega (arith, is.1, more), is.2)

  drawn_then : (next : ℕ) → next ≡ draws + draws_of command → next ≡ draws_in done
  drawn_then next is = omega (arith, is, tied.drawn, draws_in-push before command)

  made_then : (label : List ℕ) → is_new command ≡ false → is_some (labels label) ≡ is_made done label
  made_then label not_new =
      tied.made label ∙ sym (is_made-push before command label ∙ or_none (is_made before label) (list_any (bytes_eq label) (made_by command)) (makes_none command label not_new))

  -- nothing was appended
  pub same_ledgers : (next : ℕ) → next ≡ draws + draws_of command → is_new command ≡ false → AreTied done labels next ledgers known
  same_ledgers next is not_new = record {
    drawn = drawn_then next is;
    nonces = λ handle entry has. still_drawn next (nonce_of entry) (omega (arith, is)) (tied.nonces handle entry has);
    made = λ label. made_then label not_new;
    first = λ label handle e. still_first handle (tied.first label handle e);
    apart = tied.apart;
    stand = tied.stand;
    payloads = tied.payloads;
    unmade = tied.unmade;
  }

  -- an entry with the next nonce was appended
  nonces_then : (next : ℕ) (own : List ℕ) (entry : Entry) → next ≡ draws + 1 → nonce_of entry ≡ nonce draws
      → (handle : List ℕ) (other : Entry) → Contains (with_entry ledgers own entry handle) other → IsDrawn next (nonce_of other)
  nonces_then next own entry is fresh handle other has = elim (by_bytes handle own) [
    | inl same ↦
        let there : with_entry ledgers own entry handle ≡ ledgers handle ++ entry ∷ [] = rw same (entry_own ledgers own entry) in
        elim (Contains-push_cases (ledgers handle) entry other (subst (λ (entries : List Entry). Contains entries other) there has)) [
          | inl before ↦ still_drawn next (nonce_of other) (omega (arith, is)) (tied.nonces handle other before)
          | inr new ↦ (draws, omega (arith, is), ap nonce_of (sym new) ∙ fresh)
        ]
    | inr differ ↦
        still_drawn next (nonce_of other) (omega (arith, is))
        (tied.nonces handle other (subst (λ (entries : List Entry). Contains entries other) (entry_other ledgers own handle entry differ) has))
  ]

  module _ (label : List ℕ) (entry : Entry) (payload : List ℕ) (fresh : nonce_of entry ≡ nonce draws) (said : payload_of entry ≡ payload) (once : draws_of command ≡ 1) where
    -- it came on top of the ledger of a label
    pub one_more : (own : List ℕ) → labels label ≡ Some own → is_new command ≡ false
        → AreTied done labels (draws + 1) (with_entry ledgers own entry) (set known label (known label ++ payload ∷ []))
    one_more own means not_new = record {
      drawn = drawn_then (draws + 1) (omega (arith, once));
      nonces = nonces_then (draws + 1) own entry refl fresh;
      made = λ l. made_then l not_new;
      first = λ l handle e. still_first handle (tied.first l handle e);
      apart = tied.apart;
      stand = λ handle. elim (by_bytes handle own) [
        | inl same ↦ inr (label, means ∙ ap (λ (h : List ℕ). Some h) (sym same))
        | inr differ ↦ elim (tied.stand handle) [
          | inl none ↦ inl (entry_other ledgers own handle entry differ ∙ none)
          | inr of ↦ inr of
        ]
      ];
      payloads = λ l handle e. elim (by_bytes handle own) [
        | inl same ↦
            let name : l ≡ label = tied.apart l label own (e ∙ ap (λ (h : List ℕ). Some h) same) means in
            ap (λ (h : List ℕ). map payload_of (with_entry ledgers own entry h)) same
            ∙ ap (map payload_of) (entry_own ledgers own entry)
            ∙ map-append payload_of (ledgers own) (entry ∷ [])
            ∙ ap (λ (ps : List (List ℕ)). ps ++ payload_of entry ∷ []) (tied.payloads label own means)
            ∙ ap (λ (p : List ℕ). known label ++ p ∷ []) said
            ∙ sym (ap (set known label (known label ++ payload ∷ [])) name ∙ set_own known label (known label ++ payload ∷ []))
        | inr differ ↦
            let other : bytes_eq l label ≡ false = false_or_true (bytes_eq l label) (λ same.
            differ_bytes handle own differ (one_of handle own (sym e ∙ ap labels (same_bytes l label same) ∙ means))) in
            ap (map payload_of) (entry_other ledgers own handle entry differ)
            ∙ tied.payloads l handle e
            ∙ sym (set_other known label l (known label ++ payload ∷ []) other)
      ];
      unmade = λ l none.
          let other : bytes_eq l label ≡ false = false_or_true (bytes_eq l label) (λ same.
          let found : labels l ≡ Some own = ap labels (same_bytes l label same) ∙ means in
          absurd (cc (none, found))) in
          set_other known label l (known label ++ payload ∷ []) other ∙ tied.unmade l none;
    }

    -- it is the first one of a ledger of its own, which the label means then
    abbrev text : List ℕ
    text = genesis_bytes (nonce draws) payload

    no_label : is_new command ≡ true → label_of command ≡ Some label → labels label ≡ None
    no_label new own =
        none_there (labels label)
        (tied.made label ∙ false_or_true (is_made before label) (λ made.
        let never : makes_used_label (is_used before) command ≡ false = makes_no_used texts_of script before after command fits split in
        let does : makes_used_label (is_used before) command ≡ true = rw (new, own) (made_is_used before label made) in
        absurd (cc (never, does))))

    pub first_one : is_new command ≡ true → label_of command ≡ Some label → made_by command ≡ label ∷ [] → Contains (first_entry draws command) text
        → AreTied done (with_label labels label (sha256 text)) (draws + 1) (with_entry ledgers (sha256 text) entry) (set known label (payload ∷ []))
    first_one new own makes has =
        let none : labels label ≡ None = no_label new own in
        let here : IsFirst done (sha256 text) = (text, first_of_line before [] command draws text tied.drawn has, refl) in
        record {
          drawn = drawn_then (draws + 1) (omega (arith, once));
          nonces = nonces_then (draws + 1) (sha256 text) entry refl fresh;
          made = λ l.
              let now : is_made done l ≡ (is_made before l || list_any (bytes_eq l) (label ∷ [])) =
              is_made-push before command l ∙ ap (λ (made : List (List ℕ)). is_made before l || list_any (bytes_eq l) made) makes in
              elim (by_bytes l label) [
                | inl same ↦
                    ap is_some (with_same labels label (sha256 text) l same)
                    ∙ sym (now ∙ or_right (is_made before l) (bytes_eq l label || false) (rw (same, bytes_eq-self label) refl))
                | inr differ ↦
                    ap is_some (with_other labels label (sha256 text) l differ)
                    ∙ tied.made l
                    ∙ sym (now ∙ or_none (is_made before l) (bytes_eq l label || false) (rw differ refl))
              ];
          first = λ l handle e. elim (by_bytes l label) [
            | inl same ↦
                let is : sha256 text ≡ handle = one_of (sha256 text) handle (sym (with_same labels label (sha256 text) l same) ∙ e) in
                subst (IsFirst done) is here
            | inr differ ↦ still_first handle (tied.first l handle (sym (with_other labels label (sha256 text) l differ) ∙ e))
          ];
          apart = λ one other handle e f. elim (by_bytes one label) [
            | inl same ↦
                let is : sha256 text ≡ handle = one_of (sha256 text) handle (sym (with_same labels label (sha256 text) one same) ∙ e) in
                elim (by_bytes other label) [
                  | inl also ↦ same ∙ sym also
                  | inr differ ↦
                      absurd (new_handle payload has other (sym (with_other labels label (sha256 text) other differ) ∙ f ∙ ap (λ (h : List ℕ). Some h) (sym is)))
                ]
            | inr differ ↦
                let old : labels one ≡ Some handle = sym (with_other labels label (sha256 text) one differ) ∙ e in
                elim (by_bytes other label) [
                  | inl also ↦
                      let is : sha256 text ≡ handle = one_of (sha256 text) handle (sym (with_same labels label (sha256 text) other also) ∙ f) in
                      absurd (new_handle payload has one (old ∙ ap (λ (h : List ℕ). Some h) (sym is)))
                  | inr apart ↦ tied.apart one other handle old (sym (with_other labels label (sha256 text) other apart) ∙ f)
                ]
          ];
          stand = λ handle. elim (by_bytes handle (sha256 text)) [
            | inl same ↦ inr (label, with_own labels label (sha256 text) ∙ ap (λ (h : List ℕ). Some h) (sym same))
            | inr differ ↦ elim (tied.stand handle) [
              | inl empty ↦ inl (entry_other ledgers (sha256 text) handle entry differ ∙ empty)
              | inr of ↦
                  let other : bytes_eq of.0 label ≡ false = false_or_true (bytes_eq of.0 label) (λ same.
                  let not : labels of.0 ≡ None = ap labels (same_bytes of.0 label same) ∙ none in
                  absurd (cc (not, of.1))) in
                  inr (of.0, with_other labels label (sha256 text) of.0 other ∙ of.1)
            ]
          ];
          payloads = λ l handle e. elim (by_bytes l label) [
            | inl same ↦
                let is : sha256 text ≡ handle = one_of (sha256 text) handle (sym (with_same labels label (sha256 text) l same) ∙ e) in
                ap (λ (h : List ℕ). map payload_of (with_entry ledgers (sha256 text) entry h)) (sym is)
                ∙ ap (map payload_of) (entry_own ledgers (sha256 text) entry ∙ ap (λ (es : List Entry). es ++ entry ∷ []) (new_ledger payload has))
                ∙ ap (λ (p : List ℕ). p ∷ []) said
                ∙ sym (ap (set known label (payload ∷ [])) same ∙ set_own known label (payload ∷ []))
            | inr differ ↦
                let old : labels l ≡ Some handle = sym (with_other labels label (sha256 text) l differ) ∙ e in
                let other : bytes_eq handle (sha256 text) ≡ false = false_or_true (bytes_eq handle (sha256 text)) (λ same.
                new_handle payload has l (old ∙ ap (λ (h : List ℕ). Some h) (same_bytes handle (sha256 text) same))) in
                ap (map payload_of) (entry_other ledgers (sha256 text) handle entry other)
                ∙ tied.payloads l handle old
                ∙ sym (set_other known label l (payload ∷ []) differ)
          ];
          unmade = λ l e. elim (by_bytes l label) [
            | inl same ↦
                let found : with_label labels label (sha256 text) l ≡ Some (sha256 text) = with_same labels label (sha256 text) l same in
                absurd (cc (found, e))
            | inr differ ↦ set_other known label l (payload ∷ []) differ ∙ tied.unmade l (sym (with_other labels label (sha256 text) l differ) ∙ e)
          ];
        }
