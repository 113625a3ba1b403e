-- Whatever an operation attaches are receipts whose marks members answered to its own calls.
use Rattle.std.proofs.Common.{◌≡◌, ◌⊎◌, inl, inr, ℕ, ◌+◌, ◌^◌, ◌<◌, ◌≤◌, Bool, true, false, List, [], ◌∷◌, ◌++◌, length, eqb, if◌then◌else◌, Option, Some, None, refl, sym, ap, subst, ◌∙◌, arith}
use Rattle.std.specs.List.{AllByRecursion}
use Rattle.std.specs.Str.{bytes_eq}
use Rattle.std.proofs.lemmas.Bool.{cases_Bool, eqb-true}
use Rattle.std.proofs.lemmas.Slice.Eq.{bytes_eq-Decides}
use Rattle.sha2.proofs.Facts256.{length-sha256}
use Rattle.chain_block.specs.declared.entry.Entry.{Entry}
use Rattle.chain_block.specs.declared.entry.Entry.TheVariants as entries
use Rattle.chain_block.specs.declared.meta_block.MetaBlock.{MetaBlock}
use Rattle.chain_block.specs.Entry.{handle_of, height_of}
use Rattle.seal.specs.Signature.{IsSize}
use Rattle.statement.specs.declared.member.Member.{Member}
use Rattle.statement.specs.declared.statement.Statement.{Statement}
use Rattle.statement.specs.declared.statement.Statement.TheVariants.{Held, Latest, Final}
use Rattle.statement.specs.Config.{key_of as key_in}
use Rattle.statement.specs.Mark.{Content as Mark}
use Rattle.statement.specs.Receipt.{Receipt}
use Rattle.statement.specs.Statement.{statement_bytes, view_of}
use Rattle.port.specs.declared.key.Key.{Key}
use Rattle.port.specs.declared.key.Key.TheVariants as keys
use Rattle.port.specs.declared.store_answers.Put.TheVariants as puts
use Rattle.port.specs.Answer.{Signed}
use Rattle.port.specs.GoodRow.{IsGoodRow, IsRowAt}
use Rattle.port.specs.Heard.{Answered}
use Rattle.port.specs.Link.{Served}
use Rattle.port.specs.Row.{Content}
use Rattle.port.specs.RowForm.{IsStored}
use Rattle.port.specs.Store.{Attach, Get, PutNew, StoreAnswer}
use Rattle.port.specs.Trace.{AtLink, AtStore, Event, Had}
use Rattle.view_ledger.specs.Receipts.{Accepts, IsSigned}
use Rattle.view_ledger.specs.Views.{config_at, newest_below, newest_tail, number_of}
use Rattle.op_parts.specs.declared.attachment.Head.{Head}
use Rattle.op_parts.specs.Attachment.{IsHeld, IsReceiptFor}
use Rattle.op_parts.specs.RoundAsking.{append_to, claim}
use Rattle.op_parts.specs.RoundLaws.{IsMarkShown}
use Rattle.op_parts.specs.RoundOutcome.{held}
use Rattle.op_parts.specs.Walk.{block_tail}
use Rattle.settle.specs.Laws.{IsOwnAttach, IsOwnCall as IsSettleCall, IsOwnRow}
use Rattle.settle.specs.Settling.{Settling, asking}
use Rattle.op_entry.specs.Ask.{AppendEntry, Ask, NewLedger, ReadAt, ledger_of, place_of}
use Rattle.op_entry.specs.Laws.{IsOwnCall, OwnCalls}
use Rattle.op_entry.specs.OwnRow.{put_of, row_on}
use Rattle.op_entry.specs.OwnRow as own_row
use Rattle.op_entry.specs.Says.{IsRowKnown}
use Rattle.op_entry.specs.Standing.{settling_of}
use Rattle.script_runs.specs.SignedMarks.{AreSigned, WasSigned}
use Rattle.script_runs.proofs.AttachedReceipts.{AllAttach, Attaches, IsOfReceipt}
use Rattle.script_runs.proofs.KeptCalls.{all_lift, had_all, had_left, had_right}
use Rattle.script_runs.proofs.ReceiptForms.{IsPlain, IsShort}
use Rattle.script_runs.proofs.SignedCalls.{AllLinkHeard, was_heard}

-- signatures that a checker accepts have their size
abbrev pub Limits : Accepts → Type 0
Limits checks = (key bytes sig : List ℕ) → checks key bytes sig ≡ true → IsSize (length sig)

-- ids of four bytes
abbrev pub HaveIds : List Member → Type 0
HaveIds config = AllByRecursion (λ (member : Member). member.id < 2 ^ 32) config

-- An entry stands at a height of eight bytes, and the first one of a ledger has a handle of its length.
abbrev pub AskFits : Ask → Type 0
AskFits (NewLedger entry) = (length (handle_of entry) ≡ 32) × (height_of entry < 2 ^ 64)
AskFits (AppendEntry entry) = height_of entry < 2 ^ 64
AskFits (ReadAt handle height) = Unit {0}

-- ---- rows

handle_size : (entry : Entry) → IsStored entry → length (handle_of entry) ≡ 32
handle_size (entries.Genesis nonce payload) stored = length-sha256 _
handle_size (entries.Later handle height nonce payload) stored = stored.0.1

-- a ledger with a good row has a handle of its length
pub good_handle : (handle : List ℕ) (height : ℕ) (bytes : List ℕ) (row : Content) → IsGoodRow handle height bytes row → length handle ≡ 32
good_handle handle height bytes row good = subst (λ (h : List ℕ). length h ≡ 32) good.at.of_ledger (handle_size row.entry good.whole.entry)

pub good_height : (handle : List ℕ) (height : ℕ) (bytes : List ℕ) (row : Content) → IsGoodRow handle height bytes row → row.metablock.height < 2 ^ 64
good_height handle height bytes row good = good.whole.metablock.2

module _ (checks : Accepts) (ask : Ask) (configs : List (List Member)) (past : List Event) (fits : AskFits ask) where
  -- the row of a put is of a ledger whose handle has its length, at a height of eight bytes
  abbrev RowFits : Content → Type 0
  RowFits row = (length (handle_of row.entry) ≡ 32) × (height_of row.entry < 2 ^ 64)

  fits_as : (row : Content) (entry : Entry) (tail : List ℕ) → own_row.key_of row ≡ own_row.key_of (row_on tail entry) → length (handle_of entry) ≡ 32 → height_of entry < 2 ^ 64 → RowFits row
  fits_as row entry tail same size low =
      let h : handle_of row.entry ≡ handle_of entry = cc same in
      let n : height_of row.entry ≡ height_of entry = cc same in
      (subst (λ (x : List ℕ). length x ≡ 32) (sym h) size, subst (λ (x : ℕ). x < 2 ^ 64) (sym n) low)

  put_fits : (row : Content) → IsOwnCall checks ask configs past (put_of row puts.Done) → RowFits row
  put_fits row own = by ask fits own
    where
      by : (ask : Ask) → AskFits ask → IsOwnCall checks ask configs past (put_of row puts.Done) → RowFits row
      by ask fits (inl (number, got, inl is)) = absurd (cc is)
      by ask fits (inl (number, got, inr is)) = absurd (cc is)
      by (NewLedger entry) fits (inr (inl none)) = absurd none
      by (AppendEntry entry) fits (inr (inl (got, is))) = absurd (cc is)
      by (ReadAt handle height) fits (inr (inl none)) = absurd none
      by (NewLedger entry) fits (inr (inr (inl (tail, put, is, zeros)))) = fits_as row entry tail (cc is) fits.0 fits.1
      by (AppendEntry entry) fits (inr (inr (inl (tail, put, is, (stored, below, had, good, sum))))) = fits_as row entry tail (cc is) (good_handle _ _ stored.body below good) fits
      by (ReadAt handle height) fits (inr (inr (inl none))) = absurd none
      by ask fits (inr (inr (inr (inl (got, is))))) = absurd (cc is)
      by ask fits (inr (inr (inr (inr (other, calls, before, split, at, known, none))))) = absurd none

  -- a row that is settled is such
  known_fits : (own : OwnCalls checks ask configs past) (row : Content) (calls before : List Event) → past ≡ calls ++ before → IsRowAt (ledger_of ask) (place_of ask) row → IsRowKnown ask before row
      → (length (handle_of row.entry) ≡ 32) × (row.metablock.height < 2 ^ 64)
  known_fits own row calls before split at (inl had) =
      let fits = put_fits row (own (put_of row puts.Done) (subst (λ (p : List Event). Had p (put_of row puts.Done)) (sym split) (had_right calls before (put_of row puts.Done) had))) in
      (fits.0, subst (λ (n : ℕ). n < 2 ^ 64) (at.of_height ∙ sym at.block_height) fits.1)
  known_fits own row calls before split at (inr (stored, had, good)) = (handle_size row.entry good.whole.entry, good_height _ _ stored.body row good)

-- ---- receipts in the one view that is known

module _ (checks : Accepts) (config : List Member) (limits : Limits checks) (ids : HaveIds config) where
  abbrev pub View : List ℕ
  View = newest_tail (config ∷ [])

  view_is : (view : List ℕ) (number : ℕ) → number_of (config ∷ []) view ≡ Some number → (view ≡ View) × (number ≡ 0)
  unfolding newest_below
  view_is view number is = by (bytes_eq View view) refl is
    where
      by : (b : Bool) → bytes_eq View view ≡ b → (let o : Option ℕ = if b then Some 0 else None in o) ≡ Some number → (view ≡ View) × (number ≡ 0)
      by true same now = (sym ((bytes_eq-Decides View view).0 same), (let n : 0 ≡ number = cc now in sym n))
      by false other now = absurd (cc now)

  member_id : (members : List Member) (id : ℕ) (key : List ℕ) → HaveIds members → key_in members id ≡ Some key → id < 2 ^ 32
  member_id [] id key small is = absurd (cc is)
  member_id (member ∷ members) id key small is = by (cases_Bool (eqb member.id id)) (λ rest. member_id members id key small.1 rest)
    where
      by : (eqb member.id id ≡ true) ⊎ (eqb member.id id ≡ false) → (key_in members id ≡ Some key → id < 2 ^ 32) → id < 2 ^ 32
      by (inl same) later = subst (λ (n : ℕ). n < 2 ^ 32) (eqb-true member.id id same) small.0
      by (inr other) later = later (let rest : key_in members id ≡ Some key = rw other at is in rest)

  -- what is held is said so in the view
  pub says_held : (head : Head) (receipt : Receipt) → IsReceiptFor checks (config ∷ []) head receipt → receipt.statement ≡ Held View head.handle head.tail head.count
  says_held head receipt (is, (number, (known, accepted))) = by receipt.statement is (view_is (view_of receipt.statement) number known).0
    where
      by : (statement : Statement) → IsHeld head statement → view_of statement ≡ View → statement ≡ Held View head.handle head.tail head.count
      by (Held view handle tail count) (h, t, n) same =
          ap (λ (v : List ℕ). Held v handle tail count) same ∙ ap (λ (x : List ℕ). Held View x tail count) h
          ∙ ap (λ (x : List ℕ). Held View head.handle x count) t ∙ ap (λ (x : ℕ). Held View head.handle head.tail x) n
      by (Latest view handle tail count nonce) is same = absurd is
      by (Final view next map) is same = absurd is

  short : (bytes : List ℕ) (mark : Mark) → IsSigned checks config bytes mark.id mark.sig → IsShort mark
  short bytes mark (key, is, accepted) = (member_id config mark.id key ids is, (let size = limits key bytes mark.sig accepted in omega (arith, size.1)))

  -- it is plain
  pub plain_by : (head : Head) (receipt : Receipt) → IsReceiptFor checks (config ∷ []) head receipt → length head.handle ≡ 32 → length head.tail ≡ 32 → 1 ≤ head.count → head.count ≤ 2 ^ 64 → IsPlain View receipt
  plain_by head receipt is handle tail some few =
      let in_view = is.1 in
      let zero_is = (view_is (view_of receipt.statement) in_view.0 in_view.1.0).1 in
      let bytes = statement_bytes receipt.statement in
      let signed = subst (λ (n : ℕ). AllByRecursion (λ (mark : Mark). IsSigned checks (config_at (config ∷ []) n) bytes mark.id mark.sig) receipt.marks) zero_is in_view.1.1.signed in
      record {
        statement = record { handle = head.handle; tail = head.tail; count = head.count; is = says_held head receipt is; handle_size = handle; tail_size = tail; some = some; few = few };
        marks = all_lift (λ (mark : Mark). IsSigned checks config bytes mark.id mark.sig) IsShort (short bytes) receipt.marks signed;
      }

  -- the ledger's head after the row with this metablock
  abbrev pub head_after : List ℕ → MetaBlock → Head
  head_after handle block = record { handle = handle; tail = block_tail block; count = block.height + 1 }

  pub plain_after : (handle : List ℕ) (block : MetaBlock) (receipt : Receipt) → IsReceiptFor checks (config ∷ []) (head_after handle block) receipt → length handle ≡ 32 → block.height < 2 ^ 64 → IsPlain View receipt
  plain_after handle block receipt is size low = plain_by (head_after handle block) receipt is size (length-sha256 _) (omega arith) (omega (arith, low))

  -- ---- marks that calls showed

  module _ (served : List Served) (past : List Event) (heard : AllLinkHeard served past) where
    pub shown_signed : (settling : Settling) (block : MetaBlock) (receipt : Receipt) (calls before : List Event) → settling.configs ≡ config ∷ [] → past ≡ calls ++ before
        → IsReceiptFor checks (config ∷ []) (head_after settling.handle block) receipt → AllByRecursion (IsMarkShown checks (asking settling block) calls) receipt.marks → AreSigned served receipt
    shown_signed settling block receipt calls before same split is shown =
        all_lift (IsMarkShown checks (asking settling block) calls) (λ (mark : Mark). WasSigned served mark.id receipt.statement mark.sig) one receipt.marks shown
      where
        statement_is : held (claim (asking settling block)) ≡ receipt.statement
        statement_is = ap (λ (c : List (List Member)). Held (newest_tail c) settling.handle (block_tail block) (block.height + 1)) same ∙ sym (says_held (head_after settling.handle block) receipt is)

        one : (mark : Mark) → IsMarkShown checks (asking settling block) calls mark → WasSigned served mark.id receipt.statement mark.sig
        one mark (place, member, at, id, accepted, had) =
            let event = append_to (asking settling block) mark.id (Answered (Signed (held (claim (asking settling block))) mark.sig)) in
            let in_past = subst (λ (p : List Event). Had p event) (sym split) (had_left calls before event had) in
            subst (λ (s : Statement). WasSigned served mark.id s mark.sig) statement_is
            (was_heard served past mark.id _ (held (claim (asking settling block))) mark.sig heard in_past)

    -- an attach is a call of a settling
    is_settling : (key : Key) (bytes : List ℕ) (answer : StoreAnswer) (calls_past : List Event) (Q : Type 0) (ask : Ask) → IsOwnCall checks ask (config ∷ []) calls_past (AtStore (Attach key bytes) answer)
        → ((row : Content) (calls before : List Event) → calls_past ≡ calls ++ before → IsRowAt (ledger_of ask) (place_of ask) row → IsRowKnown ask before row
        → IsSettleCall checks (settling_of (config ∷ []) row) calls (AtStore (Attach key bytes) answer) → Q) → Q
    is_settling key bytes answer calls_past Q ask (inl (number, got, inl is)) next = absurd (cc is)
    is_settling key bytes answer calls_past Q ask (inl (number, got, inr is)) next = absurd (cc is)
    is_settling key bytes answer calls_past Q (NewLedger entry) (inr (inl none)) next = absurd none
    is_settling key bytes answer calls_past Q (AppendEntry entry) (inr (inl (got, is))) next = absurd (cc is)
    is_settling key bytes answer calls_past Q (ReadAt handle height) (inr (inl none)) next = absurd none
    is_settling key bytes answer calls_past Q (NewLedger entry) (inr (inr (inl (tail, put, is, below)))) next = absurd (cc is)
    is_settling key bytes answer calls_past Q (AppendEntry entry) (inr (inr (inl (tail, put, is, below)))) next = absurd (cc is)
    is_settling key bytes answer calls_past Q (ReadAt handle height) (inr (inr (inl none))) next = absurd none
    is_settling key bytes answer calls_past Q ask (inr (inr (inr (inl (got, is))))) next = absurd (cc is)
    is_settling key bytes answer calls_past Q ask (inr (inr (inr (inr (row, calls, before, split, at, known, settle))))) next = next row calls before split at known settle

    module _ (ask : Ask) (fits : AskFits ask) (own : OwnCalls checks ask (config ∷ []) past) where
      -- the metablock that is settled has a height of eight bytes
      block_fits : (row : Content) (calls : List Event) (block : MetaBlock) → row.metablock.height < 2 ^ 64 → IsOwnRow (settling_of (config ∷ []) row) calls block → block.height < 2 ^ 64
      block_fits row calls block low (inl same) = subst (λ (b : MetaBlock). b.height < 2 ^ 64) (sym same) low
      block_fits row calls block low (inr (stored, given, had, good, same)) = subst (λ (b : MetaBlock). b.height < 2 ^ 64) (sym same) (good_height _ _ stored.body given good)

      attach_signed : (handle : List ℕ) (height : ℕ) (bytes : List ℕ) (row : Content) (calls before : List Event) → past ≡ calls ++ before → IsRowAt (ledger_of ask) (place_of ask) row → IsRowKnown ask before row
          → IsOwnAttach checks (settling_of (config ∷ []) row) calls handle height bytes → IsOfReceipt View served bytes
      attach_signed handle height bytes row calls before split at known (block, receipt, own_block, h, n, is, receipt_is, shown) =
          let row_fits = known_fits checks ask (config ∷ []) past fits own row calls before split at known in
          inr (
            receipt,
            is,
            plain_after (handle_of row.entry) block receipt receipt_is row_fits.0 (block_fits row calls block row_fits.1 own_block),
            shown_signed (settling_of (config ∷ []) row) block receipt calls before refl split receipt_is shown,
          )

      attaches_one : (event : Event) → IsOwnCall checks ask (config ∷ []) past event → Attaches (IsOfReceipt View served) event
      attaches_one (AtStore (PutNew key body) answer) is = tt
      attaches_one (AtStore (Get key) answer) is = tt
      attaches_one (AtLink id call said) is = tt
      attaches_one (AtStore (Attach key bytes) answer) is = is_settling key bytes answer past (IsOfReceipt View served bytes) ask is (λ row calls before split at known settle. settled key row calls before split at known settle)
        where
          settled : (key : Key) (row : Content) (calls before : List Event) → past ≡ calls ++ before → IsRowAt (ledger_of ask) (place_of ask) row → IsRowKnown ask before row
              → IsSettleCall checks (settling_of (config ∷ []) row) calls (AtStore (Attach key bytes) answer) → IsOfReceipt View served bytes
          settled (keys.Row handle height) row calls before split at known own = attach_signed handle height bytes row calls before split at known own
          settled (keys.View number) row calls before split at known own = absurd own
          settled (keys.Finals number) row calls before split at known own = absurd own

      -- what the newest of its calls attach
      pub own_attach : (events before : List Event) → past ≡ events ++ before → AllAttach (IsOfReceipt View served) events
      own_attach events before split =
          had_all (Attaches (IsOfReceipt View served)) events
          (λ event had. attaches_one event (own event (subst (λ (p : List Event). Had p event) (sym split) (had_left events before event had))))
