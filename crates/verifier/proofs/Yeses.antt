-- What a yes says, and that it comes wherever that holds.
use Rattle.std.proofs.Common.{◌≡◌, ℕ, ◌+◌, List, [], ◌∷◌, length, replicate, Bool, true, ◌&&◌, eqb, Option, Some, None, Result, Ok, Err, inl, inr, refl, sym, ap, subst, ◌∙◌}
use Rattle.std.specs.Prelude.{is_some}
use Rattle.std.specs.List.{AllByRecursion}
use Rattle.std.specs.Option.{option_or}
use Rattle.std.specs.Str.{bytes_eq}
use Rattle.std.proofs.lemmas.Bool.{cases_Bool, eqb-true, eq-eqb, and_parts}
use Rattle.std.proofs.lemmas.Slice.Eq.{bytes_eq-Decides}
use Rattle.nim_base.specs.Text.{Content as Text}
use Rattle.chain_block.specs.declared.entry.Entry.{Entry}
use Rattle.chain_block.specs.declared.entry.Entry.TheVariants.{Genesis, Later}
use Rattle.chain_block.specs.Entry.{entry_digest, handle_of, height_of}
use Rattle.chain_block.specs.Links.{Links}
use Rattle.statement.specs.declared.member.Member.{Member}
use Rattle.statement.specs.declared.statement.Statement.{Statement}
use Rattle.statement.specs.declared.statement.Statement.TheVariants.{Held, Latest, Final}
use Rattle.statement.specs.Statement.{view_of}
use Rattle.statement.specs.Receipt.{Receipt}
use Rattle.port.specs.Row.{Content}
use Rattle.port.specs.Reply.{Standing, LatestReply}
use Rattle.view_ledger.specs.declared.receipt_fault.ReceiptFault.{ReceiptFault}
use Rattle.view_ledger.specs.Views.{number_of}
use Rattle.view_ledger.specs.Receipts.{Accepts, receipt_outcome}
use Rattle.view_ledger.specs.ReceiptLaws.{accepted as receipt_accepted, accepts_it as accepted_receipt}
use Rattle.verifier.specs.declared.reply_fault.ReplyFault.{ReplyFault}
use Rattle.verifier.specs.Outcomes.{first_failed, bad_receipt, is_known, is_text, is_entry, is_own, is_row_of, row_tail, standing_tests, standing_fault, is_newest, has_row, is_tail, latest_tests, unless, latest_by}
use Rattle.verifier.specs.Yes.{IsAcceptedInSome, IsRowAt, Stands, IsNewest, IsLatest}
use Rattle.verifier.proofs.Linked.{linked, linked-true}

or_none : (x y : Option ReplyFault) → option_or x y ≡ None → (x ≡ None) × (y ≡ None)
or_none None y e = (refl, e)
or_none (Some x) y e = absurd cc

abbrev Passes : Bool × ReplyFault → Type 0
Passes test = test.0 ≡ true

all_passed : (tests : List (Bool × ReplyFault)) → first_failed tests ≡ None → AllByRecursion Passes tests
all_passed [] e = tt
all_passed (test ∷ tests) e =
    elim (cases_Bool test.0) [
      | inl good ↦ let rest : first_failed tests ≡ None = rw good at e in (good, all_passed tests rest)
      | inr bad ↦ let never : Some test.1 ≡ None = rw bad at e in absurd cc
    ]

none_failed : (tests : List (Bool × ReplyFault)) → AllByRecursion Passes tests → first_failed tests ≡ None
none_failed [] all = refl
none_failed (test ∷ tests) all = rw all.0 (none_failed tests all.1)

both : (a b : Bool) → a ≡ true → b ≡ true → a && b ≡ true
both a b e f = rw (e, f) refl

same_bytes : (x y : List ℕ) → x ≡ y → bytes_eq x y ≡ true
same_bytes x y e = (bytes_eq-Decides x y).1 e

bytes_same : (x y : List ℕ) → bytes_eq x y ≡ true → x ≡ y
bytes_same x y e = (bytes_eq-Decides x y).0 e

-- receipts
receipt_ok : (accepts : Accepts) (configs : List (List Member)) (receipt : Receipt) → bad_receipt (receipt_outcome accepts configs receipt) ≡ None → IsAcceptedInSome accepts configs receipt
receipt_ok accepts configs receipt e = by_outcome (receipt_outcome accepts configs receipt) refl e
  where
    by_outcome : (outcome : Result ℕ ReceiptFault) → receipt_outcome accepts configs receipt ≡ outcome → bad_receipt outcome ≡ None → IsAcceptedInSome accepts configs receipt
    by_outcome (Ok number) is e = (number, receipt_accepted accepts configs receipt number is)
    by_outcome (Err cause) is e = absurd cc

ok_receipt : (accepts : Accepts) (configs : List (List Member)) (receipt : Receipt) → IsAcceptedInSome accepts configs receipt → bad_receipt (receipt_outcome accepts configs receipt) ≡ None
ok_receipt accepts configs receipt is = ap bad_receipt (accepted_receipt accepts configs receipt is.0 is.1)

known : (accepts : Accepts) (configs : List (List Member)) (receipt : Receipt) (view : List ℕ) → view_of receipt.statement ≡ view → IsAcceptedInSome accepts configs receipt → is_known configs view ≡ true
known accepts configs receipt view own is = ap (λ v. is_some (number_of configs v)) (sym own) ∙ ap (λ (found : Option ℕ). is_some found) is.1.0

-- rows
row_parts : (handle : List ℕ) (height : ℕ) (row : Content) → row.metablock.height ≡ height → is_row_of handle row ≡ true → IsRowAt handle height row
row_parts handle height row at e =
    let p = and_parts (bytes_eq (handle_of row.entry) handle) (eqb (height_of row.entry) row.metablock.height && bytes_eq (entry_digest row.entry) row.metablock.entry) e in
    let q = and_parts (eqb (height_of row.entry) row.metablock.height) (bytes_eq (entry_digest row.entry) row.metablock.entry) p.1 in
    record {
      entry_handle = bytes_same (handle_of row.entry) handle p.0;
      entry_height = eqb-true (height_of row.entry) row.metablock.height q.0 ∙ at;
      height_is = at;
      digest = bytes_same (entry_digest row.entry) row.metablock.entry q.1;
    }

parts_row : (handle : List ℕ) (height : ℕ) (row : Content) → IsRowAt handle height row → is_row_of handle row ≡ true
parts_row handle height row is =
    both (bytes_eq (handle_of row.entry) handle) (eqb (height_of row.entry) row.metablock.height && bytes_eq (entry_digest row.entry) row.metablock.entry) (same_bytes (handle_of row.entry) handle is.entry_handle)
    (both (eqb (height_of row.entry) row.metablock.height) (bytes_eq (entry_digest row.entry) row.metablock.entry) (eq-eqb (height_of row.entry) row.metablock.height (is.entry_height ∙ sym is.height_is)) (same_bytes (entry_digest row.entry) row.metablock.entry is.digest))

-- replies that stand
module _ (accepts : Accepts) (configs : List (List Member)) (asked : List ℕ) (height : ℕ) (own : Option Entry) (reply : Standing) where
  pub stands : (statement : Statement) → reply.receipt.statement ≡ statement → standing_fault accepts configs asked height own reply statement ≡ None → Stands accepts configs asked height reply × (is_own own reply.row ≡ true)
  stands (Latest view handle tail count nonce) is e = absurd cc
  stands (Final view next map) is e = absurd cc
  stands (Held view handle tail count) is e =
      let row = reply.row in
      let a = or_none (first_failed (standing_tests configs asked height own reply.row reply.chain view handle tail count)) (bad_receipt (receipt_outcome accepts configs reply.receipt)) e in
      let k = all_passed (standing_tests configs asked height own reply.row reply.chain view handle tail count) a.0 in
      let heights = and_parts (eqb row.metablock.height height) (eqb count (row.metablock.height + 1 + length reply.chain)) k.1.1.0 in
      let entries = and_parts (is_own own row) (is_row_of asked row) k.1.1.1.0 in
      let at = eqb-true row.metablock.height height heights.0 in
      let counted = eqb-true count (row.metablock.height + 1 + length reply.chain) heights.1 ∙ ap (λ h. h + 1 + length reply.chain) at in (
        record {
          view = view;
          tail = tail;
          says = is ∙ ap (λ (h : List ℕ). Held view h tail count) (bytes_same handle asked k.1.0) ∙ ap (λ (n : ℕ). Held view asked tail n) counted;
          accepted = receipt_ok accepts configs reply.receipt a.1;
          row = row_parts asked height row at entries.1;
          leads = (at, refl, subst (λ (h : ℕ). Links reply.chain (row_tail row) (h + 1) tail) at (linked reply.chain (row_tail row) (row.metablock.height + 1) tail k.1.1.1.1.0));
        },
        entries.0,
      )

  pub fits : Stands accepts configs asked height reply → is_own own reply.row ≡ true → standing_fault accepts configs asked height own reply reply.receipt.statement ≡ None
  fits s owns =
      let row = reply.row in
      let count = height + 1 + length reply.chain in
      let at = s.row.height_is in
      let tests : first_failed (standing_tests configs asked height own reply.row reply.chain s.view asked s.tail count) ≡ None =
      none_failed (standing_tests configs asked height own reply.row reply.chain s.view asked s.tail count) (
        known accepts configs reply.receipt s.view (ap view_of s.says) s.accepted,
        (
          same_bytes asked asked refl,
          (
            both (eqb row.metablock.height height) (eqb count (row.metablock.height + 1 + length reply.chain)) (eq-eqb row.metablock.height height at) (eq-eqb count (row.metablock.height + 1 + length reply.chain) (ap (λ h. h + 1 + length reply.chain) (sym at))),
            (both (is_own own row) (is_row_of asked row) owns (parts_row asked height row s.row), (linked-true reply.chain (row_tail row) (row.metablock.height + 1) s.tail (subst (λ (h : ℕ). Links reply.chain (row_tail row) (h + 1) s.tail) (sym at) s.leads.2), tt)),
          ),
        ),
      ) in
      ap (standing_fault accepts configs asked height own reply) s.says ∙ ap (λ (o : Option ReplyFault). option_or o (bad_receipt (receipt_outcome accepts configs reply.receipt))) tests ∙ ok_receipt accepts configs reply.receipt s.accepted

-- equal entries
text_same : (a b : Text) → is_text a b ≡ true → a ≡ b
text_same a b e =
    let p = and_parts (bytes_eq a.bytes b.bytes) (eqb a.room b.room) e in
    ap (λ (x : List ℕ). record { bytes = x; room = a.room }) (bytes_same a.bytes b.bytes p.0) ∙ ap (λ (x : ℕ). record { bytes = b.bytes; room = x }) (eqb-true a.room b.room p.1)

pub entry_same : (a b : Entry) → is_entry a b ≡ true → a ≡ b
entry_same (Genesis nonce payload) (Genesis nonce' payload') e =
    let p = and_parts (bytes_eq nonce nonce') (is_text payload payload') e in
    ap (λ (x : List ℕ). Genesis x payload) (bytes_same nonce nonce' p.0) ∙ ap (λ (x : Text). Genesis nonce' x) (text_same payload payload' p.1)
entry_same (Later h k n p) (Later h' k' n' p') e =
    let a = and_parts (bytes_eq h h') (eqb k k' && (bytes_eq n n' && is_text p p')) e in
    let b = and_parts (eqb k k') (bytes_eq n n' && is_text p p') a.1 in
    let d = and_parts (bytes_eq n n') (is_text p p') b.1 in
    ap (λ (x : List ℕ). Later x k n p) (bytes_same h h' a.0)
    ∙ ap (λ (x : ℕ). Later h' x n p) (eqb-true k k' b.0)
    ∙ ap (λ (x : List ℕ). Later h' k' x p) (bytes_same n n' d.0)
    ∙ ap (λ (x : Text). Later h' k' n' x) (text_same p p' d.1)
entry_same (Genesis nonce payload) (Later h' k' n' p') e = absurd cc
entry_same (Later h k n p) (Genesis nonce' payload') e = absurd cc

text_itself : (a : Text) → is_text a a ≡ true
text_itself a = both (bytes_eq a.bytes a.bytes) (eqb a.room a.room) (same_bytes a.bytes a.bytes refl) (eq-eqb a.room a.room refl)

itself : (a : Entry) → is_entry a a ≡ true
itself (Genesis n p) = both (bytes_eq n n) (is_text p p) (same_bytes n n refl) (text_itself p)
itself (Later h k n p) =
    both (bytes_eq h h) (eqb k k && (bytes_eq n n && is_text p p)) (same_bytes h h refl)
    (both (eqb k k) (bytes_eq n n && is_text p p) (eq-eqb k k refl)
    (both (bytes_eq n n) (is_text p p) (same_bytes n n refl) (text_itself p)))

pub same_entry : (a b : Entry) → a ≡ b → is_entry a b ≡ true
same_entry a b e = subst (λ (x : Entry). is_entry a x ≡ true) e (itself a)

-- latest reads
none_unless : (fault : Option ReplyFault) (value count : ℕ) → unless fault value ≡ Ok count → (fault ≡ None) × (value ≡ count)
none_unless None value count e = (refl, cc)
none_unless (Some fault) value count e = absurd cc

newest : (asked tail : List ℕ) (count : ℕ) (row : Option Content) → is_newest count row ≡ true → has_row asked count row ≡ true → is_tail tail row ≡ true → IsNewest asked tail count row
newest asked tail count None a b d = (eqb-true count 0 b, sym (bytes_same (replicate 32 0) tail d))
newest asked tail count (Some row) a b d =
    (row.metablock.height, eqb-true count (row.metablock.height + 1) a, row_parts asked row.metablock.height row refl b, (refl, refl, bytes_same (row_tail row) tail d))

module _ (accepts : Accepts) (configs : List (List Member)) (asked asked_nonce : List ℕ) (reply : LatestReply) where
  pub is_latest : (total : ℕ) (statement : Statement) → reply.receipt.statement ≡ statement → latest_by accepts configs asked asked_nonce reply statement ≡ Ok total → IsLatest accepts configs asked asked_nonce total reply
  is_latest total (Held view handle tail count) is e = absurd cc
  is_latest total (Final view next map) is e = absurd cc
  is_latest total (Latest view handle tail count nonce) is e =
      let u = none_unless (option_or (first_failed (latest_tests configs asked asked_nonce reply.row view handle tail count nonce)) (bad_receipt (receipt_outcome accepts configs reply.receipt))) count total e in
      let a = or_none (first_failed (latest_tests configs asked asked_nonce reply.row view handle tail count nonce)) (bad_receipt (receipt_outcome accepts configs reply.receipt)) u.0 in
      let k = all_passed (latest_tests configs asked asked_nonce reply.row view handle tail count nonce) a.0 in
      record {
        view = view;
        tail = tail;
        says = is
            ∙ ap (λ (h : List ℕ). Latest view h tail count nonce) (bytes_same handle asked k.1.0)
            ∙ ap (λ (n : List ℕ). Latest view asked tail count n) (bytes_same nonce asked_nonce k.1.1.1.0)
            ∙ ap (λ (n : ℕ). Latest view asked tail n asked_nonce) u.1;
        accepted = receipt_ok accepts configs reply.receipt a.1;
        newest = subst (λ (n : ℕ). IsNewest asked tail n reply.row) u.1 (newest asked tail count reply.row k.1.1.0 k.1.1.1.1.0 k.1.1.1.1.1.0);
      }

  newest_tests : (tail : List ℕ) (count : ℕ) (row : Option Content) → IsNewest asked tail count row → (is_newest count row ≡ true) × (has_row asked count row ≡ true) × (is_tail tail row ≡ true)
  newest_tests tail count None is = (refl, eq-eqb count 0 is.0, same_bytes (replicate 32 0) tail (sym is.1))
  newest_tests tail count (Some row) is = (
    eq-eqb count (row.metablock.height + 1) (is.1 ∙ ap (λ h. h + 1) (sym is.2.height_is)),
    parts_row asked is.0 row is.2,
    same_bytes (row_tail row) tail is.3.2,
  )

  pub fits_latest : (count : ℕ) → IsLatest accepts configs asked asked_nonce count reply → latest_by accepts configs asked asked_nonce reply reply.receipt.statement ≡ Ok count
  fits_latest count s =
      let n = newest_tests s.tail count reply.row s.newest in
      let tests : first_failed (latest_tests configs asked asked_nonce reply.row s.view asked s.tail count asked_nonce) ≡ None =
      none_failed (latest_tests configs asked asked_nonce reply.row s.view asked s.tail count asked_nonce) (
        known accepts configs reply.receipt s.view (ap view_of s.says) s.accepted,
        (same_bytes asked asked refl, (n.0, (same_bytes asked_nonce asked_nonce refl, (n.1, (n.2, tt))))),
      ) in
      ap (latest_by accepts configs asked asked_nonce reply) s.says
      ∙ ap (λ (o : Option ReplyFault). unless (option_or o (bad_receipt (receipt_outcome accepts configs reply.receipt))) count) tests
      ∙ ap (λ (o : Option ReplyFault). unless o count) (ok_receipt accepts configs reply.receipt s.accepted)

pub some_none : {X : Type 0} (fault : ReplyFault) → Some fault ≡ None → X
some_none fault e = absurd cc
