-- What endorsers sign that were told to begin in no other view than this.
use Rattle.std.proofs.Common.{◌≡◌, inl, inr, ℕ, ◌^◌, ◌+◌, Bool, true, false, not, ◌&&◌, ◌==◌, nat_lt, List, [], ◌∷◌, ◌++◌, if◌then◌else◌, map, fold, bytes_eq, is_none, length, replicate, Option, Some, None, refl, sym, ap, subst, ◌∙◌}
use Rattle.std.specs.List.{AllByRecursion}
use Rattle.std.proofs.lemmas.Bool.{cases_Bool}
use Rattle.std.proofs.lemmas.Slice.Eq.{bytes_eq-Decides}
use Rattle.statement.specs.declared.member.Member.{Member}
use Rattle.statement.specs.Statement.{view_of}
use Rattle.statement.specs.Receipt.{Receipt}
use Rattle.sha2.specs.Sha256.{sha256}
use Rattle.chain_block.specs.Tail.{tail_after}
use Rattle.tail_map.specs.declared.tail_row.TailRow.{TailRow}
use Rattle.tail_map.specs.TailMap.{get, has_handle, set}
use Rattle.tail_map.specs.MapForm.{map_bytes}
use Rattle.statement.specs.declared.view_block.ViewBlock.{ViewBlock}
use Rattle.statement.specs.ConfigForm.{config_bytes}
use Rattle.statement.specs.ViewTail.{view_tail_after}
use Rattle.port.specs.declared.phase.Phase.TheVariants as phases
use Rattle.port.specs.declared.proof_cause.ProofCause.TheVariants as causes
use Rattle.port.specs.View.{ActivationProof}
use Rattle.port.specs.Answer.{Answer, BadProof, BadView, Behind, Denial, Done, Finaled, Full, NotGenesis, NotMember, OtherNext, OtherTail, Refused, Shown, Signed as IsSigned, Stands, Tall, WrongPhase, kept}
use Rattle.port.specs.Call.{Call, Initialize, Activate, Append, Latest, Finalize, Show}
use Rattle.port.specs.Link.{Served}
use Rattle.port.specs.Table.{Active, Answers, Cell, Finalized, Initialized, Signs, State, Uninitialized, View, activates, appends, cell, initializes, is_in, is_same, own_tail, outcome, refuses, signs_held}
use Rattle.endorser_cell.specs.BankLine.{calls_to, served_by}
use Rattle.endorser_cell.specs.CellBank.{AreServed, CellBank, calls_of}
use Rattle.endorser_cell.specs.Cells.{cell_of}
use Rattle.endorser_cell.specs.EndorserCell.{EndorserCell}
use Rattle.endorser_core.specs.Line.{IsLawfulFrom, Line, sig_of, state_after}
use Rattle.view_ledger.specs.Receipts.{Accepts}
use Rattle.script_world.specs.Served.{HasLawfulList}
use Rattle.script_world.specs.Signed.{Signed, all_signed, or_before, receipt_of, signed_by_answer, signed_in_cell, is_for}
use Rattle.script_runs.proofs.ServedStill.{BeginIn, ServedIn}
use Rattle.script_runs.proofs.Still.{BeginsIn, all_join}

-- where a test is passed this, and else that
pub pick : {X : Type 0} (P : X → Type 0) (b : Bool) (x y : X) → (b ≡ true → P x) → (b ≡ false → P y) → P (if b then x else y)
pick P true x y passed failed = passed refl
pick P false x y passed failed = failed refl

module _ (view : List ℕ) where
  -- an endorser that has begun began in this view
  abbrev pub IsIn : State → Type 0
  IsIn Uninitialized = Unit {0}
  IsIn (Initialized own) = Unit {0}
  IsIn (Active own) = own_tail own ≡ view
  IsIn (Finalized own ending) = Unit {0}

  -- a statement that is signed tells the view
  abbrev pub TellsIn : Answer → Type 0
  TellsIn Done = Unit {0}
  TellsIn (IsSigned statement sig) = view_of statement ≡ view
  TellsIn (Finaled statement sig map) = Unit {0}
  TellsIn (Shown phase number tail count) = Unit {0}
  TellsIn (Refused denial) = Unit {0}

  abbrev pub Holds : State × Answer → Type 0
  Holds both = IsIn both.0 × TellsIn both.1

  abbrev pub CellIn : Cell → Type 0
  CellIn (Answers state answer) = IsIn state × TellsIn answer
  CellIn (Signs statement state answer) = (sig : List ℕ) → IsIn (state sig) × TellsIn (answer sig)

  -- it refuses, or goes on so
  guard : (b : Bool) (state : State) (denial : Denial) (c : Cell) → IsIn state → CellIn c → CellIn (if b then refuses state denial else c)
  guard true state denial c at holds = (at, tt)
  guard false state denial c at holds = holds

  initializes_in : (me : Member) (block : ViewBlock) (config : List Member) (rows : List TailRow) → CellIn (initializes me block config rows)
  initializes_in me block config rows =
      let goes : Cell = Answers (Initialized (record { block = block; config = config; first = sha256 (map_bytes rows); map = rows })) Done in
      let third : Cell = if not (is_in me config) then refuses Uninitialized NotMember else goes in
      let second : Cell = if not (bytes_eq (sha256 (config_bytes config)) block.config) then refuses Uninitialized BadView else third in
      guard (not (block.number == 0)) Uninitialized BadView second tt
      (guard (not (bytes_eq (sha256 (config_bytes config)) block.config)) Uninitialized BadView third tt (guard (not (is_in me config)) Uninitialized NotMember goes tt (tt, tt)))

  same_view : (other : List ℕ) (own : View) → not (bytes_eq other (own_tail own)) ≡ false → other ≡ view → own_tail own ≡ view
  same_view other own is began =
      elim (cases_Bool (bytes_eq other (own_tail own))) [
        | inl same ↦ sym ((bytes_eq-Decides other (own_tail own)).0 same) ∙ began
        | inr differs ↦ absurd (cc (sym is ∙ ap not differs))
      ]

  activates_in : (own : View) (other : List ℕ) (proof : Option ActivationProof) → other ≡ view → CellIn (activates own other proof)
  activates_in own other proof began =
      let is_first : Bool = (own.block.number == 0) && is_none proof && bytes_eq own.block.prev (replicate 32 0) && (length own.map == 0) in
      let second : Cell = if not is_first then refuses (Initialized own) (BadProof causes.First) else Answers (Active own) Done in
      pick CellIn (not (bytes_eq other (own_tail own))) (refuses (Initialized own) BadView) second (λ is. (tt, tt))
      (λ is. guard (not is_first) (Initialized own) (BadProof causes.First) (Answers (Active own) Done) tt (same_view other own is began, tt))

  held_in : (own next : View) (handle tail : List ℕ) (count : ℕ) → own_tail own ≡ view → own_tail next ≡ view → CellIn (signs_held own next handle tail count)
  held_in own next handle tail count at then_at = λ sig. (then_at, at)

  appends_in : (own : View) (handle prev entry : List ℕ) (height : ℕ) (tail : List ℕ) (count : ℕ) → own_tail own ≡ view → CellIn (appends own handle prev entry height tail count)
  appends_in own handle prev entry height tail count at =
      let row : TailRow = record { handle = handle; tail = tail_after prev entry height; count = height + 1 } in
      let goes : Cell = signs_held own (record own { map = set own.map row }) handle row.tail row.count in
      let is_full : Bool = not (has_handle own.map handle) && (length own.map == 4096) in
      let sixth : Cell = if is_full then refuses (Active own) Full else goes in
      let fifth : Cell = if height == 2 ^ 32 then refuses (Active own) Tall else sixth in
      let is_other : Bool = (height == 0) && not (bytes_eq entry handle) in
      let fourth : Cell = if is_other then refuses (Active own) NotGenesis else fifth in
      let third : Cell = if not (bytes_eq tail prev) then refuses (Active own) (OtherTail tail) else fourth in
      let is_there : Bool = (count == height + 1) && bytes_eq tail (tail_after prev entry height) in
      let below : Cell = if is_there then signs_held own own handle tail count else refuses (Active own) (Stands count tail) in
      let second : Cell = if nat_lt height count then below else third in
      guard (nat_lt count height) (Active own) (Behind count) second at
      (pick CellIn (nat_lt height count) below third
      (λ is. pick CellIn is_there (signs_held own own handle tail count) (refuses (Active own) (Stands count tail)) (λ is. held_in own own handle tail count at at) (λ is. (at, tt)))
      (λ is. guard (not (bytes_eq tail prev)) (Active own) (OtherTail tail) fourth at
      (guard is_other (Active own) NotGenesis fifth at
      (guard (height == 2 ^ 32) (Active own) Tall sixth at
      (guard is_full (Active own) Full goes at (held_in own (record own { map = set own.map row }) handle row.tail row.count at at))))))

  cell_in : (me : Member) (state : State) (call : Call) → IsIn state → BeginsIn view call → CellIn (cell me state call)
  cell_in me Uninitialized (Initialize block config rows) at begins = initializes_in me block config rows
  cell_in me Uninitialized (Activate other proof) at begins = (tt, tt)
  cell_in me Uninitialized (Append handle prev entry height) at begins = (tt, tt)
  cell_in me Uninitialized (Latest handle nonce) at begins = (tt, tt)
  cell_in me Uninitialized (Finalize config number) at begins = (tt, tt)
  cell_in me Uninitialized (Show handle) at begins = (tt, tt)
  cell_in me (Initialized own) (Initialize block config rows) at begins =
      pick CellIn (is_same own block config rows) (Answers (Initialized own) Done) (refuses (Initialized own) (WrongPhase phases.Initialized)) (λ is. (tt, tt)) (λ is. (tt, tt))
  cell_in me (Initialized own) (Activate other proof) at begins = activates_in own other proof begins
  cell_in me (Initialized own) (Append handle prev entry height) at begins = (tt, tt)
  cell_in me (Initialized own) (Latest handle nonce) at begins = (tt, tt)
  cell_in me (Initialized own) (Finalize config number) at begins = (tt, tt)
  cell_in me (Initialized own) (Show handle) at begins = (tt, tt)
  cell_in me (Active own) (Initialize block config rows) at begins =
      pick CellIn (is_same own block config rows) (Answers (Active own) Done) (refuses (Active own) (WrongPhase phases.Active)) (λ is. (at, tt)) (λ is. (at, tt))
  cell_in me (Active own) (Activate other proof) at begins = pick CellIn (bytes_eq other (own_tail own)) (Answers (Active own) Done) (refuses (Active own) BadView) (λ is. (at, tt)) (λ is. (at, tt))
  cell_in me (Active own) (Append handle prev entry height) at begins = appends_in own handle prev entry height (get own.map handle).0 (get own.map handle).1 at
  cell_in me (Active own) (Latest handle nonce) at begins = λ sig. (at, at)
  cell_in me (Active own) (Finalize config number) at begins = (at, tt)
  cell_in me (Active own) (Show handle) at begins = (at, tt)
  cell_in me (Finalized own ending) (Initialize block config rows) at begins = (tt, tt)
  cell_in me (Finalized own ending) (Activate other proof) at begins = (tt, tt)
  cell_in me (Finalized own ending) (Append handle prev entry height) at begins = (tt, tt)
  cell_in me (Finalized own ending) (Latest handle nonce) at begins = (tt, tt)
  cell_in me (Finalized own ending) (Finalize config number) at begins =
      pick CellIn (bytes_eq (view_tail_after (own_tail own) config number) ending.next) (Answers (Finalized own ending) (Finaled ending.statement ending.sig own.map)) (refuses (Finalized own ending) (OtherNext ending.next))
      (λ is. (tt, tt)) (λ is. (tt, tt))
  cell_in me (Finalized own ending) (Show handle) at begins = (tt, tt)

  outcome_in : (before : State) (c : Cell) (sig : Option (List ℕ)) → IsIn before → CellIn c → Holds (outcome before c sig)
  outcome_in before (Answers state answer) sig at holds = holds
  outcome_in before (Signs statement state answer) None at holds = (at, tt)
  outcome_in before (Signs statement state answer) (Some sig) at holds = holds sig

  kept_in : (answer : Answer) → TellsIn answer → TellsIn (kept answer)
  kept_in Done tells = tt
  kept_in (IsSigned statement sig) tells = tells
  kept_in (Finaled statement sig map) tells = tt
  kept_in (Shown phase number tail count) tells = tt
  kept_in (Refused denial) tells = tt

  -- each of the lines does
  abbrev pub TellIn : List Line → Type 0
  TellIn lines = AllByRecursion (λ (line : Line). TellsIn line.answer) lines

  abbrev pub LinesBegin : List Line → Type 0
  LinesBegin lines = AllByRecursion (λ (line : Line). BeginsIn view line.call) lines

  lines_in : (accepts : List ℕ → List ℕ → List ℕ → Bool) (me : Member) (state : State) (lines : List Line) → IsLawfulFrom accepts me state lines → IsIn state → LinesBegin lines → TellIn lines
  lines_in accepts me state [] lawful at begin = tt
  lines_in accepts me state (first ∷ lines) lawful at begin =
      let went = outcome_in state (cell me state first.call) (sig_of first.answer) at (cell_in me state first.call at begin.0) in
      (subst TellsIn lawful.0.answer (kept_in _ went.1), lines_in accepts me (state_after me state first) lines lawful.1 went.0 begin.1)

  -- what was signed newest
  abbrev pub OfView : Option Signed → Type 0
  OfView None = Unit {0}
  OfView (Some signed) = view_of signed.statement ≡ view

  of_answer : (handle nonce : List ℕ) (id : ℕ) (answer : Answer) → TellsIn answer → OfView (signed_by_answer handle nonce id answer)
  of_answer handle nonce id Done tells = tt
  of_answer handle nonce id (IsSigned statement sig) tells = pick OfView (is_for handle nonce statement) (Some (record { id = id; statement = statement; sig = sig })) None (λ is. tells) (λ is. tt)
  of_answer handle nonce id (Finaled statement sig map) tells = tt
  of_answer handle nonce id (Shown phase number tail count) tells = tt
  of_answer handle nonce id (Refused denial) tells = tt

  of_newer : (before next : Option Signed) → OfView before → OfView next → OfView (or_before before next)
  of_newer before None was is = was
  of_newer before (Some signed) was is = is

  of_lines : (handle nonce : List ℕ) (id : ℕ) (lines : List Line) (before : Option Signed) → OfView before → TellIn lines
      → OfView (fold (λ (before : Option Signed) (line : Line). or_before before (signed_by_answer handle nonce id line.answer)) before lines)
  of_lines handle nonce id [] before was tell = was
  of_lines handle nonce id (line ∷ lines) before was tell =
      of_lines handle nonce id lines (or_before before (signed_by_answer handle nonce id line.answer)) (of_newer before _ was (of_answer handle nonce id line.answer tell.0)) tell.1

  calls_begin : (id : ℕ) (served : List Served) → BeginIn view served → AllByRecursion (λ (one : Call × Answer). BeginsIn view one.0) (calls_to id served)
  calls_begin id [] all = tt
  calls_begin id (one ∷ past) all =
      pick (λ (calls : List (Call × Answer)). AllByRecursion (λ (one : Call × Answer). BeginsIn view one.0) calls) (one.id == id) (calls_to id past ++ (one.call, one.answer) ∷ []) (calls_to id past)
      (λ is. all_join (λ (one : Call × Answer). BeginsIn view one.0) (calls_to id past) ((one.call, one.answer) ∷ []) (calls_begin id past all.1) (all.0, tt))
      (λ is. calls_begin id past all.1)

  lines_begin : (lines : List Line) → AllByRecursion (λ (one : Call × Answer). BeginsIn view one.0) (calls_of lines) → LinesBegin lines
  lines_begin [] all = tt
  lines_begin (line ∷ lines) all = (all.0, lines_begin lines all.1)

  module _ {S C : Type 0} (key : S → List ℕ) (accepts : C → Accepts) (bank : CellBank S C) (holds : ServedIn view bank) (served : AreServed bank) (handle nonce : List ℕ) where
    in_cell : (id : ℕ) → HasLawfulList key accepts bank id → (found : Option (EndorserCell S C)) → cell_of bank.cells id ≡ found → OfView (signed_in_cell handle nonce id found)
    in_cell id lawful None is = tt
    in_cell id lawful (Some cell) is =
        let same : calls_of cell.lines ≡ calls_to id (served_by [] bank.log) = served holds.fresh id cell is in
        let calls = subst (AllByRecursion (λ (one : Call × Answer). BeginsIn view one.0)) (sym same) (calls_begin id (served_by [] bank.log) holds.calls) in
        of_lines handle nonce id cell.lines None tt (lines_in _ _ Uninitialized cell.lines (lawful cell is) tt (lines_begin cell.lines calls))

    -- each of those that were signed tells the view
    abbrev AllOfView : List Signed → Type 0
    AllOfView signed = AllByRecursion (λ (one : Signed). view_of one.statement ≡ view) signed

    cons_of : (ids : List ℕ) (id : ℕ) (one : Option Signed) → signed_in_cell handle nonce id (cell_of bank.cells id) ≡ one → OfView one → AllOfView (all_signed handle nonce bank.cells ids)
        → AllOfView (all_signed handle nonce bank.cells (id ∷ ids))
    cons_of ids id None is of all = rw is all
    cons_of ids id (Some signed) is of all = rw is (of, all)

    all_of : (ids : List ℕ) → AllByRecursion (HasLawfulList key accepts bank) ids → AllOfView (all_signed handle nonce bank.cells ids)
    all_of [] lawful = tt
    all_of (id ∷ ids) lawful = cons_of ids id (signed_in_cell handle nonce id (cell_of bank.cells id)) refl (in_cell id lawful.0 (cell_of bank.cells id) refl) (all_of ids lawful.1)

    receipt_in : (signed : List Signed) (receipt : Receipt) → AllOfView signed → receipt_of signed ≡ Some receipt → view_of receipt.statement ≡ view
    receipt_in [] receipt all is = absurd (cc is)
    receipt_in (signed ∷ more) receipt all is = let same : signed.statement ≡ receipt.statement = cc is in ap view_of (sym same) ∙ all.0

    -- the receipt that is made of them does
    pub offered_in : (ids : List ℕ) (receipt : Receipt) → AllByRecursion (HasLawfulList key accepts bank) ids → receipt_of (all_signed handle nonce bank.cells ids) ≡ Some receipt → view_of receipt.statement ≡ view
    offered_in ids receipt lawful is = receipt_in (all_signed handle nonce bank.cells ids) receipt (all_of ids lawful) is
