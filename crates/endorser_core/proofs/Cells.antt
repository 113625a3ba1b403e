-- What each cell of the table keeps.
use Rattle.std.proofs.Common.{◌≡◌, ◌≢◌, ℕ, ◌+◌, ◌<◌, ◌≤◌, Bool, true, false, List, [], ◌∷◌, length, Option, Some, None, refl, sym, ap, subst, ◌∙◌, arith}
use Rattle.std.specs.Prelude.{if◌then◌else◌, bytes_eq, not, nat_lt, ◌==◌, ◌&&◌, ◌^◌, is_none, replicate}
use Rattle.sha2.specs.Sha256.{sha256}
use Rattle.statement.specs.ConfigForm.{config_bytes}
use Rattle.statement.specs.ViewTail.{view_tail_after}
use Rattle.chain_block.specs.Tail.{tail_after}
use Rattle.std.proofs.lemmas.Slice.Eq.{bytes_eq-Decides}
use Rattle.std.proofs.lemmas.Bool.{ltb-true, ltb-false}
use Rattle.tail_map.specs.declared.tail_row.TailRow.{TailRow}
use Rattle.tail_map.specs.TailMap.{get, set, has_handle}
use Rattle.statement.specs.declared.member.Member.{Member}
use Rattle.statement.specs.declared.view_block.ViewBlock.{ViewBlock}
use Rattle.statement.specs.declared.statement.Statement.{Statement}
use Rattle.statement.specs.declared.statement.Statement.TheVariants.{Held, Final}
use Rattle.statement.specs.declared.statement.Statement.TheVariants as statements
use Rattle.port.specs.declared.phase.Phase.{Phase}
use Rattle.port.specs.declared.phase.Phase.TheVariants as phases
use Rattle.port.specs.declared.proof_cause.ProofCause.TheVariants as causes
use Rattle.port.specs.View.{ActivationProof}
use Rattle.port.specs.Call.{Call, Initialize, Activate, Append, Latest, Finalize, Show}
use Rattle.port.specs.Answer.{Denial, BadView, NotMember, BadProof, Behind, Stands, OtherTail, NotGenesis, Tall, Full, WrongPhase, HasEnded, OtherNext, LogFull, Answer, Done, Signed, Finaled, Shown, Refused}
use Rattle.port.specs.Table.{refuses, is_in, has_ended, signs_held, is_same, own_tail, View, Ending, State, Uninitialized, Initialized, Active, Finalized, Cell, Answers, Signs, initializes, activates, appends, held, ends_again, cell}
use Rattle.endorser_core.specs.Shown.{row_of, kept_size, sig_size}
use Rattle.endorser_core.specs.Laws.{rank, count_of}

by_test : {G : Type 0} (b : Bool) → (b ≡ true → G) → (b ≡ false → G) → G
by_test true t f = t refl
by_test false t f = f refl

-- ---- what a step keeps

pub record Keeps (before after : State) : Type 0 where
  pub rank : rank before ≤ rank after
  pub never : (handle : List ℕ) → count_of before handle ≤ count_of after handle
  pub same : (handle : List ℕ) → count_of after handle ≡ count_of before handle → 0 < count_of before handle → row_of after handle ≡ row_of before handle

abbrev pub OneMore : State → State → Type 0
OneMore Uninitialized after = Unit {0}
OneMore (Initialized own) after = Unit {0}
OneMore (Active own) after = (handle : List ℕ) → count_of after handle ≤ count_of (Active own) handle + 1
OneMore (Finalized own ending) after = Unit {0}

-- what was signed as held or with a nonce is held
abbrev pub IsHeldAt : Statement → State → Type 0
IsHeldAt (Held view handle tail count) after = (row_of after handle ≡ (tail, count)) × (0 < count)
IsHeldAt (statements.Latest view handle tail count nonce) after = row_of after handle ≡ (tail, count)
IsHeldAt (Final view next map) after = Unit {0}

abbrev pub IsUnsigned : Answer → Type 0
IsUnsigned Done = Unit {0}
IsUnsigned (Signed statement sig) = ⊥
IsUnsigned (Finaled statement sig map) = Unit {0}
IsUnsigned (Shown phase number tail count) = Unit {0}
IsUnsigned (Refused denial) = Unit {0}

pub record Quiet (before after : State) (answer : Answer) : Type 0 where
  pub keeps : Keeps before after
  pub one : OneMore before after
  pub size : sig_size answer ≤ kept_size before
  pub unsigned : IsUnsigned answer
  pub not_full : answer ≢ Refused LogFull

pub record Signing (before : State) (statement : Statement) (sig : List ℕ) (after : State) (answer : Answer) : Type 0 where
  pub keeps : Keeps before after
  pub one : OneMore before after
  pub signed : answer ≡ Signed statement sig
  pub held : IsHeldAt statement after

abbrev pub Good : State → Cell → Type 0
Good before (Answers state answer) = Quiet before state answer
Good before (Signs statement state answer) = (sig : List ℕ) → Signing before statement sig (state sig) (answer sig)

-- a cell that goes by a test is good where both of its sides are
choose : (before : State) (b : Bool) (x y : Cell) → (b ≡ true → Good before x) → (b ≡ false → Good before y) → Good before (if b then x else y)
choose before true x y t f = t refl
choose before false x y t f = f refl

-- ---- nothing changes

pub stays : (state : State) → Keeps state state
stays state = record { rank = omega arith; never = λ handle. omega arith; same = λ handle e p. refl }

pub one_stays : (state : State) → OneMore state state
one_stays Uninitialized = tt
one_stays (Initialized own) = tt
one_stays (Active own) = λ handle. omega arith
one_stays (Finalized own ending) = tt

quiet : (state : State) (answer : Answer) → sig_size answer ≤ kept_size state → IsUnsigned answer → answer ≢ Refused LogFull → Quiet state state answer
quiet state answer size unsigned not_full = record { keeps = stays state; one = one_stays state; size = size; unsigned = unsigned; not_full = not_full }

-- a refusal without a signature
refused : (state : State) (denial : Denial) → sig_size (Refused denial) ≡ 0 → Refused denial ≢ Refused LogFull → Good state (refuses state denial)
refused state denial size not_full = quiet state (Refused denial) (omega arith) tt not_full

-- ---- a row is set

abbrev pub SetLaw : Type 0
SetLaw =
    ((rows : List TailRow) (row : TailRow) → get (set rows row) row.handle ≡ (row.tail, row.count))
    × ((rows : List TailRow) (row : TailRow) (handle : List ℕ) → handle ≢ row.handle → get (set rows row) handle ≡ get rows handle)

record Rows (rows : List TailRow) (row : TailRow) (handle : List ℕ) : Type 0 where
  never : (get rows handle).1 ≤ (get (set rows row) handle).1
  one : (get (set rows row) handle).1 ≤ (get rows handle).1 + 1
  same : (get (set rows row) handle).1 ≡ (get rows handle).1 → get (set rows row) handle ≡ get rows handle

set_row : SetLaw → (rows : List TailRow) (row : TailRow) (handle : List ℕ) → (get rows row.handle).1 + 1 ≡ row.count → Rows rows row handle
set_row law rows row handle next = by_test (bytes_eq handle row.handle)
    (λ e.
    let is : handle ≡ row.handle = (bytes_eq-Decides handle row.handle).0 e in
    let own : get (set rows row) handle ≡ (row.tail, row.count) = ap (get (set rows row)) is ∙ law.0 rows row in
    let count : (get (set rows row) handle).1 ≡ row.count = ap (λ (r : List ℕ × ℕ). r.1) own in
    let old : (get rows handle).1 + 1 ≡ row.count = ap (λ h. (get rows h).1 + 1) is ∙ next in
    record { never = omega arith; one = omega arith; same = λ wrong. absurd (omega arith) })
    (λ e.
    let other : get (set rows row) handle ≡ get rows handle = law.1 rows row handle (λ is. absurd (let t : bytes_eq handle row.handle ≡ true = (bytes_eq-Decides handle row.handle).1 is in cc)) in
    let count : (get (set rows row) handle).1 ≡ (get rows handle).1 = ap (λ (r : List ℕ × ℕ). r.1) other in
    record { never = omega arith; one = omega arith; same = λ _. other })

appended : SetLaw → (own : View) (row : TailRow) → (get own.map row.handle).1 + 1 ≡ row.count → (sig : List ℕ)
    → Signing (Active own) (held (record own { map = set own.map row }) row.handle row.tail row.count) sig (Active (record own { map = set own.map row })) (Signed (held (record own { map = set own.map row }) row.handle row.tail row.count) sig)
appended law own row next sig = record {
  keeps = record {
    rank = omega arith;
    never = λ handle. (set_row law own.map row handle next).never;
    same = λ handle e p. (set_row law own.map row handle next).same e;
  };
  one = λ handle. (set_row law own.map row handle next).one;
  signed = refl;
  held = (law.0 own.map row, omega arith);
}

-- ---- each rule

begun : (view : View) → Quiet Uninitialized (Initialized view) Done
begun view = record {
  keeps = record { rank = omega arith; never = λ handle. omega arith; same = λ handle e p. absurd (omega arith) };
  one = tt;
  size = omega arith;
  unsigned = tt;
  not_full = λ e. absurd cc;
}

good_initializes : (me : Member) (block : ViewBlock) (config : List Member) (map : List TailRow) → Good Uninitialized (initializes me block config map)
good_initializes me block config map =
    choose Uninitialized (not (block.number == 0)) (refuses Uninitialized BadView) _ (λ _. refused Uninitialized BadView refl (λ e. absurd cc)) (λ _.
    choose Uninitialized (not (bytes_eq (sha256 (config_bytes config)) block.config)) (refuses Uninitialized BadView) _ (λ _. refused Uninitialized BadView refl (λ e. absurd cc)) (λ _.
    choose Uninitialized (not (is_in me config)) (refuses Uninitialized NotMember) _ (λ _. refused Uninitialized NotMember refl (λ e. absurd cc)) (λ _. begun _)))

activated : (own : View) → Quiet (Initialized own) (Active own) Done
activated own = record {
  keeps = record { rank = omega arith; never = λ handle. omega arith; same = λ handle e p. refl };
  one = tt;
  size = omega arith;
  unsigned = tt;
  not_full = λ e. absurd cc;
}

good_activates : (own : View) (view : List ℕ) (proof : Option ActivationProof) → Good (Initialized own) (activates own view proof)
good_activates own view proof =
    choose (Initialized own) (not (bytes_eq view (own_tail own))) (refuses (Initialized own) BadView) _ (λ _. refused (Initialized own) BadView refl (λ e. absurd cc)) (λ _.
    choose (Initialized own) (not ((own.block.number == 0) && is_none proof && bytes_eq own.block.prev (replicate 32 0) && (length own.map == 0))) (refuses (Initialized own) (BadProof causes.First)) _
    (λ _. refused (Initialized own) (BadProof causes.First) refl (λ e. absurd cc))
    (λ _. activated own))

-- the row that stands is signed again
signed_again : (own : View) (handle tail : List ℕ) (count : ℕ) → get own.map handle ≡ (tail, count) → 0 < count → (sig : List ℕ)
    → Signing (Active own) (held own handle tail count) sig (Active own) (Signed (held own handle tail count) sig)
signed_again own handle tail count row some sig = record { keeps = stays (Active own); one = one_stays (Active own); signed = refl; held = (row, some) }

good_appends : SetLaw → (own : View) (handle prev entry : List ℕ) (height : ℕ) (tail : List ℕ) (count : ℕ) → get own.map handle ≡ (tail, count)
    → Good (Active own) (appends own handle prev entry height tail count)
good_appends law own handle prev entry height tail count row =
    choose (Active own) (nat_lt count height) (refuses (Active own) (Behind count)) _ (λ _. refused (Active own) (Behind count) refl (λ e. absurd cc)) (λ not_behind.
    choose (Active own) (nat_lt height count) (if (count == height + 1) && bytes_eq tail (tail_after prev entry height) then signs_held own own handle tail count else refuses (Active own) (Stands count tail)) _
    (λ over.
    choose (Active own) ((count == height + 1) && bytes_eq tail (tail_after prev entry height)) (signs_held own own handle tail count) (refuses (Active own) (Stands count tail))
    (λ _. signed_again own handle tail count row (let lt : height < count = ltb-true height count over in omega arith))
    (λ _. refused (Active own) (Stands count tail) refl (λ e. absurd cc)))
    (λ not_over.
    choose (Active own) (not (bytes_eq tail prev)) (refuses (Active own) (OtherTail tail)) _ (λ _. refused (Active own) (OtherTail tail) refl (λ e. absurd cc)) (λ _.
    choose (Active own) ((height == 0) && not (bytes_eq entry handle)) (refuses (Active own) NotGenesis) _ (λ _. refused (Active own) NotGenesis refl (λ e. absurd cc)) (λ _.
    choose (Active own) (height == 2 ^ 32) (refuses (Active own) Tall) _ (λ _. refused (Active own) Tall refl (λ e. absurd cc)) (λ _.
    choose (Active own) (not (has_handle own.map handle) && (length own.map == 4096)) (refuses (Active own) Full) _ (λ _. refused (Active own) Full refl (λ e. absurd cc)) (λ _.
    let at_least : height ≤ count = ltb-false count height not_behind in
    let at_most : count ≤ height = ltb-false height count not_over in
    let is : (get own.map handle).1 ≡ count = ap (λ (r : List ℕ × ℕ). r.1) row in
    let next : (get own.map handle).1 + 1 ≡ height + 1 = omega arith in
    appended law own (record { handle = handle; tail = tail_after prev entry height; count = height + 1 }) next))))))

-- ---- the table

in_phase : (state : State) (phase : Phase) → Good state (refuses state (WrongPhase phase))
in_phase state phase = refused state (WrongPhase phase) refl (λ e. absurd cc)

ended : (own : View) (ending : Ending) → Good (Finalized own ending) (has_ended own ending)
ended own ending = quiet (Finalized own ending) (Refused (HasEnded ending.statement ending.sig)) (omega arith) tt (λ e. absurd cc)

done : (state : State) → Quiet state state Done
done state = quiet state Done (omega arith) tt (λ e. absurd cc)

shown : (state : State) (phase : Phase) (number : ℕ) (tail : List ℕ) (count : ℕ) → Quiet state state (Shown phase number tail count)
shown state phase number tail count = quiet state (Shown phase number tail count) (omega arith) tt (λ e. absurd cc)

pub good : SetLaw → (me : Member) (state : State) (call : Call) → Good state (cell me state call)
good law me Uninitialized (Initialize block config map) = good_initializes me block config map
good law me Uninitialized (Activate view proof) = in_phase Uninitialized phases.Uninitialized
good law me Uninitialized (Append handle prev entry height) = in_phase Uninitialized phases.Uninitialized
good law me Uninitialized (Latest handle nonce) = in_phase Uninitialized phases.Uninitialized
good law me Uninitialized (Finalize config number) = in_phase Uninitialized phases.Uninitialized
good law me Uninitialized (Show handle) = shown Uninitialized _ _ _ _
good law me (Initialized own) (Initialize block config map) = choose (Initialized own) (is_same own block config map) (Answers (Initialized own) Done) _ (λ _. done (Initialized own)) (λ _. in_phase (Initialized own) phases.Initialized)
good law me (Initialized own) (Activate view proof) = good_activates own view proof
good law me (Initialized own) (Append handle prev entry height) = in_phase (Initialized own) phases.Initialized
good law me (Initialized own) (Latest handle nonce) = in_phase (Initialized own) phases.Initialized
good law me (Initialized own) (Finalize config number) = in_phase (Initialized own) phases.Initialized
good law me (Initialized own) (Show handle) = shown (Initialized own) _ _ _ _
good law me (Active own) (Initialize block config map) = choose (Active own) (is_same own block config map) (Answers (Active own) Done) _ (λ _. done (Active own)) (λ _. in_phase (Active own) phases.Active)
good law me (Active own) (Activate view proof) = choose (Active own) (bytes_eq view (own_tail own)) (Answers (Active own) Done) _ (λ _. done (Active own)) (λ _. refused (Active own) BadView refl (λ e. absurd cc))
good law me (Active own) (Append handle prev entry height) = good_appends law own handle prev entry height _ _ refl
good law me (Active own) (Latest handle nonce) = λ sig. record { keeps = stays (Active own); one = one_stays (Active own); signed = refl; held = refl }
good law me (Active own) (Finalize config number) = refused (Active own) BadView refl (λ e. absurd cc)
good law me (Active own) (Show handle) = shown (Active own) _ _ _ _
good law me (Finalized own ending) (Initialize block config map) = ended own ending
good law me (Finalized own ending) (Activate view proof) = ended own ending
good law me (Finalized own ending) (Append handle prev entry height) = ended own ending
good law me (Finalized own ending) (Latest handle nonce) = ended own ending
good law me (Finalized own ending) (Finalize config number) =
    choose (Finalized own ending) (bytes_eq (view_tail_after (own_tail own) config number) ending.next) (Answers (Finalized own ending) (Finaled ending.statement ending.sig own.map)) _
    (λ _. quiet (Finalized own ending) (Finaled ending.statement ending.sig own.map) (omega arith) tt (λ e. absurd cc))
    (λ _. refused (Finalized own ending) (OtherNext ending.next) refl (λ e. absurd cc))
good law me (Finalized own ending) (Show handle) = shown (Finalized own ending) _ _ _ _
