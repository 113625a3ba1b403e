-- Runs that go on, line by line, and what is put of them.
use Rattle.std.proofs.Common.{◌≡◌, inl, inr, ℕ, suc, ◌+◌, ◌<◌, List, [], ◌∷◌, ◌++◌, map, length, get_or, take, drop, Option, None, Some, IfSome, Result, Ok, Err, IfOk, OnOk, refl, sym, ap, ap₂, subst, ◌∙◌, append_assoc, append-nil, arith}
use Rattle.std.specs.Prelude.{IfNone, MatchOption}
use Rattle.std.specs.List.{AllByRecursion, concat}
use Rattle.std.specs.Io.KnownBytes.{Appends}
use Rattle.std.proofs.lemmas.List.{map_push, map-append, drop_more, take_more, take-append-drop}
use Rattle.std.proofs.lemmas.List.Folds.{concat-append}
use Rattle.std.proofs.KnownBytes.{Appends-trans}
use Rattle.nim_base.specs.Text.{Content}
use Rattle.fault_script.specs.Command.{Request, New, Append, Latest, At, Reconfigure, Command, Genesis, Plain, Restart, Begin, Step, Finish, Retry, LoseRequest, LoseReply, StoreFail, StoreHide, StoreStale, StoreFork, StoreHonest, RawAppend, RawLatest, RawShow, RawFinalize, Offer, Forge, End}
use Rattle.port.specs.Link.{LinkView}
use Rattle.view_ledger.specs.Receipts.{Accepts}
use Rattle.endorser_cell.specs.CellBank.{AreServed, CellBank, bank_view}
use Rattle.script_world.specs.Going.{GoesOn}
use Rattle.script_world.specs.Carried.{Forged}
use Rattle.script_world.specs.Lines.{ClientCame}
use Rattle.script_operations.specs.Giving.{NoneReads}
use Rattle.script_world.specs.Labels.{handle_for}
use Rattle.script_world.specs.Nonce.{nonce}
use Rattle.script_world.specs.Raw.{AnsweredRaw, AppendedRaw, OnlyLink}
use Rattle.script_world.specs.Running.{AreTurnsCounted, Running, world_of}
use Rattle.script_world.specs.World.{World}
use Rattle.script_runs.specs.Runs.{Does, AllCanRun, DidForge, DidLine, DidRaw, Forges, Runs, SaysOr, said_in}
use Rattle.fault_script.specs.Seen.{command_of, commands_of}
use Rattle.fault_script.specs.declared.line.Line.{Line}
use Rattle.fault_script.specs.declared.line.Line.TheVariants as lines
use Rattle.port.specs.Call as calls
use Rattle.world_run.specs.Printing.{DidAndPut, RanAndPut, RanFrontAndPut, Wrote, WroteFront}

-- one line more of some, and all of them in two parts
lines_more : (lines : List Line) (i : ℕ) (line : Line) → i < length lines → line ≡ get_or lines i line → commands_of (take (i + 1) lines) ≡ commands_of (take i lines) ++ command_of line ∷ []
lines_more lines i line below is =
    ap commands_of (take_more lines i line below)
    ∙ map_push command_of (take i lines) (get_or lines i line)
    ∙ ap (λ (one : Line). commands_of (take i lines) ++ command_of one ∷ []) (sym is)

lines_split : (lines : List Line) (i : ℕ) → commands_of lines ≡ commands_of (take i lines) ++ commands_of (drop i lines)
lines_split lines i = ap commands_of (sym (take-append-drop i lines)) ∙ map-append command_of (take i lines) (drop i lines)

-- the lines after the next one can be run, too
pub rest_can_run : (lines : List Line) (i : ℕ) (line : Line) → i < length lines → AllCanRun (commands_of (drop i lines)) → AllCanRun (commands_of (drop (i + 1) lines))
rest_can_run lines i line below can =
    let rest : AllCanRun (commands_of (get_or lines i line ∷ drop (i + 1) lines)) = subst (λ (l : List Line). AllCanRun (commands_of l)) (drop_more lines i line below) can in
    rest.1

-- the first bytes of what comes after others
past : (us bs : List ℕ) (n : ℕ) → take (length us + n) (us ++ bs) ≡ us ++ take n bs
past [] bs n = ap (λ m. take m bs) (omega arith)
past (a ∷ us) bs n = ap (λ m. take m (a ∷ (us ++ bs))) (more (length us) n) ∙ ap (λ l. a ∷ l) (past us bs n) where
  more : (k n : ℕ) → suc k + n ≡ suc (k + n)
  more k n = omega arith

-- what was written, and then more
pub wrote_more : (before between now : Option (List ℕ)) (printed said : List (List ℕ)) → Wrote before between printed → Wrote between now said → Wrote before now (printed ++ said)
wrote_more before between now printed said first then =
    subst (λ (bytes : List ℕ). Appends before now bytes) (sym (concat-append printed said)) (Appends-trans before between now (concat printed) (concat said) first then)

pub wrote_front : (before between now : Option (List ℕ)) (printed said : List (List ℕ)) → Wrote before between printed → WroteFront between now said → WroteFront before now (printed ++ said)
wrote_front before between now printed said first then =
    let whole = ap (take (length (concat printed) + then.0)) (concat-append printed said) ∙ past (concat printed) (concat said) then.0 in (
      length (concat printed) + then.0,
      subst (λ (bytes : List ℕ). Appends before now bytes) (sym whole) (Appends-trans before between now (concat printed) (take then.0 (concat said)) first then.1),
    )

module _ {L C : Type 0} (accepts : C → Accepts) (checks : Accepts) where
  came_first : (old new : World L C) (place : ℕ) → ClientCame accepts checks old new place → new.first ≡ old.first
  came_first old new place (inl there) = ap (λ (w : World L C). w.first) there.0
  came_first old new place (inr more) = more.0.first

module _ {L C : Type 0} (accepts : C → Accepts) (lv : L → LinkView) where
  does_first : (request : Request) (old new : World L C) (place : ℕ) (line : List ℕ) → Does accepts lv old new place request line → new.first ≡ old.first
  does_first (New client label payload) old new place line did = did.asked.first
  does_first (Append client label height payload) old new place line did = did.asked.first
  does_first (Latest client label) old new place line did = did.asked.first
  does_first (At client label height) old new place line did = did.asked.first
  does_first (Reconfigure ids) old new place line did = absurd did

-- where nothing was done, all go on
pub same_goes : {L C : Type 0} (old new : World L C) → new ≡ old → GoesOn old new
same_goes {L} {C} old new same = subst (λ (w : World L C). GoesOn old w) (sym same) (record {
  first = refl;
  checker = refl;
  count = refl;
  grow = λ place from is. (from, is, record { client = refl; checker = refl; first = refl; more = []; lines = sym (append-nil from.lines) });
})

pub on_ok : {A E P : Type 0} → (result : Result A E) → P → OnOk result P
on_ok (Ok value) is = is
on_ok (Err fault) is = tt

-- one line or none
pub says_or : (Q : Type 0) (P : List ℕ → Type 0) (said : Option Content) → MatchOption said Q (λ line. P line.bytes) → SaysOr Q P (said_in said)
says_or Q P None is = inr (refl, is)
says_or Q P (Some line) is = inl (line.bytes, refl, is)

says_more : (Q : Type 0) (P R : List ℕ → Type 0) → ((line : List ℕ) → P line → R line) → (said : List (List ℕ)) → SaysOr Q P said → SaysOr Q R said
says_more Q P R more said (inl one) = inl (one.0, one.1, more one.0 one.2)
says_more Q P R more said (inr none) = inr none

-- the ids and signers of members, each with the other
pairs_by : {M S : Type 0} (id_of : M → ℕ) (signer_of : M → S) (members : List M) → map (λ (pair : ℕ × S). pair.0) (map (λ member. (id_of member, signer_of member)) members) ≡ map id_of members
pairs_by id_of signer_of [] = refl
pairs_by id_of signer_of (member ∷ members) = ap (λ (ids : List ℕ). id_of member ∷ ids) (pairs_by id_of signer_of members)

pairs_have : {M S : Type 0} (id_of : M → ℕ) (signer_of : M → S) (P : ℕ → S → Type 0) (members : List M) → AllByRecursion (λ member. P (id_of member) (signer_of member)) members
    → AllByRecursion (λ (pair : ℕ × S). P pair.0 pair.1) (map (λ member. (id_of member, signer_of member)) members)
pairs_have id_of signer_of P [] have = tt
pairs_have id_of signer_of P (member ∷ members) have = (have.0, pairs_have id_of signer_of P members have.1)

-- one id more, and one more of which it holds
pub ids_more : {M : Type 0} (id_of : M → ℕ) (members more : List M) (member : M) (ids : List ℕ) (i d : ℕ) → i < length ids → id_of member ≡ get_or ids i d → more ≡ members ++ member ∷ []
    → map id_of members ≡ take i ids → map id_of more ≡ take (i + 1) ids
ids_more id_of members more member ids i d below is pushed so_far =
    ap (map id_of) pushed
    ∙ map_push id_of members member
    ∙ ap₂ (λ (l : List ℕ) (id : ℕ). l ++ id ∷ []) so_far is
    ∙ sym (take_more ids i d below)

all_push : {X : Type 0} (P : X → Type 0) (xs : List X) (x : X) → AllByRecursion P xs → P x → AllByRecursion P (xs ++ x ∷ [])
all_push P [] x all one = (one, tt)
all_push P (first ∷ xs) x all one = (all.0, all_push P xs x all.1 one)

pub all_more : {M : Type 0} (P : M → Type 0) (members more : List M) (member : M) → more ≡ members ++ member ∷ [] → AllByRecursion P members → P member → AllByRecursion P more
all_more P members more member pushed all one = subst (AllByRecursion P) (sym pushed) (all_push P members member all one)

module _ {S C : Type 0} (key : S → List ℕ) (left size : S → ℕ) (signs : S → List ℕ → List ℕ → S → Type 0) (fit : S → C → Type 0) (accepts : C → Accepts) (checks : Accepts) (old new : Running (CellBank S C) C) where
  -- an endorser that there is was asked directly
  pub asked_raw : {E : Type 0} (answered : List ℕ → Type 0) (absent : Type 0) → (absent → ⊥) → OnlyLink old new → AreServed old.state.link → new.state.link.fresh ≡ old.state.link.fresh → (result : Result (Option Content) E)
      → IfOk result (λ said. IfSome said (λ line. answered line.bytes)) → IfOk result (λ said. IfNone said absent)
      → IfOk result (λ said. DidRaw key left size signs fit accepts checks old new (said_in said) answered)
  asked_raw answered absent there rest served fresh (Ok (Some line)) is none = record { rest = rest; served = served; fresh = fresh; line = line.bytes; answers = is; one = refl }
  asked_raw answered absent there rest served fresh (Ok None) is none = absurd (there none)
  asked_raw answered absent there rest served fresh (Err fault) is none = tt

  module _ (goes : GoesOn (world_of old) (world_of new)) (counted : AreTurnsCounted new) (names : new.names ≡ old.names) (ledgers : new.ledgers ≡ old.ledgers) (draws : new.draws ≡ old.draws) (op : List ℕ) where
    -- the client of a read was given what new signers made
    pub forged : {E M : Type 0} (key_of : ℕ → List ℕ) (left_of : ℕ → ℕ) (id_of : M → ℕ) (signer_of : M → S) (members : List M) (count : ℕ) (ids : List ℕ) → map id_of members ≡ ids
        → AllByRecursion (λ member. (key (signer_of member) ≡ key_of (id_of member)) × (left (signer_of member) ≡ left_of (id_of member))) members
        → (result : Result (Option Content) E)
        → IfOk result (λ said. MatchOption said (NoneReads old.operations op × (new ≡ old)) (λ line. Forged key left accepts checks old new op signs count (map (λ member. (id_of member, signer_of member)) members) line.bytes))
        → IfOk result (λ said. DidForge key left size signs fit accepts key_of left_of checks old new (said_in said) op count ids)
    forged key_of left_of id_of signer_of members count ids by keys (Ok said) is = record {
      rest = record { goes = goes; counted = counted; names = names; ledgers = ledgers; draws = draws };
      told =
          says_more (NoneReads old.operations op × (new ≡ old)) (Forged key left accepts checks old new op signs count (map (λ member. (id_of member, signer_of member)) members))
          (Forges key left size signs fit accepts key_of left_of checks old new (said_in said) op count ids)
          (λ line made. record {
            signers = map (λ member. (id_of member, signer_of member)) members;
            by = pairs_by id_of signer_of members ∙ by;
            keys = pairs_have id_of signer_of (λ id signer. (key signer ≡ key_of id) × (left signer ≡ left_of id)) members keys;
            forged = made;
          })
          (said_in said)
          (says_or (NoneReads old.operations op × (new ≡ old)) (Forged key left accepts checks old new op signs count (map (λ member. (id_of member, signer_of member)) members)) said is);
    }
    forged key_of left_of id_of signer_of members count ids by keys (Err fault) is = tt

module _ {S C : Type 0} (key : S → List ℕ) (left size : S → ℕ) (signs : S → List ℕ → List ℕ → S → Type 0) (fit : S → C → Type 0) (accepts : C → Accepts) (key_of : ℕ → List ℕ) (left_of : ℕ → ℕ) (checks : Accepts) where
  abbrev Run : Type 0
  Run = Running (CellBank S C) C

  -- one line more
  pub runs_more : (front : List Command) (command : Command) (old middle new : Run) (printed said : List (List ℕ)) → Runs key left size signs fit accepts key_of left_of checks front old middle printed
      → DidLine key left size signs fit accepts key_of left_of checks middle new said command → Runs key left size signs fit accepts key_of left_of checks (front ++ command ∷ []) old new (printed ++ said)
  runs_more [] command old middle new printed said runs did = (
    new,
    said,
    [],
    subst (λ (w : Run). DidLine key left size signs fit accepts key_of left_of checks w new said command) runs.0 did,
    (refl, refl),
    ap (λ (l : List (List ℕ)). l ++ said) runs.1 ∙ sym (append-nil said),
  )
  runs_more (first ∷ front) command old middle new printed said runs did = (
    runs.0,
    runs.1,
    runs.2 ++ said,
    runs.3,
    runs_more front command runs.0 middle new runs.2 said runs.4 did,
    ap (λ (l : List (List ℕ)). l ++ said) runs.5 ∙ append_assoc runs.1 runs.2 said,
  )

  -- the chain that has view 0 alone stays
  line_first : (command : Command) (old new : Run) (said : List (List ℕ)) → DidLine key left size signs fit accepts key_of left_of checks old new said command → new.first ≡ old.first
  line_first (Genesis ids) old new said did = ap (λ (w : Run). w.first) did.others
  line_first (Plain request) old new said did =
      does_first accepts (bank_view key left accepts) request (world_of did.asking) (world_of new) did.place did.line did.does ∙ came_first accepts checks (world_of old) (world_of did.asking) did.place did.came.came
  line_first Restart old new said did = did.0.restarted.first
  line_first (Begin op request) old new said did = did.goes.first ∙ came_first accepts checks (world_of old) (world_of did.asking) did.place did.came.came
  line_first (Step op n) old new said did = did.goes.first
  line_first (Finish op) old new said did = did.rest.goes.first
  line_first (Retry op) old new said did = did.rest.goes.first
  line_first (LoseRequest id n) old new said did = ap (λ (w : Run). w.first) did.rest
  line_first (LoseReply id n) old new said did = ap (λ (w : Run). w.first) did.rest
  line_first (StoreFail n) old new said did = ap (λ (w : Run). w.first) did.0.rest
  line_first (StoreHide label height) old new said did = ap (λ (w : Run). w.first) did.0.0
  line_first (StoreStale label height from) old new said did = ap (λ (w : Run). w.first) did.0.0
  line_first (StoreFork label height) old new said did = ap (λ (w : Run). w.first) did.0.0
  line_first StoreHonest old new said did = ap (λ (w : Run). w.first) did.0.rest
  line_first (RawAppend id label height payload number) old new said did = ap (λ (w : Run). w.first) did.rest
  line_first (RawLatest id label number) old new said did = ap (λ (w : Run). w.first) did.rest
  line_first (RawShow id label) old new said did = ap (λ (w : Run). w.first) did.rest
  line_first (RawFinalize id ids) old new said did = absurd did
  line_first (Offer op ids) old new said did = did.rest.goes.first
  line_first (Forge op count ids) old new said did = did.rest.goes.first
  line_first End old new said did = ap (λ (w : Run). w.first) did.0

  pub first_same : (commands : List Command) (old new : Run) (printed : List (List ℕ)) → Runs key left size signs fit accepts key_of left_of checks commands old new printed → new.first ≡ old.first
  first_same [] old new printed runs = ap (λ (w : Run). w.first) runs.0
  first_same (command ∷ commands) old new printed runs =
      first_same commands runs.0 new runs.2 runs.4 ∙ line_first command old runs.0 runs.1 runs.3

  -- the lines up to the next one were run, and what they print was put
  pub ran_more : (lines : List Line) (i : ℕ) (line : Line) (old middle new : Run) (before between now : Option (List ℕ)) → i < length lines → line ≡ get_or lines i line
      → RanAndPut key left size signs fit accepts key_of left_of checks (commands_of (take i lines)) old middle (Wrote before between) → DidAndPut key left size signs fit accepts key_of left_of checks (command_of line) middle new (Wrote between now)
      → RanAndPut key left size signs fit accepts key_of left_of checks (commands_of (take (i + 1) lines)) old new (Wrote before now)
  ran_more lines i line old middle new before between now below is ran did = (
    ran.0 ++ did.0,
    subst (λ (commands : List Command). Runs key left size signs fit accepts key_of left_of checks commands old new (ran.0 ++ did.0)) (sym (lines_more lines i line below is))
        (runs_more (commands_of (take i lines)) (command_of line) old middle new ran.0 did.0 ran.1 did.1),
    wrote_more before between now ran.0 did.0 ran.2 did.2,
  )

  -- the next line was run, and what it prints wasn't put wholly
  pub stopped_in : (lines : List Line) (i : ℕ) (line : Line) (old middle new : Run) (before between now : Option (List ℕ)) → i < length lines → line ≡ get_or lines i line
      → RanAndPut key left size signs fit accepts key_of left_of checks (commands_of (take i lines)) old middle (Wrote before between) → DidAndPut key left size signs fit accepts key_of left_of checks (command_of line) middle new (WroteFront between now)
      → RanFrontAndPut key left size signs fit accepts key_of left_of checks (commands_of lines) old (WroteFront before now)
  stopped_in lines i line old middle new before between now below is ran did = record {
    front = commands_of (take (i + 1) lines);
    rest = commands_of (drop (i + 1) lines);
    split = lines_split lines (i + 1);
    last = new;
    ran = (
      ran.0 ++ did.0,
      subst (λ (commands : List Command). Runs key left size signs fit accepts key_of left_of checks commands old new (ran.0 ++ did.0)) (sym (lines_more lines i line below is))
          (runs_more (commands_of (take i lines)) (command_of line) old middle new ran.0 did.0 ran.1 did.1),
      wrote_front before between now ran.0 did.0 ran.2 did.2,
    );
  }

  -- nothing more was put
  pub stopped_at : (lines : List Line) (i : ℕ) (old middle : Run) (before between now : Option (List ℕ)) → now ≡ between
      → RanAndPut key left size signs fit accepts key_of left_of checks (commands_of (take i lines)) old middle (Wrote before between) → RanFrontAndPut key left size signs fit accepts key_of left_of checks (commands_of lines) old (Wrote before now)
  stopped_at lines i old middle before between now same ran = record {
    front = commands_of (take i lines);
    rest = commands_of (drop i lines);
    split = lines_split lines i;
    last = middle;
    ran = (ran.0, ran.1, subst (λ (told : Option (List ℕ)). Wrote before told ran.0) (sym same) ran.2);
  }

  pub raw_append_line : {E : Type 0} (old new : Run) (result : Result (Option Content) E) (line : Line) (id : ℕ) (label : Content) (height : ℕ) (payload : Content) (number : ℕ) (named paid : List ℕ)
      → line ≡ lines.RawAppend id label height payload number → named ≡ label.bytes → paid ≡ payload.bytes
      → IfOk result (λ said. DidRaw key left size signs fit accepts checks old new (said_in said)
      (AppendedRaw key left size signs fit old.state new.state.link id (handle_for (world_of old).labels named) height (nonce number) paid))
      → IfOk result (λ said. DidLine key left size signs fit accepts key_of left_of checks old new (said_in said) (command_of line))
  raw_append_line old new result line id label height payload number named paid is one two did =
      subst (λ (l : Line). IfOk result (λ said. DidLine key left size signs fit accepts key_of left_of checks old new (said_in said) (command_of l))) (sym is)
      (subst (λ (b : List ℕ). IfOk result (λ said. DidRaw key left size signs fit accepts checks old new (said_in said)
      (AppendedRaw key left size signs fit old.state new.state.link id (handle_for (world_of old).labels b) height (nonce number) payload.bytes))) one
      (subst (λ (b : List ℕ). IfOk result (λ said. DidRaw key left size signs fit accepts checks old new (said_in said)
      (AppendedRaw key left size signs fit old.state new.state.link id (handle_for (world_of old).labels named) height (nonce number) b))) two did))

  pub raw_latest_line : {E : Type 0} (old new : Run) (result : Result (Option Content) E) (line : Line) (id : ℕ) (label : Content) (number : ℕ) (named : List ℕ)
      → line ≡ lines.RawLatest id label number → named ≡ label.bytes
      → IfOk result (λ said. DidRaw key left size signs fit accepts checks old new (said_in said)
      (AnsweredRaw key left size signs fit old.state.link new.state.link id (calls.Latest (handle_for (world_of old).labels named) (nonce number))))
      → IfOk result (λ said. DidLine key left size signs fit accepts key_of left_of checks old new (said_in said) (command_of line))
  raw_latest_line old new result line id label number named is one did =
      subst (λ (l : Line). IfOk result (λ said. DidLine key left size signs fit accepts key_of left_of checks old new (said_in said) (command_of l))) (sym is)
      (subst (λ (b : List ℕ). IfOk result (λ said. DidRaw key left size signs fit accepts checks old new (said_in said)
      (AnsweredRaw key left size signs fit old.state.link new.state.link id (calls.Latest (handle_for (world_of old).labels b) (nonce number))))) one did)
