-- What a run of a plain script prints, line by line.
use Rattle.std.proofs.Common.{◌≡◌, ◌⊎◌, inl, inr, ℕ, ◌+◌, ◌-◌, ◌≤◌, Bool, true, false, cond, ◌&&◌, ◌||◌, List, [], ◌∷◌, ◌++◌, length, count_by, refl, sym, ap, ap₂, subst, ◌∙◌, append_assoc, arith, Result, Ok, Err}
use Rattle.std.specs.Prelude.{◌==◌}
use Rattle.std.proofs.lemmas.Bool.{ne_eqb}
use Rattle.std.proofs.lemmas.List.{length-append}
use Rattle.std.proofs.lemmas.List.Sums.{sum_by-cons}
use Rattle.fault_script.specs.Command.{Request, Command, Genesis, Plain, Restart, Begin, Step, Finish, Retry, LoseRequest, LoseReply, StoreFail, StoreHide, StoreStale, StoreFork, StoreHonest, RawAppend, RawLatest, RawShow, RawFinalize, Offer, Forge, End}
use Rattle.fault_script.specs.Line.{has_ended, is_end}
use Rattle.fault_script.specs.Script.{is_plain, is_plain_command}
use Rattle.fault_script.specs.Within.{Fits, is_genesis}
use Rattle.port.specs.Cause.{Cause, Conflict, Gap, NoQuorum, ViewMoved, StoreFault, BadRow, Contended, Full, TooFar, Reused, NoMemory}
use Rattle.port.specs.Link.{LinkView}
use Rattle.port.specs.View.{ViewRow}
use Rattle.blob_store.specs.LyingStore.{lying_view, held_in}
use Rattle.blob_store.specs.TrueStores.{NeitherLiesNorFails}
use Rattle.view_ledger.specs.Receipts.{Accepts}
use Rattle.endorser_cell.specs.CellBank.{CellBank, bank_view}
use Rattle.calm_first.specs.First.{BeforeFirst}
use Rattle.coordinator.specs.CalmStates.{IsBeforeFirst}
use Rattle.coordinator.specs.First.{SaysOfFirst}
use Rattle.reply_lines.specs.Lines.{view_line}
use Rattle.script_world.specs.Lines.{ClientCame, Restarted, HasClientMore}
use Rattle.script_world.specs.Running.{Running, world_of}
use Rattle.script_world.specs.World.{World}
use Rattle.world_run.specs.Plain.{Known, nothing, after, after_request, reply_to, reply_to_request, replies}
use Rattle.world_run.specs.PlainRun.{IsRunnable}
use Rattle.script_runs.specs.Runs.{Does, DidGenesis, DidLine, Runs, first_line}
use Rattle.world_run.specs.Replayed.{is_between}
use Rattle.world_run.specs.Tied.{IsTied, BeginsTied}
use Rattle.script_runs.specs.Begins.{IsUnbegun}

-- the laws of single lines
pub record LineLaws {L C : Type 0} (accepts : C → Accepts) (checks : Accepts) (lv : L → LinkView) : Type 0 where
  pub request : (texts_of : ℕ → List (List ℕ)) (script before rest : List Command) (request : Request) (old new : World L C) (known : Known) (place left : ℕ) (line : List ℕ)
      → IsRunnable texts_of script → script ≡ before ++ Plain request ∷ rest → IsTied accepts checks lv before old known (left + 1) → Does accepts lv old new place request line
      → (line ≡ reply_to_request known request) × IsTied accepts checks lv (before ++ Plain request ∷ []) new (after_request known request) left
  pub restart : (texts_of : ℕ → List (List ℕ)) (script before rest : List Command) (old new : World L C) (known : Known) (left : ℕ)
      → IsRunnable texts_of script → script ≡ before ++ Restart ∷ rest → IsTied accepts checks lv before old known (left + 1) → Restarted old new
      → IsTied accepts checks lv (before ++ Restart ∷ []) new known left
  pub end : (texts_of : ℕ → List (List ℕ)) (script before rest : List Command) (world : World L C) (known : Known) (left : ℕ)
      → IsRunnable texts_of script → script ≡ before ++ End ∷ rest → IsTied accepts checks lv before world known (left + 1)
      → IsTied accepts checks lv (before ++ End ∷ []) world known left
  pub client : (before : List Command) (old new : World L C) (known : Known) (left : ℕ)
      → IsTied accepts checks lv before old known left → HasClientMore accepts checks old new → IsTied accepts checks lv before new known left
  pub begins : (old new : World L C) (ids : List ℕ) (answer : Result ViewRow Cause) (first : BeforeFirst)
      → SaysOfFirst accepts lying_view lv old.state new.state answer → new ≡ record old { state = new.state } → IsUnbegun old
      → IsBeforeFirst accepts lying_view lv old.state first → NeitherLiesNorFails (held_in old.state.store) → BeginsTied accepts lv new ids first answer

-- the replies to some first lines come first
pub replies_front : (known : Known) (front rest : List Command) → (more : List (List ℕ)) × (replies known (front ++ rest) ≡ replies known front ++ more)
replies_front known [] rest = (replies known rest, refl)
replies_front known (command ∷ front) rest =
    let after_it = replies_front (after known command) front rest in
    (after_it.0, ap (λ (l : List (List ℕ)). reply_to known command ++ l) after_it.1 ∙ sym (append_assoc (reply_to known command) (replies (after known command) front) after_it.0))

pub both : (one other : Bool) → (one && other) ≡ true → (one ≡ true) × (other ≡ true)
both true other e = (refl, e)
both false other e = absurd cc

first_one : (before : List Command) (ids : List ℕ) → 1 ≤ length before → Fits before (Genesis ids) → ⊥
first_one before ids some fits =
    let not_first : (length before == 0) ≡ false = ne_eqb (length before) 0 (λ e. absurd (omega (arith, e, some))) in
    let no : true ≡ false = fits.first ∙ not_first in
    absurd cc

pub genesis_of : (command : Command) → is_genesis command ≡ true → (ids : List ℕ) × (command ≡ Genesis ids)
genesis_of (Genesis ids) e = (ids, refl)
genesis_of (Plain request) e = absurd cc
genesis_of Restart e = absurd cc
genesis_of (Begin op request) e = absurd cc
genesis_of (Step op n) e = absurd cc
genesis_of (Finish op) e = absurd cc
genesis_of (Retry op) e = absurd cc
genesis_of (LoseRequest id n) e = absurd cc
genesis_of (LoseReply id n) e = absurd cc
genesis_of (StoreFail n) e = absurd cc
genesis_of (StoreHide label height) e = absurd cc
genesis_of (StoreStale label height from) e = absurd cc
genesis_of (StoreFork label height) e = absurd cc
genesis_of StoreHonest e = absurd cc
genesis_of (RawAppend id label height payload nonce) e = absurd cc
genesis_of (RawLatest id label nonce) e = absurd cc
genesis_of (RawShow id label) e = absurd cc
genesis_of (RawFinalize id ids) e = absurd cc
genesis_of (Offer op ids) e = absurd cc
genesis_of (Forge op count ids) e = absurd cc
genesis_of End e = absurd cc

-- how many of these lines are neither `genesis` nor `end`
abbrev pub asked : List Command → ℕ
asked commands = count_by is_between commands

counted : (command : Command) (front : List Command) (b : Bool) → is_between command ≡ b → asked (command ∷ front) ≡ cond b 1 0 + asked front
counted command front b is = sum_by-cons (λ (c : Command). cond (is_between c) 1 0) command front ∙ ap (λ (own : Bool). cond own 1 0 + asked front) is

ended_at : (before : List Command) → has_ended (before ++ End ∷ []) ≡ true
ended_at [] = refl
ended_at (command ∷ before) = either (is_end command) (has_ended (before ++ End ∷ [])) (ended_at before) where
  either : (one other : Bool) → other ≡ true → (one || other) ≡ true
  either true other is = refl
  either false other is = is

module _ {S C : Type 0} (key : S → List ℕ) (left_in size : S → ℕ) (signs : S → List ℕ → List ℕ → S → Type 0) (fit : S → C → Type 0) (accepts : C → Accepts) (key_of : ℕ → List ℕ) (left_of : ℕ → ℕ) (checks : Accepts)
    (laws : LineLaws accepts checks (bank_view key left_in accepts)) (texts_of : ℕ → List (List ℕ)) (script : List Command) (runnable : IsRunnable texts_of script) where
  abbrev Run : Type 0
  Run = Running (CellBank S C) C

  abbrev At : Type 0
  At = World (CellBank S C) C

  abbrev lv : CellBank S C → LinkView
  lv = bank_view key left_in accepts

  came_tied : (before : List Command) (old asking : At) (place left : ℕ) (known : Known) → IsTied accepts checks lv before old known left → ClientCame accepts checks old asking place
      → IsTied accepts checks lv before asking known left
  came_tied before old asking place left known tied (inl there) = subst (λ (w : At). IsTied accepts checks lv before w known left) (sym there.0) tied
  came_tied before old asking place left known tied (inr more) = laws.client before old asking known left tied more.0

  -- one line prints its plain reply
  line_plainly : (command : Command) (before rest : List Command) (old new : Run) (known : Known) (said : List (List ℕ)) (left : ℕ)
      → script ≡ before ++ command ∷ rest → 1 ≤ length before → IsTied accepts checks lv before (world_of old) known (left + 1) → is_plain_command command ≡ true
      → DidLine key left_in size signs fit accepts key_of left_of checks old new said command → (said ≡ reply_to known command) × IsTied accepts checks lv (before ++ command ∷ []) (world_of new) (after known command) left
  line_plainly (Genesis ids) before rest old new known said left split some tied plain did = absurd (first_one before ids some (runnable.each before (Genesis ids) rest split))
  line_plainly (Plain request) before rest old new known said left split some tied plain did =
      let got = laws.request texts_of script before rest request (world_of did.asking) (world_of new) known did.place left did.line runnable split (came_tied before (world_of old) (world_of did.asking) did.place (left + 1) known tied did.came.came) did.does in
      (did.one ∙ ap (λ (l : List ℕ). l ∷ []) got.0, got.1)
  line_plainly Restart before rest old new known said left split some tied plain did = (did.1, laws.restart texts_of script before rest (world_of old) (world_of new) known left runnable split tied did.0.restarted)
  line_plainly End before rest old new known said left split some tied plain did =
      (did.1, subst (λ (w : Run). IsTied accepts checks lv (before ++ End ∷ []) (world_of w) known left) (sym did.0) (laws.end texts_of script before rest (world_of old) known left runnable split tied))
  line_plainly (Begin op request) before rest old new known said left split some tied plain did = absurd cc
  line_plainly (Step op n) before rest old new known said left split some tied plain did = absurd cc
  line_plainly (Finish op) before rest old new known said left split some tied plain did = absurd cc
  line_plainly (Retry op) before rest old new known said left split some tied plain did = absurd cc
  line_plainly (LoseRequest id n) before rest old new known said left split some tied plain did = absurd cc
  line_plainly (LoseReply id n) before rest old new known said left split some tied plain did = absurd cc
  line_plainly (StoreFail n) before rest old new known said left split some tied plain did = absurd cc
  line_plainly (StoreHide label height) before rest old new known said left split some tied plain did = absurd cc
  line_plainly (StoreStale label height from) before rest old new known said left split some tied plain did = absurd cc
  line_plainly (StoreFork label height) before rest old new known said left split some tied plain did = absurd cc
  line_plainly StoreHonest before rest old new known said left split some tied plain did = absurd cc
  line_plainly (RawAppend id label height payload nonce) before rest old new known said left split some tied plain did = absurd cc
  line_plainly (RawLatest id label nonce) before rest old new known said left split some tied plain did = absurd cc
  line_plainly (RawShow id label) before rest old new known said left split some tied plain did = absurd cc
  line_plainly (RawFinalize id ids) before rest old new known said left split some tied plain did = absurd cc
  line_plainly (Offer op ids) before rest old new known said left split some tied plain did = absurd cc
  line_plainly (Forge op count ids) before rest old new known said left split some tied plain did = absurd cc

  -- a plain line after the first one asks for something or restarts, or it is the end
  kind_of : (command : Command) (before rest : List Command) → script ≡ before ++ command ∷ rest → 1 ≤ length before → is_plain_command command ≡ true
      → (is_between command ≡ true) ⊎ (command ≡ End)
  kind_of (Genesis ids) before rest split some plain = absurd (first_one before ids some (runnable.each before (Genesis ids) rest split))
  kind_of (Plain request) before rest split some plain = inl refl
  kind_of Restart before rest split some plain = inl refl
  kind_of End before rest split some plain = inr refl
  kind_of (Begin op request) before rest split some plain = inl refl
  kind_of (Step op n) before rest split some plain = inl refl
  kind_of (Finish op) before rest split some plain = inl refl
  kind_of (Retry op) before rest split some plain = inl refl
  kind_of (LoseRequest id n) before rest split some plain = inl refl
  kind_of (LoseReply id n) before rest split some plain = inl refl
  kind_of (StoreFail n) before rest split some plain = inl refl
  kind_of (StoreHide label height) before rest split some plain = inl refl
  kind_of (StoreStale label height from) before rest split some plain = inl refl
  kind_of (StoreFork label height) before rest split some plain = inl refl
  kind_of StoreHonest before rest split some plain = inl refl
  kind_of (RawAppend id label height payload nonce) before rest split some plain = inl refl
  kind_of (RawLatest id label nonce) before rest split some plain = inl refl
  kind_of (RawShow id label) before rest split some plain = inl refl
  kind_of (RawFinalize id ids) before rest split some plain = inl refl
  kind_of (Offer op ids) before rest split some plain = inl refl
  kind_of (Forge op count ids) before rest split some plain = inl refl

  -- no line follows the end
  none_after : (before front rest : List Command) → script ≡ (before ++ End ∷ []) ++ (front ++ rest) → front ≡ []
  none_after before [] rest split = refl
  none_after before (command ∷ front) rest split =
      let fits = runnable.each (before ++ End ∷ []) command (front ++ rest) split in
      let no : true ≡ false = sym (ended_at before) ∙ fits.going in
      absurd cc

  end_plainly : (old new : Run) (known : Known) (printed : List (List ℕ)) → Runs key left_in size signs fit accepts key_of left_of checks (End ∷ []) old new printed → printed ≡ replies known (End ∷ [])
  end_plainly old new known printed runs = runs.5 ∙ ap (λ (l : List (List ℕ)). l ++ runs.2) runs.3.1 ∙ runs.4.1

  -- from where a run is tied to what is known, it prints the plain replies
  lines_plainly : (front before rest : List Command) (old new : Run) (known : Known) (printed : List (List ℕ)) (left : ℕ)
      → script ≡ before ++ (front ++ rest) → 1 ≤ length before → IsTied accepts checks lv before (world_of old) known (left + asked front) → is_plain front ≡ true
      → Runs key left_in size signs fit accepts key_of left_of checks front old new printed → printed ≡ replies known front
  lines_plainly [] before rest old new known printed left split some tied plain runs = runs.1
  lines_plainly (command ∷ front) before rest old new known printed left split some tied plain runs =
      by_kind (kind_of command before (front ++ rest) split some plainly.0)
      (λ tied_then. lines_plainly front (before ++ command ∷ []) rest runs.0 new (after known command) runs.2 left split_then some_then tied_then plainly.1 runs.4) where
        plainly : (is_plain_command command ≡ true) × (is_plain front ≡ true)
        plainly = both (is_plain_command command) (is_plain front) plain

        split_then : script ≡ (before ++ command ∷ []) ++ (front ++ rest)
        split_then = split ∙ sym (append_assoc before (command ∷ []) (front ++ rest))

        some_then : 1 ≤ length (before ++ command ∷ [])
        some_then = subst (λ (n : ℕ). 1 ≤ n) (sym (length-append before (command ∷ []))) (omega (arith, some))

        by_kind : (is_between command ≡ true) ⊎ (command ≡ End)
            → (IsTied accepts checks lv (before ++ command ∷ []) (world_of runs.0) (after known command) (left + asked front) → runs.2 ≡ replies (after known command) front)
            → printed ≡ replies known (command ∷ front)
        by_kind (inl between) others =
            let count : asked (command ∷ front) ≡ 1 + asked front = counted command front true between in
            let one_more : left + asked (command ∷ front) ≡ (left + asked front) + 1 = omega (arith, count) in
            let tied_now = subst (λ (n : ℕ). IsTied accepts checks lv before (world_of old) known n) one_more tied in
            let did = line_plainly command before (front ++ rest) old runs.0 known runs.1 (left + asked front) split some tied_now plainly.0 runs.3 in
            runs.5
            ∙ ap (λ (l : List (List ℕ)). l ++ runs.2) did.0
            ∙ ap (λ (l : List (List ℕ)). reply_to known command ++ l) (others did.1)
        by_kind (inr ended) others =
            let nothing_more : front ≡ [] = none_after before front rest (subst (λ (c : Command). script ≡ (before ++ c ∷ []) ++ (front ++ rest)) ended split_then) in
            let last : command ∷ front ≡ End ∷ [] = ap₂ (λ (c : Command) (l : List Command). c ∷ l) ended nothing_more in
            subst (λ (l : List Command). Runs key left_in size signs fit accepts key_of left_of checks l old new printed → printed ≡ replies known l) (sym last) (end_plainly old new known printed) runs

  -- what the first line of a run prints that was begun so
  begin_plainly : (ids : List ℕ) (old middle : Run) (said : List (List ℕ)) (first : BeforeFirst) → (did : DidGenesis key left_in size signs fit accepts checks old middle said ids) → IsUnbegun (world_of old)
      → IsBeforeFirst accepts lying_view lv old.state first → NeitherLiesNorFails (held_in old.state.store)
      → (said ≡ view_line 0 ids ∷ []) × IsTied accepts first.accepts lv (Genesis ids ∷ []) (world_of middle) (after nothing (Genesis ids)) first.left
  begin_plainly ids old middle said first did unbegun fresh unbent = answered did.answer refl where
    begun : BeginsTied accepts lv (world_of middle) ids first did.answer
    begun = laws.begins (world_of old) (world_of middle) ids did.answer first did.says (ap (λ (w : Run). world_of w) did.others) unbegun fresh unbent

    answered : (answer : Result ViewRow Cause) → did.answer ≡ answer
        → (said ≡ view_line 0 ids ∷ []) × IsTied accepts first.accepts lv (Genesis ids ∷ []) (world_of middle) (after nothing (Genesis ids)) first.left
    answered (Ok row) is =
        let tied = subst (λ (a : Result ViewRow Cause). BeginsTied accepts lv (world_of middle) ids first a) is begun in
        (did.one ∙ ap (λ (a : Result ViewRow Cause). first_line ids a ∷ []) is, tied.1)
    answered (Err NoMemory) is = absurd (did.room is)
    answered (Err (Conflict standing)) is = absurd (subst (λ (a : Result ViewRow Cause). BeginsTied accepts lv (world_of middle) ids first a) is begun)
    answered (Err (Gap handle missing)) is = absurd (subst (λ (a : Result ViewRow Cause). BeginsTied accepts lv (world_of middle) ids first a) is begun)
    answered (Err (NoQuorum need reasons)) is = absurd (subst (λ (a : Result ViewRow Cause). BeginsTied accepts lv (world_of middle) ids first a) is begun)
    answered (Err (ViewMoved from id statement sig)) is = absurd (subst (λ (a : Result ViewRow Cause). BeginsTied accepts lv (world_of middle) ids first a) is begun)
    answered (Err StoreFault) is = absurd (subst (λ (a : Result ViewRow Cause). BeginsTied accepts lv (world_of middle) ids first a) is begun)
    answered (Err (BadRow key bytes)) is = absurd (subst (λ (a : Result ViewRow Cause). BeginsTied accepts lv (world_of middle) ids first a) is begun)
    answered (Err (Contended member one later)) is = absurd (subst (λ (a : Result ViewRow Cause). BeginsTied accepts lv (world_of middle) ids first a) is begun)
    answered (Err (Full member)) is = absurd (subst (λ (a : Result ViewRow Cause). BeginsTied accepts lv (world_of middle) ids first a) is begun)
    answered (Err (TooFar needed)) is = absurd (subst (λ (a : Result ViewRow Cause). BeginsTied accepts lv (world_of middle) ids first a) is begun)
    answered (Err (Reused id)) is = absurd (subst (λ (a : Result ViewRow Cause). BeginsTied accepts lv (world_of middle) ids first a) is begun)

  -- some first lines of a plain script print their plain replies
  from_genesis : (ids : List ℕ) (front rest : List Command) (old new : Run) (printed : List (List ℕ)) (first : BeforeFirst)
      → IsUnbegun (world_of old) → IsBeforeFirst accepts lying_view lv old.state first → NeitherLiesNorFails (held_in old.state.store)
      → first.accepts ≡ checks → asked (Genesis ids ∷ front) ≤ first.left → script ≡ Genesis ids ∷ (front ++ rest) → is_plain (Genesis ids ∷ front) ≡ true
      → Runs key left_in size signs fit accepts key_of left_of checks (Genesis ids ∷ front) old new printed → printed ≡ replies nothing (Genesis ids ∷ front)
  from_genesis ids front rest old new printed first unbegun fresh unbent same enough split plain runs =
      let began = begin_plainly ids old runs.0 runs.1 first runs.3 unbegun fresh unbent in
      let count : asked (Genesis ids ∷ front) ≡ 0 + asked front = counted (Genesis ids) front false refl in
      let spare : ℕ = first.left - asked front in
      let whole : first.left ≡ spare + asked front = omega (arith, enough, count) in
      let tied = subst (λ (n : ℕ). IsTied accepts checks lv (Genesis ids ∷ []) (world_of runs.0) (after nothing (Genesis ids)) n) whole
      (subst (λ (a : Accepts). IsTied accepts a lv (Genesis ids ∷ []) (world_of runs.0) (after nothing (Genesis ids)) first.left) same began.1) in
      runs.5
      ∙ ap (λ (l : List (List ℕ)). l ++ runs.2) began.0
      ∙ ap (λ (l : List (List ℕ)). view_line 0 ids ∷ l) (lines_plainly front (Genesis ids ∷ []) rest runs.0 new (after nothing (Genesis ids)) runs.2 spare split (omega arith) tied plain runs.4)

  pub front_plainly : (front rest : List Command) (old new : Run) (printed : List (List ℕ)) (first : BeforeFirst)
      → script ≡ front ++ rest → is_plain front ≡ true → IsUnbegun (world_of old) → IsBeforeFirst accepts lying_view lv old.state first → NeitherLiesNorFails (held_in old.state.store)
      → first.accepts ≡ checks → asked front ≤ first.left → Runs key left_in size signs fit accepts key_of left_of checks front old new printed → printed ≡ replies nothing front
  front_plainly [] rest old new printed first split plain unbegun fresh unbent same enough runs = runs.1
  front_plainly (command ∷ front) rest old new printed first split plain unbegun fresh unbent same enough runs =
      let fits = runnable.each [] command (front ++ rest) split in
      let genesis = genesis_of command fits.first in
      subst (λ (c : Command). asked (c ∷ front) ≤ first.left → script ≡ c ∷ (front ++ rest) → is_plain (c ∷ front) ≡ true → Runs key left_in size signs fit accepts key_of left_of checks (c ∷ front) old new printed → printed ≡ replies nothing (c ∷ front))
      (sym genesis.1) (λ few. from_genesis genesis.0 front rest old new printed first unbegun fresh unbent same few) enough split plain runs
