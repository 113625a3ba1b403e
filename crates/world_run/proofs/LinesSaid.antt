-- Each line of a good script prints its one line, or nothing.
use Rattle.std.proofs.Common.{◌≡◌, ◌⊎◌, inl, inr, ℕ, ◌+◌, false, cond, if◌then◌else◌, List, [], ◌∷◌, ◌++◌, length, refl, sym, ap, subst, ◌∙◌, arith}
use Rattle.std.specs.Prelude.{count_by, not}
use Rattle.std.specs.Str.{bytes_eq}
use Rattle.std.proofs.lemmas.List.{length-append}
use Rattle.std.proofs.lemmas.List.Sums.{sum_by-cons}
use Rattle.fault_script.specs.Command.{Request, New, Append, Latest, At, Reconfigure, Command, Genesis, Plain, Restart, Begin, Step, Finish, Retry, LoseRequest, LoseReply, StoreFail, StoreHide, StoreStale, StoreFork, StoreHonest, RawAppend, RawLatest, RawShow, RawFinalize, Offer, Forge, End}
use Rattle.fault_script.specs.Operations.{is_closed_of_client, is_open, is_open_latest, misuses, standing}
use Rattle.fault_script.specs.Within.{AllFit}
use Rattle.blob_store.specs.LyingStore.{lying_view}
use Rattle.view_ledger.specs.Receipts.{Accepts}
use Rattle.endorser_cell.specs.CellBank.{CellBank, bank_view}
use Rattle.script_operations.specs.Giving.{NoneReads}
use Rattle.script_operations.specs.Operations as progresses
use Rattle.script_operations.specs.Operations.{Begun, IsOpen, NoneIsNamed, NoneIsOpen, Operations, at_progress, with_begun}
use Rattle.script_world.specs.Carried.{Finished, NothingOffered, Offered, ReplyOffered, Retried}
use Rattle.script_world.specs.Running.{Running}
use Rattle.script_runs.specs.LinesSaid.{says_line}
use Rattle.script_runs.specs.Runs.{DidLine, Forges, Opens, Runs, SaysOr}
use Rattle.world_run.proofs.NamesStand.{Open, StandsAs, Stood, Unbegun, closed, stands_after, stood_after}
use Rattle.world_run.proofs.OperationsStand.{AreTied, begin_tied, closing_tied, none_tied, not_closed, not_unnamed, not_unread, restart_tied, step_tied}

-- what fits whole fits in front
fit_front : (earlier front rest : List Command) → AllFit earlier (front ++ rest) → AllFit earlier front
fit_front earlier [] rest fit = tt
fit_front earlier (command ∷ front) rest fit = (fit.0, fit_front (earlier ++ command ∷ []) front rest fit.1)

count_first : (command : Command) (commands : List Command) → count_by says_line (command ∷ commands) ≡ cond (says_line command) 1 0 + count_by says_line commands
count_first command commands = sum_by-cons (λ (one : Command). cond (says_line one) 1 0) command commands

-- so many lines were said, and the operations stand as the script's lines say
abbrev SaidSo : (List ℕ → Stood) → Operations → List (List ℕ) → ℕ → Type 0
SaidSo stood_of operations said count = (length said ≡ count) × AreTied stood_of operations

-- the line was said where nothing is impossible
said_or : (Q : Type 0) (P : List ℕ → Type 0) (stood_of : List ℕ → Stood) (operations : Operations) (said : List (List ℕ)) → SaysOr Q P said → (Q → ⊥) → ((line : List ℕ) → P line → AreTied stood_of operations)
    → SaidSo stood_of operations said 1
said_or Q P stood_of operations said (inl one) never leads = (ap length one.1, leads one.0 one.2)
said_or Q P stood_of operations said (inr none) never leads = absurd (never none.1)

module _ {L C : Type 0} (stood_of : List ℕ → Stood) (old new : Running L C) (said : List (List ℕ)) (tied : AreTied stood_of old.operations) where
  -- the operations stay
  stay : new.operations ≡ old.operations → AreTied stood_of new.operations
  stay same = subst (λ (operations : Operations). AreTied stood_of operations) (sym same) tied

  quiet : said ≡ [] → new.operations ≡ old.operations → SaidSo stood_of new.operations said 0
  quiet none same = (ap length none, stay same)

  spoke : (line : List ℕ) → said ≡ line ∷ [] → new.operations ≡ old.operations → SaidSo stood_of new.operations said 1
  spoke line one same = (ap length one, stay same)

  -- the operation of this name closes
  closes : (name : List ℕ) (place : ℕ) (begun : Begun) → IsOpen old.operations name place begun → new.operations ≡ with_begun old.operations place (at_progress begun progresses.Closed)
      → AreTied (λ other. if bytes_eq other name then closed (stood_of other) else stood_of other) new.operations
  closes name place begun found is =
      subst (λ (operations : Operations). AreTied (λ other. if bytes_eq other name then closed (stood_of other) else stood_of other) operations) (sym is)
      (closing_tied stood_of old.operations tied name place begun found.is progresses.Closed)

  -- an operation was begun under this name
  opened : (request : Request) (place : ℕ) (name : List ℕ) → Opens old new place name request
      → AreTied (λ other. if bytes_eq other name then Open request else stood_of other) new.operations
  opened (New client label payload) place name opens =
      begin_tied stood_of old.operations new.operations tied name _ label old.state.chain opens.2.begun (New client label payload) tt
  opened (Append client label height payload) place name opens =
      begin_tied stood_of old.operations new.operations tied name _ label old.state.chain opens.2.begun (Append client label height payload) tt
  opened (Latest client label) place name opens =
      begin_tied stood_of old.operations new.operations tied name _ label old.state.chain opens.2.begun (Latest client label) (place, opens.0, _, _, refl)
  opened (At client label height) place name opens =
      begin_tied stood_of old.operations new.operations tied name _ label old.state.chain opens.begun (At client label height) tt
  opened (Reconfigure ids) place name opens = absurd opens

module _ {S C : Type 0} (key : S → List ℕ) (left size : S → ℕ) (signs : S → List ℕ → List ℕ → S → Type 0) (fit : S → C → Type 0) (accepts : C → Accepts) (key_of : ℕ → List ℕ) (left_of : ℕ → ℕ) (checks : Accepts) where
  abbrev Run : Type 0
  Run = Running (CellBank S C) C

  module _ (stood_of : List ℕ → Stood) (old new : Run) (said : List (List ℕ)) (tied : AreTied stood_of old.operations) where
    -- an offered reply, or none, closes the read
    offered : (op ids line : List ℕ) → Offered key left accepts checks old new op ids line
        → AreTied (λ other. if bytes_eq other op then closed (stood_of other) else stood_of other) new.operations
    offered op ids line did = told did.told where
      told : NothingOffered key left accepts checks old new op did.handle did.nonce ids line ⊎ ReplyOffered key left accepts checks old new op did.handle did.nonce ids line
          → AreTied (λ other. if bytes_eq other op then closed (stood_of other) else stood_of other) new.operations
      told (inl none) = closes stood_of old new said tied op did.reading.place _ did.reading.found (none.closed did.reading.place _ did.reading.found)
      told (inr reply) = closes stood_of old new said tied op reply.given.place reply.given.begun reply.given.found reply.given.closed

    line_said : (earlier : List Command) → ((name : List ℕ) → StandsAs earlier name (stood_of name)) → (command : Command) → misuses (standing earlier) command ≡ false → DidLine key left size signs fit accepts key_of left_of checks old new said command
        → SaidSo (λ name. stood_after name (stood_of name) command) new.operations said (cond (says_line command) 1 0)
    line_said earlier stands (Genesis ids) fits did = spoke stood_of old new said tied _ did.one (ap (λ (run : Run). run.operations) did.others)
    line_said earlier stands (Plain request) fits did = spoke stood_of old new said tied did.line did.one (did.keeps.operations ∙ did.came.operations)
    line_said earlier stands Restart fits did = (
      ap length did.1,
      subst (λ (operations : Operations). AreTied (λ name. closed (stood_of name)) operations) (sym did.0.closed) (restart_tied stood_of old.operations tied),
    )
    line_said earlier stands (Begin op request) fits did = (
      ap length did.none,
      opened stood_of did.asking new said (stay stood_of old did.asking said tied did.came.operations) request did.place op did.opens,
    )
    line_said earlier stands (Step op n) fits did = (
      ap length did.none,
      step_tied lying_view (bank_view key left accepts) old.state new.state (accepts old.state.checker) stood_of old.operations new.operations op n tied did.stepped,
    )
    line_said earlier stands (Finish op) fits did =
        said_or (NoneIsOpen old.operations op × (new ≡ old)) (Finished key left accepts checks old new op)
        (λ other. if bytes_eq other op then closed (stood_of other) else stood_of other) new.operations said did.told
        (λ none. not_closed old.operations op (stood_of op) (sym (ap (λ before. not (is_open before)) (stands op)) ∙ fits) (tied.stands op) none.0)
        (λ line finished. closes stood_of old new said tied op finished.place finished.begun finished.found finished.closed)
    line_said earlier stands (Retry op) fits did =
        said_or (NoneIsNamed old.operations op × (new ≡ old)) (Retried key left accepts checks old new op) stood_of new.operations said did.told
        (λ none. not_unnamed old.operations op (stood_of op) (sym (ap (λ before. not (is_closed_of_client before)) (stands op)) ∙ fits) (tied.stands op) none.0)
        (λ line retried. stay stood_of old new said tied did.keeps.operations)
    line_said earlier stands (LoseRequest id n) fits did = quiet stood_of old new said tied did.none (ap (λ (run : Run). run.operations) did.rest)
    line_said earlier stands (LoseReply id n) fits did = quiet stood_of old new said tied did.none (ap (λ (run : Run). run.operations) did.rest)
    line_said earlier stands (StoreFail n) fits did = quiet stood_of old new said tied did.1 (ap (λ (run : Run). run.operations) did.0.rest)
    line_said earlier stands (StoreHide label height) fits did = quiet stood_of old new said tied did.1 (ap (λ (run : Run). run.operations) did.0.0)
    line_said earlier stands (StoreStale label height from) fits did = quiet stood_of old new said tied did.1 (ap (λ (run : Run). run.operations) did.0.0)
    line_said earlier stands (StoreFork label height) fits did = quiet stood_of old new said tied did.1 (ap (λ (run : Run). run.operations) did.0.0)
    line_said earlier stands StoreHonest fits did = quiet stood_of old new said tied did.1 (ap (λ (run : Run). run.operations) did.0.rest)
    line_said earlier stands (RawAppend id label height payload number) fits did = spoke stood_of old new said tied did.line did.one (ap (λ (run : Run). run.operations) did.rest)
    line_said earlier stands (RawLatest id label number) fits did = spoke stood_of old new said tied did.line did.one (ap (λ (run : Run). run.operations) did.rest)
    line_said earlier stands (RawShow id label) fits did = spoke stood_of old new said tied did.line did.one (ap (λ (run : Run). run.operations) did.rest)
    line_said earlier stands (RawFinalize id ids) fits did = absurd did
    line_said earlier stands (Offer op ids) fits did =
        said_or (NoneReads old.operations op × (new ≡ old)) (Offered key left accepts checks old new op ids)
        (λ other. if bytes_eq other op then closed (stood_of other) else stood_of other) new.operations said did.told
        (λ none. not_unread old.operations op (stood_of op) (sym (ap (λ before. not (is_open_latest before)) (stands op)) ∙ fits) (tied.stands op) none.0)
        (λ line told. offered op ids line told)
    line_said earlier stands (Forge op count ids) fits did =
        said_or (NoneReads old.operations op × (new ≡ old)) (Forges key left size signs fit accepts key_of left_of checks old new said op count ids)
        (λ other. if bytes_eq other op then closed (stood_of other) else stood_of other) new.operations said did.told
        (λ none. not_unread old.operations op (stood_of op) (sym (ap (λ before. not (is_open_latest before)) (stands op)) ∙ fits) (tied.stands op) none.0)
        (λ line told. closes stood_of old new said tied op told.forged.given.place told.forged.given.begun told.forged.given.found told.forged.given.closed)
    line_said earlier stands End fits did = quiet stood_of old new said tied did.1 (ap (λ (run : Run). run.operations) did.0)

  lines_said : (commands earlier : List Command) (stood_of : List ℕ → Stood) (old new : Run) (printed : List (List ℕ)) → AllFit earlier commands → ((name : List ℕ) → StandsAs earlier name (stood_of name))
      → AreTied stood_of old.operations → Runs key left size signs fit accepts key_of left_of checks commands old new printed → length printed ≡ count_by says_line commands
  lines_said [] earlier stood_of old new printed fits stands tied runs = ap length runs.1
  lines_said (command ∷ commands) earlier stood_of old new printed fits stands tied runs =
      let one = line_said stood_of old runs.0 runs.1 tied earlier stands command fits.0.stands runs.3 in
      let more = lines_said commands (earlier ++ command ∷ []) (λ name. stood_after name (stood_of name) command) runs.0 new runs.2 fits.1
      (λ name. stands_after earlier name (stood_of name) command (stands name)) one.1 runs.4 in
      let both : length printed ≡ length runs.1 + length runs.2 = ap length runs.5 ∙ length-append runs.1 runs.2 in
      omega (arith, both, one.0, more, count_first command commands)

  -- Some first lines of a good script that begin with no operation print one line each, or none.
  pub one_line_each : (script front rest : List Command) (first last : Run) (printed : List (List ℕ)) → AllFit [] script → script ≡ front ++ rest
      → first.operations ≡ record { all = []; names = []; open_from = 0 } → Runs key left size signs fit accepts key_of left_of checks front first last printed
      → length printed ≡ count_by says_line front
  one_line_each script front rest first last printed fits split none runs =
      let whole : AllFit [] (front ++ rest) = subst (λ (commands : List Command). AllFit [] commands) split fits in
      let tied : AreTied (λ name. Unbegun) first.operations = subst (λ (operations : Operations). AreTied (λ name. Unbegun) operations) (sym none) none_tied in
      lines_said front [] (λ name. Unbegun) first last printed (fit_front [] front rest whole) (λ name. refl) tied runs
