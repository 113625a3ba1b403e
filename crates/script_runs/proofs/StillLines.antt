-- Lines that ask no endorser, and those that ask one directly.
use Rattle.std.proofs.Common.{◌≡◌, ◌⊎◌, inl, inr, ℕ, Bool, true, false, List, [], ◌∷◌, ◌++◌, if◌then◌else◌, None, refl, sym, ap, subst, ◌∙◌}
use Rattle.std.proofs.lemmas.Bool.{cases_Bool}
use Rattle.blob_store.specs.declared.lying_store.LyingStore.{LyingStore}
use Rattle.blob_store.specs.LyingStore.{held_in}
use Rattle.blob_store.specs.declared.lie.Lie.TheVariants as lies
use Rattle.chain_block.specs.Entry.{entry_digest}
use Rattle.coordinator.specs.Entries.{later_entry}
use Rattle.fault_script.specs.Command.{Command, RawAppend, RawLatest, RawShow, Restart, StoreFail, StoreFork, StoreHide, StoreHonest, StoreStale}
use Rattle.port.specs.declared.key.Key.{Key}
use Rattle.port.specs.Answer.{Answer, Behind, BadProof, BadView, Denial, Done, Finaled, Full, HasEnded, LogFull, NotGenesis, NotMember, OtherNext, OtherTail, Refused, Shown, Signed, Spent, Stands, Tall, WrongPhase, kept}
use Rattle.port.specs.Call.{Append, Call, Latest, Show}
use Rattle.port.specs.Contents.{is_same_key}
use Rattle.port.specs.Link.{Served, served_after}
use Rattle.view_ledger.specs.Receipts.{Accepts}
use Rattle.endorser_cell.specs.BankLine.{BankLine, asked_line, served_by, serving}
use Rattle.endorser_cell.specs.CellBank.{CellBank}
use Rattle.endorser_cell.specs.declared.losses.Loss.{Loss}
use Rattle.script_operations.specs.Operations.{Begun, Operations}
use Rattle.script_world.specs.Labels.{handle_for}
use Rattle.script_world.specs.Nonce.{nonce}
use Rattle.script_world.specs.Raw.{AnsweredRaw, AppendedRaw}
use Rattle.script_world.specs.Running.{Running, world_of}
use Rattle.script_runs.specs.CallRules.{IsAppendOf, IsForked, OwnAdds, ServesOnce, forks_by, outside}
use Rattle.script_runs.specs.OwnCalls.{WasDrawn, is_raw, served_in}
use Rattle.script_runs.specs.Runs.{DidLose, DidRaw, DidRestart, EndsLies, FailsMore, Lies, row_at}
use Rattle.script_runs.proofs.DrawnEntries.{ClientsGrow, HandlesFit, drawn_more, grow_not}
use Rattle.script_runs.proofs.LinkCalls.{AllOf, served_split}
use Rattle.script_runs.proofs.OpenCalls.{AllGo}
use Rattle.script_runs.proofs.RunFacts.{Did, HeldCall, Invariant, all_held, facts_lift, lift_held}
use Rattle.script_runs.proofs.StandingRows.{same_key}

served_append : (past : List Served) (log more : List BankLine) → served_by past (log ++ more) ≡ served_by (served_by past log) more
served_append past [] more = refl
served_append past (line ∷ log) more = served_append (serving line line.answer past) log more

module _ (id : ℕ) (P : Call → Type 0) (call : Call) (is : P call) where
  once_refused : (denial : Denial) → ServesOnce id P (served_after [] id call (Refused denial))
  once_refused (Behind count) = (refl, is, refl)
  once_refused (Stands count tail) = (refl, is, refl)
  once_refused (OtherTail tail) = (refl, is, refl)
  once_refused NotGenesis = (refl, is, refl)
  once_refused Full = (refl, is, refl)
  once_refused Tall = (refl, is, refl)
  once_refused NotMember = (refl, is, refl)
  once_refused BadView = (refl, is, refl)
  once_refused (BadProof cause) = (refl, is, refl)
  once_refused (WrongPhase phase) = (refl, is, refl)
  once_refused (HasEnded statement sig) = (refl, is, refl)
  once_refused (OtherNext next) = (refl, is, refl)
  once_refused Spent = (refl, is, refl)
  once_refused LogFull = tt

  once : (answer : Answer) → ServesOnce id P (served_after [] id call answer)
  once Done = (refl, is, refl)
  once (Signed statement sig) = (refl, is, refl)
  once (Finaled statement sig map) = (refl, is, refl)
  once (Shown phase number tail count) = (refl, is, refl)
  once (Refused denial) = once_refused denial

module _ {S C : Type 0} (key : S → List ℕ) (left : S → ℕ) (accepts : C → Accepts) (checks : Accepts) where
  abbrev Run : Type 0
  Run = Running (CellBank S C) C

  -- What a line leaves as it is that asks no endorser, or one directly.
  pub record Still (forked forked' : List Key) (old new : Run) : Type 0 where
    pub clients : ClientsGrow old.clients new.clients
    pub contents : (held_in new.state.store).contents ≡ (held_in old.state.store).contents
    pub more : (key : Key) → IsForked forked key → IsForked forked' key
    pub forks : (key : Key) → (held_in new.state.store).forks key ≡ true → IsForked forked' key
    pub fresh : new.state.link.fresh ≡ true
    pub operations : AllGo checks (WasDrawn new.clients) forked' (held_in new.state.store).contents old.operations.all → AllGo checks (WasDrawn new.clients) forked' (held_in new.state.store).contents new.operations.all
    pub handles : HandlesFit (world_of new).labels
    pub checker : accepts new.state.checker ≡ checks

  still_facts : (forked forked' : List Key) (earlier : List Served) (old new : Run) → Still forked forked' old new → Invariant key left accepts checks forked earlier old → Invariant key left accepts checks forked' earlier new
  still_facts forked forked' earlier old new still invariant =
      let facts = facts_lift key left accepts checks (WasDrawn old.clients) (WasDrawn new.clients) forked forked' earlier old.state new.state old.operations.all (drawn_more old.clients new.clients still.clients)
      still.more still.contents still.forks still.fresh invariant.facts in
      record {
        facts = record { seen = facts.seen; going = still.operations facts.going; held = facts.held };
        handles = still.handles;
        checker = still.checker;
      }

  still_held : (forked forked' : List Key) (earlier : List Served) (old new : Run) → Still forked forked' old new → Invariant key left accepts checks forked earlier old
      → AllOf (HeldCall (WasDrawn new.clients) forked (held_in new.state.store).contents) earlier
  still_held forked forked' earlier old new still invariant =
      all_held (WasDrawn old.clients) (WasDrawn new.clients) forked forked (held_in old.state.store).contents (held_in new.state.store).contents
      (lift_held (WasDrawn old.clients) (WasDrawn new.clients) forked forked (drawn_more old.clients new.clients still.clients) (λ key is. is) (held_in old.state.store).contents (held_in new.state.store).contents still.contents)
      earlier invariant.facts.held

  -- a line that asks no endorser
  pub still_did : (forked : List Key) (earlier : List Served) (command : Command) (old new : Run) → is_raw command ≡ false → OwnAdds old command [] → served_in new ≡ served_in old
      → Still forked (forks_by old command forked) old new → Invariant key left accepts checks forked earlier old → Did key left accepts checks forked earlier command old new
  still_did forked earlier command old new raw own same still invariant = record {
    more = [];
    served = same;
    own = own;
    drawn = λ is. tt;
    held = subst (λ (b : Bool). AllOf (HeldCall (WasDrawn new.clients) forked (held_in new.state.store).contents) (outside b [] earlier)) (sym raw) (still_held forked (forks_by old command forked) earlier old new still invariant);
    invariant = subst (λ (b : Bool). Invariant key left accepts checks (forks_by old command forked) (outside b [] earlier) new) (sym raw)
        (still_facts forked (forks_by old command forked) earlier old new still invariant);
  }

  -- a line that asks an endorser directly
  module _ (forked : List Key) (earlier : List Served) (command : Command) (old new : Run) (raw : is_raw command ≡ true) (fork : forks_by old command forked ≡ forked)
      (id : ℕ) (call : Call) (answer : Answer) (noted : new.state.link.log ≡ old.state.link.log ++ asked_line None id call answer true ∷ []) where
    pub direct_did : OwnAdds old command (served_after [] id call (kept answer)) → Still forked forked old new → Invariant key left accepts checks forked earlier old → Did key left accepts checks forked earlier command old new
    direct_did own still invariant =
        let more = served_after [] id call (kept answer) in
        record {
          more = more;
          served = ap (λ (log : List BankLine). served_by [] log) noted ∙ served_append [] old.state.link.log (asked_line None id call answer true ∷ []) ∙ served_split [] (served_by [] old.state.link.log) id call (kept answer);
          own = own;
          drawn = λ is. absurd (let r = raw in cc (is, r));
          held = subst (λ (b : Bool). AllOf (HeldCall (WasDrawn new.clients) forked (held_in new.state.store).contents) (outside b more earlier)) (sym raw) (still_held forked forked earlier old new still invariant);
          invariant = subst (λ (b : Bool). Invariant key left accepts checks (forks_by old command forked) (outside b more earlier) new) (sym raw)
              (subst (λ (f : List Key). Invariant key left accepts checks f earlier new) (sym fork) (still_facts forked forked earlier old new still invariant));
        }

  -- ---- what such lines leave

  module _ (forked : List Key) (earlier : List Served) (old new : Run) (invariant : Invariant key left accepts checks forked earlier old) where
    -- but for the store and the link all is as it was
    abbrev Rest : Type 0
    Rest = (new.clients ≡ old.clients) × (new.operations.all ≡ old.operations.all) × ((world_of new).labels ≡ (world_of old).labels) × (new.state.checker ≡ old.state.checker)

    still_by : (forked' : List Key) → Rest → (held_in new.state.store).contents ≡ (held_in old.state.store).contents → ((key : Key) → IsForked forked key → IsForked forked' key)
        → ((key : Key) → (held_in new.state.store).forks key ≡ true → IsForked forked' key) → new.state.link.fresh ≡ old.state.link.fresh → Still forked forked' old new
    still_by forked' (clients, all, labels, checker) contents more forks fresh = record {
      clients = grow_not old.clients new.clients clients;
      contents = contents;
      more = more;
      forks = forks;
      fresh = fresh ∙ invariant.facts.seen.fresh;
      operations = λ going. subst (λ (a : List Begun). AllGo checks (WasDrawn new.clients) forked' (held_in new.state.store).contents a) (sym all) going;
      handles = subst HandlesFit (sym labels) invariant.handles;
      checker = ap accepts checker ∙ invariant.checker;
    }

    abbrev forks_old : (key : Key) → (held_in old.state.store).forks key ≡ true → IsForked forked key
    forks_old = invariant.facts.seen.sound.forks

    pub by_link : new ≡ record old { state = record old.state { link = new.state.link } } → new.state.link.fresh ≡ old.state.link.fresh → Still forked forked old new
    by_link rest fresh =
        let store : new.state.store ≡ old.state.store = ap (λ (r : Run). r.state.store) rest in
        still_by forked (ap (λ (r : Run). r.clients) rest, ap (λ (r : Run). r.operations.all) rest, ap (λ (r : Run). (world_of r).labels) rest, ap (λ (r : Run). r.state.checker) rest)
        (ap (λ (s : LyingStore). (held_in s).contents) store) (λ key is. is) (λ key is. forks_old key (ap (λ (s : LyingStore). (held_in s).forks key) (sym store) ∙ is)) fresh

    by_store : (forked' : List Key) → new ≡ record old { state = record old.state { store = new.state.store } } → (held_in new.state.store).contents ≡ (held_in old.state.store).contents
        → ((key : Key) → IsForked forked key → IsForked forked' key) → ((key : Key) → (held_in new.state.store).forks key ≡ true → IsForked forked' key) → Still forked forked' old new
    by_store forked' rest contents more forks =
        still_by forked' (ap (λ (r : Run). r.clients) rest, ap (λ (r : Run). r.operations.all) rest, ap (λ (r : Run). (world_of r).labels) rest, ap (λ (r : Run). r.state.checker) rest)
        contents more forks (ap (λ (r : Run). r.state.link.fresh) rest)

    served_store : new ≡ record old { state = record old.state { store = new.state.store } } → served_in new ≡ served_in old
    served_store rest = ap (λ (r : Run). served_in r) rest

    same_forks : (held_in new.state.store).forks ≡ (held_in old.state.store).forks → (key : Key) → (held_in new.state.store).forks key ≡ true → IsForked forked key
    same_forks same key is = forks_old key (sym (ap (λ (f : Key → Bool). f key) same) ∙ is)

    abbrev After : Command → Type 0
    After command = Did key left accepts checks forked earlier command old new

    pub fail_did : (n : ℕ) → FailsMore old new n → After (StoreFail n)
    fail_did n did = still_did forked earlier (StoreFail n) old new refl refl (served_store did.rest) (by_store forked did.rest did.contents (λ key is. is) (same_forks did.forks)) invariant

    pub honest_did : EndsLies old new → After StoreHonest
    honest_did did = still_did forked earlier StoreHonest old new refl refl (served_store did.rest)
        (by_store forked did.rest did.contents (λ key is. is) (λ key is. absurd (let none = ap (λ (f : Key → Bool). f key) did.forks in cc (none, is)))) invariant

    pub hide_did : (label : List ℕ) (height : ℕ) → Lies old new (lies.Hide (row_at old new label height)) → After (StoreHide label height)
    hide_did label height (rest, did) = still_did forked earlier (StoreHide label height) old new refl refl (served_store rest) (by_store forked rest did.held (λ key is. is) (same_forks did.forks)) invariant

    pub stale_did : (label : List ℕ) (height from : ℕ) → Lies old new (lies.Stale (row_at old new label height) (row_at old new label from)) → After (StoreStale label height from)
    stale_did label height from (rest, did) = still_did forked earlier (StoreStale label height from) old new refl refl (served_store rest) (by_store forked rest did.held (λ key is. is) (same_forks did.forks)) invariant

    pub fork_did : (label : List ℕ) (height : ℕ) → Lies old new (lies.Fork (row_at old new label height)) → After (StoreFork label height)
    fork_did label height (rest, did) = still_did forked earlier (StoreFork label height) old new refl refl (served_store rest) (by_store (row_at old new label height ∷ forked) rest did.held (λ key is. inr is) forks) invariant
      where
        forks : (key : Key) → (held_in new.state.store).forks key ≡ true → IsForked (row_at old new label height ∷ forked) key
        forks key is = by (cases_Bool (is_same_key (row_at old new label height) key))
          where
            now : (if is_same_key (row_at old new label height) key then true else (held_in old.state.store).forks key) ≡ true
            now = sym (ap (λ (f : Key → Bool). f key) did.forks) ∙ is

            by : (is_same_key (row_at old new label height) key ≡ true) ⊎ (is_same_key (row_at old new label height) key ≡ false) → IsForked (row_at old new label height ∷ forked) key
            by (inl same) = inl (same_key (row_at old new label height) key same)
            by (inr other) = inr (forks_old key (sym (ap (λ (b : Bool). if b then true else (held_in old.state.store).forks key) other) ∙ now))

    pub restart_did : DidRestart old new → After Restart
    restart_did did =
        let store : new.state.store ≡ old.state.store = ap (λ s. s.store) did.restarted.state in
        let link : new.state.link ≡ old.state.link = ap (λ s. s.link) did.restarted.state in
        still_did forked earlier Restart old new refl refl (ap (λ (l : CellBank S C). served_by [] l.log) link)
        (still_by forked (did.restarted.clients, ap (λ (o : Operations). o.all) did.closed, did.restarted.labels, ap (λ s. s.checker) did.restarted.state)
        (ap (λ (s : LyingStore). (held_in s).contents) store) (λ key is. is) (λ key is. forks_old key (ap (λ (s : LyingStore). (held_in s).forks key) (sym store) ∙ is)) (ap (λ (l : CellBank S C). l.fresh) link)) invariant

    -- nothing was done
    pub same_did : (command : Command) → is_raw command ≡ false → forks_by old command forked ≡ forked → OwnAdds old command [] → new ≡ old → After command
    same_did command raw fork own same =
        still_did forked earlier command old new raw own (ap (λ (r : Run). served_in r) same)
        (subst (λ (f : List Key). Still forked f old new) (sym fork) (subst (λ (r : Run). Still forked forked old r) (sym same) (itself old))) invariant
      where
        itself : (run : Run) → Still forked forked old old
        itself run = record {
          clients = grow_not old.clients old.clients refl;
          contents = refl;
          more = λ key is. is;
          forks = forks_old;
          fresh = invariant.facts.seen.fresh;
          operations = λ going. going;
          handles = invariant.handles;
          checker = invariant.checker;
        }

    module _ (size : S → ℕ) (signs : S → List ℕ → List ℕ → S → Type 0) (fit : S → C → Type 0) (said : List (List ℕ)) where
      -- so many more calls are lost
      pub lose_did : (command : Command) (id n : ℕ) (which : Loss) → is_raw command ≡ false → forks_by old command forked ≡ forked → OwnAdds old command [] → DidLose key left size signs fit accepts checks old new said id which n → After command
      lose_did command id n which raw fork own did =
          still_did forked earlier command old new raw own (ap (λ (log : List BankLine). served_by [] log) did.log)
          (subst (λ (f : List Key). Still forked f old new) (sym fork) (by_link did.rest did.fresh)) invariant

      pub raw_append_did : (id : ℕ) (label : List ℕ) (height : ℕ) (payload : List ℕ) (number : ℕ)
          → DidRaw key left size signs fit accepts checks old new said (AppendedRaw key left size signs fit old.state new.state.link id (handle_for (world_of old).labels label) height (nonce number) payload)
          → After (RawAppend id label height payload number)
      raw_append_did id label height payload number did =
          let handle = handle_for (world_of old).labels label in
          let entry = entry_digest (later_entry handle height (nonce number) payload) in
          let call = Append handle did.answers.prev entry height in
          direct_did forked earlier (RawAppend id label height payload number) old new refl refl id call did.answers.answered.answer did.answers.answered.asks.noted
          (once id (IsAppendOf handle height entry) call (refl, refl, refl) (kept did.answers.answered.answer)) (by_link did.rest did.fresh) invariant

      pub raw_latest_did : (id : ℕ) (label : List ℕ) (number : ℕ)
          → DidRaw key left size signs fit accepts checks old new said (AnsweredRaw key left size signs fit old.state.link new.state.link id (Latest (handle_for (world_of old).labels label) (nonce number)))
          → After (RawLatest id label number)
      raw_latest_did id label number did =
          let call = Latest (handle_for (world_of old).labels label) (nonce number) in
          direct_did forked earlier (RawLatest id label number) old new refl refl id call did.answers.answer did.answers.asks.noted
          (once id (λ c. c ≡ call) call refl (kept did.answers.answer)) (by_link did.rest did.fresh) invariant

      pub raw_show_did : (id : ℕ) (label : List ℕ)
          → DidRaw key left size signs fit accepts checks old new said (AnsweredRaw key left size signs fit old.state.link new.state.link id (Show (handle_for (world_of old).labels label)))
          → After (RawShow id label)
      raw_show_did id label did =
          let call = Show (handle_for (world_of old).labels label) in
          direct_did forked earlier (RawShow id label) old new refl refl id call did.answers.answer did.answers.asks.noted
          (once id (λ c. c ≡ call) call refl (kept did.answers.answer)) (by_link did.rest did.fresh) invariant
