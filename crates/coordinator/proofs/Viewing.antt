-- A whole call for views.
use Rattle.std.proofs.Common.{◌≡◌, ◌⊎◌, inl, inr, ℕ, suc, ◌+◌, ◌-◌, ◌<◌, max, List, [], ◌∷◌, ◌++◌, length, Result, Ok, Err, refl, sym, ap, ◌∙◌, subst, arith}
use Rattle.std.proofs.lemmas.List.{append_assoc}
use Rattle.std.specs.Prelude.{zero, Vec}
use Rattle.statement.specs.declared.member.Member.{Member}
use Rattle.statement.specs.declared.view_block.ViewBlock.{ViewBlock}
use Rattle.port.specs.declared.refusal.Refusal.{Refusal}
use Rattle.port.specs.declared.store_answers.Got.{Got}
use Rattle.port.specs.declared.store_answers.Got.TheVariants as gots
use Rattle.port.specs.Cause.{Cause, NoMemory, cause_of}
use Rattle.port.specs.Cause as causes
use Rattle.port.specs.Link.{LinkView}
use Rattle.port.specs.Service.{knew}
use Rattle.port.specs.Store.{StoreView}
use Rattle.port.specs.Trace.{Event, Had, Ran}
use Rattle.port.specs.View.{ViewRow}
use Rattle.view_ledger.specs.Views.{ViewChain}
use Rattle.view_ledger.specs.Receipts.{Accepts}
use Rattle.op_parts.specs.Refresh.{GaveView, GaveFinals, Grew, HasGrown}
use Rattle.op_parts.specs.RefreshSays.{GaveNoView}
use Rattle.op_parts.specs.RefreshSound.{Sound, IsHalfway, key_of}
use Rattle.op_parts.specs.RefreshState.{RefreshState, AtView, AtFinals, AtEnd}
use Rattle.op_entry.specs.Laws.{IsRefreshGet}
use Rattle.op_entry.specs.OwnRow.{get_of}
use Rattle.op_entry.specs.Sound.{Refreshed, WasRefreshRefused}
use Rattle.coordinator.specs.ViewsGot.{Asked, AreGot, finals_event}
use Rattle.coordinator.specs.Views.{first_got, with_first, AreBegun, ViewsSay, OwnGets, ViewsServed}
use Rattle.coordinator.specs.ViewsRun.{WasRefused, WasCut, HasGot, ViewsRan, rows_answer}
use Rattle.coordinator.specs.Says.{SaysOfViews}
use Rattle.coordinator.specs.State.{State}
use Rattle.coordinator.proofs.Running.{asked_more, ran_at_store}

-- own calls
own_newest : (event : Event) (past : List Event) → IsRefreshGet event → OwnGets past → OwnGets (event ∷ past)
own_newest event past one all other (inl is) = subst (λ (e : Event). IsRefreshGet e) is one
own_newest event past one all other (inr had) = all other had

own_split : (calls before : List Event) → OwnGets calls → OwnGets before → OwnGets (calls ++ before)
own_split [] before own rest = rest
own_split (event ∷ calls) before own rest = own_newest event (calls ++ before) (own event (inl refl)) (own_split calls before (λ other had. own other (inr had)) rest)

own_view : (number : ℕ) (bytes : List ℕ) (event : Event) → GaveView number bytes event → IsRefreshGet event
own_view number bytes event gave = (number, gots.Some gave.0, inl gave.1)

own_finals : (number : ℕ) (bytes : List ℕ) (event : Event) → GaveFinals number bytes event → IsRefreshGet event
own_finals number bytes event gave = (number, gots.Some gave.0, inr gave.1)

own_no_view : (number : ℕ) (event : Event) → GaveNoView number event → IsRefreshGet event
own_no_view number event (inl is) = (number, gots.None, inl is)
own_no_view number event (inr is) = (number, gots.Some is.0, inl is.1)

module _ (accepts : Accepts) (from : ViewChain) where
  own_grew : (chain : ViewChain) (past : List Event) → Grew accepts from past chain → OwnGets past
  own_grew chain [] grew = λ other had. absurd had
  own_grew chain (second ∷ []) grew = absurd grew
  own_grew chain (second ∷ first ∷ past) grew =
      own_newest second (first ∷ past) (own_finals _ grew.3.bytes second grew.3.given)
      (own_newest first past (own_view _ grew.3.body first grew.3.view) (own_grew grew.0 past grew.2))

  module _ (chain : ViewChain) where
    own_refreshed : (past : List Event) → Refreshed accepts from chain past → OwnGets past
    own_refreshed past fresh = subst (λ (l : List Event). OwnGets l) (sym fresh.2) (own_newest fresh.0 fresh.1 (own_no_view _ fresh.0 fresh.4) (own_grew chain fresh.1 fresh.3))

    own_halfway : (body : List ℕ) (block : ViewBlock) (config : List Member) (past : List Event) → IsHalfway accepts from body block config chain past → OwnGets past
    own_halfway body block config [] half = absurd half
    own_halfway body block config (event ∷ past) half = own_newest event past (own_view _ body event half.1) (own_grew chain past half.0)

    own_sound : (refresh : RefreshState) (past : List Event) → Sound accepts from refresh chain past → OwnGets past
    own_sound AtView past sound = own_grew chain past sound
    own_sound (AtFinals body block config) past sound = own_halfway body block config past sound
    own_sound AtEnd [] sound = absurd sound
    own_sound AtEnd (event ∷ past) (inl ended) = own_newest event past (length chain.configs, ended.1.0, inl ended.1.1) (own_grew chain past ended.0)
    own_sound AtEnd (event ∷ past) (inr ended) = own_newest event past (length chain.configs, ended.4.0, inr ended.4.1) (own_halfway ended.0 ended.1 ended.2 past ended.3)

    own_key : (refresh : RefreshState) (got : Got) → IsRefreshGet (get_of (key_of refresh chain) got)
    own_key AtView got = (length chain.configs, got, inl refl)
    own_key (AtFinals body block config) got = (length chain.configs, got, inr refl)
    own_key AtEnd got = (length chain.configs, got, inl refl)

    own_refused : (cause : Cause) (past : List Event) → WasRefreshRefused accepts from chain cause past → OwnGets past
    own_refused cause past was = subst (λ (l : List Event). OwnGets l) (sym was.3) (own_newest _ was.2 (own_key was.0 was.1) (own_sound was.0 was.2 was.4))

    own_got : (first : ℕ) (rows : List ViewRow) (past : List Event) → AreGot accepts chain first rows past → OwnGets past
    own_got first rows [] got = λ other had. absurd had
    own_got first rows (event ∷ past) got = own_newest event past (own_finals _ got.3.bytes event got.3.given) (own_got first got.1 past got.4)

    -- how the chain grew
    and_newest : (event : Event) (past : List Event) → HasGrown accepts from chain past → HasGrown accepts from chain (event ∷ past)
    and_newest event past grown = (event ∷ grown.0, grown.1, ap (λ (l : List Event). event ∷ l) grown.2, grown.3)

    and_calls : (calls before : List Event) → HasGrown accepts from chain before → HasGrown accepts from chain (calls ++ before)
    and_calls calls before grown = (calls ++ grown.0, grown.1, ap (λ (l : List Event). calls ++ l) grown.2 ∙ sym (append_assoc calls grown.0 grown.1), grown.3)

    grown_refreshed : (past : List Event) → Refreshed accepts from chain past → HasGrown accepts from chain past
    grown_refreshed past fresh = (fresh.0 ∷ [], fresh.1, fresh.2, fresh.3)

-- the law of refreshes
abbrev pub Growing : Type 0
Growing = (accepts : Accepts) (from chain : ViewChain) (refresh : RefreshState) (past : List Event) → Sound accepts from refresh chain past → HasGrown accepts from chain past

grown_refused : Growing → (accepts : Accepts) (from chain : ViewChain) (cause : Cause) (past : List Event) → WasRefreshRefused accepts from chain cause past → HasGrown accepts from chain past
grown_refused law accepts from chain cause past was =
    subst (λ (l : List Event). HasGrown accepts from chain l) (sym was.3) (and_newest accepts from chain _ was.2 (law accepts from chain was.0 was.2 was.4))

begun_with : (chain : ViewChain) (n : ℕ) (above : List ViewRow) → with_first chain n [] ++ above ≡ with_first chain n above
begun_with chain zero above = refl
begun_with chain (suc n) above = refl

module _ {S : Type 0} (law : Growing) (accepts : Accepts) (sv : S → StoreView) (n : ℕ) (from chain : ViewChain) (s : S) where
  abbrev Answers : S → Result (List ViewRow) Cause → Type 0
  Answers s' answer = ViewsRan accepts sv n from s chain s' answer

  pub refresh_refused : (s' : S) (cause : Cause) (past : List Event) → Asked sv s past s' → WasRefreshRefused accepts from chain cause past → Answers s' (Err cause)
  refresh_refused s' cause past asked was = (past, asked, record { own = own_refused accepts from chain cause past was; grown = grown_refused law accepts from chain cause past was; says = inl was })

  module _ (m : S) (before : List Event) (asked : Asked sv s before m) (fresh : Refreshed accepts from chain before) where
    abbrev begun : (rows : List ViewRow) (calls : List Event) → AreGot accepts chain (first_got n) rows calls → AreBegun accepts from chain (first_got n) rows (calls ++ before)
    begun rows calls got = record { calls = calls; before = before; split = refl; refreshed = fresh; got = got }

    -- by calls that got views, and then what they say
    with_calls : (s' : S) (calls : List Event) (answer : Result (List ViewRow) Cause) → Asked sv m calls s' → OwnGets calls → ViewsSay accepts from chain n (calls ++ before) answer → Answers s' answer
    with_calls s' calls answer more own says = (
      calls ++ before,
      asked_more sv s m s' before calls asked more,
      record {
        own = own_split calls before own (own_refreshed accepts from chain before fresh);
        grown = and_calls accepts from chain calls before (grown_refreshed accepts from chain before fresh);
        says = says;
      },
    )

    pub stopped : Answers m (Err NoMemory)
    stopped = with_calls m [] (Err NoMemory) refl (λ other had. absurd had) (inr (inr ([], begun [] [] refl)))

    all_got : (s' : S) (rows : List ViewRow) → HasGot accepts sv chain (first_got n) (with_first chain n []) m s' (Ok rows) → Answers s' (Ok rows)
    all_got s' rows has =
        with_calls s' has.2.calls (Ok rows) has.2.asked (own_got accepts from chain (first_got n) has.0 has.2.calls has.2.got)
        (record { above = has.0; is = has.1 ∙ begun_with chain n has.0; begun = begun has.0 has.2.calls has.2.got; all = has.3 })

    one_refused : (s' : S) (cause : Cause) → WasRefused accepts sv chain (first_got n) m s' cause → Answers s' (Err cause)
    one_refused s' cause was =
        with_calls s' (finals_event (first_got n + length was.rows) was.got ∷ was.past) (Err cause) was.asked
        (own_newest _ was.past (first_got n + length was.rows, was.got, inr refl) (own_got accepts from chain (first_got n) was.rows was.past was.are))
        (inr (inl (record { got = was.got; past = was.past ++ before; rows = was.rows; begun = begun was.rows was.past was.are; known = was.known; newest = refl; refused = was.refused })))

    was_cut : (s' : S) (cause : Cause) → WasCut accepts sv chain (first_got n) m s' cause → Answers s' (Err cause)
    was_cut s' causes.NoMemory cut =
        with_calls s' cut.1.calls (Err NoMemory) cut.1.asked (own_got accepts from chain (first_got n) cut.0 cut.1.calls cut.1.got) (inr (inr (cut.0, begun cut.0 cut.1.calls cut.1.got)))
    was_cut s' cause cut = absurd cut

    not_got : (s' : S) (cause : Cause) → HasGot accepts sv chain (first_got n) (with_first chain n []) m s' (Err cause) → Answers s' (Err cause)
    not_got s' cause (inl was) = one_refused s' cause was
    not_got s' cause (inr cut) = was_cut s' cause cut

    pub got : (s' : S) (answer : Result (List ViewRow) Cause) → HasGot accepts sv chain (first_got n) (with_first chain n []) m s' answer → Answers s' answer
    got s' (Ok rows) has = all_got s' rows has
    got s' (Err cause) has = not_got s' cause has

module _ {S L C : Type 0} (accepts : C → Accepts) (sv : S → StoreView) (lv : L → LinkView) (n : ℕ) where
  -- as the call of a coordinator
  pub views_served : {A : Type 0} (old new : State S L C) (chain : ViewChain) (said : Result (Vec ViewRow A) Refusal) → chain ≡ old.chain → new.link ≡ old.link → new.checker ≡ old.checker
      → ViewsRan (accepts old.checker) sv n chain old.store new.chain new.store (rows_answer said) → SaysOfViews accepts sv lv old new n (knew said)
  views_served old new chain (Ok rows) is linked same ran =
      record {
        events = ran.0;
        ran = subst (λ (l : L). Ran sv lv old.store old.link ran.0 new.store l) (sym linked) (ran_at_store sv lv old.store new.store old.link ran.0 ran.1);
        checker = same;
        did = subst (λ (c : ViewChain). ViewsServed (accepts old.checker) n c new.chain ran.0 (Ok rows.items)) is ran.2;
      }
  views_served old new chain (Err refusal) is linked same ran =
      record {
        events = ran.0;
        ran = subst (λ (l : L). Ran sv lv old.store old.link ran.0 new.store l) (sym linked) (ran_at_store sv lv old.store new.store old.link ran.0 ran.1);
        checker = same;
        did = subst (λ (c : ViewChain). ViewsServed (accepts old.checker) n c new.chain ran.0 (Err (cause_of refusal))) is ran.2;
      }
