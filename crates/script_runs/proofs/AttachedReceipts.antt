-- What is attached to rows of a store: receipts whose marks were signed, as long as calls attach no others.
use Rattle.std.proofs.Common.{◌≡◌, ◌⊎◌, inl, inr, ℕ, Bool, true, false, List, [], ◌∷◌, ◌++◌, if◌then◌else◌, Option, Some, None, sym, subst}
use Rattle.std.specs.List.{AllByRecursion}
use Rattle.statement.specs.Receipt.{Receipt, receipt_bytes}
use Rattle.blob_store.specs.declared.lying_store.LyingStore.{LyingStore}
use Rattle.blob_store.specs.LyingStore.{held_in, lying_view}
use Rattle.port.specs.declared.key.Key.{Key}
use Rattle.port.specs.declared.store_answers.Put.TheVariants as puts
use Rattle.port.specs.declared.store_answers.Got.TheVariants as gots
use Rattle.port.specs.declared.store_answers.Attached.TheVariants as attaches
use Rattle.port.specs.Contents.{Contents, fresh, is_same_key, put, with_attached}
use Rattle.port.specs.Link.{Served}
use Rattle.port.specs.Store.{Answers, Attach, Get, PutNew, StoreAnswer, StoreCall, Truth, WasAttached, WasGot, WasPut}
use Rattle.port.specs.Stored.{Stored}
use Rattle.port.specs.Trace.{AllFollow, AtLink, AtStore, Event, Ran}
use Rattle.view_ledger.specs.Receipts.{Accepts}
use Rattle.endorser_cell.specs.BankLine.{served_by}
use Rattle.endorser_cell.specs.CellBank.{CellBank, bank_view}
use Rattle.script_runs.specs.SignedMarks.{AreSigned}
use Rattle.script_runs.proofs.KeptCalls.{all_append, all_lift}
use Rattle.script_runs.proofs.LinkCalls.{ran_follows, ran_serves}
use Rattle.script_runs.proofs.ReceiptForms.{IsPlain}
use Rattle.script_runs.proofs.SignedCalls.{AllLinkHeard, Signs, links_heard, links_on, receipt_on, signs_first, signs_more, signs_same, signs_then}
use Rattle.script_runs.proofs.StandingRows.{got_from}

-- ---- whatever may be attached

-- where something is attached it may be
abbrev pub MayHave : (List ℕ → Type 0) → Option (List ℕ) → Type 0
MayHave may None = Unit {0}
MayHave may (Some bytes) = may bytes

abbrev pub AllMayHave : (List ℕ → Type 0) → Contents → Type 0
AllMayHave may contents = (key : Key) (stored : Stored) → contents key ≡ Some stored → MayHave may stored.attached

-- what a call attaches may be
abbrev pub Attaches : (List ℕ → Type 0) → Event → Type 0
Attaches may (AtStore (PutNew key body) answer) = Unit {0}
Attaches may (AtStore (Get key) answer) = Unit {0}
Attaches may (AtStore (Attach key bytes) answer) = may bytes
Attaches may (AtLink id call heard) = Unit {0}

-- to what a get gave such is attached
abbrev pub IsGotHeard : (List ℕ → Type 0) → Event → Type 0
IsGotHeard may (AtStore (Get key) (WasGot (gots.Some stored))) = MayHave may stored.attached
IsGotHeard may event = Unit {0}

abbrev pub AllAttach : (List ℕ → Type 0) → List Event → Type 0
AllAttach may events = AllByRecursion (Attaches may) events

abbrev pub AllGotHeard : (List ℕ → Type 0) → List Event → Type 0
AllGotHeard may events = AllByRecursion (IsGotHeard may) events

module _ (may : List ℕ → Type 0) where
  put_has : (contents : Contents) (key : Key) (stored : Stored) → MayHave may stored.attached → AllMayHave may contents → AllMayHave may (put contents key stored)
  put_has contents key stored has all other found is = by (is_same_key key other) is
    where
      by : (b : Bool) → (if b then Some stored else contents other) ≡ Some found → MayHave may found.attached
      by true now = let same : stored ≡ found = cc now in subst (λ (x : Stored). MayHave may x.attached) same has
      by false stood = all other found stood

  step_has : (truth : Truth) (call : StoreCall) (answer : StoreAnswer) (after : Contents) → Answers truth call answer after → Attaches may (AtStore call answer) → AllMayHave may truth.contents → AllMayHave may after
  step_has truth (PutNew key body) (WasPut puts.Done) after is own all = subst (AllMayHave may) (sym is.1) (put_has truth.contents key (fresh body) tt all)
  step_has truth (PutNew key body) (WasPut puts.Taken) after is own all = subst (AllMayHave may) (sym is.2) all
  step_has truth (PutNew key body) (WasPut puts.Failed) after is own all = subst (AllMayHave may) (sym is) all
  step_has truth (PutNew key body) (WasPut puts.NoMemory) after is own all = subst (AllMayHave may) (sym is) all
  step_has truth (Get key) (WasGot (gots.Some stored)) after is own all = subst (AllMayHave may) (sym is.1) all
  step_has truth (Get key) (WasGot gots.None) after is own all = subst (AllMayHave may) (sym is.1) all
  step_has truth (Get key) (WasGot gots.Failed) after is own all = subst (AllMayHave may) (sym is) all
  step_has truth (Get key) (WasGot gots.NoMemory) after is own all = subst (AllMayHave may) (sym is) all
  step_has truth (Attach key bytes) (WasAttached attaches.Done) after (stored, stood, is) own all = subst (AllMayHave may) (sym is) (put_has truth.contents key (with_attached stored bytes) own all)
  step_has truth (Attach key bytes) (WasAttached attaches.Absent) after is own all = subst (AllMayHave may) (sym is.1) all
  step_has truth (Attach key bytes) (WasAttached attaches.Failed) after is own all = subst (AllMayHave may) (sym is) all
  step_has truth (Attach key bytes) (WasAttached attaches.NoMemory) after is own all = subst (AllMayHave may) (sym is) all
  step_has truth call answer after is own all = absurd is

  got_heard : (truth : Truth) (call : StoreCall) (answer : StoreAnswer) (after : Contents) → Answers truth call answer after → AllMayHave may truth.contents → IsGotHeard may (AtStore call answer)
  got_heard truth (Get key) (WasGot (gots.Some stored)) after is all = let from = got_from truth key stored after is in all from.0 stored from.1
  got_heard truth (Get key) (WasGot gots.None) after is all = tt
  got_heard truth (Get key) (WasGot gots.Failed) after is all = tt
  got_heard truth (Get key) (WasGot gots.NoMemory) after is all = tt
  got_heard truth (PutNew key body) answer after is all = tt
  got_heard truth (Attach key bytes) answer after is all = tt
  got_heard truth call answer after is all = absurd is

  follows_has : (events : List Event) (truth after : Truth) → AllFollow truth events after → AllAttach may events → AllMayHave may truth.contents → AllMayHave may after.contents × AllGotHeard may events
  follows_has [] truth after is own all = (subst (λ (t : Truth). AllMayHave may t.contents) (sym is) all, tt)
  follows_has (AtLink id call heard ∷ past) truth after follows own all =
      let before = follows_has past truth after follows own.1 all in (before.0, (tt, before.1))
  follows_has (AtStore call answer ∷ past) truth after (middle, follows, step) own all =
      let before = follows_has past truth middle follows own.1 all in
      (step_has middle call answer after.contents step.contents own.0 before.0, (got_heard middle call answer after.contents step.contents before.0, before.1))

-- ---- receipts whose marks were signed

-- the bytes are no receipt's
abbrev pub IsNoReceipt : List ℕ → Type 0
IsNoReceipt bytes = (receipt : Receipt) → bytes ≡ receipt_bytes receipt → ⊥

-- the bytes are those of such a receipt for a ledger's head in this view, or of none
abbrev pub IsOfReceipt : List ℕ → List Served → List ℕ → Type 0
IsOfReceipt view served bytes = IsNoReceipt bytes ⊎ ((receipt : Receipt) × (bytes ≡ receipt_bytes receipt) × IsPlain view receipt × AreSigned served receipt)

may_on : (may may' : List ℕ → Type 0) → ((bytes : List ℕ) → may bytes → may' bytes) → (attached : Option (List ℕ)) → MayHave may attached → MayHave may' attached
may_on may may' on None has = tt
may_on may may' on (Some bytes) has = on bytes has

got_on : (may may' : List ℕ → Type 0) → ((bytes : List ℕ) → may bytes → may' bytes) → (event : Event) → IsGotHeard may event → IsGotHeard may' event
got_on may may' on (AtStore (Get key) (WasGot (gots.Some stored))) heard = may_on may may' on stored.attached heard
got_on may may' on (AtStore (Get key) (WasGot gots.None)) heard = tt
got_on may may' on (AtStore (Get key) (WasGot gots.Failed)) heard = tt
got_on may may' on (AtStore (Get key) (WasGot gots.NoMemory)) heard = tt
got_on may may' on (AtStore (Get key) (WasPut answer)) heard = tt
got_on may may' on (AtStore (Get key) (WasAttached answer)) heard = tt
got_on may may' on (AtStore (PutNew key body) answer) heard = tt
got_on may may' on (AtStore (Attach key bytes) answer) heard = tt
got_on may may' on (AtLink id call said) heard = tt

module _ (view : List ℕ) (served served' : List Served) (signs : Signs served served') where
  of_receipt_on : (bytes : List ℕ) → IsOfReceipt view served bytes → IsOfReceipt view served' bytes
  of_receipt_on bytes (inl none) = inl none
  of_receipt_on bytes (inr (receipt, is, plain, all)) = inr (receipt, is, plain, receipt_on served served' signs receipt all)

  pub contents_on : (contents : Contents) → AllMayHave (IsOfReceipt view served) contents → AllMayHave (IsOfReceipt view served') contents
  contents_on contents all key stored stood = may_on (IsOfReceipt view served) (IsOfReceipt view served') of_receipt_on stored.attached (all key stored stood)

  pub gots_on : (events : List Event) → AllGotHeard (IsOfReceipt view served) events → AllGotHeard (IsOfReceipt view served') events
  gots_on events all = all_lift (IsGotHeard (IsOfReceipt view served)) (IsGotHeard (IsOfReceipt view served')) (got_on (IsOfReceipt view served) (IsOfReceipt view served') of_receipt_on) events all

-- What calls told is so: what was heard of signatures, and what is attached to what was got.
pub record AreHeard (view : List ℕ) (served : List Served) (events : List Event) : Type 0 where
  pub links : AllLinkHeard served events
  pub gots : AllGotHeard (IsOfReceipt view served) events

pub heard_on : (view : List ℕ) (served served' : List Served) → Signs served served' → (events : List Event) → AreHeard view served events → AreHeard view served' events
heard_on view served served' signs events heard = record { links = links_on served served' signs events heard.links; gots = gots_on view served served' signs events heard.gots }

-- ---- calls over a run's store and link

module _ {S C : Type 0} (key : S → List ℕ) (left : S → ℕ) (accepts : C → Accepts) (view : List ℕ) where
  abbrev pub served_at : CellBank S C → List Served
  served_at l = served_by [] l.log

  -- What is attached to rows are receipts whose marks were signed, and the endorsers tell all that they served.
  pub record IsMarked (s : LyingStore) (l : CellBank S C) : Type 0 where
    pub attached : AllMayHave (IsOfReceipt view (served_at l)) (held_in s).contents
    pub fresh : l.fresh ≡ true

  -- After calls it is so still, whatever was signed is, and what the calls told is so.
  pub record StaysMarked (s : LyingStore) (l : CellBank S C) (s' : LyingStore) (l' : CellBank S C) (events : List Event) : Type 0 where
    pub marked : IsMarked s' l'
    pub signs : Signs (served_at l) (served_at l')
    pub heard : AreHeard view (served_at l') events

  pub stays_marked : (s s' : LyingStore) (l l' : CellBank S C) (events past : List Event) → Ran lying_view (bank_view key left accepts) s l events s' l' → IsMarked s l → AreHeard view (served_at l) past
      → (AllLinkHeard (served_at l') (events ++ past) → AllAttach (IsOfReceipt view (served_at l')) events) → StaysMarked s l s' l' (events ++ past)
  stays_marked s s' l l' events past ran marked heard own =
      let serving = ran_serves key left accepts s s' l l' events ran marked.fresh in
      let signs : Signs (served_at l) (served_at l') =
      signs_then (served_at l) (serving.more ++ served_at l) (served_at l') (signs_more serving.more (served_at l)) (signs_same (serving.more ++ served_at l) (served_at l') serving.served) in
      let first : Signs serving.more (served_at l') =
      signs_then serving.more (serving.more ++ served_at l) (served_at l') (signs_first serving.more (served_at l)) (signs_same (serving.more ++ served_at l) (served_at l') serving.served) in
      let links = links_on serving.more (served_at l') first events (links_heard events serving.more serving.serves) in
      let before = heard_on view (served_at l) (served_at l') signs past heard in
      let all = all_append _ events past links before.links in
      let has = follows_has (IsOfReceipt view (served_at l')) events (held_in s) (held_in s') (ran_follows key left accepts s s' l l' events ran) (own all)
      (contents_on view (served_at l) (served_at l') signs (held_in s).contents marked.attached) in
      record {
        marked = record { attached = has.0; fresh = serving.fresh };
        signs = signs;
        heard = record { links = all; gots = all_append _ events past has.1 before.gots };
      }
