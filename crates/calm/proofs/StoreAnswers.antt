-- What an honest store answers in which the rows of a ledger stand.
use Rattle.std.proofs.Common.{◌≡◌, ◌⊎◌, inl, inr, true, ℕ, zero, suc, ◌+◌, ◌<◌, List, [], ◌∷◌, ◌++◌, length, Option, Some, None, Result, Ok, Err, refl, sym, subst, ap, ◌∙◌, arith}
use Rattle.std.specs.Prelude.{IsSome}
use Rattle.chain_block.specs.declared.entry.Entry.{Entry}
use Rattle.nim_base.specs.declared.no_memory.NoMemory.{NoMemory}
use Rattle.statement.specs.declared.member.Member.{Member}
use Rattle.port.specs.declared.key.Key.{Key}
use Rattle.port.specs.declared.key.Key.TheVariants as keys
use Rattle.port.specs.declared.store_answers.Put.{Put}
use Rattle.port.specs.declared.store_answers.Put.TheVariants as puts
use Rattle.port.specs.declared.store_answers.Got.{Got}
use Rattle.port.specs.declared.store_answers.Got.TheVariants as gots
use Rattle.port.specs.declared.store_answers.Attached.{Attached}
use Rattle.port.specs.declared.store_answers.Attached.TheVariants as attaches
use Rattle.port.specs.Cause.{Gap, Cause, StoreFault, BadRow, TooFar, cause_of}
use Rattle.port.specs.Contents.{Contents, put, with_attached}
use Rattle.port.specs.GoodRow.{IsGoodRow}
use Rattle.port.specs.Row.{Content}
use Rattle.port.specs.RowForm.{IsRow, row_bytes}
use Rattle.port.specs.Stored.{Stored}
use Rattle.port.specs.Trace.{Event, AtStore, AreHonest}
use Rattle.catch_up.specs.Says.{IsRowRefused}
use Rattle.port.specs.Store.{StoreCall, StoreAnswer, is_failed, PutNew, Get, Attach, WasPut, WasGot, WasAttached, IsHonest}
use Rattle.view_ledger.specs.Receipts.{Accepts}
use Rattle.op_parts.specs.declared.attachment.Head.{Head}
use Rattle.op_parts.specs.declared.walk.WalkProgress.{WalkProgress}
use Rattle.op_parts.specs.declared.walk.WalkProgress.TheVariants.{More, Stands, Top, Refused}
use Rattle.op_parts.specs.Attachment.{IsAttached}
use Rattle.op_parts.specs.Walk.{Place, above, head_of, IsNextRow, IsRefused, Says}
use Rattle.calm.specs.Ledgers.{tail_of, row_above, head_above}
use Rattle.calm.specs.StandingRows.{StandsAbove, StandRows}
use Rattle.calm.specs.Storing.{GivesRow, GivesNone, FindsTaken, TakesBody, TakesBytes, IsAbove, EndsAtRow, EndsAtTop}
use Rattle.calm.proofs.HonestGets.{newest_get}
use Rattle.calm.proofs.NextRows.{tail_push}

abbrev pub RowsLaw : Type 0
RowsLaw = (a b : Content) → IsRow a → IsRow b → row_bytes a ≡ row_bytes b → a ≡ b

pub one_row : RowsLaw → (handle bytes : List ℕ) (height : ℕ) (a b : Content) → IsGoodRow handle height bytes a → IsGoodRow handle height bytes b → b ≡ a
one_row law handle bytes height a b good good' = law b a good'.whole good.whole (sym good'.written ∙ good.written)

-- a list at a place within it
pub split_at : {X : Type 0} (xs : List X) (place : ℕ) → place < length xs → (below : List X) × (x : X) × (above : List X) × (xs ≡ below ++ x ∷ above) × (length below ≡ place)
split_at [] place within = absurd (omega arith)
split_at (x ∷ xs) zero within = ([], x, xs, refl, refl)
split_at {X} (x ∷ xs) (suc place) within = one_more (split_at xs place (omega arith))
  where
    one_more : (below : List X) × (y : X) × (above : List X) × (xs ≡ below ++ y ∷ above) × (length below ≡ place)
        → (below : List X) × (y : X) × (above : List X) × (x ∷ xs ≡ below ++ y ∷ above) × (length below ≡ suc place)
    one_more s = (x ∷ s.0, s.1, s.2, ap (λ (l : List X). x ∷ l) s.3, ap suc s.4)

module _ (accepts : Accepts) (configs : List (List Member)) (contents : Contents) (handle : List ℕ) where
  pub given : (below : List Entry) (entry : Entry) (after : Contents) (got : Got) → StandsAbove accepts configs contents handle below entry
      → IsHonest contents (Get (keys.Row handle (length below))) (WasGot got) after → GivesRow accepts configs handle below entry got
  given below entry after (gots.Some stored) stands honest =
      let same : stands.stored ≡ stored = (let s : Some stands.stored ≡ Some stored = sym stands.stands ∙ honest.0 in cc) in (
        subst (λ (s : Stored). IsGoodRow handle (length below) s.body (row_above below entry)) same stands.good,
        (stands.receipt, subst (λ (s : Stored). IsAttached accepts configs (head_above handle below entry) s.attached stands.receipt) same stands.attached),
      )
  given below entry after gots.None stands honest = let some = stands.stands in let none = honest.0 in absurd (cc)
  given below entry after gots.Failed stands honest = absurd honest
  given below entry after gots.NoMemory stands honest = tt

  pub not_given : (height : ℕ) (after : Contents) (got : Got) → contents (keys.Row handle height) ≡ None → IsHonest contents (Get (keys.Row handle height)) (WasGot got) after → GivesNone got
  not_given height after (gots.Some stored) none honest = let some = honest.0 in absurd (cc)
  not_given height after gots.None none honest = tt
  not_given height after gots.Failed none honest = absurd honest
  not_given height after gots.NoMemory none honest = tt

  pub taken : (entries : List Entry) (height : ℕ) (body : List ℕ) (answer : Put) (after : Contents) → StandRows accepts configs contents handle entries → height < length entries
      → IsHonest contents (PutNew (keys.Row handle height) body) (WasPut answer) after → FindsTaken contents answer after
  taken entries height body puts.Done after stand below honest =
      let s = split_at entries height below in
      let row = stand.each s.0 s.2 s.1 s.3 in
      let some : contents (keys.Row handle height) ≡ Some row.stored = ap (λ (n : ℕ). contents (keys.Row handle n)) (sym s.4) ∙ row.stands in
      let none = honest.0 in
      absurd (cc)
  taken entries height body puts.Taken after stand below honest = honest.1
  taken entries height body puts.Failed after stand below honest = absurd honest
  taken entries height body puts.NoMemory after stand below honest = honest

  no_failure : (call : StoreCall) (answer : StoreAnswer) (after : Contents) → (answer ≡ WasPut puts.Failed) ⊎ ((answer ≡ WasGot gots.Failed) ⊎ (answer ≡ WasAttached attaches.Failed)) → IsHonest contents call answer after → ⊥
  no_failure call answer after (inl is) honest = no_put call (subst (λ (a : StoreAnswer). IsHonest contents call a after) is honest)
    where
      no_put : (c : StoreCall) → IsHonest contents c (WasPut puts.Failed) after → ⊥
      no_put (PutNew key body) h = h
      no_put (Get key) h = h
      no_put (Attach key bytes) h = h
  no_failure call answer after (inr (inl is)) honest = no_get call (subst (λ (a : StoreAnswer). IsHonest contents call a after) is honest)
    where
      no_get : (c : StoreCall) → IsHonest contents c (WasGot gots.Failed) after → ⊥
      no_get (PutNew key body) h = h
      no_get (Get key) h = h
      no_get (Attach key bytes) h = h
  no_failure call answer after (inr (inr is)) honest = no_attach call (subst (λ (a : StoreAnswer). IsHonest contents call a after) is honest)
    where
      no_attach : (c : StoreCall) → IsHonest contents c (WasAttached attaches.Failed) after → ⊥
      no_attach (PutNew key body) h = h
      no_attach (Get key) h = h
      no_attach (Attach key bytes) h = h

  which_failed : (answer : StoreAnswer) → is_failed answer ≡ true → (answer ≡ WasPut puts.Failed) ⊎ ((answer ≡ WasGot gots.Failed) ⊎ (answer ≡ WasAttached attaches.Failed))
  which_failed (WasPut puts.Failed) failed = inl refl
  which_failed (WasGot gots.Failed) failed = inr (inl refl)
  which_failed (WasAttached attaches.Failed) failed = inr (inr refl)
  which_failed answer failed = absurd (cc failed)

  failed_call : (call : StoreCall) (answer : StoreAnswer) (after : Contents) → is_failed answer ≡ true → IsHonest contents call answer after → ⊥
  failed_call call answer after failed honest = no_failure call answer after (which_failed answer failed) honest

  -- a row that stands isn't refused
  pub not_refused_row : (below : List Entry) (entry : Entry) (after : Contents) (event : Event) (cause : Cause) → StandsAbove accepts configs contents handle below entry
      → AreHonest contents (event ∷ []) after → IsRowRefused handle (length below) event cause → ⊥
  not_refused_row below entry after event StoreFault stands honest is =
      let h = subst (λ (e : Event). AreHonest contents (e ∷ []) after) is honest in
      failed_call (Get (keys.Row handle (length below))) (WasGot gots.Failed) after refl (subst (λ (c : Contents). IsHonest c (Get (keys.Row handle (length below))) (WasGot gots.Failed) after) h.1 h.2)
  not_refused_row below entry after event (Gap ledger missing) stands honest is =
      let b = newest_get contents after [] event (keys.Row handle (length below)) gots.None is.2 honest in
      let none : contents (keys.Row handle (length below)) ≡ None = subst (λ (c : Contents). c (keys.Row handle (length below)) ≡ None) b.honest b.answered.0 in
      let some = stands.stands in
      absurd (cc)
  not_refused_row below entry after event (BadRow key (Some bytes)) stands honest is =
      let gave = is.1 in
      let now = gave.1 ∙ ap (λ (k : Key). AtStore (Get k) (WasGot (gots.Some gave.0))) is.0 in
      let b = newest_get contents after [] event (keys.Row handle (length below)) (gots.Some gave.0) now honest in
      let there : contents (keys.Row handle (length below)) ≡ Some gave.0 = subst (λ (c : Contents). c (keys.Row handle (length below)) ≡ Some gave.0) b.honest b.answered.0 in
      let same : stands.stored ≡ gave.0 = (let s : Some stands.stored ≡ Some gave.0 = sym stands.stands ∙ there in cc) in
      is.2 (row_above below entry) (subst (λ (b' : List ℕ). IsGoodRow handle (length below) b' (row_above below entry)) (ap (λ (s : Stored). s.body) same ∙ gave.2) stands.good)
  not_refused_row below entry after event cause stands honest is = absurd is

pub put_done : (contents after : Contents) (key : Key) (body : List ℕ) (answer : Put) → contents key ≡ None → IsHonest contents (PutNew key body) (WasPut answer) after → TakesBody contents key body answer after
put_done contents after key body puts.Done none honest = honest.1
put_done contents after key body puts.Taken none honest = let some = subst (λ (o : Option Stored). IsSome o) none honest.0 in absurd (cc)
put_done contents after key body puts.Failed none honest = absurd honest
put_done contents after key body puts.NoMemory none honest = honest

pub attach_done : (contents after : Contents) (key : Key) (stored : Stored) (bytes : List ℕ) (answer : Attached) → contents key ≡ Some stored
    → IsHonest contents (Attach key bytes) (WasAttached answer) after → TakesBytes contents key stored bytes answer after
attach_done contents after key stored bytes attaches.Done some honest =
    let same : honest.0 ≡ stored = (let s : Some honest.0 ≡ Some stored = sym honest.1 ∙ some in cc) in
    honest.2 ∙ ap (λ (s : Stored). put contents key (with_attached s bytes)) same
attach_done contents after key stored bytes attaches.Absent some honest = let none = honest.0 in absurd (cc)
attach_done contents after key stored bytes attaches.Failed some honest = absurd honest
attach_done contents after key stored bytes attaches.NoMemory some honest = honest

-- ---- walks

module _ (law : RowsLaw) (accepts : Accepts) (configs : List (List Member)) (contents : Contents) (handle : List ℕ) (below : List Entry) (entry : Entry)
    (stands : StandsAbove accepts configs contents handle below entry) (place : Place) (is_above : IsAbove below place) where
  -- what was got is what stands
  same_stored : (stored : Stored) (got : Got) (later : Contents) → got ≡ gots.Some stored → IsHonest contents (Get (keys.Row handle place.height)) (WasGot got) later → stands.stored ≡ stored
  same_stored stored got later is honest =
      let given_so = subst (λ (g : Got). IsHonest contents (Get (keys.Row handle place.height)) (WasGot g) later) is honest in
      let there : contents (keys.Row handle (length below)) ≡ Some stored = ap (λ (n : ℕ). contents (keys.Row handle n)) (sym is_above.height) ∙ given_so.0 in
      let s : Some stands.stored ≡ Some stored = sym stands.stands ∙ there in cc

  -- and it is the entry's row
  is_row : (stored : Stored) (row : Content) → stands.stored ≡ stored → IsNextRow handle place stored row → row ≡ row_above below entry
  is_row stored row same next =
      let good = subst (λ (n : ℕ). IsGoodRow handle n stored.body row) is_above.height next.good in
      one_row law handle stored.body (length below) (row_above below entry) row (subst (λ (s : Stored). IsGoodRow handle (length below) s.body (row_above below entry)) same stands.good) good

  next_row : (stored : Stored) → stands.stored ≡ stored → IsNextRow handle place stored (row_above below entry)
  next_row stored same = record {
    good = subst (λ (n : ℕ). IsGoodRow handle n stored.body (row_above below entry)) (sym is_above.height)
        (subst (λ (s : Stored). IsGoodRow handle (length below) s.body (row_above below entry)) same stands.good);
    links = sym is_above.tail;
  }

  head_is : head_of handle place (row_above below entry).metablock ≡ head_above handle below entry
  head_is =
      ap (λ (t : List ℕ). record { handle = handle; tail = t; count = place.height + 1 }) (sym (tail_push below entry))
      ∙ ap (λ (n : ℕ). record { handle = handle; tail = tail_of (below ++ entry ∷ []); count = n + 1 }) is_above.height

  head_at : (row : Content) → row ≡ row_above below entry → head_of handle place row.metablock ≡ head_above handle below entry
  head_at row is = ap (λ (r : Content). head_of handle place r.metablock) is ∙ head_is

  not_refused : (got : Got) (later : Contents) → IsHonest contents (Get (keys.Row handle place.height)) (WasGot got) later → (cause : Cause) → IsRefused handle place got cause → ⊥
  not_refused got later honest StoreFault is = absurd (subst (λ (g : Got). IsHonest contents (Get (keys.Row handle place.height)) (WasGot g) later) is honest)
  not_refused got later honest (BadRow key (Some bytes)) is =
      let same = same_stored is.1.0 got later is.1.1 honest in
      let next = next_row is.1.0 same in
      is.2 (row_above below entry) (subst (λ (b : List ℕ). IsGoodRow handle place.height b (row_above below entry)) is.1.2 next.good) next.links
  not_refused got later honest (TooFar needed) is = let full = is.1 in let room = is_above.room in absurd (omega (arith, full, room))
  not_refused got later honest cause is = absurd is

  pub walk_ends : (got : Got) (later : Contents) (after : Place) (result : Result WalkProgress NoMemory) → IsHonest contents (Get (keys.Row handle place.height)) (WasGot got) later
      → Says accepts configs handle place got after result → EndsAtRow accepts configs handle below entry stands.stored place after result
  walk_ends got later after (Ok More) honest says =
      let same = same_stored says.0 got later says.2 honest in
      let row = is_row says.0 says.1 same says.3 in
      absurd (says.4 stands.receipt (subst (λ (h : Head). IsAttached accepts configs h says.0.attached stands.receipt) (sym (head_at says.1 row))
      (subst (λ (s : Stored). IsAttached accepts configs (head_above handle below entry) s.attached stands.receipt) same stands.attached)))
  walk_ends got later after (Ok (Stands receipt)) honest says =
      let same = same_stored says.0 got later says.2 honest in
      let row = is_row says.0 says.1 same says.3 in (
        subst (λ (s : Stored). IsAttached accepts configs (head_above handle below entry) s.attached receipt) (sym same)
            (subst (λ (h : Head). IsAttached accepts configs h says.0.attached receipt) (head_at says.1 row) says.4),
        says.5 ∙ ap (λ (r : Content). above place r.metablock) row,
      )
  walk_ends got later after (Ok Top) honest says =
      let gone = subst (λ (g : Got). IsHonest contents (Get (keys.Row handle place.height)) (WasGot g) later) says.0 honest in
      let none : contents (keys.Row handle (length below)) ≡ None = ap (λ (n : ℕ). contents (keys.Row handle n)) (sym is_above.height) ∙ gone.0 in
      let some = stands.stands in
      absurd (cc)
  walk_ends got later after (Ok (Refused refusal)) honest says = absurd (not_refused got later honest (cause_of refusal) says.0)
  walk_ends got later after (Err wanted) honest says = says

module _ (accepts : Accepts) (configs : List (List Member)) (contents : Contents) (handle : List ℕ) (place : Place) (none : contents (keys.Row handle place.height) ≡ None) where
  nothing_got : (stored : Stored) (got : Got) (later : Contents) → got ≡ gots.Some stored → IsHonest contents (Get (keys.Row handle place.height)) (WasGot got) later → ⊥
  nothing_got stored got later is honest =
      let given_so = subst (λ (g : Got). IsHonest contents (Get (keys.Row handle place.height)) (WasGot g) later) is honest in
      let some = given_so.0 in
      absurd (cc)

  top_not_refused : (got : Got) (later : Contents) → IsHonest contents (Get (keys.Row handle place.height)) (WasGot got) later → (cause : Cause) → IsRefused handle place got cause → ⊥
  top_not_refused got later honest StoreFault is = absurd (subst (λ (g : Got). IsHonest contents (Get (keys.Row handle place.height)) (WasGot g) later) is honest)
  top_not_refused got later honest (BadRow key (Some bytes)) is = nothing_got is.1.0 got later is.1.1 honest
  top_not_refused got later honest (TooFar needed) is = nothing_got is.2.0 got later is.2.2 honest
  top_not_refused got later honest cause is = absurd is

  pub walk_at_top : (got : Got) (later : Contents) (after : Place) (result : Result WalkProgress NoMemory) → IsHonest contents (Get (keys.Row handle place.height)) (WasGot got) later
      → Says accepts configs handle place got after result → EndsAtTop place after result
  walk_at_top got later after (Ok More) honest says = absurd (nothing_got says.0 got later says.2 honest)
  walk_at_top got later after (Ok (Stands receipt)) honest says = absurd (nothing_got says.0 got later says.2 honest)
  walk_at_top got later after (Ok Top) honest says = says.1
  walk_at_top got later after (Ok (Refused refusal)) honest says = absurd (top_not_refused got later honest (cause_of refusal) says.0)
  walk_at_top got later after (Err wanted) honest says = says
