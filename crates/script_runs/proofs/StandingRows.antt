-- Which rows stand in a store, and what calls make of them.
use Rattle.std.proofs.Common.{◌≡◌, ◌⊎◌, inl, inr, ℕ, Bool, true, false, ◌==◌, ◌&&◌, List, if◌then◌else◌, Option, Some, None, refl, sym, ap, subst, ◌∙◌}
use Rattle.std.specs.List.{AllByRecursion}
use Rattle.std.specs.Str.{bytes_eq}
use Rattle.std.proofs.lemmas.Bool.{and_parts, cases_Bool, eq-eqb, eqb-true}
use Rattle.std.proofs.lemmas.Slice.Eq.{bytes_eq-Decides}
use Rattle.chain_block.specs.declared.entry.Entry.{Entry}
use Rattle.chain_block.specs.Entry.{entry_digest, handle_of, height_of}
use Rattle.port.specs.declared.key.Key.{Key}
use Rattle.port.specs.declared.key.Key.TheVariants.{Row, View, Finals}
use Rattle.port.specs.declared.store_answers.Put.TheVariants as puts
use Rattle.port.specs.declared.store_answers.Got.TheVariants as gots
use Rattle.port.specs.declared.store_answers.Attached.TheVariants as attaches
use Rattle.port.specs.Call.{Append}
use Rattle.port.specs.Contents.{Contents, fresh, is_same_key, put, with_attached}
use Rattle.port.specs.GoodRow.{IsGoodRow}
use Rattle.port.specs.Row.{Content}
use Rattle.port.specs.RowForm.{IsRow, row_bytes}
use Rattle.port.specs.Store.{Answers, Attach, Get, PutNew, StoreAnswer, StoreCall, Truth, WasAttached, WasGot, WasPut, at}
use Rattle.port.specs.Stored.{Stored}
use Rattle.port.specs.Trace.{AtStore, Event}
use Rattle.op_entry.specs.OwnRow.{key_of}
use Rattle.script_runs.specs.CallRules.{IsForked}
use Rattle.script_runs.specs.OwnCalls.{IsOfDrawn}
use Rattle.script_runs.proofs.RowBytes.{same_block}

-- no two rows have the same bytes
abbrev pub OneRow : Type 0
OneRow = (a b : Content) → IsRow a → IsRow b → row_bytes a ≡ row_bytes b → a ≡ b

-- the bytes are no row's
abbrev pub IsNoRow : List ℕ → Type 0
IsNoRow body = (row : Content) → body ≡ row_bytes row → ⊥

-- what may stand at a key: at that of a row this row, whose entry was drawn, and at others no row
abbrev pub MayStand : (Entry → Type 0) → Key → List ℕ → Type 0
MayStand drawn (Row handle height) body = (row : Content) × IsGoodRow handle height body row × drawn row.entry
MayStand drawn (View number) body = IsNoRow body
MayStand drawn (Finals number) body = IsNoRow body

abbrev pub AllMayStand : (Entry → Type 0) → Contents → Type 0
AllMayStand drawn contents = (key : Key) (stored : Stored) → contents key ≡ Some stored → MayStand drawn key stored.body

-- this body stands at the key
abbrev pub StandsWith : Contents → Key → List ℕ → Type 0
StandsWith contents key body = (stored : Stored) × (contents key ≡ Some stored) × (stored.body ≡ body)

-- the row with this tail below it and this entry stands at its place
abbrev pub StandsAs : Contents → List ℕ → List ℕ → List ℕ → ℕ → Type 0
StandsAs contents handle prev entry height =
    (row : Content) × (body : List ℕ) × StandsWith contents (Row handle height) body × IsGoodRow handle height body row × (prev ≡ row.metablock.prev) × (entry ≡ row.metablock.entry)

-- it is of an entry that was drawn, and it stands unless its place was forked
abbrev pub IsHeld : (Entry → Type 0) → List Key → Contents → List ℕ → List ℕ → List ℕ → ℕ → Type 0
IsHeld drawn forked contents handle prev entry height =
    IsOfDrawn drawn (Append handle prev entry height) × (IsForked forked (Row handle height) ⊎ StandsAs contents handle prev entry height)

-- what a call told of a row is so of what stands
abbrev pub IsKnown : (Entry → Type 0) → List Key → Contents → Event → Type 0
IsKnown drawn forked contents (AtStore (Get (Row handle height)) (WasGot (gots.Some stored))) =
    (row : Content) → IsGoodRow handle height stored.body row → IsHeld drawn forked contents handle row.metablock.prev row.metablock.entry height
IsKnown drawn forked contents (AtStore (PutNew key body) (WasPut puts.Done)) =
    (row : Content) → key ≡ key_of row → body ≡ row_bytes row → row.metablock.entry ≡ entry_digest row.entry
    → IsHeld drawn forked contents (handle_of row.entry) row.metablock.prev row.metablock.entry (height_of row.entry)
IsKnown drawn forked contents event = Unit {0}

abbrev pub AllKnown : (Entry → Type 0) → List Key → Contents → List Event → Type 0
AllKnown drawn forked contents events = AllByRecursion (IsKnown drawn forked contents) events

-- rows may stand that do, and where the store forks a line said so
pub record IsSound (drawn : Entry → Type 0) (forked : List Key) (truth : Truth) : Type 0 where
  pub rows : AllMayStand drawn truth.contents
  pub forks : (key : Key) → truth.forks key ≡ true → IsForked forked key

-- ---- contents

pub same_key : (a b : Key) → is_same_key a b ≡ true → a ≡ b
same_key (Row handle height) (Row other k) same =
    let both = and_parts (bytes_eq handle other) (height == k) same in
    let h : handle ≡ other = (bytes_eq-Decides handle other).0 both.0 in
    let n : height ≡ k = eqb-true height k both.1 in
    ap (λ (x : List ℕ). Row x height) h ∙ ap (λ (x : ℕ). Row other x) n
same_key (View number) (View other) same = ap View (eqb-true number other same)
same_key (Finals number) (Finals other) same = ap Finals (eqb-true number other same)
same_key (Row handle height) (View other) same = absurd (cc same)
same_key (Row handle height) (Finals other) same = absurd (cc same)
same_key (View number) (Row handle height) same = absurd (cc same)
same_key (View number) (Finals other) same = absurd (cc same)
same_key (Finals number) (Row handle height) same = absurd (cc same)
same_key (Finals number) (View other) same = absurd (cc same)

pub itself_same : (key : Key) → is_same_key key key ≡ true
itself_same (Row handle height) = both (bytes_eq handle handle) (height == height) ((bytes_eq-Decides handle handle).1 refl) (eq-eqb height height refl)
  where
    both : (a b : Bool) → a ≡ true → b ≡ true → (a && b) ≡ true
    both true b x y = y
    both false b x y = x
itself_same (View number) = eq-eqb number number refl
itself_same (Finals number) = eq-eqb number number refl

module _ (contents : Contents) (key : Key) (stored : Stored) (other : Key) (found : Stored) where
  found_after : put contents key stored other ≡ Some found → ((key ≡ other) × (stored ≡ found)) ⊎ (contents other ≡ Some found)
  found_after is = by (is_same_key key other) refl is
    where
      by : (b : Bool) → is_same_key key other ≡ b → (if b then Some stored else contents other) ≡ Some found → ((key ≡ other) × (stored ≡ found)) ⊎ (contents other ≡ Some found)
      by true same now = inl (same_key key other same, cc now)
      by false same now = inr now

  stays_after : contents other ≡ Some found → (key ≡ other → stored.body ≡ found.body) → StandsWith (put contents key stored) other found.body
  stays_after stood alike = by (is_same_key key other) refl
    where
      by : (b : Bool) → is_same_key key other ≡ b → StandsWith (put contents key stored) other found.body
      by true same = (stored, ap (λ (b : Bool). if b then Some stored else contents other) same, alike (same_key key other same))
      by false same = (found, ap (λ (b : Bool). if b then Some stored else contents other) same ∙ stood, refl)

pub stands_put : (contents : Contents) (key : Key) (stored : Stored) → StandsWith (put contents key stored) key stored.body
stands_put contents key stored = (stored, ap (λ (b : Bool). if b then Some stored else contents key) (itself_same key), refl)

-- ---- one call

module _ (drawn : Entry → Type 0) (truth : Truth) where
  abbrev pub PutMayStand : StoreCall → Type 0
  PutMayStand (PutNew key body) = MayStand drawn key body
  PutMayStand (Get key) = Unit {0}
  PutMayStand (Attach key bytes) = Unit {0}

  rows_put : (key : Key) (stored : Stored) → MayStand drawn key stored.body → AllMayStand drawn truth.contents → AllMayStand drawn (put truth.contents key stored)
  rows_put key stored may rows other found is = by (found_after truth.contents key stored other found is)
    where
      by : ((key ≡ other) × (stored ≡ found)) ⊎ (truth.contents other ≡ Some found) → MayStand drawn other found.body
      by (inl (k, s)) = subst (λ (x : Key). MayStand drawn x found.body) k (subst (λ (x : Stored). MayStand drawn key x.body) s may)
      by (inr stood) = rows other found stood

  pub rows_step : (call : StoreCall) (answer : StoreAnswer) (after : Contents) → Answers truth call answer after → PutMayStand call → AllMayStand drawn truth.contents → AllMayStand drawn after
  rows_step (PutNew key body) (WasPut puts.Done) after is may rows = subst (AllMayStand drawn) (sym is.1) (rows_put key (fresh body) may rows)
  rows_step (PutNew key body) (WasPut puts.Taken) after is may rows = subst (AllMayStand drawn) (sym is.2) rows
  rows_step (PutNew key body) (WasPut puts.Failed) after is may rows = subst (AllMayStand drawn) (sym is) rows
  rows_step (PutNew key body) (WasPut puts.NoMemory) after is may rows = subst (AllMayStand drawn) (sym is) rows
  rows_step (Get key) (WasGot (gots.Some stored)) after is may rows = subst (AllMayStand drawn) (sym is.1) rows
  rows_step (Get key) (WasGot gots.None) after is may rows = subst (AllMayStand drawn) (sym is.1) rows
  rows_step (Get key) (WasGot gots.Failed) after is may rows = subst (AllMayStand drawn) (sym is) rows
  rows_step (Get key) (WasGot gots.NoMemory) after is may rows = subst (AllMayStand drawn) (sym is) rows
  rows_step (Attach key bytes) (WasAttached attaches.Done) after (stored, stood, is) may rows =
      subst (AllMayStand drawn) (sym is) (rows_put key (with_attached stored bytes) (rows key stored stood) rows)
  rows_step (Attach key bytes) (WasAttached attaches.Absent) after is may rows = subst (AllMayStand drawn) (sym is.1) rows
  rows_step (Attach key bytes) (WasAttached attaches.Failed) after is may rows = subst (AllMayStand drawn) (sym is) rows
  rows_step (Attach key bytes) (WasAttached attaches.NoMemory) after is may rows = subst (AllMayStand drawn) (sym is) rows
  rows_step call answer after is may rows = absurd is

-- what stands at a key that isn't forked stays
module _ (truth : Truth) (key : Key) (body : List ℕ) (whole : truth.forks key ≡ false) where
  abbrev At : Contents → Type 0
  At contents = StandsWith contents key body

  stays_step : (call : StoreCall) (answer : StoreAnswer) (after : Contents) → Answers truth call answer after → At truth.contents → At after
  stays_step (PutNew other bytes) (WasPut puts.Done) after (free, is) (stored, stood, same) =
      let kept = stays_after truth.contents other (fresh bytes) key stored stood (λ (equal : other ≡ key). absurd (taken equal free)) in
      subst At (sym is) (kept.0, kept.1, kept.2 ∙ same)
    where
      taken : other ≡ key → (truth.contents other ≡ None) ⊎ (truth.forks other ≡ true) → ⊥
      taken equal (inl none) = let n : truth.contents key ≡ None = ap truth.contents (sym equal) ∙ none in cc (n, stood)
      taken equal (inr forks) = let n : truth.forks key ≡ true = ap truth.forks (sym equal) ∙ forks in cc (n, whole)
  stays_step (PutNew other bytes) (WasPut puts.Taken) after is stood = subst At (sym is.2) stood
  stays_step (PutNew other bytes) (WasPut puts.Failed) after is stood = subst At (sym is) stood
  stays_step (PutNew other bytes) (WasPut puts.NoMemory) after is stood = subst At (sym is) stood
  stays_step (Get other) (WasGot (gots.Some stored)) after is stood = subst At (sym is.1) stood
  stays_step (Get other) (WasGot gots.None) after is stood = subst At (sym is.1) stood
  stays_step (Get other) (WasGot gots.Failed) after is stood = subst At (sym is) stood
  stays_step (Get other) (WasGot gots.NoMemory) after is stood = subst At (sym is) stood
  stays_step (Attach other bytes) (WasAttached attaches.Done) after (found, there, is) (stored, stood, same) =
      let kept = stays_after truth.contents other (with_attached found bytes) key stored stood (λ (equal : other ≡ key). alike equal) in
      subst At (sym is) (kept.0, kept.1, kept.2 ∙ same)
    where
      alike : other ≡ key → found.body ≡ stored.body
      alike equal = let n : Some found ≡ Some stored = sym there ∙ ap truth.contents equal ∙ stood in (let s : found ≡ stored = cc n in ap (λ (x : Stored). x.body) s)
  stays_step (Attach other bytes) (WasAttached attaches.Absent) after is stood = subst At (sym is.1) stood
  stays_step (Attach other bytes) (WasAttached attaches.Failed) after is stood = subst At (sym is) stood
  stays_step (Attach other bytes) (WasAttached attaches.NoMemory) after is stood = subst At (sym is) stood
  stays_step call answer after is stood = absurd is

-- what a get was given stands at the key's source
pub got_from : (truth : Truth) (key : Key) (stored : Stored) (after : Contents) → Answers truth (Get key) (WasGot (gots.Some stored)) after
    → (from : Key) × (truth.contents from ≡ Some stored)
got_from truth key stored after is = by (truth.source key) is.0
  where
    by : (source : Option Key) → at truth.contents source ≡ Some stored → (from : Key) × (truth.contents from ≡ Some stored)
    by None none = absurd (cc none)
    by (Some from) stood = (from, stood)

module _ (law : OneRow) (drawn : Entry → Type 0) (forked : List Key) (truth after : Truth) (sound : IsSound drawn forked truth) (same_forks : after.forks ≡ truth.forks) where
  -- a row that stood is held, before or after the call
  held_by : (contents : Contents) (handle : List ℕ) (height : ℕ) (row : Content) → drawn row.entry → (body : List ℕ) → IsGoodRow handle height body row
      → (truth.forks (Row handle height) ≡ false → StandsWith contents (Row handle height) body)
      → IsHeld drawn forked contents handle row.metablock.prev row.metablock.entry height
  held_by contents handle height row was body good stands =
      ((row.entry, was, good.at.of_entry, sym good.at.of_ledger, sym good.at.of_height), by (cases_Bool (truth.forks (Row handle height))))
    where
      by : (truth.forks (Row handle height) ≡ true) ⊎ (truth.forks (Row handle height) ≡ false)
          → IsForked forked (Row handle height) ⊎ StandsAs contents handle row.metablock.prev row.metablock.entry height
      by (inl forks) = inl (sound.forks (Row handle height) forks)
      by (inr whole) = inr (row, body, stands whole, good, refl, refl)

  pub held_step : (call : StoreCall) (answer : StoreAnswer) → Answers truth call answer after.contents → (handle prev entry : List ℕ) (height : ℕ)
      → IsHeld drawn forked truth.contents handle prev entry height → IsHeld drawn forked after.contents handle prev entry height
  held_step call answer is handle prev entry height (was, inl forks) = (was, inl forks)
  held_step call answer is handle prev entry height (was, inr (row, body, stood, good, p, e)) = (was, by (cases_Bool (truth.forks (Row handle height))))
    where
      by : (truth.forks (Row handle height) ≡ true) ⊎ (truth.forks (Row handle height) ≡ false)
          → IsForked forked (Row handle height) ⊎ StandsAs after.contents handle prev entry height
      by (inl forks) = inl (sound.forks (Row handle height) forks)
      by (inr whole) = inr (row, body, stays_step truth (Row handle height) body whole call answer after.contents is stood, good, p, e)

  row_known : (handle : List ℕ) (height : ℕ) (stored : Stored) → Answers truth (Get (Row handle height)) (WasGot (gots.Some stored)) after.contents → (row : Content) → IsGoodRow handle height stored.body row
      → IsHeld drawn forked after.contents handle row.metablock.prev row.metablock.entry height
  row_known handle height stored is row good = by from.0 from.1 (sound.rows from.0 stored from.1)
    where
      from : (source : Key) × (truth.contents source ≡ Some stored)
      from = got_from truth (Row handle height) stored after.contents is

      by : (source : Key) → truth.contents source ≡ Some stored → MayStand drawn source stored.body → IsHeld drawn forked after.contents handle row.metablock.prev row.metablock.entry height
      by (View number) stood none = absurd (none row good.written)
      by (Finals number) stood none = absurd (none row good.written)
      by (Row ledger k) stood (own, fine, was) =
          let same : row ≡ own = law row own good.whole fine.whole (sym good.written ∙ fine.written) in
          let h : ledger ≡ handle = sym fine.at.of_ledger ∙ ap (λ (r : Content). handle_of r.entry) (sym same) ∙ good.at.of_ledger in
          let n : k ≡ height = sym fine.at.of_height ∙ ap (λ (r : Content). height_of r.entry) (sym same) ∙ good.at.of_height in
          let here : truth.contents (Row handle height) ≡ Some stored = ap truth.contents (sym (ap (λ (x : List ℕ). Row x k) h ∙ ap (λ (x : ℕ). Row handle x) n)) ∙ stood in
          held_by after.contents handle height row (subst (λ (r : Content). drawn r.entry) (sym same) was) stored.body good
          (λ whole. stays_step truth (Row handle height) stored.body whole (Get (Row handle height)) (WasGot (gots.Some stored)) after.contents is (stored, here, refl))

  got_known : (key : Key) (stored : Stored) → Answers truth (Get key) (WasGot (gots.Some stored)) after.contents
      → IsKnown drawn forked after.contents (AtStore (Get key) (WasGot (gots.Some stored)))
  got_known (View number) stored is = tt
  got_known (Finals number) stored is = tt
  got_known (Row handle height) stored is = λ row good. row_known handle height stored is row good

  put_known : (key : Key) (body : List ℕ) → MayStand drawn key body → Answers truth (PutNew key body) (WasPut puts.Done) after.contents
      → IsKnown drawn forked after.contents (AtStore (PutNew key body) (WasPut puts.Done))
  put_known (View number) body may is row equal bytes digest = absurd (cc equal)
  put_known (Finals number) body may is row equal bytes digest = absurd (cc equal)
  put_known (Row handle height) body (own, good, was) is row equal bytes digest =
      let h : handle ≡ handle_of row.entry = cc equal in
      let n : height ≡ height_of row.entry = cc equal in
      let block = same_block row own good.whole digest (sym bytes ∙ good.written) in
      let stands : StandsWith after.contents (Row handle height) body = subst (λ (c : Contents). StandsWith c (Row handle height) body) (sym is.1) (stands_put truth.contents (Row handle height) (fresh body)) in
      let held = held_by after.contents handle height own was body good (λ whole. stands) in
      subst (λ (x : ℕ). IsHeld drawn forked after.contents (handle_of row.entry) row.metablock.prev row.metablock.entry x) n
      (subst (λ (x : List ℕ). IsHeld drawn forked after.contents x row.metablock.prev row.metablock.entry height) h
      (subst (λ (x : List ℕ). IsHeld drawn forked after.contents handle x row.metablock.entry height) (sym block.0)
      (subst (λ (x : List ℕ). IsHeld drawn forked after.contents handle own.metablock.prev x height) (sym block.1) held)))

  -- what a call told is so afterwards
  pub known_step : (call : StoreCall) (answer : StoreAnswer) → PutMayStand drawn truth call → Answers truth call answer after.contents → IsKnown drawn forked after.contents (AtStore call answer)
  known_step (PutNew key body) (WasPut puts.Done) may is = put_known key body may is
  known_step (PutNew key body) (WasPut puts.Taken) may is = tt
  known_step (PutNew key body) (WasPut puts.Failed) may is = tt
  known_step (PutNew key body) (WasPut puts.NoMemory) may is = tt
  known_step (Get key) (WasGot (gots.Some stored)) may is = got_known key stored is
  known_step (Get (Row handle height)) (WasGot gots.None) may is = tt
  known_step (Get (Row handle height)) (WasGot gots.Failed) may is = tt
  known_step (Get (Row handle height)) (WasGot gots.NoMemory) may is = tt
  known_step (Get (View number)) (WasGot gots.None) may is = tt
  known_step (Get (View number)) (WasGot gots.Failed) may is = tt
  known_step (Get (View number)) (WasGot gots.NoMemory) may is = tt
  known_step (Get (Finals number)) (WasGot gots.None) may is = tt
  known_step (Get (Finals number)) (WasGot gots.Failed) may is = tt
  known_step (Get (Finals number)) (WasGot gots.NoMemory) may is = tt
  known_step (Attach key bytes) answer may is = tt
  known_step call answer may is = absurd is
