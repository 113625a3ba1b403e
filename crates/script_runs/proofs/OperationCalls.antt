-- The calls of operations: what they put may stand, and what they append is held.
use Rattle.std.proofs.Common.{◌≡◌, ◌⊎◌, inl, inr, ℕ, ◌^◌, ◌<◌, List, [], ◌∷◌, ◌++◌, length, refl, sym, ap, subst, ◌∙◌, arith}
use Rattle.sha2.proofs.Facts256.{length-sha256}
use Rattle.chain_block.specs.declared.entry.Entry.{Entry}
use Rattle.chain_block.specs.declared.entry.Entry.TheVariants.{Genesis, Later}
use Rattle.chain_block.specs.declared.meta_block.MetaBlock.{MetaBlock}
use Rattle.chain_block.specs.Entry.{handle_of, height_of}
use Rattle.statement.specs.declared.member.Member.{Member}
use Rattle.port.specs.declared.key.Key.{Key}
use Rattle.port.specs.declared.key.Key.TheVariants as keys
use Rattle.port.specs.declared.store_answers.Put.{Put}
use Rattle.port.specs.declared.store_answers.Put.TheVariants as puts
use Rattle.port.specs.declared.store_answers.Got.TheVariants as gots
use Rattle.port.specs.Call.{Call, Activate, Append, Finalize, Initialize, Latest, Show}
use Rattle.port.specs.Contents.{Contents}
use Rattle.port.specs.GoodRow.{IsRowAt}
use Rattle.port.specs.Heard.{Heard}
use Rattle.port.specs.Row.{Content}
use Rattle.port.specs.RowForm.{IsStored, row_bytes}
use Rattle.port.specs.Store.{Attach, Get, PutNew, StoreAnswer, WasGot}
use Rattle.port.specs.Trace.{AtLink, AtStore, Event, Had}
use Rattle.view_ledger.specs.Receipts.{Accepts}
use Rattle.view_ledger.specs.Views.{ViewChain}
use Rattle.settle.specs.Laws.{IsOwnRow}
use Rattle.op_entry.specs.Ask.{AppendEntry, Ask, NewLedger, ReadAt, ledger_of, place_of}
use Rattle.op_entry.specs.Laws.{IsOwnCall, IsRefreshGet, IsSettlingCall, OwnCalls}
use Rattle.op_entry.specs.OwnRow.{get_of, key_of, put_of, row_on}
use Rattle.op_entry.specs.Says.{IsRowKnown}
use Rattle.op_entry.specs.Standing.{settling_of}
use Rattle.op_latest.specs.LatestAsked.{LatestAsk, asking_of}
use Rattle.op_latest.specs.LatestOwn.{GaveRow, IsOwnCall as IsLatestCall, IsOwnGet as IsLatestGet, OwnCalls as LatestCalls}
use Rattle.script_runs.proofs.KeptCalls.{AllPutOwn, PutsOwn, all_had, had_all, had_left, had_right}
use Rattle.script_runs.proofs.LinkCalls.{AllAsk, Asks, OwnCall}
use Rattle.script_runs.proofs.StandingRows.{AllKnown, IsHeld, IsKnown, MayStand}

-- ---- what is put

-- an entry that was drawn, with fields of their lengths
abbrev pub IsOwnEntry : (Entry → Type 0) → Entry → Type 0
IsOwnEntry drawn entry = IsStored entry × drawn entry

-- the entry that an operation is asked for, where there is one
abbrev pub IsOwnAsk : (Entry → Type 0) → Ask → Type 0
IsOwnAsk drawn (NewLedger entry) = IsOwnEntry drawn entry
IsOwnAsk drawn (AppendEntry entry) = IsOwnEntry drawn entry
IsOwnAsk drawn (ReadAt handle height) = Unit {0}

low_height : (entry : Entry) → IsStored entry → height_of entry < 2 ^ 64
low_height (Genesis nonce payload) stored = omega arith
low_height (Later handle height nonce payload) stored = omega (arith, stored.0.0.1)

-- a row that is put on a tail may stand
may_put : (drawn : Entry → Type 0) (entry : Entry) (tail : List ℕ) → IsOwnEntry drawn entry → length tail ≡ 32 → MayStand drawn (key_of (row_on tail entry)) (row_bytes (row_on tail entry))
may_put drawn entry tail own size = (
  row_on tail entry,
  record {
    whole = record { entry = own.0; metablock = (size, length-sha256 _, low_height entry own.0) };
    written = refl;
    at = record { of_ledger = refl; of_height = refl; of_entry = refl; block_height = refl };
  },
  own.1,
)

-- the same of a put with this key and body
put_of_own : (drawn : Entry → Type 0) (entry : Entry) (tail body : List ℕ) (key : Key) (answer : StoreAnswer) (put : Put) → IsOwnEntry drawn entry → length tail ≡ 32
    → AtStore (PutNew key body) answer ≡ put_of (row_on tail entry) put → MayStand drawn key body
put_of_own drawn entry tail body key answer put own size is =
    let k : key ≡ key_of (row_on tail entry) = cc is in
    let b : body ≡ row_bytes (row_on tail entry) = cc is in
    subst (λ (x : Key). MayStand drawn x body) (sym k) (subst (λ (x : List ℕ). MayStand drawn (key_of (row_on tail entry)) x) (sym b) (may_put drawn entry tail own size))

module _ (accepts : Accepts) (drawn : Entry → Type 0) where
  entry_put : (ask : Ask) (configs : List (List Member)) (past : List Event) (key : Key) (body : List ℕ) (answer : StoreAnswer) → IsOwnAsk drawn ask
      → IsOwnCall accepts ask configs past (AtStore (PutNew key body) answer) → MayStand drawn key body
  entry_put ask configs past key body answer own (inl (number, got, inl is)) = absurd (cc is)
  entry_put ask configs past key body answer own (inl (number, got, inr is)) = absurd (cc is)
  entry_put (NewLedger entry) configs past key body answer own (inr (inl none)) = absurd none
  entry_put (AppendEntry entry) configs past key body answer own (inr (inl (got, is))) = absurd (cc is)
  entry_put (ReadAt handle height) configs past key body answer own (inr (inl none)) = absurd none
  entry_put (NewLedger entry) configs past key body answer own (inr (inr (inl (tail, put, is, zeros)))) =
      put_of_own drawn entry tail body key answer put own (ap (λ (t : List ℕ). length t) zeros) is
  entry_put (AppendEntry entry) configs past key body answer own (inr (inr (inl (tail, put, is, (stored, below, had, good, sum))))) =
      put_of_own drawn entry tail body key answer put own (ap (λ (t : List ℕ). length t) sum ∙ length-sha256 _) is
  entry_put (ReadAt handle height) configs past key body answer own (inr (inr (inl none))) = absurd none
  entry_put ask configs past key body answer own (inr (inr (inr (inl (got, is))))) = absurd (cc is)
  entry_put ask configs past key body answer own (inr (inr (inr (inr (row, calls, before, split, at, known, none))))) = absurd none

  entry_puts_one : (ask : Ask) (configs : List (List Member)) (past : List Event) → IsOwnAsk drawn ask → (event : Event) → IsOwnCall accepts ask configs past event → PutsOwn drawn event
  entry_puts_one ask configs past own (AtStore (PutNew key body) answer) is = entry_put ask configs past key body answer own is
  entry_puts_one ask configs past own (AtStore (Get key) answer) is = tt
  entry_puts_one ask configs past own (AtStore (Attach key bytes) answer) is = tt
  entry_puts_one ask configs past own (AtLink id call heard) is = tt

  -- what an operation puts for an entry that was drawn may stand
  pub entry_puts : (ask : Ask) (configs : List (List Member)) (events past : List Event) → IsOwnAsk drawn ask → OwnCalls accepts ask configs (events ++ past) → AllPutOwn drawn events
  entry_puts ask configs events past own calls =
      had_all (PutsOwn drawn) events (λ event had. entry_puts_one ask configs (events ++ past) own event (calls event (had_left events past event had)))

-- ---- what is appended

module _ (accepts : Accepts) (drawn : Entry → Type 0) (forked : List Key) (contents : Contents) (reads : List ℕ → List ℕ → Type 0) where
  abbrev Held : List ℕ → List ℕ → List ℕ → ℕ → Type 0
  Held = IsHeld drawn forked contents

  -- what a call told of a row is so
  had_known : (past : List Event) → AllKnown drawn forked contents past → (event : Event) → Had past event → IsKnown drawn forked contents event
  had_known past known event had = all_had (IsKnown drawn forked contents) past known event had

  held_as : (handle ledger prev entry tail digest : List ℕ) (height k : ℕ) → handle ≡ ledger → prev ≡ tail → entry ≡ digest → height ≡ k → Held ledger tail digest k → Held handle prev entry height
  held_as handle ledger prev entry tail digest height k h p e n held =
      subst (λ (x : List ℕ). Held x prev entry height) (sym h)
      (subst (λ (x : List ℕ). Held ledger x entry height) (sym p)
      (subst (λ (x : List ℕ). Held ledger tail x height) (sym e)
      (subst (λ (x : ℕ). Held ledger tail digest x) (sym n) held)))

  -- the row that is settled
  own_held : (ask : Ask) (past : List Event) (row : Content) → AllKnown drawn forked contents past → IsRowAt (ledger_of ask) (place_of ask) row → IsRowKnown ask past row
      → Held (handle_of row.entry) row.metablock.prev row.metablock.entry row.metablock.height
  own_held ask past row known at (inl put) =
      let held = had_known past known (put_of row puts.Done) put row refl refl at.of_entry in
      held_as _ _ _ _ _ _ _ _ refl refl refl (at.block_height ∙ sym at.of_height) held
  own_held ask past row known at (inr (stored, had, good)) =
      let held = had_known past known (get_of (keys.Row (ledger_of ask) (place_of ask)) (gots.Some stored)) had row good in
      held_as _ _ _ _ _ _ _ _ at.of_ledger refl refl at.block_height held

  settle_held : (ask : Ask) (configs : List (List Member)) (past : List Event) (id : ℕ) (call : Call) (heard : Heard) → AllKnown drawn forked contents past
      → IsSettlingCall accepts ask configs past (AtLink id call heard) → OwnCall drawn forked contents reads call
  settle_held ask configs past id call heard known (row, calls, before, split, at, told, (member, (block, own, is))) =
      subst (OwnCall drawn forked contents reads) (sym is) (by own)
    where
      by : IsOwnRow (settling_of configs row) calls block → Held (handle_of row.entry) block.prev block.entry block.height
      by (inl same) =
          let before_known : AllKnown drawn forked contents before = had_all (IsKnown drawn forked contents) before (λ event had. had_known past known event (subst (λ (p : List Event). Had p event) (sym split) (had_right calls before event had))) in
          subst (λ (b : MetaBlock). Held (handle_of row.entry) b.prev b.entry b.height) (sym same) (own_held ask before row before_known at told)
      by (inr (stored, given, had, good, same)) =
          let event : Event = AtStore (Get (keys.Row (handle_of row.entry) block.height)) (WasGot (gots.Some stored)) in
          let event_had : Had past event = subst (λ (p : List Event). Had p event) (sym split) (had_left calls before event had) in
          let held = had_known past known event event_had given good in
          held_as _ _ _ _ _ _ _ _ refl (ap (λ (b : MetaBlock). b.prev) same) (ap (λ (b : MetaBlock). b.entry) same) refl held

  entry_asks_one : (ask : Ask) (configs : List (List Member)) (past : List Event) → AllKnown drawn forked contents past → (event : Event) → IsOwnCall accepts ask configs past event
      → Asks (OwnCall drawn forked contents reads) event
  entry_asks_one ask configs past known (AtStore call answer) is = tt
  entry_asks_one ask configs past known (AtLink id call heard) (inl (number, got, inl is)) = absurd (cc is)
  entry_asks_one ask configs past known (AtLink id call heard) (inl (number, got, inr is)) = absurd (cc is)
  entry_asks_one (NewLedger entry) configs past known (AtLink id call heard) (inr (inl none)) = absurd none
  entry_asks_one (AppendEntry entry) configs past known (AtLink id call heard) (inr (inl (got, is))) = absurd (cc is)
  entry_asks_one (ReadAt handle height) configs past known (AtLink id call heard) (inr (inl none)) = absurd none
  entry_asks_one (NewLedger entry) configs past known (AtLink id call heard) (inr (inr (inl (tail, put, is, zeros)))) = absurd (cc is)
  entry_asks_one (AppendEntry entry) configs past known (AtLink id call heard) (inr (inr (inl (tail, put, is, below)))) = absurd (cc is)
  entry_asks_one (ReadAt handle height) configs past known (AtLink id call heard) (inr (inr (inl none))) = absurd none
  entry_asks_one ask configs past known (AtLink id call heard) (inr (inr (inr (inl (got, is))))) = absurd (cc is)
  entry_asks_one ask configs past known (AtLink id call heard) (inr (inr (inr (inr settling)))) = settle_held ask configs past id call heard known settling

  -- what an operation for an entry or a read at a height asks is held
  pub entry_asks : (ask : Ask) (configs : List (List Member)) (events past : List Event) → AllKnown drawn forked contents (events ++ past) → OwnCalls accepts ask configs (events ++ past)
      → AllAsk (OwnCall drawn forked contents reads) events
  entry_asks ask configs events past known calls =
      had_all _ events (λ event had. entry_asks_one ask configs (events ++ past) known event (calls event (had_left events past event had)))

-- ---- reads of a newest row

-- a call of a read of a newest row after all these
abbrev pub IsReadCall : LatestAsk → List Event → Event → Type 0
IsReadCall ask past (AtStore call answer) = IsLatestGet ask.handle call
IsReadCall ask past (AtLink id call heard) =
    (call ≡ Latest ask.handle ask.nonce) ⊎ ((prev entry : List ℕ) × (height : ℕ) × (call ≡ Append ask.handle prev entry height) × GaveRow past ask.handle prev entry height)

abbrev pub ReadCalls : LatestAsk → List Event → Type 0
ReadCalls ask past = (event : Event) → Had past event → IsReadCall ask past event

gave_more : (first : Event) (past : List Event) (handle prev entry : List ℕ) (height : ℕ) → GaveRow past handle prev entry height → GaveRow (first ∷ past) handle prev entry height
gave_more first past handle prev entry height (stored, row, had, good, p, e) = (stored, row, inr had, good, p, e)

read_more : (ask : LatestAsk) (first : Event) (past : List Event) (event : Event) → IsReadCall ask past event → IsReadCall ask (first ∷ past) event
read_more ask first past (AtStore call answer) is = is
read_more ask first past (AtLink id call heard) (inl is) = inl is
read_more ask first past (AtLink id call heard) (inr (prev, entry, height, is, gave)) = inr (prev, entry, height, is, gave_more first past ask.handle prev entry height gave)

read_of : (accepts : Accepts) (ask : LatestAsk) (chain : ViewChain) (past : List Event) (event : Event) → IsLatestCall accepts (asking_of ask chain) past event → IsReadCall ask past event
read_of accepts ask chain past (AtStore call answer) is = is
read_of accepts ask chain past (AtLink id (Latest handle nonce) heard) (member, h, n, may) = inl (ap (λ (x : List ℕ). Latest x nonce) h ∙ ap (λ (x : List ℕ). Latest ask.handle x) n)
read_of accepts ask chain past (AtLink id (Append handle prev entry height) heard) (member, h, gave) =
    inr (prev, entry, height, ap (λ (x : List ℕ). Append x prev entry height) h, subst (λ (x : List ℕ). GaveRow past x prev entry height) h gave)
read_of accepts ask chain past (AtLink id (Initialize block config map) heard) is = absurd is
read_of accepts ask chain past (AtLink id (Activate view proof) heard) is = absurd is
read_of accepts ask chain past (AtLink id (Finalize config number) heard) is = absurd is
read_of accepts ask chain past (AtLink id (Show handle) heard) is = absurd is

-- a read's own calls, one by one
pub read_calls : (accepts : Accepts) (ask : LatestAsk) (chain : ViewChain) (past : List Event) → LatestCalls accepts (asking_of ask chain) past → ReadCalls ask past
read_calls accepts ask chain [] own event had = absurd had
read_calls accepts ask chain (first ∷ past) own event (inl is) = read_more ask first past event (subst (IsReadCall ask past) is (read_of accepts ask chain past first own.0))
read_calls accepts ask chain (first ∷ past) own event (inr had) = read_more ask first past event (read_calls accepts ask chain past own.1 event had)

module _ (drawn : Entry → Type 0) (forked : List Key) (contents : Contents) (reads : List ℕ → List ℕ → Type 0) where
  read_puts_one : (ask : LatestAsk) (past : List Event) (event : Event) → IsReadCall ask past event → PutsOwn drawn event
  read_puts_one ask past (AtStore (PutNew key body) answer) is = absurd is
  read_puts_one ask past (AtStore (Get key) answer) is = tt
  read_puts_one ask past (AtStore (Attach key bytes) answer) is = tt
  read_puts_one ask past (AtLink id call heard) is = tt

  pub read_puts : (ask : LatestAsk) (events past : List Event) → ReadCalls ask (events ++ past) → AllPutOwn drawn events
  read_puts ask events past own = had_all (PutsOwn drawn) events (λ event had. read_puts_one ask (events ++ past) event (own event (had_left events past event had)))

  read_asks_one : (ask : LatestAsk) (past : List Event) → AllKnown drawn forked contents past → reads ask.handle ask.nonce → (event : Event) → IsReadCall ask past event
      → Asks (OwnCall drawn forked contents reads) event
  read_asks_one ask past known read (AtStore call answer) is = tt
  read_asks_one ask past known read (AtLink id call heard) (inl is) = subst (OwnCall drawn forked contents reads) (sym is) read
  read_asks_one ask past known read (AtLink id call heard) (inr (prev, entry, height, is, (stored, row, had, good, p, e))) =
      let held = all_had (IsKnown drawn forked contents) past known _ had row good in
      subst (OwnCall drawn forked contents reads) (sym is)
      (subst (λ (x : List ℕ). IsHeld drawn forked contents ask.handle x entry height) (sym p)
      (subst (λ (x : List ℕ). IsHeld drawn forked contents ask.handle row.metablock.prev x height) (sym e) held))

  pub read_asks : (ask : LatestAsk) (events past : List Event) → AllKnown drawn forked contents (events ++ past) → reads ask.handle ask.nonce → ReadCalls ask (events ++ past)
      → AllAsk (OwnCall drawn forked contents reads) events
  read_asks ask events past known read own = had_all _ events (λ event had. read_asks_one ask (events ++ past) known read event (own event (had_left events past event had)))

  -- ---- views

  refresh_puts : (event : Event) → IsRefreshGet event → PutsOwn drawn event
  refresh_puts (AtStore (PutNew key body) answer) (number, got, inl is) = absurd (cc is)
  refresh_puts (AtStore (PutNew key body) answer) (number, got, inr is) = absurd (cc is)
  refresh_puts (AtStore (Get key) answer) is = tt
  refresh_puts (AtStore (Attach key bytes) answer) is = tt
  refresh_puts (AtLink id call heard) is = tt

  refresh_asks : (P : Call → Type 0) (event : Event) → IsRefreshGet event → Asks P event
  refresh_asks P (AtStore call answer) is = tt
  refresh_asks P (AtLink id call heard) (number, got, inl is) = absurd (cc is)
  refresh_asks P (AtLink id call heard) (number, got, inr is) = absurd (cc is)

  pub views_put : (events : List Event) → ((event : Event) → Had events event → IsRefreshGet event) → AllPutOwn drawn events
  views_put events own = had_all (PutsOwn drawn) events (λ event had. refresh_puts event (own event had))

  pub views_ask : (P : Call → Type 0) (events : List Event) → ((event : Event) → Had events event → IsRefreshGet event) → AllAsk P events
  views_ask P events own = had_all (Asks P) events (λ event had. refresh_asks P event (own event had))
