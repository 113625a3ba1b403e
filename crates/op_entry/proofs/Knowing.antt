-- What is known of the own row of an operation.
use Rattle.std.proofs.Common.{◌≡◌, inl, inr, ℕ, true, false, List, ◌∷◌, replicate, refl, sym, subst, ap, ◌∙◌}
use Rattle.std.specs.Prelude.{◌↔◌}
use Rattle.chain_block.specs.declared.entry.Entry.{Entry}
use Rattle.chain_block.specs.Entry.{handle_of, height_of}
use Rattle.port.specs.declared.key.Key.TheVariants as keys
use Rattle.port.specs.declared.store_answers.Put.TheVariants as puts
use Rattle.port.specs.declared.store_answers.Got.TheVariants as gots
use Rattle.port.specs.GoodRow.{IsRowAt, IsGoodRow}
use Rattle.port.specs.Row.{Content}
use Rattle.port.specs.Stored.{Stored}
use Rattle.port.specs.Trace.{Event, Had}
use Rattle.view_ledger.specs.Views.{ViewChain}
use Rattle.view_ledger.specs.Receipts.{Accepts}
use Rattle.op_parts.specs.Walk.{block_tail}
use Rattle.op_entry.specs.declared.found.Found.{Found}
use Rattle.op_entry.specs.Ask.{Ask, NewLedger, AppendEntry, ReadAt, ledger_of, place_of}
use Rattle.op_entry.specs.OwnRow.{row_on, key_of, put_of, get_of, get_below, IsInPlaceOf}
use Rattle.op_entry.specs.Sound.{HasOwnRow, WasPut, GaveRow, IsToSettle}
use Rattle.op_entry.specs.Says.{IsRowKnown, IsTailBelow, HasOwnEntry, HasOtherEntry}
use Rattle.op_entry.proofs.Within.{Within, within_next, had_newest}

-- the own entry stands on this tail
abbrev pub IsOwnRow : Ask → List ℕ → Content → Type 0
IsOwnRow (NewLedger entry) tail row = row ≡ row_on tail entry
IsOwnRow (AppendEntry entry) tail row = row ≡ row_on tail entry
IsOwnRow (ReadAt handle height) tail row = ⊥

pub tail_more : (ask : Ask) (some all : List Event) (tail : List ℕ) → Within some all → IsTailBelow ask some tail → IsTailBelow ask all tail
tail_more (NewLedger entry) some all tail more is = is
tail_more (AppendEntry entry) some all tail more is = (is.0, is.1, more _ is.2, is.3, is.4)
tail_more (ReadAt handle height) some all tail more is = tt

pub known_more : (ask : Ask) (some all : List Event) (row : Content) → Within some all → IsRowKnown ask some row → IsRowKnown ask all row
known_more ask some all row more (inl had) = inl (more _ had)
known_more ask some all row more (inr is) = inr (is.0, more _ is.1, is.2)

module _ (accepts : Accepts) (from chain : ViewChain) where
  pub own_row : (ask : Ask) (row : Content) (past : List Event) → HasOwnRow accepts ask from chain row past
      → (tail : List ℕ) × IsOwnRow ask tail row × IsTailBelow ask past tail
  own_row (NewLedger entry) row past has = (replicate 32 0, has.1, refl)
  own_row (AppendEntry entry) row past has =
      (block_tail has.1.metablock, has.5, (has.0, has.1, had_newest past (get_below entry (gots.Some has.0)) has.2 has.3, has.4, refl))
  own_row (ReadAt handle height) row past has = absurd has

-- What is known of a row that stands: it is the ledger's at the height, the store took it or gave it, what it links to, and whose
-- entry it has.
pub record Knows (ask : Ask) (past : List Event) (found : Found) : Type 0 where
  pub at : IsRowAt (ledger_of ask) (place_of ask) found.row
  pub known : IsRowKnown ask past found.row
  pub below : IsTailBelow ask past found.row.metablock.prev
  pub own : found.is_own ≡ true → HasOwnEntry ask found.row
  pub other : found.is_own ≡ false → HasOtherEntry ask found.row

pub knows_more : (ask : Ask) (some all : List Event) (found : Found) → Within some all → Knows ask some found → Knows ask all found
knows_more ask some all found more knows = record {
  at = knows.at;
  known = known_more ask some all found.row more knows.known;
  below = tail_more ask some all found.row.metablock.prev more knows.below;
  own = knows.own;
  other = knows.other;
}

-- a row that was made is the ledger's
made_at : (tail : List ℕ) (entry : Entry) → IsRowAt (handle_of entry) (height_of entry) (row_on tail entry)
made_at tail entry = record { of_ledger = refl; of_height = refl; of_entry = refl; block_height = refl }

-- what was put
put_knows : (ask : Ask) (found : Found) (tail : List ℕ) (past : List Event) → found.is_own ≡ true → IsOwnRow ask tail found.row → Had past (put_of found.row puts.Done)
    → IsTailBelow ask past tail → Knows ask past found
put_knows (NewLedger entry) found tail past is_own is had below = record {
  at = subst (λ (r : Content). IsRowAt (handle_of entry) (height_of entry) r) (sym is) (made_at tail entry);
  known = inl had;
  below = ap (λ (r : Content). r.metablock.prev) is ∙ below;
  own = λ e. ap (λ (r : Content). r.entry) is;
  other = λ e. absurd (cc (is_own, e));
}
put_knows (AppendEntry entry) found tail past is_own is had below = record {
  at = subst (λ (r : Content). IsRowAt (handle_of entry) (height_of entry) r) (sym is) (made_at tail entry);
  known = inl had;
  below = subst (λ (r : Content). IsTailBelow (AppendEntry entry) past r.metablock.prev) (sym is) below;
  own = λ e. ap (λ (r : Content). r.entry) is;
  other = λ e. absurd (cc (is_own, e));
}
put_knows (ReadAt handle height) found tail past is_own is had below = absurd is

-- what was given in the place of an own row
given_good : (own : Content) (found : Found) (stored : Stored) (past : List Event) (tail : List ℕ) (entry : Entry) → own ≡ row_on tail entry
    → IsInPlaceOf own stored.body found.row → Had past (get_of (key_of own) (gots.Some stored))
    → Had past (get_of (keys.Row (handle_of entry) (height_of entry)) (gots.Some stored)) × IsGoodRow (handle_of entry) (height_of entry) stored.body found.row
given_good own found stored past tail entry is place had =
    subst (λ (o : Content). IsInPlaceOf o stored.body found.row → Had past (get_of (key_of o) (gots.Some stored))
    → Had past (get_of (keys.Row (handle_of entry) (height_of entry)) (gots.Some stored)) × IsGoodRow (handle_of entry) (height_of entry) stored.body found.row) (sym is)
    (λ p h. (h, p.good)) place had

module _ (accepts : Accepts) (from chain : ViewChain) where
  first_knows : (entry : Entry) (found : Found) (own : Content) (stored : Stored) (past before : List Event) → past ≡ get_of (key_of own) (gots.Some stored) ∷ before
      → IsInPlaceOf own stored.body found.row → (found.is_own ≡ true) ↔ (found.row.entry ≡ own.entry) → WasPut accepts (NewLedger entry) from chain own puts.Taken before
      → Knows (NewLedger entry) past found
  first_knows entry found own stored past before newest place same was =
      let is : own ≡ row_on (replicate 32 0) entry = was.2.1 in
      let good = given_good own found stored past (replicate 32 0) entry is place (had_newest past (get_of (key_of own) (gots.Some stored)) before newest) in
      let entry_is : own.entry ≡ entry = ap (λ (r : Content). r.entry) is in
      let row_is : found.row.entry ≡ own.entry = place.first (ap (λ (r : Content). height_of r.entry) is ∙ was.2.0) in
      record {
        at = good.1.at;
        known = inr (stored, good.0, good.1);
        below = place.links ∙ ap (λ (r : Content). r.metablock.prev) is;
        own = λ e. row_is ∙ entry_is;
        other = λ e. absurd (cc (same.1 row_is, e));
      }

  later_knows : (entry : Entry) (found : Found) (own : Content) (stored : Stored) (past before : List Event) → past ≡ get_of (key_of own) (gots.Some stored) ∷ before
      → IsInPlaceOf own stored.body found.row → (found.is_own ≡ true) ↔ (found.row.entry ≡ own.entry) → WasPut accepts (AppendEntry entry) from chain own puts.Taken before
      → Knows (AppendEntry entry) past found
  later_knows entry found own stored past before newest place same was =
      let made = own_row accepts from chain (AppendEntry entry) own was.0 was.2 in
      let is : own ≡ row_on made.0 entry = made.1 in
      let good = given_good own found stored past made.0 entry is place (had_newest past (get_of (key_of own) (gots.Some stored)) before newest) in
      let entry_is : own.entry ≡ entry = ap (λ (r : Content). r.entry) is in
      let prev_is : found.row.metablock.prev ≡ made.0 = place.links ∙ ap (λ (r : Content). r.metablock.prev) is in
      let below : IsTailBelow (AppendEntry entry) past made.0 =
      tail_more (AppendEntry entry) before past made.0 (within_next past (get_of (key_of own) (gots.Some stored)) before newest)
      (tail_more (AppendEntry entry) was.0 before made.0 (within_next before (put_of own puts.Taken) was.0 was.1) made.2) in
      record {
        at = good.1.at;
        known = inr (stored, good.0, good.1);
        below = subst (λ (t : List ℕ). IsTailBelow (AppendEntry entry) past t) (sym prev_is) below;
        own = λ e. same.0 e ∙ entry_is;
        other = λ e equal. absurd (cc (same.1 (equal ∙ sym entry_is), e));
      }

  pub given_knows : (ask : Ask) (found : Found) (stored : Stored) (past : List Event) → GaveRow accepts ask from chain found stored past → Knows ask past found
  given_knows (NewLedger entry) found stored past gave = first_knows entry found gave.0 stored past gave.1 gave.2 gave.3 gave.4 gave.5
  given_knows (AppendEntry entry) found stored past gave = later_knows entry found gave.0 stored past gave.1 gave.2 gave.3 gave.4 gave.5
  given_knows (ReadAt handle height) found stored past gave = record {
    at = gave.2.at;
    known = inr (stored, had_newest past (get_of (keys.Row handle height) (gots.Some stored)) gave.0 gave.1, gave.2);
    below = tt;
    own = λ e. tt;
    other = λ e. absurd (cc (gave.3, e));
  }

  pub given_had : (ask : Ask) (found : Found) (stored : Stored) (past : List Event) → GaveRow accepts ask from chain found stored past
      → Had past (get_of (keys.Row (ledger_of ask) (place_of ask)) (gots.Some stored))
  given_had (NewLedger entry) found stored past gave =
      (given_good gave.0 found stored past (replicate 32 0) entry gave.5.2.1 gave.3 (had_newest past (get_of (key_of gave.0) (gots.Some stored)) gave.1 gave.2)).0
  given_had (AppendEntry entry) found stored past gave =
      let made = own_row accepts from chain (AppendEntry entry) gave.0 gave.5.0 gave.5.2 in
      (given_good gave.0 found stored past made.0 entry made.1 gave.3 (had_newest past (get_of (key_of gave.0) (gots.Some stored)) gave.1 gave.2)).0
  given_had (ReadAt handle height) found stored past gave = had_newest past (get_of (keys.Row handle height) (gots.Some stored)) gave.0 gave.1

  pub to_settle_knows : (ask : Ask) (found : Found) (past : List Event) → IsToSettle accepts ask from chain found past → Knows ask past found
  to_settle_knows ask found past (inl is) =
      let was = is.1 in
      let made = own_row accepts from chain ask found.row was.0 was.2 in
      put_knows ask found made.0 past is.0 made.1 (had_newest past (put_of found.row puts.Done) was.0 was.1)
      (tail_more ask was.0 past made.0 (within_next past (put_of found.row puts.Done) was.0 was.1) made.2)
  to_settle_knows ask found past (inr is) = given_knows ask found is.0 past is.1
