-- The own row of an operation that puts an entry, over a calm service.
use Rattle.std.proofs.Common.{◌≡◌, ℕ, ◌+◌, ◌-◌, ◌≤◌, List, [], ◌∷◌, ◌++◌, length, replicate, refl, sym, subst, ap, ◌∙◌, arith, append_assoc, length-append}
use Rattle.std.specs.Prelude.{IsSome}
use Rattle.std.proofs.lemmas.List.{append-nil}
use Rattle.chain_block.specs.declared.entry.Entry.{Entry}
use Rattle.chain_block.specs.Entry.{handle_of, height_of}
use Rattle.port.specs.declared.key.Key.TheVariants as keys
use Rattle.port.specs.declared.store_answers.Put.{Put}
use Rattle.port.specs.declared.store_answers.Put.TheVariants as puts
use Rattle.port.specs.declared.store_answers.Got.TheVariants as gots
use Rattle.port.specs.Contents.{Contents, put, fresh}
use Rattle.port.specs.Link.{Bank}
use Rattle.port.specs.Row.{Content}
use Rattle.port.specs.RowForm.{row_bytes}
use Rattle.port.specs.Store.{PutNew, WasPut, IsHonest}
use Rattle.port.specs.Trace.{Event, AreHonest, AreFaithful}
use Rattle.view_ledger.specs.Views.{ViewChain}
use Rattle.op_parts.specs.Walk.{block_tail}
use Rattle.op_entry.specs.Ask.{Ask, NewLedger, AppendEntry}
use Rattle.op_entry.specs.OwnRow.{row_on, key_of, height_below}
use Rattle.op_entry.specs.Sound.{HasOwnRow, WasPut as WasRowPut}
use Rattle.calm.specs.Calm.{ServiceState, IsCalm}
use Rattle.calm.specs.Ledgers.{tail_of, row_above}
use Rattle.calm.specs.StandingViews.{IsFront}
use Rattle.calm_entry.specs.CalmRun.{all_views}
use Rattle.calm_entry.specs.NextSettling.{entries_of, with_put}
use Rattle.calm_entry.proofs.LowerLaws.{RowLaws}
use Rattle.calm_entry.proofs.Quiet.{RefreshLaws, Quiet, Leads, leads_get, answered_get, leads_refreshed}
use Rattle.calm_entry.proofs.Standing.{standing, missing, is_row}

-- the row of the entry on these, by its height
row_at : (below : List Entry) (entry : Entry) (prev : List ℕ) → prev ≡ tail_of below → height_of entry ≡ length below → row_on prev entry ≡ row_above below entry
row_at below entry prev on at =
    ap (λ (t : List ℕ). row_on t entry) on
    ∙ ap (λ (n : ℕ). let r : Content = record { entry = entry; metablock = record { prev = tail_of below; entry = (row_above below entry).metablock.entry; height = n } } in r) at

-- The row is the entry's above some of the ledger's entries.
pub record IsOwnRow (service : ServiceState) (entry : Entry) (row : Content) : Type 0 where
  pub below : List Entry
  pub above : List Entry
  pub split : entries_of service entry ≡ below ++ above
  pub at : height_of entry ≡ length below
  pub is : row ≡ row_above below entry

module _ (rows : RowLaws) (refreshes : RefreshLaws) (service : ServiceState) (calm : IsCalm service) (from : ViewChain) (front : IsFront service.roster service.configs from) where
  -- what the calls before a put lead to
  pub record Knows (ask : Ask) (entry : Entry) (chain : ViewChain) (row : Content) (past : List Event) : Type 0 where
    pub leads : Leads service past chain
    pub own : (contents : Contents) (bank : Bank) → AreHonest service.contents past contents → AreFaithful service.signs service.bank past bank → IsOwnRow service entry row

  abbrev pub OwnLaw : Ask → Entry → Type 0
  OwnLaw ask entry = (chain : ViewChain) (row : Content) (past : List Event) → HasOwnRow service.accepts ask from chain row past → Knows ask entry chain row past

  pub first_row : (entry : Entry) → OwnLaw (NewLedger entry) entry
  first_row entry chain row past (low, is, fresh_now) = record {
    leads = leads_refreshed service refreshes calm from front chain past fresh_now;
    own = λ contents bank honest faithful. record {
      below = [];
      above = entries_of service entry;
      split = refl;
      at = low;
      is = is ∙ row_at [] entry (replicate 32 0) (sym rows.no_tail) low;
    };
  }

  pub later_row : (entry : Entry) → 1 ≤ height_of entry → OwnLaw (AppendEntry entry) entry
  later_row entry high chain row past (stored, low, before, is, good, row_is, fresh_now) =
      let leads = leads_refreshed service refreshes calm from front chain before fresh_now in
      let key = keys.Row (handle_of entry) (height_below entry) in
      record {
        leads = leads_get service past before chain key (gots.Some stored) is leads;
        own = λ contents bank honest faithful.
            let gave = answered_get service past before chain key (gots.Some stored) is leads contents bank honest faithful in
            let stands = standing service calm rows (handle_of entry) (height_below entry) stored gave.0 in
            let same = is_row service calm rows (handle_of entry) (height_below entry) stored stands low good in
            let here = stands.at in
            let longer = length-append stands.below (stands.entry ∷ []) in
            let at : height_of entry ≡ length (stands.below ++ stands.entry ∷ []) = omega (arith, here, high, longer) in
            record {
              below = stands.below ++ stands.entry ∷ [];
              above = stands.above;
              split = stands.split ∙ sym (append_assoc stands.below (stands.entry ∷ []) stands.above);
              at = at;
              is = row_is ∙ row_at (stands.below ++ stands.entry ∷ []) entry (block_tail low.metablock)
                  (ap (λ (r : Content). block_tail r.metablock) same ∙ sym (rows.tail stands.below stands.entry)) at;
            };
      }

  module _ (ask : Ask) (entry : Entry) (law : OwnLaw ask entry) (chain : ViewChain) (row : Content) (past : List Event) (contents : Contents) (bank : Bank)
      (honest : AreHonest service.contents past contents) (faithful : AreFaithful service.signs service.bank past bank) where
    -- The own row was put.
    record WasCalled (answer : Put) : Type 0 where
      pub quiet : (contents : Contents) → contents ≡ service.contents → Quiet service chain contents bank
      pub own : IsOwnRow service entry row
      pub answered : IsHonest service.contents (PutNew (key_of row) (row_bytes row)) (WasPut answer) contents

    called : (answer : Put) → WasRowPut service.accepts ask from chain row answer past → WasCalled answer
    called answer (before, is, has) =
        let knows = law chain row before has in
        let h = subst (λ (p : List Event). AreHonest service.contents p contents) is honest in
        let f = subst (λ (p : List Event). AreFaithful service.signs service.bank p bank) is faithful in
        let q = knows.leads h.0 bank h.1 f in
        record {
          quiet = λ c same. record { whole = q.whole; same = same; unasked = q.unasked };
          own = knows.own h.0 bank h.1 f;
          answered = subst (λ (c : Contents). IsHonest c (PutNew (key_of row) (row_bytes row)) (WasPut answer) contents) q.same h.2;
        }

    -- something stands in its place
    pub record Taken : Type 0 where
      pub quiet : Quiet service chain contents bank
      pub own : IsOwnRow service entry row
      pub some : IsSome (service.contents (key_of row))

    pub was_taken : WasRowPut service.accepts ask from chain row puts.Taken past → Taken
    was_taken was = let c = called puts.Taken was in record { quiet = c.quiet contents c.answered.1; own = c.own; some = c.answered.0 }

    -- it stands now, on top of its ledger
    pub record Done : Type 0 where
      pub whole : chain ≡ all_views service
      pub unasked : bank ≡ service.bank
      pub row_is : row ≡ row_above (entries_of service entry) entry
      pub at : height_of entry ≡ length (entries_of service entry)
      pub stands : contents ≡ with_put service entry

    pub was_done : WasRowPut service.accepts ask from chain row puts.Done past → Done
    was_done was =
        let c = called puts.Done was in
        let own = c.own in
        let q = c.quiet service.contents refl in
        let key_is : key_of row ≡ keys.Row (handle_of entry) (length own.below) = ap key_of own.is ∙ ap (λ (n : ℕ). keys.Row (handle_of entry) n) own.at in
        let count = missing service calm rows (handle_of entry) (length own.below) (ap service.contents (sym key_is) ∙ c.answered.0) in
        let whole = ap length own.split ∙ length-append own.below own.above in
        let all : entries_of service entry ≡ own.below = none_above own.above own.split (omega (arith, count, whole)) in
        let row_is : row ≡ row_above (entries_of service entry) entry = own.is ∙ ap (λ (b : List Entry). row_above b entry) (sym all) in
        let at : height_of entry ≡ length (entries_of service entry) = own.at ∙ ap length (sym all) in
        record {
          whole = q.whole;
          unasked = q.unasked;
          row_is = row_is;
          at = at;
          stands = c.answered.1 ∙ ap (λ (r : Content). put service.contents (key_of r) (fresh (row_bytes r))) row_is
              ∙ ap (λ (n : ℕ). put service.contents (keys.Row (handle_of entry) n) (fresh (row_bytes (row_above (entries_of service entry) entry)))) at;
        }
      where
        none_above : {below : List Entry} (above : List Entry) → entries_of service entry ≡ below ++ above → length above ≡ 0 → entries_of service entry ≡ below
        none_above {below} [] split none = split ∙ append-nil below
        none_above {below} (x ∷ above) split none = absurd (omega (arith, none))

    -- a put of it doesn't fail
    pub never_failed : WasRowPut service.accepts ask from chain row puts.Failed past → ⊥
    never_failed was = (called puts.Failed was).answered
