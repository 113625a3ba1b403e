-- What became of the own row of an operation that puts an entry, over a calm service.
use Rattle.std.proofs.Common.{◌≡◌, inl, inr, ◌+◌, true, List, ◌∷◌, ◌++◌, Some, refl, sym, subst, ap, ◌∙◌}
use Rattle.std.specs.Prelude.{IsSome, ◌↔◌}
use Rattle.chain_block.specs.declared.meta_block.MetaBlock.{MetaBlock}
use Rattle.chain_block.specs.declared.entry.Entry.{Entry}
use Rattle.chain_block.specs.Entry.{handle_of, height_of}
use Rattle.statement.specs.Receipt.{Receipt}
use Rattle.port.specs.declared.key.Key.TheVariants as keys
use Rattle.port.specs.declared.store_answers.Put.TheVariants as puts
use Rattle.port.specs.declared.store_answers.Got.{Got as StoreGot}
use Rattle.port.specs.declared.store_answers.Got.TheVariants as gots
use Rattle.port.specs.Cause.{Cause}
use Rattle.port.specs.Contents.{Contents}
use Rattle.port.specs.GoodRow.{IsGoodRow}
use Rattle.port.specs.Link.{Bank}
use Rattle.port.specs.Row.{Content}
use Rattle.port.specs.RowForm.{IsStored}
use Rattle.port.specs.Store.{Get, WasGot, IsHonest}
use Rattle.port.specs.Stored.{Stored}
use Rattle.port.specs.Trace.{Event, AreHonest, AreFaithful}
use Rattle.view_ledger.specs.Views.{ViewChain}
use Rattle.settle.specs.Settling.{Settling}
use Rattle.settle.specs.State.{State as Settle}
use Rattle.settle.specs.Says.{IsSettled, IsRefused as IsSettleRefused}
use Rattle.op_entry.specs.declared.found.Found.{Found}
use Rattle.op_entry.specs.Ask.{Ask}
use Rattle.op_entry.specs.OwnRow.{key_of, get_of, IsInPlaceOf}
use Rattle.op_entry.specs.Standing.{IsUnreceipted, settling_of}
use Rattle.op_entry.specs.Sound.{WasPut, GaveRow, IsToSettle, IsSettling}
use Rattle.calm.specs.Calm.{ServiceState, IsCalm}
use Rattle.calm.specs.Calls.{Later}
use Rattle.calm.specs.Ledgers.{row_above, IsNextEntry}
use Rattle.calm.specs.StandingViews.{IsFront}
use Rattle.calm_entry.specs.CalmRun.{all_views}
use Rattle.calm_entry.specs.NextSettling.{NextSettling, entries_of, with_put, settling_next}
use Rattle.calm_entry.proofs.LowerLaws.{CutLaws, RowLaws}
use Rattle.calm_entry.proofs.Quiet.{RefreshLaws, Quiet, Leads, leads_get, answered_get}
use Rattle.calm_entry.proofs.Standing.{Standing, standing, is_row, is_receipted}
use Rattle.calm_entry.proofs.OwnRows.{OwnLaw, IsOwnRow, was_taken, was_done}

module _ (cut : CutLaws) (rows : RowLaws) (refreshes : RefreshLaws) (service : ServiceState) (calm : IsCalm service) (from : ViewChain) (front : IsFront service.roster service.configs from)
    (ask : Ask) (entry : Entry) (law : OwnLaw rows refreshes service calm from front ask entry) where
  abbrev Honest : List Event → Contents → Type 0
  Honest past contents = AreHonest service.contents past contents

  abbrev Faithful : List Event → Bank → Type 0
  Faithful past bank = AreFaithful service.signs service.bank past bank

  -- the newest call gave the row that stands in the place of the own one
  abbrev pub GaveOwn : ViewChain → Found → Stored → List Event → Type 0
  GaveOwn chain found stored past =
      (own : Content) × (before : List Event) × (past ≡ get_of (key_of own) (gots.Some stored) ∷ before)
      × IsInPlaceOf own stored.body found.row × ((found.is_own ≡ true) ↔ (found.row.entry ≡ own.entry)) × WasPut service.accepts ask from chain own puts.Taken before

  -- The row that was found is one that stands, and it is the own one where its entry is.
  pub record Given (chain : ViewChain) (found : Found) (stored : Stored) (contents : Contents) (bank : Bank) : Type 0 where
    pub quiet : Quiet service chain contents bank
    pub stands : Standing service calm (handle_of entry) (height_of entry) stored
    pub row : found.row ≡ row_above stands.below stands.entry
    pub own : (found.is_own ≡ true) ↔ (stands.entry ≡ entry)

  -- What was got of the own row's place, which was taken.
  pub record Got (chain : ViewChain) (own : Content) (got : StoreGot) (contents : Contents) (bank : Bank) : Type 0 where
    pub quiet : Quiet service chain contents bank
    pub own_row : IsOwnRow service entry own
    pub some : IsSome (service.contents (key_of own))
    pub answered : IsHonest service.contents (Get (key_of own)) (WasGot got) contents

  pub own_got : (chain : ViewChain) (own : Content) (got : StoreGot) (past before : List Event) → past ≡ get_of (key_of own) got ∷ before → WasPut service.accepts ask from chain own puts.Taken before
      → (contents : Contents) (bank : Bank) → Honest past contents → Faithful past bank → Got chain own got contents bank
  own_got chain own got past before is was contents bank honest faithful =
      let leads : Leads service before chain = λ c b h f. (was_taken rows refreshes service calm from front ask entry law chain own before c b h f was).quiet in
      let h = subst (λ (p : List Event). Honest p contents) is honest in
      let f = subst (λ (p : List Event). Faithful p bank) is faithful in
      let taken = was_taken rows refreshes service calm from front ask entry law chain own before h.0 bank h.1 f was in
      record {
        quiet = leads_get service past before chain (key_of own) got is leads contents bank honest faithful;
        own_row = taken.own;
        some = taken.some;
        answered = answered_get service past before chain (key_of own) got is leads contents bank honest faithful;
      }

  -- the own row's key
  pub key_is : (own : Content) → IsOwnRow service entry own → key_of own ≡ keys.Row (handle_of entry) (height_of entry)
  key_is own is = ap key_of is.is

  pub given : (chain : ViewChain) (found : Found) (stored : Stored) (past : List Event) → GaveOwn chain found stored past
      → (contents : Contents) (bank : Bank) → Honest past contents → Faithful past bank → Given chain found stored contents bank
  given chain found stored past (own, before, is, in_place, same, was) contents bank honest faithful =
      let got = own_got chain own (gots.Some stored) past before is was contents bank honest faithful in
      let own_entry : own.entry ≡ entry = ap (λ (r : Content). r.entry) got.own_row.is in
      let there : service.contents (keys.Row (handle_of entry) (height_of entry)) ≡ Some stored = ap service.contents (sym (key_is own got.own_row)) ∙ got.answered.0 in
      let stands = standing service calm rows (handle_of entry) (height_of entry) stored there in
      let good : IsGoodRow (handle_of entry) (height_of entry) stored.body found.row = subst (λ (e : Entry). IsGoodRow (handle_of e) (height_of e) stored.body found.row) own_entry in_place.good in
      let row = is_row service calm rows (handle_of entry) (height_of entry) stored stands found.row good in
      let found_entry : found.row.entry ≡ stands.entry = ap (λ (r : Content). r.entry) row in
      record {
        quiet = got.quiet;
        stands = stands;
        row = row;
        own = ((λ is_own. sym found_entry ∙ same.0 is_own ∙ own_entry), (λ is_entry. same.1 (found_entry ∙ is_entry ∙ sym own_entry)));
      }

  -- and it has a receipt
  pub never_bare : (chain : ViewChain) (found : Found) (stored : Stored) (past : List Event) → GaveOwn chain found stored past
      → (contents : Contents) (bank : Bank) → Honest past contents → Faithful past bank → IsUnreceipted service.accepts chain.configs found.row stored.attached → ⊥
  never_bare chain found stored past gave contents bank honest faithful bare =
      let is = given chain found stored past gave contents bank honest faithful in
      is_receipted service calm rows (handle_of entry) (height_of entry) stored is.stands chain.configs (ap (λ (c : ViewChain). c.configs) is.quiet.whole) found.row is.row bare

  module _ (gave_own : (chain : ViewChain) (found : Found) (stored : Stored) (past : List Event) → GaveRow service.accepts ask from chain found stored past → GaveOwn chain found stored past)
      (is_stored : IsStored entry) where
    -- The row that is settled is the own one, which was put on top of its ledger.
    pub record Next (chain : ViewChain) (found : Found) (calls : List Event) (contents : Contents) (bank : Bank) : Type 0 where
      pub is_own : found.is_own ≡ true
      pub whole : chain ≡ all_views service
      pub row : found.row ≡ row_above (entries_of service entry) entry
      pub next : IsNextEntry service.ledgers (handle_of entry) entry
      pub honest : AreHonest (with_put service entry) calls contents
      pub faithful : AreFaithful service.signs service.bank calls bank

    began_next : (chain : ViewChain) (found : Found) (calls before : List Event) (contents : Contents) (bank : Bank) → IsToSettle service.accepts ask from chain found before
        → Honest (calls ++ before) contents → Faithful (calls ++ before) bank → Next chain found calls contents bank
    began_next chain found calls before contents bank (inl (is_own, was)) honest faithful =
        let h = cut.store service.contents contents calls before honest in
        let f = cut.link service.signs service.bank bank calls before faithful in
        let done = was_done rows refreshes service calm from front ask entry law chain found.row before h.0 f.0 h.1 f.1 was in
        record {
          is_own = is_own;
          whole = done.whole;
          row = done.row_is;
          next = record { stored = is_stored; of_ledger = refl; of_height = done.at };
          honest = subst (λ (c : Contents). AreHonest c calls contents) done.stands h.2;
          faithful = subst (λ (b : Bank). AreFaithful service.signs b calls bank) done.unasked f.2;
        }
    began_next chain found calls before contents bank (inr (stored, gave, bare)) honest faithful =
        let h = cut.store service.contents contents calls before honest in
        let f = cut.link service.signs service.bank bank calls before faithful in
        absurd (never_bare chain found stored before (gave_own chain found stored before gave) h.0 f.0 h.1 f.1 bare)

    pub settles : (chain : ViewChain) (found : Found) (settle : Settle) (past : List Event) → (settling : IsSettling service.accepts ask from chain found settle past)
        → (contents : Contents) (bank : Bank) → Honest past contents → Faithful past bank → Next chain found settling.calls contents bank
    settles chain found settle past settling contents bank honest faithful =
        began_next chain found settling.calls settling.before contents bank settling.began
        (subst (λ (p : List Event). Honest p contents) settling.split honest) (subst (λ (p : List Event). Faithful p bank) settling.split faithful)

    -- this is a settling of the next row
    module _ (later : Later) (one_more : service.left ≡ later.left + 1) (chain : ViewChain) (found : Found) (calls : List Event) (next : Next chain found calls later.contents later.bank) where
      abbrev pub next_of : NextSettling
      next_of = record {
        service = service;
        entry = entry;
        calls = calls;
        later = later;
        calm = calm;
        one_more = one_more;
        next = next.next;
        honest = next.honest;
        faithful = next.faithful;
      }

      same_settling : settling_of chain.configs found.row ≡ settling_next service entry
      same_settling =
          ap (λ (c : ViewChain). settling_of c.configs found.row) next.whole
          ∙ ap (λ (r : Content). settling_of service.configs r) next.row

      pub settled_so : (blocks : List MetaBlock) (receipt : Receipt) → IsSettled service.accepts (settling_of chain.configs found.row) calls blocks receipt
          → IsSettled service.accepts (settling_next service entry) calls blocks receipt
      settled_so blocks receipt is = subst (λ (s : Settling). IsSettled service.accepts s calls blocks receipt) same_settling is

      pub refused_so : (cause : Cause) → IsSettleRefused service.accepts (settling_of chain.configs found.row) calls cause
          → IsSettleRefused service.accepts (settling_next service entry) calls cause
      refused_so cause is = subst (λ (s : Settling). IsSettleRefused service.accepts s calls cause) same_settling is
