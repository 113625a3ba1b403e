-- The put of an entry and the get of what stands in its place aren't refused over a calm service, but for want of memory.
use Rattle.std.proofs.Common.{◌≡◌, ◌⊎◌, inl, inr, ℕ, ◌+◌, List, [], ◌∷◌, ◌++◌, length, Option, Some, None, refl, sym, subst, ap, ◌∙◌, arith}
use Rattle.std.specs.Prelude.{IsSome}
use Rattle.chain_block.specs.declared.entry.Entry.{Entry}
use Rattle.chain_block.specs.Entry.{handle_of, height_of}
use Rattle.port.specs.declared.key.Key.TheVariants as keys
use Rattle.port.specs.declared.store_answers.Put.{Put}
use Rattle.port.specs.declared.store_answers.Put.TheVariants as puts
use Rattle.port.specs.declared.store_answers.Got.{Got as StoreGot}
use Rattle.port.specs.Cause.{Cause, StoreFault, BadRow, NoMemory}
use Rattle.port.specs.Contents.{Contents}
use Rattle.port.specs.GoodRow.{IsGoodRow}
use Rattle.port.specs.Link.{Bank}
use Rattle.port.specs.Row.{Content}
use Rattle.port.specs.Stored.{Stored}
use Rattle.port.specs.Store.{Get, WasGot, IsHonest}
use Rattle.port.specs.Trace.{Event, AreHonest, AreFaithful}
use Rattle.view_ledger.specs.Views.{ViewChain}
use Rattle.op_entry.specs.Ask.{Ask}
use Rattle.op_entry.specs.OwnRow.{key_of, get_of, IsInPlaceOf}
use Rattle.op_entry.specs.Refusal.{OrMemory, IsPutRefused, IsTakenRefused}
use Rattle.op_entry.specs.Sound.{WasPut, WasPutRefused}
use Rattle.calm.specs.Calm.{ServiceState, IsCalm}
use Rattle.calm.specs.Ledgers.{tail_of, row_above}
use Rattle.calm.specs.StandingViews.{IsFront}
use Rattle.calm_entry.specs.NextSettling.{entries_of}
use Rattle.calm_entry.proofs.LowerLaws.{CutLaws, RowLaws}
use Rattle.calm_entry.proofs.Quiet.{RefreshLaws}
use Rattle.calm_entry.proofs.Standing.{Standing, standing, same_below}
use Rattle.calm_entry.proofs.OwnRows.{OwnLaw, IsOwnRow, never_failed}
use Rattle.calm_entry.proofs.EntryRuns.{Got, own_got, key_is}
use Rattle.calm_entry.proofs.Refusing.{cause_or}

-- where the entry would be the first of its ledger it stands there
abbrev pub IsFirstThere : ServiceState → Entry → Type 0
IsFirstThere service entry = height_of entry ≡ 0 → (other : Entry) (above : List Entry) → entries_of service entry ≡ other ∷ above → other ≡ entry

module _ (cut : CutLaws) (rows : RowLaws) (refreshes : RefreshLaws) (service : ServiceState) (calm : IsCalm service) (from : ViewChain) (front : IsFront service.roster service.configs from)
    (ask : Ask) (entry : Entry) (law : OwnLaw rows refreshes service calm from front ask entry) where
  module _ (chain : ViewChain) (past : List Event) (contents : Contents) (bank : Bank) (honest : AreHonest service.contents past contents)
      (faithful : AreFaithful service.signs service.bank past bank) (cause : Cause) where
    put_stays : (row : Content) (put : Put) (why : Cause) → WasPut service.accepts ask from chain row put past → IsPutRefused put why → ⊥
    put_stays row put StoreFault was is =
        never_failed rows refreshes service calm from front ask entry law chain row past contents bank honest faithful
        (subst (λ (p : Put). WasPut service.accepts ask from chain row p past) is was)
    put_stays row put why was is = absurd is

    pub put_lacks : WasPutRefused service.accepts ask from chain cause past → cause ≡ NoMemory
    put_lacks (row, put, was, refused) = by (cause_or (IsPutRefused put) cause refused)
      where
        by : (cause ≡ NoMemory) ⊎ IsPutRefused put cause → cause ≡ NoMemory
        by (inl wanted) = wanted
        by (inr bad) = absurd (put_stays row put cause was bad)

    -- what stands there is in its place
    in_place : (own : Content) → IsOwnRow service entry own → IsFirstThere service entry → (stored : Stored) → (stands : Standing service calm (handle_of entry) (height_of entry) stored)
        → IsInPlaceOf own stored.body (row_above stands.below stands.entry)
    in_place own is first stored stands = record {
      good = subst (λ (e : Entry). IsGoodRow (handle_of e) (height_of e) stored.body (row_above stands.below stands.entry)) (sym own_entry)
          (subst (λ (n : ℕ). IsGoodRow (handle_of entry) n stored.body (row_above stands.below stands.entry)) (sym stands.at) stands.good);
      links = ap tail_of below ∙ sym (ap (λ (r : Content). r.metablock.prev) is.is);
      first = λ low. first (ap height_of (sym own_entry) ∙ low) stands.entry stands.above
          (stands.split ∙ ap (λ (b : List Entry). b ++ stands.entry ∷ stands.above) (none_below stands.below (sym stands.at ∙ ap height_of (sym own_entry) ∙ low))) ∙ sym own_entry;
    }
      where
        own_entry : own.entry ≡ entry
        own_entry = ap (λ (r : Content). r.entry) is.is

        below : stands.below ≡ is.below
        below = (same_below stands.below is.below (stands.entry ∷ stands.above) is.above (sym stands.split ∙ is.split) (sym stands.at ∙ is.at)).0

        none_below : (entries : List Entry) → length entries ≡ 0 → entries ≡ []
        none_below [] none = refl
        none_below (x ∷ entries) none = absurd (omega (arith, none))

    taken_stays : IsFirstThere service entry → (own : Content) (got : StoreGot) → Got cut rows refreshes service calm from front ask entry law chain own got contents bank
        → (why : Cause) → IsTakenRefused own got why → ⊥
    taken_stays first own got is StoreFault bad =
        subst (λ (g : StoreGot). IsHonest service.contents (Get (key_of own)) (WasGot g) contents) bad is.answered
    taken_stays first own got is (BadRow key None) bad =
        let none = (subst (λ (g : StoreGot). IsHonest service.contents (Get (key_of own)) (WasGot g) contents) bad.1 is.answered).0 in
        let some = subst (λ (o : Option Stored). IsSome o) none is.some in
        absurd (cc)
    taken_stays first own got is (BadRow key (Some bytes)) (key_same, gave, out_of_place) =
        let some = (subst (λ (g : StoreGot). IsHonest service.contents (Get (key_of own)) (WasGot g) contents) gave.1 is.answered).0 in
        let there : service.contents (keys.Row (handle_of entry) (height_of entry)) ≡ Some gave.0 =
        ap service.contents (sym (key_is cut rows refreshes service calm from front ask entry law own is.own_row)) ∙ some in
        let stands = standing service calm rows (handle_of entry) (height_of entry) gave.0 there in
        absurd (out_of_place (row_above stands.below stands.entry)
        (subst (λ (b : List ℕ). IsInPlaceOf own b (row_above stands.below stands.entry)) gave.2 (in_place own is.own_row first gave.0 stands)))
    taken_stays first own got is why bad = absurd bad

    pub taken_lacks : IsFirstThere service entry → (own : Content) (got : StoreGot) (before : List Event) → past ≡ get_of (key_of own) got ∷ before
        → WasPut service.accepts ask from chain own puts.Taken before → OrMemory (IsTakenRefused own got) cause → cause ≡ NoMemory
    taken_lacks first own got before is was refused = by (cause_or (IsTakenRefused own got) cause refused)
      where
        by : (cause ≡ NoMemory) ⊎ IsTakenRefused own got cause → cause ≡ NoMemory
        by (inl wanted) = wanted
        by (inr bad) = absurd (taken_stays first own got (own_got cut rows refreshes service calm from front ask entry law chain own got past before is was contents bank honest faithful) cause bad)
