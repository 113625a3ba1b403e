-- A calm service in which one row more stands.
use Rattle.std.proofs.Common.{◌≡◌, ◌≢◌, ◌⊎◌, inl, inr, ℕ, ◌+◌, ◌-◌, ◌<◌, true, List, [], ◌∷◌, ◌++◌, length, Some, refl, sym, subst, ap, ◌∙◌, arith, length-append}
use Rattle.std.specs.Prelude.{bytes_eq}
use Rattle.std.proofs.lemmas.Bool.{cases_Bool}
use Rattle.std.proofs.lemmas.Slice.Eq.{bytes_eq-Decides}
use Rattle.chain_block.specs.declared.entry.Entry.{Entry}
use Rattle.chain_block.specs.declared.meta_block.MetaBlock.{MetaBlock}
use Rattle.chain_block.specs.Tail.{tail_after}
use Rattle.tail_map.specs.declared.tail_row.TailRow.{TailRow}
use Rattle.tail_map.specs.TailMap.{get, set}
use Rattle.statement.specs.declared.member.Member.{Member}
use Rattle.statement.specs.Receipt.{Receipt, IsReceipt, receipt_bytes}
use Rattle.statement.specs.Statement.{view_of}
use Rattle.port.specs.declared.key.Key.TheVariants as keys
use Rattle.port.specs.Contents.{Contents, put, fresh, with_attached}
use Rattle.port.specs.Link.{Bank}
use Rattle.port.specs.RowForm.{row_bytes}
use Rattle.view_ledger.specs.Views.{newest_tail, newest_config, config_at, tail_at, number_of}
use Rattle.view_ledger.specs.Receipts.{Accepts, IsAccepted}
use Rattle.op_parts.specs.Attachment.{IsHeld, IsReceiptFor}
use Rattle.op_parts.specs.RoundAsking.{Asking, claim}
use Rattle.op_parts.specs.RoundOutcome.{held}
use Rattle.calm.specs.Ledgers.{Ledgers, tail_of, row_above, head_above, HasLedgers, with_entry, IsNextEntry}
use Rattle.calm.specs.StandingRows.{StandsAbove, StandRows}
use Rattle.calm.specs.StandingViews.{StandViews}
use Rattle.calm.specs.Appending.{HasRoom, row_of}
use Rattle.calm.specs.Calm.{ServiceState, NewestHold, IsCalm, rows_with, with_next, OnlyAt}
use Rattle.calm.proofs.Keys.{put_here}
use Rattle.calm.proofs.NewestViews.{tail_at_newest, number_is}
use Rattle.calm.proofs.NextRows.{tail_push, good_row, row_is}
use Rattle.calm.proofs.SetRows.{map_set}
use Rattle.calm.proofs.Splits.{push_split, shorter}

-- the laws of a row that is set, which the map's crate has
abbrev pub OwnLaw : Type 0
OwnLaw = (rows : List TailRow) (row : TailRow) → get (set rows row) row.handle ≡ (row.tail, row.count)

abbrev pub OthersLaw : Type 0
OthersLaw = (rows : List TailRow) (row : TailRow) (handle : List ℕ) → handle ≢ row.handle → get (set rows row) handle ≡ get rows handle

-- views that stood still do
views_stay : (accepts : Accepts) (roster : List Member) (contents later : Contents) (configs : List (List Member)) (handle : List ℕ) (height : ℕ) → OnlyAt (keys.Row handle height) contents later
    → StandViews accepts roster contents configs → StandViews accepts roster later configs
views_stay accepts roster contents later configs handle height only stand = record {
  some = stand.some;
  views = λ below above config is.
      let view = stand.views below above config is in
      record { stored = view.stored; stands = only (keys.View (length below)) (λ e. absurd (cc e)) ∙ view.stands; complete = view.complete; reads = view.reads };
  finals = λ below above config is some.
      let finals = stand.finals below above config is some in
      record { stored = finals.stored; stands = only (keys.Finals (length below)) (λ e. absurd (cc e)) ∙ finals.stands; maps = finals.maps; reads = finals.reads; follows = finals.follows };
  no_view = λ number none. only (keys.View number) (λ e. absurd (cc e)) ∙ stand.no_view number none;
  no_finals = λ number none. only (keys.Finals number) (λ e. absurd (cc e)) ∙ stand.no_finals number none;
}

module _ (accepts : Accepts) (configs : List (List Member)) (contents later : Contents) (ledgers : Ledgers) (handle : List ℕ) (entry : Entry)
    (only : OnlyAt (keys.Row handle (length (ledgers handle))) contents later) (new : StandsAbove accepts configs later handle (ledgers handle) entry) where
  -- a row that stood still does
  row_stays : (other : List ℕ) (below : List Entry) (one : Entry) → keys.Row other (length below) ≢ keys.Row handle (length (ledgers handle))
      → StandsAbove accepts configs contents other below one → StandsAbove accepts configs later other below one
  row_stays other below one apart stood = record {
    stored = stood.stored;
    stands = only (keys.Row other (length below)) apart ∙ stood.stands;
    good = stood.good;
    receipt = stood.receipt;
    attached = stood.attached;
  }

  own_rows : StandRows accepts configs contents handle (ledgers handle) → StandRows accepts configs later handle (ledgers handle ++ entry ∷ [])
  own_rows stood = record {
    each = λ below above one is. at below one (push_split (ledgers handle) entry below above one is);
    no_more = λ height above.
        let more = length-append (ledgers handle) (entry ∷ []) in
        only (keys.Row handle height) (λ e. let same : height ≡ length (ledgers handle) = cc in absurd (omega (arith, same, above, more)))
        ∙ stood.no_more height (omega (arith, above, more));
  }
    where
      at : (below : List Entry) (one : Entry) → ((below ≡ ledgers handle) × (one ≡ entry)) ⊎ ((rest : List Entry) × (ledgers handle ≡ below ++ one ∷ rest))
          → StandsAbove accepts configs later handle below one
      at below one (inl here) = subst (λ (b : List Entry). StandsAbove accepts configs later handle b one) (sym here.0) (subst (λ (e : Entry). StandsAbove accepts configs later handle (ledgers handle) e) (sym here.1) new)
      at below one (inr there) =
          let less = shorter (ledgers handle) below there.0 one there.1 in
          row_stays handle below one (λ e. let same : length below ≡ length (ledgers handle) = cc in absurd (omega (arith, same, less))) (stood.each below there.0 one there.1)

  other_rows : (other : List ℕ) → other ≢ handle → StandRows accepts configs contents other (ledgers other) → StandRows accepts configs later other (ledgers other)
  other_rows other apart stood = record {
    each = λ below above one is. row_stays other below one (λ e. apart (cc e)) (stood.each below above one is);
    no_more = λ height above. only (keys.Row other height) (λ e. apart (cc e)) ∙ stood.no_more height above;
  }

  pub rows_stand : ((other : List ℕ) → StandRows accepts configs contents other (ledgers other)) → (other : List ℕ) → StandRows accepts configs later other (with_entry ledgers handle entry other)
  rows_stand stood other =
      elim (cases_Bool (bytes_eq other handle)) [
        | inl same ↦
            let is : other ≡ handle = (bytes_eq-Decides other handle).0 same in
            rw same (subst (λ (h : List ℕ). StandRows accepts configs later h (ledgers h ++ entry ∷ [])) (sym is) (own_rows (stood handle)))
        | inr apart ↦ rw apart (other_rows other (λ e. absurd (let t : bytes_eq other handle ≡ true = (bytes_eq-Decides other handle).1 e in cc)) (stood other))
      ]

-- the map with the row
module _ (own_law : OwnLaw) (others_law : OthersLaw) (rows : List TailRow) (ledgers : Ledgers) (handle : List ℕ) (entry : Entry) (next : IsNextEntry ledgers handle entry) where
  abbrev row : TailRow
  row = row_of handle (row_above (ledgers handle) entry).metablock

  own_row : get (set rows row) handle ≡ (tail_of (ledgers handle ++ entry ∷ []), length (ledgers handle ++ entry ∷ []))
  own_row =
      own_law rows row
      ∙ ap (λ (t : List ℕ). (t, length (ledgers handle) + 1)) (sym (tail_push (ledgers handle) entry))
      ∙ ap (λ (n : ℕ). (tail_of (ledgers handle ++ entry ∷ []), n)) (sym (length-append (ledgers handle) (entry ∷ [])))

  pub has_ledgers : HasLedgers rows ledgers → HasRoom rows handle → HasLedgers (set rows row) (with_entry ledgers handle entry)
  has_ledgers has room = record {
    lawful = map_set rows row has.lawful (row_is ledgers handle entry next) room;
    each = λ other.
        elim (cases_Bool (bytes_eq other handle)) [
          | inl same ↦
              let is : other ≡ handle = (bytes_eq-Decides other handle).0 same in
              rw same (subst (λ (h : List ℕ). get (set rows row) h ≡ (tail_of (ledgers h ++ entry ∷ []), length (ledgers h ++ entry ∷ []))) (sym is) own_row)
          | inr apart ↦
              rw apart (others_law rows row other (λ e. absurd (let t : bytes_eq other handle ≡ true = (bytes_eq-Decides other handle).1 e in cc)) ∙ has.each other)
        ];
  }

pub appended : OwnLaw → OthersLaw → (service : ServiceState) (handle : List ℕ) (entry : Entry) (later : Contents) (after : Bank) (left : ℕ)
    → IsCalm service → IsNextEntry service.ledgers handle entry → HasRoom service.rows handle
    → StandsAbove service.accepts service.configs later handle (service.ledgers handle) entry → OnlyAt (keys.Row handle (length (service.ledgers handle))) service.contents later
    → NewestHold service.configs after (rows_with service handle entry) left → IsCalm (with_next service handle entry later after left)
appended own_law others_law service handle entry later after left calm next room new only able = record {
  fits = calm.fits;
  views = views_stay service.accepts service.roster service.contents later service.configs handle (length (service.ledgers handle)) only calm.views;
  members = able;
  map = has_ledgers own_law others_law service.rows service.ledgers handle entry next calm.map room;
  stand = rows_stand service.accepts service.configs service.contents later service.ledgers handle entry only new calm.stand;
}

pub stands : (accepts : Accepts) (configs : List (List Member)) (contents : Contents) (ledgers : Ledgers) (handle : List ℕ) (entry : Entry) (receipt : Receipt)
    → IsNextEntry ledgers handle entry → IsReceipt receipt → IsReceiptFor accepts configs (head_above handle (ledgers handle) entry) receipt
    → StandsAbove accepts configs
    (put (put contents (keys.Row handle (length (ledgers handle))) (fresh (row_bytes (row_above (ledgers handle) entry)))) (keys.Row handle (length (ledgers handle))) (with_attached (fresh (row_bytes (row_above (ledgers handle) entry))) (receipt_bytes receipt)))
    handle (ledgers handle) entry
stands accepts configs contents ledgers handle entry receipt next is_receipt for = record {
  stored = with_attached (fresh (row_bytes (row_above (ledgers handle) entry))) (receipt_bytes receipt);
  stands = put_here (put contents (keys.Row handle (length (ledgers handle))) (fresh (row_bytes (row_above (ledgers handle) entry)))) (keys.Row handle (length (ledgers handle)))
      (with_attached (fresh (row_bytes (row_above (ledgers handle) entry))) (receipt_bytes receipt));
  good = good_row ledgers handle entry next;
  receipt = receipt;
  attached = ((is_receipt, refl), for);
}

pub receipted : (accepts : Accepts) (configs : List (List Member)) (ledgers : Ledgers) (handle : List ℕ) (entry : Entry) (ask : Asking) (receipt : Receipt)
    → 0 < length configs → ask.handle ≡ handle → ask.block ≡ (row_above (ledgers handle) entry).metablock → ask.view ≡ newest_tail configs → ask.members ≡ newest_config configs
    → receipt.statement ≡ held (claim ask) → IsAccepted accepts ask.members ask.view receipt
    → IsReceiptFor accepts configs (head_above handle (ledgers handle) entry) receipt
receipted accepts configs ledgers handle entry ask receipt some own block view members is accepted =
    (subst (IsHeld (head_above handle (ledgers handle) entry)) (sym is) holds, (length configs - 1, (newest, in_view)))
  where
    holds : IsHeld (head_above handle (ledgers handle) entry) (held (claim ask))
    holds = (
      own,
      ap (λ (b : MetaBlock). tail_after b.prev b.entry b.height) block ∙ sym (tail_push (ledgers handle) entry),
      ap (λ (b : MetaBlock). b.height + 1) block,
    )

    newest : number_of configs (view_of receipt.statement) ≡ Some (length configs - 1)
    newest = ap (number_of configs) (accepted.own_view ∙ view) ∙ number_is configs some

    in_view : IsAccepted accepts (config_at configs (length configs - 1)) (tail_at configs (length configs - 1)) receipt
    in_view =
        subst (λ (t : List ℕ). IsAccepted accepts (newest_config configs) t receipt) (view ∙ sym (tail_at_newest configs some))
        (subst (λ (m : List Member). IsAccepted accepts m ask.view receipt) members accepted)
