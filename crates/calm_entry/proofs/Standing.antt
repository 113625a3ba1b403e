-- What stands in a calm service, and what that says of a row that the store gave.
use Rattle.std.proofs.Common.{◌≡◌, ◌⊎◌, inl, inr, ℕ, ◌+◌, ◌<◌, ◌≤◌, nat_lt, Bool, true, false, List, [], ◌∷◌, ◌++◌, length, Some, None, refl, sym, subst, ap, ◌∙◌, arith}
use Rattle.chain_block.specs.declared.entry.Entry.{Entry}
use Rattle.port.specs.declared.key.Key.TheVariants as keys
use Rattle.port.specs.GoodRow.{IsGoodRow}
use Rattle.port.specs.Row.{Content}
use Rattle.port.specs.Stored.{Stored}
use Rattle.statement.specs.declared.member.Member.{Member}
use Rattle.statement.specs.Receipt.{Receipt}
use Rattle.op_parts.specs.declared.attachment.Head.{Head}
use Rattle.op_parts.specs.Attachment.{IsAttached}
use Rattle.op_entry.specs.Standing.{head_of, IsUnreceipted}
use Rattle.calm.specs.Ledgers.{row_above, head_above}
use Rattle.calm.specs.Calm.{ServiceState, IsCalm}
use Rattle.calm_entry.proofs.LowerLaws.{RowLaws}

-- one number is below the other, or not
pub order : (a b : ℕ) → (a < b) ⊎ (b ≤ a)
order a b = by (nat_lt a b) refl
  where
    by : (less : Bool) → nat_lt a b ≡ less → (a < b) ⊎ (b ≤ a)
    by true is = inl (grind (arith, is))
    by false is = inr (grind (arith, is))

-- two splits of a list at one length have the same below
pub same_below : {X : Type 0} (a b above rest : List X) → a ++ above ≡ b ++ rest → length a ≡ length b → (a ≡ b) × (above ≡ rest)
same_below [] [] above rest is size = (refl, is)
same_below [] (y ∷ b) above rest is size = absurd (omega (arith, size))
same_below (x ∷ a) [] above rest is size = absurd (omega (arith, size))
same_below {X} (x ∷ a) (y ∷ b) above rest is size = more (same_below a b above rest (let e : x ∷ (a ++ above) ≡ y ∷ (b ++ rest) = is in cc) (omega (arith, size)))
  where
    first : x ≡ y
    first = let e : x ∷ (a ++ above) ≡ y ∷ (b ++ rest) = is in cc

    more : (a ≡ b) × (above ≡ rest) → (x ∷ a ≡ y ∷ b) × (above ≡ rest)
    more p = (ap (λ (l : List X). l ++ a) (ap (λ (z : X). z ∷ []) first) ∙ ap (λ (l : List X). y ∷ l) p.0, p.1)

module _ (service : ServiceState) (calm : IsCalm service) where
  -- The entry's row stands so, with a receipt that is accepted.
  pub record Standing (handle : List ℕ) (height : ℕ) (stored : Stored) : Type 0 where
    pub below : List Entry
    pub entry : Entry
    pub above : List Entry
    pub split : service.ledgers handle ≡ below ++ entry ∷ above
    pub at : height ≡ length below
    pub good : IsGoodRow handle (length below) stored.body (row_above below entry)
    pub receipt : Receipt
    pub attached : IsAttached service.accepts service.configs (head_above handle below entry) stored.attached receipt

  pub standing : RowLaws → (handle : List ℕ) (height : ℕ) (stored : Stored) → service.contents (keys.Row handle height) ≡ Some stored → Standing handle height stored
  standing rows handle height stored there = by (order height (length (service.ledgers handle)))
    where
      by : (height < length (service.ledgers handle)) ⊎ (length (service.ledgers handle) ≤ height) → Standing handle height stored
      by (inl less) =
          let at = rows.at (service.ledgers handle) height less in
          let stands = (calm.stand handle).each at.0 at.2 at.1 at.3 in
          let here : service.contents (keys.Row handle (length at.0)) ≡ Some stored = ap (λ (n : ℕ). service.contents (keys.Row handle n)) at.4 ∙ there in
          let same : stands.stored ≡ stored = (let s : Some stands.stored ≡ Some stored = sym stands.stands ∙ here in cc) in
          record {
            below = at.0;
            entry = at.1;
            above = at.2;
            split = at.3;
            at = sym at.4;
            good = subst (λ (s : Stored). IsGoodRow handle (length at.0) s.body (row_above at.0 at.1)) same stands.good;
            receipt = stands.receipt;
            attached = subst (λ (s : Stored). IsAttached service.accepts service.configs (head_above handle at.0 at.1) s.attached stands.receipt) same stands.attached;
          }
      by (inr more) = let none = (calm.stand handle).no_more height more in absurd (cc)

  -- nothing stands from the count on
  pub missing : RowLaws → (handle : List ℕ) (height : ℕ) → service.contents (keys.Row handle height) ≡ None → length (service.ledgers handle) ≤ height
  missing rows handle height none = by (order height (length (service.ledgers handle)))
    where
      by : (height < length (service.ledgers handle)) ⊎ (length (service.ledgers handle) ≤ height) → length (service.ledgers handle) ≤ height
      by (inl less) =
          let at = rows.at (service.ledgers handle) height less in
          let stands = (calm.stand handle).each at.0 at.2 at.1 at.3 in
          let some = stands.stands in
          let here : service.contents (keys.Row handle (length at.0)) ≡ None = ap (λ (n : ℕ). service.contents (keys.Row handle n)) at.4 ∙ none in
          absurd (cc)
      by (inr more) = more

  module _ (rows : RowLaws) (handle : List ℕ) (height : ℕ) (stored : Stored) (stands : Standing handle height stored) where
    -- the row that was read is the entry's
    pub is_row : (row : Content) → IsGoodRow handle height stored.body row → row ≡ row_above stands.below stands.entry
    is_row row good = rows.one stands.below stands.entry handle stored.body row stands.good (subst (λ (n : ℕ). IsGoodRow handle n stored.body row) stands.at good)

    head_is : (row : Content) → row ≡ row_above stands.below stands.entry → head_of row ≡ head_above handle stands.below stands.entry
    head_is row is =
        ap head_of is
        ∙ ap (λ (h : List ℕ). let r : Head = record { handle = h; tail = (head_of (row_above stands.below stands.entry)).tail; count = length stands.below + 1 } in r) stands.good.at.of_ledger
        ∙ ap (λ (t : List ℕ). let r : Head = record { handle = handle; tail = t; count = length stands.below + 1 } in r) (sym (rows.tail stands.below stands.entry))

    -- and it has a receipt
    pub is_receipted : (configs : List (List Member)) → configs ≡ service.configs → (row : Content) → row ≡ row_above stands.below stands.entry → IsUnreceipted service.accepts configs row stored.attached → ⊥
    is_receipted configs all row is bare =
        bare stands.receipt
        (subst (λ (c : List (List Member)). IsAttached service.accepts c (head_of row) stored.attached stands.receipt) (sym all)
        (subst (λ (h : Head). IsAttached service.accepts service.configs h stored.attached stands.receipt) (sym (head_is row is)) stands.attached))
