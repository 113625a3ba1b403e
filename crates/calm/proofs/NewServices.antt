-- A service in which no ledger has an entry.
use Rattle.std.proofs.Common.{◌≡◌, ◌⊎◌, inl, inr, ℕ, List, [], ◌∷◌, ◌++◌, length, None, sym, subst, ap, arith}
use Rattle.chain_block.specs.Tail.{tail_of_list-none}
use Rattle.statement.specs.declared.member.Member.{Member}
use Rattle.port.specs.declared.key.Key.{Key}
use Rattle.port.specs.declared.key.Key.TheVariants as keys
use Rattle.port.specs.Contents.{Contents}
use Rattle.port.specs.Link.{Bank}
use Rattle.view_ledger.specs.Views.{next_block}
use Rattle.view_ledger.specs.Receipts.{Accepts}
use Rattle.calm.specs.StandingViews.{ViewStands, StandViews}
use Rattle.calm.specs.Members.{Signs, Fits, AreAble}
use Rattle.calm.specs.Calm.{IsCalm, new_service}
use Rattle.calm.proofs.Splits.{nothing_split, push_split}

module _ (contents : Contents) (config : List Member) (alone : (key : Key) → (contents key ≡ None) ⊎ (key ≡ keys.View 0)) where
  nothing : (key : Key) → (key ≡ keys.View 0 → ⊥) → contents key ≡ None
  nothing key other = by (alone key)
    where
      by : (contents key ≡ None) ⊎ (key ≡ keys.View 0) → contents key ≡ None
      by (inl none) = none
      by (inr same) = absurd (other same)

  -- view 0 is the only one
  first : (below above : List (List Member)) (one : List Member) → config ∷ [] ≡ below ++ one ∷ above → (below ≡ []) × (one ≡ config)
  first below above one is = by (push_split [] config below above one is)
    where
      by : ((below ≡ []) × (one ≡ config)) ⊎ ((rest : List (List Member)) × ([] ≡ below ++ one ∷ rest)) → (below ≡ []) × (one ≡ config)
      by (inl here) = here
      by (inr there) = absurd (nothing_split below there.0 one there.1)

  views : (accepts : Accepts) (roster : List Member) → ViewStands contents [] config → StandViews accepts roster contents (config ∷ [])
  views accepts roster view = record {
    some = omega arith;
    views = λ below above one is.
        let f = first below above one is in
        subst (λ (b : List (List Member)). ViewStands contents b one) (sym f.0) (subst (ViewStands contents []) (sym f.1) view);
    finals = λ below above one is some. let f = first below above one is in let none = ap length f.0 in absurd (omega (arith, some, none));
    no_view = λ number above. nothing (keys.View number) (λ e. let zero_number : number ≡ 0 = cc in absurd (omega (arith, above, zero_number)));
    no_finals = λ number above. nothing (keys.Finals number) (λ e. absurd (cc e));
  }

  pub is_calm : (accepts : Accepts) (signs : Signs) (bank : Bank) (roster : List Member) (left : ℕ) → Fits accepts signs → ViewStands contents [] config → AreAble bank (next_block [] config) config [] left
      → IsCalm (new_service accepts signs contents bank roster config left)
  is_calm accepts signs bank roster left fits view able = record {
    fits = fits;
    views = views accepts roster view;
    members = able;
    map = record {
      lawful = record { rising = tt; each = tt; few = omega arith };
      each = λ handle. ap (λ (t : List ℕ). (t, 0)) (sym tail_of_list-none);
    };
    stand = λ handle. record {
      each = λ below above entry is. absurd (nothing_split below above entry is);
      no_more = λ height above. nothing (keys.Row handle height) (λ e. absurd (cc e));
    };
  }
