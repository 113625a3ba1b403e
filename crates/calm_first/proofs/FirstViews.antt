-- View 0 in a store that was empty.
use Rattle.std.proofs.Common.{◌≡◌, ◌⊎◌, inl, inr, false, ℕ, zero, suc, eqb, List, [], ◌∷◌, length, Option, Some, None, refl, sym, subst, ap, ◌∙◌, arith, rules}
use Rattle.std.specs.Prelude.{IsSome}
use Rattle.sha2.proofs.Facts256.{length-sha256}
use Rattle.statement.specs.declared.member.Member.{Member}
use Rattle.statement.specs.Config.{IsConfig}
use Rattle.statement.specs.ViewTail.{view_tail_of_list-none}
use Rattle.port.specs.declared.key.Key.{Key}
use Rattle.port.specs.declared.key.Key.TheVariants as keys
use Rattle.port.specs.declared.store_answers.Put.{Put}
use Rattle.port.specs.declared.store_answers.Put.TheVariants as puts
use Rattle.port.specs.declared.store_answers.Attached.{Attached}
use Rattle.port.specs.declared.store_answers.Attached.TheVariants as attaches
use Rattle.port.specs.Contents.{Contents, put, fresh, with_attached}
use Rattle.port.specs.Store.{WasPut, WasAttached, IsHonest}
use Rattle.port.specs.Stored.{Stored}
use Rattle.port.specs.ViewForm.{IsView, view_bytes}
use Rattle.view_ledger.specs.Views.{next_block, newest_tail}
use Rattle.op_reconf.specs.First.{first_block, first_key, first_put, first_mark, IsPlaced, IsMarked}
use Rattle.calm.specs.StandingViews.{ViewStands}

-- view 0 as it stands
abbrev pub first_stored : List Member → Stored
first_stored config = fresh (view_bytes (first_block config, config))

tail_length : length (newest_tail []) ≡ 32
unfolding newest_tail
tail_length = ap length view_tail_of_list-none

pub is_first_view : (config : List Member) → IsConfig config → IsView (next_block [] config, config)
is_first_view config is = record { block = record { prev = tail_length; config = length-sha256 _; number = omega arith }; config = is }

-- it was put where nothing stood
pub put_first : (contents after : Contents) (config : List Member) (answer : Put) → contents first_key ≡ None → IsPlaced answer → IsHonest contents (first_put config) (WasPut answer) after
    → after ≡ put contents first_key (first_stored config)
put_first contents after config puts.Done none placed honest = honest.1
put_first contents after config puts.Taken none placed honest = absurd (taken (contents first_key) none honest.0)
  where
    taken : (stored : Option Stored) → stored ≡ None → IsSome stored → ⊥
    taken None none some = absurd (cc some)
    taken (Some stored) none some = absurd (cc none)
put_first contents after config answer none placed honest = absurd placed

-- what stands then
abbrev pub now_stands : Contents → List Member → Contents
now_stands contents config = put (put contents first_key (first_stored config)) first_key (with_attached (first_stored config) (1 ∷ []))

-- the mark was attached to it
pub marked_first : (contents middle after : Contents) (config : List Member) (answer : Attached) → middle ≡ put contents first_key (first_stored config) → IsMarked answer
    → IsHonest middle first_mark (WasAttached answer) after → after ≡ now_stands contents config
marked_first contents middle after config answer is mark honest = by answer mark (subst (λ (c : Contents). IsHonest c first_mark (WasAttached answer) after) is honest)
  where
    there : put contents first_key (first_stored config) first_key ≡ Some (first_stored config)
    there = refl

    by : (a : Attached) → IsMarked a → IsHonest (put contents first_key (first_stored config)) first_mark (WasAttached a) after
        → after ≡ put (put contents first_key (first_stored config)) first_key (with_attached (first_stored config) (1 ∷ []))
    by attaches.Done mark honest =
        let same : honest.0 ≡ first_stored config = (let s : Some honest.0 ≡ Some (first_stored config) = sym honest.1 ∙ there in cc) in
        honest.2 ∙ ap (λ (s : Stored). put (put contents first_key (first_stored config)) first_key (with_attached s (1 ∷ []))) same
    by attaches.Absent mark honest = let none = honest.0 in absurd (cc)
    by a mark honest = absurd mark

pub first_stands : (contents : Contents) (config : List Member) → IsConfig config → ViewStands (now_stands contents config) [] config
first_stands contents config is = record { stored = with_attached (first_stored config) (1 ∷ []); stands = refl; complete = refl; reads = (is_first_view config is, refl) }

above_zero : (n : ℕ) → eqb 0 (suc n) ≡ false
above_zero n = search rules

-- and nothing else
pub alone : (contents : Contents) (config : List Member) → ((key : Key) → contents key ≡ None) → (key : Key) → (now_stands contents config key ≡ None) ⊎ (key ≡ keys.View 0)
alone contents config empty (keys.Row handle height) = inl (empty (keys.Row handle height))
alone contents config empty (keys.View zero) = inr refl
alone contents config empty (keys.View (suc n)) = inl (rw (above_zero n) (empty (keys.View (suc n))))
alone contents config empty (keys.Finals number) = inl (empty (keys.Finals number))
