-- What members of view 0 answer to the calls by which it begins.
use Rattle.std.proofs.Common.{◌≡◌, inl, inr, ℕ, zero, suc, ◌+◌, true, eqb, List, [], ◌∷◌, Some, refl, sym, subst, ap, ◌∙◌, arith, rules}
use Rattle.std.specs.Prelude.{bytes_eq, replicate}
use Rattle.std.proofs.lemmas.Bool.{cases_Bool}
use Rattle.std.proofs.lemmas.Slice.Eq.{bytes_eq-Decides}
use Rattle.sha2.specs.Sha256.{sha256}
use Rattle.statement.specs.declared.member.Member.{Member}
use Rattle.statement.specs.ConfigForm.{config_bytes}
use Rattle.statement.specs.ViewBlock.{view_block_bytes}
use Rattle.port.specs.Answer.{Answer, Done}
use Rattle.port.specs.Call.{Call}
use Rattle.port.specs.Heard.{Heard, Answered, Lost, NoMemory}
use Rattle.port.specs.Link.{Bank, Told, put_told, GoesOn, Serves}
use Rattle.port.specs.Table.{State, Uninitialized, Initialized, Active, Answers, is_same_member, is_in, cell}
use Rattle.view_ledger.specs.Views.{newest_tail, next_block}
use Rattle.view_ledger.specs.Tails.{newest_tail-none, newest_tail-push}
use Rattle.calm.specs.Members.{Signs, IsAt}
use Rattle.calm.specs.Beginning.{first_view, first_call, second_call, IsInState, WasCalled, HasBegun}
use Rattle.calm.proofs.OneAnswer.{put_own, put_other, unsigned}

same_bytes : (bytes : List ℕ) → bytes_eq bytes bytes ≡ true
same_bytes bytes = (bytes_eq-Decides bytes bytes).1 refl

same_number : (n : ℕ) → eqb n n ≡ true
same_number n = search rules

-- a member stands in its config
is_there : (config : List Member) (place : ℕ) (member : Member) → IsAt config place member → is_in member config ≡ true
is_there [] place member is = absurd cc
is_there (first ∷ config) zero member is =
    let same : first ≡ member = cc in
    rw (same, same_number member.id, same_bytes member.key) refl
is_there (first ∷ config) (suc place) member is =
    elim (cases_Bool (is_same_member first member)) [
      | inl same ↦ rw same refl
      | inr other ↦ rw other (is_there config place member is)
    ]

-- what the table has for the two calls
first_cell : (config : List Member) (place : ℕ) (member : Member) → IsAt config place member → cell member Uninitialized (first_call config) ≡ Answers (Initialized (first_view config)) Done
first_cell config place member is = rw (same_bytes (sha256 (config_bytes config)), is_there config place member is) refl

tail_is : (config : List Member) → newest_tail (config ∷ []) ≡ sha256 (view_block_bytes (next_block [] config))
tail_is config = newest_tail-push [] config

no_prev : (config : List Member) → bytes_eq (next_block [] config).prev (replicate 32 0) ≡ true
no_prev config = (bytes_eq-Decides (next_block [] config).prev (replicate 32 0)).1 newest_tail-none

second_cell : (config : List Member) (me : Member) → cell me (Initialized (first_view config)) (second_call config) ≡ Answers (Active (first_view config)) Done
second_cell config me =
    let view : bytes_eq (newest_tail (config ∷ [])) (sha256 (view_block_bytes (next_block [] config))) ≡ true = (bytes_eq-Decides (newest_tail (config ∷ [])) (sha256 (view_block_bytes (next_block [] config)))).1 (tail_is config) in
    rw (view, no_prev config) refl

-- a call that needs no signature
module _ (signs : Signs) (bank after : Bank) (state next : State) (stamps signatures : ℕ) (member : Member) (call : Call) (in_state : IsInState bank state (stamps + 1) signatures member)
    (is : cell in_state.told.me in_state.told.state call ≡ Answers next Done) where
  after_going : (answer : Answer) (new : Told) → after ≡ put_told bank member.id new → GoesOn signs in_state.told call answer new → HasBegun bank next stamps signatures member (Answered answer) after
  after_going answer new after_is goes =
      let by = unsigned signs in_state.told call answer new goes next Done is in
      let stamp = goes.stamp in
      let some = in_state.stamps_left in
      let many = in_state.signatures_left in
      let same_left = by.left in
      record {
        done = ap Answered by.answer_is;
        in_state = record {
          told = new;
          known = ap (λ (b : Bank). b member.id) after_is ∙ put_own bank member.id new;
          me = goes.same ∙ in_state.me;
          now = by.state_is;
          stamps_left = omega (arith, stamp, some);
          signatures_left = omega (arith, same_left, many);
        };
        others = λ id other. ap (λ (b : Bank). b id) after_is ∙ put_other bank member.id new id other;
      }

  pub begun : (heard : Heard) → WasCalled signs bank member call heard after → HasBegun bank next stamps signatures member heard after
  begun NoMemory was = absurd (was.went refl)
  begun Lost was = let none = was.faithful.0 in let some = in_state.known in absurd (cc)
  begun (Answered answer) was =
      let f = was.faithful in
      let told : in_state.told ≡ f.0 = (let s : Some in_state.told ≡ Some f.0 = sym in_state.known ∙ f.2 in cc) in
      by_serving f.1 f.4 (subst (λ (t : Told). Serves signs t call answer f.1) (sym told) f.3)
    where
      by_serving : (new : Told) → after ≡ put_told bank member.id new → Serves signs in_state.told call answer new → HasBegun bank next stamps signatures member (Answered answer) after
      by_serving new after_is (inl full) = let some = in_state.stamps_left in absurd (omega (arith, some, full.0))
      by_serving new after_is (inr goes) = after_going answer new after_is goes

pub initialized : (signs : Signs) (bank after : Bank) (config : List Member) (place : ℕ) (member : Member) (stamps signatures : ℕ) (heard : Heard)
    → IsAt config place member → IsInState bank Uninitialized (stamps + 1) signatures member → WasCalled signs bank member (first_call config) heard after
    → HasBegun bank (Initialized (first_view config)) stamps signatures member heard after
initialized signs bank after config place member stamps signatures heard at in_state was =
    begun signs bank after Uninitialized (Initialized (first_view config)) stamps signatures member (first_call config) in_state
    (ap (λ (m : Member). cell m in_state.told.state (first_call config)) in_state.me ∙ ap (λ (s : State). cell member s (first_call config)) in_state.now ∙ first_cell config place member at)
    heard was

pub activated : (signs : Signs) (bank after : Bank) (config : List Member) (member : Member) (stamps signatures : ℕ) (heard : Heard)
    → IsInState bank (Initialized (first_view config)) (stamps + 1) signatures member → WasCalled signs bank member (second_call config) heard after
    → HasBegun bank (Active (first_view config)) stamps signatures member heard after
activated signs bank after config member stamps signatures heard in_state was =
    begun signs bank after (Initialized (first_view config)) (Active (first_view config)) stamps signatures member (second_call config) in_state
    (ap (λ (s : State). cell in_state.told.me s (second_call config)) in_state.now ∙ second_cell config in_state.told.me)
    heard was
