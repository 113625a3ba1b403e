-- How the setting up of view 0 ends over an empty store.
use Rattle.std.proofs.Common.{◌≡◌, ◌⊎◌, inl, inr, ℕ, ◌+◌, ◌<◌, ◌≤◌, List, [], ◌∷◌, length, take, None, Result, Ok, Err, refl, sym, subst, ap, ◌∙◌, arith}
use Rattle.std.specs.Prelude.{sum_by}
use Rattle.std.proofs.Math.Seq.{take-length}
use Rattle.std.proofs.lemmas.List.{length-map}
use Rattle.std.proofs.lemmas.List.Sums.{sum_by-cons}
use Rattle.std.proofs.lemmas.Option.{slice_get_within}
use Rattle.statement.specs.declared.member.Member.{Member}
use Rattle.statement.specs.Config.{ids, id_of, member_weight, quorum, weight_together, IsConfig}
use Rattle.port.specs.declared.key.Key.{Key}
use Rattle.port.specs.declared.key.Key.TheVariants as keys
use Rattle.port.specs.declared.store_answers.Put.{Put}
use Rattle.port.specs.declared.store_answers.Attached.{Attached}
use Rattle.port.specs.Cause.{Cause, MemberCause, StoreFault, NoQuorum, NoMemory}
use Rattle.port.specs.Contents.{Contents, put}
use Rattle.port.specs.Link.{Bank}
use Rattle.port.specs.Store.{WasPut, WasAttached, IsHonest}
use Rattle.port.specs.Table.{Uninitialized, Active}
use Rattle.port.specs.Trace.{Event, AreHonest, AreFaithful}
use Rattle.port.specs.View.{ViewRow}
use Rattle.view_ledger.specs.Receipts.{Accepts}
use Rattle.view_ledger.specs.Views.{ViewChain, next_block}
use Rattle.op_parts.specs.RoundLaws.{AreParted}
use Rattle.op_reconf.specs.First.{first_key, first_put, put_event, first_asking, first_mark, mark_event, IsPlaced, IsMarked}
use Rattle.op_reconf.specs.SetUpSound.{AreAsked}
use Rattle.op_reconf.specs.Sound.{HasQuorum, EndedWith}
use Rattle.calm.specs.Beginning.{first_view, IsInState}
use Rattle.calm.specs.Calm.{IsCalm, new_service}
use Rattle.calm.specs.Members.{Signs, Fits, IsAt, IsAble, AreAble}
use Rattle.calm.specs.StandingViews.{ViewStands}
use Rattle.calm_first.specs.First.{BeforeFirst, CalmFirst}
use Rattle.calm_first.proofs.FirstMembers.{MemberLaws, Led, leads}
use Rattle.calm_first.proofs.FirstViews.{first_stored, put_first, marked_first, now_stands, first_stands, alone}

pub record Laws : Type 0 where
  pub members : MemberLaws
  pub able : (bank : Bank) (config : List Member) (member : Member) (left : ℕ) → IsInState bank (Active (first_view config)) left left member
      → IsAble bank (next_block [] config) config [] left member
  pub calm : (accepts : Accepts) (signs : Signs) (contents : Contents) (bank : Bank) (roster : List Member) (config : List Member) (left : ℕ)
      → Fits accepts signs → ViewStands contents [] config → ((key : Key) → contents key ≡ None ⊎ (key ≡ keys.View 0)) → AreAble bank (next_block [] config) config [] left
      → IsCalm (new_service accepts signs contents bank roster config left)
  pub few : (members : List Member) (counted blamed : List ℕ) → AreParted (ids members) counted blamed
      → weight_together members counted < quorum members → length members < length blamed + quorum members

-- all members are a quorum
all_weigh : (members : List Member) → sum_by member_weight members ≡ length members
all_weigh [] = refl
all_weigh (member ∷ members) = omega (arith, sum_by-cons member_weight member members, all_weigh members)

enough : (members : List Member) → 1 ≤ length members → quorum members ≤ length members
enough members some = let weight = all_weigh members in omega (arith, some, weight)

nobody_blamed : (ids : List ℕ) → AreParted ids ids []
nobody_blamed [] = (refl, refl)
nobody_blamed (id ∷ ids) = inl (ids, refl, nobody_blamed ids)

module _ (laws : Laws) (first : BeforeFirst) (roster : List Member) (config : IsConfig first.config) where
  abbrev From : ViewChain
  From = record { roster = roster; configs = first.config ∷ [] }

  abbrev Put0 : Put → List Event
  Put0 answer = put_event first.config answer ∷ []

  ready : (place : ℕ) (member : Member) → IsAt first.config place member → IsInState first.bank Uninitialized (first.left + 1 + 1) first.left member
  ready place member is = subst (λ (n : ℕ). IsInState first.bank Uninitialized n first.left member) (omega arith) (first.members place member is)

  -- each member's turn ended well
  all_done : (answer : Put) (done : List ℕ) (reasons : List (ℕ × MemberCause)) (past : List Event) (after : Bank)
      → AreAsked (first_asking From) (Put0 answer) (length first.config) done reasons past → AreFaithful first.signs first.bank past after
      → Led laws.members first.signs first.bank first.config config.rising first.left ready (Put0 answer) (length first.config) done reasons past after
  all_done answer done reasons past after asked faithful =
      leads laws.members first.signs first.bank first.config config.rising first.left ready (Put0 answer) (λ b same. same) (length first.config) done reasons past after asked faithful

  -- there is a quorum
  not_few : (done : List ℕ) → done ≡ take (length first.config) (ids first.config) → weight_together first.config done < quorum first.config → ⊥
  not_few done all less =
      let all_ids : take (length first.config) (ids first.config) ≡ ids first.config =
      ap (λ (n : ℕ). take n (ids first.config)) (sym (length-map first.config id_of)) ∙ take-length (ids first.config) in
      let too_few = laws.few first.config done [] (subst (λ (l : List ℕ). AreParted (ids first.config) l []) (sym (all ∙ all_ids)) (nobody_blamed (ids first.config))) less in
      let some = enough first.config config.some in
      absurd (omega (arith, too_few, some))

  able : (answer : Put) (done : List ℕ) (reasons : List (ℕ × MemberCause)) (past : List Event) (after : Bank)
      → Led laws.members first.signs first.bank first.config config.rising first.left ready (Put0 answer) (length first.config) done reasons past after
      → AreAble after (next_block [] first.config) first.config [] first.left
  able answer done reasons past after led = record {
    each = λ place member is. laws.able after first.config member first.left (led.begun.each place member (slice_get_within first.config place member is) is);
  }

  -- the view was put, and nothing else
  was_put : (answer : Put) (done : List ℕ) (reasons : List (ℕ × MemberCause)) (past : List Event) (after : Bank) (contents : Contents) → IsPlaced answer
      → Led laws.members first.signs first.bank first.config config.rising first.left ready (Put0 answer) (length first.config) done reasons past after
      → AreHonest first.contents past contents → contents ≡ put first.contents first_key (first_stored first.config)
  was_put answer done reasons past after contents placed led honest =
      let here : (before : Contents) × (before ≡ first.contents) × IsHonest before (first_put first.config) (WasPut answer) contents = led.quiet first.contents contents honest in
      put_first first.contents contents first.config answer (first.empty first_key) placed (subst (λ (c : Contents). IsHonest c (first_put first.config) (WasPut answer) contents) here.1 here.2)

  -- then it was marked
  calm_then : (attached : Attached) (earlier : List Event) (contents : Contents) (bank : Bank) → IsMarked attached → HasQuorum From earlier
      → AreHonest first.contents (mark_event attached ∷ earlier) contents → AreFaithful first.signs first.bank earlier bank
      → IsCalm (new_service first.accepts first.signs contents bank roster first.config first.left)
  calm_then attached earlier contents bank mark (done, reasons, (answer, placed, asked), enough) honest faithful =
      let led = all_done answer done reasons earlier bank asked faithful in
      let before : honest.0 ≡ put first.contents first_key (first_stored first.config) = was_put answer done reasons earlier bank honest.0 placed led honest.1 in
      let now : contents ≡ now_stands first.contents first.config = now_is honest.0 before honest.2 in
      subst (λ (c : Contents). IsCalm (new_service first.accepts first.signs c bank roster first.config first.left)) (sym now)
      (laws.calm first.accepts first.signs (now_stands first.contents first.config) bank roster first.config first.left first.fits (first_stands first.contents first.config config)
      (alone first.contents first.config first.empty) (able answer done reasons earlier bank led))
    where
      now_is : (middle : Contents) → middle ≡ put first.contents first_key (first_stored first.config) → IsHonest middle first_mark (WasAttached attached) contents → contents ≡ now_stands first.contents first.config
      now_is middle is answered = marked_first first.contents middle contents first.config attached is mark answered

  pub ends : (past : List Event) (answer : Result ViewRow Cause) (contents : Contents) (bank : Bank) → EndedWith From past answer → AreHonest first.contents past contents
      → AreFaithful first.signs first.bank past bank → CalmFirst first roster answer (record { contents = contents; bank = bank; left = first.left })
  ends past (Ok row) contents bank (is, (attached, earlier, mark, split, many)) honest faithful = (
    is,
    calm_then attached earlier contents bank mark many (subst (λ (p : List Event). AreHonest first.contents p contents) split honest)
        (subst (λ (p : List Event). AreFaithful first.signs first.bank p bank) split faithful),
  )
  ends past (Err StoreFault) contents bank (inl split) honest faithful = absurd (subst (λ (p : List Event). AreHonest first.contents p contents) split honest).2
  ends past (Err StoreFault) contents bank (inr (earlier, split, many)) honest faithful = absurd (subst (λ (p : List Event). AreHonest first.contents p contents) split honest).2
  ends past (Err (NoQuorum need reasons)) contents bank (is, (done, (answer, placed, asked), less)) honest faithful =
      absurd (not_few done (all_done answer done reasons past bank asked faithful).all less)
  ends past (Err NoMemory) contents bank ended honest faithful = tt
  ends past (Err cause) contents bank ended honest faithful = absurd ended
