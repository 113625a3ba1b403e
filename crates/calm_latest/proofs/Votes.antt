-- Members that all told one head when they were asked first.
use Rattle.std.proofs.Common.{◌≡◌, inl, inr, ℕ, suc, ◌+◌, ◌<◌, ◌≤◌, ◌==◌, ltb, Bool, true, List, [], ◌∷◌, ◌++◌, length, map, take, slice_get, Option, Some, refl, sym, subst, ap, ◌∙◌, arith, eq-eqb, length-append}
use Rattle.std.specs.Prelude.{sum_by, nat_le, find, bytes_eq}
use Rattle.std.specs.List.{AllByRecursion, cons_option}
use Rattle.std.specs.Option.{option_map}
use Rattle.std.proofs.Math.Seq.{take-suc, take-length}
use Rattle.std.proofs.lemmas.Bool.{cases_Bool, ltb-true, ltb-false, eqb-true, and_parts}
use Rattle.std.proofs.lemmas.List.{map-append, length-map}
use Rattle.std.proofs.lemmas.List.Sums.{sum_by-cons}
use Rattle.std.proofs.lemmas.Option.{slice_get_within, get_or_from_slice_get, slice_get-map}
use Rattle.std.proofs.lemmas.Slice.Eq.{bytes_eq-Decides}
use Rattle.statement.specs.declared.member.Member.{Member}
use Rattle.statement.specs.declared.statement.Statement.{Statement}
use Rattle.statement.specs.declared.statement.Statement.TheVariants as statements
use Rattle.statement.specs.Statement.{statement_bytes}
use Rattle.statement.specs.Config.{ids, id_of as member_id, member_weight, quorum, weight_together}
use Rattle.port.specs.Answer.{Signed}
use Rattle.port.specs.Cause.{OtherTail}
use Rattle.port.specs.Heard.{Heard, Answered, NoMemory}
use Rattle.port.specs.Trace.{Event, Had}
use Rattle.view_ledger.specs.Receipts.{Accepts}
use Rattle.op_parts.specs.RoundLaws.{AreParted}
use Rattle.op_latest.specs.declared.latest_head.LatestHead.{LatestHead}
use Rattle.op_latest.specs.LatestAsked.{Asking, IsMember, latest_to, AreAsked}
use Rattle.op_latest.specs.LatestJudged.{latest, IsHead, IsVote}
use Rattle.op_latest.specs.LatestVote.{Vote, Told, Ahead, Blamed, MemberVote, id_of, is_for, supporters, has_quorum, heads, head_of, quorum_head}
use Rattle.calm.specs.Reading.{WereRead, HasSaid}

-- what a law of quorums says of too few
abbrev pub FewLaw : Type 0
FewLaw = (members : List Member) (counted blamed : List ℕ) → AreParted (ids members) counted blamed
    → weight_together members counted < quorum members → length members < length blamed + quorum members

-- each vote tells the head
abbrev pub AreFor : LatestHead → List MemberVote → Type 0
AreFor head votes = AllByRecursion (λ (one : MemberVote). is_for head one.vote ≡ true) votes

same_head : (head : LatestHead) (tail sig : List ℕ) (count : ℕ) → tail ≡ head.tail → count ≡ head.count → is_for head (Told tail count sig) ≡ true
same_head head tail sig count same_tail same_count = rw ((bytes_eq-Decides tail head.tail).1 same_tail, eq-eqb count head.count same_count) refl

-- the tail and the count in a statement
abbrev tail_in : Statement → List ℕ
tail_in (statements.Latest view handle tail count nonce) = tail
tail_in statement = []

abbrev count_in : Statement → ℕ
count_in (statements.Latest view handle tail count nonce) = count
count_in statement = 0

abbrev told_head : List ℕ → ℕ → Option LatestHead
told_head tail count = Some (record { tail = tail; count = count })

-- a vote for a head tells it
vote_head : (head : LatestHead) (vote : Vote) → is_for head vote ≡ true → head_of vote ≡ Some head
vote_head head (Told tail count sig) e =
    let p = and_parts (bytes_eq tail head.tail) (count == head.count) e in
    ap (λ (t : List ℕ). told_head t count) ((bytes_eq-Decides tail head.tail).0 p.0)
    ∙ ap (λ (n : ℕ). told_head head.tail n) (eqb-true count head.count p.1)
vote_head head (Ahead count tail) e = absurd (cc e)
vote_head head (Blamed cause) e = absurd (cc e)

supported : (head : LatestHead) (votes : List MemberVote) → AreFor head votes → supporters head votes ≡ map id_of votes
supported head [] all = refl
supported head (one ∷ votes) all = rw all.0 (ap (λ (l : List ℕ). one.id ∷ l) (supported head votes all.1))

one_more : (head : LatestHead) (votes : List MemberVote) (one : MemberVote) → AreFor head votes → is_for head one.vote ≡ true → AreFor head (votes ++ one ∷ [])
one_more head [] one all is = (is, tt)
one_more head (first ∷ votes) one all is = (all.0, one_more head votes one all.1 is)

-- the first ids, and one more
next_id : (members : List Member) (n : ℕ) (member : Member) → slice_get members n ≡ Some member → take (suc n) (ids members) ≡ take n (ids members) ++ member.id ∷ []
next_id members n member is =
    let there : slice_get (ids members) n ≡ Some member.id = slice_get-map member_id members n ∙ ap (λ (o : Option Member). option_map member_id o) is in
    take-suc (ids members) n member.id (slice_get_within (ids members) n member.id there)
    ∙ ap (λ (id : ℕ). take n (ids members) ++ id ∷ []) (get_or_from_slice_get (ids members) n member.id member.id there)

all_ids : (members : List Member) (asked : ℕ) → asked ≡ length members → take asked (ids members) ≡ ids members
all_ids members asked all = ap (λ (n : ℕ). take n (ids members)) (all ∙ sym (length-map members member_id)) ∙ take-length (ids members)

-- all members are a quorum
all_weigh : (members : List Member) → sum_by member_weight members ≡ length members
all_weigh [] = refl
all_weigh (member ∷ members) = omega (arith, sum_by-cons member_weight member members, all_weigh members)

enough : (members : List Member) → 1 ≤ length members → quorum members ≤ length members
enough members some = let weight = all_weigh members in omega (arith, some, weight)

nobody_blamed : (ids : List ℕ) → AreParted ids ids []
nobody_blamed [] = (refl, refl)
nobody_blamed (id ∷ ids) = inl (ids, refl, nobody_blamed ids)

all_enough : FewLaw → (members : List Member) → 1 ≤ length members → quorum members ≤ weight_together members (ids members)
all_enough few members some =
    elim (cases_Bool (ltb (weight_together members (ids members)) (quorum members))) [
      | inl less ↦
          let too_few = few members (ids members) [] (nobody_blamed (ids members)) (ltb-true (weight_together members (ids members)) (quorum members) less) in
          let all = enough members some in
          absurd (omega (arith, too_few, all))
      | inr many ↦ ltb-false (weight_together members (ids members)) (quorum members) many
    ]

has_enough : (a b : ℕ) → a ≤ b → nat_le a b ≡ true
has_enough a b le = grind (arith, le)

found : (head : LatestHead) (test : LatestHead → Bool) (first : Option LatestHead) (rest : List LatestHead) → first ≡ Some head → test head ≡ true → find test (cons_option first rest) ≡ Some head
found head test first rest is passes = rw (is, passes) refl

-- all members that tell one head are a quorum for it
agreed_quorum : FewLaw → (members : List Member) (head : LatestHead) (votes : List MemberVote) → 1 ≤ length members → AreFor head votes → map id_of votes ≡ ids members
    → has_quorum members votes head ≡ true
agreed_quorum few members head votes some all is =
    has_enough (quorum members) (weight_together members (supporters head votes))
    (subst (λ (l : List ℕ). quorum members ≤ weight_together members l) (sym (supported head votes all ∙ is)) (all_enough few members some))

-- the head is the first that a quorum tells
agreed_head : FewLaw → (members : List Member) (head : LatestHead) (votes : List MemberVote) → 1 ≤ length members → AreFor head votes → map id_of votes ≡ ids members
    → quorum_head members votes ≡ Some head
agreed_head few [] head votes some all is = absurd (omega (arith, some))
agreed_head few (member ∷ members) head [] some all is = absurd (cc is)
agreed_head few (member ∷ members) head (one ∷ votes) some all is =
    found head (has_quorum (member ∷ members) (one ∷ votes)) (head_of one.vote) (heads votes) (vote_head head one.vote all.0)
    (agreed_quorum few (member ∷ members) head (one ∷ votes) some all is)

module _ (accepts : Accepts) (ask : Asking) where
  silent : (key : List ℕ) (vote : Vote) → IsVote accepts ask.claim key NoMemory vote → ⊥
  silent key vote is = is

  -- the members were asked one after the other
  pub were_read : (votes : List MemberVote) (calls : List Event) → AreAsked accepts ask votes calls → WereRead ask.claim.handle ask.claim.nonce ask.members (length calls) calls
  were_read votes [] is = refl
  were_read votes (event ∷ past) is = (
    is.0,
    is.1,
    past,
    is.4,
    ap (λ (e : Event). e ∷ past) is.5,
    λ none. silent is.0.key is.2 (subst (λ (h : Heard). IsVote accepts ask.claim is.0.key h is.2) none is.6),
    were_read is.3 past is.8,
  )

  module _ (head : LatestHead) (is_head : IsHead head.tail head.count) where
    abbrev Its : Statement
    Its = latest ask.claim head.tail head.count

    -- the vote of a member that has signed the head
    signed_vote : (member : Member) (sig : List ℕ) (vote : Vote) → accepts member.key (statement_bytes Its) sig ≡ true
        → IsVote accepts ask.claim member.key (Answered (Signed Its sig)) vote → is_for head vote ≡ true
    signed_vote member sig (Told tail count mark) accepted is =
        same_head head tail mark count (sym (ap tail_in is.1.states)) (sym (ap count_in is.1.states))
    signed_vote member sig (Ahead count tail) accepted is = absurd is
    signed_vote member sig (Blamed (OtherTail count tail)) accepted is =
        absurd (is.0 head.tail head.count (record { states = refl; head = is_head; signed = accepted }))
    signed_vote member sig (Blamed cause) accepted is = absurd is

    -- whoever was asked in these calls has signed the head
    abbrev pub HaveSaid : List Event → Type 0
    HaveSaid calls = (place : ℕ) (member : Member) (heard : Heard) → IsMember ask place member → Had calls (latest_to ask member.id heard) → HasSaid accepts member Its heard

    pub record Agree (votes : List MemberVote) (calls : List Event) : Type 0 where
      pub each : AreFor head votes
      pub all : map id_of votes ≡ take (length calls) (ids ask.members)
      pub count : length votes ≡ length calls

    longer : (votes : List MemberVote) (one : MemberVote) → length (votes ++ one ∷ []) ≡ suc (length votes)
    longer votes one = omega (arith, length-append votes (one ∷ []))

    pub agree : (votes : List MemberVote) (calls : List Event) → AreAsked accepts ask votes calls → HaveSaid calls → Agree votes calls
    agree votes [] is said = subst (λ (v : List MemberVote). Agree v []) (sym is) (record { each = tt; all = refl; count = refl })
    agree votes (event ∷ past) is said =
        let now = said (length past) is.0 is.1 is.4 (inl is.5) in
        let before = agree is.3 past is.8 (λ place member heard there had. said place member heard there (inr had)) in
        let heard = subst (λ (h : Heard). IsVote accepts ask.claim is.0.key h is.2) now.answered is.6 in
        let vote : is_for head is.2 ≡ true = signed_vote is.0 now.sig is.2 now.accepted heard in
        let one : MemberVote = record { id = is.0.id; vote = is.2 } in
        subst (λ (v : List MemberVote). Agree v (event ∷ past)) (sym is.7) (record {
          each = one_more head is.3 one before.each vote;
          all = map-append id_of is.3 (one ∷ []) ∙ ap (λ (l : List ℕ). l ++ is.0.id ∷ []) before.all ∙ sym (next_id ask.members (length past) is.0 is.4);
          count = longer is.3 one ∙ ap suc before.count;
        })

    -- where all were asked, a quorum told the head
    module _ (few : FewLaw) (votes : List MemberVote) (calls : List Event) (some : 1 ≤ length ask.members) (all : length votes ≡ length ask.members) (is : Agree votes calls) where
      all_told : map id_of votes ≡ ids ask.members
      all_told = is.all ∙ all_ids ask.members (length calls) (sym is.count ∙ all)

      pub all_quorum : has_quorum ask.members votes head ≡ true
      all_quorum = agreed_quorum few ask.members head votes some is.each all_told

      pub all_agree : quorum_head ask.members votes ≡ Some head
      all_agree = agreed_head few ask.members head votes some is.each all_told
