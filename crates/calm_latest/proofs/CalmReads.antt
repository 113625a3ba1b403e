-- A latest read over a calm service, after its refresh.
use Rattle.std.proofs.Common.{◌≡◌, inl, inr, true, ℕ, ◌+◌, List, [], ◌∷◌, length, Option, Some, refl, sym, subst, ap, ◌∙◌, arith}
use Rattle.std.specs.Prelude.{unwrap_or}
use Rattle.chain_block.specs.declared.entry.Entry.{Entry}
use Rattle.port.specs.Contents.{Contents}
use Rattle.port.specs.Link.{Bank}
use Rattle.port.specs.Trace.{Event, AreHonest, AreFaithful}
use Rattle.view_ledger.specs.Views.{ViewChain}
use Rattle.op_latest.specs.declared.latest_head.LatestHead.{LatestHead}
use Rattle.op_latest.specs.LatestAsked.{LatestAsk, Asking, asking_of, AreAsked, AreBoth, AreDone}
use Rattle.op_latest.specs.LatestJudged.{IsHead}
use Rattle.op_latest.specs.LatestSays.{IsFresh, IsAfter}
use Rattle.op_latest.specs.LatestVote.{MemberVote, has_quorum, quorum_head}
use Rattle.calm.specs.Ledgers.{tail_of}
use Rattle.calm.specs.Reading.{WereRead}
use Rattle.calm.specs.Refreshing.{ReadyRefresh}
use Rattle.calm.specs.StandingViews.{IsFront}
use Rattle.calm.specs.Calm.{ServiceState, IsCalm}
use Rattle.calm_latest.proofs.LowerLaws.{Laws}
use Rattle.calm_latest.proofs.Votes.{Agree, agree, all_quorum, all_agree, were_read}

-- the views of a service
abbrev pub whole : ServiceState → ViewChain
whole service = record { roster = service.roster; configs = service.configs }

abbrev pub refresh_of : (service : ServiceState) → IsCalm service → (from : ViewChain) → IsFront service.roster service.configs from → ReadyRefresh
refresh_of service calm from front = record {
  accepts = service.accepts;
  roster = service.roster;
  contents = service.contents;
  configs = service.configs;
  from = from;
  stand = calm.views;
  front = front;
}

-- the head of a ledger
abbrev pub head_of : ServiceState → List ℕ → LatestHead
head_of service handle = record { tail = tail_of (service.ledgers handle); count = length (service.ledgers handle) }

some_of : {X : Type 0} (a b : X) → Some a ≡ Some b → a ≡ b
some_of a b same = ap (λ (o : Option _). unwrap_or o a) same

nothing : (entries : List Entry) → length entries ≡ 0 → entries ≡ []
nothing [] none = refl
nothing (entry ∷ entries) none = absurd (omega (arith, none))

module _ (laws : Laws) (service : ServiceState) (calm : IsCalm service) where
  pub no_entries : (handle : List ℕ) → length (service.ledgers handle) ≡ 0 → service.ledgers handle ≡ []
  no_entries handle none = nothing (service.ledgers handle) none

  is_head : (handle : List ℕ) → IsHead (tail_of (service.ledgers handle)) (length (service.ledgers handle))
  is_head handle none = ap tail_of (no_entries handle none) ∙ laws.no_tail

  -- after the refresh: the chain has all views, and these are the calls since then
  pub record Since (chain : ViewChain) (calls : List Event) (contents : Contents) (bank : Bank) : Type 0 where
    pub all : chain ≡ whole service
    pub honest : AreHonest service.contents calls contents
    pub faithful : AreFaithful service.signs service.bank calls bank

  all_of : (from chain : ViewChain) (front : IsFront service.roster service.configs from) (fresh : List Event) (later : Contents) → IsFresh service.accepts from chain fresh
      → AreHonest service.contents fresh later → (chain ≡ whole service) × (later ≡ service.contents)
  all_of from chain front [] later is honest = absurd is
  all_of from chain front (event ∷ past) later is honest =
      let refresh = refresh_of service calm from front in
      (laws.all refresh chain past event later is.0 is.1 honest, laws.same refresh chain past event later is.0 is.1 honest)

  bank_of : (from chain : ViewChain) (fresh : List Event) (after : Bank) → IsFresh service.accepts from chain fresh → AreFaithful service.signs service.bank fresh after → after ≡ service.bank
  bank_of from chain [] after is faithful = absurd is
  bank_of from chain (event ∷ past) after is faithful = laws.unasked service.accepts service.signs service.bank after from chain past event is.0 is.1 faithful

  -- the chain has all views once the refresh is over
  pub all_views : (from chain : ViewChain) (past calls : List Event) (contents : Contents) → IsFront service.roster service.configs from → IsAfter service.accepts from chain past calls
      → AreHonest service.contents past contents → chain ≡ whole service
  all_views from chain past calls contents front after honest =
      let split = laws.split_store service.contents contents calls after.fresh (subst (λ (p : List Event). AreHonest service.contents p contents) after.split honest) in
      (all_of from chain front after.fresh split.0 after.refreshed split.1).0

  pub since : (from chain : ViewChain) (past calls : List Event) (contents : Contents) (bank : Bank) → IsFront service.roster service.configs from → IsAfter service.accepts from chain past calls
      → AreHonest service.contents past contents → AreFaithful service.signs service.bank past bank → Since chain calls contents bank
  since from chain past calls contents bank front after honest faithful =
      let store = laws.split_store service.contents contents calls after.fresh (subst (λ (p : List Event). AreHonest service.contents p contents) after.split honest) in
      let link = laws.split_link service.signs service.bank bank calls after.fresh (subst (λ (p : List Event). AreFaithful service.signs service.bank p bank) after.split faithful) in
      let all = all_of from chain front after.fresh store.0 after.refreshed store.1 in
      record {
        all = all.0;
        honest = subst (λ (c : Contents). AreHonest c calls contents) all.1 store.2;
        faithful = subst (λ (b : Bank). AreFaithful service.signs b calls bank) (bank_of from chain after.fresh link.0 after.refreshed link.1) link.2;
      }

  module _ (left : ℕ) (one_more : service.left ≡ left + 1) (ask : LatestAsk) where
    abbrev Its : Asking
    Its = asking_of ask (whole service)

    abbrev Head : LatestHead
    Head = head_of service ask.handle

    -- what all members' being asked leads to
    pub record Read (calls : List Event) (bank : Bank) : Type 0 where
      pub calm_then : IsCalm (record service { bank = bank; left = left })
      pub unstored : (contents later : Contents) → AreHonest contents calls later → later ≡ contents

    agreed : (votes : List MemberVote) (calls : List Event) (bank : Bank) → AreAsked service.accepts Its votes calls → AreFaithful service.signs service.bank calls bank
        → Agree service.accepts Its Head (is_head ask.handle) votes calls
    agreed votes calls bank asked faithful =
        agree service.accepts Its Head (is_head ask.handle) votes calls asked
        (λ place member heard is had. laws.only service left (length calls) ask.handle ask.nonce calls bank calm one_more (were_read service.accepts Its votes calls asked) faithful place member heard is had)

    -- a quorum told the head at once
    told_at_once : (votes : List MemberVote) (calls : List Event) (bank : Bank) → AreAsked service.accepts Its votes calls → length votes ≡ length Its.members
        → AreFaithful service.signs service.bank calls bank → quorum_head Its.members votes ≡ Some Head
    told_at_once votes calls bank asked all faithful =
        all_agree service.accepts Its Head (is_head ask.handle) laws.few votes calls (laws.config service calm).some all (agreed votes calls bank asked faithful)

    quorum_at_once : (votes : List MemberVote) (calls : List Event) (bank : Bank) → AreAsked service.accepts Its votes calls → length votes ≡ length Its.members
        → AreFaithful service.signs service.bank calls bank → has_quorum Its.members votes Head ≡ true
    quorum_at_once votes calls bank asked all faithful =
        all_quorum service.accepts Its Head (is_head ask.handle) laws.few votes calls (laws.config service calm).some all (agreed votes calls bank asked faithful)

    all_read : (votes : List MemberVote) (calls : List Event) (bank : Bank) → AreAsked service.accepts Its votes calls → length votes ≡ length Its.members
        → AreFaithful service.signs service.bank calls bank → Read calls bank
    all_read votes calls bank asked all faithful =
        let were = were_read service.accepts Its votes calls asked in
        let count : length calls ≡ length Its.members = sym (agreed votes calls bank asked faithful).count ∙ all in
        record {
          calm_then = laws.calm service left ask.handle ask.nonce calls bank calm one_more (subst (λ (n : ℕ). WereRead ask.handle ask.nonce Its.members n calls) count were) faithful;
          unstored = λ contents later honest. laws.unstored service (length calls) ask.handle ask.nonce calls contents later calm were honest;
        }

    -- so there is no second asking
    pub no_second : (head : LatestHead) (n : ℕ) (votes : List MemberVote) (calls : List Event) (bank : Bank) → AreBoth service.accepts Its head n votes calls
        → AreFaithful service.signs service.bank calls bank → ⊥
    no_second head n votes calls bank both faithful =
        let link = laws.split_link service.signs service.bank bank both.later both.earlier (subst (λ (c : List Event). AreFaithful service.signs service.bank c bank) both.split faithful) in
        let told = told_at_once both.firsts both.earlier link.0 both.first.asked both.first.all link.1 in
        let none = both.first.none in
        absurd (cc)

    -- nobody is to be asked any more: the head is the ledger's
    pub done_read : (head : LatestHead) (votes : List MemberVote) (calls : List Event) (bank : Bank) → AreDone service.accepts Its head votes calls
        → AreFaithful service.signs service.bank calls bank → (head ≡ Head) × (has_quorum Its.members votes Head ≡ true) × Read calls bank
    done_read head votes calls bank (inl is) faithful = (
      some_of head Head (sym is.2 ∙ told_at_once votes calls bank is.0 is.1 faithful),
      quorum_at_once votes calls bank is.0 is.1 faithful,
      all_read votes calls bank is.0 is.1 faithful,
    )
    done_read head votes calls bank (inr both) faithful = absurd (no_second head (length Its.members) votes calls bank both faithful)
