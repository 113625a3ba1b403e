-- A call of a coordinator that is calm.
use Rattle.std.proofs.Common.{◌≡◌, ℕ, ◌+◌, List, [], ◌∷◌, Some, Result, Ok, Err, refl, sym, ap, ◌∙◌, subst}
use Rattle.port.specs.Cause.{Cause}
use Rattle.port.specs.Contents.{Contents}
use Rattle.port.specs.Link.{LinkView, Bank}
use Rattle.port.specs.Reply.{Standing, LatestReply}
use Rattle.port.specs.Service.{ServiceCall, NewLedger, Append, Latest, At, Views, ServiceAnswer, Stood, Replied, Knew, Refused}
use Rattle.port.specs.Store.{StoreView}
use Rattle.port.specs.Trace.{Event, AtStore, AtLink, Ran, AreHonest, AreFaithful}
use Rattle.port.specs.View.{ViewRow}
use Rattle.view_ledger.specs.Receipts.{Accepts}
use Rattle.op_entry.specs.Ask.{Ask}
use Rattle.op_entry.specs.Ask as asks
use Rattle.op_latest.specs.LatestAsked.{LatestAsk}
use Rattle.calm.specs.Calls.{Later, CalmLatest}
use Rattle.calm.specs.Calm.{ServiceState}
use Rattle.calm.specs.StandingViews.{IsFront}
use Rattle.coordinator.specs.Calls.{Served, OfStanding, OfReply, OfViews}
use Rattle.coordinator.specs.Calm.{OverCalm, CalmEntry, CalmViews}
use Rattle.coordinator.specs.CalmStates.{Tells, IsCalmOver, WasHonest, CalmAnswer, CalmlyServed, after}
use Rattle.coordinator.specs.Entries.{EntryServed, first_entry, later_entry}
use Rattle.coordinator.specs.Latest.{LatestServed}
use Rattle.coordinator.specs.Says.{coordinator_says}
use Rattle.coordinator.specs.State.{State}
use Rattle.coordinator.specs.Views.{ViewsServed}
use Rattle.coordinator.proofs.CalmViewing.{ViewLaws, calm_views}

-- which signatures endorsers make never changes
pub signs_stay : {S L : Type 0} (sv : S → StoreView) (lv : L → LinkView) (s s' : S) (l l' : L) (events : List Event) → Ran sv lv s l events s' l' → (lv l').signs ≡ (lv l).signs
signs_stay sv lv s s' l l' [] ran = ap (λ x. (lv x).signs) ran.1
signs_stay sv lv s s' l l' (AtStore call answer ∷ past) ran = ap (λ x. (lv x).signs) ran.3.1 ∙ signs_stay sv lv s ran.0 l ran.1 past ran.2
signs_stay sv lv s s' l l' (AtLink id call heard ∷ past) ran = ran.3.0.same_signs ∙ signs_stay sv lv s ran.0 l ran.1 past ran.2

-- the law of links
pub record RunLaws {S L : Type 0} (sv : S → StoreView) (lv : L → LinkView) : Type 0 where
  pub faithful : (s s' : S) (l l' : L) (events : List Event) → Ran sv lv s l events s' l' → (bank : Bank) → (lv l).told ≡ Some bank
      → (after : Bank) × ((lv l').told ≡ Some after) × AreFaithful (lv l).signs bank events after

module _ {S L C : Type 0} (accepts : C → Accepts) (sv : S → StoreView) (lv : L → LinkView) (runs : RunLaws sv lv) (old new : State S L C) (service : ServiceState) (left : ℕ)
    (calm : IsCalmOver accepts sv lv old service) (one_more : service.left ≡ left + 1) (honest : WasHonest sv lv old new service.contents) (events : List Event)
    (ran : Ran sv lv old.store old.link events new.store new.link) (same : new.checker ≡ old.checker) where
  -- what stands then
  store_then : (after : Contents) × ((sv new.store).told ≡ Some after) × AreHonest service.contents events after
  store_then = honest events ran

  link_then : (after : Bank) × ((lv new.link).told ≡ Some after) × AreFaithful (lv old.link).signs service.bank events after
  link_then = runs.faithful old.store new.store old.link new.link events ran service.bank calm.tells.bank

  abbrev now : Later
  now = record { contents = store_then.0; bank = link_then.0; left = left }

  over : OverCalm (accepts old.checker) old.chain events service now
  over = record {
    calm = calm.calm;
    one_more = one_more;
    checks = sym calm.tells.checks;
    front = calm.tells.front;
    honest = store_then.2;
    faithful = subst (λ signs. AreFaithful signs service.bank events link_then.0) calm.tells.signs link_then.2;
  }

  serve : (call : ServiceCall) (answer : ServiceAnswer) → CalmAnswer call answer new.chain service now → IsFront service.roster service.configs new.chain → CalmlyServed accepts sv lv new call answer service left
  serve call answer answered front = record {
    later = now;
    one_less = refl;
    tells = record {
      contents = store_then.1;
      bank = link_then.1;
      signs = signs_stay sv lv old.store new.store old.link new.link events ran ∙ calm.tells.signs;
      checks = ap accepts same ∙ calm.tells.checks;
      front = front;
    };
    answered = answered;
  }

  of_entry : (call : ServiceCall) (ask : Ask) (answer : ServiceAnswer) → ((answer : ServiceAnswer) → OfStanding (λ (result : Result Standing Cause). CalmEntry ask result service now) answer → CalmAnswer call answer new.chain service now)
      → OfStanding (EntryServed (accepts old.checker) ask old.chain new.chain events) answer → CalmlyServed accepts sv lv new call answer service left
  of_entry call ask (Stood standing) says did = let is = did.calm service now over in serve call (Stood standing) (says (Stood standing) is.0) is.1
  of_entry call ask (Refused cause) says did = let is = did.calm service now over in serve call (Refused cause) (says (Refused cause) is.0) is.1
  of_entry call ask (Replied reply) says did = absurd did
  of_entry call ask (Knew rows) says did = absurd did

  of_latest : (handle nonce : List ℕ) (answer : ServiceAnswer) → OfReply (LatestServed (accepts old.checker) (record { handle = handle; nonce = nonce }) old.chain new.chain events) answer
      → CalmlyServed accepts sv lv new (Latest handle nonce) answer service left
  of_latest handle nonce (Replied reply) did = let is = did.calm service now over in serve (Latest handle nonce) (Replied reply) is.0 is.1
  of_latest handle nonce (Refused cause) did = let is = did.calm service now over in serve (Latest handle nonce) (Refused cause) is.0 is.1
  of_latest handle nonce (Stood standing) did = absurd did
  of_latest handle nonce (Knew rows) did = absurd did

  of_views : ViewLaws → (number : ℕ) (answer : ServiceAnswer) → OfViews (ViewsServed (accepts old.checker) number old.chain new.chain events) answer
      → CalmlyServed accepts sv lv new (Views number) answer service left
  of_views laws number (Knew rows) did =
      let is = calm_views laws (accepts old.checker) number old.chain new.chain events (Ok rows) service now over did in
      serve (Views number) (Knew rows) is.0 is.1
  of_views laws number (Refused cause) did =
      let is = calm_views laws (accepts old.checker) number old.chain new.chain events (Err cause) service now over did in
      serve (Views number) (Refused cause) is.0 is.1
  of_views laws number (Stood standing) did = absurd did
  of_views laws number (Replied reply) did = absurd did

pub calmly_served : {S L C : Type 0} (accepts : C → Accepts) (sv : S → StoreView) (lv : L → LinkView) → RunLaws sv lv → ViewLaws → (old new : State S L C) (call : ServiceCall) (answer : ServiceAnswer) (service : ServiceState) (left : ℕ)
    → coordinator_says accepts sv lv old new call answer → IsCalmOver accepts sv lv old service → service.left ≡ left + 1 → WasHonest sv lv old new service.contents
    → CalmlyServed accepts sv lv new call answer service left
calmly_served accepts sv lv runs laws old new (NewLedger nonce payload) answer service left says calm one_more honest =
    of_entry accepts sv lv runs old new service left calm one_more honest says.events says.ran says.checker (NewLedger nonce payload) (asks.NewLedger (first_entry nonce payload)) answer (λ a is. is) says.did
calmly_served accepts sv lv runs laws old new (Append handle height nonce payload) answer service left says calm one_more honest =
    of_entry accepts sv lv runs old new service left calm one_more honest says.events says.ran says.checker (Append handle height nonce payload) (asks.AppendEntry (later_entry handle height nonce payload)) answer (λ a is. is) says.did
calmly_served accepts sv lv runs laws old new (Latest handle nonce) answer service left says calm one_more honest =
    of_latest accepts sv lv runs old new service left calm one_more honest says.events says.ran says.checker handle nonce answer says.did
calmly_served accepts sv lv runs laws old new (At handle height) answer service left says calm one_more honest =
    of_entry accepts sv lv runs old new service left calm one_more honest says.events says.ran says.checker (At handle height) (asks.ReadAt handle height) answer (λ a is. is) says.did
calmly_served accepts sv lv runs laws old new (Views number) answer service left says calm one_more honest =
    of_views accepts sv lv runs old new service left calm one_more honest says.events says.ran says.checker laws number answer says.did
