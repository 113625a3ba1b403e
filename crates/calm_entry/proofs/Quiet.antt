-- Calls that change nothing in a calm service: those of a refresh, and gets.
use Rattle.std.proofs.Common.{◌≡◌, ℕ, ◌+◌, ◌≤◌, List, ◌∷◌, length, sym, subst, ◌∙◌, arith}
use Rattle.statement.specs.declared.member.Member.{Member}
use Rattle.statement.specs.declared.view_block.ViewBlock.{ViewBlock}
use Rattle.port.specs.declared.key.Key.{Key}
use Rattle.port.specs.declared.store_answers.Got.{Got}
use Rattle.port.specs.Cause.{Cause}
use Rattle.port.specs.Contents.{Contents}
use Rattle.port.specs.Link.{Bank}
use Rattle.port.specs.Store.{Get, WasGot, IsHonest}
use Rattle.port.specs.Trace.{Event, AreHonest, AreFaithful}
use Rattle.view_ledger.specs.Receipts.{Accepts}
use Rattle.view_ledger.specs.Views.{ViewChain, newest_config}
use Rattle.op_parts.specs.Refresh.{Grew}
use Rattle.op_parts.specs.RefreshSays.{GaveNoView, IsRefusedAtView, IsRefusedAtFinals}
use Rattle.op_parts.specs.RefreshSound.{IsHalfway, Sound as SoundRefresh}
use Rattle.op_parts.specs.RefreshState.{RefreshState, AtView, AtFinals, AtEnd}
use Rattle.op_entry.specs.OwnRow.{get_of}
use Rattle.op_entry.specs.Refusal.{IsRefreshRefused}
use Rattle.op_entry.specs.Sound.{Refreshed}
use Rattle.calm.specs.Calls.{Later, StaysCalm}
use Rattle.calm.specs.Calm.{ServiceState, IsCalm, newest_block}
use Rattle.calm.specs.Members.{Signs, IsAble}
use Rattle.calm.specs.Refreshing.{ReadyRefresh}
use Rattle.calm.specs.StandingViews.{IsFront}
use Rattle.calm_entry.specs.CalmRun.{all_views}
use Rattle.calm_entry.proofs.Keys.{get_changes_nothing}

-- laws of whole refreshes over a calm service
pub record RefreshLaws : Type 0 where
  pub all : (refresh : ReadyRefresh) (chain : ViewChain) (past : List Event) (event : Event) (later : Contents)
      → Grew refresh.accepts refresh.from past chain → GaveNoView (length chain.configs) event → AreHonest refresh.contents (event ∷ past) later
      → chain ≡ record { roster = refresh.roster; configs = refresh.configs }
  pub same : (refresh : ReadyRefresh) (chain : ViewChain) (past : List Event) (event : Event) (later : Contents)
      → Grew refresh.accepts refresh.from past chain → GaveNoView (length chain.configs) event → AreHonest refresh.contents (event ∷ past) later
      → later ≡ refresh.contents
  pub unasked : (accepts : Accepts) (signs : Signs) (bank after : Bank) (from chain : ViewChain) (past : List Event) (event : Event)
      → Grew accepts from past chain → GaveNoView (length chain.configs) event → AreFaithful signs bank (event ∷ past) after → after ≡ bank
  pub view_stays : (refresh : ReadyRefresh) (chain : ViewChain) (past : List Event) (event : Event) (later : Contents) (cause : Cause)
      → Grew refresh.accepts refresh.from past chain → AreHonest refresh.contents (event ∷ past) later → IsRefusedAtView (length chain.configs) event cause → ⊥
  pub finals_stay : (refresh : ReadyRefresh) (chain : ViewChain) (body : List ℕ) (block : ViewBlock) (config : List Member) (past : List Event) (event : Event) (later : Contents) (cause : Cause)
      → IsHalfway refresh.accepts refresh.from body block config chain past → AreHonest refresh.contents (event ∷ past) later
      → IsRefusedAtFinals refresh.accepts chain body block config event cause → ⊥

-- a member has fewer stamps and signatures left, too
fewer : (bank : Bank) (config : List Member) (service : ServiceState) (left more : ℕ) (member : Member) (block : ViewBlock) → left ≤ more
    → IsAble bank block config service.rows more member → IsAble bank block config service.rows left member
fewer bank config service left more member block less able = record {
  told = able.told;
  known = able.known;
  me = able.me;
  first = able.first;
  active = able.active;
  stamps = let s = able.stamps in omega (arith, s, less);
  signatures = let s = able.signatures in omega (arith, s, less);
}

module _ (service : ServiceState) where
  -- The chain has all views, and nothing has changed.
  pub record Quiet (chain : ViewChain) (contents : Contents) (bank : Bank) : Type 0 where
    pub whole : chain ≡ all_views service
    pub same : contents ≡ service.contents
    pub unasked : bank ≡ service.bank

  pub stays_calm : IsCalm service → (later : Later) → service.left ≡ later.left + 1 → (chain : ViewChain) → Quiet chain later.contents later.bank → StaysCalm service later
  stays_calm calm later one_more chain quiet = (
    quiet.same,
    record {
      fits = calm.fits;
      views = calm.views;
      members = record {
        each = λ place member is. subst (λ (b : Bank). IsAble b (newest_block service.configs) (newest_config service.configs) service.rows later.left member) (sym quiet.unasked)
            (fewer service.bank (newest_config service.configs) service later.left service.left member (newest_block service.configs) (omega (arith, one_more)) (calm.members.each place member is));
      };
      map = calm.map;
      stand = calm.stand;
    },
  )

  -- such calls
  abbrev pub Leads : List Event → ViewChain → Type 0
  Leads past chain = (contents : Contents) (bank : Bank) → AreHonest service.contents past contents → AreFaithful service.signs service.bank past bank → Quiet chain contents bank

  -- and a get
  pub leads_get : (past before : List Event) (chain : ViewChain) (key : Key) (got : Got) → past ≡ get_of key got ∷ before → Leads before chain → Leads past chain
  leads_get past before chain key got is leads contents bank honest faithful =
      let h = subst (λ (p : List Event). AreHonest service.contents p contents) is honest in
      let q = leads h.0 bank h.1 (subst (λ (p : List Event). AreFaithful service.signs service.bank p bank) is faithful) in
      record { whole = q.whole; same = get_changes_nothing h.0 key (WasGot got) contents h.2 ∙ q.same; unasked = q.unasked }

  -- what it was answered
  pub answered_get : (past before : List Event) (chain : ViewChain) (key : Key) (got : Got) → past ≡ get_of key got ∷ before → Leads before chain
      → (contents : Contents) (bank : Bank) → AreHonest service.contents past contents → AreFaithful service.signs service.bank past bank
      → IsHonest service.contents (Get key) (WasGot got) contents
  answered_get past before chain key got is leads contents bank honest faithful =
      let h = subst (λ (p : List Event). AreHonest service.contents p contents) is honest in
      let q = leads h.0 bank h.1 (subst (λ (p : List Event). AreFaithful service.signs service.bank p bank) is faithful) in
      subst (λ (c : Contents). IsHonest c (Get key) (WasGot got) contents) q.same h.2

  module _ (laws : RefreshLaws) (calm : IsCalm service) (from : ViewChain) (front : IsFront service.roster service.configs from) where
    abbrev pub refresh : ReadyRefresh
    refresh = record {
      accepts = service.accepts;
      roster = service.roster;
      contents = service.contents;
      configs = service.configs;
      from = from;
      stand = calm.views;
      front = front;
    }

    pub leads_refreshed : (chain : ViewChain) (past : List Event) → Refreshed service.accepts from chain past → Leads past chain
    leads_refreshed chain past (event, before, is, grew, gave) contents bank honest faithful =
        let h = subst (λ (p : List Event). AreHonest service.contents p contents) is honest in
        let f = subst (λ (p : List Event). AreFaithful service.signs service.bank p bank) is faithful in
        record {
          whole = laws.all refresh chain before event contents grew gave h;
          same = laws.same refresh chain before event contents grew gave h;
          unasked = laws.unasked service.accepts service.signs service.bank bank from chain before event grew gave f;
        }

    -- a refresh isn't refused
    pub not_refused : (state : RefreshState) (chain : ViewChain) (event : Event) (past : List Event) (contents : Contents) (cause : Cause) → SoundRefresh service.accepts from state chain past
        → AreHonest service.contents (event ∷ past) contents → IsRefreshRefused service.accepts chain state event cause → ⊥
    not_refused AtView chain event past contents cause sound honest is = laws.view_stays refresh chain past event contents cause sound honest is
    not_refused (AtFinals body block config) chain event past contents cause sound honest is =
        laws.finals_stay refresh chain body block config past event contents cause sound honest is
    not_refused AtEnd chain event past contents cause sound honest is = is
