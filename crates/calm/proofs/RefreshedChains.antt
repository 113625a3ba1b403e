-- How a chain goes on over an honest store in which all views stand.
use Rattle.std.proofs.Common.{◌≡◌, inl, inr, ℕ, List, [], ◌∷◌, ◌++◌, length, Some, sym, ap, subst, ◌∙◌, arith, append_assoc, length-append}
use Rattle.std.proofs.lemmas.List.{append-nil}
use Rattle.statement.specs.declared.member.Member.{Member}
use Rattle.statement.specs.declared.view_block.ViewBlock.{ViewBlock}
use Rattle.port.specs.declared.key.Key.{Key}
use Rattle.port.specs.declared.key.Key.TheVariants as keys
use Rattle.port.specs.declared.store_answers.Got.{Got}
use Rattle.port.specs.declared.store_answers.Got.TheVariants as gots
use Rattle.port.specs.Contents.{Contents}
use Rattle.port.specs.Stored.{Stored}
use Rattle.port.specs.View.{FinalMap}
use Rattle.port.specs.ViewForm.{IsView, view_bytes}
use Rattle.port.specs.FinalsForm.{IsFinals, finals_bytes}
use Rattle.port.specs.Store.{Get, WasGot}
use Rattle.port.specs.Trace.{Event, AtStore, AreHonest}
use Rattle.view_ledger.specs.Views.{ViewChain, next_block}
use Rattle.view_ledger.specs.Receipts.{Accepts}
use Rattle.view_ledger.specs.Extension.{extended}
use Rattle.op_parts.specs.RefreshState.{RefreshState, AtView, AtFinals, AtEnd}
use Rattle.op_parts.specs.Refresh.{GaveView, ReadsAsView, Grew}
use Rattle.op_parts.specs.RefreshSound.{IsHalfway, HasEnded, Sound}
use Rattle.calm.specs.StandingViews.{StandViews, IsFront}
use Rattle.calm.proofs.HonestGets.{newest_get, unchanged}

-- no two views have the same bytes, and no two lists of finals
abbrev pub ViewsLaw : Type 0
ViewsLaw = (a b : ViewBlock × List Member) → IsView a → IsView b → view_bytes a ≡ view_bytes b → a ≡ b

abbrev pub FinalsLaw : Type 0
FinalsLaw = (a b : List FinalMap) → IsFinals a → IsFinals b → finals_bytes a ≡ finals_bytes b → a ≡ b

-- the view with this block and config is the next one above the chain
pub record IsNextView (configs : List (List Member)) (chain : ViewChain) (block : ViewBlock) (config : List Member) : Type 0 where
  pub above : List (List Member)
  pub split : configs ≡ chain.configs ++ config ∷ above
  pub links : block ≡ next_block chain.configs config

module _ (views_law : ViewsLaw) (accepts : Accepts) (roster : List Member) (contents : Contents) (configs : List (List Member)) (stand : StandViews accepts roster contents configs) where
  -- the next of the views, where one stands at the next number
  pub next_of : (chain : ViewChain) (stored : Stored) → IsFront roster configs chain → contents (keys.View (length chain.configs)) ≡ Some stored
      → (config : List Member) × (above : List (List Member)) × (configs ≡ chain.configs ++ config ∷ above)
  next_of chain stored front stands = by_rest front.rest front.split
    where
      by_rest : (rest : List (List Member)) → configs ≡ chain.configs ++ rest → (config : List Member) × (above : List (List Member)) × (configs ≡ chain.configs ++ config ∷ above)
      by_rest [] split =
          let same : length configs ≡ length chain.configs = ap length (split ∙ append-nil chain.configs) in
          let none = stand.no_view (length chain.configs) (omega arith) in
          absurd (cc)
      by_rest (config ∷ above) split = (config, above, split)

  -- a view that was read there is the next one
  pub read_next : (chain : ViewChain) (stored : Stored) (body : List ℕ) (block : ViewBlock) (config : List Member) → IsFront roster configs chain
      → contents (keys.View (length chain.configs)) ≡ Some stored → stored.body ≡ body → ReadsAsView body (block, config) → IsNextView configs chain block config
  read_next chain stored body block config front stands is reads =
      let next = next_of chain stored front stands in
      let view = stand.views chain.configs next.1 next.0 next.2 in
      let same : view.stored ≡ stored = (let s : Some view.stored ≡ Some stored = sym view.stands ∙ stands in cc) in
      let bytes : view_bytes (block, config) ≡ view_bytes (next_block chain.configs next.0, next.0) = sym reads.1 ∙ sym is ∙ ap (λ (s : Stored). s.body) (sym same) ∙ view.reads.1 in
      let one = views_law (block, config) (next_block chain.configs next.0, next.0) reads.0 view.reads.0 bytes in
      let is_config : config ≡ next.0 = ap (λ (v : ViewBlock × List Member). v.1) one in
      record {
        above = next.1;
        split = next.2 ∙ ap (λ (c : List Member). chain.configs ++ c ∷ next.1) (sym is_config);
        links = ap (λ (v : ViewBlock × List Member). v.0) one ∙ ap (next_block chain.configs) (sym is_config);
      }

  -- the chain with the next view
  pub longer_front : (chain longer : ViewChain) (block : ViewBlock) (config : List Member) → IsFront roster configs chain → IsNextView configs chain block config
      → longer ≡ extended chain config → IsFront roster configs longer
  longer_front chain longer block config front next is =
      subst (IsFront roster configs) (sym is) (record {
        genuine = front.genuine;
        some = omega (arith, front.some, length-append chain.configs (config ∷ []));
        rest = next.above;
        split = next.split ∙ sym (append_assoc chain.configs (config ∷ []) next.above);
      })

  -- what a list of calls leads to
  pub record Leads (past : List Event) (chain : ViewChain) (after : Contents) : Type 0 where
    pub front : IsFront roster configs chain
    pub same : after ≡ contents

  -- by these calls the next view was given
  pub given_next : (chain : ViewChain) (body : List ℕ) (block : ViewBlock) (config : List Member) (past : List Event) (event : Event) (after : Contents)
      → GaveView (length chain.configs) body event → ReadsAsView body (block, config) → AreHonest contents (event ∷ past) after
      → ((before : Contents) → AreHonest contents past before → Leads past chain before)
      → Leads (event ∷ past) chain after × IsNextView configs chain block config
  given_next chain body block config past event after gave reads honest older =
      let b = newest_get contents after past event (keys.View (length chain.configs)) (gots.Some gave.0) gave.1 honest in
      let o = older b.before b.honest in
      let there : contents (keys.View (length chain.configs)) ≡ Some gave.0 = subst (λ (c : Contents). c (keys.View (length chain.configs)) ≡ Some gave.0) o.same b.answered.0 in
      (record { front = o.front; same = b.answered.1 ∙ o.same }, read_next chain gave.0 body block config o.front there gave.2 reads)

  -- a further get changes nothing
  pub then_get : (chain : ViewChain) (past : List Event) (event : Event) (after : Contents) (key : Key) (got : Got) → event ≡ AtStore (Get key) (WasGot got)
      → AreHonest contents (event ∷ past) after → ((before : Contents) → AreHonest contents past before → Leads past chain before) → Leads (event ∷ past) chain after
  then_get chain past event after key got is honest older =
      let b = newest_get contents after past event key got is honest in
      let o = older b.before b.honest in
      record { front = o.front; same = unchanged b.before key got after b.answered ∙ o.same }

  pub grew : (from : ViewChain) → IsFront roster configs from → (past : List Event) (chain : ViewChain) (after : Contents) → Grew accepts from past chain → AreHonest contents past after → Leads past chain after
  grew from front [] chain after is honest = record { front = subst (IsFront roster configs) (sym is) front; same = honest }
  grew from front (second ∷ []) chain after is honest = absurd is
  grew from front (second ∷ first ∷ past) chain after is honest =
      let before = is.0 in
      let next = is.1 in
      let gave = is.3 in
      let b = newest_get contents after (first ∷ past) second (keys.Finals (length before.configs)) (gots.Some gave.given.0) gave.given.1 honest in
      let g = given_next before gave.body next.block next.config past first b.before gave.view gave.reads b.honest (λ c h. grew from front past before c is.2 h) in
      record { front = longer_front before chain next.block next.config g.0.front g.1 is.4; same = b.answered.1 ∙ g.0.same }

  -- where the newest call gave the next view
  pub halfway : (from : ViewChain) → IsFront roster configs from → (past : List Event) (body : List ℕ) (block : ViewBlock) (config : List Member) (chain : ViewChain) (after : Contents)
      → IsHalfway accepts from body block config chain past → AreHonest contents past after → Leads past chain after × IsNextView configs chain block config
  halfway from front [] body block config chain after is honest = absurd is
  halfway from front (event ∷ past) body block config chain after is honest =
      given_next chain body block config past event after is.1 is.2 honest (λ c h. grew from front past chain c is.0 h)

  ended : (from : ViewChain) → IsFront roster configs from → (past : List Event) (chain : ViewChain) (after : Contents) → HasEnded accepts from chain past → AreHonest contents past after → Leads past chain after
  ended from front [] chain after is honest = absurd is
  ended from front (event ∷ past) chain after (inl is) honest =
      then_get chain past event after (keys.View (length chain.configs)) is.1.0 is.1.1 honest (λ c h. grew from front past chain c is.0 h)
  ended from front (event ∷ past) chain after (inr is) honest =
      then_get chain past event after (keys.Finals (length chain.configs)) is.4.0 is.4.1 honest (λ c h. (halfway from front past is.0 is.1 is.2 chain c is.3 h).0)

  pub sound_leads : (from chain : ViewChain) (state : RefreshState) (past : List Event) (after : Contents) → IsFront roster configs from → Sound accepts from state chain past → AreHonest contents past after → Leads past chain after
  sound_leads from chain AtView past after front sound honest = grew from front past chain after sound honest
  sound_leads from chain (AtFinals body block config) past after front sound honest = (halfway from front past body block config chain after sound honest).0
  sound_leads from chain AtEnd past after front sound honest = ended from front past chain after sound honest
