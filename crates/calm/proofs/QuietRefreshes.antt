-- A refresh asks no endorser.
use Rattle.std.proofs.Common.{◌≡◌, inl, inr, ℕ, List, [], ◌∷◌, length, subst}
use Rattle.statement.specs.declared.member.Member.{Member}
use Rattle.statement.specs.declared.view_block.ViewBlock.{ViewBlock}
use Rattle.port.specs.Link.{Bank}
use Rattle.port.specs.Store.{StoreCall, StoreAnswer}
use Rattle.port.specs.Trace.{Event, AtStore, AreFaithful}
use Rattle.view_ledger.specs.Receipts.{Accepts}
use Rattle.view_ledger.specs.Views.{ViewChain}
use Rattle.op_parts.specs.Refresh.{Grew}
use Rattle.op_parts.specs.RefreshSays.{GaveNoView}
use Rattle.op_parts.specs.RefreshSound.{IsHalfway, HasEnded, Sound}
use Rattle.op_parts.specs.RefreshState.{RefreshState, AtView, AtFinals, AtEnd}
use Rattle.calm.specs.Members.{Signs}

module _ (signs : Signs) (bank : Bank) where
  -- what the endorsers are after a call of the store they were before it
  at_store : (event : Event) (call : StoreCall) (answer : StoreAnswer) (past : List Event) (after : Bank) → event ≡ AtStore call answer → AreFaithful signs bank (event ∷ past) after
      → AreFaithful signs bank past after
  at_store event call answer past after is faithful = subst (λ (e : Event). AreFaithful signs bank (e ∷ past) after) is faithful

  module _ (accepts : Accepts) (from : ViewChain) where
    pub grew : (past : List Event) (chain : ViewChain) (after : Bank) → Grew accepts from past chain → AreFaithful signs bank past after → after ≡ bank
    grew [] chain after is faithful = faithful
    grew (second ∷ []) chain after is faithful = absurd is
    grew (second ∷ first ∷ past) chain after is faithful =
        let gave = is.3 in
        grew past is.0 after is.2 (at_store first _ _ past after gave.view.1 (at_store second _ _ (first ∷ past) after gave.given.1 faithful))

    halfway : (past : List Event) (body : List ℕ) (block : ViewBlock) (config : List Member) (chain : ViewChain) (after : Bank) → IsHalfway accepts from body block config chain past
        → AreFaithful signs bank past after → after ≡ bank
    halfway [] body block config chain after is faithful = absurd is
    halfway (event ∷ past) body block config chain after is faithful = grew past chain after is.0 (at_store event _ _ past after is.1.1 faithful)

    ended : (past : List Event) (chain : ViewChain) (after : Bank) → HasEnded accepts from chain past → AreFaithful signs bank past after → after ≡ bank
    ended [] chain after is faithful = absurd is
    ended (event ∷ past) chain after (inl is) faithful = grew past chain after is.0 (at_store event _ _ past after is.1.1 faithful)
    ended (event ∷ past) chain after (inr is) faithful = halfway past is.0 is.1 is.2 chain after is.3 (at_store event _ _ past after is.4.1 faithful)

    pub no_view_more : (past : List Event) (event : Event) (chain : ViewChain) (after : Bank) → Grew accepts from past chain → GaveNoView (length chain.configs) event
        → AreFaithful signs bank (event ∷ past) after → after ≡ bank
    no_view_more past event chain after is (inl gave) faithful = grew past chain after is (at_store event _ _ past after gave faithful)
    no_view_more past event chain after is (inr gave) faithful = grew past chain after is (at_store event _ _ past after gave.1 faithful)

    pub sound : (state : RefreshState) (past : List Event) (chain : ViewChain) (after : Bank) → Sound accepts from state chain past → AreFaithful signs bank past after → after ≡ bank
    sound AtView past chain after is faithful = grew past chain after is faithful
    sound (AtFinals body block config) past chain after is faithful = halfway past body block config chain after is faithful
    sound AtEnd past chain after is faithful = ended past chain after is faithful
