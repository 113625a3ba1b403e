-- What a call makes of a refresh.
use Rattle.std.proofs.Common.{◌≡◌, ℕ, ◌^◌, ◌<◌, List, [], ◌∷◌, length, Result, Ok, Err, inr, refl, sym, subst, arith}
use Rattle.nim_base.specs.declared.no_memory.NoMemory.{NoMemory}
use Rattle.statement.specs.declared.member.Member.{Member}
use Rattle.statement.specs.declared.view_block.ViewBlock.{ViewBlock}
use Rattle.port.specs.declared.key.Key.TheVariants as keys
use Rattle.port.specs.declared.store_answers.Got.{Got}
use Rattle.port.specs.Store.{Get, WasGot}
use Rattle.port.specs.Trace.{Event, AtStore}
use Rattle.view_ledger.specs.Views.{ViewChain}
use Rattle.view_ledger.specs.Receipts.{Accepts}
use Rattle.op_parts.specs.declared.refresh_turn.RefreshProgress.{RefreshProgress}
use Rattle.op_parts.specs.declared.refresh_turn.RefreshProgress.TheVariants.{More, Fresh, Refused}
use Rattle.op_parts.specs.RefreshState.{RefreshState, AtView, AtFinals, AtEnd, calls_left}
use Rattle.op_parts.specs.Refresh.{marks_of}
use Rattle.op_parts.specs.RefreshTurn.{GoesAtView, GoesAtFinals}
use Rattle.op_parts.specs.RefreshSound.{IsHalfway, HasEnded, Leads}

-- a call for a view leaves fewer
pub view_falls : (chain : ViewChain) (number : ℕ) (event : Event) (new : RefreshState) (result : Result RefreshProgress NoMemory)
    → length chain.configs < 2 ^ 64 → GoesAtView number event new result → calls_left new chain < calls_left AtView chain
view_falls chain number event AtView (Ok More) below goes = absurd goes
view_falls chain number event AtView (Ok Fresh) below goes = absurd goes
view_falls chain number event AtView (Ok (Refused refusal)) below goes = absurd goes
view_falls chain number event AtView (Err wanted) below goes = absurd (cc goes.0)
view_falls chain number event (AtFinals body block config) result below goes = omega (arith, below)
view_falls chain number event AtEnd result below goes = omega (arith, below)

module _ (accepts : Accepts) (chain : ViewChain) (body : List ℕ) (block : ViewBlock) (config : List Member) (got : Got) where
  abbrev call : Event
  call = AtStore (Get (keys.Finals (length chain.configs))) (WasGot got)

  -- the end after a call for finals
  ends : (from after : ViewChain) (past : List Event) → after ≡ chain → IsHalfway accepts from body block config chain past → HasEnded accepts from after (call ∷ past)
  ends from after past same half =
      let newest : (x : Got) × (call ≡ AtStore (Get (keys.Finals (length chain.configs))) (WasGot x)) = (got, refl) in
      subst (λ (c : ViewChain). HasEnded accepts from c (call ∷ past)) (sym same) (inr (body, block, config, half, newest))

  -- a call for finals is one more
  pub finals_lead : (after : ViewChain) (new : RefreshState) (result : Result RefreshProgress NoMemory)
      → GoesAtFinals accepts chain body block config call after new result → Leads accepts (AtFinals body block config) chain call new after
  finals_lead after AtView (Ok More) goes from [] half = absurd half
  finals_lead after AtView (Ok More) goes from (first ∷ past) half = (
    chain,
    record { block = block; config = config; finals = marks_of goes.maps },
    half.0,
    record { body = body; view = half.1; reads = half.2; bytes = goes.bytes; given = goes.given; maps = goes.maps; finals = goes.finals; marks = refl; follows = goes.follows },
    goes.grown,
  )
  finals_lead after AtView (Ok Fresh) goes from past half = absurd goes
  finals_lead after AtView (Ok (Refused refusal)) goes from past half = absurd goes
  finals_lead after AtView (Err wanted) goes from past half = absurd (cc goes.0)
  finals_lead after (AtFinals b k c) (Ok More) goes from past half = absurd goes
  finals_lead after (AtFinals b k c) (Ok Fresh) goes from past half = absurd goes
  finals_lead after (AtFinals b k c) (Ok (Refused refusal)) goes from past half = absurd goes
  finals_lead after (AtFinals b k c) (Err wanted) goes from past half = absurd (cc goes.0)
  finals_lead after AtEnd (Ok More) goes from past half = absurd goes
  finals_lead after AtEnd (Ok Fresh) goes from past half = absurd goes
  finals_lead after AtEnd (Ok (Refused refusal)) goes from past half = ends from after past goes.1 half
  finals_lead after AtEnd (Err wanted) goes from past half = ends from after past goes.2 half
