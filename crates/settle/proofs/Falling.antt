-- Fewer calls are left after a step.
use Rattle.std.proofs.Common.{◌≡◌, inl, inr, ℕ, ◌+◌, ◌*◌, ◌^◌, ◌-◌, ◌≤◌, ◌<◌, List, [], ◌∷◌, length, slice_get, Some, sym, subst, arith}
use Rattle.std.specs.Prelude.{Result, Ok, Err}
use Rattle.std.proofs.Math.Nat.{mul-le-mul_left}
use Rattle.chain_block.specs.declared.meta_block.MetaBlock.{MetaBlock}
use Rattle.nim_base.specs.declared.no_memory.NoMemory.{NoMemory}
use Rattle.statement.specs.declared.member.Member.{Member}
use Rattle.port.specs.Cause.{MemberCause}
use Rattle.op_parts.specs.declared.round_progress.RoundProgress.{RoundProgress}
use Rattle.op_parts.specs.declared.round_progress.RoundProgress.TheVariants as rounds
use Rattle.op_parts.specs.declared.walk.WalkProgress.{WalkProgress}
use Rattle.op_parts.specs.declared.walk.WalkProgress.TheVariants as walks
use Rattle.op_parts.specs.RoundState.{State as Round, calls_each, calls_left as round_calls}
use Rattle.op_parts.specs.Walk.{Walk, Place, steps_left}
use Rattle.settle.specs.declared.progress.SettleProgress.{SettleProgress}
use Rattle.settle.specs.State.{Stage, AtRound, AtWalk, AtEnd, calls_above, calls_from, calls_left_at}
use Rattle.settle.specs.Turn.{IsNewRound, TakesMarks, TakesReasons, TakesRound, TakesTop, TakesWalk}

-- fewer calls in a round
fewer : (members : ℕ) (blocks : List MetaBlock) (one other : ℕ) → one < other → calls_from members blocks one < calls_from members blocks other
fewer members [] one other less = omega (arith, less)
fewer members (block ∷ blocks) one other less = omega (arith, less)

some_calls : (members : ℕ) (blocks : List MetaBlock) (one other : ℕ) → one < other → 1 < calls_from members blocks other
some_calls members [] one other less = omega (arith, less)
some_calls members (block ∷ blocks) one other less = omega (arith, less)

stage_below : (members bound : ℕ) (next stage : Stage) → stage ≡ next → calls_left_at members next < bound → calls_left_at members stage < bound
stage_below members bound next stage is less = subst (λ (s : Stage). calls_left_at members s < bound) (sym is) less

module _ (members : ℕ) (configs : List (List Member)) (handle : List ℕ) where
  module _ (round after : Round) (place : Place) (falls : round_calls members after < round_calls members round) where
    abbrev bound : ℕ
    bound = calls_from members place.blocks (round_calls members round)

    some : 1 < bound
    some = some_calls members place.blocks (round_calls members after) (round_calls members round) falls

    by_marks : (stage : Stage) (answer : Result SettleProgress NoMemory) → TakesMarks configs handle after.marks place stage answer → calls_left_at members stage < bound
    by_marks stage answer (inl on) = stage_below members bound _ stage on.0 some
    by_marks stage answer (inr lacks) = stage_below members bound AtEnd stage lacks.0 (omega (arith, some))

    begun : (blocks : List MetaBlock) → blocks ≡ [] → 65537 + calls_above members < calls_from members blocks (round_calls members round)
    begun [] none = omega arith
    begun (block ∷ blocks) none = absurd (cc none)

    by_reasons : (stage : Stage) (answer : Result SettleProgress NoMemory) → TakesReasons configs handle after.reasons place stage answer → calls_left_at members stage < bound
    by_reasons stage answer (inl on) = stage_below members bound _ stage on.2.0 (begun place.blocks on.0)
    by_reasons stage answer (inr refused) = stage_below members bound AtEnd stage refused.1.1.0 (omega (arith, some))

    pub round_falls : (progress : Result RoundProgress NoMemory) (stage : Stage) (answer : Result SettleProgress NoMemory)
        → TakesRound configs handle after place progress stage answer → calls_left_at members stage < bound
    round_falls (Ok rounds.More) stage answer takes = stage_below members bound (AtRound after place) stage takes.0 (fewer members place.blocks _ _ falls)
    round_falls (Ok rounds.Asked) stage answer (inl enough) = by_marks stage answer enough.1
    round_falls (Ok rounds.Asked) stage answer (inr few) = by_reasons stage answer few.1
    round_falls (Ok (rounds.Row refusal)) stage answer takes = stage_below members bound AtEnd stage takes.0 (omega (arith, some))
    round_falls (Err wanted) stage answer takes = stage_below members bound (AtRound after place) stage takes.0 (fewer members place.blocks _ _ falls)

  -- the calls of a round over a row, whatever its height
  calls_fit : (height limit : ℕ) → height < limit → members * calls_each height ≤ members * calls_each limit
  calls_fit height limit less = mul-le-mul_left members (omega (arith, less))

  begun_above : (block : MetaBlock) (round : Round) (blocks : List MetaBlock) → 0 < members → IsNewRound handle block round → slice_get blocks (length blocks - 1) ≡ Some block
      → calls_from members blocks (round_calls members round) ≤ calls_above members
  begun_above block round [] some new is = absurd (cc is)
  begun_above block round (first ∷ blocks) some new is = omega (arith, new.calls members some, calls_fit block.height (2 ^ 64) new.fits)

  module _ (walk after : Walk) (causes : List (ℕ × MemberCause)) (some : 0 < members) (falls : steps_left after < steps_left walk) where
    abbrev walk_bound : ℕ
    walk_bound = steps_left walk + calls_above members

    left : 0 < walk_bound
    left = omega (arith, falls)

    by_top : (stage : Stage) (answer : Result SettleProgress NoMemory) → TakesTop configs handle after.place causes stage answer → calls_left_at members stage < walk_bound
    by_top stage answer (inl refused) = stage_below members walk_bound AtEnd stage refused.1.1.0 left
    by_top stage answer (inr begins) =
        stage_below members walk_bound (AtRound begins.1 after.place) stage begins.4.0
        (let few = begun_above begins.0 begins.1 after.place.blocks some begins.3 begins.2 in omega (arith, few, falls))

    pub walk_falls : (progress : Result WalkProgress NoMemory) (stage : Stage) (answer : Result SettleProgress NoMemory)
        → TakesWalk configs handle after causes progress stage answer → calls_left_at members stage < walk_bound
    walk_falls (Ok walks.More) stage answer takes = stage_below members walk_bound (AtWalk after causes) stage takes.0 (omega (arith, falls))
    walk_falls (Ok (walks.Stands receipt)) stage answer takes = stage_below members walk_bound AtEnd stage takes.1 left
    walk_falls (Ok walks.Top) stage answer takes = by_top stage answer takes
    walk_falls (Ok (walks.Refused refusal)) stage answer takes = stage_below members walk_bound AtEnd stage takes.0 left
    walk_falls (Err wanted) stage answer takes = stage_below members walk_bound AtEnd stage takes.0 left
