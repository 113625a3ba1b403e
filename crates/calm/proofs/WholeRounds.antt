-- A round in which all members were asked.
use Rattle.std.proofs.Common.{◌≡◌, inl, inr, ℕ, ◌+◌, ◌<◌, ◌≤◌, ltb, List, [], ◌∷◌, ◌++◌, length, map, refl, sym, subst, ap, ◌∙◌, arith}
use Rattle.std.specs.Prelude.{sum_by}
use Rattle.std.proofs.lemmas.Bool.{cases_Bool, ltb-true, ltb-false}
use Rattle.std.proofs.lemmas.List.Sums.{sum_by-cons}
use Rattle.std.proofs.lemmas.Option.{slice_get_past, slice_get_within}
use Rattle.tail_map.specs.declared.tail_row.TailRow.{TailRow}
use Rattle.statement.specs.declared.member.Member.{Member}
use Rattle.statement.specs.declared.view_block.ViewBlock.{ViewBlock}
use Rattle.statement.specs.Config.{quorum, member_weight, weight_together}
use Rattle.statement.specs.Mark.{id_of}
use Rattle.port.specs.Link.{Bank}
use Rattle.port.specs.Trace.{Event}
use Rattle.view_ledger.specs.Receipts.{Accepts}
use Rattle.op_parts.specs.declared.round_stage.Stage.{Stage}
use Rattle.op_parts.specs.declared.round_stage.Stage.TheVariants.{First, CatchUp, Again, Ended}
use Rattle.op_parts.specs.RoundAsking.{Asking}
use Rattle.op_parts.specs.RoundState.{State}
use Rattle.op_parts.specs.RoundSound.{IsMember, AreAsked, AtStage, Sound}
use Rattle.calm.specs.Members.{AreAble, WereAsked}

no_member : (ask : Asking) (n : ℕ) (member : Member) → n ≡ length ask.members → IsMember ask n member → ⊥
no_member ask n member all is =
    let none = slice_get_past ask.members n (omega (arith, all)) in
    absurd (cc)

-- then no call is left over
no_calls : (ask : Asking) (n : ℕ) (stage : Stage) (calls : List Event) → n ≡ length ask.members → AtStage ask n stage calls → calls ≡ []
no_calls ask n First calls all at = at
no_calls ask n (CatchUp catch_up) calls all at = absurd (no_member ask n at.0 all at.3)
no_calls ask n Again calls all at = absurd (no_member ask n at.0 all at.3)
no_calls ask n Ended calls all (inl none) = none
no_calls ask n Ended calls all (inr at) = absurd (no_member ask n at.0 all at.1)

pub whole : (accepts : Accepts) (ask : Asking) (state : State) (past : List Event) → Sound accepts ask state past → state.asked ≡ length ask.members
    → AreAsked accepts ask state.asked state.marks state.reasons past
whole accepts ask state past sound all =
    let none = no_calls ask state.asked state.stage sound.calls all sound.at in
    let is : past ≡ sound.before = sound.split ∙ ap (λ (c : List Event). c ++ sound.before) none in
    subst (AreAsked accepts ask state.asked state.marks state.reasons) (sym is) sound.asked

-- all members are so
pub all_able : (bank after : Bank) (view : ViewBlock) (config : List Member) (rows : List TailRow) (left asked : ℕ) → asked ≡ length config → WereAsked bank view config rows left asked after → AreAble after view config rows left
all_able bank after view config rows left asked all were = record {
  each = λ place member is. let below = slice_get_within config place member is in were.each place member (omega (arith, below, all)) is;
}

-- all members are a quorum
all_weigh : (members : List Member) → sum_by member_weight members ≡ length members
all_weigh [] = refl
all_weigh (member ∷ members) = omega (arith, sum_by-cons member_weight member members, all_weigh members)

pub enough_members : (members : List Member) → 1 ≤ length members → quorum members ≤ length members
enough_members members some = let weight = all_weigh members in omega (arith, some, weight)

-- what the law of a round's marks says of too few
abbrev pub FewLaw : Type 0
FewLaw = (accepts : Accepts) (ask : Asking) (state : State) (past : List Event) → Sound accepts ask state past
    → state.asked ≡ length ask.members → weight_together ask.members (map id_of state.marks) < quorum ask.members
    → length ask.members < length state.reasons + quorum ask.members

pub no_reason_quorum : FewLaw → (accepts : Accepts) (ask : Asking) (state : State) (past : List Event) → Sound accepts ask state past → state.asked ≡ length ask.members → 1 ≤ length ask.members
    → state.reasons ≡ [] → quorum ask.members ≤ weight_together ask.members (map id_of state.marks)
no_reason_quorum law accepts ask state past sound all some none =
    elim (cases_Bool (ltb (weight_together ask.members (map id_of state.marks)) (quorum ask.members))) [
      | inl less ↦
          let few = law accepts ask state past sound all (ltb-true (weight_together ask.members (map id_of state.marks)) (quorum ask.members) less) in
          let reasons = ap length none in
          let enough = enough_members ask.members some in
          absurd (omega (arith, few, reasons, enough))
      | inr many ↦ ltb-false (weight_together ask.members (map id_of state.marks)) (quorum ask.members) many
    ]
