-- The setting up of view 0 blames no more members as lost than calls to them were lost.
use Rattle.std.proofs.Common.{◌≡◌, ◌≤◌, ◌+◌, inl, inr, ℕ, zero, suc, List, [], ◌∷◌, ◌++◌, Option, Some, None, Err, refl, ap, arith}
use Rattle.port.specs.Answer.{Answer, Behind, Done, Refused}
use Rattle.port.specs.Cause.{Cause, MemberCause, NoQuorum, WasLost}
use Rattle.port.specs.Heard.{Answered, Heard, Lost, NoMemory}
use Rattle.port.specs.Link.{losses}
use Rattle.port.specs.Trace.{Event}
use Rattle.view_ledger.specs.Receipts.{Accepts}
use Rattle.view_ledger.specs.Views.{ViewChain}
use Rattle.op_reconf.specs.First.{first_asking}
use Rattle.op_reconf.specs.SettingUp.{Asking, Gives, reason_in}
use Rattle.op_reconf.specs.SetUpSound.{AreAsked, WasAsked}
use Rattle.op_reconf.specs.Sound.{EndedWith}
use Rattle.coordinator.specs.First.{FirstServed}
use Rattle.script_runs.specs.AskedFor.{is_loss, losses_in, losses_told}
use Rattle.script_runs.proofs.RoundLosses.{losses_append, lost}

abbrev loss_in : ℕ → ℕ → Option MemberCause → ℕ
loss_in id other None = 0
loss_in id other (Some cause) = is_loss id other cause

answer_lost : (id other : ℕ) (answer : Answer) → loss_in id other (reason_in answer) ≡ 0
answer_lost id other Done = refl
answer_lost id other (Refused (Behind count)) = refl
answer_lost id other (Refused denial) = refl
answer_lost id other answer = refl

heard_lost : (id other : ℕ) (heard : Heard) (cause : MemberCause) → Gives heard (Some cause) → is_loss id other cause ≤ losses other heard id
heard_lost id other (Answered answer) cause is =
    let none = answer_lost id other answer in
    let e : is_loss id other cause ≡ loss_in id other (reason_in answer) = ap (loss_in id other) is in
    omega (arith, none, e)
heard_lost id other Lost cause is = let e : is_loss id other cause ≡ is_loss id other WasLost = ap (loss_in id other) is in omega (arith, e)
heard_lost id other NoMemory cause is = absurd is

module _ (ask : Asking) (base : List Event) (id : ℕ) where
  turn_lost : (other : ℕ) (heard : Heard) (before past : List Event) → WasAsked ask other heard before past → losses other heard id + lost id before ≤ lost id past
  turn_lost other heard before past (inl is) = let e : lost id past ≡ losses other heard id + lost id before = ap (lost id) is in omega (arith, e)
  turn_lost other heard before past (inr is) = let e : lost id past ≡ losses other heard id + (0 + lost id before) = ap (lost id) is in omega (arith, e)

  asked_lost : (n : ℕ) (done : List ℕ) (reasons : List (ℕ × MemberCause)) (past : List Event) → AreAsked ask base n done reasons past → losses_in id reasons ≤ lost id past
  asked_lost zero done reasons past (d, r, p) = let e : losses_in id reasons ≡ 0 = ap (losses_in id) r in omega (arith, e)
  asked_lost (suc n) done reasons past (member, before, at, inl (others, d, is, asked)) =
      let older = asked_lost n others reasons before asked in
      let e : lost id past ≡ 0 + (0 + lost id before) = ap (lost id) is in
      omega (arith, older, e)
  asked_lost (suc n) done reasons past (member, before, at, inr (cause, others, r, (heard, gives, was), asked)) =
      let older = asked_lost n done others before asked in
      let less = heard_lost id member.id heard cause gives in
      let turn = turn_lost member.id heard before past was in
      let more = losses_append id others ((member.id, cause) ∷ []) in
      let same : losses_in id reasons ≡ losses_in id (others ++ (member.id, cause) ∷ []) = ap (losses_in id) r in
      omega (arith, older, less, turn, more, same)

pub first_lost : (id : ℕ) (accepts : Accepts) (from chain : ViewChain) (past : List Event) (cause : Cause) → FirstServed accepts from chain past (Err cause) → losses_told id cause ≤ lost id past
first_lost id accepts from chain past (NoQuorum need reasons) did = by did.came.at
  where
    by : EndedWith from past (Err (NoQuorum need reasons)) → losses_in id reasons ≤ lost id past
    by (is, (done, (put, placed, asked), few)) = asked_lost (first_asking from) _ id _ done reasons past asked
first_lost id accepts from chain past cause did = omega arith
