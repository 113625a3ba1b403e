-- What both askings show together.
use Rattle.std.proofs.Common.{◌≡◌, inl, inr, ℕ, List, ◌++◌, length, map, take, refl, sym, ◌∙◌, subst, ap}
use Rattle.std.proofs.lemmas.List.{append_assoc, length-map}
use Rattle.std.proofs.Math.Seq.{take-length}
use Rattle.statement.specs.Config.{ids, id_of as member_id}
use Rattle.port.specs.Trace.{Event}
use Rattle.view_ledger.specs.Receipts.{Accepts}
use Rattle.op_latest.specs.declared.latest_head.LatestHead.{LatestHead}
use Rattle.op_latest.specs.LatestAsked.{Asking, AreAsked, AreBoth, AreDone}
use Rattle.op_latest.specs.LatestSays.{IsTargetCount}
use Rattle.op_latest.specs.LatestVote.{MemberVote, id_of}
use Rattle.op_latest.proofs.LatestShown.{AheadLaw, MemberLaw, VotesShown, asked_shown, asked_length, asked_ids, again_shown, again_ids}

module _ (accepts : Accepts) (ask : Asking) where
  -- all were asked
  pub whole_ids : (votes : List MemberVote) (calls : List Event) → AreAsked accepts ask votes calls → length votes ≡ length ask.members → map id_of votes ≡ ids ask.members
  whole_ids votes calls asked all =
      asked_ids accepts ask votes calls asked
      ∙ ap (λ (n : ℕ). take n (ids ask.members)) (sym (asked_length accepts ask votes calls asked) ∙ all ∙ sym (length-map ask.members member_id)) ∙ take-length (ids ask.members)

  pub both_shown : AheadLaw → MemberLaw → (head : LatestHead) (n : ℕ) (votes : List MemberVote) (calls : List Event) → AreBoth accepts ask head n votes calls
      → VotesShown accepts ask calls votes
  both_shown by_ahead by_member head n votes calls both =
      subst (λ (c : List Event). VotesShown accepts ask c votes) (sym both.split)
      (again_shown accepts ask by_ahead by_member head both.firsts both.earlier (asked_shown accepts ask both.firsts both.earlier both.first.asked) n votes both.later both.again)

  pub both_ids : (head : LatestHead) (n : ℕ) (votes : List MemberVote) (calls : List Event) → AreBoth accepts ask head n votes calls → map id_of votes ≡ ids ask.members
  both_ids head n votes calls both =
      again_ids accepts ask head both.firsts (whole_ids both.firsts both.earlier both.first.asked both.first.all) n votes both.later both.again

  pub done_shown : AheadLaw → MemberLaw → (head : LatestHead) (votes : List MemberVote) (calls : List Event) → AreDone accepts ask head votes calls → VotesShown accepts ask calls votes
  done_shown by_ahead by_member head votes calls (inl done) = asked_shown accepts ask votes calls done.0
  done_shown by_ahead by_member head votes calls (inr both) = both_shown by_ahead by_member head (length ask.members) votes calls both

  pub done_ids : (head : LatestHead) (votes : List MemberVote) (calls : List Event) → AreDone accepts ask head votes calls → map id_of votes ≡ ids ask.members
  done_ids head votes calls (inl done) = whole_ids votes calls done.0 done.1
  done_ids head votes calls (inr both) = both_ids head (length ask.members) votes calls both

  -- as many votes as members
  pub both_length : (head : LatestHead) (n : ℕ) (votes : List MemberVote) (calls : List Event) → AreBoth accepts ask head n votes calls → length votes ≡ length ask.members
  both_length head n votes calls both =
      sym (length-map votes id_of) ∙ ap length (both_ids head n votes calls both) ∙ length-map ask.members member_id

  -- the target's count
  pub both_target : (head : LatestHead) (n : ℕ) (votes : List MemberVote) (turn calls fresh past : List Event) → AreBoth accepts ask head n votes calls
      → past ≡ (turn ++ calls) ++ fresh → IsTargetCount accepts ask past head.count
  both_target head n votes turn calls fresh past both is = (
    head,
    both.firsts,
    turn ++ both.later,
    both.earlier,
    fresh,
    is ∙ ap (λ (c : List Event). (turn ++ c) ++ fresh) both.split ∙ ap (λ (c : List Event). c ++ fresh) (sym (append_assoc turn both.later both.earlier))
        ∙ append_assoc (turn ++ both.later) both.earlier fresh,
    both.first,
    refl,
  )
