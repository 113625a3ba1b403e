-- An entry that is made, appended or read blames no more members as lost than calls to them were lost.
use Rattle.std.proofs.Common.{◌≡◌, ◌≤◌, ◌+◌, inl, inr, ℕ, List, [], ◌∷◌, ◌++◌, Err, refl, ap, arith}
use Rattle.port.specs.Cause.{Cause, MemberCause, NoQuorum}
use Rattle.port.specs.Trace.{Event}
use Rattle.view_ledger.specs.Receipts.{Accepts}
use Rattle.view_ledger.specs.Views.{ViewChain}
use Rattle.op_parts.specs.RefreshState.{AtEnd, AtFinals, AtView}
use Rattle.settle.specs.Settling.{Settling, asking, top_block}
use Rattle.settle.specs.Says.{IsLast, IsRefused, IsRefusedInRound, IsRefusedInWalk}
use Rattle.op_parts.specs.Walk.{Place}
use Rattle.op_entry.specs.Ask.{AppendEntry, Ask, NewLedger, ReadAt}
use Rattle.op_entry.specs.Says.{Says}
use Rattle.op_entry.specs.Sound.{WasBelowRefused, WasRefreshRefused, WasRowRefused}
use Rattle.op_entry.specs.Standing.{settling_of}
use Rattle.script_runs.specs.AskedFor.{losses_in, losses_told}
use Rattle.script_runs.proofs.RoundLosses.{lost, lost_newer, round_lost}

module _ (id : ℕ) (accepts : Accepts) (need : ℕ) (reasons : List (ℕ × MemberCause)) where
  -- ---- a settling

  no_round : (settling : Settling) (past : List Event) → IsRefusedInRound accepts settling past (NoQuorum need reasons) → ⊥
  no_round settling [] none = none
  no_round settling (event ∷ past) (round, place, asked, member, below, none) = none

  no_walk : (settling : Settling) (past : List Event) → IsRefusedInWalk accepts settling past (NoQuorum need reasons) → ⊥
  no_walk settling [] none = none
  no_walk settling (event ∷ past) (causes, place, got, walked, is, none) = none

  -- the round ended with the newest call, or a get came after it
  last_lost : (settling : Settling) (place : Place) (causes : List (ℕ × MemberCause)) (asked past : List Event) → IsLast settling place causes asked past → lost id asked ≤ lost id past
  last_lost settling place causes asked past (inl (is, none)) = let e : lost id past ≡ lost id asked = ap (lost id) is in omega (arith, e)
  last_lost settling place causes asked past (inr (is, at, some)) = let e : lost id past ≡ 0 + lost id asked = ap (lost id) is in omega (arith, e)

  settle_lost : (settling : Settling) (past : List Event) → IsRefused accepts settling past (NoQuorum need reasons) → losses_in id reasons ≤ lost id past
  settle_lost settling past (inl refused) = absurd (no_round settling past refused)
  settle_lost settling past (inr (inl refused)) = absurd (no_walk settling past refused)
  settle_lost settling past (inr (inr (place, causes, failed, is, (same, enough, many, shown, none)))) =
      let round = failed.failed.round in
      let less = round_lost accepts (asking settling (top_block settling place)) id round failed.calls failed.failed.sound in
      let e : losses_in id round.reasons ≡ losses_in id causes = ap (losses_in id) failed.failed.reasons in
      let s : losses_in id reasons ≡ losses_in id causes = ap (losses_in id) same in
      let newer = lost_newer id (failed.calls ++ failed.before) failed.calls failed.before refl in
      let last = last_lost settling place causes (failed.calls ++ failed.before) past failed.last in
      omega (arith, less, e, s, newer, last)

  -- ---- an operation

  no_refresh : (from chain : ViewChain) (past : List Event) → WasRefreshRefused accepts from chain (NoQuorum need reasons) past → ⊥
  no_refresh from chain past (AtView, got, before, is, sound, none) = none
  no_refresh from chain past (AtFinals body block config, got, before, is, sound, none) = none
  no_refresh from chain past (AtEnd, got, before, is, sound, none) = none

  no_below : (ask : Ask) (from chain : ViewChain) (past : List Event) → WasBelowRefused accepts ask from chain (NoQuorum need reasons) past → ⊥
  no_below (AppendEntry entry) from chain past (got, before, is, refreshed, none) = none
  no_below (NewLedger entry) from chain past none = none
  no_below (ReadAt handle height) from chain past none = none

  no_row : (ask : Ask) (from chain : ViewChain) (past : List Event) → WasRowRefused accepts ask from chain (NoQuorum need reasons) past → ⊥
  no_row (ReadAt handle height) from chain past (got, before, is, refreshed, none) = none
  no_row (NewLedger entry) from chain past (own, got, before, is, was, none) = none
  no_row (AppendEntry entry) from chain past (own, got, before, is, was, none) = none

  refused_lost : (ask : Ask) (from chain : ViewChain) (past : List Event) → Says accepts ask from chain past (Err (NoQuorum need reasons)) → losses_in id reasons ≤ lost id past
  refused_lost ask from chain past (inl refused) = absurd (no_refresh from chain past refused)
  refused_lost ask from chain past (inr (inl refused)) = absurd (no_below ask from chain past refused)
  refused_lost ask from chain past (inr (inr (inl (row, put, was, none)))) = absurd none
  refused_lost ask from chain past (inr (inr (inr (inl refused)))) = absurd (no_row ask from chain past refused)
  refused_lost ask from chain past (inr (inr (inr (inr (found, settle, settling, refused))))) =
      let less = settle_lost (settling_of chain.configs found.row) settling.calls refused in
      let newer = lost_newer id past settling.calls settling.before settling.split in
      omega (arith, less, newer)

pub entry_lost : (id : ℕ) (accepts : Accepts) (ask : Ask) (from chain : ViewChain) (past : List Event) (cause : Cause) → Says accepts ask from chain past (Err cause) → losses_told id cause ≤ lost id past
entry_lost id accepts ask from chain past (NoQuorum need reasons) says = refused_lost id accepts need reasons ask from chain past says
entry_lost id accepts ask from chain past cause says = omega arith
