-- The calls to one member, the newest first, and what they make of it.
use Rattle.std.specs.Prelude.{◌≡◌, ◌⊎◌, ℕ, ◌<◌, List, [], ◌∷◌, ◌++◌, Ok}
use Rattle.statement.specs.declared.member.Member.{Member}
use Rattle.port.specs.Answer.{Refused, Behind, Stands}
use Rattle.port.specs.Cause.{Denied, member_cause_of}
use Rattle.port.specs.Heard.{Heard, Answered}
use Rattle.port.specs.Trace.{Event}
use Rattle.catch_up.specs.declared.progress.Progress.{Progress}
use Rattle.catch_up.specs.declared.progress.Progress.TheVariants.{Reached, Ahead, Member as Reason}
use Rattle.catch_up.specs.Told.{told}
use Rattle.catch_up.specs.OwnCalls.{OwnCalls}
use Rattle.catch_up.specs.Says.{Says}
use Rattle.view_ledger.specs.Receipts.{Accepts}
use Rattle.op_parts.specs.RoundAsking.{Asking, claim, append_to, target_of}
use Rattle.op_parts.specs.RoundOutcome.{Outcome, Blamed, IsOutcome}

-- The member answered the row's append with this count, which is below the row's height, and these are the calls of its
-- catch-up from there.
pub record WasBehind (ask : Asking) (id from : ℕ) (later calls : List Event) : Type 0 where
  pub below : from < ask.block.height
  pub split : calls ≡ later ++ append_to ask id (Answered (Refused (Behind from))) ∷ []
  pub own : OwnCalls (target_of ask id) from later

-- by the newest of its calls the catch-up ended so
abbrev pub EndedSo : Asking → ℕ → ℕ → List Event → Progress → Type 0
EndedSo ask id from [] progress = ⊥
EndedSo ask id from (event ∷ past) progress = Says (target_of ask id) (told id from past) event (Ok progress)

-- the row's append; after an answer below its height a catch-up; and once this has reached the height, the append again
abbrev pub IsTurn : Asking → ℕ → List Event → Type 0
IsTurn ask id calls =
    ((heard : Heard) × (calls ≡ append_to ask id heard ∷ []))
    ⊎ (((from : ℕ) × (later : List Event) × WasBehind ask id from later calls)
    ⊎ ((from : ℕ) × (later caught : List Event) × (heard : Heard) × (calls ≡ append_to ask id heard ∷ caught)
    × WasBehind ask id from later caught × EndedSo ask id from later Reached))

-- how a catch-up ends that makes this of the member
abbrev pub IsBlame : Progress → Outcome → Type 0
IsBlame (Ahead count tail) outcome = outcome ≡ Blamed (Denied (Stands count tail))
IsBlame (Reason reason) outcome = outcome ≡ Blamed (member_cause_of reason)
IsBlame progress outcome = ⊥

-- the member isn't to be caught up
abbrev pub IsSettled : Outcome → Type 0
IsSettled (Blamed (Denied (Behind count))) = ⊥
IsSettled outcome = Unit {0}

-- by these calls, and no other to it, the member has this outcome
abbrev pub Ends : Accepts → Asking → Member → List Event → Outcome → Type 0
Ends accepts ask member calls outcome =
    ((heard : Heard) × (calls ≡ append_to ask member.id heard ∷ []) × IsOutcome accepts (claim ask) member.key heard outcome × IsSettled outcome)
    ⊎ (((from : ℕ) × (later : List Event) × (progress : Progress) × WasBehind ask member.id from later calls
    × EndedSo ask member.id from later progress × IsBlame progress outcome)
    ⊎ ((from : ℕ) × (later caught : List Event) × (heard : Heard) × (calls ≡ append_to ask member.id heard ∷ caught)
    × WasBehind ask member.id from later caught × EndedSo ask member.id from later Reached
    × IsOutcome accepts (claim ask) member.key heard outcome))
