-- Each call leaves fewer.
use Rattle.std.proofs.Common.{◌≡◌, inl, inr, ℕ, ◌+◌, ◌<◌, ◌≤◌, List, Option, Result, Ok, Err, sym, subst, arith}
use Rattle.std.specs.Option.{option_map}
use Rattle.nim_base.specs.declared.no_memory.NoMemory.{NoMemory as MemoryWanted}
use Rattle.chain_block.specs.declared.entry.Entry.{Entry}
use Rattle.port.specs.declared.store_answers.Put.{Put}
use Rattle.port.specs.declared.store_answers.Put.TheVariants as puts
use Rattle.port.specs.declared.store_answers.Got.{Got}
use Rattle.port.specs.Cause.{NoMemory, cause_of}
use Rattle.port.specs.Row.{Content}
use Rattle.view_ledger.specs.Views.{ViewChain}
use Rattle.view_ledger.specs.Receipts.{Accepts}
use Rattle.op_parts.specs.declared.refresh_turn.RefreshProgress.{RefreshProgress}
use Rattle.op_parts.specs.declared.refresh_turn.RefreshProgress.TheVariants as refreshed
use Rattle.op_parts.specs.RefreshState.{RefreshState, calls_left as refresh_calls}
use Rattle.settle.specs.declared.progress.SettleProgress.{SettleProgress}
use Rattle.settle.specs.declared.progress.SettleProgress.TheVariants as settled
use Rattle.settle.specs.State.{State as Settle, calls_left as settle_calls}
use Rattle.op_entry.specs.declared.found.Found.{Found}
use Rattle.op_entry.specs.declared.finding.Finding.{Finding}
use Rattle.op_entry.specs.declared.finding.Finding.TheVariants as findings
use Rattle.op_entry.specs.Ask.{Ask, NewLedger, AppendEntry, ReadAt}
use Rattle.op_entry.specs.State.{Stage, Refreshing, GettingBelow, Putting, GettingTaken, GettingAt, Settling, Ended, calls_at, members_in, most_to_settle}
use Rattle.op_entry.specs.Standing.{answer_with}
use Rattle.op_entry.specs.Turns.{Starts, TakesProgress, TakesBelow, TakesPut, TakesFound, TakesFinding, TakesGot, TakesSettled}

-- the calls at a stage that is known
at : (chain : ViewChain) (stage known : Stage) (bound : ℕ) → stage ≡ known → calls_at chain known < bound → calls_at chain stage < bound
at chain stage known bound is less = subst (λ (s : Stage). calls_at chain s < bound) (sym is) less

start_falls : (chain : ViewChain) (ask : Ask) (stage : Stage) → Starts ask stage → calls_at chain stage ≤ most_to_settle + 3
start_falls chain (NewLedger entry) (Putting row) goes = omega arith
start_falls chain (AppendEntry entry) (GettingBelow own) goes = omega arith
start_falls chain (ReadAt handle height) (GettingAt ledger place) goes = omega arith
start_falls chain ask (Ended answer) goes = omega arith
start_falls chain ask stage goes = absurd goes

pub refresh_falls : (chain after : ViewChain) (ask : Ask) (refresh new : RefreshState) (progress : Result RefreshProgress MemoryWanted) (stage : Stage)
    → refresh_calls new after < refresh_calls refresh chain → TakesProgress ask new progress stage → calls_at after stage < calls_at chain (Refreshing ask refresh)
refresh_falls chain after ask refresh new (Ok refreshed.More) stage less takes = at after stage (Refreshing ask new) (calls_at chain (Refreshing ask refresh)) takes (omega (arith, less))
refresh_falls chain after ask refresh new (Ok refreshed.Fresh) stage less takes = let s = start_falls after ask stage takes in omega (arith, less, s)
refresh_falls chain after ask refresh new (Ok (refreshed.Refused refusal)) stage less takes = at after stage (Ended (Err (cause_of refusal))) (calls_at chain (Refreshing ask refresh)) takes (omega (arith, less))
refresh_falls chain after ask refresh new (Err lack) stage less takes = at after stage (Ended (Err NoMemory)) (calls_at chain (Refreshing ask refresh)) takes (omega (arith, less))

pub below_falls : (chain : ViewChain) (entry : Entry) (got : Got) (stage : Stage) → TakesBelow entry got stage → calls_at chain stage < calls_at chain (GettingBelow entry)
below_falls chain entry got (Putting row) takes = omega arith
below_falls chain entry got (Ended (Err cause)) takes = omega arith
below_falls chain entry got stage takes = absurd takes

pub put_falls : (chain : ViewChain) (row : Content) (put : Put) (stage : Stage) → TakesPut chain.configs row put stage → calls_at chain stage < calls_at chain (Putting row)
put_falls chain row puts.Taken (GettingTaken own) takes = omega arith
put_falls chain row puts.Done (Settling found settle) takes = let less = takes.2.calls in omega (arith, less)
put_falls chain row put (Ended (Err cause)) takes = omega arith
put_falls chain row put stage takes = absurd takes

found_falls : (accepts : Accepts) (chain : ViewChain) (found : Found) (attached : Option (List ℕ)) (stage : Stage) → TakesFound accepts chain.configs found attached stage
    → calls_at chain stage < most_to_settle + 1
found_falls accepts chain found attached (Ended answer) takes = omega arith
found_falls accepts chain found attached (Settling same settle) takes = let less = takes.2.calls in omega (arith, less)
found_falls accepts chain found attached stage takes = absurd takes

finding_falls : (accepts : Accepts) (chain : ViewChain) (finding : Finding) (stage : Stage) → TakesFinding accepts chain.configs finding stage → calls_at chain stage < most_to_settle + 1
finding_falls accepts chain (findings.Row found attached) stage takes = found_falls accepts chain found (option_map (λ text. text.bytes) attached) stage takes
finding_falls accepts chain (findings.Refused refusal) stage takes = at chain stage (Ended (Err (cause_of refusal))) (most_to_settle + 1) takes (omega arith)

pub got_falls : (accepts : Accepts) (chain : ViewChain) (IsFinding : Finding → Type 0) (stage : Stage) → TakesGot accepts chain.configs IsFinding stage → calls_at chain stage < most_to_settle + 1
got_falls accepts chain IsFinding stage (inl takes) = finding_falls accepts chain takes.0 stage takes.2
got_falls accepts chain IsFinding stage (inr is) = at chain stage (Ended (Err NoMemory)) (most_to_settle + 1) is (omega arith)

pub settle_falls : (chain : ViewChain) (found : Found) (settle new : Settle) (progress : Result SettleProgress MemoryWanted) (stage : Stage)
    → settle_calls (members_in chain.configs) new < settle_calls (members_in chain.configs) settle → TakesSettled found new progress stage
    → calls_at chain stage < settle_calls (members_in chain.configs) settle
settle_falls chain found settle new (Ok settled.More) stage less takes = at chain stage (Settling found new) (settle_calls (members_in chain.configs) settle) takes less
settle_falls chain found settle new (Ok (settled.Stands blocks receipt)) stage less takes =
    at chain stage (Ended (answer_with found blocks.items receipt)) (settle_calls (members_in chain.configs) settle) takes (omega (arith, less))
settle_falls chain found settle new (Ok (settled.Refused refusal)) stage less takes = at chain stage (Ended (Err (cause_of refusal))) (settle_calls (members_in chain.configs) settle) takes (omega (arith, less))
settle_falls chain found settle new (Err lack) stage less takes = at chain stage (Ended (Err NoMemory)) (settle_calls (members_in chain.configs) settle) takes (omega (arith, less))
