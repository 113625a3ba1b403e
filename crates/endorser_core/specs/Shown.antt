-- What is read off an endorser's state.
use Rattle.std.specs.Prelude.{ℕ, max, List, length, replicate, Option}
use Rattle.tail_map.specs.TailMap.{get}
use Rattle.port.specs.declared.phase.Phase.{Phase}
use Rattle.port.specs.declared.phase.Phase.TheVariants as phases
use Rattle.port.specs.Answer.{Answer, Done, Signed, Finaled, Shown, Refused, Denial, Behind, Stands, OtherTail, NotGenesis, Full, Tall, NotMember, BadView, BadProof, WrongPhase, HasEnded, OtherNext, Spent, LogFull}
use Rattle.port.specs.Table.{State, Uninitialized, Initialized, Active, Finalized}

abbrev pub phase_of : State → Phase
phase_of Uninitialized = phases.Uninitialized
phase_of (Initialized own) = phases.Initialized
phase_of (Active own) = phases.Active
phase_of (Finalized own ending) = phases.Finalized

-- the number of the own view, 0 where there is none
abbrev pub number_of : State → ℕ
number_of Uninitialized = 0
number_of (Initialized own) = own.block.number
number_of (Active own) = own.block.number
number_of (Finalized own ending) = own.block.number

-- the tail and count of a ledger, zeros and 0 where it has no row
abbrev pub row_of : State → List ℕ → List ℕ × ℕ
row_of Uninitialized handle = (replicate 32 0, 0)
row_of (Initialized own) handle = get own.map handle
row_of (Active own) handle = get own.map handle
row_of (Finalized own ending) handle = get own.map handle

-- the length of the signature with which the view was ended, 0 where it wasn't
abbrev pub kept_size : State → ℕ
kept_size Uninitialized = 0
kept_size (Initialized own) = 0
kept_size (Active own) = 0
kept_size (Finalized own ending) = length ending.sig

-- the length of the signature in an answer, 0 where there is none
abbrev pub sig_size : Answer → ℕ
sig_size Done = 0
sig_size (Signed statement sig) = length sig
sig_size (Finaled statement sig map) = length sig
sig_size (Shown phase number tail count) = 0
sig_size (Refused (HasEnded statement sig)) = length sig
sig_size (Refused (Behind count)) = 0
sig_size (Refused (Stands count tail)) = 0
sig_size (Refused (OtherTail tail)) = 0
sig_size (Refused NotGenesis) = 0
sig_size (Refused Full) = 0
sig_size (Refused Tall) = 0
sig_size (Refused NotMember) = 0
sig_size (Refused BadView) = 0
sig_size (Refused (BadProof cause)) = 0
sig_size (Refused (WrongPhase phase)) = 0
sig_size (Refused (OtherNext next)) = 0
sig_size (Refused Spent) = 0
sig_size (Refused LogFull) = 0
