-- The words for what is refused, and for phases: their names in small letters.
use Rattle.std.specs.Prelude.{List, ℕ, codes}
use Rattle.port.specs.declared.phase.Phase.{Phase}
use Rattle.port.specs.declared.phase.Phase.TheVariants as phases
use Rattle.port.specs.Answer.{Denial, Behind, Stands, OtherTail, NotGenesis, Full, Tall, NotMember, BadView, BadProof, WrongPhase, HasEnded, OtherNext, Spent, LogFull}
use Rattle.port.specs.Cause.{MemberCause, WasLost, Denied, OtherTail as OtherHead}
use Rattle.verifier.specs.declared.reply_fault.ReplyFault.{ReplyFault}
use Rattle.verifier.specs.declared.reply_fault.ReplyFault.TheVariants as faults

abbrev pub phase_word : Phase → List ℕ
phase_word phases.Uninitialized = codes "uninitialized"
phase_word phases.Initialized = codes "initialized"
phase_word phases.Active = codes "active"
phase_word phases.Finalized = codes "finalized"

abbrev pub denial_word : Denial → List ℕ
denial_word (Behind count) = codes "behind"
denial_word (Stands count tail) = codes "stands"
denial_word (OtherTail tail) = codes "othertail"
denial_word NotGenesis = codes "notgenesis"
denial_word Full = codes "full"
denial_word Tall = codes "tall"
denial_word NotMember = codes "notmember"
denial_word BadView = codes "badview"
denial_word (BadProof cause) = codes "badproof"
denial_word (WrongPhase phase) = codes "wrongphase"
denial_word (HasEnded statement sig) = codes "finalized"
denial_word (OtherNext next) = codes "othernext"
denial_word Spent = codes "spent"
denial_word LogFull = codes "logfull"

-- why a member doesn't count
abbrev pub reason_word : MemberCause → List ℕ
reason_word WasLost = codes "lost"
reason_word (Denied denial) = denial_word denial
reason_word (OtherHead count tail) = codes "other"

-- why a client refused a reply
abbrev pub fault_word : ReplyFault → List ℕ
fault_word faults.WrongKind = codes "wrongkind"
fault_word faults.UnknownView = codes "unknownview"
fault_word faults.WrongHandle = codes "wronghandle"
fault_word faults.WrongHeight = codes "wrongheight"
fault_word faults.WrongNonce = codes "wrongnonce"
fault_word faults.WrongEntry = codes "wrongentry"
fault_word faults.WrongTail = codes "wrongtail"
fault_word (faults.BadReceipt cause) = codes "badreceipt"
