-- Where an endorser may want memory: where it signs, begins, ends its view again, or hands out a copy of how it ended.
use Rattle.std.specs.Prelude.{ℕ, ◌<◌}
use Rattle.port.specs.Answer.{Answer, Done, Signed, Finaled, Shown, Refused, Denial, Behind, Stands, OtherTail, NotGenesis, Full, Tall, NotMember, BadView, BadProof, WrongPhase, HasEnded, OtherNext, Spent, LogFull}
use Rattle.port.specs.Table.{Cell, Answers, Signs}
use Rattle.endorser_core.specs.declared.membership.Stage.{Stage}
use Rattle.endorser_core.specs.declared.membership.Stage.TheVariants as stages

-- a refusal that carries a signature
abbrev pub IsCopied : Denial → Type 0
IsCopied (Behind count) = ⊥
IsCopied (Stands count tail) = ⊥
IsCopied (OtherTail tail) = ⊥
IsCopied NotGenesis = ⊥
IsCopied Full = ⊥
IsCopied Tall = ⊥
IsCopied NotMember = ⊥
IsCopied BadView = ⊥
IsCopied (BadProof cause) = ⊥
IsCopied (WrongPhase phase) = ⊥
IsCopied (HasEnded statement sig) = Unit {0}
IsCopied (OtherNext next) = ⊥
IsCopied Spent = ⊥
IsCopied LogFull = ⊥

-- want of memory may come at this cell, with so many signatures left
abbrev pub MayLack : ℕ → Cell → Type 0
MayLack left (Answers state Done) = Unit {0}
MayLack left (Answers state (Signed statement sig)) = ⊥
MayLack left (Answers state (Finaled statement sig map)) = Unit {0}
MayLack left (Answers state (Shown phase number tail count)) = ⊥
MayLack left (Answers state (Refused denial)) = IsCopied denial
MayLack left (Signs statement state answer) = 0 < left

-- the view has ended
abbrev pub HasEndedAt : Stage → Type 0
HasEndedAt stages.Initialized = ⊥
HasEndedAt stages.Active = ⊥
HasEndedAt (stages.Finalized ending) = Unit {0}
