-- What the calls answer beside the lines that they add.
use Rattle.std.specs.Prelude.{Option, Some, None, Result, Ok, Err}
use Rattle.verifier.specs.declared.reply_fault.ReplyFault.{ReplyFault}
use Rattle.view_ledger.specs.declared.view_fault.ViewFault.{ViewFault}
use Rattle.client_pass.specs.declared.take_fault.TakeFault.{TakeFault}
use Rattle.client_pass.specs.declared.take_fault.TakeFault.TheVariants.{Reply, View, Again, NoMemory}

-- the answer to a reply whose check had this fault, or none
abbrev pub answer_by : Option ReplyFault → Result (Unit {0}) TakeFault
answer_by None = Ok tt
answer_by (Some fault) = Err (Reply fault)

abbrev pub view_answer_by : Option ViewFault → Result (Unit {0}) TakeFault
view_answer_by None = Ok tt
view_answer_by (Some fault) = Err (View fault)

-- where a line was added, this holds of the fault that it has; the fault is a reply's
abbrev pub IfReplyNoted : {A : Type 0} → Result A TakeFault → (Option ReplyFault → Type 0) → Type 0
IfReplyNoted (Ok value) P = P None
IfReplyNoted (Err (Reply fault)) P = P (Some fault)
IfReplyNoted (Err (View fault)) P = ⊥
IfReplyNoted (Err Again) P = Unit {0}
IfReplyNoted (Err NoMemory) P = Unit {0}

-- the same where the fault is a view's
abbrev pub IfViewNoted : {A : Type 0} → Result A TakeFault → (Option ViewFault → Type 0) → Type 0
IfViewNoted (Ok value) P = P None
IfViewNoted (Err (Reply fault)) P = ⊥
IfViewNoted (Err (View fault)) P = P (Some fault)
IfViewNoted (Err Again) P = ⊥
IfViewNoted (Err NoMemory) P = Unit {0}

-- where no line was added, this holds
abbrev pub IfNotNoted : {A : Type 0} → Result A TakeFault → Type 0 → Type 0
IfNotNoted (Ok value) P = Unit {0}
IfNotNoted (Err (Reply fault)) P = Unit {0}
IfNotNoted (Err (View fault)) P = Unit {0}
IfNotNoted (Err Again) P = P
IfNotNoted (Err NoMemory) P = P
