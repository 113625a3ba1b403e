-- What a client makes of a reply that clients with other views accept.
use Rattle.std.specs.Prelude.{if◌then◌else◌, List, Option, Some, None}
use Rattle.statement.specs.declared.member.Member.{Member}
use Rattle.statement.specs.Receipt.{Receipt}
use Rattle.statement.specs.Statement.{view_of}
use Rattle.verifier.specs.declared.reply_fault.ReplyFault.{ReplyFault}
use Rattle.verifier.specs.declared.reply_fault.ReplyFault.TheVariants.{UnknownView}
use Rattle.verifier.specs.Outcomes.{is_known}

-- none of these views is that of the receipt's statement: this fault, and else none
abbrev pub unknown_view : List (List Member) → Receipt → Option ReplyFault
unknown_view configs receipt = if is_known configs (view_of receipt.statement) then None else Some UnknownView
