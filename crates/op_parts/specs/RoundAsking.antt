-- What a round asks, and of whom.
use Rattle.std.specs.Prelude.{ℕ, List}
use Rattle.chain_block.specs.declared.meta_block.MetaBlock.{MetaBlock}
use Rattle.chain_block.specs.Tail.{tail_after}
use Rattle.statement.specs.declared.member.Member.{Member}
use Rattle.port.specs.Heard.{Heard}
use Rattle.port.specs.Trace.{Event, AtLink}
use Rattle.catch_up.specs.State.{Target}
use Rattle.catch_up.specs.OwnCalls.{append_of}
use Rattle.op_parts.specs.declared.round_verdict.Claim.{Claim}

-- the members of a view with this tail are to append to the ledger the row with this metablock
pub record Asking : Type 0 where
  pub handle : List ℕ
  pub block : MetaBlock
  pub view : List ℕ
  pub members : List Member

-- what a member is to sign
abbrev pub claim_of : List ℕ → List ℕ → MetaBlock → Claim
claim_of view handle block = record { view = view; handle = handle; tail = tail_after block.prev block.entry block.height; height = block.height }

abbrev pub claim : Asking → Claim
claim ask = claim_of ask.view ask.handle ask.block

-- the append of the row, sent to this member, and what was heard of it
abbrev pub append_to : Asking → ℕ → Heard → Event
append_to ask id heard = AtLink id (append_of ask.handle ask.block) heard

-- a catch-up brings this member to the row's height
abbrev pub target_of : Asking → ℕ → Target
target_of ask id = record { member = id; handle = ask.handle; count = ask.block.height }
