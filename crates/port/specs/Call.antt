-- What an endorser is asked: what contracts see of it.
use Rattle.std.specs.Prelude.{ℕ, List, Option}
use Rattle.tail_map.specs.declared.tail_row.TailRow.{TailRow}
use Rattle.statement.specs.declared.member.Member.{Member}
use Rattle.statement.specs.declared.view_block.ViewBlock.{ViewBlock}
use Rattle.port.specs.declared.endorser_call.EndorserCall.{EndorserCall}
use Rattle.port.specs.declared.endorser_call.EndorserCall.TheVariants as calls
use Rattle.port.specs.View.{ActivationProof}

-- a view block, the members of its config, and the rows of a map; a view's tail; a handle, a tail, a digest of an
-- entry and a height; a handle and a nonce; a digest of a config and a number; a handle
pub data Call : Type 0 where
  Initialize : ViewBlock → List Member → List TailRow → Call
  Activate : List ℕ → Option ActivationProof → Call
  Append : List ℕ → List ℕ → List ℕ → ℕ → Call
  Latest : List ℕ → List ℕ → Call
  Finalize : List ℕ → ℕ → Call
  Show : List ℕ → Call

abbrev pub call_of : EndorserCall → Call
call_of (calls.Initialize block config map) = Initialize block config map.rows
call_of (calls.Activate view proof) = Activate view proof
call_of (calls.Append handle prev entry height) = Append handle prev entry height
call_of (calls.Latest handle nonce) = Latest handle nonce
call_of (calls.Finalize config number) = Finalize config number
call_of (calls.Show handle) = Show handle
