-- A client's lines: which draws they name, the chain of views that they lead to, and what they are by a checker.
use Rattle.std.specs.Prelude.{◌≡◌, ℕ, ◌<◌, List, [], ◌∷◌, ◌++◌, map, flat_map, slice_get, Option, Some, None, IfSome, IfNone, option_to_list}
use Rattle.std.specs.Result.{result_err}
use Rattle.chain_block.specs.declared.entry.Entry.{Entry}
use Rattle.chain_block.specs.Entry.{nonce_of, IsWithinLimits}
use Rattle.stamp_clock.specs.Stamps.{times, NoneTwice}
use Rattle.view_ledger.specs.Views.{ViewChain}
use Rattle.view_ledger.specs.Receipts.{Accepts}
use Rattle.view_ledger.specs.Extension.{extended, extend_outcome}
use Rattle.verifier.specs.Outcomes.{append_outcome, at_outcome, latest_outcome}
use Rattle.client_pass.specs.Act.{Act, Draw, Append, Latest, At, Look, View, Line, line}

abbrev pub stamps_of : List Line → List ℕ
stamps_of lines = map (λ line. line.stamp) lines

-- the draw of this number is for an append of this entry
abbrev pub IsForEntry : List Line → ℕ → Entry → Type 0
IsForEntry lines draw entry = (stamp : ℕ) × (nonce : List ℕ) × (slice_get lines draw ≡ Some (line stamp (Draw nonce (Some entry))))

-- the draw of this number is for a latest read, and this is its nonce
abbrev pub IsForRead : List Line → ℕ → List ℕ → Type 0
IsForRead lines draw nonce = (stamp : ℕ) × (slice_get lines draw ≡ Some (line stamp (Draw nonce None)))

-- the draw whose reply was accepted
abbrev pub answered_by : Act → Option ℕ
answered_by (Draw nonce intent) = None
answered_by (Append draw reply None) = Some draw
answered_by (Append draw reply (Some fault)) = None
answered_by (Latest draw handle reply None) = Some draw
answered_by (Latest draw handle reply (Some fault)) = None
answered_by (At handle height reply fault) = None
answered_by (Look handle height reply fault) = None
answered_by (View row fault) = None

-- the draws that accepted replies name, in the order of these
abbrev pub answered : List Line → List ℕ
answered lines = flat_map (λ line. option_to_list (answered_by line.act)) lines

-- an accepted reply names this draw
abbrev pub IsAnswered : List Line → ℕ → Type 0
IsAnswered lines draw = 0 < times draw (answered lines)

-- the chain after an act: an accepted view extends it
abbrev pub chain_after : ViewChain → Act → ViewChain
chain_after chain (Draw nonce intent) = chain
chain_after chain (Append draw reply fault) = chain
chain_after chain (Latest draw handle reply fault) = chain
chain_after chain (At handle height reply fault) = chain
chain_after chain (Look handle height reply fault) = chain
chain_after chain (View row None) = extended chain row.config
chain_after chain (View row (Some fault)) = chain

-- the chain after these lines
abbrev pub chain_of : ViewChain → List Line → ViewChain
chain_of chain [] = chain
chain_of chain (line ∷ lines) = chain_of (chain_after chain line.act) lines

-- What an act is after these lines and on this chain. A draw's nonce is that of its entry. What was checked has the
-- outcome that the checks of verifier and view_ledger have, and a reply to an append or a latest read names an earlier
-- draw that is for it.
abbrev pub IsDone : Accepts → ViewChain → List Line → Act → Type 0
IsDone accepts chain before (Draw nonce intent) = IfSome intent (λ entry. (nonce_of entry ≡ nonce) × IsWithinLimits entry)
IsDone accepts chain before (Append draw reply fault) =
    (entry : Entry) × IsForEntry before draw entry × (fault ≡ append_outcome accepts chain.configs entry reply) × IfNone fault (reply.row.entry ≡ entry)
IsDone accepts chain before (Latest draw handle reply fault) =
    (nonce : List ℕ) × IsForRead before draw nonce × (fault ≡ result_err (latest_outcome accepts chain.configs handle nonce reply))
IsDone accepts chain before (At handle height reply fault) = fault ≡ at_outcome accepts chain.configs handle height reply
IsDone accepts chain before (Look handle height reply fault) = fault ≡ at_outcome accepts chain.configs handle height reply
IsDone accepts chain before (View row fault) = fault ≡ result_err (extend_outcome accepts chain row)

-- these lines after those before, each on the chain so far
abbrev pub AreDone : Accepts → ViewChain → List Line → List Line → Type 0
AreDone accepts chain before [] = Unit {0}
AreDone accepts chain before (line ∷ lines) =
    IsDone accepts chain before line.act × AreDone accepts (chain_after chain line.act) (before ++ line ∷ []) lines

-- The lines of a client that began with this chain. No draw is named by two accepted replies.
pub record IsClientList (accepts : Accepts) (chain : ViewChain) (lines : List Line) : Type 0 where
  pub done : AreDone accepts chain [] lines
  pub once : NoneTwice (answered lines)
