-- The record of a run.
use Rattle.std.specs.Prelude.{◌≢◌, ℕ, List, [], ◌∷◌, ◌++◌, length, map, flat_map, AllPairs}
use Rattle.std.specs.List.{AllByRecursion}
use Rattle.std.specs.List.Sorted.{IsStrictlyIncreasing}
use Rattle.statement.specs.declared.member.Member.{Member}
use Rattle.statement.specs.Ids.{IsRising}
use Rattle.statement.specs.Config.{ids}
use Rattle.stamp_clock.specs.Stamps.{EachOnce}
use Rattle.endorser_core.specs.Line.{IsLawful}
use Rattle.endorser_core.specs.Line.{Line as CellLine}
use Rattle.view_ledger.specs.Receipts.{Accepts}
use Rattle.view_ledger.specs.Views.{ViewChain}
use Rattle.view_ledger.specs.Extension.{AreGenuine}
use Rattle.client_pass.specs.Act.{Line as ClientLine}
use Rattle.client_pass.specs.ClientList.{IsClientList, stamps_of}

-- the members of view 0, who is genuine, a call list for each of these, and the lines of each client
pub record Record : Type 0 where
  pub genesis : List Member
  pub roster : List Member
  pub cells : List (List CellLine)
  pub passes : List (List ClientLine)

abbrev pub call_stamps : List CellLine → List ℕ
call_stamps lines = map (λ line. line.stamp) lines

-- the stamps of each list, first the endorsers' and then the clients'
abbrev pub stamp_lists : Record → List (List ℕ)
stamp_lists made = map call_stamps made.cells ++ map stamps_of made.passes

-- the stamps of all lists
abbrev pub stamps : Record → List ℕ
stamps made = flat_map (λ list. list) (stamp_lists made)

-- each member has one call list, in the order of the roster, and it is lawful for the member
abbrev pub AreLawful : Accepts → List Member → List (List CellLine) → Type 0
AreLawful accepts [] [] = Unit {0}
AreLawful accepts (member ∷ roster) (lines ∷ cells) = IsLawful accepts member lines × AreLawful accepts roster cells
AreLawful accepts [] (lines ∷ cells) = ⊥
AreLawful accepts (member ∷ roster) [] = ⊥

-- the chain that has view 0 alone
abbrev pub first_chain : Record → ViewChain
first_chain made = record { roster = made.roster; configs = made.genesis ∷ [] }

-- A run went so, by what a checker accepts.
pub record IsRecord (accepts : Accepts) (made : Record) : Type 0 where
  -- the roster's ids rise, no two of its keys are equal, and the members of view 0 stand in it with their keys
  pub ids : IsRising (ids made.roster)
  pub keys : AllPairs (λ (one other : Member). one.key ≢ other.key) made.roster
  pub genuine : AreGenuine made.roster made.genesis
  -- stamps rise in each list, and over all lists they are the numbers from 0 up to their number, each once
  pub rising : AllByRecursion IsStrictlyIncreasing (stamp_lists made)
  pub each_once : EachOnce (stamps made) (length (stamps made))
  -- what endorsers did is lawful, and what clients did began with view 0
  pub cells : AreLawful accepts made.roster made.cells
  pub passes : AllByRecursion (IsClientList accepts (first_chain made)) made.passes
