-- Lines that get the places of their events as stamps.
use Rattle.std.specs.Prelude.{◌≡◌, ◌≢◌, ℕ, zero, suc, Bool, List, [], ◌∷◌, length, map, slice_index_or, AllPairs}
use Rattle.std.specs.List.{AllByRecursion}
use Rattle.statement.specs.declared.member.Member.{Member}
use Rattle.statement.specs.Ids.{IsRising}
use Rattle.statement.specs.Config.{ids}
use Rattle.port.specs.Call.{Call}
use Rattle.port.specs.Answer.{Answer}
use Rattle.endorser_core.specs.Line.{Line as CellLine}
use Rattle.view_ledger.specs.Receipts.{Accepts}
use Rattle.view_ledger.specs.Extension.{AreGenuine}
use Rattle.client_pass.specs.Act.{Act, Line as ClientLine}
use Rattle.client_pass.specs.ClientList.{IsClientList}
use Rattle.client_pass.specs.Record.{Record, AreLawful, first_chain}
use Rattle.run_record.specs.declared.actor.Actor.{Actor}
use Rattle.run_record.specs.Events.{places}

-- an endorser's calls with their answers
abbrev pub calls_of : List CellLine → List (Call × Answer)
calls_of lines = map (λ line. (line.call, line.answer)) lines

-- what a client did
abbrev pub acts_of : List ClientLine → List Act
acts_of lines = map (λ line. line.act) lines

-- all that a record says but for its stamps
pub record IsRecordUnstamped (accepts : Accepts) (made : Record) : Type 0 where
  pub ids : IsRising (ids made.roster)
  pub keys : AllPairs (λ (one other : Member). one.key ≢ other.key) made.roster
  pub genuine : AreGenuine made.roster made.genesis
  pub cells : AreLawful accepts made.roster made.cells
  pub passes : AllByRecursion (IsClientList accepts (first_chain made)) made.passes

-- the record of these lists as they were given
abbrev pub given : List Member → List Member → List (List CellLine) → List (List ClientLine) → Record
given genesis roster cells passes = record { genesis = genesis; roster = roster; cells = cells; passes = passes }

-- a call's line with this stamp
abbrev pub call_stamped : ℕ → CellLine → CellLine
call_stamped stamp line = record { stamp = stamp; call = line.call; answer = line.answer }

-- an act's line with this stamp
abbrev pub act_stamped : ℕ → ClientLine → ClientLine
act_stamped stamp line = record { stamp = stamp; act = line.act }

-- the list with what stands at a place changed
abbrev pub change_at : {A : Type 0} → (A → A) → ℕ → List A → List A
change_at change place [] = []
change_at change zero (x ∷ xs) = change x ∷ xs
change_at change (suc place) (x ∷ xs) = x ∷ change_at change place xs

-- the lines with these stamps, from the first line on; lines beyond the stamps stay
abbrev pub stamped : {L : Type 0} → (ℕ → L → L) → List ℕ → List L → List L
stamped put [] lines = lines
stamped put (stamp ∷ stamps) [] = []
stamped put (stamp ∷ stamps) (line ∷ lines) = put stamp line ∷ stamped put stamps lines

-- in each list the first lines have the places of its actor's events as stamps
pub record AreStamped {L : Type 0} (put : ℕ → L → L) (acts : ℕ → Actor → Bool) (order : List Actor) (before now : List (List L)) : Type 0 where
  pub lists : length now ≡ length before
  pub lines : (place : ℕ) → slice_index_or now place [] ≡ stamped put (places (acts place) order) (slice_index_or before place [])
