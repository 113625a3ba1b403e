-- Which calls a settling has made.
use Rattle.std.specs.Prelude.{◌≡◌, ◌⊎◌, ℕ, ◌+◌, ◌≤◌, ◌<◌, List, [], ◌∷◌, ◌++◌, length, map, IsSome}
use Rattle.chain_block.specs.declared.meta_block.MetaBlock.{MetaBlock}
use Rattle.statement.specs.Config.{quorum, weight_together}
use Rattle.statement.specs.Mark.{id_of, AreMarks}
use Rattle.statement.specs.Receipt.{Receipt, receipt_bytes}
use Rattle.port.specs.declared.key.Key.TheVariants as keys
use Rattle.port.specs.declared.store_answers.Got.{Got}
use Rattle.port.specs.declared.store_answers.Got.TheVariants as gots
use Rattle.port.specs.declared.store_answers.Attached.{Attached}
use Rattle.port.specs.Cause.{MemberCause}
use Rattle.port.specs.Store.{Get, Attach, WasGot, WasAttached}
use Rattle.port.specs.Trace.{Event, AtStore}
use Rattle.view_ledger.specs.Receipts.{Accepts}
use Rattle.op_parts.specs.Attachment.{IsReceiptFor}
use Rattle.op_parts.specs.RoundAsking.{claim}
use Rattle.op_parts.specs.RoundOutcome.{held}
use Rattle.op_parts.specs.RoundRefusal.{first_given, above}
use Rattle.op_parts.specs.RoundSound.{Sound as SoundRound}
use Rattle.op_parts.specs.RoundState.{State as Round}
use Rattle.op_parts.specs.Walk.{Place}
use Rattle.op_parts.specs.WalkSound.{Walked}
use Rattle.settle.specs.Settling.{Settling, members_of, asking, start, top_block}
use Rattle.settle.specs.State.{Stage, AtRound, AtWalk, AtAttach, AtEnd, State}

-- By these calls all were asked in a round over the row with this metablock; the marks are too few, and these are the reasons.
pub record HasFailed (accepts : Accepts) (settling : Settling) (block : MetaBlock) (causes : List (ℕ × MemberCause)) (calls : List Event) : Type 0 where
  pub round : Round
  pub sound : SoundRound accepts (asking settling block) round calls
  pub all : round.asked ≡ length (members_of settling)
  pub few : weight_together (members_of settling) (map id_of round.marks) < quorum (members_of settling)
  pub reasons : round.reasons ≡ causes

-- By these calls the round at the row failed, for these reasons; a member has come further; and the walk above the row has come to
-- this place.
pub record HasWalked (accepts : Accepts) (settling : Settling) (causes : List (ℕ × MemberCause)) (place : Place) (past : List Event) : Type 0 where
  pub walk : List Event
  pub first : List Event
  pub split : past ≡ walk ++ first
  pub failed : HasFailed accepts settling settling.block causes first
  pub further : IsSome (first_given (above (settling.block.height + 1)) causes)
  pub walked : Walked accepts settling.configs settling.handle (start settling) walk place

-- what the store gave for the row at this height
abbrev pub got_at : Settling → ℕ → Got → Event
got_at settling height got = AtStore (Get (keys.Row settling.handle height)) (WasGot got)

-- The newest of these calls looked for the row at this place, to which the walk had come by the others.
abbrev pub HasLooked : Accepts → Settling → List (ℕ × MemberCause) → Place → Got → List Event → Type 0
HasLooked accepts settling causes place got past =
    (before : List Event) × (past ≡ got_at settling place.height got ∷ before) × HasWalked accepts settling causes place before

-- By these calls the walk has come to the top, which is above the row: the store gave no row there.
pub record HasReachedTop (accepts : Accepts) (settling : Settling) (place : Place) (past : List Event) : Type 0 where
  pub some : 1 ≤ length place.blocks
  pub causes : List (ℕ × MemberCause)
  pub looked : HasLooked accepts settling causes place gots.None past

-- the calls before a round over the row at the top: none where this is the row itself
abbrev pub IsBefore : Accepts → Settling → Place → List Event → Type 0
IsBefore accepts settling place past = ((place ≡ start settling) × (past ≡ [])) ⊎ HasReachedTop accepts settling place past

-- By these calls a round over the row at the top has come to this state.
pub record IsAsking (accepts : Accepts) (settling : Settling) (round : Round) (place : Place) (past : List Event) : Type 0 where
  pub calls : List Event
  pub before : List Event
  pub split : past ≡ calls ++ before
  pub sound : SoundRound accepts (asking settling (top_block settling place)) round calls
  pub began : IsBefore accepts settling place before

-- By these calls all were asked in a round over the row at the top; its marks make this receipt, which can be written and which the
-- chain accepts.
pub record HasReceipt (accepts : Accepts) (settling : Settling) (receipt : Receipt) (place : Place) (past : List Event) : Type 0 where
  pub round : Round
  pub asked : IsAsking accepts settling round place past
  pub all : round.asked ≡ length (members_of settling)
  pub made : receipt ≡ record { statement = held (claim (asking settling (top_block settling place))); marks = round.marks }
  pub written : AreMarks receipt.marks
  pub accepted : IsReceiptFor accepts settling.configs (record { handle = settling.handle; tail = place.tail; count = place.height }) receipt

-- the newest of these calls attached such a receipt to the row at the top
abbrev pub HasAttached : Accepts → Settling → Receipt → Place → Attached → List Event → Type 0
HasAttached accepts settling receipt place attached past =
    (before : List Event) × HasReceipt accepts settling receipt place before
    × (past ≡ AtStore (Attach (keys.Row settling.handle (top_block settling place).height) (receipt_bytes receipt)) (WasAttached attached) ∷ before)

-- it ended in a round, at the look for a row, or by an attach
abbrev pub HasEnded : Accepts → Settling → List Event → Type 0
HasEnded accepts settling past =
    ((round : Round) × (place : Place) × IsAsking accepts settling round place past)
    ⊎ (((causes : List (ℕ × MemberCause)) × (place : Place) × (got : Got) × HasLooked accepts settling causes place got past)
    ⊎ ((receipt : Receipt) × (place : Place) × (attached : Attached) × HasAttached accepts settling receipt place attached past))

-- what a stage rests on
abbrev pub IsAt : Accepts → Settling → List Event → Stage → Type 0
IsAt accepts settling past (AtRound round place) = IsAsking accepts settling round place past
IsAt accepts settling past (AtWalk walk causes) = (walk.handle ≡ settling.handle) × HasWalked accepts settling causes walk.place past
IsAt accepts settling past (AtAttach receipt bytes place) = (bytes ≡ receipt_bytes receipt) × HasReceipt accepts settling receipt place past
IsAt accepts settling past AtEnd = HasEnded accepts settling past

-- By these calls, the newest first, and no other, the settling has come to this state.
pub record Sound (accepts : Accepts) (settling : Settling) (state : State) (past : List Event) : Type 0 where
  pub handle : state.handle ≡ settling.handle
  pub at : IsAt accepts settling past state.stage
