-- What a run leaves, and what it printed.
use Rattle.std.specs.Prelude.{◌≡◌, ◌⊎◌, ℕ, ◌≤◌, Bool, true, false, List, [], ◌++◌, length, map, slice_index_or, count_by}
use Rattle.fault_script.specs.Command.{Command, Genesis, End}
use Rattle.fault_script.specs.Script.{is_plain}
use Rattle.view_ledger.specs.Receipts.{Accepts}
use Rattle.endorser_cell.specs.CellBank.{AreServed, CellBank}
use Rattle.client_pass.specs.ClientList.{stamps_of}
use Rattle.client_pass.specs.Record.{Record, call_stamps}
use Rattle.roster_bank.specs.Roster.{IsRoster, lists_of}
use Rattle.run_record.specs.Events.{is_client, is_endorser, places}
use Rattle.run_record.specs.Stamping.{acts_of, calls_of}
use Rattle.script_world.specs.Running.{Running}
use Rattle.script_runs.specs.Begins.{Begins, first_ids}
use Rattle.script_runs.specs.Belongs.{Belongs}
use Rattle.script_runs.specs.Ids.{IsId}
use Rattle.script_runs.specs.LinesSaid.{says_line}
use Rattle.script_runs.specs.Roster.{all_members, members_by}
use Rattle.script_runs.specs.Runs.{Runs}
use Rattle.script_runs.specs.Stamps.{events_of}
use Rattle.statement.specs.Config.{ids}
use Rattle.world_run.specs.Plain.{nothing, replies}

-- any line but `genesis` and `end`
abbrev pub is_between : Command → Bool
is_between (Genesis ids) = false
is_between End = false
is_between _ = true

-- Each endorser has at least as many signatures as the script has lines besides `genesis` and `end`.
abbrev pub HaveLeftFor : (ℕ → ℕ) → List Command → Type 0
HaveLeftFor left_of script = (id : ℕ) → IsId id → count_by is_between script ≤ left_of id

module _ {S C : Type 0} (key : S → List ℕ) (left size : S → ℕ) (signs : S → List ℕ → List ℕ → S → Type 0) (fit : S → C → Type 0) (accepts : C → Accepts) (key_of : ℕ → List ℕ) (left_of : ℕ → ℕ) (checks : Accepts) where
  -- The script's lines were run one after the other, each on what came of those before, and printed these lines, one for each line that
  -- prints a line of its own; and the run belongs to them. The endorsers are the run's roster, and their lists are what they served. The
  -- record has what each endorser was asked and answered in this run, and what each client did in it, each with its place among the run's
  -- events as its stamp.
  pub record Replayed (script : List Command) (made : Record) (printed : List (List ℕ)) : Type 0 where
    pub first : Running (CellBank S C) C
    pub last : Running (CellBank S C) C
    pub begins : Begins key left accepts key_of left_of checks (first_ids script) first
    pub runs : Runs key left size signs fit accepts key_of left_of checks script first last printed
    pub belongs : Belongs key left size signs fit accepts key_of left_of checks (first_ids script) script first last printed runs
    pub lines : length printed ≡ count_by says_line script
    pub bank : IsRoster key accepts (all_members key_of) checks last.state.link
    pub served : AreServed last.state.link
    pub cells : map calls_of made.cells ≡ map calls_of (lists_of last.state.link.cells)
    pub passes : map acts_of made.passes ≡ map (λ client. acts_of client.lines) last.clients
    pub call_stamps : (place : ℕ) → slice_index_or (map call_stamps made.cells) place [] ≡ places (is_endorser place) (events_of (ids (all_members key_of)) last)
    pub act_stamps : (place : ℕ) → slice_index_or (map stamps_of made.passes) place [] ≡ places (is_client place) (events_of (ids (all_members key_of)) last)
    pub roster : made.roster ≡ all_members key_of
    pub genesis : made.genesis ≡ members_by key_of (first_ids script)

  -- Some of the script's first lines were run so and printed these lines, and the run belongs to them.
  pub record RanFront (script : List Command) (printed : List (List ℕ)) : Type 0 where
    pub first : Running (CellBank S C) C
    pub last : Running (CellBank S C) C
    pub begins : Begins key left accepts key_of left_of checks (first_ids script) first
    pub front : List Command
    pub rest : List Command
    pub split : script ≡ front ++ rest
    pub runs : Runs key left size signs fit accepts key_of left_of checks front first last printed
    pub belongs : Belongs key left size signs fit accepts key_of left_of checks (first_ids script) front first last printed runs
    pub lines : length printed ≡ count_by says_line front

  -- Nothing was begun and nothing was printed, or they were.
  abbrev pub PrintsFront : List Command → List (List ℕ) → Type 0
  PrintsFront script printed = (printed ≡ []) ⊎ RanFront script printed

  -- Such a run printed these lines and made this record. For a plain script they are the plain replies.
  pub record Prints (script : List Command) (made : Record) (printed : List (List ℕ)) : Type 0 where
    pub replayed : Replayed script made printed
    pub plain : is_plain script ≡ true → HaveLeftFor left_of script → printed ≡ replies nothing script

  -- Such a run printed these lines first.
  pub record PrintsFirst (script : List Command) (printed : List (List ℕ)) : Type 0 where
    pub front : PrintsFront script printed
    pub plain : is_plain script ≡ true → HaveLeftFor left_of script → (more : List (List ℕ)) × (replies nothing script ≡ printed ++ more)
