-- How the run of a script ends: with its record, or after some first lines.
use Rattle.std.proofs.Common.{◌≡◌, ◌≢◌, inl, inr, ℕ, List, [], ◌∷◌, ◌++◌, map, true, refl, sym, ap, ap₂, subst, ◌∙◌, append-nil}
use Rattle.fault_script.specs.Command.{Command}
use Rattle.std.specs.Prelude.{AllPairs, slice_index_or}
use Rattle.fault_script.specs.Script.{is_plain}
use Rattle.fault_script.specs.Within.{AllFit}
use Rattle.statement.specs.declared.member.Member.{Member}
use Rattle.statement.specs.Config.{ids as ids_of}
use Rattle.view_ledger.specs.Receipts.{Accepts}
use Rattle.view_ledger.specs.Extension.{AreGenuine}
use Rattle.view_ledger.specs.Views.{ViewChain}
use Rattle.endorser_cell.specs.CellBank.{AreServed, CellBank}
use Rattle.client_pass.specs.ClientList.{stamps_of}
use Rattle.client_pass.specs.Record.{IsRecord, Record, call_stamps}
use Rattle.roster_bank.specs.Roster.{IsRoster, lists_of}
use Rattle.run_record.specs.Events.{is_client, is_endorser, places}
use Rattle.run_record.specs.Stamping.{acts_of, calls_of}
use Rattle.script_world.specs.Running.{Running}
use Rattle.world_run.specs.Plain.{nothing, replies}
use Rattle.world_run.specs.Printing.{RanAndPut, RanFrontAndPut}
use Rattle.script_runs.specs.Begins.{Begins, first_ids}
use Rattle.script_runs.specs.Belongs.{RunsBelong}
use Rattle.world_run.specs.Replayed.{HaveLeftFor, Prints, PrintsFirst, PrintsFront, Replayed}
use Rattle.script_runs.specs.Roster.{KeysAreApart, all_members, members_by}
use Rattle.script_runs.specs.Runs.{AllCanRun, Runs}
use Rattle.script_runs.specs.Stamps.{events_of}
use Rattle.world_run.proofs.LinesSaid.{one_line_each}

-- what fits can be run
pub can_run : (earlier commands : List Command) → AllFit earlier commands → AllCanRun commands
can_run earlier [] fit = tt
can_run earlier (command ∷ commands) fit = ((fit.0.limits, fit.0.served), can_run (earlier ++ command ∷ []) commands fit.1)

-- the same endorsers, by the run's names of their members and of what is accepted
pub roster_by : {S C : Type 0} (key : S → List ℕ) (accepts : C → Accepts) (members roster : List Member) (agreed checks : Accepts) (bank : CellBank S C) → members ≡ roster → agreed ≡ checks
    → IsRoster key accepts members agreed bank → IsRoster key accepts roster checks bank
roster_by key accepts members roster agreed checks bank named same is =
    subst (λ (accepted : Accepts). IsRoster key accepts roster accepted bank) same (subst (λ (m : List Member). IsRoster key accepts m agreed bank) named is)

-- a record of the run's own members is one by what the run's signers are checked by
pub made_record : (key_of : ℕ → List ℕ) (ids : List ℕ) (roster members genesis : List Member) (agreed checks : Accepts) (first : ViewChain) (made : Record) → members ≡ all_members key_of → agreed ≡ checks
    → KeysAreApart key_of → roster ≡ all_members key_of → genesis ≡ members_by key_of ids → AreGenuine roster genesis
    → first ≡ record { roster = all_members key_of; configs = members_by key_of ids ∷ [] }
    → (roster ≡ members → first ≡ record { roster = members; configs = genesis ∷ [] } → AllPairs (λ (one other : Member). one.key ≢ other.key) members → AreGenuine members genesis → IsRecord agreed made)
    → IsRecord checks made
made_record key_of ids roster members genesis agreed checks first made named same apart all is genuine begins law =
    let own : roster ≡ members = all ∙ sym named in
    let chain : first ≡ record { roster = members; configs = genesis ∷ [] } = begins ∙ ap₂ (λ (r g : List Member). record { roster = r; configs = g ∷ [] }) (sym named) (sym is) in
    subst (λ (accepted : Accepts). IsRecord accepted made) same
    (law own chain (subst (λ (r : List Member). AllPairs (λ (one other : Member). one.key ≢ other.key) r) (sym named) apart) (subst (λ (r : List Member). AreGenuine r genesis) own genuine))

module _ {S C : Type 0} (key : S → List ℕ) (left size : S → ℕ) (signs : S → List ℕ → List ℕ → S → Type 0) (fit : S → C → Type 0) (accepts : C → Accepts) (key_of : ℕ → List ℕ) (left_of : ℕ → ℕ) (checks : Accepts)
    (script : List Command) where
  -- what a plain script prints, whole and in front
  pub record PlainLaws : Type 0 where
    pub whole : (made : Record) (printed : List (List ℕ)) → Replayed key left size signs fit accepts key_of left_of checks script made printed → is_plain script ≡ true → HaveLeftFor left_of script
        → printed ≡ replies nothing script
    pub front : (printed : List (List ℕ)) → PrintsFront key left size signs fit accepts key_of left_of checks script printed → is_plain script ≡ true → HaveLeftFor left_of script
        → (more : List (List ℕ)) × (replies nothing script ≡ printed ++ more)

  abbrev pub FirstPut : (List (List ℕ) → Type 0) → Type 0
  FirstPut put = (printed : List (List ℕ)) × PrintsFirst key left size signs fit accepts key_of left_of checks script printed × put printed

  first_put : PlainLaws → (printed : List (List ℕ)) → PrintsFront key left size signs fit accepts key_of left_of checks script printed
      → PrintsFirst key left size signs fit accepts key_of left_of checks script printed
  first_put laws printed front = record { front = front; plain = laws.front printed front }

  -- nothing was begun
  pub nothing_put : PlainLaws → (put : List (List ℕ) → Type 0) → put [] → FirstPut put
  nothing_put laws put was = ([], first_put laws [] (inl refl), was)

  module _ (commands : List Command) (same : commands ≡ script) (fits : AllFit [] script) (first : Running (CellBank S C) C) (begins : Begins key left accepts key_of left_of checks (first_ids script) first) where
    -- some first lines were done
    pub front_put : PlainLaws → RunsBelong key left size signs fit accepts key_of left_of checks → (put : List (List ℕ) → Type 0) → RanFrontAndPut key left size signs fit accepts key_of left_of checks commands first put → FirstPut put
    front_put laws belong put ran = (
      ran.ran.0,
      first_put laws ran.ran.0 (inr (record {
        first = first;
        last = ran.last;
        begins = begins;
        front = ran.front;
        rest = ran.rest;
        split = sym same ∙ ran.split;
        runs = ran.ran.1;
        belongs = belong script ran.front ran.rest first ran.last ran.ran.0 (sym same ∙ ran.split) (can_run [] script fits) begins ran.ran.1;
        lines = one_line_each key left size signs fit accepts key_of left_of checks script ran.front ran.rest first ran.last ran.ran.0 fits (sym same ∙ ran.split) begins.operations ran.ran.1;
      })),
      ran.ran.2,
    )

    -- all lines were done, and no record was made
    pub all_put : PlainLaws → RunsBelong key left size signs fit accepts key_of left_of checks → (last : Running (CellBank S C) C) (put : List (List ℕ) → Type 0) → RanAndPut key left size signs fit accepts key_of left_of checks commands first last put → FirstPut put
    all_put laws belong last put ran = (
      ran.0,
      first_put laws ran.0 (inr (record {
        first = first;
        last = last;
        begins = begins;
        front = commands;
        rest = [];
        split = sym same ∙ sym (append-nil commands);
        runs = ran.1;
        belongs = belong script commands [] first last ran.0 (sym same ∙ sym (append-nil commands)) (can_run [] script fits) begins ran.1;
        lines = one_line_each key left size signs fit accepts key_of left_of checks script commands [] first last ran.0 fits (sym same ∙ sym (append-nil commands)) begins.operations ran.1;
      })),
      ran.2,
    )

    -- all lines were done, and this is the record
    pub all_recorded : PlainLaws → RunsBelong key left size signs fit accepts key_of left_of checks → (last : Running (CellBank S C) C) (made : Record) (put : List (List ℕ) → Type 0) → RanAndPut key left size signs fit accepts key_of left_of checks commands first last put
        → IsRoster key accepts (all_members key_of) checks last.state.link → AreServed last.state.link
        → map calls_of made.cells ≡ map calls_of (lists_of last.state.link.cells) → map acts_of made.passes ≡ map (λ client. acts_of client.lines) last.clients
        → (members : List Member) → members ≡ all_members key_of
        → ((place : ℕ) → slice_index_or (map call_stamps made.cells) place [] ≡ places (is_endorser place) (events_of (ids_of members) last))
        → ((place : ℕ) → slice_index_or (map stamps_of made.passes) place [] ≡ places (is_client place) (events_of (ids_of members) last))
        → made.roster ≡ all_members key_of → made.genesis ≡ members_by key_of (first_ids script)
        → (printed : List (List ℕ)) × Prints key left size signs fit accepts key_of left_of checks script made printed × put printed
    all_recorded laws belong last made put ran bank served cells passes members are call_stamped act_stamped roster genesis =
        let did_all = subst (λ (lines : List Command). Runs key left size signs fit accepts key_of left_of checks lines first last ran.0) same ran.1 in
        let did : Replayed key left size signs fit accepts key_of left_of checks script made ran.0 = record {
          first = first;
          last = last;
          begins = begins;
          runs = did_all;
          belongs = belong script script [] first last ran.0 (sym (append-nil script)) (can_run [] script fits) begins did_all;
          lines = one_line_each key left size signs fit accepts key_of left_of checks script script [] first last ran.0 fits (sym (append-nil script)) begins.operations did_all;
          bank = bank;
          served = served;
          cells = cells;
          passes = passes;
          call_stamps = λ place. call_stamped place ∙ ap (λ (all : List Member). places (is_endorser place) (events_of (ids_of all) last)) are;
          act_stamps = λ place. act_stamped place ∙ ap (λ (all : List Member). places (is_client place) (events_of (ids_of all) last)) are;
          roster = roster;
          genesis = genesis;
        } in
        (ran.0, record { replayed = did; plain = laws.whole made ran.0 did }, ran.2)
