-- A run that begins as a script's does, and prints the plain replies of a plain script.
use Rattle.std.proofs.Common.{◌≡◌, inl, inr, ℕ, zero, suc, ◌+◌, ◌≤◌, Bool, true, cond, ◌&&◌, List, [], ◌∷◌, ◌++◌, slice_get, Some, refl, sym, ap, ap₂, subst, ◌∙◌, append-nil, arith}
use Rattle.std.proofs.lemmas.List.Sums.{count_by-le-length, sum_by-append}
use Rattle.fault_script.specs.Command.{Command}
use Rattle.fault_script.specs.Line.{has_ended}
use Rattle.fault_script.specs.Script.{is_plain, is_plain_command}
use Rattle.fault_script.specs.Within.{AllFit, AreIds, AreRising, Fits, IsWithin}
use Rattle.statement.specs.declared.member.Member.{Member}
use Rattle.port.specs.Contents.{nothing as nothing_stands}
use Rattle.port.specs.Link.{Bank}
use Rattle.port.specs.Table.{Uninitialized}
use Rattle.blob_store.specs.LyingStore.{lying_view, held_in}
use Rattle.blob_store.specs.MemStore.{itself, never}
use Rattle.blob_store.specs.TrueStores.{NeitherLiesNorFails}
use Rattle.view_ledger.specs.Receipts.{Accepts}
use Rattle.view_ledger.specs.Views.{ViewChain}
use Rattle.endorser_cell.specs.CellBank.{CellBank, bank_of, bank_view, signs_in}
use Rattle.calm.specs.Beginning.{IsInState}
use Rattle.calm_first.specs.First.{BeforeFirst}
use Rattle.coordinator.specs.CalmStates.{IsBeforeFirst}
use Rattle.client_pass.specs.Record.{Record}
use Rattle.script_world.specs.Running.{Running}
use Rattle.world_run.specs.Plain.{nothing, replies}
use Rattle.world_run.specs.PlainRun.{IsRunnable}
use Rattle.script_runs.specs.Begins.{Begins, first_ids}
use Rattle.world_run.specs.Replayed.{HaveLeftFor, PrintsFront, Replayed, is_between}
use Rattle.script_runs.specs.Roster.{member_by, members_by, share}
use Rattle.script_runs.specs.Runs.{Runs}
use Rattle.script_runs.specs.Ids.{IsId}
use Rattle.world_run.proofs.CalmRuns.{some_is}
use Rattle.world_run.proofs.PlainScripts.{LineLaws, asked, front_plainly, genesis_of, replies_front, both}

-- the members of rising ids are those of ids from 1 to 64
picked_at : (key_of : ℕ → List ℕ) (ids : List ℕ) (low place : ℕ) (member : Member) → AreRising low ids → slice_get (members_by key_of ids) place ≡ Some member
    → (id : ℕ) × IsId id × (member ≡ member_by key_of id)
picked_at key_of [] low place member rising e = absurd cc
picked_at key_of (id ∷ ids) low zero member rising e = (id, (omega (arith, rising.0), rising.1), sym (some_is (member_by key_of id) member e))
picked_at key_of (id ∷ ids) low (suc place) member rising e = picked_at key_of ids id place member rising.2 e

-- a script that ends has a first line, which gives its ids
first_of : (command : Command) (rest : List Command) → Fits [] command → AreIds (first_ids (command ∷ rest))
first_of command rest fits =
    let genesis = genesis_of command fits.first in
    subst (λ (c : Command). IsWithin c → AreIds (first_ids (c ∷ rest))) (sym genesis.1) (λ within. within) fits.limits

pub first_within : (script : List Command) → AllFit [] script → has_ended script ≡ true → AreIds (first_ids script)
first_within [] fit ended = absurd cc
first_within (command ∷ rest) fit ended = first_of command rest fit.0

plain_front : (front rest : List Command) → is_plain (front ++ rest) ≡ true → is_plain front ≡ true
plain_front [] rest plain = refl
plain_front (command ∷ front) rest plain =
    let parts = both (is_plain_command command) (is_plain (front ++ rest)) plain in
    ap₂ (λ (one other : Bool). one && other) parts.0 (plain_front front rest parts.1)

weaker : (bank : Bank) (stamps signatures left : ℕ) (member : Member) → left + 2 ≤ stamps → left ≤ signatures → IsInState bank Uninitialized stamps signatures member
    → IsInState bank Uninitialized (left + 2) left member
weaker bank stamps signatures left member some enough is = record {
  told = is.told;
  known = is.known;
  me = is.me;
  now = is.now;
  stamps_left = omega (arith, some, is.stamps_left);
  signatures_left = omega (arith, enough, is.signatures_left);
}

module _ {S C : Type 0} (key : S → List ℕ) (left size : S → ℕ) (signs : S → List ℕ → List ℕ → S → Type 0) (fit : S → C → Type 0) (accepts : C → Accepts) (key_of : ℕ → List ℕ) (left_of : ℕ → ℕ) (checks : Accepts)
    (laws : LineLaws accepts checks (bank_view key left accepts)) (texts_of : ℕ → List (List ℕ)) (script : List Command) (runnable : IsRunnable texts_of script) where
  abbrev Run : Type 0
  Run = Running (CellBank S C) C

  abbrev BeginsIt : Run → Type 0
  BeginsIt world = Begins key left accepts key_of left_of checks (first_ids script) world

  -- each call but the first two of each endorser
  abbrev spare : ℕ
  spare = asked script

  before_first : (world : Run) → BeginsIt world → AreIds (first_ids script) → HaveLeftFor left_of script → BeforeFirst
  before_first world begins within have = record {
    accepts = checks;
    signs = signs_in key left accepts world.state.link.cells;
    contents = nothing_stands;
    bank = bank_of key left accepts world.state.link.cells;
    config = members_by key_of (first_ids script);
    left = spare;
    fits = begins.bank.fits;
    empty = λ key. refl;
    members = λ place member is.
        let picked = picked_at key_of (first_ids script) 0 place member within.2 is in
        let count = have picked.0 picked.1 in
        let few = count_by-le-length is_between script in
        subst (λ (m : Member). IsInState (bank_of key left accepts world.state.link.cells) Uninitialized (spare + 2) spare m) (sym picked.2)
        (weaker (bank_of key left accepts world.state.link.cells) share (left_of picked.0) spare (member_by key_of picked.0) (omega (arith, runnable.count, few)) count (begins.bank.each picked.0 picked.1));
  }

  is_before : (world : Run) (begins : BeginsIt world) (within : AreIds (first_ids script)) (have : HaveLeftFor left_of script)
      → IsBeforeFirst accepts lying_view (bank_view key left accepts) world.state (before_first world begins within have)
  unfolding before_first
  is_before world begins within have = record {
    contents = begins.told;
    bank = begins.bank.told;
    signs = refl;
    checks = begins.checker;
    alone = ap (λ (c : ViewChain). c.configs) begins.chain;
  }

  unbent : (world : Run) → BeginsIt world → NeitherLiesNorFails (held_in world.state.store)
  unbent world begins =
      let holds : held_in world.state.store ≡ record { contents = nothing_stands; source = itself; forks = never; due = 0 } = some_is (held_in world.state.store) _ begins.store in
      subst NeitherLiesNorFails (sym holds) (record { source = refl; forks = refl; due = refl })

  -- some first lines of a plain script print their plain replies
  front_prints : (front rest : List Command) (first last : Run) (printed : List (List ℕ)) → script ≡ front ++ rest → is_plain script ≡ true → HaveLeftFor left_of script → BeginsIt first
      → Runs key left size signs fit accepts key_of left_of checks front first last printed → printed ≡ replies nothing front
  unfolding before_first
  front_prints [] rest first last printed split plain have begins runs = runs.1
  front_prints (command ∷ front) rest first last printed split plain have begins runs =
      let fits = runnable.each [] command (front ++ rest) split in
      let within = subst (λ (s : List Command). AreIds (first_ids s)) (sym split) (first_of command (front ++ rest) fits) in
      let counted : asked script ≡ asked (command ∷ front) + asked rest = ap asked split ∙ sum_by-append (λ (c : Command). cond (is_between c) 1 0) (command ∷ front) rest in
      front_plainly key left size signs fit accepts key_of left_of checks laws texts_of script runnable (command ∷ front) rest first last printed (before_first first begins within have) split
      (plain_front (command ∷ front) rest (subst (λ (s : List Command). is_plain s ≡ true) split plain)) begins.unbegun (is_before first begins within have) (unbent first begins) refl
      (omega (arith, counted)) runs

  -- what was printed of a plain script comes first in its plain replies
  pub front_first : (printed : List (List ℕ)) → PrintsFront key left size signs fit accepts key_of left_of checks script printed → is_plain script ≡ true → HaveLeftFor left_of script
      → (more : List (List ℕ)) × (replies nothing script ≡ printed ++ more)
  front_first printed (inl none) plain have = (replies nothing script, ap (λ (l : List (List ℕ)). l ++ replies nothing script) (sym none))
  front_first printed (inr ran) plain have =
      let prints = front_prints ran.front ran.rest ran.first ran.last printed ran.split plain have ran.begins ran.runs in
      let more = replies_front nothing ran.front ran.rest in
      (more.0, ap (replies nothing) ran.split ∙ more.1 ∙ ap (λ (l : List (List ℕ)). l ++ more.0) (sym prints))

  pub whole_plainly : (made : Record) (printed : List (List ℕ)) → Replayed key left size signs fit accepts key_of left_of checks script made printed → is_plain script ≡ true → HaveLeftFor left_of script
      → printed ≡ replies nothing script
  whole_plainly made printed did plain have = front_prints script [] did.first did.last printed (sym (append-nil script)) plain have did.begins did.runs
