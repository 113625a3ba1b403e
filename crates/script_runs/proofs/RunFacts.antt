-- What is known of a run between its lines: of its store and endorsers, its open operations, and the calls that were served.
use Rattle.std.proofs.Common.{◌≡◌, ◌⊎◌, inl, inr, ℕ, Bool, true, false, List, ◌++◌, refl, sym, ap, subst, ◌∙◌}
use Rattle.blob_store.specs.declared.lying_store.LyingStore.{LyingStore}
use Rattle.blob_store.specs.LyingStore.{held_in}
use Rattle.chain_block.specs.declared.entry.Entry.{Entry}
use Rattle.fault_script.specs.Command.{Command}
use Rattle.port.specs.declared.key.Key.{Key}
use Rattle.port.specs.declared.key.Key.TheVariants.{Row, View, Finals}
use Rattle.port.specs.Call.{Append, Call, Latest}
use Rattle.port.specs.Contents.{Contents}
use Rattle.port.specs.Link.{Served}
use Rattle.port.specs.Store.{Truth}
use Rattle.view_ledger.specs.Receipts.{Accepts}
use Rattle.endorser_cell.specs.CellBank.{CellBank}
use Rattle.coordinator.specs.State.{State}
use Rattle.script_operations.specs.Operations.{Begun}
use Rattle.script_world.specs.Running.{Running, world_of}
use Rattle.script_runs.specs.CallRules.{AreAppendsOr, IsAppendOr, IsForked, OwnAdds, forks_by, outside}
use Rattle.script_runs.specs.OwnCalls.{IsOfDrawn, WasDrawn, is_raw, served_in}
use Rattle.script_runs.proofs.DrawnEntries.{ClientsGrow, HandlesFit, drawn_more}
use Rattle.script_runs.proofs.KeptCalls.{Lifts, all_append, all_lift}
use Rattle.script_runs.proofs.LinkCalls.{AllOf, IsSeen, OwnCall, Went}
use Rattle.script_runs.proofs.OpenCalls.{AllGo, all_go_on}
use Rattle.script_runs.proofs.StandingRows.{IsHeld, IsSound, MayStand, StandsAs}

-- an append is of a row that is held
abbrev pub HeldCall : (Entry → Type 0) → List Key → Contents → Call → Type 0
HeldCall drawn forked contents (Append handle prev entry height) = IsHeld drawn forked contents handle prev entry height
HeldCall drawn forked contents call = Unit {0}

-- ---- more was drawn or forked, over the same contents

module _ (drawn drawn' : Entry → Type 0) (forked forked' : List Key) (more : (entry : Entry) → drawn entry → drawn' entry) (forks : (key : Key) → IsForked forked key → IsForked forked' key) where
  pub lift_held : (contents contents' : Contents) → contents' ≡ contents → Lifts drawn forked contents drawn' forked' contents'
  lift_held contents contents' same handle prev entry height ((own, was, e, h, n), stands) = ((own, more own was, e, h, n), by stands)
    where
      by : IsForked forked (Row handle height) ⊎ StandsAs contents handle prev entry height → IsForked forked' (Row handle height) ⊎ StandsAs contents' handle prev entry height
      by (inl is) = inl (forks (Row handle height) is)
      by (inr is) = inr (subst (λ (c : Contents). StandsAs c handle prev entry height) (sym same) is)

  may_lift : (key : Key) (body : List ℕ) → MayStand drawn key body → MayStand drawn' key body
  may_lift (Row handle height) body (row, good, was) = (row, good, more row.entry was)
  may_lift (View number) body none = none
  may_lift (Finals number) body none = none

  pub lift_sound : (truth truth' : Truth) → truth'.contents ≡ truth.contents → ((key : Key) → truth'.forks key ≡ true → IsForked forked' key) → IsSound drawn forked truth → IsSound drawn' forked' truth'
  lift_sound truth truth' same forks' sound = record {
    rows = λ key stored stood. may_lift key stored.body (sound.rows key stored (sym (ap (λ (c : Contents). c key) same) ∙ stood));
    forks = forks';
  }

call_held : (drawn drawn' : Entry → Type 0) (forked forked' : List Key) (contents contents' : Contents) → Lifts drawn forked contents drawn' forked' contents' → (call : Call) → HeldCall drawn forked contents call
    → HeldCall drawn' forked' contents' call
call_held drawn drawn' forked forked' contents contents' lifts (Append handle prev entry height) held = lifts handle prev entry height held
call_held drawn drawn' forked forked' contents contents' lifts call held = tt

pub all_held : (drawn drawn' : Entry → Type 0) (forked forked' : List Key) (contents contents' : Contents) → Lifts drawn forked contents drawn' forked' contents' → (served : List Served)
    → AllOf (HeldCall drawn forked contents) served → AllOf (HeldCall drawn' forked' contents') served
all_held drawn drawn' forked forked' contents contents' lifts served held =
    all_lift _ _ (λ (one : Served) h. call_held drawn drawn' forked forked' contents contents' lifts one.call h) served held

-- ---- own calls

module _ (drawn : Entry → Type 0) (forked : List Key) (contents : Contents) (reads : List ℕ → List ℕ → Type 0) where
  own_held : (call : Call) → OwnCall drawn forked contents reads call → HeldCall drawn forked contents call
  own_held (Append handle prev entry height) held = held
  own_held call own = tt

  own_drawn : (call : Call) → OwnCall drawn forked contents reads call → IsOfDrawn drawn call
  own_drawn (Append handle prev entry height) held = held.0
  own_drawn call own = tt

  own_append : (R : List ℕ → List ℕ → Type 0) → ((handle number : List ℕ) → reads handle number → R handle number) → (call : Call) → OwnCall drawn forked contents reads call → IsAppendOr R call
  own_append R may (Append handle prev entry height) held = tt
  own_append R may (Latest handle number) read = may handle number read
  own_append R may call none = absurd none

  pub owns_held : (served : List Served) → AllOf (OwnCall drawn forked contents reads) served → AllOf (HeldCall drawn forked contents) served
  owns_held served own = all_lift _ _ (λ (one : Served) o. own_held one.call o) served own

  pub owns_drawn : (served : List Served) → AllOf (OwnCall drawn forked contents reads) served → AllOf (IsOfDrawn drawn) served
  owns_drawn served own = all_lift _ _ (λ (one : Served) o. own_drawn one.call o) served own

  pub owns_append : (R : List ℕ → List ℕ → Type 0) → ((handle number : List ℕ) → reads handle number → R handle number) → (served : List Served) → AllOf (OwnCall drawn forked contents reads) served
      → AreAppendsOr R served
  owns_append R may served own = all_lift _ _ (λ (one : Served) o. own_append R may one.call o) served own

-- ---- a run

module _ {S C : Type 0} (key : S → List ℕ) (left : S → ℕ) (accepts : C → Accepts) (checks : Accepts) where
  abbrev Held : Type 0
  Held = State LyingStore (CellBank S C) C

  -- What is known of a coordinator with its store and its link, of operations that were begun, and of calls that were served.
  pub record Facts (drawn : Entry → Type 0) (forked : List Key) (earlier : List Served) (state : Held) (all : List Begun) : Type 0 where
    pub seen : IsSeen key left accepts drawn forked state.store state.link
    pub going : AllGo checks drawn forked (held_in state.store).contents all
    pub held : AllOf (HeldCall drawn forked (held_in state.store).contents) earlier

  -- What is known of a run, where these rows were forked and these calls were served outside `raw` lines.
  pub record Invariant (forked : List Key) (earlier : List Served) (run : Running (CellBank S C) C) : Type 0 where
    pub facts : Facts (WasDrawn run.clients) forked earlier run.state run.operations.all
    pub handles : HandlesFit (world_of run).labels
    pub checker : accepts run.state.checker ≡ checks

  -- What a line added to the calls that were served, and what is known then.
  pub record Did (forked : List Key) (earlier : List Served) (command : Command) (old new : Running (CellBank S C) C) : Type 0 where
    pub more : List Served
    pub served : served_in new ≡ more ++ served_in old
    pub own : OwnAdds old command more
    pub drawn : is_raw command ≡ false → AllOf (IsOfDrawn (WasDrawn new.clients)) more
    pub held : AllOf (HeldCall (WasDrawn new.clients) forked (held_in new.state.store).contents) (outside (is_raw command) more earlier)
    pub invariant : Invariant (forks_by old command forked) (outside (is_raw command) more earlier) new

  -- more was drawn or forked, and what stands is the same
  pub facts_lift : (drawn drawn' : Entry → Type 0) (forked forked' : List Key) (earlier : List Served) (old new : Held) (all : List Begun) → ((entry : Entry) → drawn entry → drawn' entry)
      → ((key : Key) → IsForked forked key → IsForked forked' key) → (held_in new.store).contents ≡ (held_in old.store).contents → ((key : Key) → (held_in new.store).forks key ≡ true → IsForked forked' key)
      → new.link.fresh ≡ true → Facts drawn forked earlier old all → Facts drawn' forked' earlier new all
  facts_lift drawn drawn' forked forked' earlier old new all more forks same forks' fresh facts =
      let lifts = lift_held drawn drawn' forked forked' more forks (held_in old.store).contents (held_in new.store).contents same in
      record {
        seen = record { sound = lift_sound drawn drawn' forked forked' more forks (held_in old.store) (held_in new.store) same forks' facts.seen.sound; fresh = fresh };
        going = all_go_on checks drawn drawn' forked forked' (held_in old.store).contents (held_in new.store).contents more lifts all facts.going;
        held = all_held drawn drawn' forked forked' (held_in old.store).contents (held_in new.store).contents lifts earlier facts.held;
      }

  pub facts_drawn : (drawn drawn' : Entry → Type 0) (forked : List Key) (earlier : List Served) (state : Held) (all : List Begun) → ((entry : Entry) → drawn entry → drawn' entry) → Facts drawn forked earlier state all
      → Facts drawn' forked earlier state all
  facts_drawn drawn drawn' forked earlier state all more facts =
      facts_lift drawn drawn' forked forked earlier state state all more (λ key is. is) refl facts.seen.sound.forks facts.seen.fresh facts

  -- calls were made
  pub facts_went : (drawn : Entry → Type 0) (forked : List Key) (earlier : List Served) (reads : List ℕ → List ℕ → Type 0) (old new : Held) (all : List Begun) → Facts drawn forked earlier old all
      → (went : Went key left accepts drawn forked reads old.store old.link new.store new.link) → Facts drawn forked (went.more ++ earlier) new all
  facts_went drawn forked earlier reads old new all facts went = record {
    seen = went.seen;
    going = all_go_on checks drawn drawn forked forked (held_in old.store).contents (held_in new.store).contents (λ entry was. was) went.lifts all facts.going;
    held = all_append _ went.more earlier (owns_held drawn forked (held_in new.store).contents reads went.more went.each)
        (all_held drawn drawn forked forked (held_in old.store).contents (held_in new.store).contents went.lifts earlier facts.held);
  }

  pub invariant_drawn : (forked : List Key) (earlier : List Served) (old new : Running (CellBank S C) C) → ClientsGrow old.clients new.clients → Invariant forked earlier old
      → Facts (WasDrawn new.clients) forked earlier old.state old.operations.all
  invariant_drawn forked earlier old new grow invariant =
      facts_drawn (WasDrawn old.clients) (WasDrawn new.clients) forked earlier old.state old.operations.all (drawn_more old.clients new.clients grow) invariant.facts

  -- A line other than a `raw` one made calls, from a run in which nothing more was served. Then this is known of the operations.
  pub did_by : (forked : List Key) (earlier : List Served) (command : Command) (reads : List ℕ → List ℕ → Type 0) (old base new : Running (CellBank S C) C) → is_raw command ≡ false → forks_by old command forked ≡ forked
      → served_in base ≡ served_in old
      → (facts : Facts (WasDrawn new.clients) forked earlier base.state base.operations.all)
      → (went : Went key left accepts (WasDrawn new.clients) forked reads base.state.store base.state.link new.state.store new.state.link)
      → OwnAdds old command went.more → AllGo checks (WasDrawn new.clients) forked (held_in new.state.store).contents new.operations.all → HandlesFit (world_of new).labels → accepts new.state.checker ≡ checks
      → Did forked earlier command old new
  did_by forked earlier command reads old base new raw fork same facts went own going handles checker =
      let after = facts_went (WasDrawn new.clients) forked earlier reads base.state new.state base.operations.all facts went in
      let all = subst (λ (b : Bool). AllOf (HeldCall (WasDrawn new.clients) forked (held_in new.state.store).contents) (outside b went.more earlier)) (sym raw) after.held in
      record {
        more = went.more;
        served = went.served ∙ ap (λ (l : List Served). went.more ++ l) same;
        own = own;
        drawn = λ is. owns_drawn (WasDrawn new.clients) forked (held_in new.state.store).contents reads went.more went.each;
        held = all;
        invariant = record {
          facts = subst (λ (f : List Key). Facts (WasDrawn new.clients) f (outside (is_raw command) went.more earlier) new.state new.operations.all) (sym fork)
              (record { seen = went.seen; going = going; held = all });
          handles = handles;
          checker = checker;
        };
      }
