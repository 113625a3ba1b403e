-- A client that drew, asked and took the answer.
use Rattle.std.proofs.Common.{◌≡◌, ◌<◌, ℕ, zero, suc, List, [], ◌∷◌, ◌++◌, length, slice_get, slice_set, Option, Some, None, refl, sym, ap, subst, ◌∙◌, arith, append-nil}
use Rattle.chain_block.specs.declared.entry.Entry.{Entry}
use Rattle.blob_store.specs.declared.lying_store.LyingStore.{LyingStore}
use Rattle.blob_store.specs.LyingStore.{lying_view}
use Rattle.port.specs.Link.{LinkView}
use Rattle.port.specs.Service.{ServiceCall, ServiceAnswer}
use Rattle.view_ledger.specs.Receipts.{Accepts}
use Rattle.client_pass.specs.Act.{Act, Draw}
use Rattle.client_pass.specs.ClientList.{IsAnswered}
use Rattle.client_pass.specs.ClientPass.{ClientPass, Notes}
use Rattle.coordinator.specs.Says.{coordinator_says}
use Rattle.coordinator.specs.State.{State}
use Rattle.reply_taking.specs.Learning.{Grows}
use Rattle.client_acts.specs.declared.turn.Turn.{Turn}
use Rattle.client_acts.specs.Turns.{TurnsAt, turn_of}
use Rattle.roster_bank.specs.Counting.{served_count}
use Rattle.client_acts.specs.ClientActs.{Acts, ClientActs, Each, IsOf, StaysOn}
use Rattle.answer_lines.specs.Draws.{IsOpen}
use Rattle.answer_lines.specs.Giving.{Gave, OnlyLearned}
use Rattle.answer_lines.specs.Taken.{Sides}
use Rattle.script_world.specs.Begun.{DrewOf}
use Rattle.script_world.specs.Lines.{Asked}
use Rattle.script_world.specs.Running.{seen}
use Rattle.script_world.proofs.Goes.{grows_again}

-- ---- the client at a place

got_set : {X : Type 0} (xs : List X) (place : ℕ) (x y : X) → slice_get xs place ≡ Some x → slice_get (slice_set xs place y) place ≡ Some y
got_set [] place x y stood = absurd cc
got_set (z ∷ zs) zero x y stood = refl
got_set (z ∷ zs) (suc place) x y stood = got_set zs place x y stood

set_twice : {X : Type 0} (xs : List X) (place : ℕ) (x y : X) → slice_set (slice_set xs place x) place y ≡ slice_set xs place y
set_twice [] place x y = refl
set_twice (z ∷ zs) zero x y = refl
set_twice {X} (z ∷ zs) (suc place) x y = ap (λ (rest : List X). z ∷ rest) (set_twice zs place x y)

pub within : {X : Type 0} (xs : List X) (place : ℕ) (x : X) → slice_get xs place ≡ Some x → place < length xs
within [] place x stood = absurd cc
within (y ∷ xs) zero x stood = omega arith
within (y ∷ xs) (suc place) x stood = omega (arith, within xs place x stood)

pub is_open : {C : Type 0} (clients : List (ClientPass C)) (place draw : ℕ) (pass : ClientPass C) → slice_get clients place ≡ Some pass → (IsAnswered pass.lines draw → ⊥) → IsOpen clients place draw
is_open {C} clients place draw pass stood opened other is answered =
    let same : other ≡ pass = cc (stood, is) in
    opened (subst (λ (pass : ClientPass C). IsAnswered pass.lines draw) same answered)

-- a draw of this nonce
pub drew_of : {C : Type 0} (old new : ClientActs C) (place : ℕ) (drawn nonce : List ℕ) (intent : Option Entry) → drawn ≡ nonce
    → ((from : ClientPass C) × (to : ClientPass C) × Acts old new place from to × (to.chain ≡ from.chain) × Notes from to (Draw drawn intent))
    → DrewOf old new place (Draw nonce intent)
drew_of {C} old new place drawn nonce intent is (from, to, acts, chain, notes) =
    (from, to, acts, subst (λ (nonce : List ℕ). Notes from to (Draw nonce intent)) is notes)

-- whoever did nothing stays
pub same_stays : {C : Type 0} (old new : ClientActs C) → StaysOn old old → new ≡ old → StaysOn old new
same_stays {C} old new stays same = subst (λ (new : ClientActs C). StaysOn old new) (sym same) stays

module _ {L C : Type 0} (accepts : C → Accepts) (link_view : L → LinkView) (checks : Accepts) where
  pub asked_after_draw : (old drawn new : ClientActs C) (before middle after : State LyingStore L C) (place : ℕ) (act : Act) (call : ServiceCall) (answer : ServiceAnswer)
      (took : Accepts → Sides LyingStore L C → ServiceAnswer → Type 0)
      → Each (IsOf accepts old.first checks) old.clients → DrewOf old drawn place act
      → coordinator_says accepts lying_view link_view before middle call answer
      → Gave drawn new place middle after (λ sides. took checks sides answer)
      → OnlyLearned accepts lying_view link_view middle after
      → (asked taken : ℕ) → asked ≡ served_count (link_view before.link) → taken ≡ served_count (link_view middle.link)
      → drawn.turns ≡ old.turns ++ turn_of place asked 1 ∷ [] → TurnsAt place taken drawn.turns new.turns
      → Asked accepts link_view (seen before old) (seen after new) place (Some act) call took
  asked_after_draw old drawn new before middle after place act call answer took each drew says gave learned asked taken asked_then taken_then one turned =
      let was : ClientPass C = drew.0 in
      let is : ClientPass C = drew.1 in
      let between : ClientPass C = gave.0 in
      let to : ClientPass C = gave.1 in
      let stands : slice_get drawn.clients place ≡ Some is =
      ap (λ (clients : List (ClientPass C)). slice_get clients place) drew.2.stands ∙ got_set old.clients place was is drew.2.stood in
      let same : between ≡ is = cc (gave.2.stood, stands) in
      let agrees : checks ≡ accepts was.checker = sym (each place was drew.2.stood).1 in
      record {
        middle = middle;
        answer = answer;
        says = says;
        from = was;
        drawn = is;
        to = to;
        stood = drew.2.stood;
        stands = gave.2.stands ∙ ap (λ (clients : List (ClientPass C)). slice_set clients place to) drew.2.stands ∙ set_twice old.clients place is to;
        drew = drew.3;
        grows = grows_again was is to drew.2.grows (subst (λ (pass : ClientPass C). Grows pass to) same gave.2.grows);
        taken = subst (λ (by : Accepts). took by (record { from = is; to = to; before = middle; after = after }) answer) agrees
            (subst (λ (pass : ClientPass C). took checks (record { from = pass; to = to; before = middle; after = after }) answer) same gave.3);
        learned = learned;
        turns = subst (λ (turns : List Turn). TurnsAt place (served_count (link_view middle.link)) turns new.turns)
            (one ∙ ap (λ (calls : ℕ). old.turns ++ turn_of place calls 1 ∷ []) asked_then)
            (subst (λ (calls : ℕ). TurnsAt place calls drawn.turns new.turns) taken_then turned);
        first = gave.2.first ∙ drew.2.first;
      }

  pub asked_at_once : (old new : ClientActs C) (before middle after : State LyingStore L C) (place : ℕ) (call : ServiceCall) (answer : ServiceAnswer)
      (took : Accepts → Sides LyingStore L C → ServiceAnswer → Type 0)
      → Each (IsOf accepts old.first checks) old.clients
      → coordinator_says accepts lying_view link_view before middle call answer
      → Gave old new place middle after (λ sides. took checks sides answer)
      → OnlyLearned accepts lying_view link_view middle after
      → (taken : ℕ) → taken ≡ served_count (link_view middle.link) → TurnsAt place taken old.turns new.turns
      → Asked accepts link_view (seen before old) (seen after new) place None call took
  asked_at_once old new before middle after place call answer took each says gave learned taken taken_then turned =
      let was : ClientPass C = gave.0 in
      let to : ClientPass C = gave.1 in
      let agrees : checks ≡ accepts was.checker = sym (each place was gave.2.stood).1 in
      record {
        middle = middle;
        answer = answer;
        says = says;
        from = was;
        drawn = was;
        to = to;
        stood = gave.2.stood;
        stands = gave.2.stands;
        drew = refl;
        grows = gave.2.grows;
        taken = subst (λ (by : Accepts). took by (record { from = was; to = to; before = middle; after = after }) answer) agrees gave.3;
        learned = learned;
        turns = subst (λ (turns : List Turn). TurnsAt place (served_count (link_view middle.link)) turns new.turns) (sym (append-nil old.turns))
            (subst (λ (calls : ℕ). TurnsAt place calls old.turns new.turns) taken_then turned);
        first = gave.2.first;
      }
