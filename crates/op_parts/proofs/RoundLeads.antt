-- What one more call makes of a round.
use Rattle.std.proofs.Common.{◌≡◌, ◌⊎◌, inl, inr, ℕ, ◌<◌, ◌==◌, Bool, true, false, List, [], ◌∷◌, ◌++◌, length, slice_get, nat_lt, ◌&&◌, ◌↔◌, Option, Some, None, refl, sym, ◌∙◌, subst, ap, rules}
use Rattle.std.specs.Prelude.{Result, Ok, Err, IsErr, unwrap_or}
use Rattle.std.specs.Option.{option_map}
use Rattle.std.proofs.lemmas.Option.{slice_get_within}
use Rattle.chain_block.specs.declared.meta_block.MetaBlock.{MetaBlock}
use Rattle.nim_base.specs.declared.no_memory.NoMemory.{NoMemory}
use Rattle.statement.specs.declared.member.Member.{Member}
use Rattle.port.specs.declared.key.Key.TheVariants as keys
use Rattle.port.specs.Answer.{Refused, Behind, Stands}
use Rattle.port.specs.Call.{Append}
use Rattle.port.specs.Cause.{Denied, member_cause_of, cause_of}
use Rattle.port.specs.Heard.{Heard, Answered}
use Rattle.port.specs.Store.{Get}
use Rattle.port.specs.Trace.{Event, AtStore, AtLink}
use Rattle.catch_up.specs.declared.progress.Progress.{Progress}
use Rattle.catch_up.specs.declared.progress.Progress.TheVariants as caught
use Rattle.catch_up.specs.State.{Target, State as CatchingUp}
use Rattle.catch_up.specs.Told.{told}
use Rattle.catch_up.specs.OwnCalls.{IsOwnCall, append_of}
use Rattle.catch_up.specs.Says.{Says as CatchUpSays, IsRowRefused}
use Rattle.catch_up.specs.Sound.{Sound as SoundCatchUp, Leads as CatchUpLeads}
use Rattle.view_ledger.specs.Receipts.{Accepts}
use Rattle.op_parts.specs.declared.round_progress.RoundProgress.{RoundProgress}
use Rattle.op_parts.specs.declared.round_progress.RoundProgress.TheVariants.{More, Asked}
use Rattle.op_parts.specs.declared.round_stage.Stage.{Stage}
use Rattle.op_parts.specs.declared.round_stage.Stage.TheVariants.{First, CatchUp, Again, Ended}
use Rattle.op_parts.specs.declared.round_turn.Turn.{Turn}
use Rattle.op_parts.specs.RoundAsking.{Asking, claim, claim_of, append_to, target_of}
use Rattle.op_parts.specs.RoundOutcome.{Outcome, Blamed, IsOutcome}
use Rattle.op_parts.specs.RoundTurn.{WasBehind, EndedSo, IsSettled, Ends}
use Rattle.op_parts.specs.RoundState.{State, is_live_at, is_live, calls_at, calls_from, calls_left}
use Rattle.op_parts.specs.RoundSteps.{at, Moves, Finishes, Begins, TakesFirst, TakesAgain, TakesProgress}
use Rattle.op_parts.specs.RoundSound.{IsMember, AtStage, Sound, Says, Leads}
use Rattle.op_parts.proofs.RoundFinish.{lower, heard_behind, either, finishes, says_finished}

-- what a step leads to: one more call, and what the answer says of it
abbrev pub LeadsOn : Accepts → Asking → State → Event → List Event → Result RoundProgress NoMemory → Type 0
LeadsOn accepts ask new event past result = Sound accepts ask new (event ∷ past) × Says ask past event result

-- there is one member at a place
same_member : (ask : Asking) (n : ℕ) (a b : Member) → IsMember ask n a → IsMember ask n b → a ≡ b
same_member ask n a b p q = ap (λ (o : Option Member). unwrap_or o a) (sym p ∙ q)

says_err : (ask : Asking) (past : List Event) (event : Event) (result : Result RoundProgress NoMemory) → IsErr result → Says ask past event result
says_err ask past event (Ok progress) is = absurd (cc is)
says_err ask past event (Err wanted) is = tt

-- a call of a catch-up is made below the wanted count
below : (target : Target) (from : ℕ) (past : List Event) (event : Event) → IsOwnCall target from past event → told target.member from past < target.count
below target from past (AtStore (Get (keys.Row handle height)) answer) own = subst (λ (h : ℕ). h < target.count) own.1 own.2
below target from past (AtLink id (Append handle prev entry height) heard) own = subst (λ (h : ℕ). h < target.count) own.2 own.3
below target from past event own = absurd own

-- what was told last in later calls
abbrev pub ToldOn : Type 0
ToldOn = (member before : ℕ) (later earlier : List Event) → told member before (later ++ earlier) ≡ told member (told member before earlier) later

same : (n : ℕ) → (n == n) ≡ true
same n = search rules

told_behind : (ask : Asking) (id from before : ℕ) → told id before (append_to ask id (Answered (Refused (Behind from))) ∷ []) ≡ from
told_behind ask id from before = rw (same id) refl

module _ (accepts : Accepts) (ask : Asking) (turn : Turn) (old new : State) (result : Result RoundProgress NoMemory) (past : List Event)
    (sound : Sound accepts ask old past) (view : turn.view ≡ ask.view) (is : IsMember ask old.asked turn.member) where
  abbrev event_of : Heard → Event
  event_of heard = append_to ask turn.member.id heard

  -- the claim is the one that is asked for
  asked_claim : (heard : Heard) (outcome : Outcome) → IsOutcome accepts (claim_of turn.view old.handle old.block) turn.member.key heard outcome
      → IsOutcome accepts (claim ask) turn.member.key heard outcome
  asked_claim heard outcome judged =
      subst (λ (v : List ℕ). IsOutcome accepts (claim_of v ask.handle ask.block) turn.member.key heard outcome) view
      (subst (λ (h : List ℕ). IsOutcome accepts (claim_of turn.view h ask.block) turn.member.key heard outcome) sound.handle
      (subst (λ (b : MetaBlock). IsOutcome accepts (claim_of turn.view old.handle b) turn.member.key heard outcome) sound.block judged))

  asked_target : (from : ℕ) (catch_up : CatchingUp) → SoundCatchUp (record { member = turn.member.id; handle = old.handle; count = old.block.height }) from catch_up []
      → SoundCatchUp (target_of ask turn.member.id) from catch_up []
  asked_target from catch_up begun =
      subst (λ (h : List ℕ). SoundCatchUp (record { member = turn.member.id; handle = h; count = ask.block.height }) from catch_up []) sound.handle
      (subst (λ (b : MetaBlock). SoundCatchUp (record { member = turn.member.id; handle = old.handle; count = b.height }) from catch_up []) sound.block begun)

  -- the same calls, with what the stage rests on
  goes_on : (stage : Stage) (event : Event) → new ≡ at stage old → AtStage ask old.asked stage (event ∷ sound.calls) → Sound accepts ask new (event ∷ past)
  goes_on stage event now rests = subst (λ (s : State). Sound accepts ask s (event ∷ past)) (sym now) (record {
    handle = sound.handle;
    block = sound.block;
    calls = event ∷ sound.calls;
    before = sound.before;
    split = ap (λ (p : List Event). event ∷ p) sound.split;
    asked = sound.asked;
    at = rests;
  })

  -- the member's turn ends
  ends : (outcome : Outcome) (event : Event) → Ends accepts ask turn.member (event ∷ sound.calls) outcome → Finishes turn outcome (at Ended old) new result
      → LeadsOn accepts ask new event past result
  ends outcome event by took = (
    subst (λ (p : List Event). Sound accepts ask new (event ∷ p)) (sym sound.split)
        (finishes accepts ask turn outcome (at Ended old) new result (event ∷ sound.calls) sound.before sound.handle sound.block refl is by sound.asked took),
    says_finished ask past event turn outcome (at Ended old) new result took,
  )

  module _ (heard : Heard) (first_stage : old.stage ≡ First) where
    none : sound.calls ≡ []
    none = subst (λ (s : Stage). AtStage ask old.asked s sound.calls) first_stage sound.at

    alone : event_of heard ∷ sound.calls ≡ event_of heard ∷ []
    alone = ap (λ (c : List Event). event_of heard ∷ c) none

    first_by : (outcome : Outcome) → IsOutcome accepts (claim ask) turn.member.key heard outcome
        → (IsSettled outcome × Finishes turn outcome (at Ended old) new result)
        ⊎ ((from : ℕ) × (outcome ≡ Blamed (Denied (Behind from))) × Begins turn.member.id from (at Ended old) new × (result ≡ Ok More))
        → LeadsOn accepts ask new (event_of heard) past result
    first_by outcome judged (inl settled) = ends outcome (event_of heard) (inl (heard, alone, judged, settled.0)) settled.1
    first_by outcome judged (inr begins) =
        let from : ℕ = begins.0 in
        let behind = subst (λ (o : Outcome). IsOutcome accepts (claim ask) turn.member.key heard o) begins.1 judged in (
          goes_on (CatchUp begins.2.0) (event_of heard) begins.2.1 (
            turn.member,
            from,
            [],
            is,
            record {
              below = lower accepts (claim ask) turn.member.key heard (Blamed (Denied (Behind from))) behind;
              split = alone ∙ ap (λ (h : Heard). event_of h ∷ []) (heard_behind accepts (claim ask) turn.member.key heard from behind);
              own = tt;
            },
            asked_target from begins.2.0 begins.2.2,
          ),
          subst (λ (r : Result RoundProgress NoMemory). Says ask past (event_of heard) r) (sym begins.3) tt,
        )

    -- the first append of the row
    pub first : TakesFirst accepts turn heard (at Ended old) new result → LeadsOn accepts ask new (event_of heard) past result
    first (inl judged) =
        first_by judged.0 (asked_claim heard judged.0 judged.1) (either turn judged.0 (at Ended old) new result judged.2)
    first (inr wanted) = (
      goes_on Ended (event_of heard) wanted.0 (inr (turn.member, is, inl (heard, alone))),
      says_err ask past (event_of heard) result wanted.1,
    )

  again_by : (heard : Heard) (from : ℕ) (later : List Event) → WasBehind ask turn.member.id from later sound.calls → EndedSo ask turn.member.id from later caught.Reached
      → TakesAgain accepts turn heard (at Ended old) new result → LeadsOn accepts ask new (event_of heard) past result
  again_by heard from later behind reached (inl judged) =
      ends judged.0 (event_of heard) (inr (inr (from, later, sound.calls, heard, refl, behind, reached, asked_claim heard judged.0 judged.1))) judged.2
  again_by heard from later behind reached (inr wanted) = (
    goes_on Ended (event_of heard) wanted.0 (inr (turn.member, is, inr (inr (from, later, sound.calls, heard, refl, behind, reached)))),
    says_err ask past (event_of heard) result wanted.1,
  )

  -- the second append of the row
  pub again : (heard : Heard) → old.stage ≡ Again → TakesAgain accepts turn heard (at Ended old) new result → LeadsOn accepts ask new (event_of heard) past result
  again heard stage takes =
      let rests = subst (λ (s : Stage). AtStage ask old.asked s sound.calls) stage sound.at in
      let same : rests.0 ≡ turn.member = same_member ask old.asked rests.0 turn.member rests.3 is in
      again_by heard rests.1 rests.2
      (subst (λ (m : Member). WasBehind ask m.id rests.1 rests.2 sound.calls) same rests.4)
      (subst (λ (m : Member). EndedSo ask m.id rests.1 rests.2 caught.Reached) same rests.5) takes

  -- what the step of a catch-up says decides what comes next
  caught_by : (event : Event) (from : ℕ) (later : List Event) (after : CatchingUp) (progress : Result Progress NoMemory)
      → WasBehind ask turn.member.id from (event ∷ later) (event ∷ sound.calls) → told turn.member.id 0 past ≡ told turn.member.id from later
      → SoundCatchUp (target_of ask turn.member.id) from after (event ∷ later)
      → CatchUpSays (target_of ask turn.member.id) (told turn.member.id from later) event progress
      → TakesProgress turn after progress (at Ended old) new result → LeadsOn accepts ask new event past result
  caught_by event from later after (Ok caught.More) behind told_is goes says takes = (
    goes_on (CatchUp after) event takes.0 (turn.member, from, event ∷ later, is, behind, goes),
    subst (λ (r : Result RoundProgress NoMemory). Says ask past event r) (sym takes.1) tt,
  )
  caught_by event from later after (Ok caught.Reached) behind told_is goes says takes = (
    goes_on Again event takes.0 (turn.member, from, event ∷ later, is, behind, says),
    subst (λ (r : Result RoundProgress NoMemory). Says ask past event r) (sym takes.1) tt,
  )
  caught_by event from later after (Ok (caught.Ahead count tail)) behind told_is goes says takes =
      ends (Blamed (Denied (Stands count tail))) event (inr (inl (from, event ∷ later, caught.Ahead count tail, behind, says, refl))) takes
  caught_by event from later after (Ok (caught.Member reason)) behind told_is goes says takes =
      ends (Blamed (member_cause_of reason)) event (inr (inl (from, event ∷ later, caught.Member reason, behind, says, refl))) takes
  caught_by event from later after (Ok (caught.Row refusal)) behind told_is goes says takes = (
    goes_on Ended event takes.0 (inr (turn.member, is, inr (inl (from, event ∷ later, behind)))),
    subst (λ (r : Result RoundProgress NoMemory). Says ask past event r) (sym takes.1) (
      turn.member.id,
      subst (λ (h : ℕ). h < ask.block.height) (sym told_is) (below (target_of ask turn.member.id) from later event goes.own.0),
      subst (λ (h : ℕ). IsRowRefused ask.handle h event (cause_of refusal)) (sym told_is) says,
    ),
  )
  caught_by event from later after (Err wanted) behind told_is goes says takes = (
    goes_on Ended event takes.0 (inr (turn.member, is, inr (inl (from, event ∷ later, behind)))),
    subst (λ (r : Result RoundProgress NoMemory). Says ask past event r) (sym takes.1) tt,
  )

  -- what was told last in all calls is what was told in the catch-up
  told_whole : ToldOn → (id from : ℕ) (later : List Event) → WasBehind ask id from later sound.calls → told id 0 past ≡ told id from later
  told_whole told_on id from later behind =
      ap (λ (p : List Event). told id 0 p) sound.split
      ∙ told_on id 0 sound.calls sound.before
      ∙ ap (λ (c : List Event). told id (told id 0 sound.before) c) behind.split
      ∙ told_on id (told id 0 sound.before) later (append_to ask id (Answered (Refused (Behind from))) ∷ [])
      ∙ ap (λ (n : ℕ). told id n later) (told_behind ask id from (told id 0 sound.before))

  -- a step of the member's catch-up
  pub catching_up : ToldOn → (event : Event) (catch_up after : CatchingUp) (progress : Result Progress NoMemory) → old.stage ≡ CatchUp catch_up
      → CatchUpLeads catch_up event after progress → TakesProgress turn after progress (at Ended old) new result → LeadsOn accepts ask new event past result
  catching_up told_on event catch_up after progress stage leads takes =
      let rests = subst (λ (s : Stage). AtStage ask old.asked s sound.calls) stage sound.at in
      let from : ℕ = rests.1 in
      let later : List Event = rests.2 in
      let same : rests.0 ≡ turn.member = same_member ask old.asked rests.0 turn.member rests.3 is in
      let behind = subst (λ (m : Member). WasBehind ask m.id from later sound.calls) same rests.4 in
      let goes = subst (λ (m : Member). SoundCatchUp (target_of ask m.id) from catch_up later) same rests.5 in
      let led = leads (target_of ask turn.member.id) from later goes in
      caught_by event from later after progress
      (record { below = behind.below; split = ap (λ (c : List Event). event ∷ c) behind.split; own = led.0.own })
      (told_whole told_on turn.member.id from later behind) led.0 led.1 takes

-- the turn is that of the member at this place
pub record IsTurnOf (tail : List ℕ) (config : List Member) (place : ℕ) (turn : Turn) : Type 0 where
  pub view : turn.view ≡ tail
  pub member : slice_get config place ≡ Some turn.member
  pub members : turn.members ≡ length config

turn_by : (view : List ℕ) (members : List Member) (place : ℕ) (turn : Turn) (found : Option Member) → slice_get members place ≡ found
    → Some turn ≡ option_map (λ (m : Member). record { view = view; member = m; members = length members }) found
    → IsTurnOf view members place turn
turn_by view members place turn (Some member) found is =
    let same : turn ≡ record { view = view; member = member; members = length members } = ap (λ (o : Option Turn). unwrap_or o turn) is in
    record {
      view = ap (λ (t : Turn). t.view) same;
      member = found ∙ ap (λ (t : Turn). Some t.member) (sym same);
      members = ap (λ (t : Turn). t.members) same;
    }
turn_by view members place turn None found is = absurd (cc is)

-- whose turn it is
pub turn_of : (view : List ℕ) (members : List Member) (place : ℕ) (turn : Turn)
    → Some turn ≡ option_map (λ (m : Member). record { view = view; member = m; members = length members }) (slice_get members place)
    → IsTurnOf view members place turn
turn_of view members place turn is = turn_by view members place turn (slice_get members place) refl is

same_append : (ask : Asking) (old : State) (id : ℕ) (heard : Heard) → old.handle ≡ ask.handle → old.block ≡ ask.block
    → append_to ask id heard ≡ AtLink id (append_of old.handle old.block) heard
same_append ask old id heard handle block =
    ap (λ (h : List ℕ). AtLink id (append_of h ask.block) heard) (sym handle) ∙ ap (λ (b : MetaBlock). AtLink id (append_of old.handle b) heard) (sym block)

-- it goes on while there is more to do
pub still_live : (view : List ℕ) (members : List Member) (place bound : ℕ) (turn : Turn) (new : State) (result : Result RoundProgress NoMemory)
    → IsTurnOf view members place turn → Moves turn.members bound new result → (result ≡ Ok More) ↔ (is_live (length members) new ≡ true)
still_live view members place bound turn new result of moves =
    subst (λ (n : ℕ). (result ≡ Ok More) ↔ (is_live n new ≡ true)) of.members moves.live

-- at the end all were asked
pub all_asked : (view : List ℕ) (members : List Member) (place bound : ℕ) (turn : Turn) (new : State) (result : Result RoundProgress NoMemory)
    → IsTurnOf view members place turn → Moves turn.members bound new result → result ≡ Ok Asked → new.asked ≡ length members
all_asked view members place bound turn new result of moves is = moves.asked is ∙ of.members

-- The round is seen as it was before the step, and its stage was put aside.
module _ (view : List ℕ) (members : List Member) (turn : Turn) (inside now new : State) (seen : inside ≡ now) (of : IsTurnOf view members inside.asked turn)
    (result : Result RoundProgress NoMemory) where
  abbrev asking : List ℕ → MetaBlock → Asking
  asking handle block = record { handle = handle; block = block; view = view; members = members }

  module _ (accepts : Accepts) (dest : Stage) (ended : dest ≡ Ended) where
    pub leads_first : (heard : Heard) → inside.stage ≡ First → TakesFirst accepts turn heard (at dest inside) new result
        → Leads accepts view members now (AtLink turn.member.id (append_of now.handle now.block) heard) new result
    leads_first heard stage takes =
        subst (λ (s : State). Leads accepts view members s (AtLink turn.member.id (append_of s.handle s.block) heard) new result) seen
        (λ handle block past sound.
        subst (λ (e : Event). LeadsOn accepts (asking handle block) new e past result)
        (same_append (asking handle block) inside turn.member.id heard sound.handle sound.block)
        (first accepts (asking handle block) turn inside new result past sound of.view of.member heard stage
        (subst (λ (s : Stage). TakesFirst accepts turn heard (at s inside) new result) ended takes)))

    pub leads_again : (heard : Heard) → inside.stage ≡ Again → TakesAgain accepts turn heard (at dest inside) new result
        → Leads accepts view members now (AtLink turn.member.id (append_of now.handle now.block) heard) new result
    leads_again heard stage takes =
        subst (λ (s : State). Leads accepts view members s (AtLink turn.member.id (append_of s.handle s.block) heard) new result) seen
        (λ handle block past sound.
        subst (λ (e : Event). LeadsOn accepts (asking handle block) new e past result)
        (same_append (asking handle block) inside turn.member.id heard sound.handle sound.block)
        (again accepts (asking handle block) turn inside new result past sound of.view of.member heard stage
        (subst (λ (s : Stage). TakesAgain accepts turn heard (at s inside) new result) ended takes)))

    pub leads_catching_up : ToldOn → (event : Event) (catch_up after : CatchingUp) (progress : Result Progress NoMemory) → inside.stage ≡ CatchUp catch_up
        → CatchUpLeads catch_up event after progress → TakesProgress turn after progress (at dest inside) new result
        → Leads accepts view members now event new result
    leads_catching_up told_on event catch_up after progress stage leads takes =
        subst (λ (s : State). Leads accepts view members s event new result) seen
        (λ handle block past sound.
        catching_up accepts (asking handle block) turn inside new result past sound of.view of.member told_on event catch_up after progress stage leads
        (subst (λ (s : Stage). TakesProgress turn after progress (at s inside) new result) ended takes))

  inside_live : (stage : Stage) → inside.stage ≡ stage → is_live_at stage ≡ true → is_live (length members) inside ≡ true
  inside_live stage is live =
      ap (λ (s : Stage). is_live_at s && nat_lt inside.asked (length members)) is
      ∙ ap (λ (b : Bool). b && nat_lt inside.asked (length members)) live
      ∙ less (slice_get_within members inside.asked turn.member of.member)
    where
      less : inside.asked < length members → nat_lt inside.asked (length members) ≡ true
      less p = search (rules, p)

  -- it was live
  pub was_live : (stage : Stage) → inside.stage ≡ stage → is_live_at stage ≡ true → is_live (length members) now ≡ false → ⊥
  was_live stage is live ended =
      absurd (cc (sym (subst (λ (s : State). is_live (length members) s ≡ true) seen (inside_live stage is live)) ∙ ended))

  -- fewer calls are left
  pub fewer_left : (stage : Stage) → inside.stage ≡ stage → Moves turn.members (calls_from turn.members inside (calls_at inside.block.height stage)) new result
      → calls_left (length members) new < calls_left (length members) now
  fewer_left stage is moves =
      subst (λ (s : State). calls_left (length members) new < calls_left (length members) s) seen
      (subst (λ (n : ℕ). calls_left n new < calls_left n inside) of.members
      (subst (λ (s : Stage). calls_left turn.members new < calls_from turn.members inside (calls_at inside.block.height s)) (sym is) moves.falls))
