-- A step of a latest read, where its stage was put aside.
use Rattle.std.proofs.Common.{◌≡◌, ℕ, ◌+◌, ◌<◌, List, ◌∷◌, length, slice_get, Some, sym, ◌∙◌, subst, ap}
use Rattle.std.specs.Prelude.{Result, Ok, Err}
use Rattle.nim_base.specs.declared.no_memory.NoMemory.{NoMemory as MemoryWanted}
use Rattle.statement.specs.declared.member.Member.{Member}
use Rattle.statement.specs.Config.{IsConfig}
use Rattle.statement.specs.Receipt.{Receipt}
use Rattle.port.specs.declared.key.Key.TheVariants as keys
use Rattle.port.specs.declared.store_answers.Got.{Got}
use Rattle.port.specs.Call.{Latest}
use Rattle.port.specs.Cause.{Cause, NoMemory}
use Rattle.port.specs.Heard.{Heard}
use Rattle.port.specs.Reply.{LatestReply}
use Rattle.port.specs.Store.{Get, WasGot}
use Rattle.port.specs.Trace.{Event, AtStore, AtLink}
use Rattle.catch_up.specs.declared.progress.Progress.{Progress}
use Rattle.catch_up.specs.State.{State as CatchingUpState}
use Rattle.catch_up.specs.Sound.{Leads as CatchUpLeads}
use Rattle.view_ledger.specs.Receipts.{Accepts}
use Rattle.view_ledger.specs.Views.{ViewChain, newest_config}
use Rattle.op_parts.specs.declared.refresh_turn.RefreshProgress.{RefreshProgress}
use Rattle.op_parts.specs.declared.refresh_turn.RefreshProgress.TheVariants.{Fresh}
use Rattle.op_parts.specs.RefreshState.{RefreshState}
use Rattle.op_parts.specs.RefreshSound.{Goes as RefreshGoes, Leads as RefreshLeads, key_of}
use Rattle.op_latest.specs.declared.latest_head.LatestHead.{LatestHead}
use Rattle.op_latest.specs.LatestAsked.{LatestAsk, asking_of, latest_to}
use Rattle.op_latest.specs.LatestRow.{TakesRow}
use Rattle.op_latest.specs.LatestSound.{LatestSound, Leads}
use Rattle.op_latest.specs.LatestState.{Stage, Refreshing, Asking, CatchingUp, AskingAgain, Getting, Ended, State}
use Rattle.op_latest.specs.LatestSteps.{at, TakesFirst, TakesAgain, TakesProgress, TakesRefresh}
use Rattle.op_latest.specs.LatestTurn.{Second}
use Rattle.op_latest.specs.LatestVote.{MemberVote}
use Rattle.op_latest.proofs.LatestArms.{first_read, second_read, catch_up_call, row_get}
use Rattle.op_latest.proofs.LatestRefreshing.{refresh_call}
use Rattle.op_latest.proofs.LatestShown.{ReachedLaw, AheadLaw, MemberLaw}

module _ (by_reached : ReachedLaw) (by_ahead : AheadLaw) (by_member : MemberLaw) (accepts : Accepts) (inside now new : State) (seen : inside ≡ now) (aside : Stage) (ended : aside ≡ Ended (Err NoMemory)) where
  abbrev IsAt : ℕ → Member → Type 0
  IsAt place member = slice_get (newest_config inside.chain.configs) place ≡ Some member

  same_read : (ask : LatestAsk) (from : ViewChain) (past : List Event) (id : ℕ) (heard : Heard) → LatestSound accepts ask from inside past
      → latest_to (asking_of ask inside.chain) id heard ≡ AtLink id (Latest inside.handle inside.nonce) heard
  same_read ask from past id heard sound =
      ap (λ (h : List ℕ). AtLink id (Latest h ask.nonce) heard) (sym sound.handle) ∙ ap (λ (n : List ℕ). AtLink id (Latest inside.handle n) heard) (sym sound.nonce)

  pub leads_first : (votes : List MemberVote) (member : Member) (heard : Heard) → inside.stage ≡ Asking votes → IsConfig (newest_config inside.chain.configs)
      → length votes < length (newest_config inside.chain.configs) → IsAt (length votes) member → TakesFirst accepts member heard votes (at aside inside) new
      → Leads accepts now (AtLink member.id (Latest now.handle now.nonce) heard) new
  leads_first votes member heard stage config below is takes =
      subst (λ (s : State). Leads accepts s (AtLink member.id (Latest s.handle s.nonce) heard) new) seen
      (λ ask from past sound.
      subst (λ (e : Event). LatestSound accepts ask from new (e ∷ past)) (same_read ask from past member.id heard sound)
      (first_read by_reached by_ahead by_member accepts ask from inside new past votes member heard stage config below is
      (subst (λ (s : Stage). TakesFirst accepts member heard votes (at s inside) new) ended takes) sound))

  pub leads_again : (second : Second) (member : Member) (heard : Heard) → inside.stage ≡ AskingAgain second → IsConfig (newest_config inside.chain.configs)
      → IsAt second.place member → TakesAgain accepts member heard second (at aside inside) new
      → Leads accepts now (AtLink member.id (Latest now.handle now.nonce) heard) new
  leads_again second member heard stage config is takes =
      subst (λ (s : State). Leads accepts s (AtLink member.id (Latest s.handle s.nonce) heard) new) seen
      (λ ask from past sound.
      subst (λ (e : Event). LatestSound accepts ask from new (e ∷ past)) (same_read ask from past member.id heard sound)
      (second_read by_reached by_ahead by_member accepts ask from inside new past second member heard stage config is
      (subst (λ (s : Stage). TakesAgain accepts member heard second (at s inside) new) ended takes) sound))

  pub leads_catching_up : (second : Second) (member : Member) (event : Event) (before after : CatchingUpState) (progress : Result Progress MemoryWanted)
      → inside.stage ≡ CatchingUp second before → IsConfig (newest_config inside.chain.configs) → IsAt second.place member → CatchUpLeads before event after progress
      → TakesProgress member second after progress (at aside inside) new → Leads accepts now event new
  leads_catching_up second member event before after progress stage config is leads takes =
      subst (λ (s : State). Leads accepts s event new) seen
      (λ ask from past sound.
      catch_up_call by_reached by_ahead by_member accepts ask from inside new past second member event before after progress stage config is leads
      (subst (λ (s : Stage). TakesProgress member second after progress (at s inside) new) ended takes) sound)

  pub leads_row : (head : LatestHead) (receipt : Receipt) (height : ℕ) (got : Got) (answer : Result LatestReply Cause) → inside.stage ≡ Getting head receipt
      → head.count ≡ height + 1 → TakesRow inside.handle head receipt got answer → new ≡ at (Ended answer) (at aside inside)
      → Leads accepts now (AtStore (Get (keys.Row now.handle height)) (WasGot got)) new
  leads_row head receipt height got answer stage below takes is =
      subst (λ (s : State). Leads accepts s (AtStore (Get (keys.Row s.handle height)) (WasGot got)) new) seen
      (λ ask from past sound.
      subst (λ (h : List ℕ). LatestSound accepts ask from new (AtStore (Get (keys.Row h height)) (WasGot got) ∷ past)) (sym sound.handle)
      (row_get by_reached by_ahead by_member accepts ask from inside new past head receipt height got answer stage below
      (subst (λ (h : List ℕ). TakesRow h head receipt got answer) sound.handle takes) is sound))

  pub leads_refresh : (before after : RefreshState) (got : Got) (progress : Result RefreshProgress MemoryWanted) → inside.stage ≡ Refreshing before
      → RefreshGoes accepts before inside.chain (AtStore (Get (key_of before inside.chain)) (WasGot got)) after new.chain progress
      → RefreshLeads accepts before inside.chain (AtStore (Get (key_of before inside.chain)) (WasGot got)) after new.chain
      → TakesRefresh after progress (record (at aside inside) { chain = new.chain }) new → (progress ≡ Ok Fresh → IsConfig (newest_config new.chain.configs))
      → Leads accepts now (AtStore (Get (key_of before now.chain)) (WasGot got)) new
  leads_refresh before after got progress stage goes leads takes config =
      subst (λ (s : State). Leads accepts s (AtStore (Get (key_of before s.chain)) (WasGot got)) new) seen
      (λ ask from past sound.
      refresh_call by_ahead by_member accepts ask from inside new (AtStore (Get (key_of before inside.chain)) (WasGot got)) past before after progress stage goes leads
      (subst (λ (s : Stage). TakesRefresh after progress (record (at s inside) { chain = new.chain }) new) ended takes) config sound)
