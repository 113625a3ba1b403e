-- What a step makes of a settling.
use Rattle.std.proofs.Common.{◌≡◌, ℕ, ◌-◌, List, ◌∷◌, length, sym, ◌∙◌, subst, ap}
use Rattle.std.specs.Prelude.{Result, Ok}
use Rattle.chain_block.specs.declared.meta_block.MetaBlock.{MetaBlock}
use Rattle.nim_base.specs.declared.no_memory.NoMemory.{NoMemory}
use Rattle.statement.specs.declared.member.Member.{Member}
use Rattle.statement.specs.Config.{IsConfig}
use Rattle.statement.specs.Receipt.{Receipt, receipt_bytes}
use Rattle.port.specs.declared.key.Key.TheVariants as keys
use Rattle.port.specs.declared.store_answers.Got.{Got}
use Rattle.port.specs.declared.store_answers.Attached.{Attached}
use Rattle.port.specs.Cause.{MemberCause}
use Rattle.port.specs.Store.{Get, Attach, WasGot, WasAttached}
use Rattle.port.specs.Trace.{Event, AtStore}
use Rattle.view_ledger.specs.Receipts.{Accepts}
use Rattle.view_ledger.specs.Views.{newest_tail, newest_config}
use Rattle.op_parts.specs.declared.round_progress.RoundProgress.{RoundProgress}
use Rattle.op_parts.specs.declared.round_progress.RoundProgress.TheVariants.{Asked}
use Rattle.op_parts.specs.declared.walk.WalkProgress.{WalkProgress}
use Rattle.op_parts.specs.RoundSound.{Leads as RoundLeads}
use Rattle.op_parts.specs.RoundState.{State as Round}
use Rattle.op_parts.specs.Walk.{Walk, Place, Says as WalkSays}
use Rattle.settle.specs.declared.progress.SettleProgress.{SettleProgress}
use Rattle.settle.specs.Settling.{Settling, top_block}
use Rattle.settle.specs.State.{Stage, AtRound, AtWalk, AtAttach, State}
use Rattle.settle.specs.Sound.{Sound, IsAt, got_at}
use Rattle.settle.specs.Leads.{Says, Leads}
use Rattle.settle.specs.Turn.{TakesRound, TakesWalk, TakesAttached}
use Rattle.settle.proofs.LowerLaws.{Laws, Limits}
use Rattle.settle.proofs.Asking.{Led, by_round, some_views}
use Rattle.settle.proofs.WalkSteps.{by_walk}
use Rattle.settle.proofs.Attaching.{by_attach}

-- the same at equal ledgers, stages and answers
pub carried : (P : List ℕ → Stage → Result SettleProgress NoMemory → Type 0) (handle ledger : List ℕ) (stage at : Stage) (answer says : Result SettleProgress NoMemory)
    → handle ≡ ledger → at ≡ stage → says ≡ answer → P handle stage answer → P ledger at says
carried P handle ledger stage at answer says same at_is says_is is =
    subst (λ (h : List ℕ). P h at says) same
    (subst (λ (s : Stage). P handle s says) (sym at_is)
    (subst (λ (r : Result SettleProgress NoMemory). P handle stage r) (sym says_is) is))

module _ (laws : Laws) (accepts : Accepts) (configs : List (List Member)) (config : IsConfig (newest_config configs)) (old new : State) (kept : new.handle ≡ old.handle)
    (answer : Result SettleProgress NoMemory) where
  abbrev settling_of : List ℕ → MetaBlock → Settling
  settling_of handle block = record { handle = handle; block = block; configs = configs }

  pub leads_round : Limits accepts → (round after : Round) (place : Place) (event : Event) (progress : Result RoundProgress NoMemory) → old.stage ≡ AtRound round place
      → RoundLeads accepts (newest_tail configs) (newest_config configs) round event after progress → (progress ≡ Ok Asked → after.asked ≡ length (newest_config configs))
      → TakesRound configs old.handle after place progress new.stage answer → Leads accepts configs old event new answer
  leads_round limits round after place event progress stage leads all takes handle block past sound =
      let settling : Settling = settling_of handle block in
      let asked = subst (λ (s : Stage). IsAt accepts settling past s) stage sound.at in
      let led = leads handle (top_block settling place) asked.calls asked.sound in
      let is : Led accepts settling (event ∷ past) new.stage answer =
      by_round laws accepts limits settling config round after place past event asked led.0 old.handle sound.handle progress led.1 all new.stage answer takes in
      (record { handle = kept ∙ sound.handle; at = is.0 }, is.1)

  pub leads_walk : (walk after : Walk) (causes : List (ℕ × MemberCause)) (got : Got) (progress : Result WalkProgress NoMemory) → old.stage ≡ AtWalk walk causes → after.handle ≡ walk.handle
      → WalkSays accepts configs walk.handle walk.place got after.place progress → TakesWalk configs old.handle after causes progress new.stage answer
      → Leads accepts configs old (AtStore (Get (keys.Row walk.handle walk.place.height)) (WasGot got)) new answer
  leads_walk walk after causes got progress stage same says takes handle block past sound =
      let settling : Settling = settling_of handle block in
      let at = subst (λ (s : Stage). IsAt accepts settling past s) stage sound.at in
      let told : WalkSays accepts configs handle walk.place got after.place progress = subst (λ (h : List ℕ). WalkSays accepts configs h walk.place got after.place progress) at.0 says in
      let is : Led accepts settling (got_at settling walk.place.height got ∷ past) new.stage answer =
      by_walk laws accepts settling (some_views configs config.some) causes walk.place past at.1 got after (same ∙ at.0) old.handle sound.handle progress told new.stage answer takes in
      subst (λ (h : List ℕ). Sound accepts settling new (AtStore (Get (keys.Row h walk.place.height)) (WasGot got) ∷ past)
      × Says accepts settling (AtStore (Get (keys.Row h walk.place.height)) (WasGot got) ∷ past) answer) (sym at.0)
      (record { handle = kept ∙ sound.handle; at = is.0 }, is.1)

  pub leads_attach : (receipt : Receipt) (bytes : List ℕ) (place : Place) (attached : Attached) (ledger : List ℕ) → ledger ≡ old.handle → old.stage ≡ AtAttach receipt bytes place
      → TakesAttached receipt place attached new.stage answer
      → Leads accepts configs old (AtStore (Attach (keys.Row ledger (place.height - 1)) bytes) (WasAttached attached)) new answer
  leads_attach receipt bytes place attached ledger ledger_is stage takes handle block past sound =
      let settling : Settling = settling_of handle block in
      let at = subst (λ (s : Stage). IsAt accepts settling past s) stage sound.at in
      let event : Event = AtStore (Attach (keys.Row ledger (place.height - 1)) bytes) (WasAttached attached) in
      let is_event : event ≡ AtStore (Attach (keys.Row handle (place.height - 1)) (receipt_bytes receipt)) (WasAttached attached) =
      ap (λ (h : List ℕ). AtStore (Attach (keys.Row h (place.height - 1)) bytes) (WasAttached attached)) (ledger_is ∙ sound.handle)
      ∙ ap (λ (b : List ℕ). AtStore (Attach (keys.Row handle (place.height - 1)) b) (WasAttached attached)) at.0 in
      let is : Led accepts settling (event ∷ past) new.stage answer =
      by_attach laws accepts settling receipt place past at.1 attached event is_event new.stage answer takes in
      (record { handle = kept ∙ sound.handle; at = is.0 }, is.1)
