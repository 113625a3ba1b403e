-- The call of each stage is one step of the store or the link.
use Rattle.std.proofs.Common.{◌≡◌, ◌⊎◌, inl, inr, List, [], ◌∷◌, refl, sym, subst}
use Rattle.statement.specs.declared.member.Member.{Member}
use Rattle.port.specs.declared.store_answers.Put.{Put}
use Rattle.port.specs.declared.store_answers.Attached.{Attached}
use Rattle.port.specs.Heard.{Heard}
use Rattle.port.specs.Link.{LinkView, LinkStep}
use Rattle.port.specs.Store.{StoreView, StoreStep, WasPut, WasAttached}
use Rattle.port.specs.Trace.{Event, AtLink, Ran}
use Rattle.port.specs.View.{ViewRow}
use Rattle.view_ledger.specs.Views.{ViewChain}
use Rattle.op_reconf.specs.declared.stage.Stage.{Stage}
use Rattle.op_reconf.specs.declared.stage.Stage.TheVariants as stages
use Rattle.op_reconf.specs.SettingUp.{SettingUp, IsMember, next_call}
use Rattle.op_reconf.specs.First.{first_config, first_put, first_mark, put_event, mark_event}
use Rattle.op_reconf.specs.State.{StageState, stage_of}
use Rattle.op_reconf.specs.Steps.{wanting, TakesPut, TakesHeard, TakesMark, Takes}

module _ {S L : Type 0} (store_view : S → StoreView) (link_view : L → LinkView) (chain : ViewChain) (stage : Stage) (new : StageState) where
  -- by some calls, from these objects to those, the stage becomes the new one
  abbrev pub Comes : S → L → S → L → Type 0
  Comes s l s' l' = (events : List Event) × Ran store_view link_view s l events s' l' × Takes chain (stage_of stage) events new

  pub puts_view : (s s' : S) (l : L) → stage ≡ stages.Begin
      → ((put : Put) × StoreStep store_view s s' (first_put (first_config chain)) (WasPut put) × TakesPut chain put new) ⊎ ((s' ≡ s) × (new ≡ wanting))
      → Comes s l s' l
  puts_view s s' l is (inl put) = (
    put_event (first_config chain) put.0 ∷ [],
    (s, l, (refl, refl), (put.1, refl)),
    subst (λ (at : Stage). Takes chain (stage_of at) (put_event (first_config chain) put.0 ∷ []) new) (sym is) (refl, put.2),
  )
  puts_view s s' l is (inr wants) = ([], (wants.0, refl), subst (λ (at : Stage). Takes chain (stage_of at) [] new) (sym is) wants.1)

  pub asks_member : (s : S) (l l' : L) (set_up : SettingUp) → stage ≡ stages.Members set_up
      → (member : Member) × (heard : Heard) × IsMember set_up.ask set_up.asked member × LinkStep link_view l l' member.id (next_call set_up) heard
      × TakesHeard set_up member.id heard new
      → Comes s l s l'
  asks_member s l l' set_up is asked =
      let event : Event = AtLink asked.0.id (next_call set_up) asked.1 in (
        event ∷ [],
        (s, l, (refl, refl), (asked.3, refl)),
        subst (λ (at : Stage). Takes chain (stage_of at) (event ∷ []) new) (sym is) (asked.0, asked.2, refl, refl, asked.4),
      )

  pub marks_view : (s s' : S) (l : L) (row : ViewRow) → stage ≡ stages.Mark row
      → (attached : Attached) × StoreStep store_view s s' first_mark (WasAttached attached) × TakesMark row attached new
      → Comes s l s' l
  marks_view s s' l row is marked = (
    mark_event marked.0 ∷ [],
    (s, l, (refl, refl), (marked.1, refl)),
    subst (λ (at : Stage). Takes chain (stage_of at) (mark_event marked.0 ∷ []) new) (sym is) (refl, marked.2),
  )
