-- A client that takes a reply, among the clients of a run.
use Rattle.std.proofs.Common.{◌≡◌, inl, inr, ◌≢◌, ℕ, zero, suc, ◌<◌, ◌-◌, List, [], ◌∷◌, ◌++◌, length, slice_get, Option, Some, Result, Err, IfOk, refl, sym, ap, subst, ◌∙◌, arith}
use Rattle.port.specs.Link.{LinkView}
use Rattle.port.specs.Store.{StoreView}
use Rattle.verifier.specs.declared.reply_fault.ReplyFault.{ReplyFault}
use Rattle.view_ledger.specs.Receipts.{Accepts}
use Rattle.view_ledger.specs.Views.{ViewChain}
use Rattle.client_pass.specs.declared.take_fault.TakeFault.{TakeFault}
use Rattle.client_pass.specs.declared.take_fault.TakeFault.TheVariants.{Again, NoMemory}
use Rattle.client_pass.specs.Act.{Act, Line}
use Rattle.client_pass.specs.Answers.{IfNotNoted, IfReplyNoted}
use Rattle.client_pass.specs.ClientPass.{ClientPass}
use Rattle.coordinator.specs.State.{State}
use Rattle.reply_taking.specs.Learning.{Grows, Learns, NotedAfterViews, TakesViews}
use Rattle.run_clients.specs.Clients.{Client, pass_at, with_pass}
use Rattle.client_acts.specs.declared.turn.Turn.{Turn}
use Rattle.client_acts.specs.ClientActs.{ClientActs, Acts, Each, IsOf}
use Rattle.client_acts.specs.Taking.{Took}
use Rattle.client_acts.specs.Turns.{turn_of}
use Rattle.client_acts.proofs.Acting.{acted, passes, pushed_turn, seen, stood_at}
use Rattle.client_acts.proofs.Staying.{idle, views_same}

-- ---- where memory was wanted first

pub none_noted : {A : Type 0} (result : Result A TakeFault) (P : Option ReplyFault → Type 0) → result ≡ Err NoMemory → IfReplyNoted result P
none_noted result P is = subst (λ r. IfReplyNoted r P) (sym is) tt

pub none_ok : {A : Type 0} (result : Result A TakeFault) (P : A → Type 0) → result ≡ Err NoMemory → IfOk result P
none_ok result P is = subst (λ r. IfOk r P) (sym is) tt

pub not_again : {A : Type 0} (result : Result A TakeFault) → result ≡ Err NoMemory → result ≢ Err Again
not_again result is again = absurd cc (is, again)

-- an element within a list
pub found : {X : Type 0} (xs : List X) (place : ℕ) → place < length xs → (x : X) × (slice_get xs place ≡ Some x)
found [] place within = absurd omega (arith, within)
found (x ∷ xs) zero within = (x, refl)
found (x ∷ xs) (suc place) within = found xs place (omega (arith, within))

module _ {C : Type 0} where
  within_clients : (clients : List (Client C)) (place : ℕ) (from : ClientPass C) → slice_get (passes clients) place ≡ Some from → place < length clients
  within_clients [] place from stood = absurd cc
  within_clients (client ∷ clients) zero from stood = omega arith
  within_clients (client ∷ clients) (suc place) from stood = omega (arith, within_clients clients place from stood)

  stood_inside : (first : ViewChain) (clients : List (Client C)) (turns : List Turn) (old : ClientActs C) (place : ℕ) (from : ClientPass C)
      → seen first clients turns ≡ old → slice_get old.clients place ≡ Some from → slice_get (passes clients) place ≡ Some from
  stood_inside first clients turns old place from view stood = subst (λ (old : ClientActs C). slice_get old.clients place ≡ Some from) (sym view) stood

  pub placed : (first : ViewChain) (clients : List (Client C)) (turns : List Turn) (old : ClientActs C) (place : ℕ) (from : ClientPass C)
      → seen first clients turns ≡ old → slice_get old.clients place ≡ Some from → place < length clients
  placed first clients turns old place from view stood = within_clients clients place from (stood_inside first clients turns old place from view stood)

  -- the client that stood there is the one that was lent
  pub own_pass : (first : ViewChain) (clients : List (Client C)) (turns : List Turn) (old : ClientActs C) (place : ℕ) (from pass : ClientPass C)
      → seen first clients turns ≡ old → Some from ≡ pass_at clients place → slice_get old.clients place ≡ Some pass → pass ≡ from
  own_pass first clients turns old place from pass view at stood =
      let here : slice_get (passes clients) place ≡ Some from = stood_at clients place from at in
      let there : slice_get (passes clients) place ≡ Some pass = stood_inside first clients turns old place pass view stood in
      cc (here, there)

  pub checked_by : (accepts : C → Accepts) (first : ViewChain) (checks : Accepts) (clients : List (Client C)) (place : ℕ) (from : ClientPass C)
      → Each (IsOf accepts first checks) (passes clients) → Some from ≡ pass_at clients place → accepts from.checker ≡ checks
  checked_by accepts first checks clients place from each at = (each place from (stood_at clients place from at)).1

  -- what the turn says of the lines before and after
  turn_told : (place calls : ℕ) (from to : ClientPass C) (before after : List Line) → before ≡ from.lines → after ≡ to.lines
      → turn_of place calls (length after - length before) ≡ turn_of place calls (length to.lines - length from.lines)
  turn_told place calls from to before after was is =
      ap (λ (lines : List Line). turn_of place calls (length lines - length before)) is ∙ ap (λ (lines : List Line). turn_of place calls (length to.lines - length lines)) was

  module _ {S L A : Type 0} (accepts : C → Accepts) (store_view : S → StoreView) (link_view : L → LinkView) where
    pub unbegun : (first : ViewChain) (clients : List (Client C)) (turns room : List Turn) (old : ClientActs C) (state : State S L C) (place calls : ℕ) (view : List ℕ)
        (result : Result A TakeFault) (act : Option ReplyFault → Act) (P : ClientPass C → ClientPass C → Type 0) (from : ClientPass C)
        → seen first clients turns ≡ old → room ≡ turns → slice_get old.clients place ≡ Some from → result ≡ Err NoMemory → P from from
        → Took accepts store_view link_view old (seen first clients room) state state place calls view result act P
    unbegun first clients turns room old state place calls view result act P from is rooms stood none says =
        let same : seen first clients room ≡ old = ap (λ (some : List Turn). seen first clients some) rooms ∙ is in
        record {
          from = from;
          to = from;
          acts = subst (λ (new : ClientActs C). Acts old new place from from) (sym same) (idle old place from stood);
          learns = inr (none, same, refl);
          turn = inr (none, same, refl);
          noted = none_noted result (λ fault. NotedAfterViews from from (act fault)) none;
          unnoted = subst (λ r. IfNotNoted r (TakesViews from from)) (sym none) (views_same from);
          says = says;
        }

    pub took : (first : ViewChain) (clients : List (Client C)) (turns room pushed : List Turn) (old : ClientActs C) (before after : State S L C) (place calls : ℕ) (view : List ℕ)
        (result : Result A TakeFault) (act : Option ReplyFault → Act) (P : ClientPass C → ClientPass C → Type 0) (from to : ClientPass C) (had has : List Line)
        → seen first clients turns ≡ old → Some from ≡ pass_at clients place
        → room ≡ turns → had ≡ from.lines → has ≡ to.lines → pushed ≡ room ++ turn_of place calls (length has - length had) ∷ []
        → Grows from to → Learns accepts store_view link_view before after from to view
        → IfReplyNoted result (λ fault. NotedAfterViews from to (act fault)) → IfNotNoted result (TakesViews from to) → P from to
        → Took accepts store_view link_view old (seen first (with_pass clients place to) pushed) before after place calls view result act P
    took first clients turns room pushed old before after place calls view result act P from to had has is at rooms was now push grows learns noted unnoted says = record {
      from = from;
      to = to;
      acts = acted first clients turns pushed old place from to is at grows;
      learns = inl learns;
      turn = inl (pushed_turn first clients turns room pushed old (turn_of place calls (length has - length had)) is rooms push
          ∙ ap (λ (t : Turn). old.turns ++ t ∷ []) (turn_told place calls from to had has was now));
      noted = noted;
      unnoted = unnoted;
      says = says;
    }
