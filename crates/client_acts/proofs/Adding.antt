-- A client more, and what the clients leave at the end.
use Rattle.std.proofs.Common.{◌≡◌, ◌≢◌, ℕ, suc, List, [], ◌∷◌, ◌++◌, map, slice_get, Some, None, Result, Ok, Err, IfOk, OnOk, refl, sym, ap, subst, ◌∙◌}
use Rattle.std.specs.List.{AllByRecursion}
use Rattle.view_ledger.specs.Receipts.{Accepts}
use Rattle.view_ledger.specs.Views.{ViewChain}
use Rattle.client_pass.specs.Act.{Line}
use Rattle.client_pass.specs.ClientList.{IsClientList}
use Rattle.client_pass.specs.ClientPass.{ClientPass}
use Rattle.run_clients.specs.Clients.{Client, HasClientLines, client, place_of}
use Rattle.client_acts.specs.declared.turn.Turn.{Turn}
use Rattle.client_acts.specs.ClientActs.{ClientActs, AreNoted, Each, IsOf}
use Rattle.client_acts.proofs.Placing.{count_push, each_push, unnamed}
use Rattle.client_acts.proofs.Acting.{passes, seen}

module _ {C : Type 0} where
  passes_push : (clients : List (Client C)) (name : List ℕ) (pass : ClientPass C) → passes (clients ++ client name pass ∷ []) ≡ passes clients ++ pass ∷ []
  passes_push [] name pass = refl
  passes_push (first ∷ clients) name pass = ap (λ (rest : List (ClientPass C)). first.pass ∷ rest) (passes_push clients name pass)

  passes_added : (clients added : List (Client C)) (name : List ℕ) (pass : ClientPass C) → added ≡ clients ++ client name pass ∷ [] → passes added ≡ passes clients ++ pass ∷ []
  passes_added clients added name pass is = ap (λ (all : List (Client C)). passes all) is ∙ passes_push clients name pass

  -- no client has this name yet
  pub new_name : (first : ViewChain) (clients : List (Client C)) (turns : List Turn) (old : ClientActs C) (name : List ℕ)
      → seen first clients turns ≡ old → ((place : ℕ) → slice_get old.names place ≢ Some name) → place_of clients name ≡ None
  new_name first clients turns old name view none =
      unnamed clients name (λ place. subst (λ (old : ClientActs C). slice_get old.names place ≢ Some name) (sym view) (none place))

  -- a client that did nothing yet
  pub added_noted : (accepts : C → Accepts) (first : ViewChain) (checks : Accepts) (clients added : List (Client C)) (turns : List Turn) (name : List ℕ) (pass : ClientPass C)
      → AreNoted accepts first checks (passes clients) turns → added ≡ clients ++ client name pass ∷ []
      → pass.first ≡ first → accepts pass.checker ≡ checks → pass.lines ≡ []
      → AreNoted accepts first checks (passes added) turns
  added_noted accepts first checks clients added turns name pass noted is begins checked idle =
      subst (λ (all : List (ClientPass C)). AreNoted accepts first checks all turns) (sym (passes_added clients added name pass is)) (
        each_push (IsOf accepts first checks) (passes clients) pass noted.0 (begins, checked),
        λ place. noted.1 place ∙ sym (count_push (passes clients) pass place idle),
      )

  pub added_seen : (first : ViewChain) (clients added : List (Client C)) (turns : List Turn) (old : ClientActs C) (name : List ℕ) (pass : ClientPass C)
      → seen first clients turns ≡ old → added ≡ clients ++ client name pass ∷ [] → passes added ≡ old.clients ++ pass ∷ []
  added_seen first clients added turns old name pass view is =
      passes_added clients added name pass is ∙ ap (λ (old : ClientActs C). old.clients ++ pass ∷ []) view

  -- ---- at the end

  lines_seen : (clients : List (Client C)) → map (λ client. client.pass.lines) clients ≡ map (λ pass. pass.lines) (passes clients)
  lines_seen [] = refl
  lines_seen (first ∷ clients) = ap (λ (rest : List (List Line)). first.pass.lines ∷ rest) (lines_seen clients)

  all_lists : (accepts : C → Accepts) (first : ViewChain) (checks : Accepts) (clients : List (Client C)) → Each (IsOf accepts first checks) (passes clients)
      → AllByRecursion (λ (client : Client C). HasClientLines (accepts client.pass.checker) client.pass) clients
      → AllByRecursion (IsClientList checks first) (map (λ client. client.pass.lines) clients)
  all_lists accepts first checks [] each kept = tt
  all_lists accepts first checks (own ∷ clients) each kept =
      let of = each 0 own.pass refl in (
        subst (λ (by : Accepts). IsClientList by first own.pass.lines) of.1
            (subst (λ (chain : ViewChain). IsClientList (accepts own.pass.checker) chain own.pass.lines) of.0 kept.0.client),
        all_lists accepts first checks clients (λ place. each (suc place)) kept.1,
      )

  pub ended_lines : {V E : Type 0} (result : Result V E) (lists_of : V → List (List Line)) (first : ViewChain) (clients : List (Client C)) (turns : List Turn) (old : ClientActs C)
      → seen first clients turns ≡ old → IfOk result (λ lists. lists_of lists ≡ map (λ client. client.pass.lines) clients)
      → IfOk result (λ lists. lists_of lists ≡ map (λ client. client.lines) old.clients)
  ended_lines (Err fault) lists_of first clients turns old view lines = tt
  ended_lines (Ok lists) lists_of first clients turns old view lines =
      lines ∙ lines_seen clients ∙ ap (λ (old : ClientActs C). map (λ client. client.lines) old.clients) view

  pub ended_clients : {V E : Type 0} (result : Result V E) (lists_of : V → List (List Line)) (accepts : C → Accepts) (first : ViewChain) (checks : Accepts) (clients : List (Client C)) (turns : List Turn) (old : ClientActs C)
      → seen first clients turns ≡ old → Each (IsOf accepts first checks) (passes clients)
      → IfOk result (λ lists. lists_of lists ≡ map (λ client. client.pass.lines) clients)
      → OnOk result (AllByRecursion (λ (client : Client C). HasClientLines (accepts client.pass.checker) client.pass) clients)
      → IfOk result (λ lists. AllByRecursion (IsClientList checks old.first) (lists_of lists))
  ended_clients (Err fault) lists_of accepts first checks clients turns old view each lines kept = tt
  ended_clients (Ok lists) lists_of accepts first checks clients turns old view each lines kept =
      subst (λ (old : ClientActs C). AllByRecursion (IsClientList checks old.first) (lists_of lists)) view
      (subst (λ (all : List (List Line)). AllByRecursion (IsClientList checks first) all) (sym lines) (all_lists accepts first checks clients each kept))
