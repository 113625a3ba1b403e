-- One client that does something, among the clients of a run.
use Rattle.std.proofs.Common.{◌≡◌, ℕ, zero, suc, ◌+◌, ◌-◌, List, [], ◌∷◌, ◌++◌, length, map, slice_get, Option, Some, None, IfSome, IfNone, Result, Ok, Err, OnErr, refl, sym, ap, subst, ◌∙◌, arith}
use Rattle.std.proofs.lemmas.List.{length-append}
use Rattle.chain_block.specs.declared.entry.Entry.{Entry}
use Rattle.chain_block.specs.Entry.{bare}
use Rattle.view_ledger.specs.Receipts.{Accepts}
use Rattle.view_ledger.specs.Views.{ViewChain}
use Rattle.client_pass.specs.Act.{Act, Draw, Line, line}
use Rattle.client_pass.specs.ClientList.{IsAnswered, IsForEntry, IsForRead}
use Rattle.client_pass.specs.ClientPass.{ClientPass, Notes}
use Rattle.reply_taking.specs.Learning.{Grows}
use Rattle.run_clients.specs.Clients.{Client, pass_at, with_pass}
use Rattle.client_acts.specs.declared.turn.Turn.{Turn}
use Rattle.client_acts.specs.Turns.{lines_by}
use Rattle.client_acts.specs.ClientActs.{ClientActs, Acts, AreNoted, Each, IsOf, line_count}
use Rattle.client_acts.proofs.Placing.{counted_set, each_set, get_set, names_with, pass_got, passes_with}

-- ---- a pass that grows

pub notes_grow : {C : Type 0} (old new : ClientPass C) (act : Act) → Notes old new act → Grows old new
notes_grow {C} old new act notes = record {
  client = ap (λ (pass : ClientPass C). pass.client) notes.noted;
  checker = ap (λ (pass : ClientPass C). pass.checker) notes.noted;
  first = ap (λ (pass : ClientPass C). pass.first) notes.noted;
  more = line notes.stamp act ∷ [];
  lines = ap (λ (pass : ClientPass C). pass.lines) notes.noted;
}

pub notes_one : {C : Type 0} (old new : ClientPass C) (act : Act) → Notes old new act → length new.lines ≡ length old.lines + 1
notes_one {C} old new act notes =
    ap (λ (pass : ClientPass C). length pass.lines) notes.noted ∙ length-append old.lines (line notes.stamp act ∷ [])

pub draws_keep_chain : {C : Type 0} (old new : ClientPass C) (nonce : List ℕ) (intent : Option Entry) → Notes old new (Draw nonce intent) → new.chain ≡ old.chain
draws_keep_chain {C} old new nonce intent notes = ap (λ (pass : ClientPass C). pass.chain) notes.noted

pub grown_by : {C : Type 0} (old new : ClientPass C) → Grows old new → length new.lines ≡ length old.lines + (length new.lines - length old.lines)
grown_by old new grows =
    let more : length new.lines ≡ length old.lines + length grows.more = ap length grows.lines ∙ length-append old.lines grows.more in
    omega (arith, more)

-- the same by the lines before and after
pub count_grown : {C : Type 0} (old new : ClientPass C) (before after : List Line) → Grows old new → before ≡ old.lines → after ≡ new.lines
    → length new.lines ≡ length old.lines + (length after - length before)
count_grown old new before after grows was is = omega (arith, grown_by old new grows, ap length was, ap length is)

-- ---- clients as contracts see them

module _ {C : Type 0} where
  abbrev pub passes : List (Client C) → List (ClientPass C)
  passes clients = map (λ client. client.pass) clients

  abbrev pub seen : ViewChain → List (Client C) → List Turn → ClientActs C
  seen first clients turns = record { first = first; names = map (λ client. client.name) clients; clients = passes clients; turns = turns }

  pub stood_at : (clients : List (Client C)) (place : ℕ) (from : ClientPass C) → Some from ≡ pass_at clients place → slice_get (passes clients) place ≡ Some from
  stood_at clients place from at = sym (pass_got clients place) ∙ sym at

  pub stands_at : (clients : List (Client C)) (place : ℕ) (from to : ClientPass C) → Some from ≡ pass_at clients place → slice_get (passes (with_pass clients place to)) place ≡ Some to
  stands_at clients place from to at =
      ap (λ (all : List (ClientPass C)). slice_get all place) (passes_with clients place to) ∙ get_set (passes clients) place from to (stood_at clients place from at)

  pub with_same : (clients : List (Client C)) (place : ℕ) (from to : ClientPass C) → Some from ≡ pass_at clients place → to ≡ from → with_pass clients place to ≡ clients
  with_same [] place from to at same = refl
  with_same (client ∷ clients) zero from to at same =
      let own : to ≡ client.pass = cc (at, same) in
      ap (λ (pass : ClientPass C). record client { pass = pass } ∷ clients) own
  with_same (client ∷ clients) (suc place) from to at same = ap (λ (rest : List (Client C)). client ∷ rest) (with_same clients place from to at same)

  -- a client did more, and it was noted
  pub acted : (first : ViewChain) (clients : List (Client C)) (turns pushed : List Turn) (old : ClientActs C) (place : ℕ) (from to : ClientPass C)
      → seen first clients turns ≡ old → Some from ≡ pass_at clients place → Grows from to
      → Acts old (seen first (with_pass clients place to) pushed) place from to
  acted first clients turns pushed old place from to view at grows =
      subst (λ (old : ClientActs C). Acts old (seen first (with_pass clients place to) pushed) place from to) view (record {
        stood = stood_at clients place from at;
        stands = passes_with clients place to;
        grows = grows;
        first = refl;
        names = names_with clients place to;
      })

  -- a client that is as it was
  pub same_seen : (first : ViewChain) (clients : List (Client C)) (turns room : List Turn) (old : ClientActs C) (place : ℕ) (from to : ClientPass C)
      → seen first clients turns ≡ old → Some from ≡ pass_at clients place → to ≡ from → room ≡ turns
      → seen first (with_pass clients place to) room ≡ old
  same_seen first clients turns room old place from to view at same rooms =
      ap (λ (all : List (Client C)). seen first all room) (with_same clients place from to at same) ∙ ap (λ (some : List Turn). seen first clients some) rooms ∙ view

  pub pushed_turn : (first : ViewChain) (clients : List (Client C)) (turns room pushed : List Turn) (old : ClientActs C) (turn : Turn)
      → seen first clients turns ≡ old → room ≡ turns → pushed ≡ room ++ turn ∷ [] → pushed ≡ old.turns ++ turn ∷ []
  pushed_turn first clients turns room pushed old turn view rooms push =
      push ∙ ap (λ (some : List Turn). some ++ turn ∷ []) rooms ∙ ap (λ (old : ClientActs C). old.turns ++ turn ∷ []) view

  module _ (accepts : C → Accepts) (first : ViewChain) (checks : Accepts) where
    pub noted_same : (clients : List (Client C)) (turns room : List Turn) (place : ℕ) (from to : ClientPass C)
        → AreNoted accepts first checks (passes clients) turns → Some from ≡ pass_at clients place → to ≡ from → room ≡ turns
        → AreNoted accepts first checks (passes (with_pass clients place to)) room
    noted_same clients turns room place from to noted at same rooms =
        subst (λ (all : List (Client C)). AreNoted accepts first checks (passes all) room) (sym (with_same clients place from to at same))
        (subst (λ (some : List Turn). AreNoted accepts first checks (passes clients) some) (sym rooms) noted)

    each_noted : (clients : List (Client C)) (place : ℕ) (from to : ClientPass C)
        → Each (IsOf accepts first checks) (passes clients) → Some from ≡ pass_at clients place → Grows from to
        → Each (IsOf accepts first checks) (passes (with_pass clients place to))
    each_noted clients place from to each at grows =
        let was = each place from (stood_at clients place from at) in
        subst (λ (all : List (ClientPass C)). Each (IsOf accepts first checks) all) (sym (passes_with clients place to))
        (each_set (IsOf accepts first checks) (passes clients) place to each (grows.first ∙ was.0, ap accepts grows.checker ∙ was.1))

    pub noted_more : (clients : List (Client C)) (turns room pushed : List Turn) (turn : Turn) (from to : ClientPass C)
        → AreNoted accepts first checks (passes clients) turns → Some from ≡ pass_at clients turn.client → Grows from to
        → length to.lines ≡ length from.lines + turn.lines → room ≡ turns → pushed ≡ room ++ turn ∷ []
        → AreNoted accepts first checks (passes (with_pass clients turn.client to)) pushed
    noted_more clients turns room pushed turn from to noted at grows count rooms push =
        let all : pushed ≡ turns ++ turn ∷ [] = push ∙ ap (λ (some : List Turn). some ++ turn ∷ []) rooms in (
          each_noted clients turn.client from to noted.0 at grows,
          λ p.
              ap (λ (some : List Turn). lines_by p some) all
              ∙ counted_set (passes clients) turns turn from to (stood_at clients turn.client from at) count noted.1 p
              ∙ ap (λ (some : List (ClientPass C)). line_count some p) (sym (passes_with clients turn.client to)),
        )

  -- ---- what a draw is good for

  pub drawn_for : (clients : List (Client C)) (place : ℕ) (from to : ClientPass C) (intent : Option Entry) (number : ℕ) → Some from ≡ pass_at clients place
      → IfSome intent (λ entry. IsForEntry to.lines number (bare entry)) → (IsAnswered to.lines number → ⊥)
      → IfSome intent (λ entry. (pass : ClientPass C) × (slice_get (passes (with_pass clients place to)) place ≡ Some pass) × IsForEntry pass.lines number (bare entry) × (IsAnswered pass.lines number → ⊥))
  drawn_for clients place from to None number at is_for opened = tt
  drawn_for clients place from to (Some entry) number at is_for opened = (to, stands_at clients place from to at, is_for, opened)

  pub drawn_read : (clients : List (Client C)) (place : ℕ) (from to : ClientPass C) (intent : Option Entry) (number : ℕ) (nonce : List ℕ) → Some from ≡ pass_at clients place
      → IfNone intent (IsForRead to.lines number nonce) → (IsAnswered to.lines number → ⊥)
      → IfNone intent ((pass : ClientPass C) × (slice_get (passes (with_pass clients place to)) place ≡ Some pass) × IsForRead pass.lines number nonce × (IsAnswered pass.lines number → ⊥))
  drawn_read clients place from to (Some entry) number nonce at is_for opened = tt
  drawn_read clients place from to None number nonce at is_for opened = (to, stands_at clients place from to at, is_for, opened)

pub on_err : {A E : Type 0} {P : Type 0} (result : Result A E) → P → OnErr result P
on_err (Ok value) holds = tt
on_err (Err fault) holds = holds
