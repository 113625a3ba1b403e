-- What contracts see of the clients of a run.
use Rattle.std.specs.Prelude.{◌≡◌, ℕ, zero, suc, List, [], ◌∷◌, slice_get, Option, Some, None, option_map, if◌then◌else◌}
use Rattle.std.specs.List.Sorted.{IsStrictlyIncreasing}
use Rattle.std.specs.Str.{bytes_eq}
use Rattle.client_pass.specs.ClientList.{IsClientList, chain_of, stamps_of}
use Rattle.client_pass.specs.ClientPass.{ClientPass}
use Rattle.view_ledger.specs.Receipts.{Accepts}

-- a client's name and its pass
pub record Client (C : Type 0) : Type 0 where
  pub name : List ℕ
  pub pass : ClientPass C

abbrev pub client : {C : Type 0} → List ℕ → ClientPass C → Client C
client name pass = record { name = name; pass = pass }

-- the client at this place has this name
abbrev pub IsNamed : {C : Type 0} → List (Client C) → ℕ → List ℕ → Type 0
IsNamed {C} clients place name = (found : Client C) × (slice_get clients place ≡ Some found) × (found.name ≡ name)

-- the first place of a name
abbrev pub place_of : {C : Type 0} → List (Client C) → List ℕ → Option ℕ
place_of [] name = None
place_of (client ∷ clients) name = if bytes_eq client.name name then Some 0 else option_map (λ place. suc place) (place_of clients name)

-- no name stands twice
abbrev pub AreApart : {C : Type 0} → List (Client C) → Type 0
AreApart [] = Unit {0}
AreApart (client ∷ clients) = (place_of clients client.name ≡ None) × AreApart clients

-- the pass of the client at a place
abbrev pub pass_at : {C : Type 0} → List (Client C) → ℕ → Option (ClientPass C)
pass_at clients place = option_map (λ client. client.pass) (slice_get clients place)

-- the clients with this pass at a place
abbrev pub with_pass : {C : Type 0} → List (Client C) → ℕ → ClientPass C → List (Client C)
with_pass [] place pass = []
with_pass (client ∷ clients) zero pass = record client { pass = pass } ∷ clients
with_pass (client ∷ clients) (suc place) pass = client ∷ with_pass clients place pass

-- The pass has the lines of a client, by what its checker accepts, that lead from its first chain to its chain, with rising stamps.
pub record HasClientLines {C : Type 0} (accepts : Accepts) (pass : ClientPass C) : Type 0 where
  pub client : IsClientList accepts pass.first pass.lines
  pub replayed : chain_of pass.first pass.lines ≡ pass.chain
  pub rising : IsStrictlyIncreasing (stamps_of pass.lines)
