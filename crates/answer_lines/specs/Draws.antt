-- Which draws stand among the lines of clients.
use Rattle.std.specs.Prelude.{◌≡◌, ℕ, List, slice_get, Some}
use Rattle.chain_block.specs.declared.entry.Entry.{Entry}
use Rattle.client_pass.specs.ClientList.{IsAnswered, IsForEntry, IsForRead}
use Rattle.client_pass.specs.ClientPass.{ClientPass}

-- this holds of the client at the place
abbrev pub OfClient : {C : Type 0} → List (ClientPass C) → ℕ → (ClientPass C → Type 0) → Type 0
OfClient {C} clients place P = (pass : ClientPass C) × (slice_get clients place ≡ Some pass) × P pass

-- the draw of this number of the client at the place is for an append of this entry
abbrev pub DrewEntry : {C : Type 0} → List (ClientPass C) → ℕ → ℕ → Entry → Type 0
DrewEntry clients place draw entry = OfClient clients place (λ pass. IsForEntry pass.lines draw entry)

-- it is for a latest read, and this is its nonce
abbrev pub DrewRead : {C : Type 0} → List (ClientPass C) → ℕ → ℕ → List ℕ → Type 0
DrewRead clients place draw nonce = OfClient clients place (λ pass. IsForRead pass.lines draw nonce)

-- no accepted reply names it
abbrev pub IsOpen : {C : Type 0} → List (ClientPass C) → ℕ → ℕ → Type 0
IsOpen {C} clients place draw = (pass : ClientPass C) → slice_get clients place ≡ Some pass → IsAnswered pass.lines draw → ⊥
