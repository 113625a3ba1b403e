-- What operations are begun for.
use Rattle.std.specs.Prelude.{◌≡◌, ◌<◌, ◌^◌, ℕ, List, length, slice_get, Some}
use Rattle.std.specs.List.{AllByRecursion}
use Rattle.chain_block.specs.declared.entry.Entry.{Entry}
use Rattle.chain_block.specs.declared.entry.Entry.TheVariants as entries
use Rattle.chain_block.specs.Entry.{IsWithinLimits}
use Rattle.client_pass.specs.ClientPass.{ClientPass}
use Rattle.op_entry.specs.Ask.{Ask, NewLedger, AppendEntry}
use Rattle.port.specs.Service.{ServiceCall}
use Rattle.port.specs.Service as calls
use Rattle.answer_lines.specs.Asking.{call_for}
use Rattle.answer_lines.specs.Draws.{DrewEntry, DrewRead}

-- An entry of this client's draw is to stand; the newest row of this ledger is read for this draw of the client, with its nonce; this
-- client reads this ledger at this height.
pub data Task : Type 0 where
  Own : ℕ → ℕ → Entry → Task
  Newest : ℕ → ℕ → List ℕ → List ℕ → Task
  Height : ℕ → List ℕ → ℕ → Task

-- whose it is, by the place of the client
abbrev pub client_of : Task → ℕ
client_of (Own client draw entry) = client
client_of (Newest client draw handle nonce) = client
client_of (Height client handle height) = client

-- the same, asked of a coordinator at once
abbrev pub call_of : Task → ServiceCall
call_of (Own client draw entry) = call_for entry
call_of (Newest client draw handle nonce) = calls.Latest handle nonce
call_of (Height client handle height) = calls.At handle height

-- what an operation is asked for an entry
abbrev pub ask_for : Entry → Ask
ask_for (entries.Genesis nonce payload) = NewLedger (entries.Genesis nonce payload)
ask_for (entries.Later handle height nonce payload) = AppendEntry (entries.Later handle height nonce payload)

-- the draw that the task names stands among the lines of its client, and it is within the limits
abbrev pub HasDraw : {C : Type 0} → List (ClientPass C) → Task → Type 0
HasDraw clients (Own client draw entry) = DrewEntry clients client draw entry × IsWithinLimits entry
HasDraw clients (Newest client draw handle nonce) = DrewRead clients client draw nonce
HasDraw clients (Height client handle height) = (client < length clients) × (height < 2 ^ 32)

abbrev pub AllHave : {C : Type 0} → List (ClientPass C) → List Task → Type 0
AllHave clients tasks = AllByRecursion (HasDraw clients) tasks

-- it is one of these
abbrev pub IsAmong : Task → List Task → Type 0
IsAmong task tasks = (place : ℕ) × (slice_get tasks place ≡ Some task)
