-- A chain of views: its configs, their tails, and which of them has a tail.
use Rattle.std.specs.Prelude.{ℕ, zero, suc, ◌+◌, ◌-◌, nat_lt, if◌then◌else◌, List, [], length, map, take, slice_index_or, Option, Some, None}
use Rattle.std.specs.Str.{bytes_eq}
use Rattle.sha2.specs.Sha256.{sha256}
use Rattle.statement.specs.declared.member.Member.{Member}
use Rattle.statement.specs.declared.view_block.ViewBlock.{ViewBlock}
use Rattle.statement.specs.ConfigForm.{config_bytes}
use Rattle.statement.specs.ViewTail.{view_tail_of_list}

-- what contracts see of a chain: who is genuine, and the members of each view, the oldest first
pub record ViewChain : Type 0 where
  pub roster : List Member
  pub configs : List (List Member)

abbrev pub config_digest : List Member → List ℕ
config_digest config = sha256 (config_bytes config)

-- the tail of the newest of these views
unfoldable pub newest_tail : List (List Member) → List ℕ
newest_tail configs = view_tail_of_list (map config_digest configs)

-- the tail of the view of this number
abbrev pub tail_at : List (List Member) → ℕ → List ℕ
tail_at configs number = newest_tail (take (number + 1) configs)

-- the same, None where there is no such view
abbrev pub tail_of_view : List (List Member) → ℕ → Option (List ℕ)
tail_of_view configs number = if nat_lt number (length configs) then Some (tail_at configs number) else None

-- the members of the view of this number, none where there is no such view
abbrev pub config_at : List (List Member) → ℕ → List Member
config_at configs number = slice_index_or configs number []

-- the members of the newest view
abbrev pub newest_config : List (List Member) → List Member
newest_config configs = config_at configs (length configs - 1)

-- the newest of the first n views that has this tail: its number
unfoldable pub newest_below : List (List Member) → List ℕ → ℕ → Option ℕ
newest_below configs tail zero = None
newest_below configs tail (suc n) = if bytes_eq (tail_at configs n) tail then Some n else newest_below configs tail n

-- the number of the newest view that has this tail, None where no view has it
abbrev pub number_of : List (List Member) → List ℕ → Option ℕ
number_of configs tail = newest_below configs tail (length configs)

-- the block that makes this config the next view
abbrev pub next_block : List (List Member) → List Member → ViewBlock
next_block configs next = record { prev = newest_tail configs; config = config_digest next; number = length configs }
