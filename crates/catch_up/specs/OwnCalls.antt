-- Which calls a catch-up makes.
use Rattle.std.specs.Prelude.{◌≡◌, ◌<◌, ℕ, List, [], ◌∷◌}
use Rattle.port.specs.declared.key.Key.TheVariants as keys
use Rattle.port.specs.declared.store_answers.Got.TheVariants as gots
use Rattle.chain_block.specs.declared.meta_block.MetaBlock.{MetaBlock}
use Rattle.port.specs.Call.{Call, Append}
use Rattle.port.specs.Heard.{Answered}
use Rattle.port.specs.Row.{Content}
use Rattle.port.specs.GoodRow.{IsGoodRow}
use Rattle.port.specs.Store.{Get, WasGot}
use Rattle.port.specs.Trace.{Event, AtStore, AtLink}
use Rattle.catch_up.specs.State.{Target}
use Rattle.catch_up.specs.Told.{told}
use Rattle.catch_up.specs.Answers.{ComesTo}

-- the append of the row with this metablock
abbrev pub append_of : List ℕ → MetaBlock → Call
append_of handle block = Append handle block.prev block.entry block.height

-- in this call the store gave this row, which is good
abbrev pub Gave : List ℕ → ℕ → Event → Content → Type 0
Gave handle height (AtStore (Get key) (WasGot (gots.Some stored))) row = (key ≡ keys.Row handle height) × IsGoodRow handle height stored.body row
Gave handle height event row = ⊥

-- the newest call gave this row
abbrev pub JustGave : List ℕ → ℕ → List Event → Content → Type 0
JustGave handle height [] row = ⊥
JustGave handle height (event ∷ past) row = Gave handle height event row

-- no call was made yet, or by the newest one the member has come to a count
abbrev pub HasCome : ℕ → ℕ → List Event → Type 0
HasCome member from [] = Unit {0}
HasCome member from (AtLink id call (Answered answer) ∷ past) =
    ComesTo (told member from past) answer (told member from (AtLink id call (Answered answer) ∷ past))
HasCome member from (event ∷ past) = ⊥

-- A call that may be made after these: where the member has come to a count below the wanted one, a get of the ledger's row
-- at the count that it told last; and an append, to that member, of the good row that this get gave.
abbrev pub IsOwnCall : Target → ℕ → List Event → Event → Type 0
IsOwnCall target from past (AtStore (Get (keys.Row handle height)) answer) =
    (handle ≡ target.handle) × (height ≡ told target.member from past) × (height < target.count) × HasCome target.member from past
IsOwnCall target from past (AtLink id (Append handle prev entry height) heard) =
    (id ≡ target.member) × (handle ≡ target.handle) × (height ≡ told target.member from past) × (height < target.count)
    × ((row : Content) × JustGave handle height past row × (prev ≡ row.metablock.prev) × (entry ≡ row.metablock.entry))
IsOwnCall target from past event = ⊥

-- no call but those
abbrev pub OwnCalls : Target → ℕ → List Event → Type 0
OwnCalls target from [] = Unit {0}
OwnCalls target from (event ∷ past) = IsOwnCall target from past event × OwnCalls target from past
