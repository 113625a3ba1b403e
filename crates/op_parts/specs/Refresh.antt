-- How a chain of views goes on by what a store gives.
use Rattle.std.specs.Prelude.{◌≡◌, ℕ, Bool, true, false, List, [], ◌∷◌, ◌++◌, length, map, Option, Some, None}
use Rattle.std.specs.Str.{bytes_eq}
use Rattle.sha2.specs.Sha256.{sha256}
use Rattle.tail_map.specs.MapForm.{map_bytes}
use Rattle.statement.specs.declared.member.Member.{Member}
use Rattle.statement.specs.declared.view_block.ViewBlock.{ViewBlock}
use Rattle.port.specs.declared.key.Key.TheVariants as keys
use Rattle.port.specs.declared.store_answers.Got.TheVariants as gots
use Rattle.port.specs.View.{FinalMap, FinalMark, ViewRow}
use Rattle.port.specs.ViewForm.{IsView, view_bytes}
use Rattle.port.specs.FinalsForm.{IsFinals, finals_bytes}
use Rattle.port.specs.Stored.{Stored}
use Rattle.port.specs.Store.{Get, WasGot}
use Rattle.port.specs.Trace.{Event, AtStore}
use Rattle.view_ledger.specs.Views.{ViewChain}
use Rattle.view_ledger.specs.Receipts.{Accepts}
use Rattle.view_ledger.specs.Extension.{Follows, extended}

-- the one byte 01 is attached
abbrev pub is_mark : Option (List ℕ) → Bool
is_mark None = false
is_mark (Some bytes) = bytes_eq bytes (1 ∷ [])

abbrev pub IsComplete : Stored → Bool
IsComplete stored = is_mark stored.attached

-- the marks of finals: each with the digest of its map
abbrev pub mark_of : FinalMap → FinalMark
mark_of ended = record { id = ended.id; map = sha256 (map_bytes ended.map); sig = ended.sig }

abbrev pub marks_of : List FinalMap → List FinalMark
marks_of finals = map mark_of finals

-- In this call the store gave these bytes of the view of this number, marked as complete.
abbrev pub GaveView : ℕ → List ℕ → Event → Type 0
GaveView number bytes event =
    (stored : Stored) × (event ≡ AtStore (Get (keys.View number)) (WasGot (gots.Some stored))) × (stored.body ≡ bytes) × (IsComplete stored ≡ true)

-- these are the bytes of the view with this block and config
abbrev pub ReadsAsView : List ℕ → ViewBlock × List Member → Type 0
ReadsAsView bytes view = IsView view × (bytes ≡ view_bytes view)

-- In this call the store gave these bytes of the finals of this number.
abbrev pub GaveFinals : ℕ → List ℕ → Event → Type 0
GaveFinals number bytes event = (stored : Stored) × (event ≡ AtStore (Get (keys.Finals number)) (WasGot (gots.Some stored))) × (stored.body ≡ bytes)

abbrev pub ReadsAsFinals : List ℕ → List FinalMap → Type 0
ReadsAsFinals bytes finals = IsFinals finals × (bytes ≡ finals_bytes finals)

-- By these two calls the store gave a view that follows the newest one of the chain, and what ended that.
pub record GaveNext (accepts : Accepts) (chain : ViewChain) (next : ViewRow) (first second : Event) : Type 0 where
  pub body : List ℕ
  pub view : GaveView (length chain.configs) body first
  pub reads : ReadsAsView body (next.block, next.config)
  pub bytes : List ℕ
  pub given : GaveFinals (length chain.configs) bytes second
  pub maps : List FinalMap
  pub finals : ReadsAsFinals bytes maps
  pub marks : next.finals ≡ marks_of maps
  pub follows : Follows accepts chain next

-- By these calls, the newest first, the chain grew from one to the other: two for each view more.
abbrev pub Grew : Accepts → ViewChain → List Event → ViewChain → Type 0
Grew accepts from [] chain = chain ≡ from
Grew accepts from (second ∷ []) chain = ⊥
Grew accepts from (second ∷ first ∷ past) chain =
    (before : ViewChain) × (next : ViewRow) × Grew accepts from past before × GaveNext accepts before next first second × (chain ≡ extended before next.config)

-- By the oldest of these calls the chain of views grew from the first one; the others left it as it was.
abbrev pub HasGrown : Accepts → ViewChain → ViewChain → List Event → Type 0
HasGrown accepts from chain past = (later earlier : List Event) × (past ≡ later ++ earlier) × Grew accepts from earlier chain
