-- Which calls a refresh has made, and what the next one makes of it.
use Rattle.std.specs.Prelude.{◌≡◌, ◌⊎◌, ℕ, List, [], ◌∷◌, length, Result}
use Rattle.nim_base.specs.declared.no_memory.NoMemory.{NoMemory}
use Rattle.statement.specs.declared.member.Member.{Member}
use Rattle.statement.specs.declared.view_block.ViewBlock.{ViewBlock}
use Rattle.port.specs.declared.key.Key.{Key}
use Rattle.port.specs.declared.key.Key.TheVariants as keys
use Rattle.port.specs.declared.store_answers.Got.{Got}
use Rattle.port.specs.Store.{Get, WasGot}
use Rattle.port.specs.Trace.{Event, AtStore}
use Rattle.view_ledger.specs.Views.{ViewChain}
use Rattle.view_ledger.specs.Receipts.{Accepts}
use Rattle.op_parts.specs.declared.refresh_turn.RefreshProgress.{RefreshProgress}
use Rattle.op_parts.specs.RefreshState.{RefreshState, AtView, AtFinals, AtEnd}
use Rattle.op_parts.specs.Refresh.{GaveView, ReadsAsView, Grew}
use Rattle.op_parts.specs.RefreshTurn.{GoesAtView, GoesAtFinals}

-- the key of the next call
abbrev pub key_of : RefreshState → ViewChain → Key
key_of AtView chain = keys.View (length chain.configs)
key_of (AtFinals body block config) chain = keys.Finals (length chain.configs)
key_of AtEnd chain = keys.View (length chain.configs)

-- the newest call gave the next view, with this block and config, and by those before the chain grew
abbrev pub IsHalfway : Accepts → ViewChain → List ℕ → ViewBlock → List Member → ViewChain → List Event → Type 0
IsHalfway accepts from body block config chain [] = ⊥
IsHalfway accepts from body block config chain (event ∷ past) =
    Grew accepts from past chain × GaveView (length chain.configs) body event × ReadsAsView body (block, config)

-- the newest call was a get of the next view or of its finals, and by those before the chain grew
abbrev pub HasEnded : Accepts → ViewChain → ViewChain → List Event → Type 0
HasEnded accepts from chain [] = ⊥
HasEnded accepts from chain (event ∷ past) =
    (Grew accepts from past chain × ((got : Got) × (event ≡ AtStore (Get (keys.View (length chain.configs))) (WasGot got))))
    ⊎ ((body : List ℕ) × (block : ViewBlock) × (config : List Member) × IsHalfway accepts from body block config chain past
    × ((got : Got) × (event ≡ AtStore (Get (keys.Finals (length chain.configs))) (WasGot got))))

-- By these calls, the newest first, and no other, a refresh of the chain `from` has come to this state and this chain.
abbrev pub Sound : Accepts → ViewChain → RefreshState → ViewChain → List Event → Type 0
Sound accepts from AtView chain past = Grew accepts from past chain
Sound accepts from (AtFinals body block config) chain past = IsHalfway accepts from body block config chain past
Sound accepts from AtEnd chain past = HasEnded accepts from chain past

-- what a call makes of a refresh and of the chain, and what is answered
abbrev pub Goes : Accepts → RefreshState → ViewChain → Event → RefreshState → ViewChain → Result RefreshProgress NoMemory → Type 0
Goes accepts AtView chain event new after result = GoesAtView (length chain.configs) event new result × (after ≡ chain)
Goes accepts (AtFinals body block config) chain event new after result = GoesAtFinals accepts chain body block config event after new result
Goes accepts AtEnd chain event new after result = ⊥

-- whatever calls it has made, it has then made this one too
abbrev pub Leads : Accepts → RefreshState → ViewChain → Event → RefreshState → ViewChain → Type 0
Leads accepts old chain event new after =
    (from : ViewChain) (past : List Event) → Sound accepts from old chain past → Sound accepts from new after (event ∷ past)
