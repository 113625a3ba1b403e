-- The views that stand in a store, each marked as complete, with what ended those below.
use Rattle.std.specs.Prelude.{◌≡◌, ℕ, ◌≤◌, true, List, ◌∷◌, ◌++◌, length, Some, None}
use Rattle.statement.specs.declared.member.Member.{Member}
use Rattle.port.specs.declared.key.Key.TheVariants as keys
use Rattle.port.specs.Contents.{Contents}
use Rattle.port.specs.Stored.{Stored}
use Rattle.port.specs.View.{FinalMap}
use Rattle.view_ledger.specs.Views.{ViewChain, next_block}
use Rattle.view_ledger.specs.Receipts.{Accepts}
use Rattle.view_ledger.specs.Extension.{Follows}
use Rattle.op_parts.specs.Refresh.{IsComplete, ReadsAsView, ReadsAsFinals, marks_of}

-- the view with this config above these stands, marked as complete
pub record ViewStands (contents : Contents) (below : List (List Member)) (config : List Member) : Type 0 where
  pub stored : Stored
  pub stands : contents (keys.View (length below)) ≡ Some stored
  pub complete : IsComplete stored ≡ true
  pub reads : ReadsAsView stored.body (next_block below config, config)

-- what ended the newest of these views for that one stands
pub record FinalsStand (accepts : Accepts) (roster : List Member) (contents : Contents) (below : List (List Member)) (config : List Member) : Type 0 where
  pub stored : Stored
  pub stands : contents (keys.Finals (length below)) ≡ Some stored
  pub maps : List FinalMap
  pub reads : ReadsAsFinals stored.body maps
  pub follows : Follows accepts (record { roster = roster; configs = below }) (record { block = next_block below config; config = config; finals = marks_of maps })

-- these views stand, and nothing above them
pub record StandViews (accepts : Accepts) (roster : List Member) (contents : Contents) (configs : List (List Member)) : Type 0 where
  pub some : 1 ≤ length configs
  pub views : (below above : List (List Member)) (config : List Member) → configs ≡ below ++ config ∷ above → ViewStands contents below config
  pub finals : (below above : List (List Member)) (config : List Member) → configs ≡ below ++ config ∷ above → 1 ≤ length below → FinalsStand accepts roster contents below config
  pub no_view : (number : ℕ) → length configs ≤ number → contents (keys.View number) ≡ None
  pub no_finals : (number : ℕ) → length configs ≤ number → contents (keys.Finals number) ≡ None

-- the chain has the first of these views, view 0 among them, under this roster
pub record IsFront (roster : List Member) (configs : List (List Member)) (chain : ViewChain) : Type 0 where
  pub genuine : chain.roster ≡ roster
  pub some : 1 ≤ length chain.configs
  pub rest : List (List Member)
  pub split : configs ≡ chain.configs ++ rest
