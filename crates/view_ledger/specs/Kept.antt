-- How a chain is kept: a tail beside each config.
use Rattle.std.specs.Prelude.{◌≡◌, ℕ, ◌<◌, ◌≤◌, List, length, map, slice_index_or}
use Rattle.std.specs.List.{AllByRecursion}
use Rattle.statement.specs.declared.member.Member.{Member}
use Rattle.view_ledger.specs.declared.view.View.{View}
use Rattle.view_ledger.specs.Views.{ViewChain, tail_at}
use Rattle.view_ledger.specs.Extension.{AreGenuine}

abbrev pub config_of : View → List Member
config_of view = view.config

-- the chain that is kept so
abbrev pub kept_chain : List Member → List View → ViewChain
kept_chain roster views = record { roster = roster; configs = map config_of views }

-- each view has the tail that its config and those below give
pub record HaveTails (views : List View) : Type 0 where
  pub each : (n : ℕ) (other : View) → n < length views → (slice_index_or views n other).tail ≡ tail_at (map config_of views) n

-- there is a view, each has its tail, and their members are genuine
pub record AreViews (roster : List Member) (views : List View) : Type 0 where
  pub some : 1 ≤ length views
  pub tails : HaveTails views
  pub genuine : AllByRecursion (AreGenuine roster) (map config_of views)
