-- The bytes of a view, and which fault shows first in others.
use Rattle.std.specs.Prelude.{◌≡◌, ℕ, List, ◌∷◌, ◌++◌}
use Rattle.nim_base.specs.declared.form_fault.FormFault.{FormFault}
use Rattle.nim_base.specs.declared.form_fault.FormFault.TheVariants.{Short, Kind, Value, Order, Trailing, NoMemory}
use Rattle.statement.specs.declared.member.Member.{Member}
use Rattle.statement.specs.declared.view_block.ViewBlock.{ViewBlock}
use Rattle.statement.specs.Config.{IsConfig}
use Rattle.statement.specs.ConfigForm.{config_bytes, ConfigShows}
use Rattle.statement.specs.ViewBlock.{IsViewBlock, view_block_bytes}
use Rattle.statement.specs.FormFault.{ShowsBehind}
use Rattle.port.specs.Field.{FieldBegins, ShowsBehindKind}

-- a view block with fields of their lengths, and the members of a config, which each has by its type
pub record IsView (view : ViewBlock × List Member) : Type 0 where
  pub block : IsViewBlock view.0
  pub config : IsConfig view.1

-- the kind, 51 in hexadecimal, the view block(73), and the config
abbrev pub view_bytes : ViewBlock × List Member → List ℕ
view_bytes view = 0x51 ∷ view_block_bytes view.0 ++ config_bytes view.1

-- what a fault of the config is in a view: bytes are too few or too many, or else it isn't a config
abbrev pub fault_in_view : FormFault → FormFault
fault_in_view Short = Short
fault_in_view Trailing = Trailing
fault_in_view Kind = Value
fault_in_view Value = Value
fault_in_view Order = Value
fault_in_view NoMemory = NoMemory

-- in bytes that are to be the config of a view, and no more
abbrev pub ConfigShowsInView : List ℕ → FormFault → Type 0
ConfigShowsInView text fault = (cause : FormFault) × ConfigShows text cause × (fault ≡ fault_in_view cause)

-- in bytes that are to be a view, and no more
abbrev pub ViewShows : List ℕ → FormFault → Type 0
ViewShows = ShowsBehindKind 0x51 (ShowsBehind IsViewBlock view_block_bytes (FieldBegins IsViewBlock view_block_bytes 73) (λ _. ConfigShowsInView))
