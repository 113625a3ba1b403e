-- What an outcome of an extension is.
use Rattle.std.proofs.Common.{◌≡◌, Option, Some, None, Ok, Err}
use Rattle.std.specs.Option.{option_map_or}
use Rattle.port.specs.View.{ViewRow}
use Rattle.view_ledger.specs.declared.view_fault.ViewFault.{ViewFault}
use Rattle.view_ledger.specs.Views.{ViewChain}
use Rattle.view_ledger.specs.Receipts.{Accepts}
use Rattle.view_ledger.specs.Extension.{extended, extend_fault, extend_outcome}

one_of : (fault : Option ViewFault) (longer after : ViewChain) → option_map_or Err fault (Ok longer) ≡ Ok after → after ≡ longer
one_of None longer after e = cc e
one_of (Some fault) longer after e = absurd cc

pub grown : (accepts : Accepts) (chain : ViewChain) (next : ViewRow) (after : ViewChain) → extend_outcome accepts chain next ≡ Ok after → after ≡ extended chain next.config
unfolding extend_outcome
grown accepts chain next after e = one_of (extend_fault accepts chain next) (extended chain next.config) after e
