-- View 0 of a chain, and the calls that set it up.
use Rattle.std.specs.Prelude.{List, [], ◌∷◌, None}
use Rattle.statement.specs.declared.member.Member.{Member}
use Rattle.statement.specs.declared.view_block.ViewBlock.{ViewBlock}
use Rattle.port.specs.declared.key.Key.{Key}
use Rattle.port.specs.declared.key.Key.TheVariants as keys
use Rattle.port.specs.declared.store_answers.Put.{Put}
use Rattle.port.specs.declared.store_answers.Put.TheVariants as puts
use Rattle.port.specs.declared.store_answers.Attached.{Attached}
use Rattle.port.specs.declared.store_answers.Attached.TheVariants as attaches
use Rattle.port.specs.Call.{Initialize, Activate}
use Rattle.port.specs.Store.{StoreCall, PutNew, Attach, WasPut, WasAttached}
use Rattle.port.specs.Trace.{Event, AtStore}
use Rattle.port.specs.View.{ViewRow}
use Rattle.port.specs.ViewForm.{view_bytes}
use Rattle.view_ledger.specs.Views.{ViewChain, config_at, next_block, tail_at}
use Rattle.op_reconf.specs.SettingUp.{Asking}

abbrev pub first_config : ViewChain → List Member
first_config chain = config_at chain.configs 0

-- the block that makes these members a view above none
abbrev pub first_block : List Member → ViewBlock
first_block members = next_block [] members

-- the view of these members, which no other one ended for
abbrev pub first_row : List Member → ViewRow
first_row members = record { block = first_block members; config = members; finals = [] }

abbrev pub first_key : Key
first_key = keys.View 0

-- its bytes are put at its key
abbrev pub first_put : List Member → StoreCall
first_put members = PutNew first_key (view_bytes (first_block members, members))

abbrev pub put_event : List Member → Put → Event
put_event members put = AtStore (first_put members) (WasPut put)

-- its members are to belong to it, with a map of no rows, and to begin in it, with no proof
abbrev pub first_asking : ViewChain → Asking
first_asking chain = record {
  initialize = Initialize (first_block (first_config chain)) (first_config chain) [];
  activate = Activate (tail_at chain.configs 0) None;
  members = first_config chain;
}

-- it is marked as complete
abbrev pub first_mark : StoreCall
first_mark = Attach first_key (1 ∷ [])

abbrev pub mark_event : Attached → Event
mark_event attached = AtStore first_mark (WasAttached attached)

-- a view stands at the key, this one or another
abbrev pub IsPlaced : Put → Type 0
IsPlaced puts.Done = Unit {0}
IsPlaced puts.Taken = Unit {0}
IsPlaced put = ⊥

-- the mark stands, or nothing stood that could bear it
abbrev pub IsMarked : Attached → Type 0
IsMarked attaches.Done = Unit {0}
IsMarked attaches.Absent = Unit {0}
IsMarked attached = ⊥
