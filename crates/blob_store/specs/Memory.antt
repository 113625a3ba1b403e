-- What is known of a store in memory.
use Rattle.std.specs.Prelude.{Bool, Option, Some}
use Rattle.port.specs.declared.key.Key.{Key}
use Rattle.port.specs.Store.{StoreView, Truth}
use Rattle.blob_store.specs.Line.{WasLogged}
use Rattle.blob_store.specs.Rows.{contents_of}
use Rattle.blob_store.specs.declared.memory.Memory.{Memory}

-- what really stands in it, where gets and puts depart from it so
abbrev pub truth_of : (Key → Option Key) → (Key → Bool) → Memory → Truth
truth_of source forks memory = record { contents = contents_of memory.rows; source = source; forks = forks; due = memory.due }

-- it tells its contents; a fault is a failure that was due, or a lie
abbrev pub memory_view : (Key → Option Key) → (Key → Bool) → Memory → StoreView
memory_view source forks memory = record {
  faults = memory.faults;
  calls = memory.calls;
  was = WasLogged memory.log;
  told = Some (contents_of memory.rows);
  truth = Some (truth_of source forks memory);
}
