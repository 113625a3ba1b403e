-- Which lines of a script print a line.
use Rattle.std.specs.Prelude.{Bool, true, false}
use Rattle.fault_script.specs.Command.{Command, Genesis, Plain, Restart, Begin, Step, Finish, Retry, LoseRequest, LoseReply, StoreFail, StoreHide, StoreStale, StoreFork, StoreHonest, RawAppend, RawLatest, RawShow, RawFinalize, Offer, Forge, End}

-- whether a line prints a line of its own; the others print nothing
abbrev pub says_line : Command → Bool
says_line (Genesis ids) = true
says_line (Plain request) = true
says_line Restart = false
says_line (Begin op request) = false
says_line (Step op n) = false
says_line (Finish op) = true
says_line (Retry op) = true
says_line (LoseRequest id n) = false
says_line (LoseReply id n) = false
says_line (StoreFail n) = false
says_line (StoreHide label height) = false
says_line (StoreStale label height from) = false
says_line (StoreFork label height) = false
says_line StoreHonest = false
says_line (RawAppend id label height payload number) = true
says_line (RawLatest id label number) = true
says_line (RawShow id label) = true
says_line (RawFinalize id ids) = true
says_line (Offer op ids) = true
says_line (Forge op count ids) = true
says_line End = false
