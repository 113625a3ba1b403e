-- What is asked of a coordinator for an entry.
use Rattle.chain_block.specs.declared.entry.Entry.{Entry}
use Rattle.chain_block.specs.declared.entry.Entry.TheVariants as entries
use Rattle.port.specs.Service.{ServiceCall, NewLedger, Append}

-- a new ledger that begins with it, or the append of it
abbrev pub call_for : Entry → ServiceCall
call_for (entries.Genesis nonce payload) = NewLedger nonce payload.bytes
call_for (entries.Later handle height nonce payload) = Append handle height nonce payload.bytes
