-- What contracts see of the code's lines and acts.
use Rattle.std.specs.Prelude.{List, map}
use Rattle.fault_script.specs.declared.act.Act.{Act}
use Rattle.fault_script.specs.declared.act.Act.TheVariants as acts
use Rattle.fault_script.specs.declared.line.Line.{Line}
use Rattle.fault_script.specs.declared.line.Line.TheVariants as lines
use Rattle.fault_script.specs.Command.{Request, New, Append, Latest, At, Reconfigure, Command, Genesis, Plain, Restart, Begin, Step, Finish, Retry, LoseRequest, LoseReply, StoreFail, StoreHide, StoreStale, StoreFork, StoreHonest, RawAppend, RawLatest, RawShow, RawFinalize, Offer, Forge, End}

abbrev pub request_of : Act → Request
request_of (acts.New client label payload) = New client.bytes label.bytes payload.bytes
request_of (acts.Append client label height payload) = Append client.bytes label.bytes height payload.bytes
request_of (acts.Latest client label) = Latest client.bytes label.bytes
request_of (acts.At client label height) = At client.bytes label.bytes height
request_of (acts.Reconfigure ids) = Reconfigure ids.items

abbrev pub command_of : Line → Command
command_of (lines.Genesis ids) = Genesis ids.items
command_of (lines.Plain act) = Plain (request_of act)
command_of lines.Restart = Restart
command_of (lines.Begin op act) = Begin op.bytes (request_of act)
command_of (lines.Step op n) = Step op.bytes n
command_of (lines.Finish op) = Finish op.bytes
command_of (lines.Retry op) = Retry op.bytes
command_of (lines.LoseRequest id n) = LoseRequest id n
command_of (lines.LoseReply id n) = LoseReply id n
command_of (lines.StoreFail n) = StoreFail n
command_of (lines.StoreHide label height) = StoreHide label.bytes height
command_of (lines.StoreStale label height from) = StoreStale label.bytes height from
command_of (lines.StoreFork label height) = StoreFork label.bytes height
command_of lines.StoreHonest = StoreHonest
command_of (lines.RawAppend id label height payload nonce) = RawAppend id label.bytes height payload.bytes nonce
command_of (lines.RawLatest id label nonce) = RawLatest id label.bytes nonce
command_of (lines.RawShow id label) = RawShow id label.bytes
command_of (lines.RawFinalize id ids) = RawFinalize id ids.items
command_of (lines.Offer op ids) = Offer op.bytes ids.items
command_of (lines.Forge op count ids) = Forge op.bytes count ids.items
command_of lines.End = End

abbrev pub commands_of : List Line → List Command
commands_of lines = map command_of lines
