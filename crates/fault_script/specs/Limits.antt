-- How many lines of a kind there may be: 256 `new`, 24 `reconfigure` and 24 `raw finalize`, begun ones included.
use Rattle.std.specs.Prelude.{Bool, true, false, not, ◌&&◌, ◌||◌, List, count_by, nat_le}
use Rattle.fault_script.specs.declared.counts.Counts.{Counts}
use Rattle.fault_script.specs.Command.{Request, New, Append, Latest, At, Reconfigure, Command, Plain, Begin, RawFinalize}

abbrev pub is_new_request : Request → Bool
is_new_request (New client label payload) = true
is_new_request (Append client label height payload) = false
is_new_request (Latest client label) = false
is_new_request (At client label height) = false
is_new_request (Reconfigure ids) = false

abbrev pub is_reconfigure_request : Request → Bool
is_reconfigure_request (New client label payload) = false
is_reconfigure_request (Append client label height payload) = false
is_reconfigure_request (Latest client label) = false
is_reconfigure_request (At client label height) = false
is_reconfigure_request (Reconfigure ids) = true

abbrev pub is_new : Command → Bool
is_new (Plain request) = is_new_request request
is_new (Begin op request) = is_new_request request
is_new _ = false

abbrev pub is_reconfigure : Command → Bool
is_reconfigure (Plain request) = is_reconfigure_request request
is_reconfigure (Begin op request) = is_reconfigure_request request
is_reconfigure _ = false

abbrev pub is_raw_finalize : Command → Bool
is_raw_finalize (RawFinalize id ids) = true
is_raw_finalize _ = false

-- whether lines may say it yet: no line is a `reconfigure`, begun or not, or a `raw finalize`
abbrev pub is_served : Command → Bool
is_served command = not (is_reconfigure command || is_raw_finalize command)

-- how many of these lines are of each kind
abbrev pub counts_of : List Command → Counts
counts_of commands = record { news = count_by is_new commands; reconfigures = count_by is_reconfigure commands; finalizes = count_by is_raw_finalize commands }

-- whether a line is one too many after so many of its kind
abbrev pub is_too_many : Counts → Command → Bool
is_too_many counts command =
    (is_new command && nat_le 256 counts.news)
    || ((is_reconfigure command && nat_le 24 counts.reconfigures)
    || (is_raw_finalize command && nat_le 24 counts.finalizes))
