-- What stands of an operation, and which lines misuse one.
use Rattle.std.specs.Prelude.{ℕ, Bool, true, false, not, List, fold, if◌then◌else◌}
use Rattle.std.specs.Str.{bytes_eq}
use Rattle.fault_script.specs.declared.standing.Role.{Role}
use Rattle.fault_script.specs.declared.standing.Role.TheVariants as roles
use Rattle.fault_script.specs.declared.standing.Standing.{Standing}
use Rattle.fault_script.specs.declared.standing.Standing.TheVariants.{Unbegun, Open, Closed}
use Rattle.fault_script.specs.Command.{Request, New, Append, Latest, At, Reconfigure, Command, Restart, Begin, Step, Finish, Retry, Offer, Forge}

abbrev pub role_of : Request → Role
role_of (New client label payload) = roles.Client
role_of (Append client label height payload) = roles.Client
role_of (Latest client label) = roles.Latest
role_of (At client label height) = roles.Client
role_of (Reconfigure ids) = roles.Coordinator

abbrev pub closed : Standing → Standing
closed Unbegun = Unbegun
closed (Open role) = Closed role
closed (Closed role) = Closed role

-- what stands of an operation after a line: `begin` opens it; `finish`, `offer` and `forge` close it; `restart` closes all
abbrev pub standing_after : List ℕ → Standing → Command → Standing
standing_after op standing (Begin name request) = if bytes_eq op name then Open (role_of request) else standing
standing_after op standing (Finish name) = if bytes_eq op name then closed standing else standing
standing_after op standing (Offer name ids) = if bytes_eq op name then closed standing else standing
standing_after op standing (Forge name count ids) = if bytes_eq op name then closed standing else standing
standing_after op standing Restart = closed standing
standing_after op standing _ = standing

-- what stands of an operation after these lines
abbrev pub standing : List Command → List ℕ → Standing
standing commands op = fold (standing_after op) Unbegun commands

abbrev pub is_unbegun : Standing → Bool
is_unbegun Unbegun = true
is_unbegun (Open role) = false
is_unbegun (Closed role) = false

abbrev pub is_open : Standing → Bool
is_open Unbegun = false
is_open (Open role) = true
is_open (Closed role) = false

abbrev pub is_latest : Role → Bool
is_latest roles.Latest = true
is_latest roles.Client = false
is_latest roles.Coordinator = false

abbrev pub is_of_client : Role → Bool
is_of_client roles.Latest = true
is_of_client roles.Client = true
is_of_client roles.Coordinator = false

abbrev pub is_open_latest : Standing → Bool
is_open_latest Unbegun = false
is_open_latest (Open role) = is_latest role
is_open_latest (Closed role) = false

abbrev pub is_closed_of_client : Standing → Bool
is_closed_of_client Unbegun = false
is_closed_of_client (Open role) = false
is_closed_of_client (Closed role) = is_of_client role

-- whether a line wants another standing of its operation
abbrev pub misuses : (List ℕ → Standing) → Command → Bool
misuses standing (Begin op request) = not (is_unbegun (standing op))
misuses standing (Step op n) = not (is_open (standing op))
misuses standing (Finish op) = not (is_open (standing op))
misuses standing (Retry op) = not (is_closed_of_client (standing op))
misuses standing (Offer op ids) = not (is_open_latest (standing op))
misuses standing (Forge op count ids) = not (is_open_latest (standing op))
misuses standing _ = false
