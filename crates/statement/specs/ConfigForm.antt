-- The bytes of a config, and which fault shows first in others.
use Rattle.std.specs.Prelude.{ℕ, ◌==◌, List, ◌∷◌, ◌++◌, length, Option}
use Rattle.std.specs.List.{flat_map}
use Rattle.std.specs.Int.{w32, to_be_bytes}
use Rattle.nim_base.specs.declared.form_fault.FormFault.{FormFault}
use Rattle.nim_base.specs.declared.form_fault.FormFault.TheVariants.{Kind}
use Rattle.statement.specs.declared.member.Member.{Member}
use Rattle.statement.specs.Config.{id_of, IsMember, IsConfig}
use Rattle.statement.specs.FormFault.{IsCut, ShowsBehindByte, ShowsBehindId, ShowsUnless, ShowsInList, ShowsInWhole}

-- id(4), key(32)
abbrev pub member_bytes : Member → List ℕ
member_bytes member = to_be_bytes w32 member.id ++ member.key

-- the kind, 12 in hexadecimal, the number of members(1), and each member
abbrev pub config_bytes : List Member → List ℕ
config_bytes members = 0x12 ∷ length members ∷ flat_map member_bytes members

-- where a member is to begin, behind the id before it
abbrev pub MemberShows : Option ℕ → List ℕ → FormFault → Type 0
MemberShows before = ShowsBehindId before (IsCut 32)

-- where a config is to begin
abbrev pub ConfigBegins : List ℕ → FormFault → Type 0
ConfigBegins = ShowsBehindByte (λ kind. ShowsUnless (kind == 0x12) Kind (ShowsInList IsMember member_bytes id_of MemberShows))

-- in bytes that are to be a config, and no more
abbrev pub ConfigShows : List ℕ → FormFault → Type 0
ConfigShows = ShowsInWhole IsConfig config_bytes ConfigBegins
