-- A config as the list of its members, and what makes some of them a quorum.
use Rattle.std.specs.Prelude.{◌≡◌, ◌≢◌, ℕ, ◌+◌, ◌/◌, ◌^◌, ◌<◌, ◌≤◌, ◌==◌, if◌then◌else◌, List, [], ◌∷◌, length, map, sum_by, All, AllPairs, Option, Some, None, IsSome, unwrap_or}
use Rattle.std.specs.List.{AllByRecursion}
use Rattle.statement.specs.declared.member.Member.{Member}
use Rattle.statement.specs.Ids.{IsRising}

abbrev pub id_of : Member → ℕ
id_of member = member.id

abbrev pub ids : List Member → List ℕ
ids members = map id_of members

-- an id of four bytes and a key of 32, which each member of the code has by its type
pub record IsMember (member : Member) : Type 0 where
  pub id : member.id < 2 ^ 32
  pub key : length member.key ≡ 32

pub record IsConfig (members : List Member) : Type 0 where
  pub rising : IsRising (ids members)
  pub each : AllByRecursion IsMember members
  pub some : 1 ≤ length members
  pub few : length members ≤ 15

-- the key of the member with this id, None where there is none
abbrev pub key_of : List Member → ℕ → Option (List ℕ)
key_of [] id = None
key_of (member ∷ members) id = if member.id == id then Some member.key else key_of members id

-- what one member weighs
abbrev pub member_weight : Member → ℕ
member_weight member = 1

-- what the member with this id weighs, None where there is none
abbrev pub weight_of : List Member → ℕ → Option ℕ
weight_of [] id = None
weight_of (member ∷ members) id = if member.id == id then Some (member_weight member) else weight_of members id

-- what the members with these ids weigh together
abbrev pub weight_together : List Member → List ℕ → ℕ
weight_together members ids = sum_by (λ id. unwrap_or (weight_of members id) 0) ids

-- more than half of what all members weigh
abbrev pub quorum : List Member → ℕ
quorum members = sum_by member_weight members / 2 + 1

-- ids of members, none of them twice, that weigh enough together
pub record IsQuorum (members : List Member) (ids : List ℕ) : Type 0 where
  pub apart : AllPairs (λ one other. one ≢ other) ids
  pub members_alone : All (λ id. IsSome (weight_of members id)) ids
  pub enough : quorum members ≤ weight_together members ids
