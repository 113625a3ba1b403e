-- A chain that has the first of the views of another, as that of a client that is behind.
use Rattle.std.specs.Prelude.{◌≡◌, ℕ, ◌<◌, List, ◌++◌, length}
use Rattle.statement.specs.declared.member.Member.{Member}
use Rattle.view_ledger.specs.Views.{tail_at}

-- these are the first of those views, or all of them
abbrev pub AreFirstOf : List (List Member) → List (List Member) → Type 0
AreFirstOf front configs = (rest : List (List Member)) × (configs ≡ front ++ rest)

-- no two of these views have one tail, which would be a collision
abbrev pub HaveOwnTails : List (List Member) → Type 0
HaveOwnTails configs = (one other : ℕ) → one < length configs → other < length configs → tail_at configs one ≡ tail_at configs other → one ≡ other
