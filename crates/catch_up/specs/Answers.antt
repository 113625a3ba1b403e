-- What an answer to an append says of the member.
use Rattle.std.specs.Prelude.{◌≡◌, ◌≢◌, ℕ, ◌+◌, ◌≤◌, ◌<◌, Some, replicate}
use Rattle.port.specs.Answer.{Denial, Behind, Stands, Answer, Signed, Refused}
use Rattle.port.specs.Cause.{MemberCause, WasLost, Denied, OtherTail}
use Rattle.port.specs.Heard.{Heard, Answered, Lost}
use Rattle.catch_up.specs.Told.{count_of}

-- an answer to an append at the height by which the member has come to this count
abbrev pub ComesTo : ℕ → Answer → ℕ → Type 0
ComesTo height (Signed statement sig) count = (count ≡ height + 1) × (count_of statement ≡ Some count)
ComesTo height (Refused (Stands standing tail)) count = (count ≡ standing) × (height < count)
ComesTo height answer count = ⊥

-- a refusal that has its place as an answer to an append at the height, and by which the member has not come further
abbrev pub IsRefusal : ℕ → Denial → Type 0
IsRefusal height (Behind count) = count < height
IsRefusal height (Stands count tail) = count ≤ height
IsRefusal height denial = Unit {0}

-- an answer that is none to an append at the height
abbrev pub IsOutOfPlace : ℕ → Answer → Type 0
IsOutOfPlace height (Signed statement sig) = count_of statement ≢ Some (height + 1)
IsOutOfPlace height (Refused (Behind count)) = height ≤ count
IsOutOfPlace height (Refused denial) = ⊥
IsOutOfPlace height answer = Unit {0}

-- what was heard of an append at the height is this reason
abbrev pub IsReason : ℕ → Heard → MemberCause → Type 0
IsReason height Lost WasLost = Unit {0}
IsReason height (Answered (Refused denial)) (Denied reason) = (reason ≡ denial) × IsRefusal height denial
IsReason height (Answered answer) (OtherTail count tail) = IsOutOfPlace height answer × (count ≡ 0) × (tail ≡ replicate 32 0)
IsReason height heard reason = ⊥
