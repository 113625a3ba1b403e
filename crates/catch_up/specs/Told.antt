-- The counts that a member tells.
use Rattle.std.specs.Prelude.{ℕ, ◌==◌, if◌then◌else◌, List, [], ◌∷◌, Option, Some, None}
use Rattle.statement.specs.declared.statement.Statement.{Statement}
use Rattle.statement.specs.declared.statement.Statement.TheVariants as statements
use Rattle.port.specs.Answer.{Answer, Signed, Refused, Behind, Stands}
use Rattle.port.specs.Heard.{Answered}
use Rattle.port.specs.Trace.{Event, AtLink}

-- the count in a statement of a ledger
abbrev pub count_of : Statement → Option ℕ
count_of (statements.Held view handle tail count) = Some count
count_of (statements.Latest view handle tail count nonce) = Some count
count_of (statements.Final view next map) = None

-- the count that an answer tells
abbrev pub count_in : Answer → Option ℕ
count_in (Signed statement sig) = count_of statement
count_in (Refused (Behind count)) = Some count
count_in (Refused (Stands count tail)) = Some count
count_in answer = None

-- the newer count, where there is one
abbrev pub newer : Option ℕ → ℕ → ℕ
newer None before = before
newer (Some count) before = count

-- the count that a member told last in some calls, the newest first, or the one before where it told none
abbrev pub told : ℕ → ℕ → List Event → ℕ
told member before [] = before
told member before (AtLink id call (Answered answer) ∷ past) =
    if id == member then newer (count_in answer) (told member before past) else told member before past
told member before (event ∷ past) = told member before past
