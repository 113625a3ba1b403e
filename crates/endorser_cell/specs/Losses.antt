-- How calls of an endorser get lost.
use Rattle.std.specs.Prelude.{◌≡◌, ℕ, ◌+◌, ◌-◌, ◌^◌, min}
use Rattle.endorser_cell.specs.declared.losses.Loss.{Loss}
use Rattle.endorser_cell.specs.declared.losses.Loss.TheVariants as which
use Rattle.endorser_cell.specs.declared.losses.Losses.{Losses}

-- how many more fit 64 bits
abbrev pub room : Losses → ℕ
room losses = 2 ^ 64 - 1 - (losses.requests + losses.replies + losses.lost)

abbrev pub IsNone : Losses → Type 0
IsNone losses = (losses.requests ≡ 0) × (losses.replies ≡ 0) × (losses.lost ≡ 0)

-- so many more are to lose that half, as far as they fit
abbrev pub IsMore : Losses → Loss → ℕ → Losses → Type 0
IsMore old which.Request n new = (new.requests ≡ old.requests + min n (room old)) × (new.replies ≡ old.replies) × (new.lost ≡ old.lost)
IsMore old which.Reply n new = (new.requests ≡ old.requests) × (new.replies ≡ old.replies + min n (room old)) × (new.lost ≡ old.lost)

-- a request was lost
abbrev pub LosesRequest : Losses → Losses → Type 0
LosesRequest old new = (old.requests ≡ new.requests + 1) × (new.replies ≡ old.replies) × (new.lost ≡ old.lost + 1)

-- a reply was lost, where no request was to be
abbrev pub LosesReply : Losses → Losses → Type 0
LosesReply old new = (new.requests ≡ old.requests) × (old.replies ≡ new.replies + 1) × (new.lost ≡ old.lost + 1)
