-- The texts that a run rests on, put together.
use Rattle.std.proofs.Common.{◌≡◌, ℕ, List, [], ◌∷◌, ◌++◌, ap, ◌∙◌, append_assoc}
use Rattle.fault_script.specs.Command.{Command}
use Rattle.fault_script.specs.Within.{AllFit}
use Rattle.world_run.specs.SetUp.{AllWithin}

pub fits_within : (earlier commands : List Command) → AllFit earlier commands → AllWithin commands
fits_within earlier [] fit = tt
fits_within earlier (command ∷ commands) fit = (fit.0.limits, fits_within (earlier ++ command ∷ []) commands fit.1)

pub together : (keys first labels one two three : List (List ℕ)) → one ≡ keys → two ≡ one ++ first → three ≡ two ++ labels → three ≡ keys ++ (first ++ labels)
together keys first labels one two three a b c =
    c ∙ ap (λ (l : List (List ℕ)). l ++ labels) (b ∙ ap (λ (l : List (List ℕ)). l ++ first) a) ∙ append_assoc keys first labels
