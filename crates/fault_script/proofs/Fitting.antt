-- What follows where each command fits after those before it.
use Rattle.std.proofs.Common.{◌≡◌, refl, sym, subst, Bool, true, false, cond, ℕ, ◌+◌, ◌≤◌, ◌&&◌, ◌||◌, List, [], ◌∷◌, ◌++◌, append_assoc, count_by, leb, arith}
use Rattle.std.proofs.lemmas.Bool.{leb-false}
use Rattle.std.proofs.lemmas.List.{append-nil}
use Rattle.fault_script.specs.Command.{Command}
use Rattle.fault_script.specs.Limits.{is_new}
use Rattle.fault_script.specs.Within.{Fits, AllFit}
use Rattle.fault_script.proofs.Adding.{count_more}

fit_behind : (earlier before : List Command) (command : Command) (after : List Command) → AllFit earlier (before ++ command ∷ after) → Fits (earlier ++ before) command
fit_behind earlier [] command after fit = subst (λ (l : List Command). Fits l command) (sym (append-nil earlier)) fit.0
fit_behind earlier (one ∷ before) command after fit =
    subst (λ (l : List Command). Fits l command) (append_assoc earlier (one ∷ []) before) (fit_behind (earlier ++ one ∷ []) before command after fit.1)

-- each command fits after all those before it
pub each_fits : (commands before : List Command) (command : Command) (after : List Command) → AllFit [] commands → commands ≡ before ++ command ∷ after → Fits before command
each_fits commands before command after fit split = fit_behind [] before command after (subst (AllFit []) split fit)

-- where one more isn't one too many, there are no more than the limit with it
one_more : (limit count : ℕ) (new other : Bool) → ((new && leb limit count) || other) ≡ false → count ≤ limit → count + cond new 1 0 ≤ limit
one_more limit count true other h le = let below : leb limit count ≡ false = no_part (leb limit count) other h in omega (arith, leb-false limit count below)
  where
    no_part : (b other : Bool) → (b || other) ≡ false → b ≡ false
    no_part true other h = cc
    no_part false other h = refl
one_more limit count false other h le = omega (arith, le)

news_behind : (earlier commands : List Command) → AllFit earlier commands → count_by is_new earlier ≤ 256 → count_by is_new (earlier ++ commands) ≤ 256
news_behind earlier [] fit le = subst (λ (l : List Command). count_by is_new l ≤ 256) (sym (append-nil earlier)) le
news_behind earlier (command ∷ commands) fit le =
    let more = one_more 256 (count_by is_new earlier) (is_new command) _ fit.0.few le in
    let within = subst (λ n. n ≤ 256) (sym (count_more is_new earlier command)) more in
    subst (λ (l : List Command). count_by is_new l ≤ 256) (append_assoc earlier (command ∷ []) commands) (news_behind (earlier ++ command ∷ []) commands fit.1 within)

pub few_news : (commands : List Command) → AllFit [] commands → count_by is_new commands ≤ 256
few_news commands fit = news_behind [] commands fit (omega arith)
