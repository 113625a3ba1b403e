-- What contracts see of a cell, and what its lines are.
use Rattle.std.specs.Prelude.{◌≡◌, ◌≢◌, ℕ, ◌+◌, ◌<◌, Bool, List, [], ◌∷◌, ◌++◌, map}
use Rattle.std.specs.List.{All}
use Rattle.port.specs.Call.{Call}
use Rattle.port.specs.Answer.{Answer, Refused, LogFull}
use Rattle.endorser_core.specs.Endorser.{Endorser, Steps, me}
use Rattle.endorser_core.specs.Line.{Line, line, IsLawful, replay}
use Rattle.endorser_cell.specs.declared.losses.Losses.{Losses}

-- the endorser, the lines of its calls from the first on, how many stamps the pass has left, and how calls get lost
pub record EndorserCell (S C : Type 0) : Type 0 where
  pub endorser : Endorser S C
  pub lines : List Line
  pub left : ℕ
  pub losses : Losses

abbrev pub stamps_of : List Line → List ℕ
stamps_of lines = map (λ line. line.stamp) lines

-- the lines are a lawful call list of the endorser, as the member that it is, under its own checker
abbrev pub IsLawfulOf : {S C : Type 0} → (S → List ℕ) → (C → List ℕ → List ℕ → List ℕ → Bool) → Endorser S C → List Line → Type 0
IsLawfulOf key accepts endorser lines = IsLawful (accepts endorser.checker) (me key endorser) lines

-- the lines lead to the state in which the endorser is
abbrev pub LeadsTo : {S C : Type 0} → (S → List ℕ) → List Line → Endorser S C → Type 0
LeadsTo key lines endorser = replay (me key endorser) lines ≡ endorser.state

-- one line came to the end, with this call and answer and with a stamp above all those before
abbrev pub AddsLine : List Line → List Line → Call → Answer → Type 0
AddsLine old new call answer = (stamp : ℕ) × (new ≡ old ++ line stamp call answer ∷ []) × All (λ earlier. earlier < stamp) (stamps_of old)

-- One call of a cell. Without a stamp left it is full and stays as it was. Else its endorser goes by the table, and one line
-- and one stamp more stand there.
pub record Calls {S C : Type 0} (key : S → List ℕ) (left size : S → ℕ) (signs : S → List ℕ → List ℕ → S → Type 0) (fit : S → C → Type 0) (old new : EndorserCell S C) (call : Call) (answer : Answer) : Type 0 where
  pub fits : fit old.endorser.signer old.endorser.checker
  pub full : old.left ≡ 0 → answer ≡ Refused LogFull
  pub stays : old.left ≡ 0 → new ≡ old
  pub goes : 0 < old.left → Steps key left size signs old.endorser new.endorser call answer
  pub noted : 0 < old.left → AddsLine old.lines new.lines call answer
  pub stamp : 0 < old.left → new.left + 1 ≡ old.left
  pub not_full : 0 < old.left → answer ≢ Refused LogFull
  pub same_id : new.endorser.id ≡ old.endorser.id
  pub same_checker : new.endorser.checker ≡ old.endorser.checker
  pub same_key : key new.endorser.signer ≡ key old.endorser.signer
  pub same_losses : new.losses ≡ old.losses
