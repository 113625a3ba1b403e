-- What is known of a service, and what one call of it does.
use Rattle.std.specs.Prelude.{◌≡◌, ℕ, List, Vec, Result, Ok, Err}
use Rattle.port.specs.declared.refusal.Refusal.{Refusal}
use Rattle.port.specs.Count.{next}
use Rattle.port.specs.Reply.{Standing, LatestReply}
use Rattle.port.specs.View.{ViewRow}
use Rattle.port.specs.Cause.{Cause, cause_of}

-- a nonce and a payload; a handle, a height, a nonce and a payload; a handle and a nonce; a handle and a height; the
-- number of a view
pub data ServiceCall : Type 0 where
  NewLedger : List ℕ → List ℕ → ServiceCall
  Append : List ℕ → ℕ → List ℕ → List ℕ → ServiceCall
  Latest : List ℕ → List ℕ → ServiceCall
  At : List ℕ → ℕ → ServiceCall
  Views : ℕ → ServiceCall

-- what stands; the newest row; views; a refusal
pub data ServiceAnswer : Type 0 where
  Stood : Standing → ServiceAnswer
  Replied : LatestReply → ServiceAnswer
  Knew : List ViewRow → ServiceAnswer
  Refused : Cause → ServiceAnswer

abbrev pub stood : Result Standing Refusal → ServiceAnswer
stood (Ok standing) = Stood standing
stood (Err refusal) = Refused (cause_of refusal)

abbrev pub replied : Result LatestReply Refusal → ServiceAnswer
replied (Ok reply) = Replied reply
replied (Err refusal) = Refused (cause_of refusal)

abbrev pub knew : {A : Type 0} → Result (Vec ViewRow A) Refusal → ServiceAnswer
knew (Ok views) = Knew views.items
knew (Err refusal) = Refused (cause_of refusal)

-- What is known of a service.
pub record ServiceView : Type 1 where
  pub refused : ℕ
  pub calls : ℕ
  -- call number n was this and answered that
  pub was : ℕ → ServiceCall → ServiceAnswer → Type 0

-- the number of refusals after this answer
abbrev pub refused_after : ℕ → ServiceAnswer → ℕ
refused_after n (Refused cause) = next n
refused_after n answer = n

-- One call of a service: what was asked and what it answered, and how what is known of it changes.
pub record ServiceStep {V : Type 0} (view : V → ServiceView) (old new : V) (call : ServiceCall) (answer : ServiceAnswer) : Type 0 where
  pub refused : (view new).refused ≡ refused_after (view old).refused answer
  pub counted : (view new).calls ≡ next (view old).calls
  pub made : (view new).was (view old).calls call answer
  pub keeps : (n : ℕ) (c : ServiceCall) (a : ServiceAnswer) → (view old).was n c a → (view new).was n c a
