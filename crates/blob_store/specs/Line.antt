-- A line of the list of a store's calls.
use Rattle.std.specs.Prelude.{◌≡◌, ◌⊎◌, ℕ, true, List, [], ◌∷◌, ◌++◌, MatchBool}
use Rattle.std.specs.List.{Contains}
use Rattle.std.specs.Option.{option_map}
use Rattle.port.specs.declared.store_answers.Got.{Got}
use Rattle.port.specs.declared.store_answers.Got.TheVariants as gots
use Rattle.port.specs.Store.{StoreCall, PutNew, Get, Attach, StoreAnswer, WasPut, WasGot, WasAttached, is_no_memory}
use Rattle.blob_store.specs.declared.call_log.LoggedLine.{LoggedLine}
use Rattle.blob_store.specs.declared.call_log.LoggedCall.{LoggedCall}
use Rattle.blob_store.specs.declared.call_log.LoggedCall.TheVariants as calls
use Rattle.blob_store.specs.declared.call_log.LoggedGot.{LoggedGot}
use Rattle.blob_store.specs.declared.call_log.LoggedGot.TheVariants as logged

-- a number, what was asked, and what was answered
pub record Line : Type 0 where
  pub number : ℕ
  pub call : StoreCall
  pub answer : StoreAnswer

abbrev pub got_of : LoggedGot → Got
got_of (logged.Some body attached) = gots.Some (record { body = body.value.bytes; attached = option_map (λ text. text.value.bytes) attached })
got_of logged.None = gots.None
got_of logged.Failed = gots.Failed
got_of logged.NoMemory = gots.NoMemory

abbrev pub line_at : ℕ → LoggedCall → Line
line_at number (calls.Put key body put) = record { number = number; call = PutNew key body.value.bytes; answer = WasPut put }
line_at number (calls.Get key got) = record { number = number; call = Get key; answer = WasGot (got_of got) }
line_at number (calls.Attach key bytes attached) = record { number = number; call = Attach key bytes.value.bytes; answer = WasAttached attached }

abbrev pub line_of : LoggedLine → Line
line_of logged = line_at logged.number logged.call

-- the list has this call under this number; of one that found no memory nothing is known
abbrev pub WasLogged : List Line → ℕ → StoreCall → StoreAnswer → Type 0
WasLogged lines number call answer = (is_no_memory answer ≡ true) ⊎ Contains lines (record { number = number; call = call; answer = answer })

-- the list with this call at its end; one that found no memory isn't kept
abbrev pub IsNoted : List Line → List Line → Line → Type 0
IsNoted old new line = MatchBool (is_no_memory line.answer) (new ≡ old) (new ≡ old ++ line ∷ [])
