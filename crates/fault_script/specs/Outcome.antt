-- A step of reading, and what the code may answer where such a step is defined.
use Rattle.std.specs.Prelude.{◌≡◌, Result, Ok, Err}
use Rattle.fault_script.specs.declared.bad_cause.BadCause.{BadCause}
use Rattle.fault_script.specs.declared.line_fault.LineFault.{LineFault}
use Rattle.fault_script.specs.declared.line_fault.LineFault.TheVariants as faults

-- what was read goes on to the next step; the first cause ends the reading
infixl 10 ◌>>=◌
abbrev pub ◌>>=◌ : {A B : Type 0} → Result A BadCause → (A → Result B BadCause) → Result B BadCause
(Ok x) >>= next = next x
(Err cause) >>= next = Err cause

abbrev pub Fails : {A : Type 0} → LineFault → Result A BadCause → Type 0
Fails faults.NoMemory read = Unit {0}
Fails (faults.Bad cause) read = read ≡ Err cause

-- a result, seen by `view`, is what reading gives, unless memory ran out
abbrev pub Gives : {A B : Type 0} → (A → B) → Result A LineFault → Result B BadCause → Type 0
Gives view (Ok x) read = read ≡ Ok (view x)
Gives view (Err fault) read = Fails fault read
