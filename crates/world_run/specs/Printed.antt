-- What a script prints whose endorsers are the stand-ins for attested keys.
use Rattle.std.specs.Prelude.{◌≡◌, ℕ, ◌-◌, ◌^◌, true, List, ◌++◌, Contains}
use Rattle.fault_script.specs.Command.{Command}
use Rattle.fault_script.specs.Script.{is_plain}
use Rattle.seal.specs.KeyBook.{book_accepts}
use Rattle.seal.specs.MacKey.{mac, mac_key}
use Rattle.client_pass.specs.Record.{Record}
use Rattle.world_run.specs.Plain.{nothing, replies}
use Rattle.world_run.specs.Replayed.{PrintsFront, Replayed}
use Rattle.script_runs.specs.Ids.{all_ids}

-- a stand-in always has so many signatures left
abbrev pub mac_left : ℕ → ℕ
mac_left id = 2 ^ 64 - 1

-- a stand-in's signature is of 32 bytes, and what it signs is its own; a book fits it that has its id
abbrev pub mac_size : ℕ → ℕ
mac_size id = 32

abbrev pub mac_signs : ℕ → List ℕ → List ℕ → ℕ → Type 0
mac_signs id bytes sig after = (sig ≡ mac id bytes) × (after ≡ id)

abbrev pub mac_fits : ℕ → List ℕ → Type 0
mac_fits id ids = Contains ids id

-- The run of a script whose endorsers are the stand-ins printed these lines and made this record; for a plain script they are the plain
-- replies.
pub record MacPrints (script : List Command) (made : Record) (printed : List (List ℕ)) : Type 0 where
  pub replayed : Replayed mac_key mac_left mac_size mac_signs mac_fits book_accepts mac_key mac_left (book_accepts all_ids) script made printed
  pub plain : is_plain script ≡ true → printed ≡ replies nothing script

-- Such a run printed these lines first.
pub record MacPrintsFront (script : List Command) (printed : List (List ℕ)) : Type 0 where
  pub front : PrintsFront mac_key mac_left mac_size mac_signs mac_fits book_accepts mac_key mac_left (book_accepts all_ids) script printed
  pub plain : is_plain script ≡ true → (more : List (List ℕ)) × (replies nothing script ≡ printed ++ more)
