-- Nonces by their numbers, and the first entries that have them.
use Rattle.std.proofs.Common.{◌≡◌, inl, inr, ℕ, ◌+◌, ◌^◌, ◌<◌, ◌≤◌, List, [], ◌∷◌, ◌++◌, length, take, drop, get_or, refl, sym, ap, ◌∙◌, append_assoc, arith}
use Rattle.std.specs.Prelude.{Contains, replicate}
use Rattle.std.specs.Int.{to_be_bytes, from_be_bytes, w32, w64}
use Rattle.std.proofs.lemmas.List.{append_cancel_left, take_at}
use Rattle.std.proofs.lemmas.List.Elements.{Contains-append_cases}
use Rattle.std.proofs.lemmas.Nat.{from_be_bytes-to_be_bytes_8}
use Rattle.chain_block.specs.Bytes.{genesis_bytes}
use Rattle.fault_script.specs.Command.{Request, New, Append, Latest, At, Reconfigure, Command, Genesis, Plain, Restart, Begin, Step, Finish, Retry, LoseRequest, LoseReply, StoreFail, StoreHide, StoreStale, StoreFork, StoreHonest, RawAppend, RawLatest, RawShow, RawFinalize, Offer, Forge, End}
use Rattle.script_world.specs.Nonce.{nonce}
use Rattle.world_run.specs.PlainRun.{draws_in}
use Rattle.world_run.specs.SetUp.{draws_of, first_entry, first_entry_of_request, first_entries}

pub one_number : (m n : ℕ) → m < 2 ^ 64 → n < 2 ^ 64 → nonce m ≡ nonce n → m ≡ n
one_number m n low low' same =
    let ends : to_be_bytes w64 m ≡ to_be_bytes w64 n = append_cancel_left (replicate 8 0) (to_be_bytes w64 m) (to_be_bytes w64 n) same in
    sym (from_be_bytes-to_be_bytes_8 m low) ∙ ap (from_be_bytes w64) ends ∙ from_be_bytes-to_be_bytes_8 n low'

-- the nonce in the bytes of a first entry
nonce_in : (number : ℕ) (payload : List ℕ) → take 16 (drop 1 (genesis_bytes (nonce number) payload)) ≡ nonce number
nonce_in number payload =
    ap (take 16) (append_assoc (nonce number) (to_be_bytes w32 (length payload)) payload)
    ∙ take_at (nonce number) (to_be_bytes w32 (length payload) ++ payload) 16 refl

-- first entries with equal bytes have equal nonces
pub one_nonce : (m n : ℕ) (one other : List ℕ) → genesis_bytes (nonce m) one ≡ genesis_bytes (nonce n) other → nonce m ≡ nonce n
one_nonce m n one other same = sym (nonce_in m one) ∙ ap (λ (text : List ℕ). take 16 (drop 1 text)) same ∙ nonce_in n other

-- a first entry isn't the text of a label
pub no_label_text : (bytes payload label : List ℕ) → genesis_bytes bytes payload ≡ 0x43 ∷ label → ⊥
no_label_text bytes payload label same =
    let kinds : 1 ≡ 0x43 = ap (λ (text : List ℕ). get_or text 0 0) same in
    absurd (omega (arith, kinds))

pub none_in_nothing : {X : Type 0} → (x : X) → Contains [] x → ⊥
none_in_nothing x has = absurd (omega (arith, has.1))

pub only_one : {X : Type 0} → (y x : X) → Contains (y ∷ []) x → y ≡ x
only_one y x has = go has.0 has.1 has.2 where
  go : (i : ℕ) → i < length (y ∷ []) → get_or (y ∷ []) i x ≡ x → y ≡ x
  go i low is = let first : i ≡ 0 = omega (arith, low) in ap (λ (k : ℕ). get_or (y ∷ []) k x) (sym first) ∙ is

-- a text is the first entry with this draw's nonce, and the nonce was drawn for it
abbrev IsEntry : ℕ → ℕ → List ℕ → Type 0
IsEntry draws drawn text = (payload : List ℕ) × (text ≡ genesis_bytes (nonce draws) payload) × (drawn ≡ 1)

made_entry : (draws : ℕ) (payload text : List ℕ) → Contains (genesis_bytes (nonce draws) payload ∷ []) text → IsEntry draws 1 text
made_entry draws payload text has = (payload, sym (only_one (genesis_bytes (nonce draws) payload) text has), refl)

of_request : (draws : ℕ) (request : Request) (text : List ℕ) → Contains (first_entry_of_request draws request) text → IsEntry draws (draws_of (Plain request)) text
of_request draws (New client label payload) text has = made_entry draws payload text has
of_request draws (Append client label height payload) text has = absurd (none_in_nothing text has)
of_request draws (Latest client label) text has = absurd (none_in_nothing text has)
of_request draws (At client label height) text has = absurd (none_in_nothing text has)
of_request draws (Reconfigure ids) text has = absurd (none_in_nothing text has)

of_command : (draws : ℕ) (command : Command) (text : List ℕ) → Contains (first_entry draws command) text → IsEntry draws (draws_of command) text
of_command draws (Plain request) text has = of_request draws request text has
of_command draws (Begin op request) text has = of_request draws request text has
of_command draws (Genesis ids) text has = absurd (none_in_nothing text has)
of_command draws Restart text has = absurd (none_in_nothing text has)
of_command draws (Step op n) text has = absurd (none_in_nothing text has)
of_command draws (Finish op) text has = absurd (none_in_nothing text has)
of_command draws (Retry op) text has = absurd (none_in_nothing text has)
of_command draws (LoseRequest id n) text has = absurd (none_in_nothing text has)
of_command draws (LoseReply id n) text has = absurd (none_in_nothing text has)
of_command draws (StoreFail n) text has = absurd (none_in_nothing text has)
of_command draws (StoreHide label height) text has = absurd (none_in_nothing text has)
of_command draws (StoreStale label height from) text has = absurd (none_in_nothing text has)
of_command draws (StoreFork label height) text has = absurd (none_in_nothing text has)
of_command draws StoreHonest text has = absurd (none_in_nothing text has)
of_command draws (RawAppend id label height payload n) text has = absurd (none_in_nothing text has)
of_command draws (RawLatest id label n) text has = absurd (none_in_nothing text has)
of_command draws (RawShow id label) text has = absurd (none_in_nothing text has)
of_command draws (RawFinalize id ids) text has = absurd (none_in_nothing text has)
of_command draws (Offer op ids) text has = absurd (none_in_nothing text has)
of_command draws (Forge op count ids) text has = absurd (none_in_nothing text has)
of_command draws End text has = absurd (none_in_nothing text has)

-- each of the first entries has the nonce of a draw of its own lines
abbrev pub IsOfDraw : ℕ → ℕ → List ℕ → Type 0
IsOfDraw from to text = (number : ℕ) × (payload : List ℕ) × (from ≤ number) × (number < to) × (text ≡ genesis_bytes (nonce number) payload)

pub of_draw : (draws : ℕ) (commands : List Command) (text : List ℕ) → Contains (first_entries draws commands) text → IsOfDraw draws (draws + draws_in commands) text
of_draw draws [] text has = absurd (none_in_nothing text has)
of_draw draws (command ∷ commands) text has =
    elim (Contains-append_cases (first_entry draws command) (first_entries (draws + draws_of command) commands) text has) [
      | inl here ↦
          let is = of_command draws command text here in
          (draws, is.0, omega arith, omega (arith, is.2), is.1)
      | inr above ↦
          let is = of_draw (draws + draws_of command) commands text above in
          (is.0, is.1, omega (arith, is.2), omega (arith, is.3), is.4)
    ]

pub first_entries-append : (draws : ℕ) (one other : List Command) → first_entries draws (one ++ other) ≡ first_entries draws one ++ first_entries (draws + draws_in one) other
first_entries-append draws [] other = let none : draws ≡ draws + 0 = omega arith in ap (λ (n : ℕ). first_entries n other) none
first_entries-append draws (command ∷ one) other =
    let own = first_entry draws command in
    let more = first_entries (draws + draws_of command) one in
    let sums : draws + draws_of command + draws_in one ≡ draws + (draws_of command + draws_in one) = omega arith in
    ap (λ (texts : List (List ℕ)). own ++ texts)
    (first_entries-append (draws + draws_of command) one other ∙ ap (λ (n : ℕ). more ++ first_entries n other) sums)
    ∙ sym (append_assoc own more (first_entries (draws + (draws_of command + draws_in one)) other))

pub draws_in-append : (one other : List Command) → draws_in (one ++ other) ≡ draws_in one + draws_in other
draws_in-append [] other = omega arith
draws_in-append (command ∷ one) other = let rest = draws_in-append one other in omega (arith, rest)

pub draws_in-push : (before : List Command) (command : Command) → draws_in (before ++ command ∷ []) ≡ draws_in before + draws_of command
draws_in-push before command = let sum = draws_in-append before (command ∷ []) in omega (arith, sum)

one_draw : (request : Request) → draws_of (Plain request) ≤ 1
one_draw (New client label payload) = omega arith
one_draw (Append client label height payload) = omega arith
one_draw (Latest client label) = omega arith
one_draw (At client label height) = omega arith
one_draw (Reconfigure ids) = omega arith

-- a line draws one nonce at most
pub few_draws_of : (command : Command) → draws_of command ≤ 1
few_draws_of (Plain request) = one_draw request
few_draws_of (Begin op request) = one_draw request
few_draws_of (Genesis ids) = omega arith
few_draws_of Restart = omega arith
few_draws_of (Step op n) = omega arith
few_draws_of (Finish op) = omega arith
few_draws_of (Retry op) = omega arith
few_draws_of (LoseRequest id n) = omega arith
few_draws_of (LoseReply id n) = omega arith
few_draws_of (StoreFail n) = omega arith
few_draws_of (StoreHide label height) = omega arith
few_draws_of (StoreStale label height from) = omega arith
few_draws_of (StoreFork label height) = omega arith
few_draws_of StoreHonest = omega arith
few_draws_of (RawAppend id label height payload n) = omega arith
few_draws_of (RawLatest id label n) = omega arith
few_draws_of (RawShow id label) = omega arith
few_draws_of (RawFinalize id ids) = omega arith
few_draws_of (Offer op ids) = omega arith
few_draws_of (Forge op count ids) = omega arith
few_draws_of End = omega arith

pub few_draws : (commands : List Command) → draws_in commands ≤ length commands
few_draws [] = omega arith
few_draws (command ∷ commands) = omega (arith, few_draws_of command, few_draws commands)
