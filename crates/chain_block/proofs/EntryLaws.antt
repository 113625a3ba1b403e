-- Entries have bytes of their own, and these have no fault.
use Rattle.std.proofs.Common.{◌≡◌, ℕ, ◌+◌, ◌-◌, ◌<◌, ◌≤◌, ◌^◌, List, ◌∷◌, ◌++◌, length, take, drop, Option, Some, None, Result, Ok, Err, Bool, true, false, cond, ◌&&◌, ltb, leb, refl, sym, ap, subst, ◌∙◌, append_assoc, arith}
use Rattle.std.specs.Prelude.{IfOk, MatchResult}
use Rattle.std.specs.Int.{w32, w64, to_be_bytes, from_be_bytes}
use Rattle.std.proofs.lemmas.Bool.{le-ltb, lt-ltb, le-leb, lt-leb}
use Rattle.std.proofs.lemmas.List.{take_at, drop_at, length-append}
use Rattle.std.proofs.lemmas.Nat.{from_be_bytes-to_be_bytes_4, from_be_bytes-to_be_bytes_8, be_bytes_4, be_bytes_8}
use Rattle.chain_block.specs.declared.entry.TheConstants.{MAX_PAYLOAD, MAX_HEIGHT}
use Rattle.chain_block.specs.declared.entry.Entry.{Entry}
use Rattle.chain_block.specs.declared.entry.Entry.TheVariants.{Genesis, Later}
use Rattle.chain_block.specs.declared.entry_fault.EntryFault.{EntryFault}
use Rattle.chain_block.specs.declared.entry_fault.EntryFault.TheVariants.{NoMemory, Short, Height}
use Rattle.chain_block.specs.Bytes.{genesis_bytes, later_bytes}
use Rattle.chain_block.specs.Entry.{IsWellFormed, SameEntry, entry_bytes}
use Rattle.chain_block.specs.EntryFault.{payload_fault, genesis_fault, later_fault, entry_fault, number_at, Reports}
use Rattle.chain_block.proofs.Parts.{same_parts, same_number_8, IsBytes, IsBytes-front, IsBytes-rest}

genesis_parts : (nonce payload : List ℕ) → genesis_bytes nonce payload ≡ (1 ∷ nonce) ++ (to_be_bytes w32 (length payload) ++ payload)
genesis_parts nonce payload = append_assoc (1 ∷ nonce) (to_be_bytes w32 (length payload)) payload

later_parts : (handle : List ℕ) (height : ℕ) (nonce payload : List ℕ)
    → later_bytes handle height nonce payload ≡ (2 ∷ handle) ++ (to_be_bytes w64 height ++ (nonce ++ (to_be_bytes w32 (length payload) ++ payload)))
later_parts handle height nonce payload =
    append_assoc (((2 ∷ handle) ++ to_be_bytes w64 height) ++ nonce) (to_be_bytes w32 (length payload)) payload
    ∙ append_assoc ((2 ∷ handle) ++ to_be_bytes w64 height) nonce (to_be_bytes w32 (length payload) ++ payload)
    ∙ append_assoc (2 ∷ handle) (to_be_bytes w64 height) (nonce ++ (to_be_bytes w32 (length payload) ++ payload))

rest_of : (n : ℕ) (a b : List ℕ) → n ∷ a ≡ n ∷ b → a ≡ b
rest_of n a b e = cc

same_genesis : (n p n' p' : List ℕ) → length n ≡ 16 → length n' ≡ 16 → genesis_bytes n p ≡ genesis_bytes n' p' → (n ≡ n') × (p ≡ p')
same_genesis n p n' p' ln ln' e =
    let first = same_parts (1 ∷ n) (1 ∷ n') (to_be_bytes w32 (length p) ++ p) (to_be_bytes w32 (length p') ++ p') 17 (omega arith) (omega arith) (sym (genesis_parts n p) ∙ e ∙ genesis_parts n' p') in
    let second = same_parts (to_be_bytes w32 (length p)) (to_be_bytes w32 (length p')) p p' 4 refl refl first.1 in
    (rest_of 1 n n' first.0, second.1)

same_later : (h : List ℕ) (k : ℕ) (n p h' : List ℕ) (k' : ℕ) (n' p' : List ℕ) → length h ≡ 32 → length h' ≡ 32 → length n ≡ 16 → length n' ≡ 16 → k < 2 ^ 64 → k' < 2 ^ 64
    → later_bytes h k n p ≡ later_bytes h' k' n' p' → (h ≡ h') × (k ≡ k') × (n ≡ n') × (p ≡ p')
same_later h k n p h' k' n' p' lh lh' ln ln' lk lk' e =
    let first = same_parts (2 ∷ h) (2 ∷ h') (to_be_bytes w64 k ++ (n ++ (to_be_bytes w32 (length p) ++ p))) (to_be_bytes w64 k' ++ (n' ++ (to_be_bytes w32 (length p') ++ p'))) 33 (omega arith) (omega arith) (sym (later_parts h k n p) ∙ e ∙ later_parts h' k' n' p') in
    let second = same_parts (to_be_bytes w64 k) (to_be_bytes w64 k') (n ++ (to_be_bytes w32 (length p) ++ p)) (n' ++ (to_be_bytes w32 (length p') ++ p')) 8 refl refl first.1 in
    let third = same_parts n n' (to_be_bytes w32 (length p) ++ p) (to_be_bytes w32 (length p') ++ p') 16 ln ln' second.1 in
    let fourth = same_parts (to_be_bytes w32 (length p)) (to_be_bytes w32 (length p')) p p' 4 refl refl third.1 in
    (rest_of 2 h h' first.0, same_number_8 k k' lk lk' second.0, third.0, fourth.1)

pub own_bytes : (a b : Entry) → IsWellFormed a → IsWellFormed b → entry_bytes a ≡ entry_bytes b → SameEntry a b
own_bytes (Genesis n p) (Genesis n' p') ok ok' e = same_genesis n p.bytes n' p'.bytes ok.1 ok'.1 e
own_bytes (Genesis n p) (Later h' k' n' p') ok ok' e = absurd cc
own_bytes (Later h k n p) (Genesis n' p') ok ok' e = absurd cc
own_bytes (Later h k n p) (Later h' k' n' p') ok ok' e = same_later h k n p.bytes h' k' n' p'.bytes ok.1 ok'.1 ok.2 ok'.2 (omega (arith, ok.0.1)) (omega (arith, ok'.0.1)) e

-- what is wrong with bytes in parts
pub genesis_short : (bytes : List ℕ) → length bytes < 20 → genesis_fault bytes ≡ Some Short
unfolding genesis_fault
genesis_short bytes below = rw (lt-ltb (length bytes) 20 below) refl

pub genesis_on : (bytes a r b rest : List ℕ) (stated : ℕ) → bytes ≡ a ++ r → length a ≡ 16 → r ≡ b ++ rest → length b ≡ 4 → stated ≡ from_be_bytes w32 b → genesis_fault bytes ≡ payload_fault stated (length rest)
unfolding genesis_fault
genesis_on bytes a r b rest stated e la er lb es =
    let whole : length bytes ≡ 20 + length rest = omega (arith, ap length e, length-append a r, ap length er, length-append b rest) in
    let long : ltb (length bytes) 20 ≡ false = le-ltb (length bytes) 20 (omega arith) in
    let left : length bytes - 20 ≡ length rest = omega arith in
    let number : number_at w32 16 bytes ≡ stated = ap (λ l. from_be_bytes w32 (take 4 (drop 16 l))) e ∙ ap (λ l. from_be_bytes w32 (take 4 l)) (drop_at a r 16 la ∙ er) ∙ ap (from_be_bytes w32) (take_at b rest 4 lb) ∙ sym es in
    ap (λ short. cond short (Some Short) (payload_fault (number_at w32 16 bytes) (length bytes - 20))) long
    ∙ ap (λ n. payload_fault n (length bytes - 20)) number
    ∙ ap (payload_fault stated) left

pub later_short : (bytes : List ℕ) → length bytes < 60 → later_fault bytes ≡ Some Short
unfolding later_fault
later_short bytes below = rw (lt-ltb (length bytes) 60 below) refl

abbrev pub is_height : ℕ → Bool
is_height n = ltb 0 n && leb n MAX_HEIGHT

pub later_on : (bytes a r1 b r2 c r3 d rest : List ℕ) (height stated : ℕ) → bytes ≡ a ++ r1 → length a ≡ 32 → r1 ≡ b ++ r2 → length b ≡ 8 → height ≡ from_be_bytes w64 b → r2 ≡ c ++ r3 → length c ≡ 16
    → r3 ≡ d ++ rest → length d ≡ 4 → stated ≡ from_be_bytes w32 d → later_fault bytes ≡ cond (is_height height) (payload_fault stated (length rest)) (Some Height)
unfolding later_fault
later_on bytes a r1 b r2 c r3 d rest height stated e la e1 lb eh e2 lc e3 ld es =
    let whole : length bytes ≡ 60 + length rest = omega (arith, ap length e, length-append a r1, ap length e1, length-append b r2, ap length e2, length-append c r3, ap length e3, length-append d rest) in
    let long : ltb (length bytes) 60 ≡ false = le-ltb (length bytes) 60 (omega arith) in
    let left : length bytes - 60 ≡ length rest = omega arith in
    let height_is : number_at w64 32 bytes ≡ height = ap (λ l. from_be_bytes w64 (take 8 (drop 32 l))) e ∙ ap (λ l. from_be_bytes w64 (take 8 l)) (drop_at a r1 32 la ∙ e1) ∙ ap (from_be_bytes w64) (take_at b r2 8 lb) ∙ sym eh in
    let front : bytes ≡ (a ++ b ++ c) ++ r3 = e ∙ ap (λ l. a ++ l) (e1 ∙ ap (λ l. b ++ l) e2) ∙ sym (append_assoc a b (c ++ r3)) ∙ sym (append_assoc (a ++ b) c r3) in
    let before : length (a ++ b ++ c) ≡ 56 = omega (arith, length-append (a ++ b) c, length-append a b) in
    let stated_is : number_at w32 56 bytes ≡ stated = ap (λ l. from_be_bytes w32 (take 4 (drop 56 l))) front ∙ ap (λ l. from_be_bytes w32 (take 4 l)) (drop_at (a ++ b ++ c) r3 56 before ∙ e3) ∙ ap (from_be_bytes w32) (take_at d rest 4 ld) ∙ sym es in
    ap (λ short. cond short (Some Short) (cond (is_height (number_at w64 32 bytes)) (payload_fault (number_at w32 56 bytes) (length bytes - 60)) (Some Height))) long
    ∙ ap (λ n. cond (is_height n) (payload_fault (number_at w32 56 bytes) (length bytes - 60)) (Some Height)) height_is
    ∙ ap (λ n. cond (is_height height) (payload_fault n (length bytes - 60)) (Some Height)) stated_is
    ∙ ap (λ n. cond (is_height height) (payload_fault stated n) (Some Height)) left

pub is_height-in : (n : ℕ) → 1 ≤ n → n ≤ MAX_HEIGHT → is_height n ≡ true
is_height-in n low high = rw (lt-ltb 0 n low, le-leb n MAX_HEIGHT high) refl

pub is_height-zero : (n : ℕ) → n ≡ 0 → is_height n ≡ false
is_height-zero n e = rw e refl

pub is_height-above : (n : ℕ) → MAX_HEIGHT < n → is_height n ≡ false
is_height-above n high = rw (lt-ltb 0 n (omega arith), lt-leb n MAX_HEIGHT high) refl

-- an entry's own bytes have no fault
payload_none : (n : ℕ) → n ≤ MAX_PAYLOAD → payload_fault n n ≡ None
unfolding payload_fault
payload_none n high = rw (le-ltb MAX_PAYLOAD n high, le-ltb n n (omega arith)) refl

pub no_fault : (entry : Entry) → IsWellFormed entry → entry_fault (entry_bytes entry) ≡ None
no_fault (Genesis n p) ok =
    let b = to_be_bytes w32 (length p.bytes) in
    genesis_on ((n ++ b) ++ p.bytes) n (b ++ p.bytes) b p.bytes (length p.bytes) (append_assoc n b p.bytes) ok.1 refl refl (sym (from_be_bytes-to_be_bytes_4 (length p.bytes) (omega (arith, ok.0))))
    ∙ payload_none (length p.bytes) ok.0
no_fault (Later h k n p) ok =
    let height = to_be_bytes w64 k in
    let stated = to_be_bytes w32 (length p.bytes) in
    let parts : ((h ++ height ++ n) ++ stated) ++ p.bytes ≡ h ++ (height ++ (n ++ (stated ++ p.bytes))) = append_assoc (h ++ height ++ n) stated p.bytes ∙ append_assoc (h ++ height) n (stated ++ p.bytes) ∙ append_assoc h height (n ++ (stated ++ p.bytes)) in
    later_on (((h ++ height ++ n) ++ stated) ++ p.bytes) h (height ++ (n ++ (stated ++ p.bytes))) height (n ++ (stated ++ p.bytes)) n (stated ++ p.bytes) stated p.bytes k (length p.bytes)
    parts ok.1 refl refl (sym (from_be_bytes-to_be_bytes_8 k (omega (arith, ok.0.1)))) refl ok.2 refl refl (sym (from_be_bytes-to_be_bytes_4 (length p.bytes) (omega (arith, ok.0.2))))
    ∙ ap (λ fits. cond fits (payload_fault (length p.bytes) (length p.bytes)) (Some Height)) (is_height-in k ok.0.0 ok.0.1)
    ∙ payload_none (length p.bytes) ok.0.2

-- what is read has the bytes that were read
pub genesis_found : (bytes a r b rest payload : List ℕ) (stated : ℕ) → IsBytes bytes → bytes ≡ a ++ r → r ≡ b ++ rest → length b ≡ 4 → stated ≡ from_be_bytes w32 b → payload ≡ rest → length payload ≡ stated
    → 1 ∷ bytes ≡ genesis_bytes a payload
genesis_found bytes a r b rest payload stated fits e er lb es ep len =
    let all : bytes ≡ a ++ (b ++ rest) = e ∙ ap (λ l. a ++ l) er in
    let b_fits : IsBytes b = IsBytes-front b rest (IsBytes-rest a (b ++ rest) (subst IsBytes all fits)) in
    let back : to_be_bytes w32 (length payload) ≡ b = be_bytes_4 b (length payload) lb b_fits (len ∙ es) in
    ap (λ l. 1 ∷ l) all ∙ sym (ap (λ l. (1 ∷ a) ++ (l ++ payload)) back ∙ ap (λ l. (1 ∷ a) ++ (b ++ l)) ep) ∙ sym (genesis_parts a payload)

pub later_found : (bytes a r1 b r2 c r3 d rest payload : List ℕ) (height stated : ℕ) → IsBytes bytes → bytes ≡ a ++ r1 → r1 ≡ b ++ r2 → length b ≡ 8 → height ≡ from_be_bytes w64 b → r2 ≡ c ++ r3
    → r3 ≡ d ++ rest → length d ≡ 4 → stated ≡ from_be_bytes w32 d → payload ≡ rest → length payload ≡ stated → 2 ∷ bytes ≡ later_bytes a height c payload
later_found bytes a r1 b r2 c r3 d rest payload height stated fits e e1 lb eh e2 e3 ld es ep len =
    let all : bytes ≡ a ++ (b ++ (c ++ (d ++ rest))) = e ∙ ap (λ l. a ++ l) (e1 ∙ ap (λ l. b ++ l) (e2 ∙ ap (λ l. c ++ l) e3)) in
    let tail_fits : IsBytes (b ++ (c ++ (d ++ rest))) = IsBytes-rest a (b ++ (c ++ (d ++ rest))) (subst IsBytes all fits) in
    let b_fits : IsBytes b = IsBytes-front b (c ++ (d ++ rest)) tail_fits in
    let d_fits : IsBytes d = IsBytes-front d rest (IsBytes-rest c (d ++ rest) (IsBytes-rest b (c ++ (d ++ rest)) tail_fits)) in
    let back8 : to_be_bytes w64 height ≡ b = be_bytes_8 b height lb b_fits eh in
    let back4 : to_be_bytes w32 (length payload) ≡ d = be_bytes_4 d (length payload) ld d_fits (len ∙ es) in
    ap (λ l. 2 ∷ l) all
    ∙ sym (ap (λ l. (2 ∷ a) ++ (l ++ (c ++ (to_be_bytes w32 (length payload) ++ payload)))) back8 ∙ ap (λ l. (2 ∷ a) ++ (b ++ (c ++ (l ++ payload)))) back4 ∙ ap (λ l. (2 ∷ a) ++ (b ++ (c ++ (d ++ l)))) ep)
    ∙ sym (later_parts a height c payload)

-- what a reader answered, where the value or the cause is known
pub ok_is_none : {T : Type 0} (o : Option EntryFault) (x : T) → Reports o (Ok x) → o ≡ None
ok_is_none None x m = refl
ok_is_none (Some fault) x m = absurd cc

pub err_is_passed : {T U : Type 0} (o : Option EntryFault) (r : Result T EntryFault) (s : Result U EntryFault) (x : EntryFault) → r ≡ Err x → s ≡ Err x → Reports o r
    → Reports o s
err_is_passed None r s x er es m = let same : x ≡ NoMemory = rw er at m in rw es same
err_is_passed (Some fault) r s x er es m = let same : x ≡ fault = cc in es ∙ ap Err same

-- the bytes of an entry are read as this entry
pub again : (bytes : List ℕ) (r : Result Entry EntryFault) → IfOk r (λ read. IsWellFormed read × (bytes ≡ entry_bytes read)) → Reports (entry_fault bytes) r
    → (entry : Entry) → IsWellFormed entry → bytes ≡ entry_bytes entry → MatchResult r (λ read. SameEntry read entry) (λ fault. fault ≡ NoMemory)
again bytes (Ok read) found refused entry ok e = own_bytes read entry found.0 ok (sym found.1 ∙ e)
again bytes (Err fault) found refused entry ok e =
    let r : Result Entry EntryFault = Err fault in
    subst (λ (o : Option EntryFault). Reports o r) (ap entry_fault e ∙ no_fault entry ok) refused
