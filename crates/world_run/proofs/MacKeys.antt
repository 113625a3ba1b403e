-- The keys of the stand-ins are apart, where no two of the texts that lead to them have one digest.
use Rattle.std.proofs.Common.{◌≡◌, ℕ, zero, suc, ◌+◌, ◌<◌, ◌≤◌, List, [], ◌∷◌, length, get_or, refl, sym, ap, subst, ◌∙◌, arith}
use Rattle.std.specs.Int.{w32, from_be_bytes, to_be_bytes}
use Rattle.std.specs.List.{flat_map}
use Rattle.std.specs.Prelude.{Contains}
use Rattle.std.proofs.lemmas.List.{length-map}
use Rattle.std.proofs.lemmas.List.Elements.{Contains-append_left, Contains-append_right}
use Rattle.std.proofs.lemmas.List.FromFn.{get_or-map-range_with_len, length-range_with_len}
use Rattle.std.proofs.lemmas.Nat.{from_be_bytes-to_be_bytes_4}
use Rattle.seal.specs.MacKey.{key_text, mac_key, secret_of, secret_text}
use Rattle.fault_script.specs.Command.{Command}
use Rattle.statement.specs.declared.member.Member.{Member}
use Rattle.least_collision.specs.Collision.{NoCollision}
use Rattle.script_runs.specs.Roster.{KeysAreApart, all_members, member_by}
use Rattle.script_runs.specs.Ids.{all_ids}
use Rattle.world_run.specs.Seals.{mac_texts}
use Rattle.world_run.specs.SetUp.{set_up_texts}
use Rattle.world_run.proofs.Ids.{has_id}

has_text_at : (texts_of : ℕ → List (List ℕ)) (ids : List ℕ) (i id : ℕ) (text : List ℕ) → i < length ids → get_or ids i id ≡ id → Contains (texts_of id) text → Contains (flat_map texts_of ids) text
has_text_at texts_of [] i id text below is has = absurd (omega (arith, below))
has_text_at texts_of (first ∷ ids) zero id text below is has =
    Contains-append_left (texts_of first) (flat_map texts_of ids) text (subst (λ (n : ℕ). Contains (texts_of n) text) (sym is) has)
has_text_at texts_of (first ∷ ids) (suc i) id text below is has =
    Contains-append_right (texts_of first) (flat_map texts_of ids) text (has_text_at texts_of ids i id text (omega (arith, below)) is has)

-- the texts of an id stand among those that a run rests on
has_text : (script : List Command) (id : ℕ) (text : List ℕ) → 1 ≤ id → id ≤ 64 → Contains (mac_texts id) text → Contains (set_up_texts mac_texts script) text
has_text script id text low high has =
    let at = has_id id low high in
    Contains-append_left (flat_map mac_texts all_ids) _ text (has_text_at mac_texts all_ids at.0 id text at.1 at.2 has)

tails : (x : ℕ) (xs ys : List ℕ) → x ∷ xs ≡ x ∷ ys → xs ≡ ys
tails x xs ys e = cc e

same_id : (script : List Command) (id other : ℕ) → 1 ≤ id → id ≤ 64 → 1 ≤ other → other ≤ 64 → NoCollision (set_up_texts mac_texts script) → mac_key id ≡ mac_key other → id ≡ other
same_id script id other one_low one_high low high none same =
    let keys : key_text (secret_of id) ≡ key_text (secret_of other) =
    none (key_text (secret_of id)) (key_text (secret_of other)) (has_text script id _ one_low one_high (1, omega arith, refl)) (has_text script other _ low high (1, omega arith, refl)) same in
    let secrets : secret_of id ≡ secret_of other = tails 0x40 (secret_of id) (secret_of other) keys in
    let texts : secret_text id ≡ secret_text other =
    none (secret_text id) (secret_text other) (has_text script id _ one_low one_high (0, omega arith, refl)) (has_text script other _ low high (0, omega arith, refl)) secrets in
    let bytes : to_be_bytes w32 id ≡ to_be_bytes w32 other = tails 0x41 (to_be_bytes w32 id) (to_be_bytes w32 other) texts in
    sym (from_be_bytes-to_be_bytes_4 id (omega (arith, one_high))) ∙ ap (from_be_bytes w32) bytes ∙ from_be_bytes-to_be_bytes_4 other (omega (arith, high))

members_at : (i : ℕ) (d : Member) → i < 64 → get_or (all_members mac_key) i d ≡ member_by mac_key (1 + i)
unfolding all_ids
members_at i d below = get_or-map-range_with_len (member_by mac_key) 1 64 i (1 + i) d below refl

count_members : length (all_members mac_key) ≡ 64
unfolding all_ids
count_members = length-map all_ids (member_by mac_key) ∙ length-range_with_len 1 64

pub macs_apart : (script : List Command) → NoCollision (set_up_texts mac_texts script) → KeysAreApart mac_key
macs_apart script none = λ i j d before below same.
    let high : j < 64 = omega (arith, below, count_members) in
    let one = ap (λ (m : Member). m.key) (members_at i d (omega (arith, before, high))) in
    let other = ap (λ (m : Member). m.key) (members_at j d high) in
    let is : 1 + i ≡ 1 + j = same_id script (1 + i) (1 + j) (omega arith) (omega (arith, before, high)) (omega arith) (omega (arith, high)) none (sym one ∙ same ∙ other) in
    absurd (omega (arith, is, before))
