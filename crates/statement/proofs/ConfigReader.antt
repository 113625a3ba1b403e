-- The reader of configs.
use Rattle.std.proofs.Common.{◌≡◌, ℕ, ◌^◌, ◌<◌, length, Option, Ok, refl, sym, ap, subst, arith}
use Rattle.std.specs.Prelude.{IsTrue}
use Rattle.std.specs.Int.{w32}
use Rattle.std.proofs.lemmas.Bool.{and_from, le-leb}
use Rattle.nim_base.specs.declared.form_fault.FormFault.TheVariants.{Order}
use Rattle.statement.specs.declared.member.Member.{Member}
use Rattle.statement.specs.Ids.{is_above}
use Rattle.statement.specs.Config.{id_of, IsMember, IsConfig}
use Rattle.statement.specs.ConfigForm.{member_bytes, config_bytes, MemberShows, ConfigBegins}
use Rattle.statement.specs.Reading.{◌>>=◌, number_at, bytes_at, list_at, member_at, config_at}
use Rattle.statement.proofs.Fields.{wide32}
use Rattle.statement.proofs.Readers.{IsReader, behind, guarded, said, made, fixed, bytes_field, number_field}
use Rattle.statement.proofs.Wholes.{IsList, few, list_reader, kinded}

member_reader : (before : Option ℕ) → IsReader (member_at before) (λ member. IsTrue (is_above before member.id) × IsMember member) member_bytes (MemberShows before)
unfolding member_at
member_reader before =
    let key : (id : ℕ) → IsReader (λ text. bytes_at 32 text >>= λ key. Ok (record { id = id; key = key.0 }, key.1)) (λ (member : Member). (member.id ≡ id) × (length member.key ≡ 32)) (λ member. member.key) _ =
    λ id. made (bytes_at 32) _ _ _ (λ key. record { id = id; key = key }) (λ member. member.key) _ _
    (λ key good. ((refl, good), refl))
    (λ member good. (good.1, ap (λ (id : ℕ). record { id = id; key = member.key }) (sym good.0), refl))
    (fixed 32 (bytes_at 32) _ _ (bytes_field 32)) in
    said _ (λ member. (member.id < 2 ^ 32) × (IsTrue (is_above before member.id) × (length member.key ≡ 32))) (λ member. IsTrue (is_above before member.id) × IsMember member) _ _
    (λ member good. (good.1.0, record { id = good.0; key = good.1.1 })) (λ member good. (good.1.id, (good.0, good.1.key)))
    (behind (number_at w32) _ _ _ _ (λ member. IsTrue (is_above before member.id) × (length member.key ≡ 32)) (λ member. member.key) _ (λ member. member.id) (fixed _ (number_at w32) _ _ (number_field w32 (2 ^ 32) wide32))
    (λ id lt. said _ (λ member. IsTrue (is_above before id) × ((member.id ≡ id) × (length member.key ≡ 32))) (λ member. (member.id ≡ id) × (IsTrue (is_above before member.id) × (length member.key ≡ 32))) _ _
    (λ member good. (good.1.0, (subst (λ (i : ℕ). IsTrue (is_above before i)) (sym good.1.0) good.0, good.1.1)))
    (λ member good. (subst (λ (i : ℕ). IsTrue (is_above before i)) good.0 good.1.0, (good.0, good.1.1)))
    (guarded (is_above before id) Order _ _ _ _ (key id))))

pub config_reader : IsReader config_at IsConfig config_bytes ConfigBegins
unfolding config_at
config_reader =
    kinded 0x12 (omega arith) (list_at member_at id_of) IsConfig _ _
    (said _ (IsList member_at id_of IsMember member_bytes MemberShows member_reader) IsConfig _ _
    (λ members good. let n = few (length members) good.0 in record { rising = good.1; each = good.2; some = n.0; few = n.1 })
    (λ members good. (and_from _ _ (le-leb 1 (length members) good.some) (le-leb (length members) 15 good.few), good.rising, good.each))
    (list_reader member_at id_of IsMember member_bytes MemberShows member_reader))
