-- How a chain of views begins and grows.
use Rattle.std.specs.Prelude.{◌≡◌, ℕ, ◌==◌, ◌&&◌, Bool, not, nat_lt, if◌then◌else◌, List, [], ◌∷◌, ◌++◌, map, find, Contains, Option, Some, None, option_map, Result, Ok, Err}
use Rattle.std.specs.List.{AllByRecursion, list_any}
use Rattle.std.specs.Option.{option_map_or, option_or}
use Rattle.std.specs.Str.{bytes_eq}
use Rattle.statement.specs.declared.member.Member.{Member}
use Rattle.statement.specs.declared.statement.Statement.TheVariants.{Final}
use Rattle.statement.specs.declared.view_block.ViewBlock.{ViewBlock}
use Rattle.statement.specs.Ids.{is_above, IsRising}
use Rattle.statement.specs.Config.{weight_together, quorum, IsQuorum}
use Rattle.statement.specs.Config.{id_of as member_id}
use Rattle.statement.specs.Statement.{statement_bytes}
use Rattle.port.specs.View.{FinalMark, ViewRow}
use Rattle.view_ledger.specs.declared.view_fault.ViewFault.{ViewFault}
use Rattle.view_ledger.specs.declared.view_fault.ViewFault.TheVariants.{BadLink, BadMark, NoQuorum, NotGenuine}
use Rattle.view_ledger.specs.Views.{ViewChain, newest_tail, newest_config, next_block}
use Rattle.view_ledger.specs.Receipts.{Accepts, IsSigned, is_signed}

-- each of the members stands in the roster with its key
abbrev pub AreGenuine : List Member → List Member → Type 0
AreGenuine roster members = AllByRecursion (λ member. Contains roster member) members

abbrev pub final_id : FinalMark → ℕ
final_id final = final.id

-- what a member signs that ends the newest view for this next one, by the digest of its map
abbrev pub final_bytes : List (List Member) → List Member → List ℕ → List ℕ
final_bytes configs next map = statement_bytes (Final (newest_tail configs) (newest_tail (configs ++ next ∷ [])) map)

-- a view follows the newest one of a chain
pub record Follows (accepts : Accepts) (chain : ViewChain) (next : ViewRow) : Type 0 where
  pub block : next.block ≡ next_block chain.configs next.config
  pub rising : IsRising (map final_id next.finals)
  pub signed : AllByRecursion (λ final. IsSigned accepts (newest_config chain.configs) (final_bytes chain.configs next.config final.map) final.id final.sig) next.finals
  pub enough : IsQuorum (newest_config chain.configs) (map final_id next.finals)
  pub genuine : AreGenuine chain.roster next.config

-- the chain with one view more
abbrev pub extended : ViewChain → List Member → ViewChain
extended chain next = record chain { configs = chain.configs ++ next ∷ [] }

abbrev pub is_genuine : List Member → Member → Bool
is_genuine roster member = list_any (λ known. (known.id == member.id) && bytes_eq known.key member.key) roster

-- the first member that isn't in the roster with its key
abbrev pub first_not_genuine : List Member → List Member → Option ℕ
first_not_genuine roster members = option_map member_id (find (λ member. not (is_genuine roster member)) members)

-- view 0 alone, or the first member that isn't genuine
abbrev pub start_outcome : List Member → List Member → Result ViewChain ViewFault
start_outcome roster config =
    option_map_or (λ id. Err (NotGenuine id)) (first_not_genuine roster config) (Ok (record { roster = roster; configs = config ∷ [] }))

abbrev pub is_block : ViewBlock → ViewBlock → Bool
is_block one other = bytes_eq one.prev other.prev && (bytes_eq one.config other.config && (one.number == other.number))

abbrev pub bad_link : List (List Member) → List Member → ViewBlock → Option ViewFault
bad_link configs next block = if is_block block (next_block configs next) then None else Some BadLink

-- the first final whose id isn't above the one before, or that isn't its member's
abbrev pub first_bad_final : Accepts → List Member → (List ℕ → List ℕ) → Option ℕ → List FinalMark → Option ℕ
first_bad_final accepts config bytes before [] = None
first_bad_final accepts config bytes before (final ∷ finals) =
    if is_above before final.id && is_signed accepts config (bytes final.map) final.id final.sig then first_bad_final accepts config bytes (Some final.id) finals else Some final.id

abbrev pub no_quorum : ℕ → ℕ → Option ViewFault
no_quorum got need = if nat_lt got need then Some (NoQuorum got need) else None

-- the first cause for which these finals don't end a view
unfoldable pub finals_fault : Accepts → List Member → (List ℕ → List ℕ) → List FinalMark → Option ViewFault
finals_fault accepts config bytes finals =
    option_or (option_map BadMark (first_bad_final accepts config bytes None finals)) (no_quorum (weight_together config (map final_id finals)) (quorum config))

-- the first cause for which a view doesn't follow, in the order of the causes
unfoldable pub extend_fault : Accepts → ViewChain → ViewRow → Option ViewFault
extend_fault accepts chain next =
    option_or (bad_link chain.configs next.config next.block)
    (option_or (finals_fault accepts (newest_config chain.configs) (final_bytes chain.configs next.config) next.finals)
    (option_map NotGenuine (first_not_genuine chain.roster next.config)))

-- the chain with the view added, or the first cause for which it doesn't follow
unfoldable pub extend_outcome : Accepts → ViewChain → ViewRow → Result ViewChain ViewFault
extend_outcome accepts chain next = option_map_or Err (extend_fault accepts chain next) (Ok (extended chain next.config))
