-- What the members of a calm service are ready for.
use Rattle.std.proofs.Common.{◌≡◌, ◌⊎◌, inl, inr, ℕ, ◌<◌, List, [], length, sym, subst, ap, ◌∙◌, arith}
use Rattle.tail_map.specs.TailMap.{get}
use Rattle.statement.specs.declared.member.Member.{Member}
use Rattle.statement.specs.Config.{IsConfig}
use Rattle.view_ledger.specs.Views.{newest_tail, newest_config}
use Rattle.op_parts.specs.RoundAsking.{Asking}
use Rattle.calm.specs.Members.{AreAble}
use Rattle.calm.specs.Appending.{AreReady, HasRoom, IsFull}
use Rattle.calm.specs.Calm.{newest_block, ServiceState, IsCalm}
use Rattle.calm.proofs.NewestViews.{older, split_newest, tail_is}
use Rattle.calm.proofs.SetRows.{has_row, no_row}

module _ (service : ServiceState) (calm : IsCalm service) where
  pub newest_is_config : IsConfig (newest_config service.configs)
  newest_is_config = (calm.views.views (older service.configs) [] (newest_config service.configs) (split_newest service.configs calm.views.some)).reads.0.config

  pub ready : (ask : Asking) → ask.members ≡ newest_config service.configs → ask.view ≡ newest_tail service.configs
      → AreReady service.accepts service.signs service.bank (newest_block service.configs) service.rows service.left ask
  ready ask members view = record {
    fits = calm.fits;
    config = subst IsConfig (sym members) newest_is_config;
    tail = view ∙ tail_is service.configs calm.views.some;
    able = subst (λ (m : List Member). AreAble service.bank (newest_block service.configs) m service.rows service.left) (sym members) calm.members;
  }

  count_is : (handle : List ℕ) → (get service.rows handle).1 ≡ length (service.ledgers handle)
  count_is handle = ap (λ (r : List ℕ × ℕ). r.1) (calm.map.each handle)

  pub room : (handle : List ℕ) → (0 < length (service.ledgers handle)) ⊎ (length service.rows < 4096) → HasRoom service.rows handle
  room handle (inl some) = let count = count_is handle in inl (has_row service.rows handle (omega (arith, some, count)))
  room handle (inr few) = inr few

  pub full : (handle : List ℕ) → length (service.ledgers handle) ≡ 0 → length service.rows ≡ 4096 → IsFull service.rows handle
  full handle none all = let count = count_is handle in (no_row service.rows handle calm.map.lawful.each (omega (arith, none, count)), all)
