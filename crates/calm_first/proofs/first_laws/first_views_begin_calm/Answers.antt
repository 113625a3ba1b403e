use Rattle.std.proofs.Common.{◌≡◌, ◌∷◌, List, [], ap, subst}
use Rattle.statement.specs.declared.member.Member.{Member}
use Rattle.statement.specs.Config.{IsConfig}
use Rattle.view_ledger.specs.Views.{ViewChain}
use Rattle.op_reconf.specs.First.{first_config}
use Rattle.op_reconf.specs.Sound.{AtStage, EndedWith}
use Rattle.op_reconf.specs.State.{StageState}
use Rattle.calm_first.proofs.Beginnings.{Laws, ends}
use Rattle.calm_first.proofs.first_laws.first_views_begin_calm.Goals as goal

-- a chain that has one view
one_view : (from : ViewChain) (config : List Member) → from.configs ≡ config ∷ [] → from ≡ record { roster = from.roster; configs = config ∷ [] }
one_view from config is = ap (λ (c : List (List Member)). record from { configs = c }) is

pub returns : goal.returns
returns c =
    let laws : Laws = record {
      members = record { initialized = c.first_members_begin.ensures.initialized; activated = c.first_members_begin.ensures.activated };
      able = c.first_members_begin.ensures.able;
      calm = c.new_services_are_calm.ensures;
      few = c.quorums_are_parted.ensures.few;
    } in
    λ first from state past answer contents bank is sound stage honest faithful.
    let whole = one_view from first.config is in
    let config : IsConfig first.config = subst (λ (f : ViewChain). IsConfig (first_config f)) whole sound.config in
    ends laws first from.roster config past answer contents bank
    (subst (λ (f : ViewChain). EndedWith f past answer) whole (subst (λ (s : StageState). AtStage from s past) stage sound.at)) honest faithful
