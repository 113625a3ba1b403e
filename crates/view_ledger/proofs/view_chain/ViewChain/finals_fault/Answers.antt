use Rattle.std.proofs.Common.{◌≡◌, ◌<◌, ◌↔◌, length, map, take, Some, Err, sym, subst, rules}
use Rattle.std.specs.Prelude.{IfNone}
use Rattle.view_ledger.specs.Views.{ViewChain, newest_config, config_at}
use Rattle.view_ledger.specs.Extension.{Follows, final_bytes, finals_fault, extend_outcome}
use Rattle.view_ledger.specs.Kept.{config_of, kept_chain}
use Rattle.view_ledger.specs.Numbered.{chain_below, row_at}
use Rattle.view_ledger.proofs.NumberedViews.{genuine_in, if_none, by_fault}
use Rattle.view_ledger.proofs.view_chain.ViewChain.finals_fault.Goals as goal

pub returns-clause-none : goal.returns-clause-none
returns-clause-none g c =
    let accepts = g.C.Checker.accepts c.args.checker.now in
    let roster = c.self.inside.roster.items in
    let views = c.self.inside.views.items in
    let configs = map config_of views in
    let known : c.args.number < length configs = subst (λ (chain : ViewChain). c.args.number < length chain.configs) (sym c.self.view_is) c.requires.known in
    let genuine = genuine_in roster views c.args.number c.self.invariant known in
    let judged : c.fault_at.result ≡ finals_fault accepts (newest_config (take c.args.number configs)) (final_bytes (take c.args.number configs) (config_at configs c.args.number)) c.args.finals.now = search rules in
    subst
    (λ (chain : ViewChain). IfNone c.fault_at.result (Follows accepts (chain_below chain c.args.number) (row_at chain.configs c.args.number c.args.finals.now)))
    c.self.view_is
    (if_none accepts (kept_chain roster views) c.args.number c.args.finals.now genuine c.fault_at.result judged)

pub returns-clause-fault : goal.returns-clause-fault
returns-clause-fault g c =
    let accepts = g.C.Checker.accepts c.args.checker.now in
    let roster = c.self.inside.roster.items in
    let views = c.self.inside.views.items in
    let configs = map config_of views in
    let known : c.args.number < length configs = subst (λ (chain : ViewChain). c.args.number < length chain.configs) (sym c.self.view_is) c.requires.known in
    let genuine = genuine_in roster views c.args.number c.self.invariant known in
    let judged : c.fault_at.result ≡ finals_fault accepts (newest_config (take c.args.number configs)) (final_bytes (take c.args.number configs) (config_at configs c.args.number)) c.args.finals.now = search rules in
    λ fault. subst
    (λ (chain : ViewChain). (c.fault_at.result ≡ Some fault) ↔ (extend_outcome accepts (chain_below chain c.args.number) (row_at chain.configs c.args.number c.args.finals.now) ≡ Err fault))
    c.self.view_is
    (by_fault accepts (kept_chain roster views) c.args.number c.args.finals.now genuine c.fault_at.result judged fault)
