use Rattle.std.proofs.Common.{◌<◌, subst, sym, length, rules}
use Rattle.view_ledger.specs.declared.view.View.{View}
use Rattle.view_ledger.specs.Views.{ViewChain}
use Rattle.view_ledger.specs.Extension.{AreGenuine}
use Rattle.view_ledger.proofs.KeptViews.{genuine_at}
use Rattle.view_ledger.proofs.view_chain.ViewChain.config.Goals as goal

pub returns-clause-genuine : goal.returns-clause-genuine
returns-clause-genuine c =
    let views = c.self.inside.views.items in
    let below : c.args.number < length views = search rules in
    let at = genuine_at c.self.inside.roster.items views c.args.number c.index.result.now c.self.invariant below in
    subst (λ (chain : ViewChain). AreGenuine chain.roster c.index.result.now.config) c.self.view_is (subst (λ (view : View). AreGenuine c.self.inside.roster.items view.config) (sym c.index.ensures) at)
