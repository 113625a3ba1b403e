use Rattle.std.proofs.Common.{refl, sym, ◌∙◌, ap, Some}
use Rattle.run_clients.specs.Places.{at}
use Rattle.run_clients.proofs.NamedClients.{kept_lent, pass_set, pass_stands}
use Rattle.run_clients.proofs.clients.Clients.pass_mut.Goals as goal

pub invariant_of-self-lent : goal.invariant_of-self-lent
invariant_of-self-lent g c =
    kept_lent c.self.inside.clients.items c.args.self.now c.args.place c.index_mut-client.result.now c.self.view_is c.requires c.index_mut-client.ensures.value
    (at c.self.inside.places) c.self.invariant

pub returns : goal.returns
returns g c = (
  (refl, pass_set c.self.inside.clients.items c.args.self.now c.args.place c.index_mut-client.result.now c.self.view_is c.requires c.index_mut-client.ensures.value),
  record {
    value = ap Some c.pass_mut.ensures.value
        ∙ sym (pass_stands c.self.inside.clients.items c.args.self.now c.args.place c.index_mut-client.result.now c.self.view_is c.requires c.index_mut-client.ensures.value);
    writes_back = tt;
  },
)
