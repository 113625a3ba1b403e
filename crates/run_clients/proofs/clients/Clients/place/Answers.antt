use Rattle.std.proofs.Common.{◌≡◌, sym, ◌∙◌, ap, subst}
use Rattle.run_clients.specs.Clients.{AreApart, place_of}
use Rattle.run_clients.proofs.NamedClients.{found_is_named, named_is_found, place_within}
use Rattle.run_clients.proofs.clients.Clients.place.Goals as goal

pub returns-clause-at : goal.returns-clause-at
returns-clause-at g c = λ place.
    let now = c.args.self.now in
    let name = c.args.name.now in
    let is : c.find.result ≡ place_of now name = c.find.ensures ∙ c.self.invariant.0 name ∙ ap (λ clients. place_of clients name) c.self.view_is in (
      λ found. found_is_named now name place (sym is ∙ found),
      λ named. is ∙ named_is_found now name place (subst (λ clients. AreApart clients) c.self.view_is c.self.invariant.1) named,
    )

pub returns-clause-within : goal.returns-clause-within
returns-clause-within g c =
    let now = c.args.self.now in
    let name = c.args.name.now in
    place_within now name c.find.result (c.find.ensures ∙ c.self.invariant.0 name ∙ ap (λ clients. place_of clients name) c.self.view_is)
