-- What an honest store answers in which all views stand.
use Rattle.std.proofs.Common.{◌≡◌, true, List, length, Some, sym, subst, ◌∙◌}
use Rattle.statement.specs.declared.member.Member.{Member}
use Rattle.port.specs.declared.key.Key.TheVariants as keys
use Rattle.port.specs.declared.store_answers.Got.{Got}
use Rattle.port.specs.declared.store_answers.Got.TheVariants as gots
use Rattle.port.specs.Contents.{Contents}
use Rattle.port.specs.Stored.{Stored}
use Rattle.port.specs.Store.{Get, WasGot, IsHonest}
use Rattle.view_ledger.specs.Views.{next_block}
use Rattle.view_ledger.specs.Receipts.{Accepts}
use Rattle.op_parts.specs.Refresh.{IsComplete, ReadsAsView, ReadsAsFinals}
use Rattle.calm.specs.StandingViews.{ViewStands, FinalsStand}
use Rattle.calm.specs.Storing.{GivesView, GivesFinals}

pub view_given : (contents after : Contents) (below : List (List Member)) (config : List Member) (got : Got) → ViewStands contents below config
    → IsHonest contents (Get (keys.View (length below))) (WasGot got) after → GivesView below config got
view_given contents after below config (gots.Some stored) stands honest =
    let same : stands.stored ≡ stored = (let s : Some stands.stored ≡ Some stored = sym stands.stands ∙ honest.0 in cc) in (
      subst (λ (s : Stored). IsComplete s ≡ true) same stands.complete,
      subst (λ (s : Stored). ReadsAsView s.body (next_block below config, config)) same stands.reads,
    )
view_given contents after below config gots.None stands honest = let some = stands.stands in let none = honest.0 in absurd (cc)
view_given contents after below config gots.Failed stands honest = absurd honest
view_given contents after below config gots.NoMemory stands honest = tt

pub finals_given : (accepts : Accepts) (roster : List Member) (contents after : Contents) (below : List (List Member)) (config : List Member) (got : Got) → FinalsStand accepts roster contents below config
    → IsHonest contents (Get (keys.Finals (length below))) (WasGot got) after → GivesFinals accepts roster below config got
finals_given accepts roster contents after below config (gots.Some stored) stands honest =
    let same : stands.stored ≡ stored = (let s : Some stands.stored ≡ Some stored = sym stands.stands ∙ honest.0 in cc) in
    (stands.maps, subst (λ (s : Stored). ReadsAsFinals s.body stands.maps) same stands.reads, stands.follows)
finals_given accepts roster contents after below config gots.None stands honest = let some = stands.stands in let none = honest.0 in absurd (cc)
finals_given accepts roster contents after below config gots.Failed stands honest = absurd honest
finals_given accepts roster contents after below config gots.NoMemory stands honest = tt
