-- The lists of a run beside its order, and the record that they make.
use Rattle.std.proofs.Common.{◌≡◌, ◌≢◌, ℕ, zero, suc, List, [], ◌∷◌, map, length, refl, sym, ap, subst, ◌∙◌}
use Rattle.std.specs.Prelude.{AllPairs, slice_index_or}
use Rattle.std.specs.List.{AllByRecursion}
use Rattle.statement.specs.declared.member.Member.{Member}
use Rattle.statement.specs.Ids.{IsRising}
use Rattle.statement.specs.Config.{ids as ids_of}
use Rattle.stamp_clock.specs.Stamps.{times}
use Rattle.endorser_core.specs.Line.{Line as CellLine}
use Rattle.view_ledger.specs.Receipts.{Accepts}
use Rattle.view_ledger.specs.Extension.{AreGenuine}
use Rattle.view_ledger.specs.Views.{ViewChain}
use Rattle.client_pass.specs.Act.{Act, Line as ClientLine}
use Rattle.client_pass.specs.ClientList.{IsClientList}
use Rattle.client_pass.specs.ClientPass.{ClientPass}
use Rattle.client_pass.specs.Record.{AreLawful}
use Rattle.run_record.specs.declared.actor.Actor.{Actor}
use Rattle.run_record.specs.Events.{AreEvents, length_at}
use Rattle.run_record.specs.Stamping.{IsRecordUnstamped, acts_of, given}
use Rattle.client_acts.specs.declared.turn.Turn.{Turn}
use Rattle.client_acts.specs.ClientActs.{line_count}
use Rattle.client_acts.specs.Turns.{lines_by}
use Rattle.run_order.specs.Order.{order_from}
use Rattle.run_order.proofs.Counted.{counted}
use Rattle.run_order.proofs.Orders.{events}

module _ {C : Type 0} where
  abbrev pub lines_of : List (ClientPass C) → List (List ClientLine)
  lines_of clients = map (λ client. client.lines) clients

  count_at : (clients : List (ClientPass C)) (place : ℕ) → line_count clients place ≡ length_at (lines_of clients) place
  count_at [] zero = refl
  count_at [] (suc place) = refl
  count_at (client ∷ clients) zero = refl
  count_at (client ∷ clients) (suc place) = count_at clients place

  -- each list has a line for each event of its actor
  pub are_events : (places : List ℕ) (turns : List Turn) (order : List Actor) (cells : List (List CellLine)) (passes : List (List ClientLine)) (clients : List (ClientPass C))
      → order ≡ order_from events places 0 turns
      → ((place : ℕ) → length (slice_index_or cells place []) ≡ times place places)
      → passes ≡ lines_of clients
      → ((place : ℕ) → lines_by place turns ≡ line_count clients place)
      → AreEvents order cells passes
  are_events places turns order cells passes clients is served own acted =
      subst (λ (order : List Actor). AreEvents order cells passes) (sym is)
      (subst (λ (passes : List (List ClientLine)). AreEvents (order_from events places 0 turns) cells passes) (sym own)
      (counted places turns (length_at cells) (length_at (lines_of clients)) served (λ place. acted place ∙ count_at clients place)))

  all_acts : (clients : List (ClientPass C)) → map acts_of (lines_of clients) ≡ map (λ client. acts_of client.lines) clients
  all_acts [] = refl
  all_acts (client ∷ clients) = ap (λ (rest : List (List Act)). acts_of client.lines ∷ rest) (all_acts clients)

  pub same_acts : (made : List (List Act)) (passes : List (List ClientLine)) (clients : List (ClientPass C)) → made ≡ map acts_of passes → passes ≡ lines_of clients
      → made ≡ map (λ client. acts_of client.lines) clients
  same_acts made passes clients is own = is ∙ ap (λ (lists : List (List ClientLine)). map acts_of lists) own ∙ all_acts clients

-- what is needed of a record but for its stamps
pub unstamped : (accepts : Accepts) (members genesis roster : List Member) (cells : List (List CellLine)) (passes : List (List ClientLine)) (first : ViewChain)
    → IsRising (ids_of members) → AreLawful accepts members cells → AllByRecursion (IsClientList accepts first) passes
    → roster ≡ members → first ≡ record { roster = members; configs = genesis ∷ [] } → AllPairs (λ (one other : Member). one.key ≢ other.key) members → AreGenuine members genesis
    → IsRecordUnstamped accepts (given genesis roster cells passes)
unstamped accepts members genesis roster cells passes first rising lawful clients is begins keys genuine =
    subst (λ (roster : List Member). IsRecordUnstamped accepts (given genesis roster cells passes)) (sym is) (record {
      ids = rising;
      keys = keys;
      genuine = genuine;
      cells = lawful;
      passes = subst (λ (chain : ViewChain). AllByRecursion (IsClientList accepts chain) passes) begins clients;
    })
