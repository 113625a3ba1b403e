-- What holds of a record whose lines have the places of their events.
use Rattle.std.proofs.Common.{◌≡◌, ℕ, ◌≤◌, List, [], length, map, get_or, refl, ◌∙◌, arith}
use Rattle.std.specs.List.{AllByRecursion}
use Rattle.std.specs.List.Sorted.{IsStrictlyIncreasing}
use Rattle.std.proofs.lemmas.List.{length-map}
use Rattle.statement.specs.declared.member.Member.{Member}
use Rattle.stamp_clock.specs.Stamps.{EachOnce}
use Rattle.endorser_core.specs.Line.{Line as CellLine}
use Rattle.view_ledger.specs.Receipts.{Accepts}
use Rattle.view_ledger.specs.Views.{ViewChain}
use Rattle.client_pass.specs.Act.{Line as ClientLine}
use Rattle.client_pass.specs.ClientList.{IsClientList, stamps_of}
use Rattle.client_pass.specs.Record.{AreLawful, IsRecord, call_stamps, first_chain, stamp_lists, stamps}
use Rattle.run_record.specs.declared.actor.Actor.{Actor}
use Rattle.run_record.specs.Events.{AreEvents, is_client, is_endorser, places}
use Rattle.run_record.specs.Stamping.{AreStamped, IsRecordUnstamped, act_stamped, acts_of, call_stamped, calls_of, given}
use Rattle.run_record.proofs.Counts.{beyond}
use Rattle.run_record.proofs.Stamps.{rests_of, stamps_at}
use Rattle.run_record.proofs.Sums.{AreAllPlaces, all_count, all_once, all_rise}
use Rattle.run_record.proofs.Unstamped.{client_lists, lawful_lists}

module _ (order : List Actor) (cells now_cells : List (List CellLine)) (passes now_passes : List (List ClientLine))
    (events : AreEvents order cells passes) (calls_done : AreStamped call_stamped is_endorser order cells now_cells) (acts_done : AreStamped act_stamped is_client order passes now_passes) where
  pub same_calls : map calls_of now_cells ≡ map calls_of cells
  same_calls = rests_of call_stamped (λ (line : CellLine). (line.call, line.answer)) is_endorser order cells now_cells (λ stamp line. refl) calls_done

  pub same_acts : map acts_of now_passes ≡ map acts_of passes
  same_acts = rests_of act_stamped (λ (line : ClientLine). line.act) is_client order passes now_passes (λ stamp line. refl) acts_done

  pub calls_at : (place : ℕ) → get_or (map call_stamps now_cells) place [] ≡ places (is_endorser place) order
  calls_at = stamps_at call_stamped (λ (line : CellLine). line.stamp) is_endorser order cells now_cells (λ stamp line. refl) events.endorsers calls_done

  pub acts_at : (place : ℕ) → get_or (map stamps_of now_passes) place [] ≡ places (is_client place) order
  acts_at = stamps_at act_stamped (λ (line : ClientLine). line.stamp) is_client order passes now_passes (λ stamp line. refl) events.clients acts_done

  all_places : AreAllPlaces order (map call_stamps now_cells) (map stamps_of now_passes)
  all_places = record {
    no_cells = λ place le. let past : length cells ≤ place = omega (arith, le, length-map now_cells call_stamps, calls_done.lists) in events.endorsers place ∙ beyond cells place past;
    no_passes = λ place le. let past : length passes ≤ place = omega (arith, le, length-map now_passes stamps_of, acts_done.lists) in events.clients place ∙ beyond passes place past;
    at_cells = calls_at;
    at_passes = acts_at;
  }

  pub rises : (genesis roster : List Member) → AllByRecursion IsStrictlyIncreasing (stamp_lists (given genesis roster now_cells now_passes))
  rises genesis roster = all_rise order (map call_stamps now_cells) (map stamps_of now_passes) all_places

  pub once : (genesis roster : List Member) → EachOnce (stamps (given genesis roster now_cells now_passes)) (length (stamps (given genesis roster now_cells now_passes)))
  once genesis roster = all_once order (map call_stamps now_cells) (map stamps_of now_passes) all_places

  pub counted : (genesis roster : List Member) → length (stamps (given genesis roster now_cells now_passes)) ≡ length order
  counted genesis roster = all_count order (map call_stamps now_cells) (map stamps_of now_passes) all_places

  pub lawful : (roster : List Member) (accepts : Accepts) → AreLawful accepts roster cells → AreLawful accepts roster now_cells
  lawful roster accepts = lawful_lists accepts roster cells now_cells same_calls

  pub clients : (accepts : Accepts) (chain : ViewChain) → AllByRecursion (IsClientList accepts chain) passes → AllByRecursion (IsClientList accepts chain) now_passes
  clients accepts chain = client_lists accepts chain passes now_passes same_acts

  pub is_record : (genesis roster : List Member) (accepts : Accepts) → IsRecordUnstamped accepts (given genesis roster cells passes) → IsRecord accepts (given genesis roster now_cells now_passes)
  is_record genesis roster accepts whole = record {
    ids = whole.ids;
    keys = whole.keys;
    genuine = whole.genuine;
    rising = rises genesis roster;
    each_once = once genesis roster;
    cells = lawful roster accepts whole.cells;
    passes = clients accepts (first_chain (given genesis roster cells passes)) whole.passes;
  }
