use Rattle.std.proofs.Common.{◌∙◌, sym}
use Rattle.run_record.specs.Events.{length_at}
use Rattle.run_record.proofs.Counts.{client_counts, client_grows, client_leaves, empty_at, endorser_counts, endorser_grows, endorser_leaves, grows_at, new_at}
use Rattle.run_record.proofs.laws.orders_grow.Goals as goal

pub returns : goal.returns
returns c = record {
  endorser_counts = endorser_counts;
  endorser_leaves = endorser_leaves;
  client_counts = client_counts;
  client_leaves = client_leaves;
  none = λ calls acts no_calls no_acts. record { endorsers = λ place. sym (no_calls place); clients = λ place. sym (no_acts place) };
  endorser = endorser_grows;
  client = client_grows;
  cell_grows = λ order cells passes acting lines k inside longer. endorser_grows order (length_at cells) (length_at passes) _ acting k (grows_at cells acting lines inside longer);
  pass_grows = λ order cells passes acting lines k inside longer. client_grows order (length_at cells) (length_at passes) _ acting k (grows_at passes acting lines inside longer);
  empty = λ cells passes no_calls no_acts. record { endorsers = λ place. sym (empty_at cells no_calls place); clients = λ place. sym (empty_at passes no_acts place) };
  new_cell = λ order cells passes k. record { endorsers = λ place. k.endorsers place ∙ sym (new_at cells place); clients = k.clients };
  new_pass = λ order cells passes k. record { endorsers = k.endorsers; clients = λ place. k.clients place ∙ sym (new_at passes place) };
}
