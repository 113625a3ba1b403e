use Rattle.std.proofs.Common.{Some, None, refl}
use Rattle.chain_block.specs.Entry.{bare, handle_of, height_of}
use Rattle.verifier.specs.Outcomes.{append_outcome, at_outcome, latest_outcome}
use Rattle.verifier.proofs.Yeses.{stands, fits, is_latest, fits_latest, entry_same, same_entry}
use Rattle.verifier.proofs.laws.outcomes_mean.Goals as goal

pub returns-clause-append : goal.returns-clause-append
unfolding append_outcome
returns-clause-append c = λ accepts configs entry reply. (
  λ e.
      let s = stands accepts configs (handle_of entry) (height_of entry) (Some entry) reply reply.receipt.statement refl e in
      (s.0, entry_same (bare entry) reply.row.entry s.1),
  λ is. fits accepts configs (handle_of entry) (height_of entry) (Some entry) reply is.0 (same_entry (bare entry) reply.row.entry is.1),
)

pub returns-clause-at : goal.returns-clause-at
unfolding at_outcome
returns-clause-at c = λ accepts configs handle height reply. (
  λ e. (stands accepts configs handle height None reply reply.receipt.statement refl e).0,
  λ is. fits accepts configs handle height None reply is refl,
)

pub returns-clause-latest : goal.returns-clause-latest
unfolding latest_outcome
returns-clause-latest c = λ accepts configs handle nonce count reply. (
  λ e. is_latest accepts configs handle nonce reply count reply.receipt.statement refl e,
  λ is. fits_latest accepts configs handle nonce reply count is,
)
