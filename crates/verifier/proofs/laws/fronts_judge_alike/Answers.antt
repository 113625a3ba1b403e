use Rattle.std.proofs.Common.{Some, None}
use Rattle.chain_block.specs.Entry.{handle_of, height_of}
use Rattle.verifier.specs.Outcomes.{append_outcome, at_outcome, latest_outcome}
use Rattle.verifier.proofs.Fronts.{alike, standing_alike, latest_alike, standing_unknown, latest_unknown}
use Rattle.verifier.proofs.laws.fronts_judge_alike.Goals as goal

pub returns-clause-append : goal.returns-clause-append
unfolding append_outcome
returns-clause-append c = λ accepts front configs entry reply first own known.
    standing_alike accepts front configs (handle_of entry) (height_of entry) (Some entry) reply (alike accepts front configs reply.receipt first own known)

pub returns-clause-at : goal.returns-clause-at
unfolding at_outcome
returns-clause-at c = λ accepts front configs handle height reply first own known.
    standing_alike accepts front configs handle height None reply (alike accepts front configs reply.receipt first own known)

pub returns-clause-latest : goal.returns-clause-latest
unfolding latest_outcome
returns-clause-latest c = λ accepts front configs handle nonce reply first own known.
    latest_alike accepts front configs handle nonce reply (alike accepts front configs reply.receipt first own known)

pub returns-clause-append_unknown : goal.returns-clause-append_unknown
unfolding append_outcome
returns-clause-append_unknown c = λ accepts front entry reply view handle tail count is strange.
    standing_unknown accepts front (handle_of entry) view handle tail count strange (height_of entry) (Some entry) reply reply.receipt.statement is

pub returns-clause-at_unknown : goal.returns-clause-at_unknown
unfolding at_outcome
returns-clause-at_unknown c = λ accepts front asked height reply view handle tail count is strange.
    standing_unknown accepts front asked view handle tail count strange height None reply reply.receipt.statement is

pub returns-clause-latest_unknown : goal.returns-clause-latest_unknown
unfolding latest_outcome
returns-clause-latest_unknown c = λ accepts front asked asked_nonce reply view handle tail nonce count is strange.
    latest_unknown accepts front asked view handle tail count strange asked_nonce nonce reply reply.receipt.statement is
