-- What an operation that has ended was led to.
use Rattle.std.proofs.Common.{◌≡◌, true, List, [], Option, Some, Result, sym, ap, ◌∙◌, subst}
use Rattle.std.specs.Prelude.{IfSome, MatchOption}
use Rattle.std.specs.Option.{option_map}
use Rattle.port.specs.declared.refusal.Refusal.{Refusal}
use Rattle.port.specs.Cause.{Cause}
use Rattle.port.specs.Reply.{Standing, LatestReply}
use Rattle.port.specs.Trace.{Event}
use Rattle.view_ledger.specs.Receipts.{Accepts}
use Rattle.view_ledger.specs.Views.{ViewChain}
use Rattle.op_parts.specs.Refresh.{HasGrown}
use Rattle.op_entry.specs.Ask.{Ask}
use Rattle.op_entry.specs.Laws.{OwnCalls as EntryCalls}
use Rattle.op_entry.specs.Says.{Says}
use Rattle.op_entry.specs.Sound.{IsAnswered, IsAt, Sound}
use Rattle.op_entry.specs.State as entry
use Rattle.op_latest.specs.LatestAsked.{LatestAsk, asking_of}
use Rattle.op_latest.specs.LatestOwn.{OwnCalls as LatestCalls}
use Rattle.op_latest.specs.LatestSays.{LatestSays}
use Rattle.op_latest.specs.LatestSound.{AtStage, LatestSound}
use Rattle.op_latest.specs.LatestState as latest
use Rattle.script_operations.specs.Ending.{EndsEntry, EndsLatest}

ended_with : (stage : entry.Stage) (answer : Result Standing Cause) → entry.answer_at stage ≡ Some answer → stage ≡ entry.Ended answer
ended_with (entry.Refreshing ask refresh) answer e = absurd cc
ended_with (entry.GettingBelow below) answer e = absurd cc
ended_with (entry.Putting row) answer e = absurd cc
ended_with (entry.GettingTaken row) answer e = absurd cc
ended_with (entry.GettingAt handle height) answer e = absurd cc
ended_with (entry.Settling found settle) answer e = absurd cc
ended_with (entry.Ended other) answer e = let same : other ≡ answer = cc in ap (λ (a : Result Standing Cause). entry.Ended a) same

-- what is told of an operation that has this answer
pub entry_ends : (accepts : Accepts) (state : entry.State) (said : Option (Result Standing Refusal)) (answer : Result Standing Refusal) → said ≡ Some answer
    → option_map entry.answer_of said ≡ entry.answer state
    → ((accepts : Accepts) (ask : Ask) (from : ViewChain) (past : List Event) → Sound accepts ask from state past → EntryCalls accepts ask state.chain.configs past)
    → ((accepts : Accepts) (ask : Ask) (from : ViewChain) (past : List Event) → Sound accepts ask from state past → HasGrown accepts from state.chain past)
    → ((accepts : Accepts) (ask : Ask) (from : ViewChain) (past : List Event) → Sound accepts ask from state past → IfSome (entry.answer state) (Says accepts ask from state.chain past))
    → EndsEntry accepts state [] (entry.answer_of answer)
entry_ends accepts state said answer is answered own grown says = λ ask from past sound.
    let stands : entry.answer state ≡ Some (entry.answer_of answer) = sym answered ∙ ap (option_map entry.answer_of) is in
    let ended = ended_with state.stage (entry.answer_of answer) stands in
    let tells : Says accepts ask from state.chain past (entry.answer_of answer) =
    subst (λ (o : Option (Result Standing Cause)). IfSome o (Says accepts ask from state.chain past)) stands (says accepts ask from past sound) in
    let led : IsAnswered accepts ask from state.chain (entry.answer_of answer) past = subst (λ (stage : entry.Stage). IsAt accepts ask from state.chain stage past) ended sound in
    (state.chain, record { own = own accepts ask from past sound; grown = grown accepts ask from past sound; says = tells; came = led })

pub latest_ends : (accepts : Accepts) (state : latest.State) (chain : ViewChain) (said : Option (Result LatestReply Refusal)) (answer : Result LatestReply Refusal) → said ≡ Some answer
    → chain ≡ state.chain
    → MatchOption said (latest.is_live state ≡ true) (λ answer. state.stage ≡ latest.Ended (latest.outcome_of answer))
    → ((accepts : Accepts) (ask : LatestAsk) (from : ViewChain) (past : List Event) → LatestSound accepts ask from state past → LatestCalls accepts (asking_of ask chain) past)
    → ((accepts : Accepts) (ask : LatestAsk) (from : ViewChain) (past : List Event) → LatestSound accepts ask from state past → HasGrown accepts from chain past)
    → ((accepts : Accepts) (ask : LatestAsk) (from : ViewChain) (past : List Event) → LatestSound accepts ask from state past
    → IfSome said (λ answer. LatestSays accepts ask chain past (latest.outcome_of answer)))
    → EndsLatest accepts state [] (latest.outcome_of answer)
latest_ends accepts state chain said answer is same answered own grown says = λ ask from past sound.
    let ended : state.stage ≡ latest.Ended (latest.outcome_of answer) =
    subst (λ (o : Option (Result LatestReply Refusal)). MatchOption o (latest.is_live state ≡ true) (λ answer. state.stage ≡ latest.Ended (latest.outcome_of answer))) is answered in
    let tells : LatestSays accepts ask chain past (latest.outcome_of answer) =
    subst (λ (o : Option (Result LatestReply Refusal)). IfSome o (λ answer. LatestSays accepts ask chain past (latest.outcome_of answer))) is (says accepts ask from past sound) in
    let led : AtStage accepts ask from chain (latest.Ended (latest.outcome_of answer)) past =
    subst (λ (c : ViewChain). AtStage accepts ask from c (latest.Ended (latest.outcome_of answer)) past) (sym same)
    (subst (λ (stage : latest.Stage). AtStage accepts ask from state.chain stage past) ended sound.at) in
    (chain, record { own = own accepts ask from past sound; grown = grown accepts ask from past sound; says = tells; came = led })
