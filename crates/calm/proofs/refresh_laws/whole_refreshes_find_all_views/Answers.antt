use Rattle.std.proofs.Common.{inl, inr, ◌∷◌, List, length}
use Rattle.port.specs.declared.store_answers.Got.TheVariants as gots
use Rattle.port.specs.Trace.{Event}
use Rattle.view_ledger.specs.Views.{ViewChain}
use Rattle.op_parts.specs.Refresh.{Grew}
use Rattle.op_parts.specs.RefreshSays.{GaveNoView}
use Rattle.op_parts.specs.RefreshSound.{Sound}
use Rattle.op_parts.specs.RefreshState.{AtEnd}
use Rattle.calm.specs.Refreshing.{ReadyRefresh}
use Rattle.calm.proofs.QuietRefreshes.{no_view_more, sound}
use Rattle.calm.proofs.RefreshAnswers.{no_more, view_stays, finals_stay, older_of}
use Rattle.calm.proofs.RefreshedChains.{grew, halfway, sound_leads}
use Rattle.calm.proofs.refresh_laws.whole_refreshes_find_all_views.Goals as goal

-- a get that found no further view ends a refresh
ended : (r : ReadyRefresh) (chain : ViewChain) (past : List Event) (event : Event) → Grew r.accepts r.from past chain → GaveNoView (length chain.configs) event
    → Sound r.accepts r.from AtEnd chain (event ∷ past)
ended r chain past event is (inl gave) = inl (is, (gots.None, gave))
ended r chain past event is (inr gave) = inl (is, (gots.Some gave.0, gave.1))

pub returns-clause-all : goal.returns-clause-all
returns-clause-all c = λ r chain past event later is gave honest.
    let views = c.views_have_own_bytes.ensures in
    let before = older_of views c.finals_have_own_bytes.ensures r.accepts r.roster r.contents r.configs r.stand r.contents past event later honest in
    let led = grew views r.accepts r.roster r.contents r.configs r.stand r.from r.front past chain before.0 is before.1 in
    no_more views c.finals_have_own_bytes.ensures r.accepts r.roster r.contents r.configs r.stand chain past event later led.front
    (λ b h. grew views r.accepts r.roster r.contents r.configs r.stand r.from r.front past chain b is h) honest gave

pub returns-clause-same : goal.returns-clause-same
returns-clause-same c = λ r chain past event later is gave honest.
    (sound_leads c.views_have_own_bytes.ensures r.accepts r.roster r.contents r.configs r.stand r.from chain AtEnd (event ∷ past) later r.front (ended r chain past event is gave) honest).same

pub returns-clause-unasked : goal.returns-clause-unasked
returns-clause-unasked c = λ accepts signs bank after from chain past event is gave faithful. no_view_more signs bank accepts from past event chain after is gave faithful

pub returns-clause-view_stays : goal.returns-clause-view_stays
returns-clause-view_stays c = λ r chain past event later cause is honest refused.
    let views = c.views_have_own_bytes.ensures in
    let before = older_of views c.finals_have_own_bytes.ensures r.accepts r.roster r.contents r.configs r.stand r.contents past event later honest in
    let led = grew views r.accepts r.roster r.contents r.configs r.stand r.from r.front past chain before.0 is before.1 in
    view_stays views c.finals_have_own_bytes.ensures r.accepts r.roster r.contents r.configs r.stand chain past event later led.front
    (λ b h. grew views r.accepts r.roster r.contents r.configs r.stand r.from r.front past chain b is h) honest cause refused

pub returns-clause-finals_stay : goal.returns-clause-finals_stay
returns-clause-finals_stay c = λ r chain body block config past event later cause is honest refused.
    let views = c.views_have_own_bytes.ensures in
    let before = older_of views c.finals_have_own_bytes.ensures r.accepts r.roster r.contents r.configs r.stand r.contents past event later honest in
    let half = halfway views r.accepts r.roster r.contents r.configs r.stand r.from r.front past body block config chain before.0 is before.1 in
    finals_stay views c.finals_have_own_bytes.ensures r.accepts r.roster r.contents r.configs r.stand chain body block config past event later half.0.front half.1
    (λ b h. (halfway views r.accepts r.roster r.contents r.configs r.stand r.from r.front past body block config chain b is h).0) honest cause refused

pub returns-clause-never_asked : goal.returns-clause-never_asked
returns-clause-never_asked c = λ accepts signs bank after from chain state past is faithful. sound signs bank accepts from state past chain after is faithful
