use Rattle.calm.proofs.RefreshAnswers.{finds}
use Rattle.calm.proofs.RefreshedChains.{sound_leads}
use Rattle.calm.proofs.refresh_laws.refreshes_find_all_views.Goals as goal

pub returns-clause-front : goal.returns-clause-front
returns-clause-front c = λ r chain state past later sound honest.
    (sound_leads c.views_have_own_bytes.ensures r.accepts r.roster r.contents r.configs r.stand r.from chain state past later r.front sound honest).front

pub returns-clause-same : goal.returns-clause-same
returns-clause-same c = λ r chain state past later sound honest.
    (sound_leads c.views_have_own_bytes.ensures r.accepts r.roster r.contents r.configs r.stand r.from chain state past later r.front sound honest).same

pub returns-clause-all : goal.returns-clause-all
returns-clause-all c = λ r chain longer state new past event later result sound honest goes.
    finds c.views_have_own_bytes.ensures c.finals_have_own_bytes.ensures r.accepts r.roster r.contents r.configs r.stand r.from chain longer state new past event later result r.front sound honest goes
