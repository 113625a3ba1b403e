use Rattle.port.specs.declared.key.Key.TheVariants as keys
use Rattle.calm.proofs.StoreAnswers.{put_done}
use Rattle.calm.proofs.ViewAnswers.{view_given, finals_given}
use Rattle.calm.proofs.view_laws.standing_views_are_given.Goals as goal

pub returns-clause-view : goal.returns-clause-view
returns-clause-view c = λ accepts roster contents after configs below above config got stand is honest. view_given contents after below config got (stand.views below above config is) honest

pub returns-clause-finals : goal.returns-clause-finals
returns-clause-finals c = λ accepts roster contents after configs below above config got stand is some honest.
    finals_given accepts roster contents after below config got (stand.finals below above config is some) honest

pub returns-clause-next_view : goal.returns-clause-next_view
returns-clause-next_view c = λ accepts roster contents after configs number body answer stand above honest. put_done contents after (keys.View number) body answer (stand.no_view number above) honest

pub returns-clause-next_finals : goal.returns-clause-next_finals
returns-clause-next_finals c = λ accepts roster contents after configs number body answer stand above honest. put_done contents after (keys.Finals number) body answer (stand.no_finals number above) honest
