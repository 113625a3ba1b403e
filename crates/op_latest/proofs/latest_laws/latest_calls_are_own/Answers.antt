use Rattle.op_latest.specs.LatestAsked.{asking_of}
use Rattle.op_latest.proofs.LatestLaws.{each_own, store_own, link_own}
use Rattle.op_latest.proofs.latest_laws.latest_calls_are_own.Goals as goal

pub returns-clause-store : goal.returns-clause-store
returns-clause-store c = λ accepts ask from state past sound call answer had. store_own accepts (asking_of ask state.chain) past call answer sound.own had

pub returns-clause-link : goal.returns-clause-link
returns-clause-link c = λ accepts ask from state past sound id call heard had. link_own accepts (asking_of ask state.chain) past id call heard sound.own had

pub returns-clause-each : goal.returns-clause-each
returns-clause-each c = λ accepts ask from state past sound newer event older is. each_own accepts (asking_of ask state.chain) newer event older past sound.own is
