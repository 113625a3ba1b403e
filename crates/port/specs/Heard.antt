-- What is heard of an endorser over a link: what contracts see of it.
use Rattle.port.specs.declared.link_answer.LinkAnswer.{LinkAnswer}
use Rattle.port.specs.declared.link_answer.LinkAnswer.TheVariants as links
use Rattle.port.specs.Answer.{Answer, answer_of}

-- its answer; nothing, since the call or the answer was lost; nothing, for want of memory
pub data Heard : Type 0 where
  Answered : Answer → Heard
  Lost : Heard
  NoMemory : Heard

abbrev pub heard_of : LinkAnswer → Heard
heard_of (links.Answered answer) = Answered (answer_of answer)
heard_of links.Lost = Lost
heard_of links.NoMemory = NoMemory
