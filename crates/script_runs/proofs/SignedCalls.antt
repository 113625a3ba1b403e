-- Statements that calls were answered with are signed in what was served by then.
use Rattle.std.proofs.Common.{◌≡◌, inl, inr, ℕ, List, [], ◌∷◌, ◌++◌, refl, sym, subst}
use Rattle.std.specs.List.{AllByRecursion}
use Rattle.statement.specs.declared.statement.Statement.{Statement}
use Rattle.statement.specs.Mark.{Content as Mark}
use Rattle.statement.specs.Receipt.{Receipt}
use Rattle.port.specs.Answer.{Answer, Behind, BadProof, BadView, Denial, Done, Finaled, Full, HasEnded, LogFull, NotGenesis, NotMember, OtherNext, OtherTail, Refused, Shown, Signed, Spent, Stands, Tall, WrongPhase}
use Rattle.port.specs.Call.{Call}
use Rattle.port.specs.Heard.{Heard, Answered, Lost, NoMemory}
use Rattle.port.specs.Link.{IsServing, Served, served_after}
use Rattle.port.specs.Trace.{AllServe, AtLink, AtStore, Event, Had}
use Rattle.script_runs.specs.SignedMarks.{AreSigned, WasSigned}
use Rattle.script_runs.proofs.KeptCalls.{all_had, all_lift}

-- whatever was signed in some calls is so in others
abbrev pub Signs : List Served → List Served → Type 0
Signs served served' = (id : ℕ) (statement : Statement) (sig : List ℕ) → WasSigned served id statement sig → WasSigned served' id statement sig

pub signs_more : (more served : List Served) → Signs served (more ++ served)
signs_more [] served id statement sig was = was
signs_more (one ∷ more) served id statement sig was = inr (signs_more more served id statement sig was)

pub signs_first : (more served : List Served) → Signs more (more ++ served)
signs_first [] served id statement sig was = absurd was
signs_first (one ∷ more) served id statement sig (inl is) = inl is
signs_first (one ∷ more) served id statement sig (inr was) = inr (signs_first more served id statement sig was)

pub signs_same : (served served' : List Served) → served' ≡ served → Signs served served'
signs_same served served' same id statement sig was = subst (λ (s : List Served). WasSigned s id statement sig) (sym same) was

pub signs_then : (a b c : List Served) → Signs a b → Signs b c → Signs a c
signs_then a b c first next id statement sig was = next id statement sig (first id statement sig was)

pub receipt_on : (served served' : List Served) → Signs served served' → (receipt : Receipt) → AreSigned served receipt → AreSigned served' receipt
receipt_on served served' signs receipt all =
    all_lift (λ (mark : Mark). WasSigned served mark.id receipt.statement mark.sig) (λ (mark : Mark). WasSigned served' mark.id receipt.statement mark.sig)
    (λ mark was. signs mark.id receipt.statement mark.sig was) receipt.marks all

-- ---- one call

refused_on : (past : List Served) (id : ℕ) (call : Call) (denial : Denial) → Signs past (served_after past id call (Refused denial))
refused_on past id call (Behind count) i s g was = inr was
refused_on past id call (Stands count tail) i s g was = inr was
refused_on past id call (OtherTail tail) i s g was = inr was
refused_on past id call NotGenesis i s g was = inr was
refused_on past id call Full i s g was = inr was
refused_on past id call Tall i s g was = inr was
refused_on past id call NotMember i s g was = inr was
refused_on past id call BadView i s g was = inr was
refused_on past id call (BadProof cause) i s g was = inr was
refused_on past id call (WrongPhase phase) i s g was = inr was
refused_on past id call (HasEnded statement sig) i s g was = inr was
refused_on past id call (OtherNext next) i s g was = inr was
refused_on past id call Spent i s g was = inr was
refused_on past id call LogFull i s g was = was

pub served_on : (past : List Served) (id : ℕ) (call : Call) (answer : Answer) → Signs past (served_after past id call answer)
served_on past id call Done i s g was = inr was
served_on past id call (Signed statement sig) i s g was = inr was
served_on past id call (Finaled statement sig map) i s g was = inr was
served_on past id call (Shown phase number tail count) i s g was = inr was
served_on past id call (Refused denial) i s g was = refused_on past id call denial i s g was

serving_on : (past after : List Served) (id : ℕ) (call : Call) (heard : Heard) → IsServing past id call heard after → Signs past after
serving_on past after id call (Answered answer) is = signs_then past (served_after past id call answer) after (served_on past id call answer) (signs_same (served_after past id call answer) after is)
serving_on past after id call Lost (inl is) = signs_same past after is
serving_on past after id call Lost (inr (answer, is)) =
    signs_then past (served_after past id call answer) after (served_on past id call answer) (signs_same (served_after past id call answer) after is)
serving_on past after id call NoMemory is = signs_same past after is

-- ---- lists of calls

-- what was heard of an endorser's signature was signed
abbrev pub IsLinkHeard : List Served → Event → Type 0
IsLinkHeard served (AtLink id call (Answered (Signed statement sig))) = WasSigned served id statement sig
IsLinkHeard served event = Unit {0}

abbrev pub AllLinkHeard : List Served → List Event → Type 0
AllLinkHeard served events = AllByRecursion (IsLinkHeard served) events

link_on : (served served' : List Served) → Signs served served' → (event : Event) → IsLinkHeard served event → IsLinkHeard served' event
link_on served served' signs (AtStore call answer) is = tt
link_on served served' signs (AtLink id call (Answered (Signed statement sig))) was = signs id statement sig was
link_on served served' signs (AtLink id call (Answered Done)) is = tt
link_on served served' signs (AtLink id call (Answered (Finaled statement sig map))) is = tt
link_on served served' signs (AtLink id call (Answered (Shown phase number tail count))) is = tt
link_on served served' signs (AtLink id call (Answered (Refused denial))) is = tt
link_on served served' signs (AtLink id call Lost) is = tt
link_on served served' signs (AtLink id call NoMemory) is = tt

pub links_on : (served served' : List Served) → Signs served served' → (events : List Event) → AllLinkHeard served events → AllLinkHeard served' events
links_on served served' signs events all = all_lift (IsLinkHeard served) (IsLinkHeard served') (link_on served served' signs) events all

heard_now : (past after : List Served) (id : ℕ) (call : Call) (heard : Heard) → IsServing past id call heard after → IsLinkHeard after (AtLink id call heard)
heard_now past after id call (Answered (Signed statement sig)) is = subst (λ (s : List Served). WasSigned s id statement sig) (sym is) (inl (refl, refl))
heard_now past after id call (Answered Done) is = tt
heard_now past after id call (Answered (Finaled statement sig map)) is = tt
heard_now past after id call (Answered (Shown phase number tail count)) is = tt
heard_now past after id call (Answered (Refused denial)) is = tt
heard_now past after id call Lost is = tt
heard_now past after id call NoMemory is = tt

-- of calls that were made
pub links_heard : (events : List Event) (more : List Served) → AllServe [] events more → AllLinkHeard more events
links_heard [] more serves = tt
links_heard (AtStore call answer ∷ past) more serves = (tt, links_heard past more serves)
links_heard (AtLink id call heard ∷ past) more (before, serves, is) =
    (heard_now before more id call heard is, links_on before more (serving_on before more id call heard is) past (links_heard past before serves))

-- what a call told of a signature was signed
pub was_heard : (served : List Served) (events : List Event) (id : ℕ) (call : Call) (statement : Statement) (sig : List ℕ) → AllLinkHeard served events
    → Had events (AtLink id call (Answered (Signed statement sig))) → WasSigned served id statement sig
was_heard served events id call statement sig all had = all_had (IsLinkHeard served) events all (AtLink id call (Answered (Signed statement sig))) had
