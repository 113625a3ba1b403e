-- The calls that set up view 0: they put no row, and each endorser begins in the view only once it belongs to it.
use Rattle.std.proofs.Common.{◌≡◌, ◌⊎◌, inl, inr, ℕ, List, [], ◌∷◌, refl, sym, ap, subst, arith}
use Rattle.chain_block.specs.declared.entry.Entry.{Entry}
use Rattle.statement.specs.declared.member.Member.{Member}
use Rattle.port.specs.declared.key.Key.{Key}
use Rattle.port.specs.declared.key.Key.TheVariants as keys
use Rattle.port.specs.Answer.{Answer, Behind, BadProof, BadView, Denial, Done, Finaled, Full, HasEnded, LogFull, NotGenesis, NotMember, OtherNext, OtherTail, Refused, Shown, Signed, Spent, Stands, Tall, WrongPhase}
use Rattle.port.specs.Call.{Activate, Append, Call, Finalize, Initialize, Latest, Show}
use Rattle.port.specs.Heard.{Answered, Heard, Lost, NoMemory}
use Rattle.port.specs.Link.{IsServing, Served, served_after}
use Rattle.port.specs.Store.{Attach, Get, PutNew}
use Rattle.port.specs.Trace.{AllServe, AtLink, AtStore, Event}
use Rattle.port.specs.ViewForm.{view_bytes}
use Rattle.view_ledger.specs.Views.{ViewChain}
use Rattle.op_reconf.specs.First.{first_asking, first_block, first_config}
use Rattle.op_reconf.specs.Says.{IsPut}
use Rattle.op_reconf.specs.OwnCalls.{AreLower, IsNewest, IsOwnCall, OwnCalls}
use Rattle.op_reconf.specs.SetUpSound.{initialize_at}
use Rattle.script_runs.specs.CallRules.{AllSetUp, SetsUp, WasInitialized}
use Rattle.script_runs.proofs.KeptCalls.{AllPutOwn, PutsOwn}
use Rattle.script_runs.proofs.LinkCalls.{AllOf}
use Rattle.script_runs.proofs.StandingRows.{IsNoRow, MayStand}

abbrev head_or : List ℕ → ℕ
head_or [] = 0
head_or (x ∷ xs) = x

view_is_no_row : (members : List Member) → IsNoRow (view_bytes (first_block members, members))
view_is_no_row members row is = let first : 0x51 ≡ 0x50 = ap head_or is in absurd (omega (arith, first))

puts_one : (drawn : Entry → Type 0) (from : ViewChain) (past : List Event) (event : Event) → IsOwnCall from past event → PutsOwn drawn event
puts_one drawn from past (AtStore (PutNew key body) answer) (inl (is, none)) =
    let k : key ≡ keys.View 0 = cc is in
    let b : body ≡ view_bytes (first_block (first_config from), first_config from) = cc is in
    subst (λ (x : Key). MayStand drawn x body) (sym k) (subst IsNoRow (sym b) (view_is_no_row (first_config from)))
puts_one drawn from past (AtStore (PutNew key body) answer) (inr (is, set)) = absurd (cc is)
puts_one drawn from past (AtStore (Get key) answer) is = tt
puts_one drawn from past (AtStore (Attach key bytes) answer) is = tt
puts_one drawn from past (AtLink id call heard) is = tt

pub first_puts : (drawn : Entry → Type 0) (from : ViewChain) (events : List Event) → OwnCalls from events → AllPutOwn drawn events
first_puts drawn from [] own = tt
first_puts drawn from (event ∷ past) own = (puts_one drawn from past event own.0, first_puts drawn from past own.1)

-- ---- in which order they were served

refused_up : (past : List Served) (id : ℕ) (call : Call) (denial : Denial) → SetsUp past id call → AllSetUp past → AllSetUp (served_after past id call (Refused denial))
refused_up past id call (Behind count) one all = (one, all)
refused_up past id call (Stands count tail) one all = (one, all)
refused_up past id call (OtherTail tail) one all = (one, all)
refused_up past id call NotGenesis one all = (one, all)
refused_up past id call Full one all = (one, all)
refused_up past id call Tall one all = (one, all)
refused_up past id call NotMember one all = (one, all)
refused_up past id call BadView one all = (one, all)
refused_up past id call (BadProof cause) one all = (one, all)
refused_up past id call (WrongPhase phase) one all = (one, all)
refused_up past id call (HasEnded statement sig) one all = (one, all)
refused_up past id call (OtherNext next) one all = (one, all)
refused_up past id call Spent one all = (one, all)
refused_up past id call LogFull one all = all

served_up : (past : List Served) (id : ℕ) (call : Call) (answer : Answer) → SetsUp past id call → AllSetUp past → AllSetUp (served_after past id call answer)
served_up past id call Done one all = (one, all)
served_up past id call (Signed statement sig) one all = (one, all)
served_up past id call (Finaled statement sig map) one all = (one, all)
served_up past id call (Shown phase number tail count) one all = (one, all)
served_up past id call (Refused denial) one all = refused_up past id call denial one all

serving_up : (past after : List Served) (id : ℕ) (call : Call) (heard : Heard) → SetsUp past id call → AllSetUp past → IsServing past id call heard after → AllSetUp after
serving_up past after id call (Answered answer) one all is = subst AllSetUp (sym is) (served_up past id call answer one all)
serving_up past after id call Lost one all (inl is) = subst AllSetUp (sym is) all
serving_up past after id call Lost one all (inr (answer, is)) = subst AllSetUp (sym is) (served_up past id call answer one all)
serving_up past after id call NoMemory one all is = subst AllSetUp (sym is) all

-- the newest of these calls was the first call to the endorser, which was done with it
newest_done : (from : ViewChain) (id : ℕ) (past : List Event) (before : List Served) → IsNewest past (initialize_at (first_asking from) id (Answered Done)) → AllServe [] past before → WasInitialized before id
newest_done from id [] before newest serves = absurd newest
newest_done from id (first ∷ past) before newest serves = by (subst (λ (e : Event). AllServe [] (e ∷ past) before) newest serves)
  where
    by : AllServe [] (initialize_at (first_asking from) id (Answered Done) ∷ past) before → WasInitialized before id
    by (older, old, is) = subst (λ (l : List Served). WasInitialized l id) (sym is) (inl (refl, refl, tt))

pub first_serves : (from : ViewChain) (events : List Event) (more : List Served) → OwnCalls from events → AllServe [] events more → AllSetUp more
first_serves from [] more own is = subst AllSetUp (sym is) tt
first_serves from (AtStore call answer ∷ past) more own serves = first_serves from past more own.1 serves
first_serves from (AtLink id call heard ∷ past) more own (before, serves, is) = serving_up before more id call heard (by own.0.1) (first_serves from past before own.1 serves) is
  where
    by : ((call ≡ (first_asking from).initialize) × IsPut from past × AreLower id past) ⊎ ((call ≡ (first_asking from).activate) × IsNewest past (initialize_at (first_asking from) id (Answered Done))) → SetsUp before id call
    by (inl (same, put, low)) = subst (SetsUp before id) (sym same) tt
    by (inr (same, newest)) = subst (SetsUp before id) (sym same) (newest_done from id past before newest serves)

-- they append nothing
pub set_up_none : (P : Call → Type 0) → ((block : _) (config : _) (map : _) → P (Initialize block config map)) → ((view : _) (proof : _) → P (Activate view proof)) → (more : List Served) → AllSetUp more → AllOf P more
set_up_none P one two [] all = tt
set_up_none P one two (first ∷ more) all = (by first.call all.0, set_up_none P one two more all.1)
  where
    by : (call : Call) → SetsUp more first.id call → P call
    by (Initialize block config map) is = one block config map
    by (Activate view proof) is = two view proof
    by (Append handle prev entry height) is = absurd is
    by (Latest handle number) is = absurd is
    by (Finalize config number) is = absurd is
    by (Show handle) is = absurd is
