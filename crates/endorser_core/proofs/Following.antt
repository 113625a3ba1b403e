-- What follows from a step by the table.
use Rattle.std.proofs.Common.{◌≡◌, ◌≢◌, ℕ, ◌≤◌, Bool, true, List, length, Option, Some, None, sym, ap, subst, ◌∙◌, arith}
use Rattle.std.specs.Prelude.{max, Result, Ok, Err, IfOk, OnErr}
use Rattle.statement.specs.declared.statement.Statement.{Statement}
use Rattle.statement.specs.Statement.{statement_bytes}
use Rattle.port.specs.Answer.{Answer, Signed, Refused, Spent, LogFull, kept}
use Rattle.port.specs.Call.{Call}
use Rattle.port.specs.Table.{State, Cell, Answers, Signs, asked, cell, outcome}
use Rattle.endorser_core.specs.Shown.{kept_size, sig_size}
use Rattle.endorser_core.specs.Line.{sig_of, IsAccepted, IsLawfulAt, line, state_after}
use Rattle.endorser_core.specs.Endorser.{Endorser, HasSigned, Steps, me}
use Rattle.endorser_core.proofs.Cells.{SetLaw, Good, good}

-- ---- of the signer

-- a fact of a signer that each signature keeps
pub kept_by : {S : Type 0} (key : S → List ℕ) (left size : S → ℕ) (signs : S → List ℕ → List ℕ → S → Type 0) (P : S → Type 0) (asked : Option Statement) (sig : Option (List ℕ)) (old new : S)
    → HasSigned key left size signs asked sig old new → ((bytes signature : List ℕ) → signs old bytes signature new → P new) → P old → P new
kept_by key left size signs P None sig old new h keeps p = subst P (sym h.1) p
kept_by key left size signs P (Some statement) None old new h keeps p = subst P (sym h.1) p
kept_by key left size signs P (Some statement) (Some sig) old new h keeps p = keeps _ _ h.0

-- ---- of the answer

pub sized : {S : Type 0} (key : S → List ℕ) (left size : S → ℕ) (signs : S → List ℕ → List ℕ → S → Type 0) (before : State) (c : Cell) (sig : Option (List ℕ)) (old new : S) (after : State) (answer : Answer)
    → Good before c → HasSigned key left size signs (asked c) sig old new → outcome before c sig ≡ (after, answer) → sig_size answer ≤ max (size old) (kept_size before)
sized key left size signs before (Answers state said) sig old new after answer good h e =
    let is : said ≡ answer = ap (λ (x : State × Answer). x.1) e in
    let small : sig_size said ≤ kept_size before = good.size in
    let same : sig_size said ≡ sig_size answer = ap sig_size is in omega arith
sized key left size signs before (Signs statement state said) None old new after answer good h e =
    let is : Refused Spent ≡ answer = ap (λ (x : State × Answer). x.1) e in
    let same : 0 ≡ sig_size answer = ap sig_size is in omega arith
sized key left size signs before (Signs statement state said) (Some sig) old new after answer good h e =
    let is : said sig ≡ answer = ap (λ (x : State × Answer). x.1) e in
    let signed : sig_size (said sig) ≡ length sig = ap sig_size (good sig).signed in
    let same : sig_size (said sig) ≡ sig_size answer = ap sig_size is in
    let long : length sig ≡ size old = h.1.length in omega arith

pub not_full : (before : State) (c : Cell) (sig : Option (List ℕ)) (after : State) (answer : Answer) → Good before c → outcome before c sig ≡ (after, answer) → answer ≢ Refused LogFull
not_full before (Answers state said) sig after answer good e =
    let is : said ≡ answer = ap (λ (x : State × Answer). x.1) e in
    λ full. good.not_full (is ∙ full)
not_full before (Signs statement state said) None after answer good e =
    let is : Refused Spent ≡ answer = ap (λ (x : State × Answer). x.1) e in
    λ full. absurd cc
not_full before (Signs statement state said) (Some sig) after answer good e =
    let is : Signed statement sig ≡ answer = sym (good sig).signed ∙ ap (λ (x : State × Answer). x.1) e in
    λ full. absurd cc

-- the answer's own signature leads to the same outcome
pub again : (before : State) (c : Cell) (sig : Option (List ℕ)) (after : State) (answer : Answer) → Good before c → outcome before c sig ≡ (after, answer) → outcome before c (sig_of (kept answer)) ≡ (after, answer)
again before (Answers state said) sig after answer good e = e
again before (Signs statement state said) None after answer good e =
    let is : Refused Spent ≡ answer = ap (λ (x : State × Answer). x.1) e in
    ap (λ (a : Answer). outcome before (Signs statement state said) (sig_of (kept a))) (sym is) ∙ e
again before (Signs statement state said) (Some sig) after answer good e =
    let is : Signed statement sig ≡ answer = sym (good sig).signed ∙ ap (λ (x : State × Answer). x.1) e in
    ap (λ (a : Answer). outcome before (Signs statement state said) (sig_of (kept a))) (sym is) ∙ e

-- the answer's own signature is accepted
pub accepted : {S : Type 0} (key : S → List ℕ) (left size : S → ℕ) (signs : S → List ℕ → List ℕ → S → Type 0) (accepts : List ℕ → List ℕ → List ℕ → Bool) (before : State) (c : Cell) (sig : Option (List ℕ)) (old new : S) (after : State) (answer : Answer)
    → Good before c → HasSigned key left size signs (asked c) sig old new → outcome before c sig ≡ (after, answer)
    → ((bytes signature : List ℕ) → signs old bytes signature new → accepts (key old) bytes signature ≡ true)
    → IsAccepted accepts (key old) (asked c) (sig_of (kept answer))
accepted key left size signs accepts before (Answers state said) sig old new after answer good h e law = tt
accepted key left size signs accepts before (Signs statement state said) None old new after answer good h e law =
    let is : Refused Spent ≡ answer = ap (λ (x : State × Answer). x.1) e in
    subst (λ (a : Answer). IsAccepted accepts (key old) (Some statement) (sig_of (kept a))) is tt
accepted key left size signs accepts before (Signs statement state said) (Some sig) old new after answer good h e law =
    let is : Signed statement sig ≡ answer = sym (good sig).signed ∙ ap (λ (x : State × Answer). x.1) e in
    subst (λ (a : Answer). IsAccepted accepts (key old) (Some statement) (sig_of (kept a))) is (law (statement_bytes statement) sig h.0)

-- ---- of a result

pub weaker : {T E : Type 0} (r : Result T E) (P Q : T → Type 0) → IfOk r P → ((x : T) → P x → Q x) → IfOk r Q
weaker (Ok x) P Q h f = f x h
weaker (Err e) P Q h f = tt

pub either_way : {T E S : Type 0} (r : Result T E) (P : T → Type 0) (old new : S) (Q : S → Type 0) → IfOk r P → OnErr r (new ≡ old) → ((x : T) → P x → Q new) → Q old → Q new
either_way (Ok x) P old new Q ok err f q = f x ok
either_way (Err e) P old new Q ok err f q = subst Q (sym err) q

-- ---- of a step

pub step_size : {S C : Type 0} {key : S → List ℕ} {left size : S → ℕ} {signs : S → List ℕ → List ℕ → S → Type 0} {old new : Endorser S C} {call : Call} {answer : Answer}
    → SetLaw → Steps key left size signs old new call answer → sig_size answer ≤ max (size old.signer) (kept_size old.state)
step_size {S} {C} {key} {left} {size} {signs} {old} {new} {call} {answer} law s =
    sized key left size signs old.state (cell (me key old) old.state call) s.table.sig old.signer new.signer new.state answer (good law (me key old) old.state call) s.table.signer s.table.goes

pub step_not_full : {S C : Type 0} {key : S → List ℕ} {left size : S → ℕ} {signs : S → List ℕ → List ℕ → S → Type 0} {old new : Endorser S C} {call : Call} {answer : Answer}
    → SetLaw → Steps key left size signs old new call answer → answer ≢ Refused LogFull
step_not_full {S} {C} {key} {left} {size} {signs} {old} {new} {call} {answer} law s =
    not_full old.state (cell (me key old) old.state call) s.table.sig new.state answer (good law (me key old) old.state call) s.table.goes

pub step_fits : {S C : Type 0} {key : S → List ℕ} {left size : S → ℕ} {signs : S → List ℕ → List ℕ → S → Type 0} {old new : Endorser S C} {call : Call} {answer : Answer}
    → Steps key left size signs old new call answer → (P : S → C → Type 0) → ((bytes sig : List ℕ) (after : S) → signs old.signer bytes sig after → P after old.checker) → P old.signer old.checker → P new.signer new.checker
step_fits {S} {C} {key} {left} {size} {signs} {old} {new} {call} {answer} s P keeps p =
    subst (λ (c : C). P new.signer c) (sym s.same_checker)
    (kept_by key left size signs (λ (x : S). P x old.checker) (asked (cell (me key old) old.state call)) s.table.sig old.signer new.signer s.table.signer (λ bytes sig signed. keeps bytes sig new.signer signed) p)

pub step_lawful : {S C : Type 0} {key : S → List ℕ} {left size : S → ℕ} {signs : S → List ℕ → List ℕ → S → Type 0} {old new : Endorser S C} {call : Call} {answer : Answer}
    → SetLaw → Steps key left size signs old new call answer → (accepts : List ℕ → List ℕ → List ℕ → Bool) (stamp : ℕ)
    → ((bytes sig : List ℕ) (after : S) → signs old.signer bytes sig after → accepts (key old.signer) bytes sig ≡ true)
    → IsLawfulAt accepts (me key old) old.state (line stamp call answer)
step_lawful {S} {C} {key} {left} {size} {signs} {old} {new} {call} {answer} law s accepts stamp signed =
    let g : Good old.state (cell (me key old) old.state call) = good law (me key old) old.state call in
    record {
      answer = ap (λ (x : State × Answer). kept x.1) (again old.state (cell (me key old) old.state call) s.table.sig new.state answer g s.table.goes);
      accepted = accepted key left size signs accepts old.state (cell (me key old) old.state call) s.table.sig old.signer new.signer new.state answer g s.table.signer s.table.goes (λ bytes sig by. signed bytes sig new.signer by);
    }

pub step_replayed : {S C : Type 0} {key : S → List ℕ} {left size : S → ℕ} {signs : S → List ℕ → List ℕ → S → Type 0} {old new : Endorser S C} {call : Call} {answer : Answer}
    → SetLaw → Steps key left size signs old new call answer → (stamp : ℕ) → state_after (me key old) old.state (line stamp call answer) ≡ new.state
step_replayed {S} {C} {key} {left} {size} {signs} {old} {new} {call} {answer} law s stamp =
    ap (λ (x : State × Answer). x.0) (again old.state (cell (me key old) old.state call) s.table.sig new.state answer (good law (me key old) old.state call) s.table.goes)

pub on_err : {T E : Type 0} (r : Result T E) (P Q : Type 0) → OnErr r P → (P → Q) → OnErr r Q
on_err (Ok x) P Q h f = tt
on_err (Err e) P Q h f = f h
