-- What one active member answers, and how it goes on.
use Rattle.std.proofs.Common.{◌≡◌, ◌≢◌, inl, inr, ℕ, ◌+◌, ◌<◌, ◌≤◌, true, false, List, eqb, Option, Some, None, refl, sym, subst, ap, ◌∙◌, arith, rules}
use Rattle.std.specs.Prelude.{◌==◌}
use Rattle.std.proofs.lemmas.Bool.{cases_Bool, eqb-true}
use Rattle.tail_map.specs.declared.tail_row.TailRow.{TailRow}
use Rattle.statement.specs.declared.member.Member.{Member}
use Rattle.statement.specs.declared.statement.Statement.{Statement}
use Rattle.statement.specs.declared.view_block.ViewBlock.{ViewBlock}
use Rattle.statement.specs.Statement.{statement_bytes}
use Rattle.port.specs.Answer.{Answer}
use Rattle.port.specs.Call.{Call}
use Rattle.port.specs.Heard.{Heard, Answered, Lost, NoMemory}
use Rattle.port.specs.Link.{IsFaithful, Bank, Told, put_told, HasSigned, GoesOn, Serves}
use Rattle.port.specs.Table.{State, Active, Cell, Answers, Signs as Asks, asked, outcome, cell}
use Rattle.calm.specs.Members.{Signs, IsAble, WentOn}

same : (n : ℕ) → (n == n) ≡ true
same n = search rules

apart : (a b : ℕ) → a ≢ b → (a == b) ≡ false
apart a b other =
    elim (cases_Bool (eqb a b)) [
      | inl is ↦ absurd (other (eqb-true a b is))
      | inr is ↦ is
    ]

-- what is found after an endorser has gone on
pub put_own : (bank : Bank) (id : ℕ) (told : Told) → put_told bank id told id ≡ Some told
put_own bank id told = rw (same id) refl

pub put_other : (bank : Bank) (id : ℕ) (told : Told) (other : ℕ) → other ≢ id → put_told bank id told other ≡ bank other
put_other bank id told other is = rw (apart other id is) refl

-- by the table, where it asks for a signature and one is left, and where it doesn't
module _ (signs : Signs) (old : Told) (call : Call) (answer : Answer) (new : Told) (goes : GoesOn signs old call answer new) where
  pub record BySigning (statement : Statement) (state : List ℕ → State) (says : List ℕ → Answer) : Type 0 where
    pub sig : List ℕ
    pub state_is : new.state ≡ state sig
    pub answer_is : answer ≡ says sig
    pub signed : signs old.me.key (statement_bytes statement) sig ≡ true
    pub left : old.signatures ≤ new.signatures + 1

  pub by_signing : (statement : Statement) (state : List ℕ → State) (says : List ℕ → Answer) → cell old.me old.state call ≡ Asks statement state says → 0 < old.signatures → BySigning statement state says
  by_signing statement state says is some =
      by_sig goes.sig
      (subst (λ (c : Cell). outcome old.state c goes.sig ≡ (new.state, answer)) is goes.table)
      (subst (λ (c : Cell). HasSigned signs old.me.key (asked c) goes.sig old.signatures new.signatures) is goes.signed)
    where
      by_sig : (sig : Option (List ℕ)) → outcome old.state (Asks statement state says) sig ≡ (new.state, answer)
          → HasSigned signs old.me.key (Some statement) sig old.signatures new.signatures → BySigning statement state says
      by_sig None table signed = absurd (omega (arith, signed.0, some))
      by_sig (Some sig) table signed = record {
        sig = sig;
        state_is = sym (ap (λ (o : State × Answer). o.0) table);
        answer_is = sym (ap (λ (o : State × Answer). o.1) table);
        signed = signed.0;
        left = signed.3;
      }

  pub record Unsigned (state : State) (says : Answer) : Type 0 where
    pub state_is : new.state ≡ state
    pub answer_is : answer ≡ says
    pub left : new.signatures ≡ old.signatures

  pub unsigned : (state : State) (says : Answer) → cell old.me old.state call ≡ Answers state says → Unsigned state says
  unsigned state says is =
      let table = subst (λ (c : Cell). outcome old.state c goes.sig ≡ (new.state, answer)) is goes.table in
      let signed = subst (λ (c : Cell). HasSigned signs old.me.key (asked c) goes.sig old.signatures new.signatures) is goes.signed in
      record {
        state_is = sym (ap (λ (o : State × Answer). o.0) table);
        answer_is = sym (ap (λ (o : State × Answer). o.1) table);
        left = signed.1;
      }

-- The member was asked this, while it was active in the view with this map, and something was heard.
pub record Asked (signs : Signs) (bank : Bank) (view : ViewBlock) (config : List Member) (rows : List TailRow) (left : ℕ) (member : Member) (call : Call) (heard : Heard) (after : Bank) : Type 0 where
  pub able : IsAble bank view config rows left member
  pub went : heard ≢ NoMemory
  pub faithful : IsFaithful signs bank member.id call heard after

-- how the member that was asked has gone on
pub record Went (signs : Signs) (bank : Bank) (view : ViewBlock) (config : List Member) (rows : List TailRow) (left : ℕ) (member : Member) (call : Call) (heard : Heard) (after : Bank) : Type 0 where
  pub able : IsAble bank view config rows left member
  pub answer : Answer
  pub heard_is : heard ≡ Answered answer
  pub new : Told
  pub goes : GoesOn signs able.told call answer new
  pub after_is : after ≡ put_told bank member.id new

module _ (signs : Signs) (bank after : Bank) (view : ViewBlock) (config : List Member) (rows : List TailRow) (left : ℕ) (member : Member) (call : Call) where
  pub went : (heard : Heard) → Asked signs bank view config rows (left + 1) member call heard after → Went signs bank view config rows (left + 1) member call heard after
  went NoMemory was = absurd (was.went refl)
  went Lost was = let none = was.faithful.0 in let some = was.able.known in absurd (cc)
  went (Answered answer) was =
      let f = was.faithful in
      let told : was.able.told ≡ f.0 = (let s : Some was.able.told ≡ Some f.0 = sym was.able.known ∙ f.2 in cc) in
      by_serving f.1 f.4 (subst (λ (t : Told). Serves signs t call answer f.1) (sym told) f.3)
    where
      by_serving : (new : Told) → after ≡ put_told bank member.id new → Serves signs was.able.told call answer new → Went signs bank view config rows (left + 1) member call (Answered answer) after
      by_serving new is (inl full) = let some = was.able.stamps in absurd (omega (arith, some, full.0))
      by_serving new is (inr goes) = record { able = was.able; answer = answer; heard_is = refl; new = new; goes = goes; after_is = is }

  -- the map that it has then
  pub goes_on : (heard : Heard) (rows' : List TailRow) (first : List ℕ) → (w : Went signs bank view config rows (left + 1) member call heard after)
      → w.new.state ≡ Active (record { block = view; config = config; first = first; map = rows' }) → left ≤ w.new.signatures → WentOn bank view config rows' left member after
  goes_on heard rows' first w state signatures =
      let stamps = w.goes.stamp in
      let some = w.able.stamps in
      record {
        able = record {
          told = w.new;
          known = ap (λ (b : Bank). b member.id) w.after_is ∙ put_own bank member.id w.new;
          me = w.goes.same ∙ w.able.me;
          first = first;
          active = state;
          stamps = omega (arith, stamps, some);
          signatures = signatures;
        };
        others = λ id other. ap (λ (b : Bank). b id) w.after_is ∙ put_other bank member.id w.new id other;
      }
