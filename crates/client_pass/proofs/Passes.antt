-- A client's pass that notes one act more.
use Rattle.std.proofs.Common.{◌≡◌, ℕ, ◌+◌, ◌-◌, ◌<◌, ◌≤◌, List, [], ◌∷◌, ◌++◌, length, take, slice_get, Option, Some, None, IfSome, IfNone, Result, option_map, refl, sym, ap, subst, ◌∙◌, append-nil, arith}
use Rattle.std.specs.List.{All}
use Rattle.std.proofs.lemmas.List.{take-append-le, length_push}
use Rattle.chain_block.specs.declared.entry.Entry.{Entry}
use Rattle.chain_block.specs.declared.entry.Entry.TheVariants.{Genesis, Later}
use Rattle.chain_block.specs.Entry.{bare}
use Rattle.statement.specs.declared.member.Member.{Member}
use Rattle.port.specs.Reply.{Standing, LatestReply}
use Rattle.view_ledger.specs.declared.view_fault.ViewFault.{ViewFault}
use Rattle.view_ledger.specs.Views.{ViewChain}
use Rattle.view_ledger.specs.Receipts.{Accepts}
use Rattle.verifier.specs.declared.reply_fault.ReplyFault.{ReplyFault}
use Rattle.verifier.specs.Outcomes.{append_outcome, latest_outcome}
use Rattle.client_pass.specs.declared.take_fault.TakeFault.{TakeFault}
use Rattle.client_pass.specs.Act.{Act, Draw, Append, Latest, At, Look, View, Line, line}
use Rattle.stamp_clock.specs.Stamps.{times}
use Rattle.client_pass.specs.ClientList.{answered, IsAnswered, IsClientList, IsDone, chain_after, chain_of, stamps_of, IsForEntry, IsForRead}
use Rattle.client_pass.specs.Answers.{answer_by, view_answer_by, IfReplyNoted, IfViewNoted}
use Rattle.client_pass.specs.ClientPass.{ClientPass, Notes, up_to}
use Rattle.client_pass.proofs.ClientLists.{IsOpen, answered_push, list_push, chain_push, get_last}

pub same_chain : {C : Type 0} (inside old : ClientPass C) → inside ≡ old → inside.chain ≡ old.chain
same_chain inside old e = ap (λ p. p.chain) e

pub same_lines : {C : Type 0} (inside old : ClientPass C) → inside ≡ old → inside.lines ≡ old.lines
same_lines inside old e = ap (λ p. p.lines) e

-- ---- views

pub up_to_stays : (began : ℕ) (chain : ViewChain) (act : Act) → began < length chain.configs → up_to began (chain_after chain act) ≡ up_to began chain
up_to_stays began chain (Draw nonce intent) inside = refl
up_to_stays began chain (Append draw reply fault) inside = refl
up_to_stays began chain (Latest draw handle reply fault) inside = refl
up_to_stays began chain (At handle height reply fault) inside = refl
up_to_stays began chain (Look handle height reply fault) inside = refl
up_to_stays began chain (View row None) inside =
    let few : began + 1 ≤ length chain.configs = omega arith in
    let same : take (began + 1) (chain.configs ++ row.config ∷ []) ≡ take (began + 1) chain.configs = take-append-le (began + 1) chain.configs (row.config ∷ []) few in
    ap (λ (configs : List (List Member)). record chain { configs = configs }) same
up_to_stays began chain (View row (Some fault)) inside = refl

pub began_stays : (began : ℕ) (chain : ViewChain) (act : Act) → began < length chain.configs → began < length (chain_after chain act).configs
began_stays began chain (Draw nonce intent) inside = inside
began_stays began chain (Append draw reply fault) inside = inside
began_stays began chain (Latest draw handle reply fault) inside = inside
began_stays began chain (At handle height reply fault) inside = inside
began_stays began chain (Look handle height reply fault) inside = inside
began_stays began chain (View row None) inside = omega (arith, length_push chain.configs row.config)
began_stays began chain (View row (Some fault)) inside = inside

-- ---- the lines with one more

pub more : {C : Type 0} (accepts : C → Accepts) (inside old : ClientPass C) (checker : C) (first chain : ViewChain) (next : Line)
    → inside ≡ old → checker ≡ inside.checker → first ≡ inside.first → chain ≡ chain_after inside.chain next.act
    → IsClientList (accepts inside.checker) inside.first inside.lines → chain_of inside.first inside.lines ≡ inside.chain
    → IsDone (accepts old.checker) old.chain old.lines next.act → IsOpen old.lines next.act
    → IsClientList (accepts checker) first (inside.lines ++ next ∷ []) × (chain_of first (inside.lines ++ next ∷ []) ≡ chain)
more {C} accepts inside old checker first chain next same checks begins leads list replayed done fresh =
    let done_inside : IsDone (accepts inside.checker) inside.chain inside.lines next.act = subst (λ (p : ClientPass C). IsDone (accepts p.checker) p.chain p.lines next.act) (sym same) done in
    let fresh_inside : IsOpen inside.lines next.act = subst (λ (p : ClientPass C). IsOpen p.lines next.act) (sym same) fresh in
    let done_first : IsDone (accepts inside.checker) (chain_of inside.first inside.lines) inside.lines next.act = subst (λ (v : ViewChain). IsDone (accepts inside.checker) v inside.lines next.act) (sym replayed) done_inside in
    let pushed : IsClientList (accepts inside.checker) inside.first (inside.lines ++ next ∷ []) = list_push (accepts inside.checker) inside.first inside.lines next list done_first fresh_inside in
    let with_first : IsClientList (accepts inside.checker) first (inside.lines ++ next ∷ []) = subst (λ (v : ViewChain). IsClientList (accepts inside.checker) v (inside.lines ++ next ∷ [])) (sym begins) pushed in (
      subst (λ (k : C). IsClientList (accepts k) first (inside.lines ++ next ∷ [])) (sym checks) with_first,
      ap (λ (v : ViewChain). chain_of v (inside.lines ++ next ∷ [])) begins ∙ chain_push inside.first inside.lines next ∙ ap (λ (v : ViewChain). chain_after v next.act) replayed ∙ sym leads,
    )

pub notes : {C : Type 0} (inside old new : ClientPass C) (stamp : ℕ) (act : Act) → inside ≡ old → All (λ earlier. earlier < stamp) (stamps_of inside.lines)
    → new ≡ record inside { chain = chain_after inside.chain act; lines = inside.lines ++ line stamp act ∷ []; left = inside.left - 1 } → Notes old new act
notes {C} inside old new stamp act same above noted = record {
  stamp = stamp;
  above = subst (λ (p : ClientPass C). All (λ earlier. earlier < stamp) (stamps_of p.lines)) same above;
  noted = noted ∙ ap (λ (p : ClientPass C). record p { chain = chain_after p.chain act; lines = p.lines ++ line stamp act ∷ []; left = p.left - 1 }) same;
}

-- ---- the number of a draw

bare_bare : (entry : Entry) → bare (bare entry) ≡ bare entry
bare_bare (Genesis nonce payload) = refl
bare_bare (Later handle height nonce payload) = refl

at_number : {C : Type 0} (old new : ClientPass C) (act : Act) (number : ℕ) (n : Notes old new act) → number ≡ length old.lines → slice_get new.lines number ≡ Some (line n.stamp act)
at_number {C} old new act number n e =
    ap (λ (p : ClientPass C). slice_get p.lines number) n.noted
    ∙ ap (λ (k : ℕ). slice_get (old.lines ++ line n.stamp act ∷ []) k) e
    ∙ get_last old.lines (line n.stamp act)

pub for_entry : {C : Type 0} (old new : ClientPass C) (nonce : List ℕ) (intent given : Option Entry) (number : ℕ) → Notes old new (Draw nonce (option_map bare intent)) → intent ≡ option_map bare given → number ≡ length old.lines
    → IfSome given (λ entry. IsForEntry new.lines number (bare entry))
for_entry old new nonce intent None number n copy e = tt
for_entry old new nonce intent (Some entry) number n copy e =
    let drawn : option_map bare intent ≡ Some (bare entry) = ap (option_map bare) copy ∙ ap (λ (x : Entry). Some x) (bare_bare entry) in
    (n.stamp, nonce, at_number old new (Draw nonce (option_map bare intent)) number n e ∙ ap (λ (o : Option Entry). Some (line n.stamp (Draw nonce o))) drawn)

pub for_read : {C : Type 0} (old new : ClientPass C) (nonce : List ℕ) (intent given : Option Entry) (number : ℕ) → Notes old new (Draw nonce (option_map bare intent)) → intent ≡ option_map bare given → number ≡ length old.lines
    → IfNone given (IsForRead new.lines number nonce)
for_read old new nonce intent None number n copy e =
    let drawn : option_map bare intent ≡ None = ap (option_map bare) copy in
    (n.stamp, at_number old new (Draw nonce (option_map bare intent)) number n e ∙ ap (λ (o : Option Entry). Some (line n.stamp (Draw nonce o))) drawn)
for_read old new nonce intent (Some entry) number n copy e = tt

-- a draw that no accepted reply named before it was noted is named by none then
pub still_open : {C : Type 0} (old new : ClientPass C) (nonce : List ℕ) (intent : Option Entry) (number : ℕ) → Notes old new (Draw nonce (option_map bare intent))
    → times number (answered old.lines) ≡ 0 → IsAnswered new.lines number → ⊥
still_open old new nonce intent number n none is =
    let next = line n.stamp (Draw nonce (option_map bare intent)) in
    let lines : new.lines ≡ old.lines ++ next ∷ [] = same_lines new _ n.noted in
    let same : answered new.lines ≡ answered old.lines = ap answered lines ∙ answered_push old.lines next ∙ append-nil (answered old.lines) in
    let zero : times number (answered new.lines) ≡ 0 = ap (times number) same ∙ none in
    absurd (omega (arith, is, zero))

-- ---- answers

pub by_answer : (fault : Option ReplyFault) (r : Result (Unit {0}) TakeFault) (P : Option ReplyFault → Type 0) → r ≡ answer_by fault → P fault → IfReplyNoted r P
by_answer None r P e p = subst (λ (a : Result (Unit {0}) TakeFault). IfReplyNoted a P) (sym e) p
by_answer (Some fault) r P e p = subst (λ (a : Result (Unit {0}) TakeFault). IfReplyNoted a P) (sym e) p

pub by_view_answer : (fault : Option ViewFault) (r : Result (Unit {0}) TakeFault) (P : Option ViewFault → Type 0) → r ≡ view_answer_by fault → P fault → IfViewNoted r P
by_view_answer None r P e p = subst (λ (a : Result (Unit {0}) TakeFault). IfViewNoted a P) (sym e) p
by_view_answer (Some fault) r P e p = subst (λ (a : Result (Unit {0}) TakeFault). IfViewNoted a P) (sym e) p

pub append_judged : {C : Type 0} (accepts : C → Accepts) (inside old : ClientPass C) (lines : List Line) (draw : ℕ) (fault : Option ReplyFault) (reply : Standing) → inside ≡ old → lines ≡ inside.lines
    → ((entry : Entry) → IsForEntry lines draw entry → fault ≡ append_outcome (accepts inside.checker) inside.chain.configs entry reply)
    → (entry : Entry) → IsForEntry old.lines draw entry → fault ≡ append_outcome (accepts old.checker) old.chain.configs entry reply
append_judged {C} accepts inside old lines draw fault reply same is says entry own =
    let there : IsForEntry lines draw entry = subst (λ (ls : List Line). IsForEntry ls draw entry) (sym (is ∙ same_lines inside old same)) own in
    says entry there ∙ ap (λ (p : ClientPass C). append_outcome (accepts p.checker) p.chain.configs entry reply) same

pub latest_judged : {C : Type 0} (accepts : C → Accepts) (inside old : ClientPass C) (lines : List Line) (draw : ℕ) (answer : Result ℕ ReplyFault) (handle : List ℕ) (reply : LatestReply) → inside ≡ old → lines ≡ inside.lines
    → ((nonce : List ℕ) → IsForRead lines draw nonce → answer ≡ latest_outcome (accepts inside.checker) inside.chain.configs handle nonce reply)
    → (nonce : List ℕ) → IsForRead old.lines draw nonce → answer ≡ latest_outcome (accepts old.checker) old.chain.configs handle nonce reply
latest_judged {C} accepts inside old lines draw answer handle reply same is says nonce own =
    let there : IsForRead lines draw nonce = subst (λ (ls : List Line). IsForRead ls draw nonce) (sym (is ∙ same_lines inside old same)) own in
    says nonce there ∙ ap (λ (p : ClientPass C). latest_outcome (accepts p.checker) p.chain.configs handle nonce reply) same
