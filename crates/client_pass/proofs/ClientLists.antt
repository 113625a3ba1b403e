-- A client's lines that grow by one.
use Rattle.std.proofs.Common.{◌≡◌, ◌≢◌, ◌⊎◌, inl, inr, ℕ, zero, suc, ◌+◌, ◌≤◌, Bool, List, [], ◌∷◌, ◌++◌, length, slice_get, Option, Some, None, IfSome, refl, sym, ap, subst, ◌∙◌, append_assoc, append-nil, arith}
use Rattle.std.specs.Prelude.{option_to_list, eqb, cond}
use Rattle.std.proofs.lemmas.Bool.Decides.{eqb_tells}
use Rattle.chain_block.specs.declared.entry.Entry.{Entry}
use Rattle.stamp_clock.specs.Stamps.{times, NoneTwice}
use Rattle.view_ledger.specs.Views.{ViewChain}
use Rattle.view_ledger.specs.Receipts.{Accepts}
use Rattle.client_pass.specs.Act.{Act, Draw, Line, line}
use Rattle.client_pass.specs.ClientList.{IsClientList, IsDone, AreDone, answered, answered_by, chain_after, chain_of, stamps_of, IsForEntry, IsForRead}

pub stamps_push : (lines : List Line) (line : Line) → stamps_of (lines ++ line ∷ []) ≡ stamps_of lines ++ line.stamp ∷ []
stamps_push [] line = refl
stamps_push (first ∷ lines) line = ap (λ (stamps : List ℕ). first.stamp ∷ stamps) (stamps_push lines line)

pub chain_push : (chain : ViewChain) (lines : List Line) (line : Line) → chain_of chain (lines ++ line ∷ []) ≡ chain_after (chain_of chain lines) line.act
chain_push chain [] line = refl
chain_push chain (first ∷ lines) line = chain_push (chain_after chain first.act) lines line

pub done_push : (accepts : Accepts) (chain : ViewChain) (before lines : List Line) (line : Line)
    → AreDone accepts chain before lines → IsDone accepts (chain_of chain lines) (before ++ lines) line.act → AreDone accepts chain before (lines ++ line ∷ [])
done_push accepts chain before [] line done next = (subst (λ (b : List Line). IsDone accepts chain b line.act) (append-nil before) next, tt)
done_push accepts chain before (first ∷ lines) line done next = (
  done.0,
  done_push accepts (chain_after chain first.act) (before ++ first ∷ []) lines line done.1
      (subst (λ (b : List Line). IsDone accepts (chain_of (chain_after chain first.act) lines) b line.act) (sym (append_assoc before (first ∷ []) lines)) next),
)

pub answered_push : (lines : List Line) (line : Line) → answered (lines ++ line ∷ []) ≡ answered lines ++ option_to_list (answered_by line.act)
answered_push [] line = append-nil (option_to_list (answered_by line.act))
answered_push (first ∷ lines) line =
    ap (λ (xs : List ℕ). option_to_list (answered_by first.act) ++ xs) (answered_push lines line)
    ∙ sym (append_assoc (option_to_list (answered_by first.act)) (answered lines) (option_to_list (answered_by line.act)))

pub times_append : (number : ℕ) (xs ys : List ℕ) → times number (xs ++ ys) ≡ times number xs + times number ys
times_append number [] ys = omega arith
times_append number (x ∷ xs) ys = omega (arith, times_append number xs ys)

-- the draw of an act has no accepted reply yet
abbrev pub IsOpen : List Line → Act → Type 0
IsOpen lines act = IfSome (answered_by act) (λ draw. times draw (answered lines) ≡ 0)

abbrev bit : Bool → ℕ
bit b = cond b 1 0

by_sum : {G A B : Type 0} → A ⊎ B → (A → G) → (B → G) → G
by_sum (inl a) f g = f a
by_sum (inr b) f g = g b

pub by_test : {G : Type 0} (one other : ℕ) → (one ≡ other → bit (eqb one other) ≡ 1 → G) → (one ≢ other → bit (eqb one other) ≡ 0 → G) → G
by_test one other t f = by_sum (eqb_tells one other) (λ p. t p.1 (ap bit p.0)) (λ p. f p.1 (ap bit p.0))

by_draw : (number draw : ℕ) (numbers : List ℕ) → NoneTwice numbers → times draw numbers ≡ 0 → times number (numbers ++ draw ∷ []) ≤ 1
by_draw number draw numbers once fresh =
    let e : times number (numbers ++ draw ∷ []) ≡ times number numbers + (cond (eqb draw number) 1 0 + 0) = times_append number numbers (draw ∷ []) in
    let o : times number numbers ≤ 1 = once number in
    by_test draw number
    (λ (is : draw ≡ number) (b : cond (eqb draw number) 1 0 ≡ 1). let z : times number numbers ≡ 0 = subst (λ (n : ℕ). times n numbers ≡ 0) is fresh in omega arith)
    (λ (other : draw ≢ number) (b : cond (eqb draw number) 1 0 ≡ 0). omega arith)

once_more : (numbers : List ℕ) (next : Option ℕ) → NoneTwice numbers → IfSome next (λ draw. times draw numbers ≡ 0) → NoneTwice (numbers ++ option_to_list next)
once_more numbers None once fresh = λ number. omega (arith, times_append number numbers [], once number)
once_more numbers (Some draw) once fresh = λ number. by_draw number draw numbers once fresh

pub list_push : (accepts : Accepts) (chain : ViewChain) (lines : List Line) (line : Line)
    → IsClientList accepts chain lines → IsDone accepts (chain_of chain lines) lines line.act → IsOpen lines line.act
    → IsClientList accepts chain (lines ++ line ∷ [])
list_push accepts chain lines line list next fresh = record {
  done = done_push accepts chain [] lines line list.done next;
  once = subst NoneTwice (sym (answered_push lines line)) (once_more (answered lines) (answered_by line.act) list.once fresh);
}

-- ---- what a draw's number says

pub same_entry : (lines : List Line) (draw : ℕ) (entry other : Entry) → IsForEntry lines draw entry → IsForEntry lines draw other → entry ≡ other
same_entry lines draw entry other (stamp, nonce, e) (stamp', nonce', e') =
    let same : line stamp (Draw nonce (Some entry)) ≡ line stamp' (Draw nonce' (Some other)) = cc in
    let acts : Draw nonce (Some entry) ≡ Draw nonce' (Some other) = ap (λ (l : Line). l.act) same in
    cc

pub same_nonce : (lines : List Line) (draw : ℕ) (nonce other : List ℕ) → IsForRead lines draw nonce → IsForRead lines draw other → nonce ≡ other
same_nonce lines draw nonce other (stamp, e) (stamp', e') =
    let same : line stamp (Draw nonce None) ≡ line stamp' (Draw other None) = cc in
    let acts : Draw nonce None ≡ Draw other None = ap (λ (l : Line). l.act) same in
    cc

get_stays : {A : Type 0} (xs ys : List A) (n : ℕ) (x : A) → slice_get xs n ≡ Some x → slice_get (xs ++ ys) n ≡ Some x
get_stays [] ys n x e = absurd cc
get_stays (y ∷ xs) ys zero x e = e
get_stays (y ∷ xs) ys (suc n) x e = get_stays xs ys n x e

pub get_last : {A : Type 0} (xs : List A) (x : A) → slice_get (xs ++ x ∷ []) (length xs) ≡ Some x
get_last [] x = refl
get_last (y ∷ xs) x = get_last xs x

pub entry_stays : (lines more : List Line) (draw : ℕ) (entry : Entry) → IsForEntry lines draw entry → IsForEntry (lines ++ more) draw entry
entry_stays lines more draw entry (stamp, nonce, e) = (stamp, nonce, get_stays lines more draw (line stamp (Draw nonce (Some entry))) e)

pub read_stays : (lines more : List Line) (draw : ℕ) (nonce : List ℕ) → IsForRead lines draw nonce → IsForRead (lines ++ more) draw nonce
read_stays lines more draw nonce (stamp, e) = (stamp, get_stays lines more draw (line stamp (Draw nonce None)) e)
