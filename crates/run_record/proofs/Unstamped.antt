-- What endorsers and clients did doesn't read stamps.
use Rattle.std.proofs.Common.{◌≡◌, ℕ, zero, suc, List, [], ◌∷◌, ◌++◌, map, slice_get, Some, None, refl, sym, ap, subst, ◌∙◌}
use Rattle.std.specs.Prelude.{option_to_list}
use Rattle.std.specs.List.{AllByRecursion}
use Rattle.chain_block.specs.declared.entry.Entry.{Entry}
use Rattle.statement.specs.declared.member.Member.{Member}
use Rattle.stamp_clock.specs.Stamps.{NoneTwice}
use Rattle.port.specs.Call.{Call}
use Rattle.port.specs.Answer.{Answer}
use Rattle.port.specs.Table.{State, Uninitialized}
use Rattle.endorser_core.specs.Line.{IsLawfulAt, IsLawfulFrom, state_after}
use Rattle.endorser_core.specs.Line.{Line as CellLine}
use Rattle.view_ledger.specs.Receipts.{Accepts}
use Rattle.view_ledger.specs.Views.{ViewChain}
use Rattle.client_pass.specs.Act.{Act, Draw, Append, Latest, At, Look, View, line}
use Rattle.client_pass.specs.Act.{Line as ClientLine}
use Rattle.client_pass.specs.ClientList.{AreDone, IsClientList, IsDone, IsForEntry, IsForRead, answered, answered_by, chain_after}
use Rattle.client_pass.specs.Record.{AreLawful}
use Rattle.run_record.specs.Stamping.{acts_of, calls_of}

-- ---- call lists

abbrev done_by : CellLine → Call × Answer
done_by line = (line.call, line.answer)

abbrev made_at : ℕ → Call × Answer → CellLine
made_at stamp done = record { stamp = stamp; call = done.0; answer = done.1 }

stamps_aside : (accepts : Accepts) (me : Member) (state : State) (x : CellLine) (stamp : ℕ) → IsLawfulAt accepts me state x → IsLawfulAt accepts me state (made_at stamp (done_by x))
stamps_aside accepts me state x stamp lawful = record { answer = lawful.answer; accepted = lawful.accepted }

lawful_at : (accepts : Accepts) (me : Member) (state : State) (x y : CellLine) → done_by x ≡ done_by y → IsLawfulAt accepts me state x → IsLawfulAt accepts me state y
lawful_at accepts me state x y same lawful = subst (λ (done : Call × Answer). IsLawfulAt accepts me state (made_at y.stamp done)) same (stamps_aside accepts me state x y.stamp lawful)

lawful_from : (accepts : Accepts) (me : Member) (state : State) (xs ys : List CellLine) → calls_of xs ≡ calls_of ys → IsLawfulFrom accepts me state xs → IsLawfulFrom accepts me state ys
lawful_from accepts me state [] [] same lawful = tt
lawful_from accepts me state [] (y ∷ ys) same lawful = absurd cc
lawful_from accepts me state (x ∷ xs) [] same lawful = absurd cc
lawful_from accepts me state (x ∷ xs) (y ∷ ys) same lawful =
    let first : done_by x ≡ done_by y = cc in
    let rest : calls_of xs ≡ calls_of ys = cc in
    let next : state_after me state x ≡ state_after me state y = ap (λ (done : Call × Answer). state_after me state (made_at 0 done)) first in (
      lawful_at accepts me state x y first lawful.0,
      lawful_from accepts me (state_after me state y) xs ys rest (subst (λ (s : State). IsLawfulFrom accepts me s xs) next lawful.1),
    )

pub lawful_lists : (accepts : Accepts) (roster : List Member) (before now : List (List CellLine)) → map calls_of now ≡ map calls_of before → AreLawful accepts roster before → AreLawful accepts roster now
lawful_lists accepts [] [] [] same lawful = tt
lawful_lists accepts [] [] (n ∷ now) same lawful = absurd cc
lawful_lists accepts [] (b ∷ before) now same lawful = absurd lawful
lawful_lists accepts (me ∷ roster) [] now same lawful = absurd lawful
lawful_lists accepts (me ∷ roster) (b ∷ before) [] same lawful = absurd cc
lawful_lists accepts (me ∷ roster) (b ∷ before) (n ∷ now) same lawful =
    let first : calls_of b ≡ calls_of n = cc in
    let rest : map calls_of now ≡ map calls_of before = cc in (
      lawful_from accepts me Uninitialized b n first lawful.0,
      lawful_lists accepts roster before now rest lawful.1,
    )

-- ---- lists of clients

same_get : (xs ys : List ClientLine) (n stamp : ℕ) (act : Act) → acts_of xs ≡ acts_of ys → slice_get xs n ≡ Some (line stamp act) → (other : ℕ) × (slice_get ys n ≡ Some (line other act))
same_get [] ys n stamp act same is = absurd cc
same_get (x ∷ xs) [] n stamp act same is = absurd cc
same_get (x ∷ xs) (y ∷ ys) zero stamp act same is =
    let here : x ≡ line stamp act = cc in
    let acted : x.act ≡ act = ap (λ (l : ClientLine). l.act) here in
    let first : x.act ≡ y.act = cc in (y.stamp, ap (λ (a : Act). Some (line y.stamp a)) (sym first ∙ acted))
same_get (x ∷ xs) (y ∷ ys) (suc n) stamp act same is = let rest : acts_of xs ≡ acts_of ys = cc in same_get xs ys n stamp act rest is

for_entry : (xs ys : List ClientLine) (draw : ℕ) (entry : Entry) → acts_of xs ≡ acts_of ys → IsForEntry xs draw entry → IsForEntry ys draw entry
for_entry xs ys draw entry same (stamp, nonce, is) = let found = same_get xs ys draw stamp (Draw nonce (Some entry)) same is in (found.0, nonce, found.1)

for_read : (xs ys : List ClientLine) (draw : ℕ) (nonce : List ℕ) → acts_of xs ≡ acts_of ys → IsForRead xs draw nonce → IsForRead ys draw nonce
for_read xs ys draw nonce same (stamp, is) = same_get xs ys draw stamp (Draw nonce None) same is

done_after : (accepts : Accepts) (chain : ViewChain) (xs ys : List ClientLine) (act : Act) → acts_of xs ≡ acts_of ys → IsDone accepts chain xs act → IsDone accepts chain ys act
done_after accepts chain xs ys (Draw nonce intent) same done = done
done_after accepts chain xs ys (Append draw reply fault) same (entry, own, outcome, for) = (entry, for_entry xs ys draw entry same own, outcome, for)
done_after accepts chain xs ys (Latest draw handle reply fault) same (nonce, own, outcome) = (nonce, for_read xs ys draw nonce same own, outcome)
done_after accepts chain xs ys (At handle height reply fault) same done = done
done_after accepts chain xs ys (Look handle height reply fault) same done = done
done_after accepts chain xs ys (View row fault) same done = done

acts_push : (xs ys : List ClientLine) (x y : ClientLine) → acts_of xs ≡ acts_of ys → x.act ≡ y.act → acts_of (xs ++ x ∷ []) ≡ acts_of (ys ++ y ∷ [])
acts_push [] [] x y same first = ap (λ (a : Act). a ∷ []) first
acts_push [] (b ∷ ys) x y same first = absurd cc
acts_push (a ∷ xs) [] x y same first = absurd cc
acts_push (a ∷ xs) (b ∷ ys) x y same first =
    let here : a.act ≡ b.act = cc in
    let rest : acts_of xs ≡ acts_of ys = cc in
    ap (λ (act : Act). act ∷ acts_of (xs ++ x ∷ [])) here ∙ ap (λ (acts : List Act). b.act ∷ acts) (acts_push xs ys x y rest first)

are_done : (accepts : Accepts) (chain : ViewChain) (before earlier xs ys : List ClientLine) → acts_of before ≡ acts_of earlier → acts_of xs ≡ acts_of ys → AreDone accepts chain before xs → AreDone accepts chain earlier ys
are_done accepts chain before earlier [] [] past same done = tt
are_done accepts chain before earlier [] (y ∷ ys) past same done = absurd cc
are_done accepts chain before earlier (x ∷ xs) [] past same done = absurd cc
are_done accepts chain before earlier (x ∷ xs) (y ∷ ys) past same done =
    let first : x.act ≡ y.act = cc in
    let rest : acts_of xs ≡ acts_of ys = cc in
    let next : ViewChain = chain_after chain y.act in (
      subst (λ (a : Act). IsDone accepts chain earlier a) first (done_after accepts chain before earlier x.act past done.0),
      are_done accepts next (before ++ x ∷ []) (earlier ++ y ∷ []) xs ys (acts_push before earlier x y past first) rest
          (subst (λ (a : Act). AreDone accepts (chain_after chain a) (before ++ x ∷ []) xs) first done.1),
    )

same_answered : (xs ys : List ClientLine) → acts_of xs ≡ acts_of ys → answered xs ≡ answered ys
same_answered [] [] same = refl
same_answered [] (y ∷ ys) same = absurd cc
same_answered (x ∷ xs) [] same = absurd cc
same_answered (x ∷ xs) (y ∷ ys) same =
    let first : x.act ≡ y.act = cc in
    let rest : acts_of xs ≡ acts_of ys = cc in
    ap (λ (a : Act). option_to_list (answered_by a) ++ answered xs) first ∙ ap (λ (ns : List ℕ). option_to_list (answered_by y.act) ++ ns) (same_answered xs ys rest)

client_list : (accepts : Accepts) (chain : ViewChain) (xs ys : List ClientLine) → acts_of xs ≡ acts_of ys → IsClientList accepts chain xs → IsClientList accepts chain ys
client_list accepts chain xs ys same list = record {
  done = are_done accepts chain [] [] xs ys refl same list.done;
  once = subst NoneTwice (same_answered xs ys same) list.once;
}

pub client_lists : (accepts : Accepts) (chain : ViewChain) (before now : List (List ClientLine)) → map acts_of now ≡ map acts_of before
    → AllByRecursion (IsClientList accepts chain) before → AllByRecursion (IsClientList accepts chain) now
client_lists accepts chain [] [] same lists = tt
client_lists accepts chain [] (n ∷ now) same lists = absurd cc
client_lists accepts chain (b ∷ before) [] same lists = absurd cc
client_lists accepts chain (b ∷ before) (n ∷ now) same lists =
    let first : acts_of b ≡ acts_of n = cc in
    let rest : map acts_of now ≡ map acts_of before = cc in (
      client_list accepts chain b n first lists.0,
      client_lists accepts chain before now rest lists.1,
    )
