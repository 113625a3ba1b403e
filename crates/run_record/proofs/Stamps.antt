-- Lists that get their stamps one by one.
use Rattle.std.proofs.Common.{◌≡◌, ℕ, zero, suc, ◌+◌, ◌<◌, Bool, true, false, cond, eqb, List, [], ◌∷◌, ◌++◌, length, map, get_or, set, take, refl, sym, ap, subst, ◌∙◌, arith}
use lib.Dec.{eqb-zero-suc, eqb-suc-zero, eqb-suc-suc}
use Rattle.std.specs.Prelude.{if◌then◌else◌}
use Rattle.std.specs.List.{count_by}
use Rattle.std.proofs.lemmas.Bool.{eqb-true}
use Rattle.std.proofs.lemmas.List.{append-nil, get_or_default, length-set, length-take-le, map-set, take_more}
use Rattle.run_record.specs.declared.actor.Actor.{Actor}
use Rattle.run_record.specs.Events.{places, places_from}
use Rattle.run_record.specs.Stamping.{AreStamped, change_at, stamped}
use Rattle.run_record.proofs.Counts.{bit, count_at, count_push, in_range}
use Rattle.run_record.proofs.Places.{places_push, places_length}

-- ---- a change at one place

pub change_read : {A : Type 0} (change : A → A) (xs : List A) (k : ℕ) (x : A) → x ≡ get_or xs k x → set xs k (change x) ≡ change_at change k xs
change_read change [] k x is = refl
change_read change (y ∷ xs) zero x is = ap (λ z. change z ∷ xs) is
change_read change (y ∷ xs) (suc k) x is = ap (λ zs. y ∷ zs) (change_read change xs k x is)

pub change_length : {A : Type 0} (change : A → A) (k : ℕ) (xs : List A) → length (change_at change k xs) ≡ length xs
change_length change k [] = refl
change_length change zero (x ∷ xs) = refl
change_length change (suc k) (x ∷ xs) = ap suc (change_length change k xs)

pub change_get : {A : Type 0} (change : A → A) (xs : List A) (k p : ℕ) (d : A) → k < length xs → get_or (change_at change k xs) p d ≡ cond (eqb k p) (change (get_or xs p d)) (get_or xs p d)
change_get change [] k p d inside = absurd (omega arith)
change_get change (x ∷ xs) zero zero d inside = refl
change_get change (x ∷ xs) zero (suc p) d inside = ap (λ (b : Bool). cond b (change (get_or xs p d)) (get_or xs p d)) (sym (eqb-zero-suc p))
change_get change (x ∷ xs) (suc k) zero d inside = ap (λ (b : Bool). cond b (change x) x) (sym (eqb-suc-zero k))
change_get change (x ∷ xs) (suc k) (suc p) d inside = change_get change xs k p d (omega arith) ∙ ap (λ (b : Bool). cond b (change (get_or xs p d)) (get_or xs p d)) (sym (eqb-suc-suc k p))

pub set_get : {A : Type 0} (xs : List A) (k p : ℕ) (y d : A) → k < length xs → get_or (set xs k y) p d ≡ cond (eqb k p) y (get_or xs p d)
set_get [] k p y d inside = absurd (omega arith)
set_get (x ∷ xs) zero zero y d inside = refl
set_get (x ∷ xs) zero (suc p) y d inside = ap (λ (b : Bool). cond b y (get_or xs p d)) (sym (eqb-zero-suc p))
set_get (x ∷ xs) (suc k) zero y d inside = ap (λ (b : Bool). cond b y x) (sym (eqb-suc-zero k))
set_get (x ∷ xs) (suc k) (suc p) y d inside = set_get xs k p y d (omega arith) ∙ ap (λ (b : Bool). cond b y (get_or xs p d)) (sym (eqb-suc-suc k p))

read_map : {A B : Type 0} (f : A → B) (xs : List A) (k : ℕ) (x : A) → x ≡ get_or xs k x → f x ≡ get_or (map f xs) k (f x)
read_map f [] k x is = refl
read_map f (y ∷ xs) zero x is = ap f is
read_map f (y ∷ xs) (suc k) x is = read_map f xs k x is

-- one element of one list changes
pub changed_within : {V A : Type 0} (items : V → List A) (change : A → A) (lists : List V) (place k : ℕ) (old new : V) (x y : A)
    → old ≡ get_or lists place old → x ≡ get_or (items old) k x → y ≡ change x → items new ≡ set (items old) k y
    → map items (set lists place new) ≡ change_at (change_at change k) place (map items lists)
changed_within items change lists place k old new x y is_old is_x is_y is_new =
    map-set items lists place new
    ∙ (ap (λ list. set (map items lists) place list) (is_new ∙ (ap (λ z. set (items old) k z) is_y ∙ change_read change (items old) k x is_x))
    ∙ change_read (change_at change k) (map items lists) place (items old) (read_map items lists place old is_old))

-- ---- one stamp more in a list

pub stamped_more : {L : Type 0} (put : ℕ → L → L) (stamps : List ℕ) (stamp : ℕ) (lines : List L) → stamped put (stamps ++ stamp ∷ []) lines ≡ change_at (put stamp) (length stamps) (stamped put stamps lines)
stamped_more put [] stamp [] = refl
stamped_more put [] stamp (line ∷ lines) = refl
stamped_more put (first ∷ stamps) stamp [] = refl
stamped_more put (first ∷ stamps) stamp (line ∷ lines) = ap (λ ls. put first line ∷ ls) (stamped_more put stamps stamp lines)

pub stamped_length : {L : Type 0} (put : ℕ → L → L) (stamps : List ℕ) (lines : List L) → length (stamped put stamps lines) ≡ length lines
stamped_length put [] lines = refl
stamped_length put (stamp ∷ stamps) [] = refl
stamped_length put (stamp ∷ stamps) (line ∷ lines) = ap suc (stamped_length put stamps lines)

-- what no stamp changes
pub stamped_rest : {L R : Type 0} (put : ℕ → L → L) (rest : L → R) → ((stamp : ℕ) (line : L) → rest (put stamp line) ≡ rest line) → (stamps : List ℕ) (lines : List L)
    → map rest (stamped put stamps lines) ≡ map rest lines
stamped_rest put rest same [] lines = refl
stamped_rest put rest same (stamp ∷ stamps) [] = refl
stamped_rest put rest same (stamp ∷ stamps) (line ∷ lines) =
    ap (λ r. r ∷ map rest (stamped put stamps lines)) (same stamp line) ∙ ap (λ rs. rest line ∷ rs) (stamped_rest put rest same stamps lines)

-- the stamps of lines that all got theirs
pub stamped_stamps : {L : Type 0} (put : ℕ → L → L) (stamp_of : L → ℕ) → ((stamp : ℕ) (line : L) → stamp_of (put stamp line) ≡ stamp) → (stamps : List ℕ) (lines : List L)
    → length stamps ≡ length lines → map stamp_of (stamped put stamps lines) ≡ stamps
stamped_stamps put stamp_of is [] [] same = refl
stamped_stamps put stamp_of is [] (line ∷ lines) same = absurd (omega arith)
stamped_stamps put stamp_of is (stamp ∷ stamps) [] same = absurd (omega arith)
stamped_stamps put stamp_of is (stamp ∷ stamps) (line ∷ lines) same =
    ap (λ s. s ∷ map stamp_of (stamped put stamps lines)) (is stamp line) ∙ ap (λ ss. stamp ∷ ss) (stamped_stamps put stamp_of is stamps lines (omega arith))

-- ---- one event more

-- how many lines of each list have their stamp
pub record AreNext (acts : ℕ → Actor → Bool) (taken : List Actor) (count : ℕ) (next : List ℕ) : Type 0 where
  pub numbers : length next ≡ count
  pub counts : (place : ℕ) → place < count → get_or next place 0 ≡ count_by (acts place) taken

push_places : (acts : Actor → Bool) (taken : List Actor) (a : Actor) → places acts (taken ++ a ∷ []) ≡ places acts taken ++ (if acts a then length taken ∷ [] else [])
push_places acts taken a = places_push 0 acts taken a ∙ ap (λ (n : ℕ). places acts taken ++ places_from n acts (a ∷ [])) (omega arith)

step_lines : {L : Type 0} (put : ℕ → L → L) (b : Bool) (n c : ℕ) (stamps : List ℕ) (lines now : List L) → now ≡ stamped put stamps lines → (b ≡ true → c ≡ length stamps)
    → cond b (change_at (put n) c now) now ≡ stamped put (stamps ++ (if b then n ∷ [] else [])) lines
step_lines put true n c stamps lines now is at =
    ap (λ (k : ℕ). change_at (put n) k now) (at refl) ∙ (ap (λ ls. change_at (put n) (length stamps) ls) is ∙ sym (stamped_more put stamps n lines))
step_lines put false n c stamps lines now is at = is ∙ ap (λ (ss : List ℕ). stamped put ss lines) (sym (append-nil stamps))

step_count : (b : Bool) (c n k : ℕ) → n ≡ k → (b ≡ true → c ≡ k) → cond b (c + 1) n ≡ k + bit b
step_count true c n k is at = let e : c ≡ k = at refl in omega arith
step_count false c n k is at = omega arith

-- the event of an actor whose list stands at a place
pub acts_lines : {L : Type 0} (put : ℕ → L → L) (acts : ℕ → Actor → Bool) (taken : List Actor) (before now : List (List L)) (next : List ℕ) (a : Actor) (acting : ℕ)
    → ((p : ℕ) → acts p a ≡ eqb acting p) → acting < length before → AreStamped put acts taken before now → AreNext acts taken (length before) next
    → AreStamped put acts (taken ++ a ∷ []) before (change_at (change_at (put (length taken)) (get_or next acting 0)) acting now)
acts_lines put acts taken before now next a acting tells inside k j =
    let n = length taken in
    let c = get_or next acting 0 in
    let within : acting < length now = omega (arith, k.lists) in
    let reached : (p : ℕ) → eqb acting p ≡ true → c ≡ length (places (acts p) taken) = λ p hit.
    subst (λ (q : ℕ). c ≡ length (places (acts q) taken)) (eqb-true acting p hit) (j.counts acting inside ∙ sym (places_length 0 (acts acting) taken)) in
    record {
      lists = change_length (change_at (put n) c) acting now ∙ k.lists;
      lines = λ p.
          change_get (change_at (put n) c) now acting p [] within
          ∙ (step_lines put (eqb acting p) n c (places (acts p) taken) (get_or before p []) (get_or now p []) (k.lines p) (reached p)
          ∙ ap (λ (ss : List ℕ). stamped put ss (get_or before p []))
          (ap (λ (b : Bool). places (acts p) taken ++ (if b then n ∷ [] else [])) (sym (tells p)) ∙ sym (push_places (acts p) taken a)));
    }

pub acts_next : (acts : ℕ → Actor → Bool) (taken : List Actor) (count : ℕ) (next : List ℕ) (a : Actor) (acting : ℕ)
    → ((p : ℕ) → acts p a ≡ eqb acting p) → acting < count → AreNext acts taken count next
    → AreNext acts (taken ++ a ∷ []) count (set next acting (get_or next acting 0 + 1))
acts_next acts taken count next a acting tells inside j =
    let c = get_or next acting 0 in
    let within : acting < length next = omega (arith, j.numbers) in
    let reached : (p : ℕ) → eqb acting p ≡ true → c ≡ count_by (acts p) taken = λ p hit.
    subst (λ (q : ℕ). c ≡ count_by (acts q) taken) (eqb-true acting p hit) (j.counts acting inside) in
    record {
      numbers = length-set next acting (c + 1) ∙ j.numbers;
      counts = λ p below.
          set_get next acting p (c + 1) 0 within
          ∙ (step_count (eqb acting p) c (get_or next p 0) (count_by (acts p) taken) (j.counts p below) (reached p)
          ∙ (ap (λ (b : Bool). count_by (acts p) taken + bit b) (sym (tells p)) ∙ sym (count_push (acts p) taken a)));
    }

-- the event of an actor whose list is none of these
pub rests_lines : {L : Type 0} (put : ℕ → L → L) (acts : ℕ → Actor → Bool) (taken : List Actor) (before now : List (List L)) (a : Actor)
    → ((p : ℕ) → acts p a ≡ false) → AreStamped put acts taken before now → AreStamped put acts (taken ++ a ∷ []) before now
rests_lines put acts taken before now a tells k = record {
  lists = k.lists;
  lines = λ p. k.lines p ∙ ap (λ (ss : List ℕ). stamped put ss (get_or before p []))
      (sym (append-nil (places (acts p) taken)) ∙ (ap (λ (b : Bool). places (acts p) taken ++ (if b then length taken ∷ [] else [])) (sym (tells p)) ∙ sym (push_places (acts p) taken a)));
}

pub rests_next : (acts : ℕ → Actor → Bool) (taken : List Actor) (count : ℕ) (next : List ℕ) (a : Actor)
    → ((p : ℕ) → acts p a ≡ false) → AreNext acts taken count next → AreNext acts (taken ++ a ∷ []) count next
rests_next acts taken count next a tells j = record {
  numbers = j.numbers;
  counts = λ p below. let none : bit (acts p a) ≡ 0 = ap bit (tells p) in omega (arith, j.counts p below, count_push (acts p) taken a);
}

pub event_here : (order : List Actor) (stamp : ℕ) (other a : Actor) → stamp < length order → get_or order stamp other ≡ a → a ≡ get_or order stamp a
event_here order stamp other a inside is = sym is ∙ get_or_default order stamp other a inside

-- an event of the order names a list that stands, and a line of it that has no stamp yet
pub acting_inside : {L : Type 0} (acts : ℕ → Actor → Bool) (order : List Actor) (before : List (List L)) (stamp acting : ℕ) (a : Actor)
    → ((p : ℕ) → count_by (acts p) order ≡ length (get_or before p [])) → stamp < length order → a ≡ get_or order stamp a → acts acting a ≡ true → acting < length before
acting_inside acts order before stamp acting a counts inside is here =
    let less : count_by (acts acting) (take stamp order) < count_by (acts acting) order = count_at (acts acting) order stamp a inside is here in
    in_range before acting (omega (arith, less, counts acting))

pub line_inside : {L : Type 0} (put : ℕ → L → L) (acts : ℕ → Actor → Bool) (order : List Actor) (before now : List (List L)) (next : List ℕ) (stamp acting : ℕ) (a : Actor)
    → ((p : ℕ) → count_by (acts p) order ≡ length (get_or before p [])) → stamp < length order → a ≡ get_or order stamp a → acts acting a ≡ true
    → AreStamped put acts (take stamp order) before now → AreNext acts (take stamp order) (length before) next → get_or next acting 0 < length (get_or now acting [])
line_inside put acts order before now next stamp acting a counts inside is here k j =
    let less : count_by (acts acting) (take stamp order) < count_by (acts acting) order = count_at (acts acting) order stamp a inside is here in
    let long : length (get_or now acting []) ≡ length (get_or before acting []) = ap length (k.lines acting) ∙ stamped_length put (places (acts acting) (take stamp order)) (get_or before acting []) in
    omega (arith, less, long, counts acting, j.counts acting (acting_inside acts order before stamp acting a counts inside is here))

taken_more : (order : List Actor) (stamp : ℕ) (a : Actor) → stamp < length order → a ≡ get_or order stamp a → take stamp order ++ a ∷ [] ≡ take (stamp + 1) order
taken_more order stamp a inside is = ap (λ x. take stamp order ++ x ∷ []) is ∙ sym (take_more order stamp a inside)

-- the lists after the event at this place, where one of their actors acted and where another did
pub after_acting : {L : Type 0} (put : ℕ → L → L) (acts : ℕ → Actor → Bool) (order : List Actor) (before now new : List (List L)) (next more : List ℕ) (stamp acting : ℕ) (a : Actor)
    → stamp < length order → a ≡ get_or order stamp a → ((p : ℕ) → acts p a ≡ eqb acting p) → acting < length before
    → new ≡ change_at (change_at (put stamp) (get_or next acting 0)) acting now → more ≡ set next acting (get_or next acting 0 + 1)
    → AreStamped put acts (take stamp order) before now → AreNext acts (take stamp order) (length before) next
    → AreStamped put acts (take (stamp + 1) order) before new × AreNext acts (take (stamp + 1) order) (length before) more
after_acting put acts order before now new next more stamp acting a inside is tells within is_new is_more k j =
    let taken = take stamp order in
    let c = get_or next acting 0 in
    let long : length taken ≡ stamp = length-take-le stamp order (omega arith) in
    let all : taken ++ a ∷ [] ≡ take (stamp + 1) order = taken_more order stamp a inside is in
    let lists : change_at (change_at (put (length taken)) c) acting now ≡ new = ap (λ (n : ℕ). change_at (change_at (put n) c) acting now) long ∙ sym is_new in (
      subst (λ (t : List Actor). AreStamped put acts t before new) all
          (subst (λ ls. AreStamped put acts (taken ++ a ∷ []) before ls) lists (acts_lines put acts taken before now next a acting tells within k j)),
      subst (λ (t : List Actor). AreNext acts t (length before) more) all
          (subst (λ (ns : List ℕ). AreNext acts (taken ++ a ∷ []) (length before) ns) (sym is_more) (acts_next acts taken (length before) next a acting tells within j)),
    )

pub after_resting : {L : Type 0} (put : ℕ → L → L) (acts : ℕ → Actor → Bool) (order : List Actor) (before now new : List (List L)) (next more : List ℕ) (stamp : ℕ) (a : Actor)
    → stamp < length order → a ≡ get_or order stamp a → ((p : ℕ) → acts p a ≡ false) → new ≡ now → more ≡ next
    → AreStamped put acts (take stamp order) before now → AreNext acts (take stamp order) (length before) next
    → AreStamped put acts (take (stamp + 1) order) before new × AreNext acts (take (stamp + 1) order) (length before) more
after_resting put acts order before now new next more stamp a inside is tells is_new is_more k j =
    let taken = take stamp order in
    let all : taken ++ a ∷ [] ≡ take (stamp + 1) order = taken_more order stamp a inside is in (
      subst (λ (t : List Actor). AreStamped put acts t before new) all
          (subst (λ ls. AreStamped put acts (taken ++ a ∷ []) before ls) (sym is_new) (rests_lines put acts taken before now a tells k)),
      subst (λ (t : List Actor). AreNext acts t (length before) more) all
          (subst (λ (ns : List ℕ). AreNext acts (taken ++ a ∷ []) (length before) ns) (sym is_more) (rests_next acts taken (length before) next a tells j)),
    )

-- ---- what all lists have in the end

map_get : {L R : Type 0} (f : L → R) (lists : List (List L)) (p : ℕ) → get_or (map (λ ls. map f ls) lists) p [] ≡ map f (get_or lists p [])
map_get f [] p = refl
map_get f (ls ∷ lists) zero = refl
map_get f (ls ∷ lists) (suc p) = map_get f lists p

pub same_rests : {L R : Type 0} (f : L → R) (now before : List (List L)) → length now ≡ length before → ((p : ℕ) → map f (get_or now p []) ≡ map f (get_or before p []))
    → map (λ ls. map f ls) now ≡ map (λ ls. map f ls) before
same_rests f [] [] same at = refl
same_rests f [] (ls ∷ before) same at = absurd (omega arith)
same_rests f (ls ∷ now) [] same at = absurd (omega arith)
same_rests f (ls ∷ now) (ms ∷ before) same at =
    ap (λ rs. rs ∷ map (λ ls. map f ls) now) (at 0) ∙ ap (λ rs. map f ms ∷ rs) (same_rests f now before (omega arith) (λ p. at (suc p)))

pub rests_of : {L R : Type 0} (put : ℕ → L → L) (rest : L → R) (acts : ℕ → Actor → Bool) (order : List Actor) (before now : List (List L))
    → ((stamp : ℕ) (line : L) → rest (put stamp line) ≡ rest line) → AreStamped put acts order before now → map (λ ls. map rest ls) now ≡ map (λ ls. map rest ls) before
rests_of put rest acts order before now same k =
    same_rests rest now before k.lists (λ p. ap (λ ls. map rest ls) (k.lines p) ∙ stamped_rest put rest same (places (acts p) order) (get_or before p []))

pub stamps_at : {L : Type 0} (put : ℕ → L → L) (stamp_of : L → ℕ) (acts : ℕ → Actor → Bool) (order : List Actor) (before now : List (List L))
    → ((stamp : ℕ) (line : L) → stamp_of (put stamp line) ≡ stamp) → ((p : ℕ) → count_by (acts p) order ≡ length (get_or before p [])) → AreStamped put acts order before now
    → (p : ℕ) → get_or (map (λ ls. map stamp_of ls) now) p [] ≡ places (acts p) order
stamps_at put stamp_of acts order before now is counts k p =
    map_get stamp_of now p
    ∙ (ap (λ ls. map stamp_of ls) (k.lines p)
    ∙ stamped_stamps put stamp_of is (places (acts p) order) (get_or before p []) (places_length 0 (acts p) order ∙ counts p))
