-- Laws of texts that share a digest, and of the least of some values.
use Rattle.std.proofs.Common.{Bor, ◌≡◌, ◌≢◌, ◌⊎◌, ℕ, ◌+◌, ◌<◌, Bool, true, false, cond, List, [], ◌∷◌, ◌++◌, length, take, drop, get_or, map, Contains, Option, None, Some, IfSome, IfNone, IsSomeAnd, MatchOption, option_copied, Result, Ok, Err, IfOk, Ordering, Less, Equal, Greater, is_lt, is_eq, nat_cmp, inl, inr, ⊎_elim, refl, sym, ap, subst, ◌∙◌, arith, take-append-drop, bytes_eq, not}
use Rattle.std.specs.Cmp.{IsTotalOrder, Equal-is}
use Rattle.std.specs.Ordering.{ord_min, ordering_reverse}
use Rattle.std.specs.Cmp.Lexicographic.{slice_cmp}
use Rattle.std.proofs.lemmas.Bool.{false≢true}
use Rattle.std.proofs.lemmas.Cmp.{tied_itself, nat_list_cmp_total, on_total, then_total}
use Rattle.std.proofs.lemmas.List.{get_or-map, length-map, take_more}
use Rattle.std.proofs.lemmas.Slice.Eq.{bytes_eq-Decides}
use Rattle.std.proofs.lemmas.List.Elements.{Contains-append_left, Contains-push, Contains-push_cases}
use Rattle.std.proofs.lemmas.Map.Lookups.{exact_bytes}
use Rattle.sha2.specs.Sha256.{sha256}
use Rattle.least_collision.specs.declared.collision.Collision.{Collision}
use Rattle.least_collision.specs.Collision.{DigestedText, digested_text, IsCollision, NoCollision, pair_cmp, IsLeastPair, IsLeastCollision, IsGiven, ShareDigest, NoneShareDigest, IsPartner}

-- what a borrow shows
abbrev pub bytes_of : Bor (List ℕ) → List ℕ
bytes_of text = text.now

-- what a test of bytes shows

pub equal_from_test : (a b : List ℕ) (r : Bool) → r ≡ bytes_eq a b → r ≡ true → a ≡ b
equal_from_test a b r is e = (bytes_eq-Decides a b).0 (sym is ∙ e)

pub apart_from_test : (a b : List ℕ) (r : Bool) → r ≡ bytes_eq a b → r ≡ false → a ≢ b
apart_from_test a b r is e same = false≢true (sym e ∙ is ∙ (bytes_eq-Decides a b).1 same)

pub equal_unless : (a b : List ℕ) → ((a ≢ b) → ⊥) → a ≡ b
equal_unless a b h = by (bytes_eq a b) refl
  where
    by : (r : Bool) → r ≡ bytes_eq a b → a ≡ b
    by true is = equal_from_test a b true is refl
    by false is = absurd (h (apart_from_test a b false is refl))

pub equal_from_not : (a b : List ℕ) (r : Bool) → r ≡ not (bytes_eq a b) → r ≡ false → a ≡ b
equal_from_not a b r is e = equal_unless a b (λ apart. by (bytes_eq a b) refl apart)
  where
    by : (t : Bool) → t ≡ bytes_eq a b → a ≢ b → ⊥
    by true at apart = apart (equal_from_test a b true at refl)
    by false at apart = false≢true (sym e ∙ is ∙ ap not (sym at))

pub apart_from_not : (a b : List ℕ) (r : Bool) → r ≡ not (bytes_eq a b) → r ≡ true → a ≢ b
apart_from_not a b r is e same = false≢true (sym (is ∙ ap not ((bytes_eq-Decides a b).1 same)) ∙ e)

-- ---- the text that is known for a digest

-- none of these is given with the digest, or this one is, and no other
abbrev pub Known : List DigestedText → List ℕ → Option (List ℕ) → Type 0
Known given digest None = (text : List ℕ) → IsGiven given digest text → ⊥
Known given digest (Some known) = IsGiven given digest known × ((text : List ℕ) → IsGiven given digest text → text ≡ known)

pub Known_nil : (digest : List ℕ) → Known [] digest None
Known_nil digest text here = absurd (omega (arith, here.1))

module _ (given : List DigestedText) (item : DigestedText) where
  Known_here : (known : Option (List ℕ)) → Known given item.digest known → IfSome known (λ text. text ≡ item.text) → Known (given ++ item ∷ []) item.digest (Some item.text)
  Known_here None unknown same =
      (Contains-push given item, λ text here. ⊎_elim (λ before. absurd (unknown text before)) (λ e. sym (ap (λ (d : DigestedText). d.text) e)) (Contains-push_cases given item _ here))
  Known_here (Some known) h same =
      (Contains-push given item, λ text here. ⊎_elim (λ before. h.1 text before ∙ same) (λ e. sym (ap (λ (d : DigestedText). d.text) e)) (Contains-push_cases given item _ here))

  Known_apart : (digest : List ℕ) (known : Option (List ℕ)) → item.digest ≢ digest → Known given digest known → Known (given ++ item ∷ []) digest known
  Known_apart digest None apart unknown =
      λ text here. ⊎_elim (unknown text) (λ e. apart (ap (λ (d : DigestedText). d.digest) e)) (Contains-push_cases given item _ here)
  Known_apart digest (Some known) apart h =
      (Contains-append_left given (item ∷ []) _ h.0, λ text here. ⊎_elim (h.1 text) (λ e. absurd (apart (ap (λ (d : DigestedText). d.digest) e))) (Contains-push_cases given item _ here))

  by_test : (digest : List ℕ) (here : Bool) → is_eq (slice_cmp nat_cmp item.digest digest) ≡ here → (known : Option (List ℕ)) → Known given digest known → (here ≡ true → IfSome known (λ text. text ≡ item.text)) → Known (given ++ item ∷ []) digest (cond here (Some item.text) known)
  by_test digest true e known h same =
      let alike : item.digest ≡ digest = exact_bytes _ _ ((Equal-is (slice_cmp nat_cmp item.digest digest)).0 e) in
      subst (λ d. Known (given ++ item ∷ []) d (Some item.text)) alike (Known_here known (subst (λ d. Known given d known) (sym alike) h) (same refl))
  by_test digest false e known h same =
      Known_apart digest known (λ alike. false≢true (sym e ∙ (Equal-is (slice_cmp nat_cmp item.digest digest)).1 (subst (λ d. slice_cmp nat_cmp item.digest d ≡ Equal) alike (tied_itself nat_list_cmp_total item.digest)))) h

  -- one more text, put at its digest where the text before it was equal
  pub Known_push : (before after : List ℕ → Option (List ℕ)) → ((digest : List ℕ) → after digest ≡ cond (is_eq (slice_cmp nat_cmp item.digest digest)) (Some item.text) (before digest)) → IfSome (before item.digest) (λ text. text ≡ item.text) → ((digest : List ℕ) → Known given digest (before digest)) → (digest : List ℕ) → Known (given ++ item ∷ []) digest (after digest)
  Known_push before after put same h digest =
      subst (Known (given ++ item ∷ []) digest) (sym (put digest)) (by_test digest (is_eq (slice_cmp nat_cmp item.digest digest)) refl (before digest) (h digest) (λ e. let alike : item.digest ≡ digest = exact_bytes _ _ ((Equal-is (slice_cmp nat_cmp item.digest digest)).0 e) in subst (λ d. IfSome (before d) (λ text. text ≡ item.text)) alike same))

-- what a map of borrows shows once one more text is put at its digest
pub put_shows : (item : DigestedText) (before after : List ℕ → Option (Bor (List ℕ))) (digest : List ℕ) (text : Bor (List ℕ)) → digest ≡ item.digest → text.now ≡ item.text → ((q : List ℕ) → after q ≡ cond (is_eq (slice_cmp nat_cmp digest q)) (Some text) (before q)) → (q : List ℕ) → option_copied (after q) ≡ cond (is_eq (slice_cmp nat_cmp item.digest q)) (Some item.text) (option_copied (before q))
put_shows item before after digest text same_digest same_text put q =
    ap option_copied (put q) ∙ by (is_eq (slice_cmp nat_cmp digest q)) (before q)
    ∙ ap (λ t. cond (is_eq (slice_cmp nat_cmp digest q)) (Some t) (option_copied (before q))) same_text
    ∙ ap (λ d. cond (is_eq (slice_cmp nat_cmp d q)) (Some item.text) (option_copied (before q))) same_digest
  where
    by : (b : Bool) (o : Option (Bor (List ℕ))) → option_copied (cond b (Some text) o) ≡ cond b (Some text.now) (option_copied o)
    by true o = refl
    by false o = refl

-- where a text is known for each digest, no two share one
pub none_share : (given : List DigestedText) (known : List ℕ → Option (List ℕ)) → ((digest : List ℕ) → Known given digest (known digest)) → NoneShareDigest given
none_share given known h digest one other p q = by (known digest) (h digest)
  where
    by : (o : Option (List ℕ)) → Known given digest o → one ≡ other
    by None unknown = absurd (unknown one p)
    by (Some text) k = k.1 one p ∙ sym (k.1 other q)

pub Contains-from_take : {X : Type 0} (xs : List X) (i : ℕ) (x : X) → Contains (take i xs) x → Contains xs x
Contains-from_take xs i x here = subst (λ ys. Contains ys x) (take-append-drop i xs) (Contains-append_left (take i xs) (drop i xs) x here)

-- ---- the least of some values, in the order of what they show

module _ {V A : Type 0} (shown : V → A) (R : A → A → Ordering) (total : IsTotalOrder R) where
  -- none is among them, or this one is and none comes before it
  abbrev pub IsLeast : (A → Type 0) → Option V → Type 0
  IsLeast Among found = MatchOption found ((a : A) → Among a → ⊥) (λ best. Among (shown best) × ((a : A) → Among a → R a (shown best) ≢ Less))

  abbrev pub lesser : Option V → V → V
  lesser None new = new
  lesser (Some best) new = ord_min (λ x y. R (shown x) (shown y)) best new

  not_before : (a b c : A) → R a b ≢ Less → R b c ≢ Less → R a c ≢ Less
  not_before a b c p q r = by (R a b) refl
    where
      by : (o : Ordering) → R a b ≡ o → ⊥
      by Less e = p e
      by Equal e = q (sym (total.congr a b c e) ∙ r)
      by Greater e = q (total.trans b a c (total.antisymm b a ∙ ap ordering_reverse e) r)

  -- the same values
  pub IsLeast-same : (P Q : A → Type 0) (o : Option V) → ((a : A) → P a → Q a) → ((a : A) → Q a → P a) → IsLeast P o → IsLeast Q o
  IsLeast-same P Q None more less none = λ a q. none a (less a q)
  IsLeast-same P Q (Some best) more less h = (more (shown best) h.0, λ a q. h.1 a (less a q))

  -- more values, of which none comes before the new one
  pub IsLeast-more : (P Q : A → Type 0) (o : Option V) (new : V) → Q (shown new) → ((a : A) → P a → Q a) → ((a : A) → Q a → P a ⊎ (R a (shown new) ≢ Less)) → IsLeast P o → IsLeast Q (Some (lesser o new))
  IsLeast-more P Q None new here more less none =
      (here, λ a q. ⊎_elim (λ p. absurd (none a p)) (λ n. n) (less a q))
  IsLeast-more P Q (Some best) new here more less h = by (R (shown new) (shown best)) refl
    where
      by : (o : Ordering) → R (shown new) (shown best) ≡ o → IsLeast Q (Some (cond (is_lt (R (shown new) (shown best))) new best))
      by Less e = rw e (here, λ a q. ⊎_elim (λ p before. h.1 a p (total.trans a (shown new) (shown best) before e)) (λ n. n) (less a q))
      by Equal e = rw e (more _ h.0, λ a q. ⊎_elim (h.1 a) (λ n. not_before a (shown new) (shown best) n (λ l. cc)) (less a q))
      by Greater e = rw e (more _ h.0, λ a q. ⊎_elim (h.1 a) (λ n. not_before a (shown new) (shown best) n (λ l. cc)) (less a q))

-- one more element at the end of a front
pub take_push : {X : Type 0} (xs : List X) (i : ℕ) (x : X) → i < length xs → x ≡ get_or xs i x → take (i + 1) xs ≡ take i xs ++ x ∷ []
take_push xs i x within is = take_more xs i x within ∙ ap (λ y. take i xs ++ y ∷ []) (sym is)

-- a text that is known for a digest, and differs from another one with it
pub known_shares : (given : List DigestedText) (i : ℕ) (item : DigestedText) (known : Option (List ℕ)) → i < length given → item ≡ get_or given i item → Known (take i given) item.digest known → IsSomeAnd known (λ text. text ≢ item.text) → (one : List ℕ) × (other : List ℕ) × ShareDigest given one other
known_shares given i item None within is unknown differs = absurd differs
known_shares given i item (Some text) within is known differs = (
  text,
  item.text,
  record {
    digest = item.digest;
    one_given = Contains-from_take given i _ known.0;
    other_given = (i, within, sym is);
    differ = differs;
  },
)

-- ---- partners

module _ (front : List DigestedText) (item one : DigestedText) where
  IsPartner-more : (text : List ℕ) → IsPartner front one text → IsPartner (front ++ item ∷ []) one text
  IsPartner-more text h = (Contains-append_left front (item ∷ []) _ h.0, h.1)

  -- one more text, which is a partner
  pub partner_joins : (o : Option (Bor (List ℕ))) (new : Bor (List ℕ)) → new.now ≡ item.text → item.digest ≡ one.digest → item.text ≢ one.text → IsLeast bytes_of (slice_cmp nat_cmp) nat_list_cmp_total (IsPartner front one) o → IsLeast bytes_of (slice_cmp nat_cmp) nat_list_cmp_total (IsPartner (front ++ item ∷ []) one) (Some (lesser bytes_of (slice_cmp nat_cmp) nat_list_cmp_total o new))
  partner_joins o new is alike apart =
      IsLeast-more bytes_of (slice_cmp nat_cmp) nat_list_cmp_total (IsPartner front one) (IsPartner (front ++ item ∷ []) one) o new here IsPartner-more less
    where
      here : IsPartner (front ++ item ∷ []) one new.now
      here = rw is (subst (λ d. IsGiven (front ++ item ∷ []) d item.text) alike (Contains-push front item), apart)

      less : (text : List ℕ) → IsPartner (front ++ item ∷ []) one text → IsPartner front one text ⊎ (slice_cmp nat_cmp text new.now ≢ Less)
      less text h = ⊎_elim (λ before. inl (before, h.1)) (λ e. inr (λ l. not_itself (sym (ap (λ (d : DigestedText). d.text) e) ∙ sym is) l)) (Contains-push_cases front item _ h.0)
        where
          not_itself : text ≡ new.now → slice_cmp nat_cmp text new.now ≡ Less → ⊥
          not_itself same l = let tied : slice_cmp nat_cmp text new.now ≡ Equal = subst (λ t. slice_cmp nat_cmp text t ≡ Equal) same (tied_itself nat_list_cmp_total text) in cc

  -- one more text, which is none
  pub partner_passes : (o : Option (Bor (List ℕ))) → (item.digest ≡ one.digest → item.text ≢ one.text → ⊥) → IsLeast bytes_of (slice_cmp nat_cmp) nat_list_cmp_total (IsPartner front one) o → IsLeast bytes_of (slice_cmp nat_cmp) nat_list_cmp_total (IsPartner (front ++ item ∷ []) one) o
  partner_passes o none =
      IsLeast-same bytes_of (slice_cmp nat_cmp) nat_list_cmp_total (IsPartner front one) (IsPartner (front ++ item ∷ []) one) o IsPartner-more
      (λ text h. (⊎_elim (λ before. before) (λ e. absurd (none (ap (λ (d : DigestedText). d.digest) e) (λ same. h.1 (sym (ap (λ (d : DigestedText). d.text) e) ∙ same)))) (Contains-push_cases front item _ h.0), h.1))

-- ---- pairs

-- what a pair shows
abbrev pub pair_of : Collision → List ℕ × List ℕ
pair_of pair = (pair.one.now, pair.other.now)

abbrev pub pairs_cmp : List ℕ × List ℕ → List ℕ × List ℕ → Ordering
pairs_cmp a b = pair_cmp a.0 a.1 b.0 b.1

pub pairs_total : IsTotalOrder pairs_cmp
pairs_total = then_total (on_total (λ (p : List ℕ × List ℕ). p.0) nat_list_cmp_total) (on_total (λ (p : List ℕ × List ℕ). p.1) nat_list_cmp_total)

-- two different texts are given with one digest, the first of them in front
abbrev pub StartsIn : List DigestedText → List DigestedText → List ℕ × List ℕ → Type 0
StartsIn front given pair = (digest : List ℕ) × IsGiven front digest pair.0 × IsGiven given digest pair.1 × (pair.0 ≢ pair.1)

module _ (front given : List DigestedText) (item : DigestedText) where
  StartsIn-more : (pair : List ℕ × List ℕ) → StartsIn front given pair → StartsIn (front ++ item ∷ []) given pair
  StartsIn-more pair h = (h.0, Contains-append_left front (item ∷ []) _ h.1, h.2, h.3)

  -- the pair begins in front, or with the item
  StartsIn-cases : (pair : List ℕ × List ℕ) → StartsIn (front ++ item ∷ []) given pair → StartsIn front given pair ⊎ ((pair.0 ≡ item.text) × IsPartner given item pair.1)
  StartsIn-cases pair h =
      ⊎_elim
      (λ before. inl (h.0, before, h.2, h.3))
      (λ e.
      let first : pair.0 ≡ item.text = sym (ap (λ (d : DigestedText). d.text) e) in
      inr (first, (subst (λ d. IsGiven given d pair.1) (sym (ap (λ (d : DigestedText). d.digest) e)) h.2, λ same. h.3 (first ∙ sym same))))
      (Contains-push_cases front item _ h.1)

  -- one more text, with its least partner
  pub pair_joins : (o : Option Collision) (new : Collision) → new.one.now ≡ item.text → IsPartner given item new.other.now → ((text : List ℕ) → IsPartner given item text → slice_cmp nat_cmp text new.other.now ≢ Less) → IsLeast pair_of pairs_cmp pairs_total (StartsIn front given) o → IsLeast pair_of pairs_cmp pairs_total (StartsIn (front ++ item ∷ []) given) (Some (lesser pair_of pairs_cmp pairs_total o new))
  pair_joins o new is partner least =
      IsLeast-more pair_of pairs_cmp pairs_total (StartsIn front given) (StartsIn (front ++ item ∷ []) given) o new
      (item.digest, subst (λ t. IsGiven (front ++ item ∷ []) item.digest t) (sym is) (Contains-push front item), partner.0, λ same. partner.1 (sym same ∙ is))
      StartsIn-more
      (λ pair h. ⊎_elim (λ before. inl before) (λ begins. inr (λ before. least pair.1 begins.1 (second pair.0 pair.1 (begins.0 ∙ sym is) before))) (StartsIn-cases pair h))
    where
      second : (a b : List ℕ) → a ≡ new.one.now → pair_cmp a b new.one.now new.other.now ≡ Less → slice_cmp nat_cmp b new.other.now ≡ Less
      second a b same before =
          let tied : slice_cmp nat_cmp a new.one.now ≡ Equal = subst (λ t. slice_cmp nat_cmp a t ≡ Equal) same (tied_itself nat_list_cmp_total a) in
          rw tied at before

  -- one more text, with no partner
  pub pair_passes : (o : Option Collision) → ((text : List ℕ) → IsPartner given item text → ⊥) → IsLeast pair_of pairs_cmp pairs_total (StartsIn front given) o → IsLeast pair_of pairs_cmp pairs_total (StartsIn (front ++ item ∷ []) given) o
  pair_passes o none =
      IsLeast-same pair_of pairs_cmp pairs_total (StartsIn front given) (StartsIn (front ++ item ∷ []) given) o StartsIn-more
      (λ pair h. ⊎_elim (λ before. before) (λ begins. absurd (none pair.1 begins.1)) (StartsIn-cases pair h))

-- once every text may come first
pub least_shares : (given : List DigestedText) (o : Option Collision) → IsLeast pair_of pairs_cmp pairs_total (StartsIn given given) o → MatchOption o (NoneShareDigest given) (λ pair. IsLeastPair (ShareDigest given) pair.one.now pair.other.now)
least_shares given None none =
    λ digest one other p q. equal_unless one other (λ differ. none (one, other) (digest, p, q, differ))
least_shares given (Some pair) h = record {
  kind = record {
    digest = h.0.0;
    one_given = h.0.1;
    other_given = h.0.2;
    differ = h.0.3;
  };
  least = λ first second k. h.1 (first, second) (k.digest, k.one_given, k.other_given, k.differ);
}

-- ---- texts beside their SHA-256 digests

given_of : (texts : List (List ℕ)) (text : List ℕ) → Contains texts text → IsGiven (map digested_text texts) (sha256 text) text
given_of texts text h =
    (h.0, subst (λ n. h.0 < n) (sym (length-map texts digested_text)) h.1, get_or-map digested_text texts h.0 text (digested_text text) h.1 ∙ ap digested_text h.2)

of_given : (texts : List (List ℕ)) (digest text : List ℕ) → IsGiven (map digested_text texts) digest text → Contains texts text × (sha256 text ≡ digest)
of_given texts digest text h =
    let within : h.0 < length texts = subst (λ n. h.0 < n) (length-map texts digested_text) h.1 in
    let same : digested_text (get_or texts h.0 text) ≡ record { digest = digest; text = text } = sym (get_or-map digested_text texts h.0 text _ within) ∙ h.2 in
    let there : get_or texts h.0 text ≡ text = ap (λ (d : DigestedText). d.text) same in
    ((h.0, within, there), ap sha256 (sym there) ∙ ap (λ (d : DigestedText). d.digest) same)

module _ (texts : List (List ℕ)) where
  collision_shares : (one other : List ℕ) → IsCollision texts one other → ShareDigest (map digested_text texts) one other
  collision_shares one other h = record {
    digest = sha256 one;
    one_given = given_of texts one h.one_stands;
    other_given = subst (λ d. IsGiven (map digested_text texts) d other) (sym h.one_digest) (given_of texts other h.other_stands);
    differ = h.differ;
  }

  shares_collision : (one other : List ℕ) → ShareDigest (map digested_text texts) one other → IsCollision texts one other
  shares_collision one other h =
      let first = of_given texts h.digest one h.one_given in
      let second = of_given texts h.digest other h.other_given in
      record {
        one_stands = first.0;
        other_stands = second.0;
        differ = h.differ;
        one_digest = first.1 ∙ sym second.1;
      }

  pub none_collides : NoneShareDigest (map digested_text texts) → NoCollision texts
  none_collides none one other p q same =
      none (sha256 one) one other (given_of texts one p) (subst (λ d. IsGiven (map digested_text texts) d other) (sym same) (given_of texts other q))

  pub least_collides : (one other : List ℕ) → IsLeastPair (ShareDigest (map digested_text texts)) one other → IsLeastCollision texts one other
  least_collides one other h = record {
    kind = shares_collision one other h.kind;
    least = λ first second k. h.least first second (collision_shares first second k);
  }

-- what the search among given digests says of the texts

pub none_of_texts : {E : Type 0} (texts : List (List ℕ)) (given : List DigestedText) (r : Result (Option Collision) E) → given ≡ map digested_text texts → IfOk r (λ found. IfNone found (NoneShareDigest given)) → IfOk r (λ found. IfNone found (NoCollision texts))
none_of_texts texts given (Ok None) e h = none_collides texts (subst NoneShareDigest e h)
none_of_texts texts given (Ok (Some pair)) e h = tt
none_of_texts texts given (Err error) e h = tt

pub least_of_texts : {E : Type 0} (texts : List (List ℕ)) (given : List DigestedText) (r : Result (Option Collision) E) → given ≡ map digested_text texts → IfOk r (λ found. IfSome found (λ pair. IsLeastPair (ShareDigest given) pair.one.now pair.other.now)) → IfOk r (λ found. IfSome found (λ pair. IsLeastCollision texts pair.one.now pair.other.now))
least_of_texts texts given (Ok None) e h = tt
least_of_texts texts given (Ok (Some pair)) e h =
    least_collides texts pair.one.now pair.other.now (subst (λ g. IsLeastPair (ShareDigest g) pair.one.now pair.other.now) e h)
least_of_texts texts given (Err error) e h = tt
