-- What an outcome of the table keeps, and what follows for a list of lines.
use Rattle.std.proofs.Common.{◌≡◌, ℕ, ◌+◌, ◌<◌, ◌≤◌, Bool, List, [], ◌∷◌, ◌++◌, ◌⊎◌, inl, inr, length, Option, Some, None, refl, sym, ap, subst, ◌∙◌, arith}
use Rattle.std.specs.Prelude.{max}
use Rattle.statement.specs.declared.member.Member.{Member}
use Rattle.statement.specs.declared.statement.Statement.{Statement}
use Rattle.statement.specs.declared.statement.Statement.TheVariants.{Held}
use Rattle.port.specs.Call.{Call}
use Rattle.port.specs.Answer.{Answer, Done, Signed, Finaled, Shown, Refused, kept}
use Rattle.port.specs.Table.{View, State, Uninitialized, Active, Cell, Answers, Signs, cell, outcome}
use Rattle.endorser_core.specs.Shown.{row_of, kept_size, sig_size}
use Rattle.endorser_core.specs.Line.{Line, sig_of, state_after, replay_from, IsLawfulAt, IsLawfulFrom}
use Rattle.endorser_core.specs.Laws.{rank, count_of, IsSignedIn}
use Rattle.endorser_core.proofs.Cells.{SetLaw, Keeps, OneMore, IsHeldAt, IsUnsigned, Quiet, Signing, Good, good, stays, one_stays}

pub keeps : (before : State) (c : Cell) → Good before c → (sig : Option (List ℕ)) → Keeps before (outcome before c sig).0
keeps before (Answers state answer) g sig = g.keeps
keeps before (Signs statement state answer) g None = stays before
keeps before (Signs statement state answer) g (Some sig) = (g sig).keeps

pub one : (before : State) (c : Cell) → Good before c → (sig : Option (List ℕ)) → OneMore before (outcome before c sig).0
one before (Answers state answer) g sig = g.one
one before (Signs statement state answer) g None = one_stays before
one before (Signs statement state answer) g (Some sig) = (g sig).one

pub is_held : (before : State) (c : Cell) (sig : Option (List ℕ)) (statement : Statement) (signature : List ℕ) → Good before c
    → (outcome before c sig).1 ≡ Signed statement signature → IsHeldAt statement (outcome before c sig).0
is_held before (Answers state answer) sig statement signature g e = absurd (subst IsUnsigned e g.unsigned)
is_held before (Signs asked state answer) None statement signature g e = absurd cc
is_held before (Signs asked state answer) (Some sig) statement signature g e =
    let both : Signed asked sig ≡ Signed statement signature = sym (g sig).signed ∙ e in
    let same : asked ≡ statement = cc in
    subst (λ (s : Statement). IsHeldAt s (state sig)) same (g sig).held

-- ---- one line

unkept : (answer : Answer) (statement : Statement) (sig : List ℕ) → kept answer ≡ Signed statement sig → answer ≡ Signed statement sig
unkept Done statement sig e = absurd cc
unkept (Signed statement' sig') statement sig e = e
unkept (Finaled statement' sig' map) statement sig e = absurd cc
unkept (Shown phase number tail count) statement sig e = absurd cc
unkept (Refused denial) statement sig e = absurd cc

line_keeps : SetLaw → (me : Member) (state : State) (line : Line) → Keeps state (state_after me state line)
line_keeps law me state line = keeps state (cell me state line.call) (good law me state line.call) (sig_of line.answer)

line_holds : SetLaw → (accepts : List ℕ → List ℕ → List ℕ → Bool) (me : Member) (state : State) (line : Line) (statement : Statement) (sig : List ℕ)
    → IsLawfulAt accepts me state line → line.answer ≡ Signed statement sig → IsHeldAt statement (state_after me state line)
line_holds law accepts me state line statement sig lawful e =
    is_held state (cell me state line.call) (sig_of line.answer) statement sig (good law me state line.call) (unkept _ statement sig (lawful.answer ∙ e))

-- ---- all lines: what is held at the end is held from some line on

record Bounds (state : State) (handle tail : List ℕ) (count : ℕ) : Type 0 where
  under : count_of state handle ≤ count
  same : count_of state handle ≡ count → row_of state handle ≡ (tail, count)

held_now : SetLaw → (me : Member) (state : State) (line : Line) (handle tail : List ℕ) (count : ℕ) → row_of (state_after me state line) handle ≡ (tail, count) → 0 < count → Bounds state handle tail count
held_now law me state line handle tail count row some =
    let k : Keeps state (state_after me state line) = line_keeps law me state line in
    let after : count_of (state_after me state line) handle ≡ count = ap (λ (r : List ℕ × ℕ). r.1) row in
    let never : count_of state handle ≤ count_of (state_after me state line) handle = k.never handle in
    record { under = omega arith; same = λ e. sym (k.same handle (after ∙ sym e) (omega arith)) ∙ row }

held_later : SetLaw → (me : Member) (state : State) (line : Line) (handle tail : List ℕ) (count : ℕ) → Bounds (state_after me state line) handle tail count → 0 < count → Bounds state handle tail count
held_later law me state line handle tail count b some =
    let k : Keeps state (state_after me state line) = line_keeps law me state line in
    let never : count_of state handle ≤ count_of (state_after me state line) handle = k.never handle in
    let under : count_of (state_after me state line) handle ≤ count = b.under in
    record {
      under = omega arith;
      same = λ e. let after : count_of (state_after me state line) handle ≡ count = omega arith in sym (k.same handle (after ∙ sym e) (omega arith)) ∙ b.same after;
    }

some_count : SetLaw → (accepts : List ℕ → List ℕ → List ℕ → Bool) (me : Member) (state : State) (lines : List Line) (view handle tail : List ℕ) (count : ℕ)
    → IsLawfulFrom accepts me state lines → IsSignedIn lines (Held view handle tail count) → 0 < count
some_count law accepts me state [] view handle tail count lawful signed = absurd signed
some_count law accepts me state (line ∷ lines) view handle tail count lawful signed =
    elim signed [
      | inl now ↦ (line_holds law accepts me state line (Held view handle tail count) now.0 lawful.0 now.1).1
      | inr later ↦ some_count law accepts me (state_after me state line) lines view handle tail count lawful.1 later
    ]

bounds : SetLaw → (accepts : List ℕ → List ℕ → List ℕ → Bool) (me : Member) (state : State) (lines : List Line) (view handle tail : List ℕ) (count : ℕ)
    → IsLawfulFrom accepts me state lines → IsSignedIn lines (Held view handle tail count) → Bounds state handle tail count
bounds law accepts me state [] view handle tail count lawful signed = absurd signed
bounds law accepts me state (line ∷ lines) view handle tail count lawful signed =
    elim signed [
      | inl now ↦ (let held = line_holds law accepts me state line (Held view handle tail count) now.0 lawful.0 now.1 in held_now law me state line handle tail count held.0 held.1)
      | inr later ↦ held_later law me state line handle tail count
          (bounds law accepts me (state_after me state line) lines view handle tail count lawful.1 later)
          (some_count law accepts me (state_after me state line) lines view handle tail count lawful.1 later)
    ]

-- one of the two is signed in the first line
first_of_two : SetLaw → (accepts : List ℕ → List ℕ → List ℕ → Bool) (me : Member) (state : State) (line : Line) (lines : List Line) (view handle tail tail' : List ℕ) (count : ℕ)
    → IsLawfulAt accepts me state line → IsLawfulFrom accepts me (state_after me state line) lines
    → (sig : List ℕ) → line.answer ≡ Signed (Held view handle tail count) sig → IsSignedIn lines (Held view handle tail' count) → tail ≡ tail'
first_of_two law accepts me state line lines view handle tail tail' count now later sig e signed =
    let held = line_holds law accepts me state line (Held view handle tail count) sig now e in
    let b = bounds law accepts me (state_after me state line) lines view handle tail' count later signed in
    let both : (tail, count) ≡ (tail', count) = sym held.0 ∙ b.same (ap (λ (r : List ℕ × ℕ). r.1) held.0) in
    ap (λ (r : List ℕ × ℕ). r.0) both

pub one_tail : SetLaw → (accepts : List ℕ → List ℕ → List ℕ → Bool) (me : Member) (state : State) (lines : List Line) (view handle tail tail' : List ℕ) (count : ℕ)
    → IsLawfulFrom accepts me state lines → IsSignedIn lines (Held view handle tail count) → IsSignedIn lines (Held view handle tail' count) → tail ≡ tail'
one_tail law accepts me state [] view handle tail tail' count lawful one other = absurd one
one_tail law accepts me state (line ∷ lines) view handle tail tail' count lawful one other =
    elim one [
      | inl now ↦ elim other [
        | inl too ↦ (let both : Signed (Held view handle tail count) now.0 ≡ Signed (Held view handle tail' count) too.0 = sym now.1 ∙ too.1 in cc)
        | inr later ↦ first_of_two law accepts me state line lines view handle tail tail' count lawful.0 lawful.1 now.0 now.1 later
      ]
      | inr later ↦ elim other [
        | inl too ↦ sym (first_of_two law accepts me state line lines view handle tail' tail count lawful.0 lawful.1 too.0 too.1 later)
        | inr too ↦ one_tail law accepts me (state_after me state line) lines view handle tail tail' count lawful.1 later too
      ]
    ]

-- ---- one more line

pub lawful_push : (accepts : List ℕ → List ℕ → List ℕ → Bool) (me : Member) (state : State) (lines : List Line) (line : Line)
    → IsLawfulFrom accepts me state lines → IsLawfulAt accepts me (replay_from me state lines) line → IsLawfulFrom accepts me state (lines ++ line ∷ [])
lawful_push accepts me state [] line all one = (one, tt)
lawful_push accepts me state (first ∷ lines) line all one = (all.0, lawful_push accepts me (state_after me state first) lines line all.1 one)

pub replay_push : (me : Member) (state : State) (lines : List Line) (line : Line) → replay_from me state (lines ++ line ∷ []) ≡ state_after me (replay_from me state lines) line
replay_push me state [] line = refl
replay_push me state (first ∷ lines) line = replay_push me (state_after me state first) lines line
