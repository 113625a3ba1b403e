use Rattle.std.proofs.Common.{◌≡◌, ◌∙◌, ◌≤◌, sym, ap, subst, length, take, ℕ, List, IfOk, arith}
use Rattle.std.proofs.lemmas.List.{length-take, take_all}
use Rattle.fault_script.specs.Seen.{commands_of}
use Rattle.fault_script.specs.Spelling.{text_of, whole_text}
use Rattle.fault_script.proofs.script.write_within.Goals as goal

all_of : (n : ℕ) (xs : List ℕ) → length xs ≤ length (take n xs) → xs ≡ take n xs
all_of n xs h = sym (take_all n xs (omega (arith, h, length-take n xs)))

at_front : (n : ℕ) (kept bytes text whole : List ℕ) → kept ≡ take n bytes → bytes ≡ text → text ≡ whole → kept ≡ take n whole
at_front n kept bytes text whole k b t = k ∙ ap (take n) (b ∙ t)

kept_all : (n : ℕ) (kept bytes other text whole : List ℕ) → kept ≡ take n bytes → bytes ≡ text → other ≡ text → text ≡ whole → length other ≤ length kept → text ≡ take n whole
kept_all n kept bytes other text whole k b o t le =
    let same : kept ≡ take n text = k ∙ ap (take n) b in
    all_of n text (omega (arith, le, ap length o, ap length same)) ∙ ap (take n) t

pub returns-then-kept-bytes : goal.returns-then-kept-bytes
unfolding text_of
returns-then-kept-bytes c =
    let P : List ℕ → Type 0 = λ bytes. IfOk c.of.result (λ text. text.bytes ≡ bytes) in
    subst P (at_front 1048576 c.front-kept.result.now c.bytes.result.now c.in_ok-text.text.bytes (whole_text (commands_of c.args.lines.now)) c.front-kept.ensures c.bytes.ensures c.in_ok-text.ensures) c.of.ensures.copied

pub returns : goal.returns
unfolding text_of
returns c =
    kept_all 1048576 c.front-kept.result.now c.bytes.result.now c.bytes-2.result.now c.in_ok-text.text.bytes (whole_text (commands_of c.args.lines.now)) c.front-kept.ensures c.bytes.ensures c.bytes-2.ensures c.in_ok-text.ensures c.if-kept-bytes.false
