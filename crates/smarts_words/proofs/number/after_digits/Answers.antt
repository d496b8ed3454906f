use Rattle.std.proofs.Common.{◌≡◌, ◌≤◌, length, ◌∙◌, sym, subst, List, ℕ, arith}
use Rattle.std.proofs.lemmas.Bool.Decides.{nat_tests}
use Rattle.smarts_words.proofs.Numbers.{same_digits}
use Rattle.smarts_words.proofs.Digits.{no_digit}
use Rattle.smarts_words.proofs.number.after_digits.Goals as goal

pub returns-then-is_empty-clause-only : goal.returns-then-is_empty-clause-only
returns-then-is_empty-clause-only c digits rest some are follows h =
    let e = c.digits_at.ensures in
    let none : length c.digits_at.result.0.now ≡ 0 = grind (arith, nat_tests) in
    let same = (same_digits c.digits_at.result.0.now digits c.digits_at.result.1.now rest e.digits are
    (no_digit c.digits_at.result.1.now e.all) follows
    (sym e.split ∙ h)).0 in
    let l = subst (λ (v : List ℕ). length v ≡ 0) same none in
    absurd (omega arith)

pub returns-clause-found : goal.returns-clause-found
returns-clause-found c =
    let e = c.digits_at.ensures in
    let some : 1 ≤ length c.digits_at.result.0.now = grind (arith, nat_tests) in
    (c.digits_at.result.0.now, some, e.digits, e.split)

pub returns-clause-only : goal.returns-clause-only
returns-clause-only c digits rest some are follows h =
    let e = c.digits_at.ensures in
    (same_digits c.digits_at.result.0.now digits c.digits_at.result.1.now rest e.digits are
    (no_digit c.digits_at.result.1.now e.all) follows (sym e.split
    ∙ h)).1
