use Rattle.std.proofs.Common.{ℕ, ◌<◌, ◌≤◌, arith}
use Rattle.std.specs.Prelude.{IsTrue, nat_lt}
use Rattle.std.proofs.lemmas.Bool.Decides.{nat_tests}
use Rattle.path_print.proofs.Halves.{half_of_smaller, even_back, even_there, odd_back, odd_there}
use Rattle.path_print.proofs.arm.is_back_lesser.Goals as goal

is_below : (a b : ℕ) → IsTrue (nat_lt a b) → a < b
is_below a b h = grind (arith, nat_tests)

is_above : (a b : ℕ) → (IsTrue (nat_lt a b) → ⊥) → b ≤ a
is_above a b h = grind (arith, nat_tests)

pub overflow_mul-result : goal.overflow_mul-result
overflow_mul-result c =
    let small = half_of_smaller c.args.behind c.args.last.now (omega arith) c.requires.last in
    omega arith

pub overflow_add-result : goal.overflow_add-result
overflow_add-result c =
    let small = half_of_smaller c.args.behind c.args.last.now (omega arith) c.requires.last in
    omega arith

pub overflow_add-result-else-before-behind : goal.overflow_add-result-else-before-behind
overflow_add-result-else-before-behind c =
    let small = half_of_smaller c.args.behind c.args.last.now (omega arith) c.requires.last in
    omega arith

pub returns-then-before-behind-clause-yes : goal.returns-then-before-behind-clause-yes
returns-then-before-behind-clause-yes c lt js ks sj sk ha hb =
    even_back c.args.label c.args.first.now c.args.last.now js ks (omega arith) ha hb (is_below _ _ lt)

pub returns-then-before-behind-clause-no : goal.returns-then-before-behind-clause-no
returns-then-before-behind-clause-no c le js ks sj sk ha hb =
    even_there c.args.label c.args.first.now c.args.last.now js ks (omega arith) ha hb (is_above _ _ le)

pub returns-else-before-behind-clause-yes : goal.returns-else-before-behind-clause-yes
returns-else-before-behind-clause-yes c lt js ks sj sk ha hb =
    let low = is_below _ _ lt in
    odd_back c.args.label c.args.first.now c.args.last.now (omega arith) (omega arith) js ks (omega arith) (omega arith)
    ha hb (omega arith)

pub returns-else-before-behind-clause-no : goal.returns-else-before-behind-clause-no
returns-else-before-behind-clause-no c le js ks sj sk ha hb =
    let high = is_above _ _ le in
    odd_there c.args.label c.args.first.now c.args.last.now (omega arith) (omega arith) js ks (omega arith)
    (omega arith) ha hb (omega arith)
