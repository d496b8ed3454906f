use Rattle.std.proofs.Common.{rules, ◌≡◌, ◌≢◌, ◌<◌, ◌∙◌, List, [], ◌∷◌, add-one, arith, get_or, length, map, sym, ap, subst, take, zero, suc, ℕ}
use Rattle.std.proofs.lemmas.Bool.Decides.{nat_tests}
use Rattle.serve_ends.specs.declared.end.End.{End}
use Rattle.chem_shell.specs.Status.{first_fault}
use Rattle.chem_shell.proofs.outcome.first_fault.Goals as goal

fault_head : (n : ℕ) (ns : List ℕ) → n ≢ 0 → first_fault (n ∷ ns) ≡ n
fault_head n ns some = grind (arith, nat_tests, some)

fault_tail : (n : ℕ) (ns : List ℕ) → n ≡ 0 → first_fault (n ∷ ns) ≡ first_fault ns
fault_tail n ns none = grind (arith, nat_tests, none)

none_head : (n : ℕ) (ns : List ℕ) → first_fault (n ∷ ns) ≡ 0 → n ≡ 0
none_head n ns e = grind (arith, nat_tests, e)

-- where the first ends have no fault, that of the next is the first
first_at : {S K : Type 0} (ends : List (End S K)) (i : ℕ) (x : End S K) → i < length ends → x ≡ get_or ends i x
    → first_fault (map (λ end. end.status) (take i ends)) ≡ 0 → x.status ≢ 0
    → x.status ≡ first_fault (map (λ end. end.status) ends)
first_at [] i x less is none some = absurd (omega (arith, less))
first_at (end ∷ ends) zero x less is none some =
    let same = ap (λ (e : End _ _). e.status) is in
    same ∙ sym (fault_head end.status (map (λ end. end.status) ends) (λ e. some (same ∙ e)))
first_at (end ∷ ends) (suc i) x less is none some =
    let here = none_head end.status (map (λ end. end.status) (take i ends)) none in
    first_at ends i x (omega (arith, less)) is
    (sym (fault_tail end.status (map (λ end. end.status) (take i ends)) here) ∙ none) some
    ∙ sym (fault_tail end.status (map (λ end. end.status) ends) here)

first_more : {S K : Type 0} (ends : List (End S K)) (i : ℕ) (x : End S K) → i < length ends → x ≡ get_or ends i x
    → first_fault (map (λ end. end.status) (take i ends)) ≡ 0 → x.status ≡ 0
    → first_fault (map (λ end. end.status) (take (suc i) ends)) ≡ 0
first_more [] i x less is none fine = absurd (omega (arith, less))
first_more (end ∷ ends) zero x less is none fine =
    fault_tail end.status [] (sym (ap (λ (e : End _ _). e.status) is) ∙ fine)
first_more (end ∷ ends) (suc i) x less is none fine =
    let here = none_head end.status (map (λ end. end.status) (take i ends)) none in
    fault_tail end.status (map (λ end. end.status) (take (suc i) ends)) here
    ∙ first_more ends i x (omega (arith, less)) is
    (sym (fault_tail end.status (map (λ end. end.status) (take i ends)) here) ∙ none) fine

pub returns-then-end-ne-DONE : goal.returns-then-end-ne-DONE
returns-then-end-ne-DONE g c =
    first_at c.args.ends.now c.loop-end.end-index c.end-item.result c.loop-end-test.true c.end-item.is
    c.loop-end.invariant (search rules)

pub loop-end-preserved : goal.loop-end-preserved
loop-end-preserved g c =
    subst (λ k. first_fault (map (λ end. end.status) (take k c.args.ends.now)) ≡ 0)
    (sym (add-one c.loop-end.end-index))
    (first_more c.args.ends.now c.loop-end.end-index c.end-item.result c.loop-end-test.true c.end-item.is
    c.loop-end.invariant (search rules))
