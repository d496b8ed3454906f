use Rattle.std.proofs.Common.{subst, sym, ⊎_elim}
use Rattle.smarts_parse.specs.Pattern.{term_of}
use Rattle.matcher.specs.Class.{MayBe}
use Rattle.matcher.proofs.Classes.{all_bits, and_both, or_one, or_two}
use Rattle.matcher.proofs.class.+classes_of.Goals as goal

pub returns-in-Not : goal.returns-in-Not
returns-in-Not t c = λ k l _. all_bits k l

pub returns-in-And : goal.returns-in-And
returns-in-And t c = λ k l h.
    let both = subst (λ e. MayBe (term_of e) k) c.in-And.is h in
    and_both _ _ k
    (c.classes_of.ensures k l (subst (λ e. MayBe (term_of e) k) (sym c.deref.ensures) both.0))
    (c.classes_of-in-And.ensures k l (subst (λ e. MayBe (term_of e) k) (sym c.deref-in-And.ensures) both.1))

pub returns-in-Or : goal.returns-in-Or
returns-in-Or t c = λ k l h. ⊎_elim
    (λ e. or_one _ _ k (c.classes_of-in-Or.ensures k l
    (subst (λ x. MayBe (term_of x) k) (sym c.deref-in-Or.ensures) e)))
    (λ e. or_two _ _ k (c.classes_of-in-Or-2.ensures k l
    (subst (λ x. MayBe (term_of x) k) (sym c.deref-in-Or-2.ensures) e)))
    (subst (λ e. MayBe (term_of e) k) c.in-Or.is h)
