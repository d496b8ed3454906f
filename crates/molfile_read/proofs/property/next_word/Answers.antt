use Rattle.std.proofs.Common.{◌≡◌, ◌<◌, [], length, sym, ap, ◌∙◌, arith, true, ◌==◌, ℕ, get_or, ◌≢◌, subst, List, Bool}
use Rattle.std.proofs.lemmas.Bool.{eqb-true}
use Rattle.std.proofs.lemmas.List.{nil_from_length}
use Rattle.std.proofs.lemmas.Bool.Decides.{nat_tests}
use Rattle.molfile_read.specs.Field.{after_blanks}
use Rattle.molfile_read.specs.Properties.{words}
use Rattle.molfile_read.proofs.Words.{words_after_blanks, first_no_blank, first_word}
use Rattle.molfile_read.proofs.property.next_word.Goals as goal

empty_is : (rest : List ℕ) (b : Bool) → b ≡ true → b ≡ (length rest == 0) → rest ≡ []
empty_is rest b e h = nil_from_length rest (eqb-true (length rest) 0 (sym h ∙ e))

pub returns-then-is_empty : goal.returns-then-is_empty
returns-then-is_empty c =
    sym (words_after_blanks c.args.text.now) ∙ ap words (sym c.after_blanks-rest.ensures
    ∙ empty_is c.after_blanks-rest.result.now c.is_empty.result c.if-is_empty.true c.is_empty.ensures)

pub returns : goal.returns
returns c =
    let rest = c.after_blanks-rest.result.now in
    let long : 0 < length rest = grind (arith, nat_tests) in
    let long' : 0 < length (after_blanks c.args.text.now) =
    subst (λ (w : List ℕ). 0 < length w) c.after_blanks-rest.ensures long in
    let first : get_or rest 0 0 ≢ 32 = λ e. first_no_blank c.args.text.now long'
    (ap (λ w. get_or w 0 0) (sym c.after_blanks-rest.ensures) ∙ e) in
    let here = sym (words_after_blanks c.args.text.now) ∙ ap words (sym c.after_blanks-rest.ensures)
    ∙ first_word rest c.before_blank.result long first c.before_blank.ensures.within c.before_blank.ensures.before
    c.before_blank.ensures.blank in
    rw (c.split_at.ensures.front, c.split_at.ensures.back) here
