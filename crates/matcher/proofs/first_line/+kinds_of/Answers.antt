use Rattle.std.proofs.Common.{◌≡◌, ◌∙◌, ap, bit_and, bit_or, sym}
use Rattle.smarts_parse.specs.Pattern.{term_of}
use Rattle.matcher.specs.Counted.{kinds_of}
use Rattle.matcher.proofs.first_line.+kinds_of.Goals as goal

pub returns-in-Not : goal.returns-in-Not
returns-in-Not t c = sym (ap (λ e. kinds_of (term_of e)) c.in-Not.is)

pub returns-in-And : goal.returns-in-And
returns-in-And t c =
    let left : c.kinds_of.result ≡ kinds_of (term_of c.in-And.left.value) =
    c.kinds_of.ensures ∙ ap (λ e. kinds_of (term_of e)) c.deref.ensures in
    let right : c.kinds_of-in-And.result ≡ kinds_of (term_of c.in-And.right.value) =
    c.kinds_of-in-And.ensures ∙ ap (λ e. kinds_of (term_of e)) c.deref-in-And.ensures in
    (λ i. bit_and (left i) (right i)) ∙ sym (ap (λ e. kinds_of (term_of e)) c.in-And.is)

pub returns-in-Or : goal.returns-in-Or
returns-in-Or t c =
    let left : c.kinds_of-in-Or.result ≡ kinds_of (term_of c.in-Or.left.value) =
    c.kinds_of-in-Or.ensures ∙ ap (λ e. kinds_of (term_of e)) c.deref-in-Or.ensures in
    let right : c.kinds_of-in-Or-2.result ≡ kinds_of (term_of c.in-Or.right.value) =
    c.kinds_of-in-Or-2.ensures ∙ ap (λ e. kinds_of (term_of e)) c.deref-in-Or-2.ensures in
    (λ i. bit_or (left i) (right i)) ∙ sym (ap (λ e. kinds_of (term_of e)) c.in-Or.is)
