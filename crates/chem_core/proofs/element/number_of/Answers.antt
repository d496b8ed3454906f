use Rattle.std.proofs.Common.{Some, sym, ap, ◌∙◌, arith, below_more}
use Rattle.std.proofs.lemmas.Bool.{false≢true}
use Rattle.std.proofs.lemmas.Bool.Decides.{Decides-eqb}
use Rattle.std.proofs.lemmas.Option.{same_Some, slice_get_within}
use Rattle.std.proofs.lemmas.Slice.Eq.{slice_eq-Decides}
use Rattle.chem_core.specs.Element.{symbols}
use Rattle.chem_core.proofs.Elements.{length-symbols, symbol_at}
use Rattle.chem_core.proofs.element.number_of.Goals as goal

pub returns-then-eq-clause-some : goal.returns-then-eq-clause-some
returns-then-eq-clause-some c =
    let same = (slice_eq-Decides Decides-eqb _ _ c.eq.result c.eq.ensures).0 c.if-eq.true in
    symbol_at (λ s. s.now) _ _ _ c.table-symbol-items.ensures.value c.loop-number-test.true
    ∙ ap Some (sym c.as_bytes.ensures.value ∙ same)

pub loop-number-preserved : goal.loop-number-preserved
loop-number-preserved c =
    let test = slice_eq-Decides Decides-eqb _ _ c.eq.result c.eq.ensures in
    let here = symbol_at (λ s. s.now) _ _ _ c.table-symbol-items.ensures.value c.loop-number-test.true in
    below_more _ _ c.loop-number.invariant
    (λ h. false≢true (sym c.if-eq.false ∙ test.1 (c.as_bytes.ensures.value ∙ same_Some _ _ (sym here ∙ h))))

pub returns-clause-none : goal.returns-clause-none
returns-clause-none c = λ number h.
    let within = slice_get_within symbols number _ h in
    c.loop-number.invariant number (omega (arith, length-symbols, c.table-symbol-items.ensures.count)) h
