use Rattle.chem_core.proofs.print.Print.is_empty.Goals as goal

pub returns : goal.returns
returns c = record {
  value = (
    λ empty bit set. c.empty.ensures.none bit (c.holds.ensures.value.0 empty bit set),
    λ none. c.holds.ensures.value.1 (λ bit set. absurd (none bit set)),
  );
}
