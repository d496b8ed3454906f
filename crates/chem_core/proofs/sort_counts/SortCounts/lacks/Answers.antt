use Rattle.std.proofs.Common.{inl, inr, ⊎_elim}
use Rattle.std.proofs.lemmas.Bool.{or_cases, or_left, or_right}
use Rattle.chem_core.proofs.sort_counts.SortCounts.lacks.Goals as goal

pub returns : goal.returns
returns c = (
  λ h. ⊎_elim (λ e. inl (c.is_less-atoms.ensures.0 e)) (λ e. inr (c.is_less-bonds.ensures.0 e)) (or_cases _ _ h),
  ⊎_elim (λ e. or_left _ _ (c.is_less-atoms.ensures.1 e)) (λ e. or_right _ _ (c.is_less-bonds.ensures.1 e)),
)
