-- Two bonds at an atom where no third one is kept are on the same rings.
use Rattle.std.proofs.Common.{ℕ, ◌≡◌, ◌≢◌, ◌<◌, ◌⊎◌, inl, inr, Bool, true, false, Option, Some, None, List, length, refl, subst}
use Rattle.std.specs.Prelude.{◌==◌, ◌&&◌, not, slice_get, slice_index, slice_index_or, IfSome}
use Rattle.std.proofs.lemmas.Bool.{cases_eq, ne_eqb}
use Rattle.std.proofs.lemmas.Option.{slice_get_within, get_or_from_slice_get}
use Rattle.chem_core.specs.Graph.{Ends, JoinsAt, IsSimpleCycle, LiesOn}
use Rattle.chem_core.specs.declared.adjacency.Step.{Step}
use Rattle.chem_core.specs.Steps.{AreStepsFrom}
use Rattle.ring_find.specs.BondRings.{KeepsRings, IsSmallestThrough}
use Rattle.ring_find.specs.Strip.{IsOnlyBeside}
use Rattle.ring_find.proofs.Cycles.{two_bonds_on}

-- a bond b at an atom, and the step by the one other bond there that is kept
pub record IsPaired (ends : Ends) (kept : List Bool) (b a : ℕ) (steps : List Step) (s : Step) : Type 0 where
  pub keeps : KeepsRings ends kept
  pub from : AreStepsFrom ends a steps
  pub joins : (u : ℕ) × JoinsAt ends b a u
  pub only : IsOnlyBeside steps kept b s

-- a bond of a ring at the atom, other than b, is the one
the_other : (ends : Ends) (kept : List Bool) (b a : ℕ) (steps : List Step) (s : Step) → IsPaired ends kept b a steps s
    → (xs : List ℕ) → IsSimpleCycle ends xs → (c u : ℕ) → c ≢ b → JoinsAt ends c a u → LiesOn ends c xs → c ≡ s.bond
the_other ends kept b a steps s h xs cycle c u ne joins lies =
    let step : Step = record { to = u; bond = c } in
    let is : slice_index_or kept c false ≡ true = h.keeps.each c (xs, cycle, lies) in
    let apart : (c == b) ≡ false = ne_eqb c b ne in
    let beside : (not (c == b) && slice_index_or kept c false) ≡ true = rw (apart, is) refl in
    h.only.2 step (h.from.each c u joins) beside

on_other : (ends : Ends) (kept : List Bool) (b a : ℕ) (steps : List Step) (s : Step) → IsPaired ends kept b a steps s
    → (xs : List ℕ) → IsSimpleCycle ends xs → LiesOn ends b xs → LiesOn ends s.bond xs
on_other ends kept b a steps s h xs cycle lies =
    let two = two_bonds_on ends xs b a h.joins.0 cycle lies h.joins.1 in
    let same = the_other ends kept b a steps s h xs cycle two.0 two.1 two.2 two.3 two.4 in
    subst (λ c. LiesOn ends c xs) same two.4

on_this : (ends : Ends) (kept : List Bool) (b a : ℕ) (steps : List Step) (s : Step) → IsPaired ends kept b a steps s
    → (xs : List ℕ) → IsSimpleCycle ends xs → LiesOn ends s.bond xs → LiesOn ends b xs
on_this ends kept b a steps s h xs cycle lies =
    let two = two_bonds_on ends xs s.bond a s.to cycle lies (h.from.joins s h.only.0) in
    elim (cases_eq two.0 b) [
      | inl e ↦ subst (λ c. LiesOn ends c xs) e two.4
      | inr ne ↦ absurd (two.2 (the_other ends kept b a steps s h xs cycle two.0 two.1 ne two.3 two.4))
    ]

pub same_smallest : (ends : Ends) (kept : List Bool) (b a n : ℕ) (steps : List Step) (s : Step)
    → IsPaired ends kept b a steps s → IsSmallestThrough ends s.bond n → IsSmallestThrough ends b n
same_smallest ends kept b a n steps s h smallest =
    let on : (xs : List ℕ) → IsSimpleCycle ends xs → LiesOn ends b xs → LiesOn ends s.bond xs =
    on_other ends kept b a steps s h in
    elim smallest [
      | inl q ↦ inl (q.0, λ xs cycle lies. q.1 xs cycle (on xs cycle lies))
      | inr q ↦
          inr (
            q.0,
            q.1,
            on_this ends kept b a steps s h q.0 q.1 q.2,
            q.3,
            λ xs cycle lies. q.4 xs cycle (on xs cycle lies),
          )
    ]

-- the length of the bond of the step is one of these
abbrev pub IsFound : List ℕ → List Bool → ℕ → List Step → ℕ → Type 0
IsFound lengths kept b steps r = (s : Step) × IsOnlyBeside steps kept b s × (slice_get lengths s.bond ≡ Some r)

-- a length that is found at an end of the bond
pub found_smallest : (ends : Ends) (kept : List Bool) (lengths : List ℕ) (b a : ℕ) (d : ℕ × ℕ) (steps : List Step)
    → KeepsRings ends kept → slice_get ends b ≡ Some d → (a ≡ d.0) ⊎ (a ≡ d.1) → AreStepsFrom ends a steps
    → ((c : ℕ) → c < length lengths → IsSmallestThrough ends c (slice_index lengths c)) → (o : Option ℕ)
    → IfSome o (IsFound lengths kept b steps) → IfSome o (IsSmallestThrough ends b)
found_smallest ends kept lengths b a d steps keeps at end from before None found = found
found_smallest ends kept lengths b a d steps keeps at end from before (Some r) found =
    let s : Step = found.0 in
    let within : s.bond < length lengths = slice_get_within lengths s.bond r found.2 in
    let is : slice_index lengths s.bond ≡ r = get_or_from_slice_get lengths s.bond r 0 found.2 in
    let joins : (u : ℕ) × JoinsAt ends b a u = elim end [
      | inl e ↦ rw e (d.1, inl at)
      | inr e ↦ rw e (d.0, inr at)
    ] in
    same_smallest ends kept b a r steps s (record { keeps = keeps; from = from; joins = joins; only = found.1 })
    (rw is at (before s.bond within))
