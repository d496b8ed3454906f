-- The row of a carbon atom without charge and double bonds.
use Rattle.std.proofs.Common.{ℕ, ◌≡◌, Bool, true, false, None, Some, refl, sym, ap, subst, ◌∙◌}
use Rattle.std.specs.Prelude.{if◌then◌else◌, pos}
use Rattle.aromatic.specs.declared.environment.Environment.{Environment}
use Rattle.aromatic.specs.declared.table.Row.{Row}
use Rattle.aromatic.specs.declared.table.Family.TheVariants.{Carbon}
use Rattle.aromatic.specs.declared.table.Doubles.TheVariants.{Absent}
use Rattle.aromatic.specs.Electrons.{fits, row_of, rows}

abbrev pub plain_row : Row
plain_row = record {
  family = Carbon;
  charge = pos 0;
  lower = true;
  doubles = Absent;
  connected = Some 3;
  electrons = 1;
}

-- an atom of these fields
abbrev plain : Bool → ℕ → ℕ → ℕ → ℕ → ℕ → ℕ → Environment
plain lower hydrogens neighbours ring_bonds higher to_oxygen to_hetero = record {
  number = 6;
  charge = pos 0;
  lower = lower;
  hydrogens = hydrogens;
  neighbours = neighbours;
  ring_bonds = ring_bonds;
  higher = higher;
  ring_doubles = 0;
  outer_doubles = 0;
  to_oxygen = to_oxygen;
  to_hetero = to_hetero;
}

of_fields : (lower : Bool) (hydrogens neighbours ring_bonds higher to_oxygen to_hetero : ℕ)
    → row_of (plain lower hydrogens neighbours ring_bonds higher to_oxygen to_hetero)
    ≡ (if fits plain_row (plain lower hydrogens neighbours ring_bonds higher to_oxygen to_hetero)
    then Some plain_row else None)
unfolding rows fits
of_fields false hydrogens neighbours ring_bonds higher to_oxygen to_hetero = refl
of_fields true hydrogens neighbours ring_bonds higher to_oxygen to_hetero = refl

pub plain_carbon : (x : Environment) → x.number ≡ 6 → x.charge ≡ pos 0 → x.ring_doubles ≡ 0 → x.outer_doubles ≡ 0
    → row_of x ≡ (if fits plain_row x then Some plain_row else None)
plain_carbon x number charge inner outer =
    let e : Environment = plain x.lower x.hydrogens x.neighbours x.ring_bonds x.higher x.to_oxygen x.to_hetero in
    let same : e ≡ x = let p : e ≡ record {
      number = x.number;
      charge = x.charge;
      lower = x.lower;
      hydrogens = x.hydrogens;
      neighbours = x.neighbours;
      ring_bonds = x.ring_bonds;
      higher = x.higher;
      ring_doubles = x.ring_doubles;
      outer_doubles = x.outer_doubles;
      to_oxygen = x.to_oxygen;
      to_hetero = x.to_hetero;
    } = rw (number, charge, inner, outer) refl in p in
    subst (λ y. row_of y ≡ (if fits plain_row y then Some plain_row else None)) same
    (of_fields x.lower x.hydrogens x.neighbours x.ring_bonds x.higher x.to_oxygen x.to_hetero)

pub carbon_fits : (x : Environment) (b : Bool) → x.number ≡ 6 → x.charge ≡ pos 0 → x.ring_doubles ≡ 0
    → x.outer_doubles ≡ 0 → b ≡ fits plain_row x → b ≡ true → Some plain_row ≡ row_of x
carbon_fits x b number charge inner outer test holds =
    sym (plain_carbon x number charge inner outer
    ∙ ap (λ k. if k then Some plain_row else None) (sym test ∙ holds))

pub carbon_past : (x : Environment) (b : Bool) → x.number ≡ 6 → x.charge ≡ pos 0 → x.ring_doubles ≡ 0
    → x.outer_doubles ≡ 0 → b ≡ fits plain_row x → b ≡ false → None ≡ row_of x
carbon_past x b number charge inner outer test fails =
    sym (plain_carbon x number charge inner outer
    ∙ ap (λ k. if k then Some plain_row else None) (sym test ∙ fails))
