use Rattle.std.proofs.Common.{◌≡◌, ℕ, ◌-◌, List, Option, Some, ◌∷◌, length, take, drop, subst, arith}
use Rattle.smiles_words.proofs.Fronts.{front_is}
use Rattle.smarts_words.proofs.Hydrogens.{HydroParts, parts_found, parts_only}
use Rattle.smarts_words.proofs.Numbers.{AnyNumber}
use Rattle.smarts_words.proofs.bracket.hydro_at.Goals as goal

moved : (bytes after one : List ℕ) (mass : Option ℕ) → after ≡ 72 ∷ one → AnyNumber bytes (Some (mass, after))
    → AnyNumber bytes (Some (mass, 72 ∷ one))
moved bytes after one mass e h = subst (λ (v : List ℕ). AnyNumber bytes (Some (mass, v))) e h

pub returns-clause-found : goal.returns-clause-found
returns-clause-found c =
    let bytes = c.args.bytes.now in
    let after = c.in_ok-mass.rest.now in
    let one = take (length after - 1) (drop 1 after) in
    let two = c.some_charge_at-charge.result.1.now in
    let parts : HydroParts bytes one two two c.in_ok-mass.mass c.some_charge_at-charge.result.0 =
    record {
      number = moved bytes after one c.in_ok-mass.mass (front_is after 72 c.in-72.len_at_least (omega arith))
          c.in_ok-mass.ensures.reads;
      sign = c.some_charge_at-charge.ensures;
    } in
    let e = c.in_ok-after_end.ensures.found in
    parts_found bytes one two c.in_ok-after_end.field-0.now c.in_ok-mass.mass c.some_charge_at-charge.result.0 parts
    e.0 e.1 e.2

pub returns-clause-only : goal.returns-clause-only
returns-clause-only c h k rest is class e =
    let bytes = c.args.bytes.now in
    let after = c.in_ok-mass.rest.now in
    let one = take (length after - 1) (drop 1 after) in
    let two = c.some_charge_at-charge.result.1.now in
    let parts : HydroParts bytes one two two c.in_ok-mass.mass c.some_charge_at-charge.result.0 =
    record {
      number = moved bytes after one c.in_ok-mass.mass (front_is after 72 c.in-72.len_at_least (omega arith))
          c.in_ok-mass.ensures.reads;
      sign = c.some_charge_at-charge.ensures;
    } in
    c.in_ok-after_end.ensures.only k rest class (parts_only bytes one two c.in_ok-mass.mass
    c.some_charge_at-charge.result.0 parts h k rest is e)
