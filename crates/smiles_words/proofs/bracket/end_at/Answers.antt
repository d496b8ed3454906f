use mir.Syntax.{w8}
use mir.Val.{to_z, of_z}
use Rattle.std.proofs.Common.{◌≡◌, ◌∷◌, ◌++◌, inl, refl, sym, ◌∙◌, ap, arith}
use Rattle.std.proofs.lemmas.Grind.{common_steps}
use Rattle.std.proofs.lemmas.Int.{to_z-of_z}
use Rattle.smiles_words.specs.Atom.{hydrogens_text, charge_text, class_text}
use Rattle.smiles_words.proofs.Pieces.{class_then, charge_then}
use Rattle.smiles_words.proofs.BracketEnds.{end_spelled, same_value}
use Rattle.smiles_words.proofs.Fronts.{front_is}
use Rattle.smiles_words.proofs.Results.{reads_none}
use Rattle.smiles_words.proofs.bracket.end_at.Goals as goal
use Rattle.smiles_words.proofs.bracket.end_at.Goals.{in_default-via-then-branch-lt1, in_default-via-else-branch-lt1+in_default-1}

pub returns-in_err-charge : goal.returns-in_err-charge
returns-in_err-charge c =
    reads_none _ c.from_residual.result c.from_residual.ensures (λ x rest is _ h.
    let after = class_then x.class (93 ∷ rest) (inl refl) in
    let p = c.hydrogens_at-hydrogens.ensures.only x.hydrogens (charge_text x.charge
    ++ (class_text x.class ++ 93 ∷ rest)) is.hydrogens (charge_then x.charge _ is.charge after) (h
    ∙ end_spelled x rest) in
    c.in_err-charge.ensures.only x.charge (class_text x.class ++ 93 ∷ rest) is.charge after p)

pub returns-in_err-after_class : goal.returns-in_err-after_class
returns-in_err-after_class c =
    reads_none _ c.from_residual-in_err-after_class.result c.from_residual-in_err-after_class.ensures (λ x rest is _ h.
    let after = class_then x.class (93 ∷ rest) (inl refl) in
    let p = c.hydrogens_at-hydrogens.ensures.only x.hydrogens (charge_text x.charge
    ++ (class_text x.class ++ 93 ∷ rest)) is.hydrogens (charge_then x.charge _ is.charge after) (h
    ∙ end_spelled x rest) in
    let q = c.in_ok-charge.ensures.only x.charge (class_text x.class ++ 93 ∷ rest) is.charge after p in
    c.in_err-after_class.ensures.only x.class (93 ∷ rest) is.class (inl refl) q)

pub returns-in_default : goal.returns-in_default
returns-in_default c = record {
  found = tt;
  only = λ x rest is _ h.
      let after = class_then x.class (93 ∷ rest) (inl refl) in
      let p = c.hydrogens_at-hydrogens.ensures.only x.hydrogens (charge_text x.charge
      ++ (class_text x.class ++ 93 ∷ rest)) is.hydrogens (charge_then x.charge _ is.charge after) (h
      ∙ end_spelled x rest) in
      let q = c.in_ok-charge.ensures.only x.charge (class_text x.class ++ 93 ∷ rest) is.charge after p in
      let r = c.in_ok-after_class.ensures.only x.class (93 ∷ rest) is.class (inl refl) q in
      elim c.in_default.branch [
        | in_default-via-then-branch-lt1 w ↦ grind (arith, common_steps)
        | in_default-via-else-branch-lt1+in_default-1 w ↦ grind (arith, common_steps)
      ];
}

pub returns : goal.returns
returns c =
    let h = c.hydrogens_at-hydrogens.ensures.found in
    let x = c.in_ok-charge.ensures.found in
    let k = c.in_ok-after_class.ensures.found in
    let last = front_is c.in_ok-after_class.field-0.now 93 (omega arith) (omega arith) in
    let charge : to_z w8 (of_z w8 c.in_ok-charge.charge) ≡ c.in_ok-charge.charge = grind (arith, to_z-of_z) in
    record {
      found = (
        record { hydrogens = h.0; charge = x.0; class = k.0 },
        record { hydrogens = h.1; charge = x.1; class = k.1 },
        h.2 ∙ ap (λ w. hydrogens_text h.0 ++ w) (x.2
            ∙ ap (λ w. charge_text x.0 ++ w) (k.2 ∙ ap (λ w. class_text k.0 ++ w) last))
            ∙ sym (end_spelled (record { hydrogens = h.0; charge = x.0; class = k.0 }) _),
        same_value _ _ _ _ h.3 (charge ∙ x.3),
      );
      only = λ y rest is _ e.
          let after = class_then y.class (93 ∷ rest) (inl refl) in
          let p = c.hydrogens_at-hydrogens.ensures.only y.hydrogens (charge_text y.charge
          ++ (class_text y.class ++ 93 ∷ rest)) is.hydrogens (charge_then y.charge _ is.charge after) (e
          ∙ end_spelled y rest) in
          let q = c.in_ok-charge.ensures.only y.charge (class_text y.class ++ 93 ∷ rest) is.charge after p in
          let r = c.in_ok-after_class.ensures.only y.class (93 ∷ rest) is.class (inl refl) q in
          grind (arith, common_steps);
    }
