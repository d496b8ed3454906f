use mir.Syntax.{w8}
use mir.Val.{to_z, of_z}
use Rattle.std.proofs.lemmas.Grind.{common_steps}
use Rattle.std.proofs.lemmas.Int.{to_z-of_z}
use Rattle.std.specs.Prelude.{ℤ}
use Rattle.chem_core.specs.declared.sketch.SketchAtom.{SketchAtom}
use Rattle.chem_core.specs.declared.sketch.Fill.TheVariants.{Given}
use Rattle.std.proofs.Common.{◌≡◌, ℕ, Bool, None, unwrap_or, ◌∷◌, ◌++◌, sym, ap, ◌∙◌, arith}
use Rattle.smiles_words.specs.Atom.{Bracket, symbol_number}
use Rattle.smiles_words.specs.Parts.{front_text, end_text, written_hydrogens}
use Rattle.smiles_words.proofs.Pieces.{are_hydrogens, none_on_hydrogen, count_of}
use Rattle.smiles_words.proofs.BracketEnds.{front_part, end_part, is_front, is_end, end_then, parts_of, parts_spelled, same_front, same_end}
use Rattle.smiles_words.specs.declared.bracket.Front.{Front}
use Rattle.smiles_words.specs.declared.bracket.End.{End}
use Rattle.smiles_words.proofs.Results.{reads_none, reads_value}
use Rattle.smiles_words.proofs.bracket.bracket_at.Goals as goal
use Rattle.smiles_words.proofs.bracket.bracket_at.Goals.{else-front-eq1-via-then-front-eq1+else-is_some, else-front-eq1-via-else-front-eq1}

abbrev given : ℕ → ℕ → ℤ → Bool → ℕ → SketchAtom
given n i z l h = record { number = n; isotope = i; charge = z; lower = l; fill = Given; hydrogens = h; written = 0 }

same_given : (n m i j : ℕ) (y z : ℤ) (k l : Bool) (g h : ℕ) → n ≡ m → i ≡ j → y ≡ z → k ≡ l → g ≡ h → given n i y k g
    ≡ given m j z l h
same_given n m i j y z k l g h a b c d e = cc

pub returns-in_err-front : goal.returns-in_err-front
returns-in_err-front c =
    reads_none _ c.from_residual.result c.from_residual.ensures (λ x rest is _ h.
    c.in_err-front.ensures.only (front_part x) (end_text (end_part x) ++ rest) (is_front x is)
    (end_then (end_part x) rest (is_end x is)) (parts_of x c.args.bytes.now rest h))

pub returns-in_err-end : goal.returns-in_err-end
returns-in_err-end c =
    reads_none _ c.from_residual-in_err-end.result c.from_residual-in_err-end.ensures (λ x rest is _ h.
    let p = c.in_ok-front.ensures.only (front_part x) (end_text (end_part x) ++ rest) (is_front x is)
    (end_then (end_part x) rest (is_end x is)) (parts_of x c.args.bytes.now rest h) in
    c.in_err-end.ensures.only (end_part x) rest (is_end x is) tt p)

pub returns-then-is_some : goal.returns-then-is_some
returns-then-is_some c = record {
  found = tt;
  only = λ x rest is _ h.
      let parts = parts_of x c.args.bytes.now rest h in
      let after = end_then (end_part x) rest (is_end x is) in
      let p = c.in_ok-front.ensures.only (front_part x) (end_text (end_part x) ++ rest) (is_front x is) after parts in
      let v = reads_value c.in_ok-front.front c.in_ok-front.rest.now c.in_ok-front.ensures (λ y z a b iy iz fa fb e.
      (same_front y z a b iy iz fa fb e).0) (front_part x) (end_text (end_part x) ++ rest) (is_front x is) after
      parts in
      let u = reads_value c.in_ok-end.end c.in_ok-end.rest.now c.in_ok-end.ensures (λ y z a b iy iz _ _ e.
      (same_end y z a b iy iz e).0) (end_part x) rest (is_end x is) tt p in
      let free = none_on_hydrogen x.symbol x.hydrogens is.hydrogens (sym (ap (λ (f : Front). f.number) v)
      ∙ c.if-front-eq1.true) in
      let e = ap (λ (g : End). g.hydrogens) u ∙ free in
      let yes = c.if-is_some.true in
      let says = c.is_some.ensures in
      grind (arith, common_steps);
}

pub returns : goal.returns
returns c =
    let f = c.in_ok-front.ensures.found in
    let g = c.in_ok-end.ensures.found in
    let x : Bracket = record {
      isotope = f.0.isotope;
      symbol = f.0.symbol;
      chiral = f.0.chiral;
      hydrogens =
          g.0.hydrogens;
      charge = g.0.charge;
      class = g.0.class;
    } in
    let number : c.in_ok-front.front.number ≡ symbol_number f.0.symbol = ap (λ (v : Front). v.number) f.3 in
    let written : c.in_ok-end.end.hydrogens ≡ written_hydrogens g.0.hydrogens = ap (λ (v : End). v.hydrogens) g.3 in
    let free : symbol_number f.0.symbol ≡ 1 → written_hydrogens g.0.hydrogens ≡ None =
    λ e. elim c.else-front-eq1.branch [
      | else-front-eq1-via-then-front-eq1+else-is_some w ↦ grind (arith, common_steps)
      | else-front-eq1-via-else-front-eq1 w ↦ absurd (omega arith)
    ] in
    let charge : to_z w8 (of_z w8 c.in_ok-end.end.charge) ≡ c.in_ok-end.end.charge = grind (arith, to_z-of_z) in
    record {
      found = (
        x,
        record {
          short = f.1.short;
          digits = f.1.digits;
          symbol = f.1.symbol;
          chiral = f.1.chiral;
          hydrogens =
              are_hydrogens f.0.symbol g.0.hydrogens g.1.hydrogens free;
          charge = g.1.charge;
          class = g.1.class;
        },
        ap (λ w. 91 ∷ w) (f.2 ∙ ap (λ w. front_text f.0 ++ w) g.2) ∙ sym (parts_spelled x c.in_ok-end.rest.now),
        same_given _ _ _ _ _ _ _ _ _ _ number (ap (λ (v : Front). v.isotope) f.3) (charge
            ∙ ap (λ (v : End). v.charge) g.3) (ap (λ (v : Front). v.lower) f.3)
            (c.unwrap_or.ensures ∙ ap (λ w. unwrap_or w 0) written ∙ count_of g.0.hydrogens),
      );
      only = λ y rest is _ h.
          let p = c.in_ok-front.ensures.only (front_part y) (end_text (end_part y) ++ rest) (is_front y is)
          (end_then (end_part y) rest (is_end y is)) (parts_of y c.args.bytes.now rest h) in
          c.in_ok-end.ensures.only (end_part y) rest (is_end y is) tt p;
    }
