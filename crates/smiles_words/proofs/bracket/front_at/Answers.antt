use Rattle.std.proofs.Common.{ℕ, Bool, sym, ap, ◌∙◌, length, arith, ◌++◌}
use Rattle.smiles_words.specs.Atom.{symbol_text, chiral_text}
use Rattle.smiles_words.proofs.Digits.{same_digits}
use Rattle.smiles_words.proofs.Symbols.{symbol_no_digit}
use Rattle.smiles_words.proofs.Pieces.{chiral_then}
use Rattle.smiles_words.proofs.BracketEnds.{front_spelled, same_front_value}
use Rattle.smiles_words.proofs.Results.{reads_none}
use Rattle.smiles_words.proofs.bracket.front_at.Goals as goal

pub returns-then-digits-gt3 : goal.returns-then-digits-gt3
returns-then-digits-gt3 c = record {
  found = tt;
  only = λ x rest is after h.
      let p = same_digits c.digits_at.result.0.now x.isotope c.digits_at.result.1.now (symbol_text x.symbol
      ++ (chiral_text x.chiral ++ rest)) c.digits_at.ensures.digits is.digits c.digits_at.ensures.all
      (symbol_no_digit x.symbol _ is.symbol) (sym c.digits_at.ensures.split ∙ h ∙ front_spelled x rest) in
      let l = ap length p.0 in
      let short = is.short in
      omega arith;
}

pub returns-in_err-number : goal.returns-in_err-number
returns-in_err-number c =
    reads_none _ c.from_residual.result c.from_residual.ensures (λ x rest is after h.
    let p = same_digits c.digits_at.result.0.now x.isotope c.digits_at.result.1.now (symbol_text x.symbol
    ++ (chiral_text x.chiral ++ rest)) c.digits_at.ensures.digits is.digits c.digits_at.ensures.all (symbol_no_digit
    x.symbol _ is.symbol) (sym c.digits_at.ensures.split ∙ h ∙ front_spelled x rest) in
    c.in_err-number.ensures.only x.symbol (chiral_text x.chiral ++ rest) is.symbol (chiral_then x.chiral rest after)
    p.1)

pub returns-in_err-rest : goal.returns-in_err-rest
returns-in_err-rest c =
    reads_none _ c.from_residual-in_err-rest.result c.from_residual-in_err-rest.ensures (λ x rest is after h.
    let p = same_digits c.digits_at.result.0.now x.isotope c.digits_at.result.1.now (symbol_text x.symbol
    ++ (chiral_text x.chiral ++ rest)) c.digits_at.ensures.digits is.digits c.digits_at.ensures.all (symbol_no_digit
    x.symbol _ is.symbol) (sym c.digits_at.ensures.split ∙ h ∙ front_spelled x rest) in
    let q = c.in_ok-number.ensures.only x.symbol (chiral_text x.chiral ++ rest) is.symbol
    (chiral_then x.chiral rest after) p.1 in
    c.in_err-rest.ensures.only x.chiral rest is.chiral after q)

pub returns : goal.returns
returns c =
    let s = c.in_ok-number.ensures.found in
    let m = c.in_ok-rest.ensures.found in
    record {
      found = (
        record { isotope = c.digits_at.result.0.now; symbol = s.0; chiral = m.0 },
        record { short = omega arith; digits = c.digits_at.ensures.digits; symbol = s.1; chiral = m.1 },
        c.digits_at.ensures.split ∙ ap (λ w. c.digits_at.result.0.now ++ w) (s.2 ∙ ap (λ w. symbol_text s.0 ++ w) m.2)
            ∙ sym (front_spelled (record { isotope = c.digits_at.result.0.now; symbol = s.0; chiral = m.0 }) _),
        same_front_value _ _ _ _ _ _ c.digits_value.ensures.value (ap (λ (p : ℕ × Bool). p.0) s.3)
            (ap (λ (p : ℕ × Bool). p.1) s.3),
      );
      only = λ x rest is after h.
          let p = same_digits c.digits_at.result.0.now x.isotope c.digits_at.result.1.now (symbol_text x.symbol
          ++ (chiral_text x.chiral ++ rest)) c.digits_at.ensures.digits is.digits c.digits_at.ensures.all
          (symbol_no_digit x.symbol _ is.symbol) (sym c.digits_at.ensures.split ∙ h ∙ front_spelled x rest) in
          let q = c.in_ok-number.ensures.only x.symbol (chiral_text x.chiral ++ rest) is.symbol
          (chiral_then x.chiral rest after) p.1 in
          c.in_ok-rest.ensures.only x.chiral rest is.chiral after q;
    }
