use Rattle.std.proofs.Common.{◌≡◌, ◌∙◌, sym, ◌++◌, refl, arith, ap}
use Rattle.std.proofs.lemmas.Option.{same_Some}
use Rattle.std.specs.Fmt.{decimal}
use Rattle.smiles_words.proofs.Digits.{same_digits, decimal_digits}
use Rattle.smiles_words.proofs.Results.{reads_none}
use Rattle.smiles_words.proofs.bracket.after_number.Goals as goal
use Rattle.smiles_words.proofs.bracket.after_number.Goals.{then-number-eq0-via-then-number-eq0, then-number-eq0-via-else-number-eq0+then-number-most}

pub returns-then-number-eq0 : goal.returns-then-number-eq0
returns-then-number-eq0 c = record {
  found = tt;
  only = λ n rest is after h.
      let most = c.requires in
      let some = is.0 in
      let few = is.1 in
      let same = same_digits c.digits_at.result.0.now (decimal n) c.digits_at.result.1.now rest
      c.digits_at.ensures.digits (decimal_digits n (omega arith)) c.digits_at.ensures.all after
      (sym c.digits_at.ensures.split ∙ h) in
      let number : c.in_ok-number.number ≡ n = same_Some _ _ (c.in_ok-number.ensures.only n (omega arith) same.0) in
      elim c.then-number-eq0.branch [
        | then-number-eq0-via-then-number-eq0 w ↦ omega arith
        | then-number-eq0-via-else-number-eq0+then-number-most w ↦ omega arith
      ];
}

pub returns : goal.returns
returns c = record {
  found = (
    c.in_ok-number.number,
    (omega arith, omega arith),
    c.digits_at.ensures.split ∙ ap (λ w. w ++ c.digits_at.result.1.now) c.in_ok-number.ensures.found.1,
    refl,
  );
  only = λ n rest is after h.
      let most = c.requires in
      let few = is.1 in
      (same_digits c.digits_at.result.0.now (decimal n) c.digits_at.result.1.now rest c.digits_at.ensures.digits
      (decimal_digits n (omega arith)) c.digits_at.ensures.all after (sym c.digits_at.ensures.split ∙ h)).1;
}

pub returns-in_err-number : goal.returns-in_err-number
returns-in_err-number c =
    reads_none (λ r. (tt, r.now)) c.from_residual.result c.from_residual.ensures (λ n rest is after h.
    let most = c.requires in
    let few = is.1 in
    let same = same_digits c.digits_at.result.0.now (decimal n) c.digits_at.result.1.now rest
    c.digits_at.ensures.digits (decimal_digits n (omega arith)) c.digits_at.ensures.all after
    (sym c.digits_at.ensures.split ∙ h) in
    let none = c.in_err-number.ensures.only n (omega arith) same.0 in
    cc)
