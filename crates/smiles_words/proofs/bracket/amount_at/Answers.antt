use Rattle.std.proofs.Common.{◌≤◌, ◌≡◌, ◌+◌, ◌∷◌, ◌∙◌, ℕ, List, length, arith, refl, ap, sym}
use Rattle.std.proofs.lemmas.Bool.Decides.{nat_tests}
use Rattle.smiles_words.specs.Atom.{run, amount, signed, sign_byte}
use Rattle.smiles_words.proofs.Pieces.{amount_empty, amount_digits, run_found}
use Rattle.smiles_words.proofs.bracket.amount_at.Goals as goal

pub returns-then-more-gt14-clause-reads : goal.returns-then-more-gt14-clause-reads
returns-then-more-gt14-clause-reads c s es = record {
  found = tt;
  only = λ x rest is after h.
      let d = c.digits_at.result.0.now in
      let none : length d ≡ 0 = grind (arith, nat_tests) in
      let p = amount_empty s c.args.sign x rest c.args.bytes.now c.run_at-more.result.1.now d c.digits_at.result.1.now
      c.run_at-more.result.0 es is after h none
      c.digits_at.ensures.split c.digits_at.ensures.all c.run_at-more.ensures.found c.run_at-more.ensures.few
      c.run_at-more.ensures.all in
      let q = p.0 in
      omega arith;
}

pub returns-then-is_empty-clause-reads : goal.returns-then-is_empty-clause-reads
returns-then-is_empty-clause-reads c s es = record {
  found = (
    run s (c.run_at-more.result.0 + 1),
    (omega arith, omega arith),
    run_found s c.args.sign c.run_at-more.result.0 c.args.bytes.now c.run_at-more.result.1.now es
        c.run_at-more.ensures.found,
    refl,
  );
  only = λ x rest is after h.
      let d = c.digits_at.result.0.now in
      let none : length d ≡ 0 = grind (arith, nat_tests) in
      (amount_empty s c.args.sign x rest c.args.bytes.now c.run_at-more.result.1.now d c.digits_at.result.1.now
      c.run_at-more.result.0 es is after h none
      c.digits_at.ensures.split c.digits_at.ensures.all c.run_at-more.ensures.found c.run_at-more.ensures.few
      c.run_at-more.ensures.all).1;
}

pub returns-then-digits-gt2-clause-reads : goal.returns-then-digits-gt2-clause-reads
returns-then-digits-gt2-clause-reads c s es = record {
  found = tt;
  only = λ x rest is after h.
      let d = c.digits_at.result.0.now in
      let some : 1 ≤ length d = grind (arith, nat_tests) in
      let p = amount_digits s c.args.sign x rest c.args.bytes.now d c.digits_at.result.1.now es is after h
      c.digits_at.ensures.split some c.digits_at.ensures.digits c.digits_at.ensures.all in
      let q = p.0.1 in
      omega arith;
}

pub returns-then-amount-gt15-clause-reads : goal.returns-then-amount-gt15-clause-reads
returns-then-amount-gt15-clause-reads c s es = record {
  found = tt;
  only = λ x rest is after h.
      let d = c.digits_at.result.0.now in
      let some : 1 ≤ length d = grind (arith, nat_tests) in
      let p = amount_digits s c.args.sign x rest c.args.bytes.now d c.digits_at.result.1.now es is after h
      c.digits_at.ensures.split some c.digits_at.ensures.digits c.digits_at.ensures.all in
      let q = p.0.3 in
      let v = c.digits_value-amount.ensures.value in
      omega arith;
}

pub returns-clause-reads : goal.returns-clause-reads
returns-clause-reads c s es =
    let d = c.digits_at.result.0.now in
    let v = c.digits_value-amount.ensures.value in
    let some : 1 ≤ length d = grind (arith, nat_tests) in
    record {
      found = (
        amount s d,
        (some, omega arith, c.digits_at.ensures.digits, omega arith),
        ap (λ w. w ∷ c.args.bytes.now) (sym es) ∙ ap (λ (w : List ℕ). sign_byte s ∷ w) c.digits_at.ensures.split,
        ap (λ n. signed s n) v,
      );
      only = λ x rest is after h.
          (amount_digits s c.args.sign x rest c.args.bytes.now d c.digits_at.result.1.now es is after h
          c.digits_at.ensures.split some c.digits_at.ensures.digits c.digits_at.ensures.all).1;
    }
