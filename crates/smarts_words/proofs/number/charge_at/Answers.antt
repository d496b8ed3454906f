use mir.Syntax.{w16}
use mir.Val.{to_z, of_z}
use lib.IntN.{pos, neg_ℤ, ◌-ℤ◌}
use Rattle.std.proofs.Common.{ℕ, ◌≤◌, ◌≡◌, ◌∙◌, refl, sym, arith}
use Rattle.std.proofs.lemmas.Int.{to_z_pos, ints}
use Rattle.smiles_words.specs.Atom.{plus, minus}
use Rattle.smiles_words.proofs.Fronts.{front_is}
use Rattle.smarts_words.proofs.Signs.{first_sign}
use Rattle.smarts_words.proofs.number.charge_at.Goals as goal

plus_value : (n : ℕ) → n ≤ 4096 → to_z w16 n ≡ pos n
plus_value n le = to_z_pos w16 n (omega arith)

minus_value : (n : ℕ) → n ≤ 4096 → to_z w16 (of_z w16 (pos 0 -ℤ to_z w16 n)) ≡ neg_ℤ (pos n)
minus_value n le = omega (arith, ints)

pub returns-in_ok-amount-in-43 : goal.returns-in_ok-amount-in-43
returns-in_ok-amount-in-43 c =
    let bytes = c.args.bytes.now in
    let front = front_is bytes 43 c.in-43.len_at_least (omega arith) in
    let f = c.in_ok-amount-in-43.ensures.found plus refl _ front in
    record {
      found = (f.0, f.1, f.2, f.3, plus_value c.in_ok-amount-in-43.amount c.in_ok-amount-in-43.ensures.few ∙ f.4);
      only = λ x rest is follows h. c.in_ok-amount-in-43.ensures.only x rest is follows
          (first_sign x rest _ 43 is (sym h ∙ front)) h;
    }

pub returns-in_ok-amount-in-45 : goal.returns-in_ok-amount-in-45
returns-in_ok-amount-in-45 c =
    let bytes = c.args.bytes.now in
    let front = front_is bytes 45 c.in-45.len_at_least (omega arith) in
    let f = c.in_ok-amount-in-45.ensures.found minus refl _ front in
    record {
      found = (f.0, f.1, f.2, f.3, minus_value c.in_ok-amount-in-45.amount c.in_ok-amount-in-45.ensures.few ∙ f.4);
      only = λ x rest is follows h. c.in_ok-amount-in-45.ensures.only x rest is follows
          (first_sign x rest _ 45 is (sym h ∙ front)) h;
    }
