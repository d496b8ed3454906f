use mir.Syntax.{w8}
use mir.Val.{to_z, of_z}
use lib.IntN.{pos, neg_ℤ, ◌-ℤ◌}
use Rattle.std.proofs.Common.{ℕ, ◌≤◌, ◌≡◌, ◌∙◌, refl, sym, arith}
use Rattle.std.proofs.lemmas.Int.{to_z_pos, ints}
use Rattle.smiles_words.specs.Atom.{plus, minus}
use Rattle.smiles_words.proofs.Fronts.{front_is}
use Rattle.smiles_words.proofs.bracket.charge_at.Goals as goal

plus_value : (n : ℕ) → n ≤ 15 → to_z w8 n ≡ pos n
plus_value n le = to_z_pos w8 n (omega arith)

minus_value : (n : ℕ) → n ≤ 15 → to_z w8 (of_z w8 (pos 0 -ℤ to_z w8 n)) ≡ neg_ℤ (pos n)
minus_value n le = omega (arith, ints)

pub returns-in_ok-amount-in-43 : goal.returns-in_ok-amount-in-43
returns-in_ok-amount-in-43 c =
    let front = front_is c.args.bytes.now 43 c.in-43.len_at_least (omega arith) in
    let reads = c.in_ok-amount-in-43.ensures.reads plus refl in
    let f = reads.found in
    record {
      found = (f.0, f.1, front ∙ f.2, plus_value c.in_ok-amount-in-43.amount c.in_ok-amount-in-43.ensures.few ∙ f.3);
      only = λ x rest is after h. reads.only x rest is after (sym front ∙ h);
    }

pub returns-in_ok-amount-in-45 : goal.returns-in_ok-amount-in-45
returns-in_ok-amount-in-45 c =
    let front = front_is c.args.bytes.now 45 c.in-45.len_at_least (omega arith) in
    let reads = c.in_ok-amount-in-45.ensures.reads minus refl in
    let f = reads.found in
    record {
      found = (f.0, f.1, front ∙ f.2, minus_value c.in_ok-amount-in-45.amount c.in_ok-amount-in-45.ensures.few ∙ f.3);
      only = λ x rest is after h. reads.only x rest is after (sym front ∙ h);
    }
