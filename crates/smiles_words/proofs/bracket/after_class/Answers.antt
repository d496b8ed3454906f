use Rattle.std.proofs.Common.{◌≡◌, ◌-◌, ◌∷◌, length, take, drop, Some, refl, arith}
use Rattle.std.proofs.lemmas.Grind.{common_steps}
use Rattle.smiles_words.proofs.Pieces.{class_only}
use Rattle.smiles_words.proofs.bracket.after_class.Goals as goal

pub returns : goal.returns
returns c =
    let bytes = c.args.bytes.now in
    let split = c.digits_at.ensures.split in
    let front : bytes ≡ 58 ∷ take (length bytes - 1) (drop 1 bytes) = grind (arith, common_steps) in
    record {
      found = (
        Some c.digits_at.result.0.now,
        (grind (arith, common_steps), c.digits_at.ensures.digits),
        grind (arith, common_steps),
        refl,
      );
      only = λ x rest is after h.
          class_only x rest bytes _ c.digits_at.result.0.now c.digits_at.result.1.now is after h front
          c.digits_at.ensures.split c.digits_at.ensures.digits c.digits_at.ensures.all;
    }
