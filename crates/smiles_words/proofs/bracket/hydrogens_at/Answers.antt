use Rattle.std.proofs.Common.{◌≡◌, ◌+◌, ◌-◌, ◌≤◌, ◌∷◌, length, take, drop, slice_index_or, rules, arith}
use Rattle.std.proofs.lemmas.Grind.{common_steps}
use Rattle.smiles_words.specs.Atom.{counted}
use Rattle.smiles_words.proofs.Pieces.{hydrogens_counted}
use Rattle.smiles_words.proofs.bracket.hydrogens_at.Goals as goal

pub returns-in-72 : goal.returns-in-72
returns-in-72 c =
    let bytes = c.args.bytes.now in
    let k = slice_index_or bytes 1 0 - 48 in
    let few : k ≤ 9 = omega arith in
    let front : bytes ≡ 72 ∷ (48 + k) ∷ take (length bytes - 2) (drop 2 bytes) = grind (arith, common_steps) in
    record {
      found = (counted k, few, front, search rules);
      only = λ x rest is after h. hydrogens_counted x k _ rest bytes few is after front h;
    }
