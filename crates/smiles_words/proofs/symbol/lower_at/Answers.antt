use Rattle.std.proofs.Common.{refl, ap, arith}
use Rattle.smiles_words.specs.Atom.{lower_se, lower_as}
use Rattle.smiles_words.proofs.Symbols.{lower_read, lower_only}
use Rattle.smiles_words.proofs.Fronts.{front_two}
use Rattle.smiles_words.proofs.symbol.lower_at.Goals as goal

pub returns-in-115 : goal.returns-in-115
returns-in-115 c =
    let front = front_two c.args.bytes.now 115 101 (omega arith) (omega arith) (omega arith) in
    record {
      found = (lower_se, tt, front, refl);
      only = λ l rest _ after h. (lower_only lower_se l c.args.bytes.now _ rest (ap lower_read front) after h).0;
    }

pub returns-in-97 : goal.returns-in-97
returns-in-97 c =
    let front = front_two c.args.bytes.now 97 115 (omega arith) (omega arith) (omega arith) in
    record {
      found = (lower_as, tt, front, refl);
      only = λ l rest _ after h. (lower_only lower_as l c.args.bytes.now _ rest (ap lower_read front) after h).0;
    }
