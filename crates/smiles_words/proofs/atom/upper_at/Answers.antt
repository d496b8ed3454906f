use Rattle.std.proofs.Common.{refl, ap, arith}
use Rattle.chem_core.specs.Organic.{chlorine, bromine}
use Rattle.smiles_words.proofs.Unique.{organic_read, organic_only}
use Rattle.smiles_words.proofs.Fronts.{front_two}
use Rattle.smiles_words.proofs.atom.upper_at.Goals as goal

pub returns-in-67 : goal.returns-in-67
returns-in-67 c =
    let front = front_two c.args.bytes.now 67 108 (omega arith) (omega arith) (omega arith) in
    record {
      found = (chlorine, tt, front, refl);
      only = λ x rest _ after h. (organic_only chlorine x c.args.bytes.now _ rest (ap organic_read front) after h).0;
    }

pub returns-in-66 : goal.returns-in-66
returns-in-66 c =
    let front = front_two c.args.bytes.now 66 114 (omega arith) (omega arith) (omega arith) in
    record {
      found = (bromine, tt, front, refl);
      only = λ x rest _ after h. (organic_only bromine x c.args.bytes.now _ rest (ap organic_read front) after h).0;
    }
