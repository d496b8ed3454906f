use Rattle.std.proofs.Common.{refl, arith}
use Rattle.smiles_words.specs.Atom.{sp, tb, oh}
use Rattle.smiles_words.proofs.Fronts.{front_two}
use Rattle.smiles_words.proofs.bracket.chiral_class_at.Goals as goal

pub returns-in-84-2 : goal.returns-in-84-2
returns-in-84-2 c = (tb, front_two c.args.bytes.now 84 66 (omega arith) (omega arith) (omega arith), refl)

pub returns-in-83 : goal.returns-in-83
returns-in-83 c = (sp, front_two c.args.bytes.now 83 80 (omega arith) (omega arith) (omega arith), refl)

pub returns-in-79 : goal.returns-in-79
returns-in-79 c = (oh, front_two c.args.bytes.now 79 72 (omega arith) (omega arith) (omega arith), refl)
