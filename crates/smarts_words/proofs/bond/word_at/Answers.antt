use Rattle.std.proofs.Common.{arith}
use Rattle.smiles_words.proofs.Fronts.{front_two}
use Rattle.smarts_words.proofs.BondRead.{up_taken, down_taken}
use Rattle.smarts_words.proofs.bond.word_at.Goals as goal

pub returns-in-47-clause-reads : goal.returns-in-47-clause-reads
returns-in-47-clause-reads c = up_taken c.args.bytes.now _ (front_two c.args.bytes.now 47 63 c.in-47.len_at_least
    (omega arith) (omega arith))

pub returns-in-92-clause-reads : goal.returns-in-92-clause-reads
returns-in-92-clause-reads c = down_taken c.args.bytes.now _ (front_two c.args.bytes.now 92 63 c.in-92.len_at_least
    (omega arith) (omega arith))
