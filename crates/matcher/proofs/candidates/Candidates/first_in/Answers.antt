use Rattle.matcher.proofs.Beginnings.{first_read}
use Rattle.matcher.proofs.candidates.Candidates.first_in.Goals as goal

pub returns : goal.returns
returns c = first_read c.args.mol.now c.args.self.now.words.items c.args.block c.word.result c.all_in.result
    c.word.ensures c.all_in.ensures
