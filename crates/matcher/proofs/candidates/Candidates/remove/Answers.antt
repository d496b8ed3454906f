use Rattle.matcher.proofs.Removals.{fewer_left, others_kept}
use Rattle.matcher.proofs.candidates.Candidates.remove.Goals as goal

pub returns-in-Some-clause-others : goal.returns-in-Some-clause-others
returns-in-Some-clause-others c = λ p a low other.
    let word = c.in-Some.ensures.item.3 in
    others_kept c.args.self.now.words.items c.from.result c.args.place c.args.atom c.in-Some.word.now c.from.ensures
    word.0 (word.1 0) p a c.requires low other

pub returns-in-Some-clause-fewer : goal.returns-in-Some-clause-fewer
returns-in-Some-clause-fewer c =
    let word = c.in-Some.ensures.item.3 in
    fewer_left c.args.self.now.words.items c.from.result c.args.place c.args.atom c.in-Some.word.now c.from.ensures
    word.0 (word.1 0)
