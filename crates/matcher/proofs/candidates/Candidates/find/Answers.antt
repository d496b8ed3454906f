use Rattle.std.proofs.Common.{◌≡◌, arith, length, subst, sym}
use Rattle.matcher.specs.Candidates.{AreTruths}
use Rattle.matcher.proofs.Places.{take_all}
use Rattle.matcher.proofs.Standing.{candidates_of}
use Rattle.matcher.proofs.candidates.Candidates.find.Goals as goal

pub returns-clause-truths : goal.returns-clause-truths
returns-clause-truths c =
    let same : length c.find_truths.new.words ≡ c.args.self.now.words.len = omega
    (arith, c.deref_mut.ensures.len, c.find_truths.auto.words) in
    subst (AreTruths c.args.task.now)
    (sym (take_all c.args.self.now.words.len c.find_truths.new.words _ (sym same))) c.find_truths.ensures

pub returns-clause-candidates : goal.returns-clause-candidates
returns-clause-candidates c = candidates_of c.args.task.now _ (returns-clause-truths c)
