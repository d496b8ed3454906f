use Rattle.std.proofs.Common.{◌≡◌, arith, length, subst, sym}
use Rattle.matcher.specs.Candidates.{AreCandidates}
use Rattle.matcher.proofs.Places.{take_all}
use Rattle.matcher.proofs.narrow.Narrowing.refuse.Goals as goal

pub returns-clause-candidates : goal.returns-clause-candidates
returns-clause-candidates c =
    let same : length c.narrow-refused.new.words ≡ c.args.candidates.now.words.len = omega
    (arith, c.deref_mut-2.ensures.len, c.narrow-refused.auto.words) in
    subst (AreCandidates c.args.task.now)
    (sym (take_all c.args.candidates.now.words.len c.narrow-refused.new.words _ (sym same)))
    c.narrow-refused.ensures.candidates
