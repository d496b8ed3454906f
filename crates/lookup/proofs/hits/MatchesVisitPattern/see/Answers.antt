use Rattle.std.proofs.Common.{◌↔◌, ◌++◌, ◌∙◌, [], ◌∷◌, ap, IsTrue, List, subst, sym, ℕ}
use Rattle.chem_core.specs.Molecule.{Molecule}
use Rattle.smarts_parse.specs.Embedding.{Matches}
use Rattle.smarts_parse.specs.Pattern.{pattern_of}
use Rattle.store_core.specs.Records.{found_of}
use Rattle.store_machine.specs.Answers.{AreMatched}
use Rattle.par_search.proofs.Matched.{passed-by, put-on}
use Rattle.lookup.proofs.hits.MatchesVisitPattern.see.Goals as goal

pub returns-in_ok-push : goal.returns-in_ok-push
returns-in_ok-push c = λ start before seen.
    let p = pattern_of c.args.given.now in
    let r = c.args.other.now in
    let is = subst (λ (m : Molecule). IsTrue c.has.result ↔ Matches p m) c.mol.ensures.mol c.has.ensures in
    subst (λ (l : List ℕ). AreMatched p (before ++ found_of r ∷ []) l)
    (ap (λ (n : ℕ). c.args.self.now.hits.items ++ n ∷ []) (sym c.id-id.ensures.id) ∙ sym c.in_ok-push.ensures.items)
    (put-on c.one_structure.ensures p before r c.args.self.now.hits.items c.has.result c.id-id.ensures.sound is
    c.if-has.true seen)

pub returns-else-has : goal.returns-else-has
returns-else-has c = λ start before seen.
    let p = pattern_of c.args.given.now in
    let is = subst (λ (m : Molecule). IsTrue c.has.result ↔ Matches p m) c.mol.ensures.mol c.has.ensures in
    passed-by c.one_structure.ensures p before c.args.other.now c.args.self.now.hits.items c.has.result
    c.id-id.ensures.sound is c.if-has.false seen
