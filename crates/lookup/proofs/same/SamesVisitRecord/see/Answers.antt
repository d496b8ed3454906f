use Rattle.std.proofs.Common.{◌++◌, ◌∙◌, [], ◌∷◌, ap, sym}
use Rattle.std.proofs.lemmas.Bool.{false≢true}
use Rattle.exact_find.specs.Same.{IsSame}
use Rattle.lookup.proofs.Picked.{passed-by, picked-on}
use Rattle.lookup.proofs.same.SamesVisitRecord.see.Goals as goal

pub returns-in_ok-push : goal.returns-in_ok-push
returns-in_ok-push c = λ start before seen.
    let is = (c.is_same.ensures.is seen.molecule seen.key_is).0 c.if-is_same.true in
    picked-on c.args.given.now.mol c.args.self.now.key c.is_same.new.self.key before c.args.other.now
    c.args.self.now.hits.items _ c.id.result c.is_same.ensures.structure is c.is_same.ensures.key c.id.ensures.id
    (c.in_ok-push.ensures.items ∙ ap (λ v. v.items ++ c.id.result ∷ []) c.is_same.ensures.hits) seen

pub returns-else-is_same : goal.returns-else-is_same
returns-else-is_same c = λ start before seen.
    let not : IsSame c.args.given.now.mol c.args.other.now.mol → ⊥ = λ same. false≢true (sym c.if-is_same.false
    ∙ (c.is_same.ensures.is seen.molecule seen.key_is).1 same) in
    passed-by c.one_structure.ensures c.args.given.now.mol c.args.self.now.key c.is_same.new.self.key before
    c.args.other.now c.args.self.now.hits.items c.is_same.new.self.hits.items c.is_same.ensures.structure not
    c.is_same.ensures.key (ap (λ v. v.items) c.is_same.ensures.hits) seen
