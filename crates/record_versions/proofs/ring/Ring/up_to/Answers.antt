use Rattle.std.proofs.Common.{◌≡◌, ◌++◌, ◌≤◌, [], ◌∷◌, ◌∙◌, ap, arith, get_or, option_to_list, subst, sym}
use Rattle.record_versions.specs.Rows.{Row}
use Rattle.record_versions.proofs.Order.{Ascends, up-to-last}
use Rattle.record_versions.proofs.ring.Ring.up_to.Goals as goal

pub returns-in-Some-clause-before : goal.returns-in-Some-clause-before
returns-in-Some-clause-before g c =
    let older = c.self.inside.older.items in
    let same : older ++ c.in-Some.newest ∷ [] ≡ c.args.self.now.entries =
    ap (λ o. older ++ option_to_list o) (sym c.in-Some.is) ∙ ap (λ (r : Row g.row.V.Denot). r.entries) c.self.view_is
    in
    λ k d low high. subst (λ ks. (get_or ks k d).version ≤ c.args.version) same
    (up-to-last c.args.version older c.in-Some.newest (subst Ascends (sym same) c.requires) c.if-newest-version.true
    k d low (omega (arith, high, c.self.inside.older.ok.0)))
