use Rattle.std.proofs.Common.{◌≡◌, ◌++◌, [], ◌∷◌, ◌∙◌, ap, arith, option_to_list, Some, subst, sym}
use Rattle.record_versions.specs.Entries.{IsLatest}
use Rattle.record_versions.specs.Rows.{Row}
use Rattle.record_versions.proofs.Order.{Ascends, latest-before, latest-last}
use Rattle.record_versions.proofs.ring.Ring.latest.Goals as goal

pub returns-in-Some : goal.returns-in-Some
returns-in-Some g c =
    let older = c.self.inside.older.items in
    let same : older ++ c.in-Some.newest ∷ [] ≡ c.args.self.now.entries =
    ap (λ o. older ++ option_to_list o) (sym c.in-Some.is) ∙ ap (λ (r : Row g.row.V.Denot). r.entries) c.self.view_is
    in
    subst (λ ks. IsLatest c.args.version ks (Some c.in-Some.newest)) same
    (latest-last c.args.version older c.in-Some.newest (subst Ascends (sym same) c.requires) c.if-newest-version.true)

pub returns-in_ok-checked_sub-in_default : goal.returns-in_ok-checked_sub-in_default
returns-in_ok-checked_sub-in_default g c =
    latest-before c.args.version c.in_ok-checked_sub-in_default.field-0 c.up_to.result c.args.self.now.entries
    c.index.result.now (omega arith) c.up_to.ensures.within c.requires c.up_to.ensures.before c.up_to.ensures.behind
    c.index.ensures
