use Rattle.std.proofs.Common.{◌≡◌, ◌∷◌, [], ◌++◌, arith}
use Rattle.std.proofs.lemmas.Grind.{common_steps}
use Rattle.smarts_parse.proofs.Bonds.{bonds_more}
use Rattle.smarts_parse.proofs.build.bonds.Goals as goal

pub loop-link-preserved : goal.loop-link-preserved
loop-link-preserved c =
    let e : c.push.new.self.items ≡ c.loop-link.bonds.items ++ c.in_ok-bond.field-0 ∷ [] =
    grind (arith, common_steps) in
    bonds_more c.args.links.now c.loop-link.link-index c.link-item.result c.loop-link.bonds.items c.push.new.self.items
    c.in_ok-bond.field-0 (omega arith) c.link-item.is e c.loop-link.invariant c.in_ok-bond.ensures
