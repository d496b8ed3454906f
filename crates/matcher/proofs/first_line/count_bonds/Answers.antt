use Rattle.std.proofs.Common.{arith, count_by, min, refl}
use Rattle.chem_core.specs.Sorts.{bond_sort}
use Rattle.smarts_parse.specs.Pattern.{graph_of}
use Rattle.matcher.specs.Counted.{is_sure}
use Rattle.matcher.proofs.Counted.{filled-next}
use Rattle.matcher.proofs.first_line.count_bonds.Goals as goal

pub loop-k-init : goal.loop-k-init
loop-k-init c = record { long = refl; done = λ k h. absurd (omega arith) }

pub loop-k-preserved : goal.loop-k-preserved
loop-k-preserved c =
    let i = c.loop-k.k in
    let terms = (graph_of c.args.graph.now).bonds in
    let steps = c.args.steps.now in
    let is = rw c.bond_sorts-sorts.ensures.value at c.bonds_within-count.ensures in
    filled-next (λ k. min 255 (count_by (is_sure (bond_sort k) steps) terms)) c.loop-k.counts i
    c.bonds_within-count.result (omega arith) is c.loop-k.invariant

pub returns : goal.returns
returns c k low = c.loop-k.invariant.done k (omega (arith, low, c.loop-k-test.false))
