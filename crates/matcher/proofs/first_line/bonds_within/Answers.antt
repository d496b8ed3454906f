use Rattle.std.proofs.Common.{◌≡◌, ◌<◌, arith, length, max, take}
use Rattle.std.proofs.lemmas.List.{length-map, take_all}
use Rattle.smarts_parse.specs.Pattern.{bond_of, graph_of}
use Rattle.matcher.specs.Counted.{is_sure}
use Rattle.matcher.proofs.Counted.{counted-next}
use Rattle.matcher.proofs.Plans.{high_below}
use Rattle.matcher.proofs.first_line.bonds_within.Goals as goal

pub is_sure-sure-requires : goal.is_sure-sure-requires
is_sure-sure-requires c =
    let is = rw c.deref-bond-items.ensures.value at c.bond-item.is in
    let within = rw c.deref-bond-items.ensures.value at c.loop-bond-test.true in
    let g = graph_of c.args.graph.now in
    let below : max c.bond-item.result.a c.bond-item.result.b < length g.atoms =
    high_below c.args.graph.now.bonds.items g c.loop-bond.bond-index c.bond-item.result within is
    c.requires.searchable.ends in
    let room = c.requires.planned.room in
    omega (arith, below, room)

pub loop-bond-preserved : goal.loop-bond-preserved
loop-bond-preserved c =
    let is = rw c.deref-bond-items.ensures.value at c.bond-item.is in
    let within = rw c.deref-bond-items.ensures.value at c.loop-bond-test.true in
    counted-next (is_sure c.args.sort c.args.steps.now) c.args.graph.now.bonds.items c.loop-bond.bond-index
    c.bond-item.result c.loop-bond.count c.raise-raised.result c.is_sure-sure.result within is c.is_sure-sure.ensures
    c.raise-raised.ensures c.loop-bond.invariant

pub returns : goal.returns
returns c =
    let terms = (graph_of c.args.graph.now).bonds in
    let items = c.args.graph.now.bonds.items in
    let past = rw c.deref-bond-items.ensures.value at c.loop-bond-test.false in
    let all : take c.loop-bond.bond-index terms ≡ terms =
    take_all c.loop-bond.bond-index terms (omega (arith, past, length-map items bond_of)) in
    rw all at c.loop-bond.invariant
