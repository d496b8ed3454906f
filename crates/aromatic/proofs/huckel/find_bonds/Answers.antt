use Rattle.aromatic.specs.Links.{links_in}
use Rattle.aromatic.proofs.Found.{bonds-found, net-found}
use Rattle.aromatic.proofs.huckel.find_bonds.Goals as goal

pub aromatic_bonds-requires : goal.aromatic_bonds-requires
aromatic_bonds-requires c =
    let linked = rw c.deref.ensures.value at c.in_ok-links.ensures in
    let net = net-found _ _ c.args.rows.now c.in_ok-gives.gives.items (links_in c.in_ok-links.links.items)
    c.requires.sound c.requires.rings c.requires.rows c.in_ok-gives.ensures linked in
    record { net = rw c.deref-2.ensures.value net }

pub returns : goal.returns
returns c =
    let marked = rw c.deref-2.ensures.value at c.in_ok-marks.ensures in
    bonds-found _ _ c.args.rows.now c.in_ok-gives.gives.items c.in_ok-marks.marks.items c.requires.rows
    c.in_ok-gives.ensures marked
