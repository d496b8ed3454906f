use Rattle.std.proofs.Common.{◌≡◌, List, length, take, count_by, arith, rules, sym, ap, subst, ◌∙◌}
use Rattle.std.proofs.lemmas.List.{length-take-le}
use Rattle.chem_core.specs.Sketch.{SketchTerm}
use Rattle.chem_core.specs.Sound.{IsSound}
use Rattle.chem_core.specs.declared.sketch.SketchBond.{SketchBond}
use Rattle.valence.specs.Suppressed.{is_suppressed, brings, staying_atoms, staying_bonds}
use Rattle.valence.proofs.Sums.{bond-in_graph, brought-le}
use Rattle.valence.proofs.Staying.{gone, new_place-front, number_at, same_sketch, bonds-in_range, few_at, suppressed-is, suppressed-sound}
use Rattle.valence.proofs.suppression.take_hydrogens.Goals as goal

pub suppressed_atoms-goes-requires-clause-in_range :
    goal.suppressed_atoms-goes-requires-clause-in_range
suppressed_atoms-goes-requires-clause-in_range c =
    rw (
      c.deref.ensures.value,
      c.deref-2.ensures.value,
      ap (λ s. s.atoms) c.sketch.view_is,
      ap (λ s. s.bonds) c.sketch.view_is,
    )
    (λ k d h. let at = bond-in_graph c.args.sketch.now.bonds _ k d c.requires.sound.graph h in (at.0, at.1))

pub suppressed_atoms-goes-requires-clause-distinct :
    goal.suppressed_atoms-goes-requires-clause-distinct
suppressed_atoms-goes-requires-clause-distinct c =
    rw (c.deref-2.ensures.value, ap (λ s. s.bonds) c.sketch.view_is)
    (λ k d h. (bond-in_graph c.args.sketch.now.bonds _ k d c.requires.sound.graph h).2)

pub suppressed_atoms-goes-requires-clause-few_neighbours :
    goal.suppressed_atoms-goes-requires-clause-few_neighbours
suppressed_atoms-goes-requires-clause-few_neighbours c =
    rw (c.deref-2.ensures.value, ap (λ s. s.bonds) c.sketch.view_is) (few_at c.args.sketch.now c.requires.sound)

pub gains-gains-requires-clause-in_range : goal.gains-gains-requires-clause-in_range
gains-gains-requires-clause-in_range c =
    rw (c.deref-3.ensures.value, ap (λ s. s.bonds) c.sketch.view_is)
    (bonds-in_range c.args.sketch.now c.requires.sound)

pub gains-gains-requires-clause-distinct : goal.gains-gains-requires-clause-distinct
gains-gains-requires-clause-distinct c =
    rw (c.deref-3.ensures.value, ap (λ s. s.bonds) c.sketch.view_is)
    (λ k d h. (bond-in_graph c.args.sketch.now.bonds _ k d c.requires.sound.graph h).2)

pub gains-gains-requires-clause-few : goal.gains-gains-requires-clause-few
gains-gains-requires-clause-few c =
    rw (c.deref-3.ensures.value, ap (λ s. s.bonds) c.sketch.view_is) (few_at c.args.sketch.now c.requires.sound)

pub keep_atoms-requires-clause-few_more : goal.keep_atoms-requires-clause-few_more
keep_atoms-requires-clause-few_more c = λ a.
    rw (c.gains-gains.ensures a, c.deref-3.ensures.value, ap (λ s. s.bonds) c.sketch.view_is)
    (omega (
      arith,
      brought-le (gone c.suppressed_atoms-goes.result) a c.args.sketch.now.bonds,
      few_at c.args.sketch.now c.requires.sound a,
    ))

pub keep_bonds-requires : goal.keep_bonds-requires
keep_bonds-requires c =
    let long : length c.new_places-places.result ≡ 999 = search rules in
    rw (long, ap (λ s. s.bonds) c.sketch.view_is) (bonds-in_range c.args.sketch.now c.requires.sound)

pub returns-clause-suppressed : goal.returns-clause-suppressed
returns-clause-suppressed c =
    let s : SketchTerm = c.args.sketch.now in
    let goes = c.suppressed_atoms-goes.result in
    let atoms = ap (λ s. s.atoms) c.sketch.view_is in
    let bonds = ap (λ s. s.bonds) c.sketch.view_is in
    let same_lists = same_sketch _ _ _ _ c.deref.ensures.value c.deref-2.ensures.value ∙ c.sketch.view_is in
    let few = c.requires.sound.graph.few_atoms in
    let count : c.len.result ≡ length s.atoms = omega (arith, ap length atoms) in
    let long : length goes ≡ 999 = search rules in
    let front : length (take c.len.result goes) ≡ c.len.result = length-take-le c.len.result goes (omega arith) in
    suppressed-is s goes c.gains-gains.result c.new_places-places.result _ _ c.requires.sound
    (λ a. c.suppressed_atoms-goes.ensures a ∙ ap (λ (t : SketchTerm). is_suppressed t a) same_lists)
    (λ a. c.gains-gains.ensures a ∙ ap (λ (bs : List SketchBond). count_by (brings (gone goes) a) bs)
    (c.deref-3.ensures.value ∙ bonds))
    (λ a h. c.new_places-places.ensures a (omega (arith, front)) ∙ new_place-front goes c.len.result a (omega arith))
    (c.keep_atoms.ensures ∙ ap (staying_atoms (gone goes) (number_at c.gains-gains.result)) atoms)
    (c.keep_bonds.ensures ∙ ap (staying_bonds (gone goes) (number_at c.new_places-places.result)) bonds)

pub returns-clause-sound : goal.returns-clause-sound
returns-clause-sound c = subst IsSound (sym (returns-clause-suppressed c))
    (suppressed-sound c.args.sketch.now c.requires.sound c.requires.few)
