use Rattle.std.proofs.Common.{◌≡◌, ◌∙◌, ◌<◌, ap, arith, below_more, length, slice_index, sym}
use Rattle.chem_core.specs.Molecule.{ends_of}
use Rattle.matcher.specs.Group.{group_at}
use Rattle.matcher.proofs.Groups.{group_read, named_walks, walks_named}
use Rattle.matcher.proofs.group.keeps_group.Goals as goal

pub returns-then-there-component : goal.returns-then-there-component
returns-then-there-component c =
    let task = c.args.task.now in
    let place = c.loop-place.place in
    let stands = slice_index c.args.taken.now place in
    let room : place < length task.graph.now.groups.items = omega
    (arith, c.loop-place-test.true, c.min-place-end.ensures, c.len.ensures, task.graph.now.groups.ok.0) in
    let is = group_read task place c.index-theirs.result.now room c.index-theirs.ensures in
    let within : stands < length task.mol.now.atoms = omega
    (arith, c.if-from-atoms.false, c.from.ensures, ap length c.atoms.ensures.value) in (
      λ f. absurd (cc),
      λ keeps. absurd (c.if-there-component.true
          ((named_walks (ends_of task.mol.now) stands c.args.atom c.component-there.result c.component-component.result
          (group_at task place ≡ c.args.group) c.component-there.ensures c.component-component.ensures
          (keeps place (omega (arith, c.loop-place-test.true, c.min-place-end.ensures)) within
          (λ z. c.if-theirs-eq0.false (is ∙ z)))).0
          (sym is ∙ c.if-theirs-group.true))),
    )

pub loop-place-preserved-then-theirs-group : goal.loop-place-preserved-then-theirs-group
loop-place-preserved-then-theirs-group c =
    let task = c.args.task.now in
    let place = c.loop-place.place in
    let stands = slice_index c.args.taken.now place in
    let room : place < length task.graph.now.groups.items = omega
    (arith, c.loop-place-test.true, c.min-place-end.ensures, c.len.ensures, task.graph.now.groups.ok.0) in
    let is = group_read task place c.index-theirs.result.now room c.index-theirs.ensures in
    below_more _ _ c.loop-place.invariant
    (λ _ _. walks_named (ends_of task.mol.now) stands c.args.atom c.component-there.result c.component-component.result
    (group_at task place ≡ c.args.group) c.component-there.ensures c.component-component.ensures
    (λ _. c.if-there-component.false, λ _. sym is ∙ c.if-theirs-group.true))

pub returns-then-there-component-2 : goal.returns-then-there-component-2
returns-then-there-component-2 c =
    let task = c.args.task.now in
    let place = c.loop-place.place in
    let stands = slice_index c.args.taken.now place in
    let room : place < length task.graph.now.groups.items = omega
    (arith, c.loop-place-test.true, c.min-place-end.ensures, c.len.ensures, task.graph.now.groups.ok.0) in
    let is = group_read task place c.index-theirs.result.now room c.index-theirs.ensures in
    let within : stands < length task.mol.now.atoms = omega
    (arith, c.if-from-atoms.false, c.from.ensures, ap length c.atoms.ensures.value) in (
      λ f. absurd (cc),
      λ keeps. absurd (c.if-theirs-group.false (is
          ∙ (named_walks (ends_of task.mol.now) stands c.args.atom c.component-there.result
          c.component-component.result (group_at task place ≡ c.args.group) c.component-there.ensures
          c.component-component.ensures
          (keeps place (omega (arith, c.loop-place-test.true, c.min-place-end.ensures)) within
          (λ z. c.if-theirs-eq0.false (is ∙ z)))).1
          c.if-there-component-2.true)),
    )

pub loop-place-preserved : goal.loop-place-preserved
loop-place-preserved c =
    let task = c.args.task.now in
    let place = c.loop-place.place in
    let stands = slice_index c.args.taken.now place in
    let room : place < length task.graph.now.groups.items = omega
    (arith, c.loop-place-test.true, c.min-place-end.ensures, c.len.ensures, task.graph.now.groups.ok.0) in
    let is = group_read task place c.index-theirs.result.now room c.index-theirs.ensures in
    below_more _ _ c.loop-place.invariant
    (λ _ _. walks_named (ends_of task.mol.now) stands c.args.atom c.component-there.result c.component-component.result
    (group_at task place ≡ c.args.group) c.component-there.ensures c.component-component.ensures
    (λ same. absurd (c.if-theirs-group.false (is ∙ same)), λ same. absurd (c.if-there-component-2.false same)))
