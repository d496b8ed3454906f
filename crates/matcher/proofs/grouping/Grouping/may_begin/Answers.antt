use Rattle.std.proofs.Common.{◌≡◌, ◌∙◌, ◌<◌, ◌≤◌, arith, below_more, length, subst, sym}
use Rattle.std.proofs.lemmas.List.{get_or-set_other, get_or-set_same, length-map}
use Rattle.smarts_parse.specs.Pattern.{term_of}
use Rattle.matcher.specs.Hunt.{AreTaken, Continues}
use Rattle.matcher.proofs.Hunts.{none_taken, none_used, taken_more, used_more}
use Rattle.matcher.proofs.grouping.Grouping.may_begin.Goals as goal

pub loop-other-preserved : goal.loop-other-preserved
loop-other-preserved c =
    let places = c.args.task.now.graph.now.atoms in
    let image = c.loop-other.self.image in
    let other = c.loop-other.other in
    let few = c.requires.ready.searchable.few in
    let room : other < length image.items = omega (
      arith,
      few,
      length-map places.items term_of,
      c.loop-other-test.true,
      c.len-other-end.ensures,
      places.ok.0,
      c.loop-other.self.image_room,
      image.ok.0,
    ) in
    below_more _ _ (λ k l. get_or-set_other image.items other k _ 0 (λ e. absurd (omega arith))
    ∙ c.loop-other.invariant k l) (get_or-set_same image.items other _ 0 room)

pub returns : goal.returns
returns c = λ f image e at.
    let task = c.args.task.now in
    let items = task.graph.now.atoms.items in
    let all : c.loop-other.other ≡ length items = omega
    (arith, c.loop-other-test.false, c.loop-other.auto.other-end, c.len-other-end.ensures) in
    let free = rw c.atoms.ensures.value at c.loop-other.invariant in
    c.may_continue.ensures.none f image
    (subst (λ taken. Continues task taken image) (sym c.deref_mut.ensures.value)
    (taken_more task _ image c.args.place c.args.atom (omega arith)
    (none_taken task _ image c.loop-other.other (all ∙ sym (length-map items term_of)) free e) at))

pub may_continue-requires-clause-used : goal.may_continue-requires-clause-used
may_continue-requires-clause-used c =
    let task = c.args.task.now in
    let items = task.graph.now.atoms.items in
    let image = c.loop-other.self.image.items in
    let few = c.requires.ready.searchable.few in
    let all : c.loop-other.other ≡ length items = omega
    (arith, c.loop-other-test.false, c.loop-other.auto.other-end, c.len-other-end.ensures) in
    let room : length items ≤ length image = omega
    (arith, few, length-map items term_of, c.loop-other.self.image_room, c.loop-other.self.image.ok.0) in
    let none = rw c.atoms.ensures.value at c.loop-other.invariant in
    let free = none c.args.place (omega (arith, c.requires.place)) in
    subst (AreTaken task c.with_taken.result) (sym c.deref_mut.ensures.value)
    (used_more task image 0 c.with_taken.result c.args.place c.args.atom c.requires.place room (omega arith)
    c.requires.atom (none_used task image) c.with_taken.ensures)
