use Rattle.std.proofs.Common.{◌≡◌, ◌<◌, Ok, false, length, drop, ap, sym, ◌∙◌}
use Rattle.std.specs.Vec.{vec_len}
use Rattle.std.proofs.lemmas.Bool.{false≢true}
use Rattle.std.proofs.lemmas.List.{get_or_read, take_at}
use Rattle.std.proofs.lemmas.Option.{slice_get_within}
use Rattle.aromatic.proofs.Cycles.{bonds-within, ends-candidates, links-closed, links-mutual, marks-path, marks-same, reach-from_cycle}
use Rattle.aromatic.proofs.MarkSteps.{ends_at_place}
use Rattle.aromatic.proofs.Sketches.{bond-in_graph}
use Rattle.aromatic.proofs.huckel.mark_through.Goals as goal
use Rattle.aromatic.proofs.huckel.mark_through.Goals.{then-not-index-via-then-not-index, then-not-index-via-else-not-index+then-not-are_candidates, then-not-index-via-else-not-index+else-not-are_candidates+then-marks-place}

pub are_candidates-requires-clause-a_in_range : goal.are_candidates-requires-clause-a_in_range
are_candidates-requires-clause-a_in_range c = (bond-in_graph _ _ c.args.place _ c.requires.net.graph c.requires.place).0

pub are_candidates-requires-clause-b_in_range : goal.are_candidates-requires-clause-b_in_range
are_candidates-requires-clause-b_in_range c = (bond-in_graph _ _ c.args.place _ c.requires.net.graph c.requires.place).1

pub closes-requires-clause-closed : goal.closes-requires-clause-closed
closes-requires-clause-closed c = rw c.deref.ensures.value (links-closed _ _ _ _ c.requires.net)

pub closes-requires-clause-both_ways : goal.closes-requires-clause-both_ways
closes-requires-clause-both_ways c = rw c.deref.ensures.value (links-mutual _ _ _ _ c.requires.net)

pub mark_path-requires : goal.mark_path-requires
mark_path-requires c =
    let here = ends_at_place c.args.bonds.now c.args.place _ c.requires.place in
    let found = rw c.deref.ensures.value at (c.in_ok-closes.ensures.found (ap (λ b. Ok b) c.if-branch.true)) in
    rw (c.deref-then-branch.ensures.value, c.requires.marks.count) (λ k d lt.
    bonds-within _ _ _ _ c.closes.new.scratch.path.links.items _ _ _ c.requires.net here found k d lt)

pub returns-then-not-index-clause-marks : goal.returns-then-not-index-clause-marks
returns-then-not-index-clause-marks c =
    let here = ends_at_place c.args.bonds.now c.args.place _ c.requires.place in
    let within : c.args.place < length c.args.search.now.possible.items =
    rw c.requires.net.count (slice_get_within _ c.args.place _ here) in
    let read = get_or_read _ _ _ within c.index.ensures false in
    marks-same _ _ _ _ c.requires.marks (λ on.
    let need = reach-from_cycle _ _ _ _ _ _ _ c.requires.net here on in
    elim c.then-not-index.branch [
      | then-not-index-via-then-not-index w ↦ absurd (false≢true (sym w.if-not-index.true ∙ read ∙ need.0))
      | then-not-index-via-else-not-index+then-not-are_candidates w ↦
          absurd (false≢true (sym w.if-not-are_candidates.true
          ∙ w.are_candidates.ensures.1 (ends-candidates _ _ _ _ _ _ c.requires.net need.1)))
      | then-not-index-via-else-not-index+else-not-are_candidates+then-marks-place w ↦ w.if-marks-place.true
    ])

pub returns-then-branch-clause-marks : goal.returns-then-branch-clause-marks
returns-then-branch-clause-marks c =
    let here = ends_at_place c.args.bonds.now c.args.place _ c.requires.place in
    let found = rw c.deref.ensures.value at (c.in_ok-closes.ensures.found (ap (λ b. Ok b) c.if-branch.true)) in
    marks-path _ _ _ _ _ _ _ c.args.marks.now c.mark_path.new.marks c.closes.new.scratch.path.links.items c.requires.net
    here found c.requires.marks c.mark_path.auto.marks (rw c.deref-then-branch.ensures.value at c.mark_path.ensures)

pub returns-else-branch-clause-marks : goal.returns-else-branch-clause-marks
returns-else-branch-clause-marks c =
    let here = ends_at_place c.args.bonds.now c.args.place _ c.requires.place in
    let none = rw c.deref.ensures.value at (c.in_ok-closes.ensures.none (ap (λ b. Ok b) c.if-branch.false)) in
    marks-same _ _ _ _ c.requires.marks (λ on. absurd (none (reach-from_cycle _ _ _ _ _ _ _ c.requires.net here on).1))

pub returns-else-branch-clause-net : goal.returns-else-branch-clause-net
returns-else-branch-clause-net c =
    let here = ends_at_place c.args.bonds.now c.args.place _ c.requires.place in
    let none = rw c.deref.ensures.value at (c.in_ok-closes.ensures.none (ap (λ b. Ok b) c.if-branch.false)) in
    let less = rw (c.deref_mut.ensures.value, c.deref_mut-else-branch.ensures.value) at
    (c.rule_out.ensures.net c.args.gives.now) in
    let long : length c.rule_out.new.possible ≡ vec_len c.args.search.now.possible = c.rule_out.auto.possible
    ∙ ap (λ xs. length xs) c.deref_mut.ensures.value ∙ sym c.args.search.now.possible.ok.0 in
    let long' : length c.rule_out.new.links ≡ vec_len c.args.search.now.links = c.rule_out.auto.links
    ∙ ap (λ xs. length xs) c.deref_mut-else-branch.ensures.value ∙ sym c.args.search.now.links.ok.0 in
    rw (
      take_at c.rule_out.new.possible (drop (length c.rule_out.new.possible) c.args.search.now.possible.items)
          (vec_len c.args.search.now.possible) long,
      take_at c.rule_out.new.links (drop (length c.rule_out.new.links) c.args.search.now.links.items)
          (vec_len c.args.search.now.links) long',
    )
    (less c.requires.net (λ on. none (reach-from_cycle _ _ _ _ _ _ _ c.requires.net here on).1))
