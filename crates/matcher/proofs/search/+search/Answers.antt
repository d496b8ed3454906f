-- Each atom is tried in turn.
use Rattle.std.proofs.Common.{◌≡◌, ◌++◌, ◌∷◌, ◌∙◌, ◌<◌, ◌≤◌, [], ap, arith, below_more, get_or, length, map, refl, rules, slice_index_or, subst, sym, take}
use Rattle.std.proofs.lemmas.Bool.{iff_false}
use Rattle.std.proofs.lemmas.List.{length-map, length-take-le, take_more_set}
use Rattle.smarts_mean.specs.Table.{HoldsIn}
use Rattle.smarts_parse.specs.Embedding.{BondEmbeds}
use Rattle.smarts_parse.specs.Pattern.{BondTerm, bond_of, graph_of, term_of}
use Rattle.matcher.specs.Candidates.{IsTrueAt}
use Rattle.matcher.specs.Partial.{IsLeastFrom, IsPartial}
use Rattle.matcher.specs.Plan.{step_at}
use Rattle.matcher.specs.Task.{Completes}
use Rattle.matcher.proofs.Standing.{cannot_begin}
use Rattle.matcher.proofs.Joins.{joins_in_range, neighbour_joined}
use Rattle.matcher.proofs.Leasts.{found_next, least_whole}
use Rattle.matcher.proofs.Places.{kept_less}
use Rattle.matcher.proofs.Near.{near_false, near_step, none_lower, none_near}
use Rattle.matcher.proofs.Partials.{CanComplete-none, CanComplete-same, IsPartial-from_completion, IsPartial-whole, left_over}
use Rattle.matcher.proofs.search.+search.Goals as goal

pub extend-returns-then-placed-len-clause-found : goal.extend-returns-then-placed-len-clause-found
extend-returns-then-placed-len-clause-found t c =
    let g = graph_of c.args.task.now.graph.now in
    let m = c.args.task.now.mol.now in
    let parts = HoldsIn c.args.task.now.table.now in
    let n = length c.args.task.now.graph.now.atoms.items in
    let front = take c.args.placed c.args.image.now in
    let room : c.args.placed ≤ length c.args.image.now = let r = c.requires.room in let f = c.requires.few
    in omega arith in
    let size : length front ≡ c.args.placed = length-take-le c.args.placed c.args.image.now room in
    let all : length g.atoms ≡ n = length-map c.args.task.now.graph.now.atoms.items term_of in
    let last : c.args.placed ≡ n = omega (arith, c.args.task.now.graph.now.atoms.ok.0) in
    let full : length front ≡ length g.atoms = size ∙ last ∙ sym all in
    λ _. subst (λ k. IsLeastFrom parts g m front (take k c.args.image.now)) last
    (least_whole parts g m front full (IsPartial-whole parts g m front c.requires.ready.searchable.ends full
    c.requires.partial))

pub extend_anywhere-returns-then-extend_at-clause-found : goal.extend_anywhere-returns-then-extend_at-clause-found
extend_anywhere-returns-then-extend_at-clause-found t c =
    let g = graph_of c.args.task.now.graph.now in
    let left = left_over term_of c.args.task.now.graph.now.atoms.items c.args.image.now c.args.placed c.requires.room
    c.requires.few in
    λ _. found_next (HoldsIn c.args.task.now.table.now) g c.args.task.now.mol.now (take c.args.placed c.args.image.now)
    (take c.args.placed c.loop-atom.image) c.loop-atom.atom _
    c.loop-atom.invariant.kept left c.loop-atom.invariant.none (c.extend_at.ensures.found c.if-extend_at.true)

pub extend_anywhere-loop-atom-preserved : goal.extend_anywhere-loop-atom-preserved
extend_anywhere-loop-atom-preserved t c = record {
  kept = c.extend_at.ensures.kept ∙ c.loop-atom.invariant.kept;
  none = below_more _ _ c.loop-atom.invariant.none
      (λ w. c.extend_at.ensures.none c.if-extend_at.false
      (CanComplete-same (HoldsIn c.args.task.now.table.now) (graph_of c.args.task.now.graph.now)
      c.args.task.now.mol.now _ _ c.loop-atom.atom c.loop-atom.invariant.kept w));
}

pub extend_anywhere-loop-atom-preserved-then-not-has :
    goal.extend_anywhere-loop-atom-preserved-then-not-has
extend_anywhere-loop-atom-preserved-then-not-has t c =
    let room : c.args.placed ≤ length c.args.image.now = let r = c.requires.room in let f = c.requires.few
    in omega arith in
    record {
      kept = c.loop-atom.invariant.kept;
      none = below_more _ _ c.loop-atom.invariant.none
          (cannot_begin c.args.task.now c.args.candidates.now.words.items (take c.args.placed c.args.image.now)
          c.args.placed _ c.requires.candidates (length-take-le c.args.placed c.args.image.now room) c.requires.few
          (iff_false c.has.ensures c.if-not-has.true));
    }

pub extend_anywhere-has-requires : goal.extend_anywhere-has-requires
extend_anywhere-has-requires t c =
    let few = c.requires.ready.searchable.few in
    omega (arith, few, c.requires.few, length-map c.args.task.now.graph.now.atoms.items term_of)

pub extend_near-has-requires : goal.extend_near-has-requires
extend_near-has-requires t c =
    let few = c.requires.ready.searchable.few in
    omega (arith, few, c.requires.few, length-map c.args.task.now.graph.now.atoms.items term_of)

pub extend_anywhere-extend_at-requires : goal.extend_anywhere-extend_at-requires
extend_anywhere-extend_at-requires t c =
    let task = c.args.task.now in
    let in_range : c.loop-atom.atom < length task.mol.now.atoms = omega
    (arith, c.loop-atom-test.true, ap length c.atoms.ensures.value) in (
      search rules,
      (
        c.requires.ready,
        (
          omega (arith, c.requires.room),
          (
            c.requires.few,
            (
              in_range,
              (
                subst (IsPartial (HoldsIn task.table.now) (graph_of task.graph.now) task.mol.now)
                    (sym c.loop-atom.invariant.kept) c.requires.partial,
                (
                  λ d lt. absurd (c.requires.free lt),
                  (
                    c.requires.candidates.held _ _ c.requires.few in_range (c.has.ensures.0 c.if-not-has.false),
                    c.requires.candidates,
                  ),
                ),
              ),
            ),
          ),
        ),
      ),
    )

pub extend_anywhere-returns-clause-none : goal.extend_anywhere-returns-clause-none
extend_anywhere-returns-clause-none t c =
    let left = left_over term_of c.args.task.now.graph.now.atoms.items c.args.image.now c.args.placed c.requires.room
    c.requires.few in
    λ _. CanComplete-none (HoldsIn c.args.task.now.table.now) (graph_of c.args.task.now.graph.now)
    c.args.task.now.mol.now (take c.args.placed c.args.image.now) left
    (λ a lt. c.loop-atom.invariant.none a (omega (arith, lt, ap length c.atoms.ensures.value)))

pub extend_at-fits-requires-clause-first : goal.extend_at-fits-requires-clause-first
extend_at-fits-requires-clause-first t c =
    let front = take c.args.placed c.args.image.now in
    let steps = c.args.task.now.steps.now in
    let room : c.args.placed ≤ length c.args.image.now = let r = c.requires.room in let f = c.requires.few
    in omega arith in
    let size : length front ≡ c.args.placed = length-take-le c.args.placed c.args.image.now room in
    subst (λ k. (d : BondTerm) → (step_at steps k).from < (step_at steps k).to
    → BondEmbeds c.args.task.now.mol.now (front ++ c.args.atom ∷ [])
    (slice_index_or (map bond_of c.args.task.now.graph.now.bonds.items) (step_at steps k).from d))
    (sym size) c.requires.first

pub extend_at-fits-requires-clause-holds : goal.extend_at-fits-requires-clause-holds
extend_at-fits-requires-clause-holds t c =
    let room : c.args.placed ≤ length c.args.image.now = let r = c.requires.room in let f = c.requires.few
    in omega arith in
    subst (λ k. IsTrueAt c.args.task.now k c.args.atom) (sym (length-take-le c.args.placed c.args.image.now room))
    c.requires.holds

pub extend_at-returns-then-not-fits-clause-none : goal.extend_at-returns-then-not-fits-clause-none
extend_at-returns-then-not-fits-clause-none t c = λ _ w.
    let here = c.fits.ensures.1 (IsPartial-from_completion (HoldsIn c.args.task.now.table.now)
    (graph_of c.args.task.now.graph.now) c.args.task.now.mol.now
    (take c.args.placed c.args.image.now ++ c.args.atom ∷ []) w) in
    absurd (cc)

pub extend_at-returns-then-refuse_group-clause-none : goal.extend_at-returns-then-refuse_group-clause-none
extend_at-returns-then-refuse_group-clause-none t c = λ _ w.
    let room : c.args.placed < length c.args.image.now = let r = c.requires.room in let f = c.requires.few
    in omega arith in
    c.refuse_group.ensures c.if-refuse_group.true
    (subst (Completes c.args.task.now) (sym (take_more_set c.args.image.now c.args.placed c.args.atom room)) w)

pub extend_near-bounds-image-from : goal.extend_near-bounds-image-from
extend_near-bounds-image-from t c =
    let task = c.args.task.now in
    let room : c.args.placed ≤ length c.args.image.now = let r = c.requires.room in let f = c.requires.few
    in omega arith in
    let low = (near_step (HoldsIn task.table.now) (graph_of task.graph.now) task.mol.now task.graph.now.bonds.items
    task.steps.now c.args.image.now c.args.placed c.from.result c.index-bond.result.now refl c.requires.ready
    room (subst (λ n. c.args.placed < n) (sym (length-map task.graph.now.atoms.items term_of)) c.requires.few)
    c.requires.partial c.requires.bonded c.index-bond.ensures (c.from.ensures ∙ c.min.ensures)).0 in
    omega (arith, low)

pub extend_near-neighbours-neighbours-requires : goal.extend_near-neighbours-neighbours-requires
extend_near-neighbours-neighbours-requires t c =
    let task = c.args.task.now in
    let room : c.args.placed ≤ length c.args.image.now = let r = c.requires.room in let f = c.requires.few
    in omega arith in
    (near_step (HoldsIn task.table.now) (graph_of task.graph.now) task.mol.now task.graph.now.bonds.items task.steps.now
    c.args.image.now c.args.placed c.from.result c.index-bond.result.now refl c.requires.ready
    room (subst (λ n. c.args.placed < n) (sym (length-map task.graph.now.atoms.items term_of)) c.requires.few)
    c.requires.partial c.requires.bonded c.index-bond.ensures (c.from.ensures ∙ c.min.ensures)).1.in_range

pub extend_near-bond_true-requires : goal.extend_near-bond_true-requires
extend_near-bond_true-requires t c =
    let m = c.args.task.now.mol.now in
    (joins_in_range m _ _ _ c.neighbours-neighbours.ensures.valid
    (neighbour_joined _ _ c.neighbours-neighbours.result.now c.loop-atom.atom-index
    (0, 0) c.neighbours-neighbours.ensures.each c.loop-atom-test.true)).0

pub extend_near-extend_at-requires : goal.extend_near-extend_at-requires
extend_near-extend_at-requires t c =
    let task = c.args.task.now in
    let g = graph_of task.graph.now in
    let m = task.mol.now in
    let pairs = c.neighbours-neighbours.result.now in
    let k = c.loop-atom.atom-index in
    let pair = get_or pairs k (0, 0) in
    let room : c.args.placed ≤ length c.args.image.now = let r = c.requires.room in let f = c.requires.few
    in omega arith in
    let near = (near_step (HoldsIn task.table.now) g m task.graph.now.bonds.items task.steps.now c.args.image.now
    c.args.placed c.from.result c.index-bond.result.now refl c.requires.ready
    room (subst (λ n. c.args.placed < n) (sym (length-map task.graph.now.atoms.items term_of)) c.requires.few)
    c.requires.partial c.requires.bonded c.index-bond.ensures (c.from.ensures ∙ c.min.ensures)).1 in
    let joined = neighbour_joined _ _ pairs k (0, 0) c.neighbours-neighbours.ensures.each c.loop-atom-test.true in
    let front = c.loop-atom.invariant.kept in (
      search rules,
      (
        c.requires.ready,
        (
          omega (arith, c.requires.room),
          (
            c.requires.few,
            (
              (joins_in_range m _ _ _ c.neighbours-neighbours.ensures.valid joined).1,
              (
                subst (IsPartial (HoldsIn task.table.now) g m) (sym front) c.requires.partial,
                (
                  λ d _. subst (λ xs. BondEmbeds m (xs ++ pair.0 ∷ [])
                      (slice_index_or g.bonds (step_at task.steps.now c.args.placed).from d)) (sym front)
                      (near.embeds pair.0 d (pair.1, joined, c.bond_true.ensures.0 c.if-not-bond_true.false)),
                  (
                    c.requires.candidates.held _ _ c.requires.few
                        (joins_in_range m _ _ _ c.neighbours-neighbours.ensures.valid joined).1
                        (c.has.ensures.0 c.if-not-has.false),
                    c.requires.candidates,
                  ),
                ),
              ),
            ),
          ),
        ),
      ),
    )

pub extend_near-returns-then-extend_at-clause-found : goal.extend_near-returns-then-extend_at-clause-found
extend_near-returns-then-extend_at-clause-found t c =
    let task = c.args.task.now in
    let g = graph_of task.graph.now in
    let m = task.mol.now in
    let parts = HoldsIn task.table.now in
    let pairs = c.neighbours-neighbours.result.now in
    let room : c.args.placed ≤ length c.args.image.now = let r = c.requires.room in let f = c.requires.few
    in omega arith in
    let near = (near_step parts g m task.graph.now.bonds.items task.steps.now c.args.image.now c.args.placed
    c.from.result c.index-bond.result.now refl c.requires.ready
    room (subst (λ n. c.args.placed < n) (sym (length-map task.graph.now.atoms.items term_of)) c.requires.few)
    c.requires.partial c.requires.bonded c.index-bond.ensures (c.from.ensures ∙ c.min.ensures)).1 in
    let left = left_over term_of task.graph.now.atoms.items c.args.image.now c.args.placed c.requires.room
    c.requires.few in
    λ _. found_next parts g m (take c.args.placed c.args.image.now) (take c.args.placed c.loop-atom.image)
    (get_or pairs c.loop-atom.atom-index (0, 0)).0 _ c.loop-atom.invariant.kept left
    (none_lower parts g m (take c.args.placed c.args.image.now) _ _ _ pairs c.loop-atom.atom-index near
    c.neighbours-neighbours.ensures.each c.loop-atom-test.true c.loop-atom.invariant.none)
    (c.extend_at.ensures.found c.if-extend_at.true)

pub extend_near-loop-atom-preserved-then-not-bond_true : goal.extend_near-loop-atom-preserved-then-not-bond_true
extend_near-loop-atom-preserved-then-not-bond_true t c =
    let task = c.args.task.now in
    let g = graph_of task.graph.now in
    let m = task.mol.now in
    let parts = HoldsIn task.table.now in
    let pairs = c.neighbours-neighbours.result.now in
    let room : c.args.placed ≤ length c.args.image.now = let r = c.requires.room in let f = c.requires.few
    in omega arith in
    let near = (near_step parts g m task.graph.now.bonds.items task.steps.now c.args.image.now c.args.placed
    c.from.result c.index-bond.result.now refl c.requires.ready
    room (subst (λ n. c.args.placed < n) (sym (length-map task.graph.now.atoms.items term_of)) c.requires.few)
    c.requires.partial c.requires.bonded c.index-bond.ensures (c.from.ensures ∙ c.min.ensures)).1 in
    record {
      kept = c.loop-atom.invariant.kept;
      none = below_more _ _ c.loop-atom.invariant.none
          (near_false parts g m (take c.args.placed c.args.image.now) _ _ _ pairs c.loop-atom.atom-index near
          c.neighbours-neighbours.ensures.each c.loop-atom-test.true
          (iff_false c.bond_true.ensures c.if-not-bond_true.true));
    }

pub extend_near-loop-atom-preserved-then-not-has : goal.extend_near-loop-atom-preserved-then-not-has
extend_near-loop-atom-preserved-then-not-has t c =
    let room : c.args.placed ≤ length c.args.image.now = let r = c.requires.room in let f = c.requires.few
    in omega arith in
    record {
      kept = c.loop-atom.invariant.kept;
      none = below_more _ _ c.loop-atom.invariant.none
          (cannot_begin c.args.task.now c.args.candidates.now.words.items (take c.args.placed c.args.image.now)
          c.args.placed _ c.requires.candidates (length-take-le c.args.placed c.args.image.now room) c.requires.few
          (iff_false c.has.ensures c.if-not-has.true));
    }

pub extend_near-loop-atom-preserved : goal.extend_near-loop-atom-preserved
extend_near-loop-atom-preserved t c = record {
  kept = c.extend_at.ensures.kept ∙ c.loop-atom.invariant.kept;
  none = below_more _ _ c.loop-atom.invariant.none
      (λ w. c.extend_at.ensures.none c.if-extend_at.false
      (CanComplete-same (HoldsIn c.args.task.now.table.now) (graph_of c.args.task.now.graph.now)
      c.args.task.now.mol.now _ _ _ c.loop-atom.invariant.kept w));
}

pub extend_near-returns-clause-none : goal.extend_near-returns-clause-none
extend_near-returns-clause-none t c =
    let task = c.args.task.now in
    let g = graph_of task.graph.now in
    let m = task.mol.now in
    let parts = HoldsIn task.table.now in
    let pairs = c.neighbours-neighbours.result.now in
    let room : c.args.placed ≤ length c.args.image.now = let r = c.requires.room in let f = c.requires.few
    in omega arith in
    let near = (near_step parts g m task.graph.now.bonds.items task.steps.now c.args.image.now c.args.placed
    c.from.result c.index-bond.result.now refl c.requires.ready
    room (subst (λ n. c.args.placed < n) (sym (length-map task.graph.now.atoms.items term_of)) c.requires.few)
    c.requires.partial c.requires.bonded c.index-bond.ensures (c.from.ensures ∙ c.min.ensures)).1 in
    let left = left_over term_of task.graph.now.atoms.items c.args.image.now c.args.placed c.requires.room
    c.requires.few in
    λ _. none_near parts g m (take c.args.placed c.args.image.now) _ _ _ pairs near c.neighbours-neighbours.ensures.each
    left (λ k lt. c.loop-atom.invariant.none k (omega (arith, lt)))

pub extend_at-returns-clause-kept : goal.extend_at-returns-clause-kept
extend_at-returns-clause-kept t c = kept_less c.args.placed c.extend.new.image c.args.image.now c.args.atom
    c.extend.ensures.kept
