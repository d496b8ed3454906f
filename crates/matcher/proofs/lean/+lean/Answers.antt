-- Each atom is tried in turn.
use Rattle.std.proofs.Common.{◌≡◌, ◌++◌, ◌∷◌, ◌∙◌, ◌*◌, ◌%◌, ◌^◌, ◌<◌, ◌≤◌, [], Contains, ap, arith, below_more, bit_and, get_or, inl, inr, length, map, refl, rules, slice_index_or, subst, sym, take, w64}
use Rattle.std.specs.Int.{bit_at, bit_not, trailing_zeros}
use Rattle.std.proofs.lemmas.Bool.{cases_eq, iff_false}
use Rattle.std.proofs.lemmas.List.{length-map, length-set, length-take-le, take_more_set}
use Rattle.std.proofs.lemmas.Nat.Bits.{bit_at-lt, bit_at-trailing_zeros, bit_at-zero, bit_at_and, bit_at_clear_other}
use Rattle.smarts_mean.specs.Table.{HoldsIn}
use Rattle.smarts_parse.specs.Embedding.{BondEmbeds}
use Rattle.smarts_parse.specs.Pattern.{BondTerm, bond_of, graph_of, term_of}
use Rattle.matcher.specs.Lean.{HasJust}
use Rattle.matcher.specs.Partial.{IsLeastFrom, IsPartial}
use Rattle.matcher.specs.Plan.{step_at}
use Rattle.matcher.specs.Task.{Completes, IsPlaced}
use Rattle.matcher.proofs.Joins.{joins_in_range, neighbour_joined}
use Rattle.matcher.proofs.Leans.{cannot_take, free_bit, less_left, next_in_range, one_more, placed_more, single_read, word_read}
use Rattle.matcher.proofs.Leasts.{found_next, least_whole}
use Rattle.matcher.proofs.Narrowings.{low_bit, low_candidate}
use Rattle.matcher.proofs.Places.{kept_less}
use Rattle.matcher.proofs.Near.{near_false, near_step, none_lower, none_near}
use Rattle.matcher.proofs.Partials.{CanComplete-none, CanComplete-same, IsPartial-from_completion, IsPartial-last, IsPartial-whole, left_over}
use Rattle.matcher.proofs.lean.+lean.Goals as goal

pub place_rest-returns-then-placed-len-clause-found : goal.place_rest-returns-then-placed-len-clause-found
place_rest-returns-then-placed-len-clause-found t c =
    let g = graph_of c.args.task.now.graph.now in
    let m = c.args.task.now.mol.now in
    let parts = HoldsIn c.args.task.now.table.now in
    let n = length c.args.task.now.graph.now.atoms.items in
    let front = take c.args.placed c.args.image.now in
    let room : c.args.placed ≤ length c.args.image.now = let r = c.requires.room in let f = c.requires.few
    in omega arith in
    let size : length front ≡ c.args.placed = length-take-le c.args.placed c.args.image.now room in
    let all : length g.atoms ≡ n = length-map c.args.task.now.graph.now.atoms.items term_of in
    let last : c.args.placed ≡ n = omega (arith, c.args.task.now.graph.now.atoms.ok.0) in
    let full : length front ≡ length g.atoms = size ∙ last ∙ sym all in
    λ _. subst (λ k. IsLeastFrom parts g m front (take k c.args.image.now)) last
    (least_whole parts g m front full (IsPartial-whole parts g m front c.requires.ready.searchable.ends full
    c.requires.partial))

pub place_near-bounds-image-from : goal.place_near-bounds-image-from
place_near-bounds-image-from t c =
    let task = c.args.task.now in
    let room : c.args.placed ≤ length c.args.image.now = let r = c.requires.room in let f = c.requires.few
    in omega arith in
    let low = (near_step (HoldsIn task.table.now) (graph_of task.graph.now) task.mol.now task.graph.now.bonds.items
    task.steps.now c.args.image.now c.args.placed c.from.result c.index-bond.result.now refl c.requires.ready
    room (subst (λ n. c.args.placed < n) (sym (length-map task.graph.now.atoms.items term_of)) c.requires.few)
    c.requires.partial c.requires.bonded c.index-bond.ensures (c.from.ensures ∙ c.min.ensures)).0 in
    omega (arith, low)

pub place_near-neighbours-neighbours-requires : goal.place_near-neighbours-neighbours-requires
place_near-neighbours-neighbours-requires t c =
    let task = c.args.task.now in
    let room : c.args.placed ≤ length c.args.image.now = let r = c.requires.room in let f = c.requires.few
    in omega arith in
    (near_step (HoldsIn task.table.now) (graph_of task.graph.now) task.mol.now task.graph.now.bonds.items task.steps.now
    c.args.image.now c.args.placed c.from.result c.index-bond.result.now refl c.requires.ready
    room (subst (λ n. c.args.placed < n) (sym (length-map task.graph.now.atoms.items term_of)) c.requires.few)
    c.requires.partial c.requires.bonded c.index-bond.ensures (c.from.ensures ∙ c.min.ensures)).1.in_range

pub place_near-bond_true-requires : goal.place_near-bond_true-requires
place_near-bond_true-requires t c =
    let m = c.args.task.now.mol.now in
    (joins_in_range m _ _ _ c.neighbours-neighbours.ensures.valid
    (neighbour_joined _ _ c.neighbours-neighbours.result.now c.loop-atom.atom-index
    (0, 0) c.neighbours-neighbours.ensures.each c.loop-atom-test.true)).0

pub place_near-returns-then-place_at-clause-found : goal.place_near-returns-then-place_at-clause-found
place_near-returns-then-place_at-clause-found t c =
    let task = c.args.task.now in
    let g = graph_of task.graph.now in
    let m = task.mol.now in
    let parts = HoldsIn task.table.now in
    let pairs = c.neighbours-neighbours.result.now in
    let room : c.args.placed ≤ length c.args.image.now = let r = c.requires.room in let f = c.requires.few
    in omega arith in
    let near = (near_step parts g m task.graph.now.bonds.items task.steps.now c.args.image.now c.args.placed
    c.from.result c.index-bond.result.now refl c.requires.ready
    room (subst (λ n. c.args.placed < n) (sym (length-map task.graph.now.atoms.items term_of)) c.requires.few)
    c.requires.partial c.requires.bonded c.index-bond.ensures (c.from.ensures ∙ c.min.ensures)).1 in
    let left = left_over term_of task.graph.now.atoms.items c.args.image.now c.args.placed c.requires.room
    c.requires.few in
    λ _. found_next parts g m (take c.args.placed c.args.image.now) (take c.args.placed c.loop-atom.image)
    (get_or pairs c.loop-atom.atom-index (0, 0)).0 _ c.loop-atom.invariant.kept left
    (none_lower parts g m (take c.args.placed c.args.image.now) _ _ _ pairs c.loop-atom.atom-index near
    c.neighbours-neighbours.ensures.each c.loop-atom-test.true c.loop-atom.invariant.none)
    (c.place_at.ensures.found c.if-place_at.true)

pub place_near-loop-atom-preserved-then-not-bond_true : goal.place_near-loop-atom-preserved-then-not-bond_true
place_near-loop-atom-preserved-then-not-bond_true t c =
    let task = c.args.task.now in
    let g = graph_of task.graph.now in
    let m = task.mol.now in
    let parts = HoldsIn task.table.now in
    let pairs = c.neighbours-neighbours.result.now in
    let room : c.args.placed ≤ length c.args.image.now = let r = c.requires.room in let f = c.requires.few
    in omega arith in
    let near = (near_step parts g m task.graph.now.bonds.items task.steps.now c.args.image.now c.args.placed
    c.from.result c.index-bond.result.now refl c.requires.ready
    room (subst (λ n. c.args.placed < n) (sym (length-map task.graph.now.atoms.items term_of)) c.requires.few)
    c.requires.partial c.requires.bonded c.index-bond.ensures (c.from.ensures ∙ c.min.ensures)).1 in
    record {
      kept = c.loop-atom.invariant.kept;
      none = below_more _ _ c.loop-atom.invariant.none
          (near_false parts g m (take c.args.placed c.args.image.now) _ _ _ pairs c.loop-atom.atom-index near
          c.neighbours-neighbours.ensures.each c.loop-atom-test.true
          (iff_false c.bond_true.ensures c.if-not-bond_true.true));
    }

pub place_near-loop-atom-preserved : goal.place_near-loop-atom-preserved
place_near-loop-atom-preserved t c = record {
  kept = c.place_at.ensures.kept ∙ c.loop-atom.invariant.kept;
  none = below_more _ _ c.loop-atom.invariant.none
      (λ w. c.place_at.ensures.none c.if-place_at.false
      (CanComplete-same (HoldsIn c.args.task.now.table.now) (graph_of c.args.task.now.graph.now)
      c.args.task.now.mol.now _ _ _ c.loop-atom.invariant.kept w));
}

pub place_near-returns-clause-none : goal.place_near-returns-clause-none
place_near-returns-clause-none t c =
    let task = c.args.task.now in
    let g = graph_of task.graph.now in
    let m = task.mol.now in
    let parts = HoldsIn task.table.now in
    let pairs = c.neighbours-neighbours.result.now in
    let room : c.args.placed ≤ length c.args.image.now = let r = c.requires.room in let f = c.requires.few
    in omega arith in
    let near = (near_step parts g m task.graph.now.bonds.items task.steps.now c.args.image.now c.args.placed
    c.from.result c.index-bond.result.now refl c.requires.ready
    room (subst (λ n. c.args.placed < n) (sym (length-map task.graph.now.atoms.items term_of)) c.requires.few)
    c.requires.partial c.requires.bonded c.index-bond.ensures (c.from.ensures ∙ c.min.ensures)).1 in
    let left = left_over term_of task.graph.now.atoms.items c.args.image.now c.args.placed c.requires.room
    c.requires.few in
    λ _. none_near parts g m (take c.args.placed c.args.image.now) _ _ _ pairs near c.neighbours-neighbours.ensures.each
    left (λ k lt. c.loop-atom.invariant.none k (omega (arith, lt)))

pub place_at-returns-clause-kept : goal.place_at-returns-clause-kept
place_at-returns-clause-kept t c = kept_less c.args.placed c.place_rest.new.image c.args.image.now c.args.atom
    c.place_rest.ensures.kept

pub place_anywhere-loop-left-init : goal.place_anywhere-loop-left-init
place_anywhere-loop-left-init t c =
    let task = c.args.task.now in
    let front = take c.args.placed c.args.image.now in
    let words = c.args.candidates.now.words.items in
    let word = c.index-word.result.now in
    let all = c.all_in.result in
    let room : c.args.placed ≤ length c.args.image.now = let r = c.requires.room in let f = c.requires.few
    in omega arith in
    let read = word_read task words c.args.placed word c.requires.ready c.requires.few
    (omega (arith, c.args.candidates.now.room, c.args.candidates.now.words.ok.0)) c.index-word.ensures in
    record {
      kept = refl;
      within = λ a l h. h;
      only = λ a l w. elim (cases_eq (bit_at (bit_and (bit_and word all) (bit_not w64 c.args.used)) a) 1) [
        | inl here ↦ here
        | inr none ↦ absurd (cannot_take task words front c.args.used c.args.placed a c.requires.candidates
            c.requires.used (length-take-le c.args.placed c.args.image.now room) c.requires.few l
            (λ i new.
            let both = bit_at_and word all a in
            let inside : bit_at all a ≡ 1 = (c.all_in.ensures a l).1 (omega (arith, next_in_range task front a w)) in
            let mine : bit_at word a ≡ 1 = subst (λ x. bit_at x a ≡ 1) (sym read) (low_bit words c.args.placed a l i) in
            none ((free_bit (bit_and word all) c.args.used a (omega arith) l).1 (omega arith, new))) w)
      ];
    }

pub place_anywhere-loop-left-smaller : goal.place_anywhere-loop-left-smaller
place_anywhere-loop-left-smaller t c = less_left c.loop-left.left (omega arith) (omega (arith, c.loop-left-test.true))

pub place_anywhere-place_at-requires : goal.place_anywhere-place_at-requires
place_anywhere-place_at-requires t c =
    let task = c.args.task.now in
    let words = c.args.candidates.now.words.items in
    let word = c.index-word.result.now in
    let all = c.all_in.result in
    let bit = trailing_zeros w64 c.loop-left.left in
    let read = word_read task words c.args.placed word c.requires.ready c.requires.few
    (omega (arith, c.args.candidates.now.room, c.args.candidates.now.words.ok.0)) c.index-word.ensures in
    let lowest = bit_at-trailing_zeros w64 c.loop-left.left (omega arith) (omega arith) in
    let mine = (free_bit (bit_and word all) c.args.used bit (omega arith) lowest.0).0
    (c.loop-left.invariant.within bit lowest.0 lowest.1) in
    let here = mine.0 in
    let both = bit_at_and word all bit in
    let one = bit_at-lt word bit in
    let two = bit_at-lt all bit in
    let in_range : bit < length task.mol.now.atoms = omega (arith, (c.all_in.ensures bit lowest.0).0 (omega arith)) in
    let at : bit_at word bit ≡ 1 = omega arith in
    let front = c.loop-left.invariant.kept in (
      search rules,
      (
        c.requires.ready,
        (
          c.requires.small,
          (
            omega (arith, c.requires.room),
            (
              c.requires.few,
              (
                in_range,
                (
                  subst (IsPlaced task) (sym front) c.requires.partial,
                  (
                    subst (HasJust c.args.used) (sym front) c.requires.used,
                    (
                      mine.1,
                      (
                        λ d lt. absurd (c.requires.free lt),
                        (
                          c.requires.single,
                          (
                            c.requires.candidates.held _ _ c.requires.few in_range
                                (low_candidate words c.args.placed bit lowest.0
                                (subst (λ x. bit_at x bit ≡ 1) read at)),
                            c.requires.candidates,
                          ),
                        ),
                      ),
                    ),
                  ),
                ),
              ),
            ),
          ),
        ),
      ),
    )

pub place_anywhere-returns-then-place_at-clause-found : goal.place_anywhere-returns-then-place_at-clause-found
place_anywhere-returns-then-place_at-clause-found t c =
    let task = c.args.task.now in
    let g = graph_of task.graph.now in
    let left = left_over term_of task.graph.now.atoms.items c.args.image.now c.args.placed c.requires.room
    c.requires.few in
    let lowest = bit_at-trailing_zeros w64 c.loop-left.left (omega arith) (omega arith) in
    λ _. found_next (HoldsIn task.table.now) g task.mol.now (take c.args.placed c.args.image.now)
    (take c.args.placed c.loop-left.image) (trailing_zeros w64 c.loop-left.left) _
    c.loop-left.invariant.kept left
    (λ b lt w. let one = c.loop-left.invariant.only b (omega (arith, lowest.0)) w in omega (arith, lowest.2 b lt))
    (c.place_at.ensures.found c.if-place_at.true)

pub place_anywhere-loop-left-preserved : goal.place_anywhere-loop-left-preserved
place_anywhere-loop-left-preserved t c =
    let task = c.args.task.now in
    let left = c.loop-left.left in
    let bit = trailing_zeros w64 left in
    let gone = bit_not w64 (1 * 2 ^ bit % 2 ^ 64) in
    let lowest = bit_at-trailing_zeros w64 left (omega arith) (omega arith) in
    record {
      kept = c.place_at.ensures.kept ∙ c.loop-left.invariant.kept;
      within = λ a l h.
          let both = bit_at_and left gone a in
          let one = bit_at-lt left a in
          c.loop-left.invariant.within a l (omega arith);
      only = λ a l w. elim (cases_eq a bit) [
        | inl same ↦ absurd (c.place_at.ensures.none c.if-place_at.false
            (CanComplete-same (HoldsIn task.table.now) (graph_of task.graph.now) task.mol.now
            (take c.args.placed c.args.image.now) (take c.args.placed c.loop-left.image) bit
            c.loop-left.invariant.kept
            (subst (λ k. Completes task (take c.args.placed c.args.image.now ++ k ∷ [])) same w)))
        | inr apart ↦ bit_at_clear_other w64 left bit lowest.0 a l apart ∙ c.loop-left.invariant.only a l w
      ];
    }

pub place_anywhere-returns-clause-none : goal.place_anywhere-returns-clause-none
place_anywhere-returns-clause-none t c =
    let task = c.args.task.now in
    let left = left_over term_of task.graph.now.atoms.items c.args.image.now c.args.placed c.requires.room
    c.requires.few in
    let empty : c.loop-left.left ≡ 0 = omega (arith, c.loop-left-test.false) in
    λ _. CanComplete-none (HoldsIn task.table.now) (graph_of task.graph.now) task.mol.now
    (take c.args.placed c.args.image.now) left
    (λ a lt w.
    let one = c.loop-left.invariant.only a (let s = c.requires.small in omega arith) w in
    let none : bit_at c.loop-left.left a ≡ 0 = ap (λ n. bit_at n a) empty ∙ bit_at-zero a in
    omega arith)

pub place_near-place_at-requires : goal.place_near-place_at-requires
place_near-place_at-requires t c =
    let task = c.args.task.now in
    let g = graph_of task.graph.now in
    let m = task.mol.now in
    let pairs = c.neighbours-neighbours.result.now in
    let k = c.loop-atom.atom-index in
    let pair = get_or pairs k (0, 0) in
    let room : c.args.placed ≤ length c.args.image.now = let r = c.requires.room in let f = c.requires.few
    in omega arith in
    let near = (near_step (HoldsIn task.table.now) g m task.graph.now.bonds.items task.steps.now c.args.image.now
    c.args.placed c.from.result c.index-bond.result.now refl c.requires.ready
    room (subst (λ n. c.args.placed < n) (sym (length-map task.graph.now.atoms.items term_of)) c.requires.few)
    c.requires.partial c.requires.bonded c.index-bond.ensures (c.from.ensures ∙ c.min.ensures)).1 in
    let joined = neighbour_joined _ _ pairs k (0, 0) c.neighbours-neighbours.ensures.each c.loop-atom-test.true in
    let inside = (joins_in_range m _ _ _ c.neighbours-neighbours.ensures.valid joined).1 in
    let low : pair.0 < 64 = let s = c.requires.small in omega arith in
    let mine = (free_bit c.index-word.result.now c.args.used pair.0 (omega arith) low).0
    (c.has.ensures.0 c.if-not-has.false) in
    let read = word_read task c.args.candidates.now.words.items c.args.placed c.index-word.result.now c.requires.ready
    c.requires.few (omega (arith, c.args.candidates.now.room, c.args.candidates.now.words.ok.0)) c.index-word.ensures in
    let front = c.loop-atom.invariant.kept in (
      search rules,
      (
        c.requires.ready,
        (
          c.requires.small,
          (
            omega (arith, c.requires.room),
            (
              c.requires.few,
              (
                inside,
                (
                  subst (IsPartial (HoldsIn task.table.now) g m) (sym front) c.requires.partial,
                  (
                    subst (HasJust c.args.used) (sym front) c.requires.used,
                    (
                      mine.1,
                      (
                        λ d _. subst (λ xs. BondEmbeds m (xs ++ pair.0 ∷ [])
                            (slice_index_or g.bonds (step_at task.steps.now c.args.placed).from d)) (sym front)
                            (near.embeds pair.0 d (pair.1, joined, c.bond_true.ensures.0 c.if-not-bond_true.false)),
                        (
                          c.requires.single,
                          (
                            c.requires.candidates.held _ _ c.requires.few inside
                                (low_candidate c.args.candidates.now.words.items c.args.placed pair.0 low
                                (subst (λ x. bit_at x pair.0 ≡ 1) read mine.0)),
                            c.requires.candidates,
                          ),
                        ),
                      ),
                    ),
                  ),
                ),
              ),
            ),
          ),
        ),
      ),
    )

pub place_near-loop-atom-preserved-then-not-has : goal.place_near-loop-atom-preserved-then-not-has
place_near-loop-atom-preserved-then-not-has t c =
    let task = c.args.task.now in
    let words = c.args.candidates.now.words.items in
    let word = c.index-word.result.now in
    let to = (get_or c.neighbours-neighbours.result.now c.loop-atom.atom-index (0, 0)).0 in
    let room : c.args.placed ≤ length c.args.image.now = let r = c.requires.room in let f = c.requires.few
    in omega arith in
    let inside = (joins_in_range task.mol.now _ _ _ c.neighbours-neighbours.ensures.valid
    (neighbour_joined _ _ c.neighbours-neighbours.result.now c.loop-atom.atom-index
    (0, 0) c.neighbours-neighbours.ensures.each c.loop-atom-test.true)).1 in
    let low : to < 64 = let s = c.requires.small in omega arith in
    let read = word_read task words c.args.placed word c.requires.ready c.requires.few
    (omega (arith, c.args.candidates.now.room, c.args.candidates.now.words.ok.0)) c.index-word.ensures in
    record {
      kept = c.loop-atom.invariant.kept;
      none = below_more _ _ c.loop-atom.invariant.none
          (cannot_take task words (take c.args.placed c.args.image.now) c.args.used c.args.placed to
          c.requires.candidates c.requires.used (length-take-le c.args.placed c.args.image.now room) c.requires.few low
          (λ i new. iff_false c.has.ensures c.if-not-has.true ((free_bit word c.args.used to (omega arith) low).1
          (subst (λ x. bit_at x to ≡ 1) (sym read) (low_bit words c.args.placed to low i), new))));
    }

pub place_near-has-requires : goal.place_near-has-requires
place_near-has-requires t c =
    let m = c.args.task.now.mol.now in
    let inside = (joins_in_range m _ _ _ c.neighbours-neighbours.ensures.valid
    (neighbour_joined _ _ c.neighbours-neighbours.result.now c.loop-atom.atom-index
    (0, 0) c.neighbours-neighbours.ensures.each c.loop-atom-test.true)).1 in
    let s = c.requires.small in
    omega arith

pub place_rest-place_near-requires : goal.place_rest-place_near-requires
place_rest-place_near-requires t c = (
  search rules,
  (
    c.requires.ready,
    (
      c.requires.small,
      (
        omega (arith, c.requires.room),
        (
          omega (arith, c.requires.few),
          (
            c.requires.partial,
            (
              c.requires.used,
              (
                search rules,
                (
                  single_read c.args.task.now c.args.placed c.index-group.result.now c.requires.ready (omega (arith, c.requires.few))
                      c.index-group.ensures c.if-group-ne0.false,
                  c.requires.candidates,
                ),
              ),
            ),
          ),
        ),
      ),
    ),
  ),
)

pub place_rest-place_anywhere-requires : goal.place_rest-place_anywhere-requires
place_rest-place_anywhere-requires t c = (
  search rules,
  (
    c.requires.ready,
    (
      c.requires.small,
      (
        omega (arith, c.requires.room),
        (
          omega (arith, c.requires.few),
          (
            c.requires.partial,
            (
              c.requires.used,
              (
                search rules,
                (
                  single_read c.args.task.now c.args.placed c.index-group.result.now c.requires.ready (omega (arith, c.requires.few))
                      c.index-group.ensures c.if-group-ne0.false,
                  c.requires.candidates,
                ),
              ),
            ),
          ),
        ),
      ),
    ),
  ),
)

pub place_at-closes-requires-clause-first : goal.place_at-closes-requires-clause-first
place_at-closes-requires-clause-first t c =
    let front = take c.args.placed c.args.image.now in
    let steps = c.args.task.now.steps.now in
    let room : c.args.placed ≤ length c.args.image.now = let r = c.requires.room in let f = c.requires.few
    in omega arith in
    let size : length front ≡ c.args.placed = length-take-le c.args.placed c.args.image.now room in
    subst (λ k. (d : BondTerm) → (step_at steps k).from < (step_at steps k).to
    → BondEmbeds c.args.task.now.mol.now (front ++ c.args.atom ∷ [])
    (slice_index_or (map bond_of c.args.task.now.graph.now.bonds.items) (step_at steps k).from d))
    (sym size) c.requires.first

pub place_at-closes-requires-clause-in_range : goal.place_at-closes-requires-clause-in_range
place_at-closes-requires-clause-in_range t c = c.requires.partial.in_range

pub place_at-returns-then-not-closes-clause-none : goal.place_at-returns-then-not-closes-clause-none
place_at-returns-then-not-closes-clause-none t c = λ _ w.
    let task = c.args.task.now in
    let front = take c.args.placed c.args.image.now in
    iff_false c.closes.ensures c.if-not-closes.true
    (IsPartial-last (HoldsIn task.table.now) (graph_of task.graph.now) task.mol.now front c.args.atom
    (IsPartial-from_completion (HoldsIn task.table.now) (graph_of task.graph.now) task.mol.now
    (front ++ c.args.atom ∷ []) w)).2

pub place_at-place_rest-requires : goal.place_at-place_rest-requires
place_at-place_rest-requires t c =
    let task = c.args.task.now in
    let image = c.args.image.now in
    let front = take c.args.placed image in
    let room : c.args.placed < length image = let r = c.requires.room in let f = c.requires.few in omega arith in
    let size : length front ≡ c.args.placed = length-take-le c.args.placed image (omega arith) in
    let next = sym (take_more_set image c.args.placed c.args.atom room) in
    let low : c.args.atom < 64 = let s = c.requires.small in let l = c.requires.in_range in omega arith in
    let new : Contains front c.args.atom → ⊥ = λ w. c.requires.new ((c.requires.used c.args.atom low).1 w) in (
      search rules,
      (
        c.requires.ready,
        (
          c.requires.small,
          (
            omega (arith, c.requires.room, length-set image c.args.placed c.args.atom),
            (
              omega (arith, c.requires.few),
              (
                subst (IsPlaced task) next (placed_more task front c.args.placed c.args.atom size c.requires.few
                    c.requires.partial c.requires.in_range new c.requires.holds
                    (c.closes.ensures.0 c.if-not-closes.false) c.requires.single),
                (
                  subst (HasJust _) next (one_more c.args.used front c.args.atom low c.requires.used),
                  c.requires.candidates,
                ),
              ),
            ),
          ),
        ),
      ),
    )

pub place_at-returns-clause-none : goal.place_at-returns-clause-none
place_at-returns-clause-none t c = λ f w.
    let room : c.args.placed < length c.args.image.now = let r = c.requires.room in let l = c.requires.few
    in omega arith in
    c.place_rest.ensures.none f (subst (Completes c.args.task.now)
    (sym (take_more_set c.args.image.now c.args.placed c.args.atom room)) w)
