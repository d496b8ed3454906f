use Rattle.std.proofs.Common.{◌≡◌, ◌<◌, ◌≤◌, ◌+◌, ◌++◌, ◌∷◌, [], ℕ, List, get_or, length, take, set, IfNone, not, ap, sym, ◌∙◌, subst, arith, rules, below_more}
use Rattle.std.proofs.Math.ListN.{length-set}
use Rattle.std.proofs.lemmas.Bool.{false≢true}
use Rattle.std.proofs.lemmas.List.{take-set, take_more_set, length-take-le}
use Rattle.std.proofs.lemmas.Option.{slice_get_within}
use Rattle.exact_find.specs.Pairs.{Extends, Has, IsPaired, IsPartial}
use Rattle.exact_find.proofs.Both.{rough-refused}
use Rattle.exact_find.proofs.Grow.{none_value, some_value}
use Rattle.exact_find.proofs.Images.{bond_within}
use Rattle.exact_find.proofs.Maps.{turned}
use Rattle.exact_find.proofs.Near.{near_bond}
use Rattle.exact_find.proofs.Walks.{IsWalked, beside-none, extends-paired, room, take_kept, walked-first, walked-more, walked-same, walked-whole}
use Rattle.exact_find.proofs.walk.+walk.Goals as goal
use Rattle.exact_find.proofs.walk.+walk.Goals.{pair_neighbours-then-is_none+in-Some, pair_neighbours-else-is_none}

pub pair-bounds-pairs-count : goal.pair-bounds-pairs-count
pair-bounds-pairs-count t c =
    let few = c.requires.few in
    let size : length (take c.args.count c.args.pairs.now) ≡ c.args.count =
    length-take-le c.args.count c.args.pairs.now few in
    let less = room c.args.left.now c.args.right.now (take c.args.count c.args.pairs.now) c.args.a c.requires.partial
    c.requires.a_in_range c.requires.free in
    omega (arith, c.requires.room)

pub pair-pair_neighbours-requires : goal.pair-pair_neighbours-requires
pair-pair_neighbours-requires t c =
    let pairs = c.args.pairs.now in
    let few = c.requires.few in
    let size : length (take c.args.count pairs) ≡ c.args.count = length-take-le c.args.count pairs few in
    let less = room c.args.left.now c.args.right.now (take c.args.count pairs) c.args.a c.requires.partial
    c.requires.a_in_range c.requires.free in
    let within : c.args.count < length pairs = omega (arith, c.requires.room) in
    let long : length (set pairs c.args.count (c.args.a, c.args.b)) ≡ length pairs =
    length-set pairs c.args.count (c.args.a, c.args.b) in
    let more = take_more_set pairs c.args.count (c.args.a, c.args.b) within in
    let same = take-set pairs c.args.count (c.args.a, c.args.b) in (
      search (rules, long),
      (
        omega (arith, c.requires.room),
        (
          omega arith,
          (
            more ∙ ap (λ (zs : List (ℕ × ℕ)). zs ++ (c.args.a, c.args.b) ∷ []) (sym same),
            (
              subst (IsPartial c.args.left.now c.args.right.now) (sym more) (c.fits.ensures.fits c.if-not-fits.false),
              (
                c.requires.a_in_range,
                (
                  c.requires.b_in_range,
                  ((λ h. c.requires.free (subst (λ zs. IsPaired zs c.args.a) same h)), c.requires.rough),
                ),
              ),
            ),
          ),
        ),
      ),
    )

pub pair-returns-clause-none : goal.pair-returns-clause-none
pair-returns-clause-none t c =
    let pairs = c.args.pairs.now in
    let few = c.requires.few in
    let size : length (take c.args.count pairs) ≡ c.args.count = length-take-le c.args.count pairs few in
    let less = room c.args.left.now c.args.right.now (take c.args.count pairs) c.args.a c.requires.partial
    c.requires.a_in_range c.requires.free in
    let within : c.args.count < length pairs = omega (arith, c.requires.room) in
    subst (λ zs. IfNone c.pair_neighbours.result (Extends c.args.left.now c.args.right.now zs → ⊥))
    (take_more_set pairs c.args.count (c.args.a, c.args.b) within) c.pair_neighbours.ensures.none

pub pair_beside-neighbours-neighbours-requires : goal.pair_beside-neighbours-neighbours-requires
pair_beside-neighbours-neighbours-requires t c =
    let to = c.requires.partial.there.alike c.requires.near.0 c.args.near c.requires.near.1 in
    slice_get_within c.args.right.now.atoms c.args.near to.2 to.3

pub pair_beside-pair-requires : goal.pair_beside-pair-requires
pair_beside-pair-requires t c =
    let bond = near_bond c.args.right.now c.args.near c.neighbours-neighbours.result.now c.loop-b.b-index
    c.neighbours-neighbours.ensures.each c.loop-b-test.true in
    let kept = c.loop-b.invariant.kept in (
      search rules,
      (
        omega (arith, c.requires.room),
        (
          subst (IsPartial c.args.left.now c.args.right.now) (sym kept) c.requires.partial,
          (
            omega (arith, c.requires.few),
            (
              c.requires.in_range,
              (
                bond_within c.args.right.now _ c.args.near bond.0 c.neighbours-neighbours.ensures.valid
                    (turned c.args.right.now c.args.near _ bond.0 bond.1),
                ((λ h. c.requires.free (subst (λ zs. IsPaired zs c.args.a) kept h)), c.requires.rough),
              ),
            ),
          ),
        ),
      ),
    )

pub pair_beside-loop-b-preserved : goal.pair_beside-loop-b-preserved
pair_beside-loop-b-preserved t c = record {
  kept = c.pair.ensures.kept ∙ c.loop-b.invariant.kept;
  none = below_more _ _ c.loop-b.invariant.none (λ ext. c.in_default.ensures.none
      (subst (λ (zs : List (ℕ × ℕ)). Extends c.args.left.now c.args.right.now
      (zs ++ (c.args.a, (get_or c.neighbours-neighbours.result.now c.loop-b.b-index (0, 0)).0) ∷ []))
      (sym c.loop-b.invariant.kept) ext));
}

pub pair_beside-returns-clause-none : goal.pair_beside-returns-clause-none
pair_beside-returns-clause-none t c = λ ext.
    beside-none c.args.left.now c.args.right.now (take c.args.count c.args.pairs.now) c.neighbours-neighbours.result.now
    c.args.a c.requires.near.0 c.args.near c.requires.near.2.0 c.requires.near.1 c.requires.near.2.1
    c.neighbours-neighbours.ensures.each
    (λ k h. c.loop-b.invariant.none k (omega (arith, h, c.loop-b-test.false))) ext

pub pair_neighbours-loop-neighbour-init : goal.pair_neighbours-loop-neighbour-init
pair_neighbours-loop-neighbour-init t c =
    walked-first c.args.left.now c.args.right.now c.args.a c.args.b c.neighbours-neighbours.result.now c.args.count
    c.args.pairs.now c.requires.few c.requires.last c.requires.partial

pub pair_neighbours-pair_beside-requires : goal.pair_neighbours-pair_beside-requires
pair_neighbours-pair_beside-requires t c =
    let bond = near_bond c.args.left.now c.args.a c.neighbours-neighbours.result.now c.loop-neighbour.neighbour-index
    c.neighbours-neighbours.ensures.each c.loop-neighbour-test.true in
    let low = c.loop-neighbour.invariant.low in (
      search rules,
      (
        omega (arith, c.requires.room),
        (
          c.loop-neighbour.invariant.way.partial,
          (
            c.loop-neighbour.invariant.high,
            (
              bond_within c.args.left.now _ c.args.a bond.0 c.neighbours-neighbours.ensures.valid
                  (turned c.args.left.now c.args.a _ bond.0 bond.1),
              (
                none_value c.partner.result _ (c.is_none.ensures ∙ ap not c.if-is_none.true) c.partner.ensures.none,
                ((c.args.a, c.loop-neighbour.invariant.way.first, bond), c.requires.rough),
              ),
            ),
          ),
        ),
      ),
    )

pub pair_neighbours-returns-in-None-clause-kept : goal.pair_neighbours-returns-in-None-clause-kept
pair_neighbours-returns-in-None-clause-kept t c =
    let low = c.loop-neighbour.invariant.low in
    take_kept c.pair_beside.new.pairs c.loop-neighbour.pairs c.args.count c.loop-neighbour.more (omega arith)
    c.pair_beside.ensures.kept ∙ c.loop-neighbour.invariant.kept

pub pair_neighbours-loop-neighbour-preserved : goal.pair_neighbours-loop-neighbour-preserved
pair_neighbours-loop-neighbour-preserved t c =
    let To = λ (more : ℕ) (pairs : List (ℕ × ℕ)). IsWalked c.args.left.now c.args.right.now c.args.a c.args.b
    c.neighbours-neighbours.result.now c.args.count c.args.pairs.now (c.loop-neighbour.neighbour-index + 1) more pairs
    in
    elim c.if-is_none.branch [
      | pair_neighbours-then-is_none+in-Some w ↦
          let bond = near_bond c.args.left.now c.args.a c.neighbours-neighbours.result.now
          c.loop-neighbour.neighbour-index c.neighbours-neighbours.ensures.each c.loop-neighbour-test.true in
          let free = none_value c.partner.result
          (IsPaired (take c.loop-neighbour.more c.loop-neighbour.pairs)
          (get_or c.neighbours-neighbours.result.now c.loop-neighbour.neighbour-index (0, 0)).0 → ⊥)
          (c.is_none.ensures ∙ ap not w.if-is_none.true) c.partner.ensures.none in
          let step = w.in-Some.ensures.some in
          let few = w.in-Some.ensures.few in
          let same : length w.pair_beside.new.pairs ≡ length c.loop-neighbour.pairs = search rules in
          subst (λ p. To c.if-is_none.more p) (sym w.pairs-is) (subst (λ k. To k w.pair_beside.new.pairs) (sym w.more-is)
          (walked-more c.args.left.now c.args.right.now c.args.a c.args.b c.neighbours-neighbours.result.now c.args.count
          c.args.pairs.now c.loop-neighbour.neighbour-index c.loop-neighbour.more c.loop-neighbour.pairs w.in-Some.next
          w.pair_beside.new.pairs step.0 bond.0 c.neighbours-neighbours.ensures.valid c.requires.free bond.1 free
          w.pair_beside.ensures.kept few.0 (omega (arith, few.1)) step.1 c.loop-neighbour.invariant))
      | pair_neighbours-else-is_none w ↦
          let here = some_value c.partner.result (Has (take c.loop-neighbour.more c.loop-neighbour.pairs)
          (get_or c.neighbours-neighbours.result.now c.loop-neighbour.neighbour-index (0, 0)).0)
          (c.is_none.ensures ∙ ap not w.if-is_none.false) c.partner.ensures.some in
          subst (λ p. To c.if-is_none.more p) (sym w.pairs-is) (subst (λ k. To k c.loop-neighbour.pairs) (sym w.more-is)
          (walked-same c.args.left.now c.args.right.now c.args.a c.args.b c.neighbours-neighbours.result.now c.args.count
          c.args.pairs.now c.loop-neighbour.neighbour-index c.loop-neighbour.more c.loop-neighbour.pairs here
          c.loop-neighbour.invariant))
    ]

pub pair_neighbours-returns-then-are_paired-clause-some : goal.pair_neighbours-returns-then-are_paired-clause-some
pair_neighbours-returns-then-are_paired-clause-some t c =
    walked-whole c.args.left.now c.args.right.now c.args.a c.args.b c.neighbours-neighbours.result.now c.args.count
    c.args.pairs.now c.loop-neighbour.neighbour-index c.loop-neighbour.more c.loop-neighbour.pairs c.requires.free
    c.neighbours-neighbours.ensures.each c.loop-neighbour-test.false (c.are_paired.ensures.0 c.if-are_paired.true)
    c.loop-neighbour.invariant

pub pair_neighbours-returns-else-are_paired-clause-none : goal.pair_neighbours-returns-else-are_paired-clause-none
pair_neighbours-returns-else-are_paired-clause-none t c = λ ext.
    false≢true (sym c.if-are_paired.false ∙ c.are_paired.ensures.1
    (extends-paired c.args.left.now c.args.right.now (take c.loop-neighbour.more c.loop-neighbour.pairs)
    c.neighbours-neighbours.result.now c.args.a c.args.b c.neighbours-neighbours.ensures.valid
    c.loop-neighbour.invariant.way.first c.neighbours-neighbours.ensures.each
    (λ k h. c.loop-neighbour.invariant.done k (omega (arith, h, c.loop-neighbour-test.false)))
    (c.loop-neighbour.invariant.goes ext)))

pub pair-returns-then-index-clause-none : goal.pair-returns-then-index-clause-none
pair-returns-then-index-clause-none t c =
    let rough = c.requires.rough in
    let left = c.args.rough.now.left.items in
    let right = c.args.rough.now.right.items in
    let room : length c.args.left.now.atoms ≤ length left = search (rules, rough.sound.graph.few_atoms) in
    let room_right : length c.args.right.now.atoms ≤ length right = search (rules, rough.sound_right.graph.few_atoms) in
    rough-refused c.args.left.now c.args.right.now (take c.args.count c.args.pairs.now) c.args.a c.args.b left right
    c.from.result c.from-2.result c.index.result.now c.index-2.result.now rough c.from.ensures c.from-2.ensures
    c.requires.a_in_range c.requires.b_in_range room room_right c.index.ensures c.index-2.ensures c.if-index.true

pub pair-slice_bounds-agree-end : goal.pair-slice_bounds-agree-end
pair-slice_bounds-agree-end t c =
    let pairs = c.args.pairs.now in
    let few = c.requires.few in
    let size : length (take c.args.count pairs) ≡ c.args.count = length-take-le c.args.count pairs few in
    let less = room c.args.left.now c.args.right.now (take c.args.count pairs) c.args.a c.requires.partial
    c.requires.a_in_range c.requires.free in
    let long = length-set pairs c.args.count (c.args.a, c.args.b) in
    omega (arith, c.requires.room)

pub pair-slice_bounds-agree-end-then-several : goal.pair-slice_bounds-agree-end-then-several
pair-slice_bounds-agree-end-then-several t c =
    let pairs = c.args.pairs.now in
    let few = c.requires.few in
    let size : length (take c.args.count pairs) ≡ c.args.count = length-take-le c.args.count pairs few in
    let less = room c.args.left.now c.args.right.now (take c.args.count pairs) c.args.a c.requires.partial
    c.requires.a_in_range c.requires.free in
    let long = length-set pairs c.args.count (c.args.a, c.args.b) in
    sym (length-take-le (c.args.count + 1) (set pairs c.args.count (c.args.a, c.args.b)) (omega (arith, c.requires.room)))

pub pair-agree-requires-clause-partial : goal.pair-agree-requires-clause-partial
pair-agree-requires-clause-partial t c =
    let pairs = c.args.pairs.now in
    let few = c.requires.few in
    let size : length (take c.args.count pairs) ≡ c.args.count = length-take-le c.args.count pairs few in
    let less = room c.args.left.now c.args.right.now (take c.args.count pairs) c.args.a c.requires.partial
    c.requires.a_in_range c.requires.free in
    let within : c.args.count < length pairs = omega (arith, c.requires.room) in
    subst (IsPartial c.args.left.now c.args.right.now)
    (sym (take_more_set pairs c.args.count (c.args.a, c.args.b) within)) (c.fits.ensures.fits c.if-not-fits.false)

pub pair-returns-then-not-agree-clause-none : goal.pair-returns-then-not-agree-clause-none
pair-returns-then-not-agree-clause-none t c =
    let pairs = c.args.pairs.now in
    let few = c.requires.few in
    let size : length (take c.args.count pairs) ≡ c.args.count = length-take-le c.args.count pairs few in
    let less = room c.args.left.now c.args.right.now (take c.args.count pairs) c.args.a c.requires.partial
    c.requires.a_in_range c.requires.free in
    let within : c.args.count < length pairs = omega (arith, c.requires.room) in
    λ ext.
    c.agree.ensures c.if-not-agree.true (subst (Extends c.args.left.now c.args.right.now)
    (sym (take_more_set pairs c.args.count (c.args.a, c.args.b) within)) ext)

pub pair_beside-are_several-several-requires-clause-near_in_range : goal.pair_beside-are_several-several-requires-clause-near_in_range
pair_beside-are_several-several-requires-clause-near_in_range t c =
    let to = c.requires.partial.there.alike c.requires.near.0 c.args.near c.requires.near.1 in
    slice_get_within c.args.right.now.atoms c.args.near to.2 to.3
