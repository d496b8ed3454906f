-- Each atom is tried in turn.
use Rattle.std.proofs.Common.{◌≡◌, ◌∙◌, ◌*◌, ◌%◌, ◌^◌, ◌+◌, ◌-◌, ◌<◌, ap, arith, below_more, get_or, inl, inr, length, refl, rules, set, slice_index, subst, sym, w64}
use Rattle.std.specs.Int.{bit_at, bit_not, trailing_zeros}
use Rattle.std.proofs.lemmas.Bool.{cases_eq, cases_lt, iff_false}
use Rattle.std.proofs.lemmas.List.{length-map, length-set, set-get_or, set-set}
use Rattle.std.proofs.lemmas.Nat.Bits.{bit_at-lt, bit_at-trailing_zeros, bit_at-zero, bit_at_and, bit_at_clear_other}
use Rattle.smarts_parse.specs.Pattern.{term_of}
use Rattle.matcher.specs.Candidates.{IsCandidate}
use Rattle.matcher.specs.Hunt.{AreTaken, Continues, IsFree, stop_at}
use Rattle.matcher.proofs.Hunts.{not_near, nowhere_near, stands_free, taken_more, used_more}
use Rattle.matcher.proofs.Joins.{joins_in_range, neighbour_joined}
use Rattle.matcher.proofs.Leans.{free_bit, less_left}
use Rattle.matcher.proofs.hunt.+hunt.Goals as goal

pub continues_at-returns-clause-kept : goal.continues_at-returns-clause-kept
continues_at-returns-clause-kept t c = λ _.
    let place = c.from-place.result in
    let old = c.args.image.now in
    let same = c.may_continue.ensures.kept c.if-may_continue.false in
    ap (λ xs. set xs place (get_or old place 0)) same ∙ set-set old place c.args.atom (get_or old place 0)
    ∙ set-get_or old place 0

pub continues_at-returns-clause-none : goal.continues_at-returns-clause-none
continues_at-returns-clause-none t c = λ _ whole h e.
    let at = c.requires.free.place in
    let place = c.from-place.result in
    c.may_continue.ensures.none c.if-may_continue.false whole
    (taken_more c.args.task.now c.args.image.now whole place c.args.atom
    (omega (arith, at, c.requires.room, c.from-place.ensures)) h (ap (λ p. get_or whole p 0) c.from-place.ensures ∙ e))

pub continues_anywhere-continues_in-requires : goal.continues_anywhere-continues_in-requires
continues_anywhere-continues_in-requires t c = (
  search rules,
  (
    c.requires.ready,
    (
      omega (arith, c.requires.room, ap length c.loop-block.invariant.kept),
      (
        subst (AreTaken c.args.task.now c.args.used) (sym c.loop-block.invariant.kept) c.requires.used,
        (
          c.requires.placed,
          (
            subst (IsFree c.args.task.now c.args.stops.now c.args.placed)
                (sym c.loop-block.invariant.kept) c.requires.free,
            (
              let few = c.atoms.ensures.valid.graph.few_atoms
                  in omega (arith, few, ap length c.atoms.ensures.value, c.loop-block-test.true),
              c.requires.candidates,
            ),
          ),
        ),
      ),
    ),
  ),
)

pub continues_anywhere-loop-block-preserved : goal.continues_anywhere-loop-block-preserved
continues_anywhere-loop-block-preserved t c = record {
  kept = c.continues_in.ensures.kept c.if-continues_in.false ∙ c.loop-block.invariant.kept;
  none = λ a l whole h e. elim (cases_lt a (64 * c.loop-block.block)) [
    | inl before ↦ c.loop-block.invariant.none a before whole h e
    | inr here ↦ c.continues_in.ensures.none c.if-continues_in.false whole
        (subst (λ xs. Continues c.args.task.now xs whole) (sym c.loop-block.invariant.kept) h)
        (a - 64 * c.loop-block.block) (omega arith) (omega (arith, e))
  ];
}

pub continues_anywhere-returns-clause-none : goal.continues_anywhere-returns-clause-none
continues_anywhere-returns-clause-none t c = λ _ whole h.
    let place = (stop_at c.args.stops.now c.args.placed).place in
    let at = c.requires.free.place in
    let size = h.embeds.one_each in
    let few : place < length whole = omega (arith, at, size, length-map c.args.task.now.graph.now.atoms.items term_of) in
    let there = h.embeds.in_range place 0 few in
    c.loop-block.invariant.none (slice_index whole place)
    (omega (arith, there, ap length c.atoms.ensures.value, c.loop-block-test.false)) whole h refl

pub continues_in-free_in-left-requires-clause-place : goal.continues_in-free_in-left-requires-clause-place
continues_in-free_in-left-requires-clause-place t c =
    let few = c.requires.ready.searchable.few in
    let at = c.requires.free.place in
    omega (arith, few, at, c.from-place.ensures, length-map c.args.task.now.graph.now.atoms.items term_of)

pub continues_in-loop-left-init : goal.continues_in-loop-left-init
continues_in-loop-left-init t c = record {
  kept = refl;
  within = λ i l h. h;
  only = λ whole h i l e.
      let place = c.from-place.result in
      let s = stands_free c.args.task.now c.args.candidates.now.words.items c.args.image.now whole c.args.used place
      (64 * c.args.block + i) c.requires.candidates c.requires.used c.requires.room
      (omega (arith, c.requires.free.place, c.from-place.ensures))
      (omega (arith, c.requires.free.free, ap (λ k. slice_index c.args.image.now k) c.from-place.ensures)) h
      (ap (λ p. get_or whole p 0) c.from-place.ensures ∙ e) in
      c.free_in-left.ensures.all i l s.0 s.1 s.2;
}

pub continues_in-loop-left-smaller : goal.continues_in-loop-left-smaller
continues_in-loop-left-smaller t c = less_left c.loop-left.left (omega arith) (omega (arith, c.loop-left-test.true))

pub continues_in-continues_at-requires : goal.continues_in-continues_at-requires
continues_in-continues_at-requires t c =
    let bit = trailing_zeros w64 c.loop-left.left in
    let lowest = bit_at-trailing_zeros w64 c.loop-left.left (omega arith) (omega arith) in
    let in_range = c.free_in-left.ensures.within bit lowest.0 (c.loop-left.invariant.within bit lowest.0 lowest.1) in (
      search rules,
      (
        c.requires.ready,
        (
          omega (arith, c.requires.room, ap length c.loop-left.invariant.kept),
          (
            subst (AreTaken c.args.task.now c.args.used) (sym c.loop-left.invariant.kept) c.requires.used,
            (
              c.requires.placed,
              (
                subst (IsFree c.args.task.now c.args.stops.now c.args.placed)
                    (sym c.loop-left.invariant.kept) c.requires.free,
                (omega (arith, in_range, lowest.0), c.requires.candidates),
              ),
            ),
          ),
        ),
      ),
    )

pub continues_in-loop-left-preserved : goal.continues_in-loop-left-preserved
continues_in-loop-left-preserved t c =
    let left = c.loop-left.left in
    let bit = trailing_zeros w64 left in
    let gone = bit_not w64 (1 * 2 ^ bit % 2 ^ 64) in
    let lowest = bit_at-trailing_zeros w64 left (omega arith) (omega arith) in
    record {
      kept = c.continues_at.ensures.kept c.if-continues_at.false ∙ c.loop-left.invariant.kept;
      within = λ i l h.
          let both = bit_at_and left gone i in
          let one = bit_at-lt left i in
          c.loop-left.invariant.within i l (omega arith);
      only = λ whole h i l e. elim (cases_eq i bit) [
        | inl same ↦ absurd (c.continues_at.ensures.none c.if-continues_at.false whole
            (subst (λ xs. Continues c.args.task.now xs whole) (sym c.loop-left.invariant.kept) h)
            (omega (arith, e, same, lowest.0)))
        | inr apart ↦ bit_at_clear_other w64 left bit lowest.0 i l apart ∙ c.loop-left.invariant.only whole h i l e
      ];
    }

pub continues_in-returns-clause-none : goal.continues_in-returns-clause-none
continues_in-returns-clause-none t c = λ _ whole h i l e.
    let empty : c.loop-left.left ≡ 0 = omega (arith, c.loop-left-test.false) in
    let one = c.loop-left.invariant.only whole h i l e in
    let none : bit_at c.loop-left.left i ≡ 0 = ap (λ n. bit_at n i) empty ∙ bit_at-zero i in
    absurd (omega arith)

pub continues_near-loop-atom-preserved-then-not-is_free : goal.continues_near-loop-atom-preserved-then-not-is_free
continues_near-loop-atom-preserved-then-not-is_free t c =
    let words = c.args.candidates.now.words.items in
    let place = c.from-place.result in
    let to = (get_or c.neighbours-neighbours.result.now c.loop-atom.atom-index (0, 0)).0 in
    record {
      kept = c.loop-atom.invariant.kept;
      none = below_more _ _ c.loop-atom.invariant.none
          (λ whole h e.
          let s = stands_free c.args.task.now words c.args.image.now whole c.args.used place to c.requires.candidates
          c.requires.used c.requires.room (omega (arith, c.requires.free.place, c.from-place.ensures))
          (omega (arith, c.requires.free.free, ap (λ k. slice_index c.args.image.now k) c.from-place.ensures)) h
          (ap (λ p. get_or whole p 0) c.from-place.ensures ∙ e) in
          elim (cases_lt to 64) [
            | inl low ↦ iff_false (c.is_free.ensures.low low) c.if-not-is_free.true
                ((free_bit c.word.result c.args.used to (omega arith) low).1
                ((c.word.ensures to low).1 (subst (IsCandidate words place) (omega arith) s.1), s.2))
            | inr high ↦ iff_false (c.is_free.ensures.high high) c.if-not-is_free.true s.1
          ]);
    }

pub continues_near-bond_true-requires : goal.continues_near-bond_true-requires
continues_near-bond_true-requires t c =
    (joins_in_range c.args.task.now.mol.now _ _ _ c.neighbours-neighbours.ensures.valid
    (neighbour_joined _ _ c.neighbours-neighbours.result.now c.loop-atom.atom-index
    (0, 0) c.neighbours-neighbours.ensures.each c.loop-atom-test.true)).0

pub continues_near-loop-atom-preserved-then-not-bond_true : goal.continues_near-loop-atom-preserved-then-not-bond_true
continues_near-loop-atom-preserved-then-not-bond_true t c =
    let f = c.from.ensures in
    let i = c.index-bond.ensures in
    record {
      kept = c.loop-atom.invariant.kept;
      none = below_more _ _ c.loop-atom.invariant.none
          (λ whole h e. not_near c.args.task.now c.args.image.now whole _ c.args.from _ c.index-bond.result.now
          c.neighbours-neighbours.result.now c.loop-atom.atom-index c.requires.asks c.requires.bond
          (subst (λ k. c.index-bond.result.now ≡ get_or c.args.task.now.graph.now.bonds.items k c.index-bond.result.now)
          f i)
          c.neighbours-neighbours.ensures.each c.loop-atom-test.true
          (iff_false c.bond_true.ensures c.if-not-bond_true.true) h e);
    }

pub continues_near-continues_at-requires : goal.continues_near-continues_at-requires
continues_near-continues_at-requires t c =
    let m = c.args.task.now.mol.now in
    let joined = neighbour_joined _ _ c.neighbours-neighbours.result.now c.loop-atom.atom-index
    (0, 0) c.neighbours-neighbours.ensures.each c.loop-atom-test.true in (
      search rules,
      (
        c.requires.ready,
        (
          omega (arith, c.requires.room, ap length c.loop-atom.invariant.kept),
          (
            subst (AreTaken c.args.task.now c.args.used) (sym c.loop-atom.invariant.kept) c.requires.used,
            (
              c.requires.placed,
              (
                subst (IsFree c.args.task.now c.args.stops.now c.args.placed)
                    (sym c.loop-atom.invariant.kept) c.requires.free,
                (
                  (joins_in_range m _ _ _ c.neighbours-neighbours.ensures.valid joined).1,
                  c.requires.candidates,
                ),
              ),
            ),
          ),
        ),
      ),
    )

pub continues_near-returns-clause-none : goal.continues_near-returns-clause-none
continues_near-returns-clause-none t c =
    λ _. nowhere_near c.args.task.now c.args.image.now _ c.args.from _ c.neighbours-neighbours.result.now
    c.requires.asks c.neighbours-neighbours.ensures.each
    (λ k l. c.loop-atom.invariant.none k (omega (arith, l, c.loop-atom-test.false)))

pub continues_near-is_free-requires : goal.continues_near-is_free-requires
continues_near-is_free-requires t c =
    let few = c.requires.ready.searchable.few in
    let at = c.requires.free.place in
    omega (arith, few, at, c.from-place.ensures, length-map c.args.task.now.graph.now.atoms.items term_of)

pub continues_near-word-requires-clause-place : goal.continues_near-word-requires-clause-place
continues_near-word-requires-clause-place t c =
    let few = c.requires.ready.searchable.few in
    let at = c.requires.free.place in
    omega (arith, few, at, c.from-place.ensures, length-map c.args.task.now.graph.now.atoms.items term_of)

pub continues_at-may_continue-requires : goal.continues_at-may_continue-requires
continues_at-may_continue-requires t c = (
  search rules,
  (
    c.requires.ready,
    (
      omega (arith, c.requires.room, length-set c.args.image.now c.from-place.result c.args.atom),
      (
        used_more c.args.task.now c.args.image.now c.args.used c.with_taken.result c.from-place.result c.args.atom
            (omega (arith, c.requires.free.place, c.from-place.ensures)) c.requires.room
            (omega (arith, c.requires.free.free, ap (λ k. slice_index c.args.image.now k) c.from-place.ensures))
            c.requires.atom c.requires.used c.with_taken.ensures,
        (omega (arith, c.requires.placed), c.requires.candidates),
      ),
    ),
  ),
)
