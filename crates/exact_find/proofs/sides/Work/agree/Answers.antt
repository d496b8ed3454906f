use Rattle.std.proofs.Common.{◌-◌, ◌%◌, ◌^◌, ℕ, List, get_or, length, take, ap, sym, ◌∙◌, subst, arith}
use Rattle.std.proofs.lemmas.Bool.{false≢true}
use Rattle.exact_find.specs.Colours.{AreMatched, KeepAlong}
use Rattle.exact_find.proofs.Both.{begun-both, last-pair, pair-within}
use Rattle.exact_find.proofs.Rounds.{total-kept}
use Rattle.exact_find.proofs.sides.Work.agree.Goals as goal

pub put_all-requires : goal.put_all-requires
put_all-requires c = record {
  few = λ a b has.
      let in' = pair-within c.args.left.now c.args.right.now c.args.pairs.now a b c.requires.partial has in (
        omega (arith, in'.0, c.clear.ensures.valid.graph.few_atoms),
        omega (arith, in'.1, c.clear-2.ensures.valid.graph.few_atoms),
      );
}

pub reach-ours-requires-clause-in_range : goal.reach-ours-requires-clause-in_range
reach-ours-requires-clause-in_range c =
    (pair-within c.args.left.now c.args.right.now c.args.pairs.now _ _ c.requires.partial
    (last-pair c.args.pairs.now c.requires.some)).0

pub reach-theirs-requires-clause-in_range : goal.reach-theirs-requires-clause-in_range
reach-theirs-requires-clause-in_range c =
    (pair-within c.args.left.now c.args.right.now c.args.pairs.now _ _ c.requires.partial
    (last-pair c.args.pairs.now c.requires.some)).1

pub returns-then-begin : goal.returns-then-begin
returns-then-begin c = λ no' ext.
    let m = c.args.left.now in
    let n = c.args.right.now in
    let ps : List (ℕ × ℕ) = c.args.pairs.now in
    let pair : ℕ × ℕ = get_or ps (length ps - 1) (0, 0) in
    let p : List ℕ = take c.reach-ours.result c.reach-ours.new.self.list.items in
    let q : List ℕ = take c.reach-theirs.result c.reach-theirs.new.self.list.items in
    let c0 : List ℕ = c.clear.new.self.colours.items in
    let d0 : List ℕ = c.clear-2.new.self.colours.items in
    let colours : KeepAlong ps c0 d0 c.reach-ours.new.self.colours.items c.reach-theirs.new.self.colours.items =
    subst (λ z. KeepAlong ps c0 d0 z c.reach-theirs.new.self.colours.items) (sym c.reach-ours.ensures.colours)
    (subst (KeepAlong ps c0 d0 c.put_all.new.self.left.colours.items) (sym c.reach-theirs.ensures.colours)
    c.put_all.ensures.colours) in
    let both = begun-both m n ps pair.0 pair.1 c.args.rough.now.left.items c.args.rough.now.right.items
    c.clear.new.self.levels.items c.clear-2.new.self.levels.items c.put_all.new.self.left.levels.items
    c.put_all.new.self.right.levels.items c.reach-ours.new.self.levels.items c.reach-theirs.new.self.levels.items p q c0 d0
    c.reach-ours.new.self.colours.items c.reach-theirs.new.self.colours.items c.begin.new.self.colours.items
    c.begin-2.new.self.colours.items c.clear.ensures.valid c.clear-2.ensures.valid (last-pair ps c.requires.some)
    c.requires.rough.kept c.clear.ensures.far c.clear-2.ensures.far
    (λ x h. c.clear.ensures.coloured x h ∙ ap (λ (zs : List ℕ). get_or zs x 0) c.deref.ensures.value)
    (λ x h. c.clear-2.ensures.coloured x h ∙ ap (λ (zs : List ℕ). get_or zs x 0) c.deref-2.ensures.value)
    c.put_all.ensures.levels colours c.reach-ours.ensures.reached c.reach-theirs.ensures.reached c.begin.ensures.begun
    c.begin-2.ensures.begun ext in
    let sums = total-kept m ext.f ext.g p q c.begin.new.self.colours.items c.begin-2.new.self.colours.items
    (length n.atoms) (ext.is).back (ext.is).forth c.reach-ours.ensures.reached.listed
    c.reach-theirs.ensures.reached.listed both.0 both.1 in
    c.if-begin.true (c.begin.ensures.sum ∙ ap (λ k. k % 2 ^ 64) sums ∙ sym c.begin-2.ensures.sum)

pub returns : goal.returns
returns c = λ no' ext.
    let m = c.args.left.now in
    let n = c.args.right.now in
    let ps : List (ℕ × ℕ) = c.args.pairs.now in
    let pair : ℕ × ℕ = get_or ps (length ps - 1) (0, 0) in
    let p : List ℕ = take c.reach-ours.result c.reach-ours.new.self.list.items in
    let q : List ℕ = take c.reach-theirs.result c.reach-theirs.new.self.list.items in
    let c0 : List ℕ = c.clear.new.self.colours.items in
    let d0 : List ℕ = c.clear-2.new.self.colours.items in
    let colours : KeepAlong ps c0 d0 c.reach-ours.new.self.colours.items c.reach-theirs.new.self.colours.items =
    subst (λ z. KeepAlong ps c0 d0 z c.reach-theirs.new.self.colours.items) (sym c.reach-ours.ensures.colours)
    (subst (KeepAlong ps c0 d0 c.put_all.new.self.left.colours.items) (sym c.reach-theirs.ensures.colours)
    c.put_all.ensures.colours) in
    let both = begun-both m n ps pair.0 pair.1 c.args.rough.now.left.items c.args.rough.now.right.items
    c.clear.new.self.levels.items c.clear-2.new.self.levels.items c.put_all.new.self.left.levels.items
    c.put_all.new.self.right.levels.items c.reach-ours.new.self.levels.items c.reach-theirs.new.self.levels.items p q c0 d0
    c.reach-ours.new.self.colours.items c.reach-theirs.new.self.colours.items c.begin.new.self.colours.items
    c.begin-2.new.self.colours.items c.clear.ensures.valid c.clear-2.ensures.valid (last-pair ps c.requires.some)
    c.requires.rough.kept c.clear.ensures.far c.clear-2.ensures.far
    (λ x h. c.clear.ensures.coloured x h ∙ ap (λ (zs : List ℕ). get_or zs x 0) c.deref.ensures.value)
    (λ x h. c.clear-2.ensures.coloured x h ∙ ap (λ (zs : List ℕ). get_or zs x 0) c.deref-2.ensures.value)
    c.put_all.ensures.levels colours c.reach-ours.ensures.reached c.reach-theirs.ensures.reached c.begin.ensures.begun
    c.begin-2.ensures.begun ext in
    let matched = subst (λ (zs : List ℕ). AreMatched ext.f ext.g (take c.reach-ours.result zs)
    (take c.reach-theirs.result c.begin-2.new.self.list.items)) (sym c.begin.ensures.list)
    (subst (λ (zs : List ℕ). AreMatched ext.f ext.g p (take c.reach-theirs.result zs)) (sym c.begin-2.ensures.list) both.0)
    in
    false≢true (sym no' ∙ (c.settle.ensures ext.f ext.g ext.is matched both.1).0)
