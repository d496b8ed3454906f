use Rattle.std.proofs.Common.{◌++◌, ◌∷◌, [], ℕ, List, length, take, ap, sym, ◌∙◌, subst, refl, arith, below_more}
use Rattle.exact_find.specs.Pairs.{Extends, IsPaired}
use Rattle.exact_find.proofs.Walks.{extend_more}
use Rattle.exact_find.proofs.walk.pair_anywhere.Goals as goal

pub loop-b-preserved : goal.loop-b-preserved
loop-b-preserved c = record {
  kept = c.pair.ensures.kept ∙ c.loop-b.invariant.kept;
  none = below_more _ _ c.loop-b.invariant.none (λ ext. c.in_default.ensures.none
      (subst (λ (zs : List (ℕ × ℕ)). Extends c.args.left.now c.args.right.now (zs ++ (c.args.a, c.loop-b.b) ∷ []))
      (sym c.loop-b.invariant.kept) ext));
}

pub returns-clause-none : goal.returns-clause-none
returns-clause-none c = λ ext.
    let inside = (ext.is).within c.args.a c.requires.in_range in
    c.loop-b.invariant.none (ext.f c.args.a)
    (omega (arith, inside, c.loop-b-test.false, ap length c.atoms.ensures.value))
    (extend_more c.args.left.now c.args.right.now (take c.args.count c.args.pairs.now) c.args.a (ext.f c.args.a) ext refl)

pub pair-requires-clause-free : goal.pair-requires-clause-free
pair-requires-clause-free c = λ h.
    c.requires.free (subst (λ zs. IsPaired zs c.args.a) c.loop-b.invariant.kept h)
