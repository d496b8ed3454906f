use Rattle.std.proofs.Common.{◌≡◌, ◌∙◌, ◌<◌, ◌≤◌, [], ◌∷◌, All, ap, arith, filter, refl, subst, sym, ℕ}
use Rattle.screen_index.specs.Pairs.{Rises, is_apart, rank}
use Rattle.store_core.specs.Kept.{AreIndexed}
use Rattle.store_core.proofs.Dead.{Pruning, prune-goes-on, pruned, pruning-begins}
use Rattle.store_core.proofs.Indexed.{all-stay, indexed-fewer}
use Rattle.store_core.proofs.kept.prune.Goals as goal

pub loop-id-init : goal.loop-id-init
loop-id-init c =
    let old = c.args.chains.now in
    let xs = c.args.index.now.entries in
    let none = sym c.new-gone.ensures in record {
      pruning = pruning-begins c.args.live.now old;
      rises = subst Rises none (λ i j d less within. absurd (omega (arith, within)));
      last = subst (All (λ (p : ℕ × ℕ). rank p.0 p.1 ≤ 0)) none (λ k d less. absurd (omega (arith, less)));
      fits = omega arith;
      indexed = subst (λ g. AreIndexed old (filter (is_apart g) xs)) none
          (subst (AreIndexed old) (sym (all-stay xs)) c.requires);
      reserved = refl;
    }

pub take-requires : goal.take-requires
take-requires c = let (k, there, is, unread) = c.in-Some.ensures.1 in (k, there, is)

pub loop-id-preserved : goal.loop-id-preserved
loop-id-preserved c =
    let live = c.args.live.now in
    let old = c.args.chains.now in
    let now = c.loop-id.chains in
    let next = c.take.new.chains in
    let id = c.in-Some.id in
    let version = c.in-Some.version in
    let place = c.place-from.result in
    let same : place ≡ (id, version) = λ i. (c.place-from.ensures.id i, c.place-from.ensures.version i) in
    let takes = c.take.ensures.chains in
    let few : version < 4294967296 = omega (arith, c.place-from.ensures.fits, c.place-from.ensures.version) in
    let left = filter (is_apart c.loop-id.gone.items) c.loop-id.index.entries in record {
      pruning = subst (λ p. Pruning live p old next) (sym same)
          (prune-goes-on live c.loop-id.from (id, version) old now next c.loop-id.invariant.pruning c.in-Some.ensures
          takes c.take.ensures.fewer);
      rises = c.leave.ensures.rises;
      last = c.leave.ensures.last;
      fits = c.place-from.ensures.fits;
      indexed = subst (AreIndexed next)
          (sym (c.leave.ensures.left ∙ ap (λ p. filter (is_apart (p ∷ [])) left) same))
          (indexed-fewer now next id version takes left few c.loop-id.invariant.indexed);
      reserved = c.leave.ensures.reserved ∙ c.loop-id.invariant.reserved;
    }

pub returns-clause-indexed : goal.returns-clause-indexed
returns-clause-indexed c =
    subst (AreIndexed c.loop-id.chains)
    (sym (c.drop_all.ensures.entries
    ∙ ap (λ l. filter (is_apart l) c.loop-id.index.entries) c.as_slice.ensures.value)) c.loop-id.invariant.indexed

pub returns-clause-left : goal.returns-clause-left
returns-clause-left c =
    pruned c.args.live.now c.loop-id.from c.args.chains.now c.loop-id.chains c.loop-id.invariant.pruning
    c.in_default.ensures
