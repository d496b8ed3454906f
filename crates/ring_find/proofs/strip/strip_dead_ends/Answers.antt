use Rattle.std.proofs.Common.{◌≡◌, length, ap, arith}
use Rattle.std.proofs.lemmas.List.{take_at}
use Rattle.chem_core.proofs.Neighbours.{joins_back, joined_within}
use Rattle.ring_find.proofs.strip.strip_dead_ends.Goals as goal

pub strip_from-requires-clause-ends : goal.strip_from-requires-clause-ends
strip_from-requires-clause-ends c = rw c.deref_mut.ensures.value c.loop-atom.invariant.ends

pub loop-atom-preserved : goal.loop-atom-preserved
loop-atom-preserved c =
    let long : length c.strip_from.new.kept ≡ c.loop-atom.kept.len = omega (
      arith,
      c.strip_from.auto.kept,
      ap length c.deref_mut.ensures.value,
    ) in
    record {
      keeps = rw (take_at _ _ _ long) c.strip_from.ensures.rings;
      ends = rw (take_at _ _ _ long) c.strip_from.ensures.ends;
    }

pub returns-clause-ends : goal.returns-clause-ends
returns-clause-ends c = λ v dead.
    let within = (joined_within c.args.graph.now.atoms c.args.graph.now.ends dead.0 dead.1 v c.ends.ensures.valid
    (joins_back c.args.graph.now.ends dead.0 v dead.1 dead.2)).1 in
    c.loop-atom.invariant.ends v (omega (arith, within)) dead
