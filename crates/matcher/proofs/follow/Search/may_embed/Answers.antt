use Rattle.std.proofs.Common.{◌-◌, ℕ, arith, get_or, refl}
use Rattle.std.proofs.lemmas.List.{length-set}
use Rattle.matcher.proofs.Follows.{free_back, free_kept, free_on, remain_all, remain_back, remain_here, remain_none, remain_on, route_for}
use Rattle.matcher.proofs.follow.Search.may_embed.Goals as goal

pub loop-turn-init : goal.loop-turn-init
loop-turn-init c =
    let s = c.args.self.now in
    let ready = c.requires.ready in
    let small = ready.few in
    record {
      within = c.requires.some;
      free = λ a l none. (c.all_in-free.ensures a (omega arith)).1 (omega arith);
      remain = remain_all s.task.now s.stops.now s.candidates.now c.args.atoms.now c.args.left.now c.all_in-free.result
          (route_for s.task.now s.stops.now s.joins.now s.kinds.now ready.route) small c.requires.some (omega arith)
          ready.candidates (λ a l. (c.all_in-free.ensures a (omega arith)).1 (omega arith));
    }

pub next_at-next-requires-clause-free : goal.next_at-next-requires-clause-free
next_at-next-requires-clause-free c = free_on c.args.self.now.task.now.mol.now c.loop-turn.at c.lowest-atom.result
    c.loop-turn.free c.without_bit-others.result c.loop-turn.atoms c.requires.ready.few (omega arith)
    c.without_bit-others.ensures.kept c.loop-turn.invariant.free

pub returns-then-at-eq0 : goal.returns-then-at-eq0
returns-then-at-eq0 c = λ _. remain_none c.args.self.now.task.now c.args.self.now.stops.now c.loop-turn.at
    c.loop-turn.atoms c.loop-turn.left c.if-at-eq0.true c.if-word-eq0.true c.loop-turn.invariant.remain

pub loop-turn-preserved-then-word-eq0 : goal.loop-turn-preserved-then-word-eq0
loop-turn-preserved-then-word-eq0 c =
    let s = c.args.self.now in
    let at = c.loop-turn.at in
    let atoms = c.loop-turn.atoms in
    let within = c.loop-turn.invariant.within in
    record {
      within = omega arith;
      free = free_back s.task.now.mol.now at (at - 1) (get_or atoms (at - 1) 0) c.loop-turn.free c.with_bit-free.result atoms
          c.requires.ready.few (omega arith) refl c.with_bit-free.ensures.here c.with_bit-free.ensures.kept
          c.loop-turn.invariant.free;
      remain = remain_back s.task.now s.stops.now at (at - 1) atoms c.loop-turn.left c.if-word-eq0.true (omega arith)
          c.loop-turn.invariant.remain;
    }

pub loop-turn-preserved-then-next-eq0 : goal.loop-turn-preserved-then-next-eq0
loop-turn-preserved-then-next-eq0 c =
    let s = c.args.self.now in
    let at = c.loop-turn.at in
    let atoms = c.loop-turn.atoms in
    let within = c.loop-turn.invariant.within in
    record {
      within = within;
      free = free_kept s.task.now.mol.now at c.lowest-atom.result c.loop-turn.free atoms c.loop-turn.invariant.free;
      remain = remain_here s.task.now s.stops.now at c.lowest-atom.result c.without_bit.result c.next_at-next.result
          atoms c.loop-turn.left
          (route_for s.task.now s.stops.now s.joins.now s.kinds.now c.requires.ready.route) c.requires.ready.few within
          (omega arith) (omega (arith, length-set {A = ℕ})) c.without_bit.ensures.kept c.next_at-next.ensures
          c.if-next-eq0.true
          c.loop-turn.invariant.remain;
    }

pub loop-turn-preserved : goal.loop-turn-preserved
loop-turn-preserved c =
    let s = c.args.self.now in
    let at = c.loop-turn.at in
    let atoms = c.loop-turn.atoms in
    let within = c.loop-turn.invariant.within in
    record {
      within = omega arith;
      free = free_on s.task.now.mol.now at c.lowest-atom.result c.loop-turn.free c.without_bit-others.result atoms
          c.requires.ready.few (omega arith) c.without_bit-others.ensures.kept c.loop-turn.invariant.free;
      remain = remain_on s.task.now s.stops.now at c.lowest-atom.result c.without_bit.result c.next_at-next.result
          atoms c.loop-turn.left
          (route_for s.task.now s.stops.now s.joins.now s.kinds.now c.requires.ready.route) c.requires.ready.few within
          (omega arith) (omega (arith, length-set {A = ℕ})) (omega (arith, length-set {A = ℕ})) c.without_bit.ensures.kept
          c.next_at-next.ensures
          c.loop-turn.invariant.remain;
    }
