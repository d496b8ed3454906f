use Rattle.std.proofs.Common.{◌≤◌, ◌∙◌, arith, Err, Ok, refl, subst, sym}
use Rattle.disk_pair.specs.Pairs.{MayShow, PairOpensTo}
use Rattle.store_core.specs.Copied.{state_of}
use Rattle.store_core.specs.States.{GoOn}
use Rattle.store_core.specs.Stored.{served}
use Rattle.store_disk.specs.Copies.{copy_of}
use Rattle.store_disk.proofs.Items.{state-lacks}
use Rattle.store_disk.proofs.NextItem.{if-ok, keeps-version, some-found, state-given, still-shown}
use Rattle.store_disk.proofs.item.put_next.Goals as goal

pub unreachable-requires : goal.unreachable-requires
unreachable-requires g c =
    let copy = copy_of c.args.copy.now in
    let w = c.requires.stands in
    some-found w.0.history w.0.copy copy w.2 (omega (arith, c.if-copy-eq0.false))
    ((c.in_default.ensures.next copy.version copy.from c.requires.states).first w.0 w.1.stands
    (keeps-version c.laws.ensures.keep _ w.0 copy w.1 w.2))

pub overflow_add-next : goal.overflow_add-next
overflow_add-next g c =
    let w = c.requires.stands in
    let most = ((c.in-Some.ensures.next c.args.copy.now.version c.args.copy.now.from c.requires.states).in_range
    (served w.0) w.1.stands).1 in
    omega (arith, most)

pub returns-then-copy-eq0-clause-states : goal.returns-then-copy-eq0-clause-states
returns-then-copy-eq0-clause-states g c =
    let e = c.put_commit.ensures in
    let new = c.put_commit.new.copy in
    let old = c.args.copy.now in
    if-ok _ c.put_commit.result
    (subst (λ v. GoOn v new.from c.args.states.now) (sym e.version)
    (subst (λ n. GoOn old.version n c.args.states.now) (sym e.from) c.requires.states))

pub returns-clause-states : goal.returns-clause-states
returns-clause-states g c =
    (c.in-Some.ensures.next c.args.copy.now.version c.args.copy.now.from c.requires.states).goes_on

pub returns-in-Err-clause-current : goal.returns-in-Err-clause-current
returns-in-Err-clause-current g c = record {
  journal = refl;
  second = refl;
  moments = λ t stands. still-shown g.D.Disk.model g.met.D.Disk.only_now c.args.pair.now (PairOpensTo (MayShow t))
      (c.laws.ensures.leaves t stands);
}

pub returns-in-Err-put_base-clause-item : goal.returns-in-Err-put_base-clause-item
returns-in-Err-put_base-clause-item g c s serving l =
    let copy = copy_of c.args.copy.now in
    record {
      lacks = tt;
      gives = state-given g.D.Disk.model c.args.pair.now c.put_base.new.self (Err c.in-Err-put_base.fault) s copy l
          (omega (arith, c.if-copy-eq0.false)) (state_of c.in-Some.state)
          ((c.in-Some.ensures.next copy.version copy.from c.requires.states).first s serving.stands
          (keeps-version c.laws.ensures.keep _ s copy serving l))
          c.deref.result.now (c.deref.ensures.value ∙ c.in-Ok.ensures.payload) c.in-Err-put_base.ensures.gives;
    }

pub returns-clause-item : goal.returns-clause-item
returns-clause-item g c s serving l =
    let copy = copy_of c.args.copy.now in
    let state = state_of c.in-Some.state in
    let some : 1 ≤ c.args.copy.now.states = omega (arith, c.if-copy-eq0.false) in
    let first = (c.in-Some.ensures.next copy.version copy.from c.requires.states).first s serving.stands
    (keeps-version c.laws.ensures.keep _ s copy serving l) in
    record {
      lacks = state-lacks s.history s.copy copy l some state first;
      gives = state-given g.D.Disk.model c.args.pair.now c.put_base.new.self (Ok tt) s copy l some state first
          c.deref.result.now (c.deref.ensures.value ∙ c.in-Ok.ensures.payload) c.in-Ok-put_base.ensures.gives;
    }
