use Rattle.std.proofs.Common.{◌∙◌, arith, Err, Ok, option_map, refl, subst, sym}
use Rattle.disk_pair.specs.Term.{disk_a, disk_b}
use Rattle.store_core.specs.Stored.{StoreTerm as Memory}
use Rattle.store_disk.specs.Copies.{copy_of}
use Rattle.store_disk.specs.Items.{of_parts}
use Rattle.store_disk.specs.OnDisk.{IsReady}
use Rattle.store_disk.proofs.Goes.{goes-twice}
use Rattle.store_disk.proofs.Going.{from-place, item-of, next, none-yet, some-lacks, stopped, went-on}
use Rattle.store_disk.proofs.compact.go_on.Goals as goal

pub loop-init : goal.loop-init
loop-init g c = record {
  taken = none-yet g.D.Disk.model c.args.items (of_parts c.args.memory.now c.args.pair.now c.args.copy.now)
      c.requires.left;
  ready = c.requires.ready;
  states = from-place c.args.copy.now c.place-version.result.0 c.place-version.result.1 c.states_at-states.result c.place-version.ensures
      c.states_at-states.ensures.states;
  store = c.states_at-states.ensures.store;
}

pub put_item-requires-clause-some : goal.put_item-requires-clause-some
put_item-requires-clause-some g c =
    some-lacks (option_map copy_of c.loop.copy) _ c.loop.invariant.taken.left
    (omega (arith, c.loop-test.true, c.min-step.ensures))

pub put_item-requires-clause-ready : goal.put_item-requires-clause-ready
put_item-requires-clause-ready g c =
    subst (λ (m : Memory). IsReady m c.loop.pair (option_map copy_of c.loop.copy)) (sym c.loop.invariant.store)
    c.loop.invariant.ready

pub loop-preserved : goal.loop-preserved
loop-preserved g c =
    let inv = c.loop.invariant in
    let m : Memory = c.args.memory.now in
    let e = c.in-Ok.ensures in
    let item = item-of g.D.Disk.model c.loop.states.store m inv.store c.loop.pair c.put_item.new.pair c.loop.copy
    c.put_item.new.copy (Ok tt) e.gives e.current e.goes in
    record {
      taken = next g.D.Disk.model g.met.D.Disk.parts c.args.items (of_parts m c.args.pair.now c.args.copy.now)
          (of_parts m c.loop.pair c.loop.copy) (of_parts m c.put_item.new.pair c.put_item.new.copy) c.loop.counter
          inv.taken (Ok tt) item item.gives e.left;
      ready = subst (λ (m : Memory). IsReady m c.put_item.new.pair (option_map copy_of c.put_item.new.copy)) inv.store
          e.ready;
      states = e.states;
      store = e.store ∙ inv.store;
    }

pub returns-in-Err-clause-call : goal.returns-in-Err-clause-call
returns-in-Err-clause-call g c =
    let inv = c.loop.invariant in
    let m : Memory = c.args.memory.now in
    let e = c.in-Err.ensures in
    let item = item-of g.D.Disk.model c.loop.states.store m inv.store c.loop.pair c.put_item.new.pair c.loop.copy
    c.put_item.new.copy (Err c.in-Err.fault) e.gives e.current e.goes in
    rw c.copy_fault.ensures
    (λ s h. stopped g.D.Disk.model g.met.D.Disk.parts c.args.items (of_parts m c.args.pair.now c.args.copy.now)
    (of_parts m c.loop.pair c.loop.copy) (of_parts m c.put_item.new.pair c.put_item.new.copy) c.loop.counter inv.taken
    (Err c.in-Err.fault) item c.runs_stay_sound.ensures c.rebases_keep.ensures.heads s h c.in-Err.fault refl
    (omega (arith, c.loop-test.true, c.min-step.ensures)))

pub returns-in-Err-clause-ready : goal.returns-in-Err-clause-ready
returns-in-Err-clause-ready g c =
    subst (λ (m : Memory). IsReady m c.put_item.new.pair (option_map copy_of c.put_item.new.copy))
    c.loop.invariant.store c.in-Err.ensures.ready

pub returns-in-Err-clause-a : goal.returns-in-Err-clause-a
returns-in-Err-clause-a g c =
    goes-twice g.D.Disk.model (disk_a c.args.pair.now) (disk_a c.loop.pair) (disk_a c.put_item.new.pair)
    c.loop.invariant.taken.a c.in-Err.ensures.goes.a

pub returns-in-Err-clause-b : goal.returns-in-Err-clause-b
returns-in-Err-clause-b g c =
    goes-twice g.D.Disk.model (disk_b c.args.pair.now) (disk_b c.loop.pair) (disk_b c.put_item.new.pair)
    c.loop.invariant.taken.b c.in-Err.ensures.goes.b

pub returns-clause-call : goal.returns-clause-call
returns-clause-call g c = λ s h.
    let m : Memory = c.args.memory.now in
    went-on g.D.Disk.model c.runs_stay_sound.ensures c.rebases_keep.ensures.heads c.args.items
    (of_parts m c.args.pair.now c.args.copy.now) (of_parts m c.loop.pair c.loop.copy) c.loop.counter
    c.loop.invariant.taken s h c.requires.left c.requires.some
    (omega (arith, c.loop-test.false, c.min-step.ensures, c.requires.some)) _
    (omega (arith, c.loop-test.false, c.loop.auto.counter-end, c.min-step.ensures))
    (omega (arith, c.loop-test.false, c.loop.auto.counter-end, c.min-step.ensures))
