use Rattle.std.proofs.Common.{◌∙◌, arith}
use Rattle.store_disk.proofs.Based.{all-based, based-next, follows, in-range, is-before, lacks-text}
use Rattle.store_disk.proofs.Results.{damaged-after}
use Rattle.store_disk.proofs.replay.based.Goals as goal

pub loop-one-init : goal.loop-one-init
loop-one-init c = (c.at_base-memory.ensures.version, c.at_base-memory.ensures.stands)

pub record_from-requires : goal.record_from-requires
record_from-requires c = in-range c.args.version c.args.base.now c.loop-one.one-index c.one-item.result
    c.loop-one-test.true c.one-item.is c.requires.entries

pub put_entry-requires-clause-in_range : goal.put_entry-requires-clause-in_range
put_entry-requires-clause-in_range c = in-range c.args.version c.args.base.now c.loop-one.one-index c.one-item.result
    c.loop-one-test.true c.one-item.is c.requires.entries

pub put_entry-requires-clause-since : goal.put_entry-requires-clause-since
put_entry-requires-clause-since c = (follows c.args.version c.args.base.now c.loop-one.one-index c.one-item.result
    c.loop-one-test.true c.one-item.is c.requires.entries).made

pub put_entry-requires-clause-until : goal.put_entry-requires-clause-until
put_entry-requires-clause-until c = omega (
  arith,
  c.loop-one.invariant.0,
  (follows c.args.version c.args.base.now
      c.loop-one.one-index c.one-item.result c.loop-one-test.true c.one-item.is c.requires.entries).past,
)

pub put_entry-requires-clause-before : goal.put_entry-requires-clause-before
put_entry-requires-clause-before c = is-before c.args.version c.args.base.now c.loop-one.one-index c.one-item.result
    c.loop-one-test.true c.one-item.is c.requires.entries c.loop-one.memory c.loop-one.invariant.0
    c.loop-one.invariant.1

pub put_entry-requires-clause-read : goal.put_entry-requires-clause-read
put_entry-requires-clause-read c = record {
  status = c.record_from.ensures.status;
  own = c.record_from.ensures.own;
  fault = c.record_from.ensures.fault;
}

pub returns-in_err-put_entry-clause-damaged : goal.returns-in_err-put_entry-clause-damaged
returns-in_err-put_entry-clause-damaged c =
    damaged-after (Unit {0}) c.in_err-put_entry.field-0.0 c.from_residual.result c.from_residual.ensures.1
    (lacks-text c.args.version c.args.base.now c.loop-one.one-index c.one-item.result
    c.loop-one-test.true c.one-item.is c.requires.entries c.loop-one.memory c.loop-one.invariant.0
    c.loop-one.invariant.1) c.in_err-put_entry.ensures.damaged

pub loop-one-preserved : goal.loop-one-preserved
loop-one-preserved c = (
  c.put_entry.ensures.version ∙ c.loop-one.invariant.0,
  based-next c.args.version c.args.base.now c.loop-one.one-index c.one-item.result
      c.loop-one-test.true c.one-item.is c.requires.entries c.loop-one.memory c.loop-one.invariant.0
      c.loop-one.invariant.1 c.put_entry.new.memory c.in_ok-put_entry.ensures.ok,
)

pub returns-clause-ok : goal.returns-clause-ok
returns-clause-ok c = all-based c.loop-one.memory c.args.version c.args.base.now c.loop-one.one-index
    (omega (arith, c.loop-one-test.false)) c.loop-one.invariant.1
