use Rattle.std.proofs.Common.{◌∙◌, ap, arith, length, length-append, List, Option, option_to_list, Result, subst, sym}
use Rattle.std.specs.Vec.Iter.{into_iter_items}
use Rattle.mol_finish.specs.declared.fault.TextFault.{TextFault}
use Rattle.store_core.specs.Records.{Shared}
use Rattle.store_disk.specs.Texts.{AreRecords, IsRecord}
use Rattle.store_disk.proofs.Answered.{next-answer, some-next}
use Rattle.store_disk.proofs.Based.{all-based, all-ids, based-next, follows, in-range, is-before, lacks-text}
use Rattle.store_disk.proofs.Results.{damaged-after}
use Rattle.store_disk.proofs.together.based_by.Goals as goal

pub loop-one-init : goal.loop-one-init
loop-one-init g c =
    let items = c.into_iter-records.ensures.rest in
    record {
      version = c.at_base-memory.ensures.version;
      based = c.at_base-memory.ensures.stands;
      left = subst (AreRecords c.args.base.now) (sym items) c.in_ok-read.ensures;
      len = c.into_iter-records.ensures.len
          ∙ (c.in_ok-read.read.ok.0 ∙ ap (λ (l : List (Result (Option Shared) TextFault)). length l) (sym items));
    }

pub read_records-requires : goal.read_records-requires
read_records-requires g c = (c.type_bounds.sync-R, all-ids c.args.version c.args.base.now c.requires.entries)

pub unreachable-requires : goal.unreachable-requires
unreachable-requires g c =
    cc (c.in_default.ensures.variant.1 (omega (
      arith,
      some-next IsRecord c.args.base.now c.loop-one.one-index c.one-item.result c.loop-one-test.true c.one-item.is
          (into_iter_items c.loop-one.records) c.loop-one.invariant.left,
      c.loop-one.invariant.len,
    )))

pub put_entry-requires-clause-read : goal.put_entry-requires-clause-read
put_entry-requires-clause-read g c =
    (next-answer IsRecord c.args.base.now c.loop-one.one-index c.one-item.result c.loop-one-test.true c.one-item.is
    (into_iter_items c.loop-one.records) c.loop-one.invariant.left c.next.result c.in-Some.answer
    (into_iter_items c.next.new.self) c.in-Some.is c.next.ensures.items).0

pub put_entry-requires-clause-in_range : goal.put_entry-requires-clause-in_range
put_entry-requires-clause-in_range g c = in-range c.args.version c.args.base.now c.loop-one.one-index c.one-item.result
    c.loop-one-test.true c.one-item.is c.requires.entries

pub put_entry-requires-clause-since : goal.put_entry-requires-clause-since
put_entry-requires-clause-since g c = (follows c.args.version c.args.base.now c.loop-one.one-index c.one-item.result
    c.loop-one-test.true c.one-item.is c.requires.entries).made

pub put_entry-requires-clause-until : goal.put_entry-requires-clause-until
put_entry-requires-clause-until g c = omega (
  arith,
  c.loop-one.invariant.version,
  (follows c.args.version c.args.base.now
      c.loop-one.one-index c.one-item.result c.loop-one-test.true c.one-item.is c.requires.entries).past,
)

pub put_entry-requires-clause-before : goal.put_entry-requires-clause-before
put_entry-requires-clause-before g c = is-before c.args.version c.args.base.now c.loop-one.one-index c.one-item.result
    c.loop-one-test.true c.one-item.is c.requires.entries c.loop-one.memory c.loop-one.invariant.version
    c.loop-one.invariant.based

pub returns-in_err-put_entry-clause-damaged : goal.returns-in_err-put_entry-clause-damaged
returns-in_err-put_entry-clause-damaged g c =
    damaged-after (Unit {0}) c.in_err-put_entry.field-0.0 c.from_residual-in_err-put_entry.result c.from_residual-in_err-put_entry.ensures.1
    (lacks-text c.args.version c.args.base.now c.loop-one.one-index c.one-item.result
    c.loop-one-test.true c.one-item.is c.requires.entries c.loop-one.memory c.loop-one.invariant.version
    c.loop-one.invariant.based) c.in_err-put_entry.ensures.damaged

pub loop-one-preserved : goal.loop-one-preserved
loop-one-preserved g c =
    let items = c.next.ensures.items in
    record {
      version = c.put_entry.ensures.version ∙ c.loop-one.invariant.version;
      based = based-next c.args.version c.args.base.now c.loop-one.one-index c.one-item.result c.loop-one-test.true
          c.one-item.is c.requires.entries c.loop-one.memory c.loop-one.invariant.version
          c.loop-one.invariant.based c.put_entry.new.memory c.in_ok-put_entry.ensures.ok;
      left = (next-answer IsRecord c.args.base.now c.loop-one.one-index c.one-item.result c.loop-one-test.true
          c.one-item.is (into_iter_items c.loop-one.records) c.loop-one.invariant.left c.next.result
          c.in-Some.answer (into_iter_items c.next.new.self) c.in-Some.is items).1;
      len = omega (
        arith,
        c.next.ensures.len,
        c.loop-one.invariant.len,
        ap (λ (l : List (Result (Option Shared) TextFault)). length l) items,
        length-append (option_to_list c.next.result) (into_iter_items c.next.new.self),
      );
    }

pub returns-clause-ok : goal.returns-clause-ok
returns-clause-ok g c = all-based c.loop-one.memory c.args.version c.args.base.now c.loop-one.one-index
    (omega (arith, c.loop-one-test.false)) c.loop-one.invariant.based
