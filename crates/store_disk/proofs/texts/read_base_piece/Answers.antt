use Rattle.std.proofs.Common.{◌++◌, [], ◌∷◌, List, subst, sym, take, arith, ℕ}
use Rattle.std.proofs.Math.Seq.{take_all}
use Rattle.std.proofs.lemmas.Slice.Zip.{all_zipped_more}
use Rattle.std.specs.List.{AllZip}
use Rattle.commit_log.specs.declared.base.BaseEntry.{BaseEntry}
use Rattle.store_disk.specs.Texts.{IsRecord}
use Rattle.store_disk.proofs.Based.{next-is}
use Rattle.store_disk.proofs.texts.read_base_piece.Goals as goal

pub loop-entry-preserved : goal.loop-entry-preserved
loop-entry-preserved c =
    let done = take c.loop-entry.entry-index c.args.entries.now in
    let made : IsRecord c.entry-item.result c.record_from.result = record {
      status = c.record_from.ensures.status;
      own = c.record_from.ensures.own;
      fault = c.record_from.ensures.fault;
    } in
    rw c.in_ok-push.ensures.items
    (subst (λ (l : List (ℕ × BaseEntry)). AllZip IsRecord l (c.loop-entry.records.items ++ c.record_from.result ∷ []))
    (sym (next-is c.args.entries.now c.loop-entry.entry-index c.entry-item.result c.loop-entry-test.true c.entry-item.is))
    (all_zipped_more IsRecord done c.loop-entry.records.items c.entry-item.result c.record_from.result c.loop-entry.invariant made))

pub returns : goal.returns
returns c = subst (λ (l : List (ℕ × BaseEntry)). AllZip IsRecord l c.loop-entry.records.items)
    (take_all c.loop-entry.entry-index c.args.entries.now (omega (arith, c.loop-entry-test.false))) c.loop-entry.invariant
