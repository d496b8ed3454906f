use Rattle.std.proofs.Common.{◌<◌, ◌≤◌, length, ◌∙◌, arith}
use Rattle.std.proofs.lemmas.List.{length-set}
use Rattle.path_print.proofs.Neighbours.{row_written, rows_more}
use Rattle.path_print.proofs.rows.fill_rows.Goals as goal

pub loop-atom-preserved : goal.loop-atom-preserved
loop-atom-preserved c =
    let l = c.loop-atom in
    let count = c.gather-count.result in
    let few = c.gather-count.ensures.count in
    let ends_room = c.gather-count.ensures.room in
    let sorted_room = c.sort.ensures.room in
    let short : count ≤ 256 = omega (arith, few, c.requires.few) in
    let room : count ≤ length c.gather-count.new.ends = omega (arith, short, ends_room) in
    let room' : count ≤ length c.sort.new.ends = omega (arith, short, ends_room, sorted_room) in
    let within : l.atom < length l.counts = let size = l.invariant.counts_room in omega arith in
    record {
      room = sorted_room ∙ ends_room;
      rows_room = c.write_row.ensures.room;
      counts_room = length-set l.counts l.atom count ∙ l.invariant.counts_room;
      each = rows_more c.args.atoms c.args.square.now l.rows c.write_row.new.rows l.counts l.atom count
          l.invariant.each c.write_row.ensures.others within
          (row_written c.args.atoms c.args.square.now l.atom c.gather-count.new.ends c.sort.new.ends count
          c.write_row.new.rows short room room' c.gather-count.ensures.ends c.sort.ensures.same
          c.write_row.ensures.row);
    }
