use Rattle.std.proofs.Common.{sym}
use Rattle.lookup.proofs.similar.counts.Goals as goal

pub returns-clause-scored : goal.returns-clause-scored
returns-clause-scored c = record {
  molecule = c.args.other.now.mol;
  structure = c.id.ensures.sound.structure;
  own = c.print-2.result.now;
  own_is = record { size = rw c.print-2.ensures.print c.bits-2.ensures.length; bits = c.print-2.ensures.of_structure };
  both = rw (sym c.print.ensures.print) c.score.ensures.shared;
  either = rw (sym c.print.ensures.print) c.score.ensures.all;
}
