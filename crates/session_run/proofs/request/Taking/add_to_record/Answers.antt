use Rattle.std.proofs.Common.{[]}
use Rattle.io_edge.specs.Lines.{Whole}
use Rattle.session_run.proofs.Lined.{some_line}
use Rattle.session_run.proofs.request.Taking.add_to_record.Goals as goal

pub with_line-requires : goal.with_line-requires
with_line-requires c = (c.requires.0, c.so_far.ensures c.requires.0 c.args.text.now.items c.requires.1)

pub returns-clause-more : goal.returns-clause-more
returns-clause-more c = λ tail h. (
  some_line tail (Whole c.args.line.now) [],
  c.with_line.ensures tail (c.so_far.ensures tail c.args.text.now.items h),
)
