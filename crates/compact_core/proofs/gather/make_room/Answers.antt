use Rattle.std.proofs.Common.{◌∙◌, arith}
use Rattle.compact_core.proofs.Gathering.{none_pending, written_end}
use Rattle.compact_core.proofs.gather.make_room.Goals as goal

pub returns-in_err-extend-clause-moments : goal.returns-in_err-extend-clause-moments
returns-in_err-extend-clause-moments g c gate tail q at =
    c.extend.ensures.moments gate q.written q.stands (omega (arith, written_end q at, c.len.ensures))

pub returns-in_ok-extend-clause-moments : goal.returns-in_ok-extend-clause-moments
returns-in_ok-extend-clause-moments g c gate tail q at =
    c.extend.ensures.moments gate q.written q.stands (omega (arith, written_end q at, c.len.ensures))

pub returns-in_ok-extend-clause-stays : goal.returns-in_ok-extend-clause-stays
returns-in_ok-extend-clause-stays g c gate tail q at =
    none_pending q (c.deref.ensures.value ∙ c.reserve.ensures.items) c.clear.ensures.items
    (c.in_ok-extend.ensures.ok gate q.written q.stands (omega (arith, written_end q at, c.len.ensures)))
