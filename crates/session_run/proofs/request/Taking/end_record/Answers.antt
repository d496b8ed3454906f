use Rattle.std.proofs.Common.{arith, refl, Some}
use Rattle.session_run.proofs.Lined.{records_end}
use Rattle.session_run.proofs.Recorded.{counted_few}
use Rattle.session_run.proofs.request.Taking.end_record.Goals as goal

pub add-requires-clause-few : goal.add-requires-clause-few
add-requires-clause-few c =
    let h = c.requires.2 in
    let few = counted_few h.done in
    omega (arith, h.taken.total, few, h.number, h.few)

pub add-requires-clause-part : goal.add-requires-clause-part
add-requires-clause-part c =
    let h = c.requires.2 in (
      Some h.tail,
      (h.tail, refl, rw c.deref.ensures.value (c.so_far-part.ensures h.tail c.args.text.now.items h.opens)),
    )

pub returns-clause-last : goal.returns-clause-last
returns-clause-last c = λ count more line h some e.
    let part = c.so_far-part.ensures h.tail c.args.text.now.items h.opens in
    records_end c.add.new.self c.clear.new.self.items line h some e c.clear.ensures.items
    (c.add.ensures h.done (Some h.tail) h.taken (h.tail, refl, rw c.deref.ensures.value part))
