use Rattle.std.proofs.Common.{arith, ap, ◌∙◌, ◌≡◌, ◌+◌, ◌≤◌, length, take}
use Rattle.std.proofs.lemmas.List.{take_at}
use Rattle.std.specs.List.{between}
use Rattle.io_edge.specs.Buffer.{Held}
use Rattle.io_edge.specs.Source.{number_of}
use Rattle.io_edge.proofs.Blocks.{filled}
use Rattle.io_edge.proofs.buffer.Buffer.fill.Goals as goal

pub returns-clause-gained : goal.returns-clause-gained
returns-clause-gained g c =
    let b = c.self.inside in
    let held = ap (λ (h : Held). h.bytes) c.self.view_is in
    let moved_len : length c.with_room-start.new.block ≡ b.block.len = omega arith in
    let now_len : length c.take_at-answer.new.block ≡ b.block.len = omega arith in
    let fits : c.with_room-start.result.1 + number_of c.take_at-answer.result ≤ b.block.len = omega arith in
    let moved = c.with_room-start.ensures.same ∙ ap (between b.start b.end) c.deref_mut.ensures.value ∙ held in
    let before = c.take_at-answer.ensures.before ∙ ap (take c.with_room-start.result.1) (c.deref_mut-2.ensures.value
    ∙ take_at _ _ _ moved_len) in
    rw c.number.ensures (filled _ _ _ _ _ _ _ _ _ _ moved_len now_len moved before c.with_room-start.ensures.order fits
    c.take_at-answer.ensures.moved)
