use Rattle.std.proofs.Common.{◌-◌, ◌≤◌, arith, length, drop, ap, ◌∙◌, length-take}
use Rattle.io_edge.specs.Buffer.{Held}
use Rattle.io_edge.proofs.Blocks.{between_cut}
use Rattle.io_edge.proofs.buffer.Buffer.cut.Goals as goal

pub returns-clause-bytes : goal.returns-clause-bytes
returns-clause-bytes c =
    let b = c.self.inside in
    let held = ap (λ (h : Held). h.bytes) c.self.view_is in
    let short : c.args.len ≤ b.end - b.start = omega (
      arith,
      c.requires.within,
      ap length held,
      length-take (b.end - b.start) (drop b.start b.block.items),
    ) in
    between_cut b.block.items b.start b.end c.args.len short ∙ ap (drop c.args.len) held
