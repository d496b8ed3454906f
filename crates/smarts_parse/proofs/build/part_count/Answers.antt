use Rattle.std.proofs.Common.{◌+◌, length, ap, arith}
use Rattle.std.proofs.lemmas.List.{length-map}
use Rattle.smarts_parse.proofs.Building.{texts_more, texts_few}
use Rattle.smarts_parse.proofs.build.part_count.Goals as goal

pub overflow_add-count : goal.overflow_add-count
overflow_add-count c =
    let vs = c.args.atoms.now in
    let i = c.loop-atom.atom-index in
    let x = c.atom-item.result in
    let e = texts_more vs i x (omega arith) c.atom-item.is in
    let f = texts_few (i + 1) vs in
    let g = ap length c.parts.ensures in
    omega (arith, length-map c.parts.result.now (λ v. v.items))

pub loop-atom-preserved : goal.loop-atom-preserved
loop-atom-preserved c =
    let vs = c.args.atoms.now in
    let i = c.loop-atom.atom-index in
    let x = c.atom-item.result in
    let e = texts_more vs i x (omega arith) c.atom-item.is in
    let g = ap length c.parts.ensures in
    omega (arith, length-map c.parts.result.now (λ v. v.items))
