use Rattle.std.proofs.Common.{length, Err, sym, ap, ◌∙◌, inl, inr, arith}
use Rattle.std.proofs.lemmas.List.{length_push}
use Rattle.std.proofs.lemmas.Result.{err_from_is_err_and}
use Rattle.molfile_read.specs.Atoms.{atom_read}
use Rattle.molfile_read.specs.Parts.{IsAtomLine}
use Rattle.molfile_read.proofs.Steps.{goes_on, stops, drop_line, all_push}
use Rattle.molfile_read.proofs.atom.read_atoms.Goals as goal

pub returns-in_err-atom-clause-fault : goal.returns-in_err-atom-clause-fault
returns-in_err-atom-clause-fault c =
    let p = err_from_is_err_and c.from_residual-in_err-atom.result c.from_residual-in_err-atom.ensures.1 in
    let whole = stops atom_read c.loop.atoms.items c.args.count c.loop.counter c.loop.lines c.next.new.self
    (c.in-Some.at, c.in-Some.line.now) c.in_err-atom.field-0.0 _ c.loop-test.true c.in-Some.ensures
    (sym c.in_err-atom.ensures.value) c.loop.invariant.read in
    rw p.1 (inr (inl (whole ∙ ap (λ e. Err e) (sym p.2))))

pub loop-preserved : goal.loop-preserved
loop-preserved c =
    let l = ap length c.in-Some.ensures in
    let left = c.loop.invariant.left in
    let many = c.loop.invariant.many in
    let items = ap length c.in_ok-push.ensures.items in
    let more = length_push c.loop.atoms.items c.in_ok-atom.field-0 in
    record {
      read = rw c.in_ok-push.ensures.items
          (goes_on atom_read c.loop.atoms.items c.args.count c.loop.counter c.loop.lines c.next.new.self (
            c.in-Some.at,
            c.in-Some.line.now,
          ) c.in_ok-atom.field-0 _ c.loop-test.true c.in-Some.ensures (sym
          c.in_ok-atom.ensures.value) c.loop.invariant.read);
      rest = sym (drop_line c.args.count c.loop.counter c.loop.lines c.next.new.self (c.in-Some.at, c.in-Some.line.now)
          c.loop-test.true c.in-Some.ensures) ∙ c.loop.invariant.rest;
      left = omega arith;
      many = omega arith;
      fields = rw c.in_ok-push.ensures.items (all_push IsAtomLine c.loop.atoms.items c.in_ok-atom.field-0
          c.loop.invariant.fields c.in_ok-atom.ensures.range);
    }
