use Rattle.std.proofs.Common.{◌≡◌, drop, Result, Ok, Err, sym, ap, ◌∙◌, arith}
use Rattle.std.proofs.lemmas.List.{drop-drop}
use Rattle.std.specs.Result.{OnOk}
use Rattle.molfile_read.specs.declared.fault.MolfileFault.{MolfileFault}
use Rattle.molfile_read.specs.Counts.{first_counts}
use Rattle.molfile_read.proofs.Steps.{drop_next}
use Rattle.molfile_read.proofs.counts.read_counts.Goals as goal

ok_anyway : {A P : Type 0} → (r : Result A MolfileFault) → P → OnOk r P
ok_anyway (Ok x) h = h
ok_anyway (Err e) h = tt

pub loop-preserved : goal.loop-preserved
loop-preserved c = c.skip.ensures ∙ ap (λ w. drop 1 w) c.loop.invariant ∙ drop-drop 1 c.loop.counter c.args.lines.now

pub returns-in-Some-clause-value : goal.returns-in-Some-clause-value
returns-in-Some-clause-value c =
    let three : c.loop.counter ≡ 3 = omega arith in
    let here = ap (λ n. drop n c.args.lines.now) (sym three) ∙ sym c.loop.invariant ∙ c.in-Some.ensures in
    c.counts_line.ensures.value ∙ sym (ap first_counts here)

pub returns-in-Some-clause-rest : goal.returns-in-Some-clause-rest
returns-in-Some-clause-rest c =
    let three : c.loop.counter ≡ 3 = omega arith in
    let here = ap (λ n. drop n c.args.lines.now) (sym three) ∙ sym c.loop.invariant ∙ c.in-Some.ensures in
    ok_anyway c.counts_line.result (sym (drop_next 3 c.args.lines.now _ _ here))
