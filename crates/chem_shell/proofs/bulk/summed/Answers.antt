use Rattle.std.proofs.Common.{IfOk, [], rules, ◌≡◌}
use Rattle.chem_gen.specs.Script.{script_of}
use Rattle.chem_gen.specs.Summary.{summary_of}
use Rattle.chem_shell.proofs.Summaries.{summed_of}
use Rattle.chem_shell.proofs.bulk.summed.Goals as goal

pub returns-in-Done : goal.returns-in-Done
returns-in-Done g c =
    let is : c.new-source.result.left ≡ script_of c.args.plan.now.seed c.args.plan.now.count = search rules in
    let none : c.new-sink.result.bytes ≡ [] = search rules in
    let sum : IfOk c.summary.result (λ text. text.items
    ≡ summary_of c.args.plan.now.seed c.args.plan.now.count c.run_script.new.sink.bytes) = search rules in
    let served = c.in-Done.ensures.serves in
    summed_of c.args.plan.now c.new-source.result.left c.new-sink.result.bytes c.run_script.new.sink.bytes _
    c.summary.result is none served.0 served.1 served.2 sum
