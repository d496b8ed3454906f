use Rattle.std.proofs.Common.{Bool, None, Option, false, sym, subst, true}
use Rattle.disk_edge.specs.Disk.{IfTold}
use Rattle.journal_core.proofs.LookLaws.{narrows_twice}
use Rattle.journal_core.specs.Looks.{Narrows}
use Rattle.disk_pair.specs.Choices.{Chosen, IsRead}
use Rattle.disk_pair.specs.Stands.{OtherHas}
use Rattle.disk_pair.specs.Term.{first_of}
use Rattle.disk_pair.specs.declared.choice.Which.{Which}
use Rattle.disk_pair.specs.declared.choice.Which.TheVariants.{First, Second}
use Rattle.disk_pair.proofs.Openings.{chosen_read, never_closed, other_loses}
use Rattle.disk_pair.proofs.opening.load.Goals as goal

pub returns-in-Ok-clause-picks : goal.returns-in-Ok-clause-picks
returns-in-Ok-clause-picks g c l told k told_b =
    let d = g.D.Disk.model in
    let chosen = chosen_read d c.args.a c.args.b c.in-Ok-Some-First.field-0 First
    (cc (c.in-Ok-Some-First.field-0-is, c.in-Ok-Some-First.field-0-0-is)) c.in-Ok-Some-First.ensures.chosen in
    subst (λ (s : Bool). IsRead s l k) (sym c.in-Ok.ensures.kept.1) (chosen l told k told_b)

pub returns-in-Ok-clause-other : goal.returns-in-Ok-clause-other
returns-in-Ok-clause-other g c =
    let d = g.D.Disk.model in
    let chosen = chosen_read d c.args.a c.args.b c.in-Ok-Some-First.field-0 First
    (cc (c.in-Ok-Some-First.field-0-is, c.in-Ok-Some-First.field-0-0-is)) c.in-Ok-Some-First.ensures.chosen in
    let picked = c.in-Ok.picked in
    let generation = picked.journal.header.generation in
    let told = λ (o : g.row.D.Denot) (s : Bool). IfTold (d.content picked.journal.disk) (λ _.
    IfTold (d.content o) (λ _. OtherHas s generation None (d.images o))) in
    subst (λ (s : Bool). told picked.other s) (sym c.in-Ok.ensures.kept.1)
    (subst (λ (o : g.row.D.Denot). told o false) (sym c.in-Ok.ensures.kept.0)
    (other_loses d false c.args.a c.args.b c.which_is_read.new.a c.which_is_read.new.b
    c.which_is_read.ensures.narrows_a c.which_is_read.ensures.narrows_b chosen picked.journal
    c.in-Ok.ensures.narrows (λ l is. (c.in-Ok.ensures.opening.reads l is).3) c.in-Ok-Some-First.ensures.synced_b))

pub returns-in-Ok-clause-narrows_a : goal.returns-in-Ok-clause-narrows_a
returns-in-Ok-clause-narrows_a g c =
    let d = g.D.Disk.model in
    let picked = c.in-Ok.picked in
    subst (λ (s : Bool). Narrows d c.args.a (first_of s picked.journal.disk picked.other))
    (sym c.in-Ok.ensures.kept.1)
    (narrows_twice d g.met.D.Disk.parts c.args.a c.which_is_read.new.a picked.journal.disk
    c.which_is_read.ensures.narrows_a c.in-Ok.ensures.narrows)

pub returns-in-Err-open_picked-clause-not_a_store : goal.returns-in-Err-open_picked-clause-not_a_store
returns-in-Err-open_picked-clause-not_a_store g c is l told k told_b =
    let d = g.D.Disk.model in
    let chosen = chosen_read d c.args.a c.args.b c.in-Ok-Some-First.field-0 First
    (cc (c.in-Ok-Some-First.field-0-is, c.in-Ok-Some-First.field-0-0-is)) c.in-Ok-Some-First.ensures.chosen in
    absurd (never_closed d false c.args.a c.args.b c.which_is_read.new.a c.which_is_read.new.b
    c.which_is_read.ensures.narrows_a c.which_is_read.ensures.narrows_b chosen
    (c.in-Err-open_picked.ensures.not_a_store is) l told k told_b)

pub returns-in-Ok-open_picked-clause-picks : goal.returns-in-Ok-open_picked-clause-picks
returns-in-Ok-open_picked-clause-picks g c l told k told_b =
    let d = g.D.Disk.model in
    let chosen = chosen_read d c.args.a c.args.b c.in-Ok-Some-Second.field-0 Second
    (cc (c.in-Ok-Some-Second.field-0-is, c.in-Ok-Some-Second.field-0-0-is)) c.in-Ok-Some-Second.ensures.chosen in
    subst (λ (s : Bool). IsRead s l k) (sym c.in-Ok-open_picked.ensures.kept.1) (chosen l told k told_b)

pub returns-in-Ok-open_picked-clause-other : goal.returns-in-Ok-open_picked-clause-other
returns-in-Ok-open_picked-clause-other g c =
    let d = g.D.Disk.model in
    let chosen = chosen_read d c.args.a c.args.b c.in-Ok-Some-Second.field-0 Second
    (cc (c.in-Ok-Some-Second.field-0-is, c.in-Ok-Some-Second.field-0-0-is)) c.in-Ok-Some-Second.ensures.chosen in
    let picked = c.in-Ok-open_picked.picked in
    let generation = picked.journal.header.generation in
    let told = λ (o : g.row.D.Denot) (s : Bool). IfTold (d.content picked.journal.disk) (λ _.
    IfTold (d.content o) (λ _. OtherHas s generation None (d.images o))) in
    subst (λ (s : Bool). told picked.other s) (sym c.in-Ok-open_picked.ensures.kept.1)
    (subst (λ (o : g.row.D.Denot). told o true) (sym c.in-Ok-open_picked.ensures.kept.0)
    (other_loses d true c.args.b c.args.a c.which_is_read.new.b c.which_is_read.new.a
    c.which_is_read.ensures.narrows_b c.which_is_read.ensures.narrows_a
    (λ x told y told_a. chosen y told_a x told) picked.journal c.in-Ok-open_picked.ensures.narrows
    (λ l is. (c.in-Ok-open_picked.ensures.opening.reads l is).3) c.in-Ok-Some-Second.ensures.synced_a))

pub returns-in-Ok-open_picked-clause-narrows_b : goal.returns-in-Ok-open_picked-clause-narrows_b
returns-in-Ok-open_picked-clause-narrows_b g c =
    let d = g.D.Disk.model in
    let picked = c.in-Ok-open_picked.picked in
    subst (λ (s : Bool). Narrows d c.args.b (first_of s picked.other picked.journal.disk))
    (sym c.in-Ok-open_picked.ensures.kept.1)
    (narrows_twice d g.met.D.Disk.parts c.args.b c.which_is_read.new.b picked.journal.disk
    c.which_is_read.ensures.narrows_b c.in-Ok-open_picked.ensures.narrows)

pub returns-in-Err-open_picked-2-clause-not_a_store : goal.returns-in-Err-open_picked-2-clause-not_a_store
returns-in-Err-open_picked-2-clause-not_a_store g c is l told k told_b =
    let d = g.D.Disk.model in
    let chosen = chosen_read d c.args.a c.args.b c.in-Ok-Some-Second.field-0 Second
    (cc (c.in-Ok-Some-Second.field-0-is, c.in-Ok-Some-Second.field-0-0-is)) c.in-Ok-Some-Second.ensures.chosen in
    absurd (never_closed d true c.args.b c.args.a c.which_is_read.new.b c.which_is_read.new.a
    c.which_is_read.ensures.narrows_b c.which_is_read.ensures.narrows_a (λ x told y told_a. chosen y told_a x told)
    (c.in-Err-open_picked-2.ensures.not_a_store is) k told_b l told)

pub returns-in-Ok-None-clause-not_a_store : goal.returns-in-Ok-None-clause-not_a_store
returns-in-Ok-None-clause-not_a_store g c is l told k told_b =
    subst (λ (w : Option Which). Chosen w l k) c.in-Ok-None.field-0-is (c.in-Ok-None.ensures.chosen l told k told_b)
