use Rattle.std.proofs.Common.{◌∙◌, ap, [], Some, sym}
use Rattle.disk_edge.specs.Failures.{bound_of}
use Rattle.disk_edge.specs.Medium.{Medium, replay}
use Rattle.journal_core.specs.Records.{header, text}
use Rattle.store_disk.proofs.InMemory.{at-ok, none-set, none-yet, stands-empty}
use Rattle.store_disk.proofs.store.Store+MemDisk.fresh.Goals as goal

pub returns-in-Ok-clause-opened : goal.returns-in-Ok-clause-opened
returns-in-Ok-clause-opened c =
    let o = c.in-Ok.ensures.opened in
    let made = at-ok c.create-a.result.1 (sym c.is_err.ensures.value ∙ c.if-is_err.false) c.create-a.ensures.ok in
    let told = λ (d : Medium). Some (replay d.first d.calls) in
    let law = c.a_pair_opens_one_way.ensures in
    let begun = none-yet law.first law.one_history o.0.history o.0.generation
    (o.3 (text header []) (made [] (ap told c.new.ensures)).1.0 [] (ap told c.new-b.ensures)) in
    (o.0, o.1, o.2, begun.0)

pub returns-in-Ok-clause-no_failures : goal.returns-in-Ok-clause-no_failures
returns-in-Ok-clause-no_failures c =
    let bound = λ (d : Medium). bound_of d.failures in
    let made = none-set _ _ (ap bound c.new.ensures) c.create-a.ensures.count.bound in (
      none-set _ _ made c.in-Ok.ensures.narrows_a.count.bound,
      none-set _ _ (ap bound c.new-b.ensures) c.in-Ok.ensures.narrows_b.count.bound,
    )

pub returns-in-Ok-clause-empty : goal.returns-in-Ok-clause-empty
returns-in-Ok-clause-empty c =
    let none = returns-in-Ok-clause-no_failures c in
    let o = c.in-Ok.ensures.opened in
    let made = at-ok c.create-a.result.1 (sym c.is_err.ensures.value ∙ c.if-is_err.false) c.create-a.ensures.ok in
    let told = λ (d : Medium). Some (replay d.first d.calls) in
    let law = c.a_pair_opens_one_way.ensures in
    let begun = none-yet law.first law.one_history o.0.history o.0.generation
    (o.3 (text header []) (made [] (ap told c.new.ensures)).1.0 [] (ap told c.new-b.ensures)) in
    stands-empty c.in-Ok.store c.args.commits o.0 o.1 o.2 begun.0 begun.1 none.0 none.1
