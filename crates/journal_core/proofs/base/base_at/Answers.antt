use Rattle.std.proofs.Common.{ℕ, Option, Vec, drop, rules, ◌∙◌, subst}
use Rattle.std.specs.declared.alloc.Global.{Global}
use Rattle.journal_core.specs.Found.{IsPayload}
use Rattle.journal_core.proofs.LookLaws.{looks_twice}
use Rattle.journal_core.proofs.base.base_at.Goals as goal

pub returns-in-Some-clause-found : goal.returns-in-Some-clause-found
returns-in-Some-clause-found g c l told =
    let found = subst (λ (f : Option (Vec ℕ Global)). IsPayload f (drop c.args.place l)) c.in-Some.is
    (c.in_ok-payload.ensures.found l (c.in_ok-len.ensures.looks.narrows.same ∙ told)) in
    (found.0, found.1, search rules, found.2)

pub returns-in-Some-clause-looks : goal.returns-in-Some-clause-looks
returns-in-Some-clause-looks g c =
    looks_twice g.D.Disk.model g.met.D.Disk.parts c.args.disk.now c.measure.new.disk c.payload_at.new.disk
    c.in_ok-len.ensures.looks c.in_ok-payload.ensures.looks

pub returns-in_default-clause-looks : goal.returns-in_default-clause-looks
returns-in_default-clause-looks g c =
    looks_twice g.D.Disk.model g.met.D.Disk.parts c.args.disk.now c.measure.new.disk c.payload_at.new.disk
    c.in_ok-len.ensures.looks c.in_ok-payload.ensures.looks

pub returns-in_err-payload-clause-looks : goal.returns-in_err-payload-clause-looks
returns-in_err-payload-clause-looks g c =
    looks_twice g.D.Disk.model g.met.D.Disk.parts c.args.disk.now c.measure.new.disk c.payload_at.new.disk
    c.in_ok-len.ensures.looks c.in_err-payload.ensures.looks
