use Rattle.std.proofs.Common.{refl}
use Rattle.store_rows.proofs.Only.{registered-only}
use Rattle.store_rows.proofs.tests.kept.register.Goals as goal

pub returns : goal.returns
returns c = registered-only c.snapshots_stay.ensures c.commits_change.ensures c.one_structure.ensures c.args.want.now
    c.args.only c.args.store.now c.commit.new.self c.args.entry c.in_ok-commit.field-0 c.may_come.ensures.sound
    (c.if-not-may_come.ensures.lacks refl) c.in_ok-commit.ensures.call c.requires
