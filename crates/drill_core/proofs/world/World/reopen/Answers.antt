-- A crash and a loading of what it leaves: only memory may be missing.
use Rattle.std.proofs.Common.{sym}
use Rattle.drill_core.proofs.Worlds.{limit-of, no-damage, no-fault, no-header, opens-after, reopens, synced, told, unset, world-opens}
use Rattle.drill_core.specs.Worlds.{left_on}
use Rattle.drill_core.proofs.world.World.reopen.Goals as goal

pub returns-in-Ok-clause-opens : goal.returns-in-Ok-clause-opens
returns-in-Ok-clause-opens c = rw (sym c.self.view_is) (λ s h.
    rw (sym c.into_disks.ensures.a, sym c.into_disks.ensures.b)
    (let store = c.self.inside.store in
    let a = c.into_disks.result.a in
    let b = c.into_disks.result.b in
    let x = left_on a c.args.image in
    let y = left_on b c.args.image in
    let crash = c.after_crash-disks.ensures in
    let o = c.in-Ok.ensures.opened in
    reopens c.crash_opens.ensures c.a_store_opens_one_way.ensures.one_history
    c.in-Ok.store s o.0 x y c.self.inside.commits c.version-version.result
    (opens-after store c.a_standing_store_opens.ensures a b x y c.into_disks.ensures.a c.into_disks.ensures.b
    crash.image_a crash.image_b s h)
    (limit-of store c.self.inside.commits s c.self.invariant h) o.1 o.2
    (o.3 x (told c.after_crash-disks.result.a x crash.a) y (told c.after_crash-disks.result.b y crash.b))
    (c.version-version.ensures o.0 o.1)))

pub returns-in-Ok-clause-a : goal.returns-in-Ok-clause-a
returns-in-Ok-clause-a c = rw (sym c.self.view_is, sym c.into_disks.ensures.a)
    (synced c.after_crash-disks.result.a _ _ c.after_crash-disks.ensures.a c.in-Ok.ensures.narrows_a)

pub returns-in-Ok-clause-b : goal.returns-in-Ok-clause-b
returns-in-Ok-clause-b c = rw (sym c.self.view_is, sym c.into_disks.ensures.b)
    (synced c.after_crash-disks.result.b _ _ c.after_crash-disks.ensures.b c.in-Ok.ensures.narrows_b)

pub returns-in-Ok-clause-no_failures : goal.returns-in-Ok-clause-no_failures
returns-in-Ok-clause-no_failures c = (
  unset c.after_crash-disks.result.a _ _ c.after_crash-disks.ensures.a c.in-Ok.ensures.narrows_a,
  unset c.after_crash-disks.result.b _ _ c.after_crash-disks.ensures.b c.in-Ok.ensures.narrows_b,
)

pub unreachable-requires : goal.unreachable-requires
unreachable-requires c =
    let crash = c.after_crash-disks in
    let e = c.in-Err-Disk-default in
    no-fault crash.result.a crash.result.b e.field-0-1.a e.field-0-1.b _ _ crash.ensures.a crash.ensures.b
    e.ensures.narrows_a e.ensures.narrows_b (e.ensures.cause e.field-0-0-is)

pub unreachable-requires-in-Err-NotAStore-default : goal.unreachable-requires-in-Err-NotAStore-default
unreachable-requires-in-Err-NotAStore-default c =
    let a = c.into_disks.result.a in
    let b = c.into_disks.result.b in
    let crash = c.after_crash-disks in
    no-header crash.result.a crash.result.b (left_on a c.args.image) (left_on b c.args.image) crash.ensures.a
    crash.ensures.b
    (world-opens c.self.inside.store c.a_standing_store_opens.ensures a b _ _ c.into_disks.ensures.a
    c.into_disks.ensures.b crash.ensures.image_a crash.ensures.image_b c.self.inside.commits c.self.invariant)
    c.a_store_opens_one_way.ensures.opens
    (c.in-Err-NotAStore-default.ensures.not_a_store c.in-Err-NotAStore-default.field-0-0-is)

pub unreachable-requires-in-Err-Damaged-default : goal.unreachable-requires-in-Err-Damaged-default
unreachable-requires-in-Err-Damaged-default c =
    let a = c.into_disks.result.a in
    let b = c.into_disks.result.b in
    let crash = c.after_crash-disks in
    no-damage crash.result.a crash.result.b (left_on a c.args.image) (left_on b c.args.image) crash.ensures.a
    crash.ensures.b
    (world-opens c.self.inside.store c.a_standing_store_opens.ensures a b _ _ c.into_disks.ensures.a
    c.into_disks.ensures.b crash.ensures.image_a crash.ensures.image_b c.self.inside.commits c.self.invariant)
    c.a_store_opens_one_way.ensures.not_both _
    (c.in-Err-Damaged-default.ensures.damaged _ c.in-Err-Damaged-default.field-0-0-is)
