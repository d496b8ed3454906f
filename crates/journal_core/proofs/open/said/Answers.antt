use Rattle.std.proofs.Common.{◌≡◌, take, drop, sym, ◌∙◌, arith, rules, []}
use Rattle.journal_core.specs.Fronts.{front_of, second_format}
use Rattle.journal_core.proofs.FrontLaws.{is_long}
use Rattle.journal_core.proofs.LookLaws.{looks_call, looks_twice}
use Rattle.journal_core.proofs.Opened.{length-front, numbers, part_of, second_shape}
use Rattle.journal_core.proofs.open.said.Goals as goal

pub returns-then-len-lt8-clause-found : goal.returns-then-len-lt8-clause-found
returns-then-len-lt8-clause-found g c l told is_open =
    omega (arith, is_long l is_open, c.in_ok-len.ensures.length l told, c.if-len-lt8.true)

pub returns-in_err-read_at-clause-looks : goal.returns-in_err-read_at-clause-looks
returns-in_err-read_at-clause-looks g c =
    let d = g.D.Disk.model in
    let call = looks_call d in
    let len = c.in_ok-len.ensures in
    let read = c.read_at.ensures in
    looks_twice d g.met.D.Disk.parts c.args.disk.now
    c.len.new.self c.read_at.new.self
    (call c.args.disk.now c.len.new.self len.content len.images len.time len.count)
    (call c.len.new.self c.read_at.new.self read.content read.images read.time read.count)

pub returns-then-eq-clause-looks : goal.returns-then-eq-clause-looks
returns-then-eq-clause-looks g c =
    let d = g.D.Disk.model in
    let call = looks_call d in
    let len = c.in_ok-len.ensures in
    let read = c.in_ok-read_at.ensures in
    looks_twice d g.met.D.Disk.parts c.args.disk.now
    c.len.new.self c.read_at.new.self
    (call c.args.disk.now c.len.new.self len.content len.images len.time len.count)
    (call c.len.new.self c.read_at.new.self read.content read.images read.time read.count)

pub returns-then-ne-clause-looks : goal.returns-then-ne-clause-looks
returns-then-ne-clause-looks g c =
    let d = g.D.Disk.model in
    let call = looks_call d in
    let len = c.in_ok-len.ensures in
    let read = c.in_ok-read_at.ensures in
    looks_twice d g.met.D.Disk.parts c.args.disk.now
    c.len.new.self c.read_at.new.self
    (call c.args.disk.now c.len.new.self len.content len.images len.time len.count)
    (call c.len.new.self c.read_at.new.self read.content read.images read.time read.count)

pub returns-in_err-read_at-2-clause-looks : goal.returns-in_err-read_at-2-clause-looks
returns-in_err-read_at-2-clause-looks g c =
    let d = g.D.Disk.model in
    let call = looks_call d in
    let twice = looks_twice d g.met.D.Disk.parts in
    let len = c.in_ok-len.ensures in
    let read = c.in_ok-read_at.ensures in
    let more = c.read_at-2.ensures in
    twice c.args.disk.now c.read_at.new.self c.read_at-2.new.self
    (twice c.args.disk.now c.len.new.self c.read_at.new.self
    (call c.args.disk.now c.len.new.self len.content len.images len.time len.count)
    (call c.len.new.self c.read_at.new.self read.content read.images read.time read.count))
    (call c.read_at.new.self c.read_at-2.new.self more.content more.images more.time more.count)

pub returns-clause-looks : goal.returns-clause-looks
returns-clause-looks g c =
    let d = g.D.Disk.model in
    let call = looks_call d in
    let twice = looks_twice d g.met.D.Disk.parts in
    let len = c.in_ok-len.ensures in
    let read = c.in_ok-read_at.ensures in
    let more = c.read_at-2.ensures in
    twice c.args.disk.now c.read_at.new.self c.read_at-2.new.self
    (twice c.args.disk.now c.len.new.self c.read_at.new.self
    (call c.args.disk.now c.len.new.self len.content len.images len.time len.count)
    (call c.len.new.self c.read_at.new.self read.content read.images read.time read.count))
    (call c.read_at.new.self c.read_at-2.new.self more.content more.images more.time more.count)

pub returns-clause-found : goal.returns-clause-found
returns-clause-found g c l told =
    let h = c.header_of-header.result in
    let first = c.in_ok-read_at.ensures.bytes l (c.in_ok-len.ensures.content ∙ told) in
    let second = c.in_ok-read_at-2.ensures.bytes l
    (c.in_ok-read_at.ensures.content ∙ c.in_ok-len.ensures.content ∙ told) in
    let eight : take 8 l ≡ second_format = search rules in
    let twelve : take 12 (drop 8 l) ≡ numbers h = sym second ∙ c.header_of-header.ensures in (
      c.in_ok-len.ensures.length l told,
      (front_of h [], drop 20 l, part_of h, second_shape h l eight twelve, length-front h),
    )
