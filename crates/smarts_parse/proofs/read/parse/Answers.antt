use Rattle.std.proofs.Common.{inr, Result, Err, sym, ◌∙◌, subst, arith}
use Rattle.std.proofs.lemmas.Result.{err_from_is_err_and}
use Rattle.smarts_parse.specs.declared.fault.SmartsFault.{SmartsFault}
use Rattle.smarts_parse.specs.declared.pattern.Pattern.{Pattern}
use Rattle.smarts_parse.specs.Reading.{IsReading, answer_of}
use Rattle.smarts_parse.proofs.Readings.{looked, not_by, has_stereo, no_stereo, has_ring_set, open_reading, no_ring, no_limit, within_only, buildable, sound}
use Rattle.smarts_parse.proofs.read.parse.Goals as goal

pub returns-then-has_stereo-clause-reading : goal.returns-then-has_stereo-clause-reading
returns-then-has_stereo-clause-reading c =
    let text = c.args.text.now in
    let d = c.in_ok-draft.draft in
    let l = looked text d (omega arith) (not_by _ _ c.if-has_byte.false c.has_byte.ensures) c.in_ok-draft.ensures.found
    in
    (l.whole, l.read, has_stereo text d l (c.has_stereo.ensures.0 c.if-has_stereo.true))

pub returns-then-any_ring_set-clause-reading : goal.returns-then-any_ring_set-clause-reading
returns-then-any_ring_set-clause-reading c =
    let text = c.args.text.now in
    let d = c.in_ok-draft.draft in
    let l = looked text d (omega arith) (not_by _ _ c.if-has_byte.false c.has_byte.ensures) c.in_ok-draft.ensures.found
    in
    let marks = not_by _ _ c.if-has_stereo.false c.has_stereo.ensures in
    (l.whole, no_stereo text d l marks, has_ring_set text d l (sym c.any_ring_set.ensures ∙ c.if-any_ring_set.true))

pub returns-in_err-closed-clause-reading : goal.returns-in_err-closed-clause-reading
returns-in_err-closed-clause-reading c =
    let text = c.args.text.now in
    let d = c.in_ok-draft.draft in
    let l = looked text d (omega arith) (not_by _ _ c.if-has_byte.false c.has_byte.ensures) c.in_ok-draft.ensures.found
    in
    let marks = not_by _ _ c.if-has_stereo.false c.has_stereo.ensures in
    let counts = sym c.any_ring_set.ensures ∙ c.if-any_ring_set.false in
    let p = err_from_is_err_and c.from_residual-in_err-closed.result c.from_residual-in_err-closed.ensures.1 in
    let F : Result Pattern SmartsFault → Type 0 = λ r. IsReading text (answer_of r) in
    let G : SmartsFault → Type 0 = λ e. IsReading text (Err e) in
    subst F (sym p.1) (subst G (sym p.2) (open_reading text d l marks counts _
    (c.in_err-closed.ensures.fails l.whole l.draft)))

pub returns-then-not-are_within_limits-clause-reading : goal.returns-then-not-are_within_limits-clause-reading
returns-then-not-are_within_limits-clause-reading c =
    let text = c.args.text.now in
    let d = c.in_ok-draft.draft in
    let l = looked text d (omega arith) (not_by _ _ c.if-has_byte.false c.has_byte.ensures) c.in_ok-draft.ensures.found
    in
    let marks = not_by _ _ c.if-has_stereo.false c.has_stereo.ensures in
    let counts = sym c.any_ring_set.ensures ∙ c.if-any_ring_set.false in
    inr (
      l.whole,
      no_ring text d l c.in_ok-closed.closed c.in_ok-closed.ensures.found marks counts,
      λ h. not_by _ _ c.if-not-are_within_limits.true
          c.are_within_limits.ensures (within_only text d l h),
    )

pub pattern-requires : goal.pattern-requires
pattern-requires c =
    let text = c.args.text.now in
    let d = c.in_ok-draft.draft in
    let l = looked text d (omega arith) (not_by _ _ c.if-has_byte.false c.has_byte.ensures) c.in_ok-draft.ensures.found
    in
    let marks = not_by _ _ c.if-has_stereo.false c.has_stereo.ensures in
    let counts = sym c.any_ring_set.ensures ∙ c.if-any_ring_set.false in
    let within = c.are_within_limits.ensures.0 c.if-not-are_within_limits.false in
    (l.whole, buildable text d l c.in_ok-closed.closed c.in_ok-closed.ensures.found marks counts within)

pub returns-clause-reading : goal.returns-clause-reading
returns-clause-reading c =
    let text = c.args.text.now in
    let d = c.in_ok-draft.draft in
    let l = looked text d (omega arith) (not_by _ _ c.if-has_byte.false c.has_byte.ensures) c.in_ok-draft.ensures.found
    in
    let marks = not_by _ _ c.if-has_stereo.false c.has_stereo.ensures in
    let counts = sym c.any_ring_set.ensures ∙ c.if-any_ring_set.false in
    let within = c.are_within_limits.ensures.0 c.if-not-are_within_limits.false in
    let ready = buildable text d l c.in_ok-closed.closed c.in_ok-closed.ensures.found marks counts within in (
      l.whole,
      no_limit text d l c.in_ok-closed.closed c.in_ok-closed.ensures.found marks counts within,
      c.in_ok-pattern.ensures l.whole ready,
    )

pub returns-clause-sound : goal.returns-clause-sound
returns-clause-sound c =
    let text = c.args.text.now in
    let d = c.in_ok-draft.draft in
    let l = looked text d (omega arith) (not_by _ _ c.if-has_byte.false c.has_byte.ensures) c.in_ok-draft.ensures.found
    in
    let marks = not_by _ _ c.if-has_stereo.false c.has_stereo.ensures in
    let counts = sym c.any_ring_set.ensures ∙ c.if-any_ring_set.false in
    let within = c.are_within_limits.ensures.0 c.if-not-are_within_limits.false in
    let ready = buildable text d l c.in_ok-closed.closed c.in_ok-closed.ensures.found marks counts within in
    sound text d l within _ (c.in_ok-pattern.ensures l.whole ready)
