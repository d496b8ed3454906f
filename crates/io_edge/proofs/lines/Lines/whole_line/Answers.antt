use Rattle.std.proofs.Common.{◌≡◌, ◌<◌, ap, sym, ◌∙◌, subst, length, take}
use Rattle.io_edge.specs.Lines.{Reading, without_cr}
use Rattle.io_edge.proofs.Answering.{cuts_lf, cuts_last}
use Rattle.io_edge.proofs.lines.Lines.whole_line.Goals as goal

pub returns-in-Some-clause-some : goal.returns-in-Some-clause-some
returns-in-Some-clause-some c =
    let old = c.args.self.now in
    let at = c.in-Some.at in
    let bytes = c.bytes.ensures.bytes ∙ ap (λ (r : Reading). r.pending) (c.self.view_is ∙ c.in-Some.ensures.same) in
    let len : length c.text_of-text_len.result.now ≡ length (without_cr (take at old.pending)) =
    ap length c.text_of-text_len.ensures.text ∙ ap (λ l. length (without_cr (take at l))) bytes in
    rw (c.answer.ensures.line, c.answer.ensures.after, c.in-Some.ensures.same) (cuts_lf old at _ c.in-Some.ensures.sound
    c.in-Some.ensures.some len)

pub returns-then-len-gt0-clause-some : goal.returns-then-len-gt0-clause-some
returns-then-len-gt0-clause-some c =
    let old = c.args.self.now in
    let bytes = c.bytes-len.ensures.bytes ∙ ap (λ (r : Reading). r.pending) (c.self-2.view_is
    ∙ c.in_default.ensures.same) in
    let ended = ap (λ (r : Reading). r.ended) (c.self-2.view_is ∙ c.in_default.ensures.same) in
    let some : 0 < length old.pending = subst (λ n. 0 < n) (ap length bytes) c.if-len-gt0.true in
    rw (c.answer-then-len-gt0.ensures.line, c.answer-then-len-gt0.ensures.after, c.in_default.ensures.same, bytes)
    (cuts_last old c.in_default.ensures.sound c.in_default.ensures.none (sym ended ∙ c.if-self.true) some)
