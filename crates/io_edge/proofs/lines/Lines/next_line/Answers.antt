use Rattle.std.proofs.Common.{subst, sym, ◌∙◌, inl, inr, arith}
use Rattle.std.specs.Prelude.{IsTrue}
use Rattle.std.proofs.lemmas.Result.{err_from_is_err_and}
use Rattle.io_edge.proofs.Outcome.{reads_of, count_of, goes_on, met_of, untouched_of, ended_of, awaits_held, at_limit_of, finished_of, told_of, told_fault, answers_after, answers_fault, counts_after, line_rises, rose_after, not_too_long, not_end, ended_not, no_whole_line, can_at_limit, can_finished}
use Rattle.io_edge.proofs.lines.Lines.next_line.Goals as goal

pub loop-answer-preserved : goal.loop-answer-preserved
loop-answer-preserved g c =
    let left = g.S.Source.left in
    let faults = g.S.Source.faults in
    inr (goes_on left faults _ _ _ _ _ _ _ c.loop-answer.invariant c.held_answer.ensures.sound c.in_default.ensures.none
    c.in_default.ensures.same c.take_piece.ensures.reads c.take_piece.ensures.count c.take_piece.ensures.end)

pub returns-in-Some : goal.returns-in-Some
returns-in-Some g c =
    let left = g.S.Source.left in
    let faults = g.S.Source.faults in
    let start = c.loop-answer.invariant in
    let held = c.in-Some.ensures.some in
    let reads = reads_of left faults _ _ _ _ start c.held_answer.ensures.sound in
    let answers = answers_after _ _ _ _ _ _ reads held in
    record {
      bytes = (reads.got, reads.leaves, counts_after _ _ _ _ _ reads.counts held, answers);
      told = λ l l' p q h. told_of _ _ _ reads.got l l' _ _ p q reads.leaves answers
          (λ e. met_of left faults _ _ _ _ l l' start p q h (subst IsTrue held.ended e)) held.end;
      met = λ l l' p q h e. met_of left faults _ _ _ _ l l' start p q h (subst IsTrue held.ended e);
      progress = omega (arith, reads.progress, held.progress);
      rises = line_rises _ _ _ _ reads.progress held.rises;
      text = held.fits;
      no_text = held.none;
      source_fault = λ e. absurd (held.source e);
      below_limit = λ e. absurd (held.source e);
      too_long = held.too_long;
      at_limit = λ h. at_limit_of left faults _ _ _ _ _ _ start held h;
      end = held.end;
      finished = λ h. finished_of left faults _ _ _ _ _ _ start held h;
      awaits = awaits_held _ _ _ held;
      ended = λ e. subst IsTrue (sym held.ended) (ended_of left faults _ _ _ _ start e);
      count = count_of left faults _ _ _ _ start;
      untouched = λ h. untouched_of left faults _ _ _ _ start h;
    }

pub returns-in_err-take_piece : goal.returns-in_err-take_piece
returns-in_err-take_piece g c =
    let left = g.S.Source.left in
    let faults = g.S.Source.faults in
    let start = c.loop-answer.invariant in
    let under = goes_on left faults _ _ _ _ _ _ _ start c.held_answer.ensures.sound c.in_default.ensures.none
    c.in_default.ensures.same c.take_piece.ensures.reads c.take_piece.ensures.count c.take_piece.ensures.end in
    let fault = err_from_is_err_and c.from_residual.result c.from_residual.ensures.1 in
    let answers = answers_fault fault.0 _ _ _ _ under.reads in
    rw fault.1 (record {
      bytes = (under.reads.got, under.reads.leaves, under.reads.counts, answers);
      told = λ l l' p q h. told_fault _ _ l l' _ _ under.reads p q;
      met = λ l l' p q h e. absurd (ended_not _ c.in_err-take_piece.ensures.not_ended e);
      progress = under.reads.progress;
      rises = tt;
      text = tt;
      no_text = c.take_piece.ensures.text;
      source_fault = λ e. rose_after _ _ _ (count_of left faults _ _ _ _ start) c.in_err-take_piece.ensures.rose;
      below_limit = λ e. c.in_err-take_piece.ensures.below;
      too_long = λ e. absurd (not_too_long _ (fault.2 ∙ c.in_err-take_piece.ensures.fault) e);
      at_limit = λ h. absurd (under.none (can_at_limit _ h));
      end = λ e. absurd (not_end _ e);
      finished = λ h. absurd (under.none (can_finished _ h));
      awaits = record {
        not_ended = c.in_err-take_piece.ensures.not_ended;
        none = no_whole_line c.take_piece.new.self c.in_err-take_piece.ensures.none
            c.in_err-take_piece.ensures.not_ended;
      };
      ended = λ e. absurd (under.none (inr (inl e)));
      count = under.count;
      untouched = λ h. absurd (under.none h);
    })
