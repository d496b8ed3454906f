use Rattle.std.proofs.Common.{◌≡◌, ◌∙◌, ◌++◌, ◌-◌, ap, arith, inl, inr, length, subst, sym, ◌⊎◌, ◌+◌, ◌<◌, ◌≢◌}
use Rattle.std.proofs.lemmas.List.Elements.{All-drop}
use Rattle.std.proofs.lemmas.Bool.Decides.{nat_tests}
use Rattle.io_edge.specs.declared.lines.TheConstants.{LF, LONGEST_LINE}
use Rattle.io_edge.specs.Cut.{HasNoLf}
use Rattle.io_edge.specs.Lines.{Reading, lines_behind, lines_left, pieces}
use Rattle.io_edge.specs.Steps.{IsSound}
use Rattle.io_edge.proofs.Answering.{dropped}
use Rattle.io_edge.proofs.lines.Lines.drop_front.Goals as goal
use Rattle.io_edge.proofs.lines.Lines.drop_front.Goals.{then-self-gt0, else-self-gt0}

pub returns-then-len-clause-none : goal.returns-then-len-clause-none
returns-then-len-clause-none c =
    let pending = ap (λ (r : Reading). r.pending) c.self.view_is in
    let none = subst HasNoLf (sym pending) c.requires in
    subst HasNoLf (sym c.cut.ensures.bytes) (All-drop (λ b. b ≢ LF) _ _ none)

pub returns-then-len-clause-lines : goal.returns-then-len-clause-lines
returns-then-len-clause-lines c =
    let inside = c.self.inside in
    let old : Reading = record {
      pending = inside.buffer.bytes;
      dropped = inside.dropped;
      taken = inside.taken;
      limit = inside.limit;
      ended = inside.ended;
      text = inside.buffer.text;
    } in
    let sound : IsSound old = record {
      pending = c.self.invariant.pending;
      within = c.self.invariant.limit;
      front = c.self.invariant.front;
      rest = c.self.invariant.rest;
    } in
    let none = subst HasNoLf (sym (ap (λ (r : Reading). r.pending) c.self.view_is)) c.requires in
    let size : length c.bytes-len.result.now ≡ length old.pending = ap length c.bytes-len.ensures.bytes in
    let n = length c.bytes-len.result.now - 1 in
    let why : (0 < old.dropped) ⊎ (LONGEST_LINE + 1 < length old.pending) = elim c.if-self-gt0.branch [
      | then-self-gt0 w ↦ inl w.if-self-gt0.true
      | else-self-gt0 w ↦ inr (let test = sym w.value-is ∙ c.if-len.true in grind (arith, nat_tests))
    ] in
    λ rest.
    ap (λ l. lines_behind (old.dropped + n) (pieces (l ++ rest))) c.cut.ensures.bytes
    ∙ (dropped old n rest sound none (omega (arith, size, c.if-len-gt1.true)) why
    ∙ ap (λ (r : Reading). lines_left r rest) c.self.view_is)
