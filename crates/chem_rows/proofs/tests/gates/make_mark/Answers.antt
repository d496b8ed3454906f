-- A mark more is an event of the pass, of which the tally tells.
use Rattle.std.proofs.Common.{ap, ◌∙◌, ◌+◌, ◌∷◌, [], length-append, length, arith, refl}
use Rattle.turn_gate.proofs.Lists.{has_head}
use Rattle.chem_rows.proofs.tests.gates.make_mark.Goals as goal

pub end-requires-clause-names : goal.end-requires-clause-names
end-requires-clause-names g c =
    let turn = c.in_ok-turn.turn in
    let sees = c.in_ok-turn.ensures.sees in
    let number = has_head _ c.in_ok-turn.ensures.on.numbered in
    let seen = ap (λ k. length k.0.seen) sees.sees in
    let standing = sees.standing in
    let same = ap (λ t. t.marks) c.value.ensures.value in
    record {
      origin = sees.origin;
      event = record { by = number.0; count = c.value.result.now.marks + 1 };
      of = ap (λ k. k.0.origin) sees.sees ∙ sees.of;
      told = refl;
      is_own = number.1;
      standing = omega (
        arith,
        seen,
        standing,
        same,
        length-append turn.pass.now.seat.me.0.seen (record {
          by =
              number.0;
          count = c.value.result.now.marks + 1;
        } ∷ []),
      );
    }
