-- What is taken out of the closed table is the value, and stands for what the pass had seen.
use Rattle.std.proofs.Common.{◌≡◌, ◌<◌, ℕ, true, sym, ap, ◌∙◌, subst}
use Rattle.turn_gate.specs.Numbers.{has}
use Rattle.turn_gate.proofs.Lists.{single_is}
use Rattle.turn_gate.proofs.Closing.{taken, is_there, the_value}
use Rattle.turn_gate.proofs.gate.Gate.close.Goals as goal

pub unwrap-value-requires : goal.unwrap-value-requires
unwrap-value-requires g c =
    let e = sym c.into_seat-seat.ensures in
    let origin = single_is _ c.requires.of.placed in
    let out = subst (λ s. s.me.0.stage ≡ 0) e c.requires.of.out in
    let root = subst (λ s. 0 < s.me.0.given) e c.requires.whole.root in
    let every = subst (λ s. (n : ℕ) → n < s.me.0.given → has s.me.0.numbers n ≡ true) e c.requires.whole.all in
    let t = taken _ _ _ _ _ _ origin.0 out (ap (λ s. s.me.0.origin) (sym e) ∙ origin.1) root every _ _
    c.close_with-closed.ensures.values.2 c.take.result c.take.ensures.value in
    is_there _ _ t.1

pub returns : goal.returns
returns g c =
    let e = sym c.into_seat-seat.ensures in
    let origin = single_is _ c.requires.of.placed in
    let out = subst (λ s. s.me.0.stage ≡ 0) e c.requires.of.out in
    let root = subst (λ s. 0 < s.me.0.given) e c.requires.whole.root in
    let every = subst (λ s. (n : ℕ) → n < s.me.0.given → has s.me.0.numbers n ≡ true) e c.requires.whole.all in
    let t = taken _ _ _ _ _ _ origin.0 out (ap (λ s. s.me.0.origin) (sym e) ∙ origin.1) root every _ _
    c.close_with-closed.ensures.values.2 c.take.result c.take.ensures.value in
    let stands = subst (λ v. g.V.Stands.stands origin.0 v c.into_seat-seat.result.me.0.seen)
    (the_value _ _ _ t.1 c.unwrap-value.ensures) t.2 in
    record {
      origin = origin.0;
      of = origin.1;
      standing = subst (λ s. g.V.Stands.stands origin.0 c.unwrap-value.result s.me.0.seen) c.into_seat-seat.ensures
          stands;
    }
