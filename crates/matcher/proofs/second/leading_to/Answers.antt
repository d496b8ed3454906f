use Rattle.std.proofs.Common.{◌≡◌, ap, arith, below_more, get_or, inl, inr, length, subst}
use Rattle.std.specs.Int.{bit_at}
use Rattle.std.proofs.lemmas.Bool.{iff_false}
use Rattle.std.proofs.lemmas.Nat.Bits.{bit_at-zero}
use Rattle.smarts_parse.specs.Pattern.{term_of}
use Rattle.matcher.proofs.Narrowings.{ends_among}
use Rattle.matcher.proofs.Pairs.{IsLed, led_here, led_joins, led_more}
use Rattle.matcher.proofs.Refusals.{no_bond}
use Rattle.matcher.proofs.Seconds.{before_all}
use Rattle.matcher.proofs.second.leading_to.Goals as goal

pub with_end-there-requires-clause-one : goal.with_end-there-requires-clause-one
with_end-there-requires-clause-one c =
    let h = (ends_among c.args.mol.now c.bonds-bonds.result.now c.from.result c.bonds-bonds.ensures.value
    c.bonds-bonds.ensures.valid (omega (arith, c.from.ensures, c.loop-place-test.true))).0 in
    omega arith

pub with_end-there-requires-clause-other : goal.with_end-there-requires-clause-other
with_end-there-requires-clause-other c =
    let h = (ends_among c.args.mol.now c.bonds-bonds.result.now c.from.result c.bonds-bonds.ensures.value
    c.bonds-bonds.ensures.valid (omega (arith, c.from.ensures, c.loop-place-test.true))).1 in
    omega arith

pub with_end-found-requires-clause-one : goal.with_end-found-requires-clause-one
with_end-found-requires-clause-one c =
    let h = (ends_among c.args.mol.now c.bonds-bonds.result.now c.from.result c.bonds-bonds.ensures.value
    c.bonds-bonds.ensures.valid (omega (arith, c.from.ensures, c.loop-place-test.true))).1 in
    omega arith

pub with_end-found-requires-clause-other : goal.with_end-found-requires-clause-other
with_end-found-requires-clause-other c =
    let h = (ends_among c.args.mol.now c.bonds-bonds.result.now c.from.result c.bonds-bonds.ensures.value
    c.bonds-bonds.ensures.valid (omega (arith, c.from.ensures, c.loop-place-test.true))).0 in
    omega arith

pub loop-place-init : goal.loop-place-init
loop-place-init c = record {
  all = λ k l. absurd (omega arith);
  only = λ x t. absurd (let zero' = bit_at-zero x in omega arith);
}

pub loop-place-preserved-then-not-bond_true : goal.loop-place-preserved-then-not-bond_true
loop-place-preserved-then-not-bond_true c = record {
  all = below_more _ _ c.loop-place.invariant.all
      (λ holds. absurd (iff_false c.bond_true.ensures c.if-not-bond_true.true holds));
  only = λ x t. led_more _ _ _ _ _ x (c.loop-place.invariant.only x t);
}

pub loop-place-preserved : goal.loop-place-preserved
loop-place-preserved c =
    let new = c.with_end-found.result in
    let bonds = c.bonds-bonds.result.now in
    let holds = c.bond_true.ensures.0 c.if-not-bond_true.false in
    record {
      all = below_more _ _
          (λ k l holds. let old = c.loop-place.invariant.all k l holds in (
            λ t. c.with_end-found.ensures.kept _ (c.with_end-there.ensures.kept _ (old.0 t)),
            λ t. c.with_end-found.ensures.kept _ (c.with_end-there.ensures.kept _ (old.1 t)),
          ))
          (λ holds. subst
          (λ i. (bit_at c.args.second (get_or bonds i no_bond).b ≡ 1 → bit_at new (get_or bonds i no_bond).a ≡ 1)
          × (bit_at c.args.second (get_or bonds i no_bond).a ≡ 1 → bit_at new (get_or bonds i no_bond).b ≡ 1))
          c.from.ensures (
            λ t. c.with_end-found.ensures.kept _ (c.with_end-there.ensures.here t),
            λ t. c.with_end-found.ensures.here t,
          ));
      only = λ x t. elim (c.with_end-found.ensures.only x t) [
        | inl there ↦ elim (c.with_end-there.ensures.only x there) [
          | inl old ↦ led_more _ _ _ _ _ x (c.loop-place.invariant.only x old)
          | inr here ↦ led_here _ _ bonds c.args.second c.loop-place.place c.from.result x c.from.ensures holds
              (inl here)
        ]
        | inr here ↦ led_here _ _ bonds c.args.second c.loop-place.place c.from.result x c.from.ensures holds (inr here)
      ];
    }

pub returns-clause-all : goal.returns-clause-all
returns-clause-all c =
    let found = c.loop-place.found in
    let second = c.args.second in
    before_all (term_of c.args.bond.now.expr) c.args.mol.now second found
    (λ k l holds. subst
    (λ bs. (bit_at second (get_or bs k no_bond).b ≡ 1 → bit_at found (get_or bs k no_bond).a ≡ 1)
    × (bit_at second (get_or bs k no_bond).a ≡ 1 → bit_at found (get_or bs k no_bond).b ≡ 1))
    c.bonds-bonds.ensures.value
    (c.loop-place.invariant.all k (omega (arith, l, ap length c.bonds-bonds.ensures.value, c.loop-place-test.false))
    holds))

pub returns-clause-only : goal.returns-clause-only
returns-clause-only c = λ x t. led_joins (term_of c.args.bond.now.expr) c.args.mol.now c.args.second
    c.loop-place.place x (omega (arith, ap length c.bonds-bonds.ensures.value, c.loop-place.auto))
    (subst (λ bs. IsLed (term_of c.args.bond.now.expr) c.args.mol.now bs c.args.second c.loop-place.place x)
    c.bonds-bonds.ensures.value (c.loop-place.invariant.only x t))
