use Rattle.std.proofs.Common.{◌≡◌, ◌∙◌, ◌+◌, ap, arith, below_more, get_or, inl, inr, length, slice_index, subst, sym}
use Rattle.std.specs.Int.{bit_at}
use Rattle.chem_core.specs.Sorts.{kind_number}
use Rattle.std.proofs.lemmas.List.{get_or-set_other, get_or-set_same}
use Rattle.std.proofs.lemmas.Nat.Bits.{bit_at-zero}
use Rattle.matcher.proofs.Follows.{IsJoinedBy, joined_all, joined_by_bond, joined_by_more}
use Rattle.matcher.proofs.Narrowings.{ends_among}
use Rattle.matcher.proofs.Refusals.{no_bond}
use Rattle.matcher.proofs.follow.note_joined.Goals as goal

pub loop-atom-preserved : goal.loop-atom-preserved
loop-atom-preserved c =
    let at = c.args.start + c.loop-atom.atom in
    record {
      empty = below_more _ _
          (λ k l. get_or-set_other c.loop-atom.joined at (c.args.start + k) 0 0 (λ same. omega arith)
          ∙ c.loop-atom.invariant.empty k l)
          (get_or-set_same c.loop-atom.joined at 0 0
          (omega (arith, ap length c.atoms-atom-end.ensures.value, c.loop-atom-test.true)));
      before = λ k l. get_or-set_other c.loop-atom.joined at k 0 0 (λ same. omega arith)
          ∙ c.loop-atom.invariant.before k l;
    }

pub loop-bond-init : goal.loop-bond-init
loop-bond-init c = record {
  here = λ k l. absurd (omega arith);
  only = λ x y l t. absurd
      (let none = ap (λ n. bit_at n y) (c.loop-atom.invariant.empty x
      (omega (arith, l, ap length c.atoms-atom-end.ensures.value, c.loop-atom-test.false))) in
      let zero' = bit_at-zero y in
      omega arith);
  before = c.loop-atom.invariant.before;
}

pub join_from-requires-clause-atom : goal.join_from-requires-clause-atom
join_from-requires-clause-atom c =
    let h = (ends_among c.args.mol.now c.bonds-bonds.result.now c.loop-bond.bond-index c.bonds-bonds.ensures.value
    c.bonds-bonds.ensures.valid c.loop-bond-test.true).0 in
    omega arith

pub join_from-requires-clause-other : goal.join_from-requires-clause-other
join_from-requires-clause-other c =
    let h = (ends_among c.args.mol.now c.bonds-bonds.result.now c.loop-bond.bond-index c.bonds-bonds.ensures.value
    c.bonds-bonds.ensures.valid c.loop-bond-test.true).1 in
    omega arith

pub join_from-requires-in-loop-bond-clause-atom : goal.join_from-requires-in-loop-bond-clause-atom
join_from-requires-in-loop-bond-clause-atom c =
    let h = (ends_among c.args.mol.now c.bonds-bonds.result.now c.loop-bond.bond-index c.bonds-bonds.ensures.value
    c.bonds-bonds.ensures.valid c.loop-bond-test.true).1 in
    omega arith

pub join_from-requires-in-loop-bond-clause-other : goal.join_from-requires-in-loop-bond-clause-other
join_from-requires-in-loop-bond-clause-other c =
    let h = (ends_among c.args.mol.now c.bonds-bonds.result.now c.loop-bond.bond-index c.bonds-bonds.ensures.value
    c.bonds-bonds.ensures.valid c.loop-bond-test.true).0 in
    omega arith

pub loop-bond-preserved : goal.loop-bond-preserved
loop-bond-preserved c =
    let second = c.join_from-in-loop-bond.ensures in
    let first = c.join_from.ensures in
    record {
      here = below_more _ _
          (λ k l kind. let old = c.loop-bond.invariant.here k l kind in (
            second.kept _ _ (first.kept _ _ old.0),
            second.kept _ _ (first.kept _ _ old.1),
          ))
          (λ kind. let one = c.bit_of-bit.ensures.value ∙ kind in (second.kept _ _ (first.here one), second.here one));
      only = λ x y l t. elim (second.only x y t) [
        | inl there ↦ elim (first.only x y there) [
          | inl old ↦ joined_by_more c.args.kinds c.bonds-bonds.result.now c.loop-bond.bond-index x y
              (c.loop-bond.invariant.only x y l old)
          | inr h ↦ (c.loop-bond.bond-index, omega arith, sym c.bit_of-bit.ensures.value ∙ h.0, inl (h.1, h.2))
        ]
        | inr h ↦ (c.loop-bond.bond-index, omega arith, sym c.bit_of-bit.ensures.value ∙ h.0, inr (h.1, h.2))
      ];
      before = λ k l. second.before k l ∙ first.before k l ∙ c.loop-bond.invariant.before k l;
    }

pub returns-clause-here : goal.returns-clause-here
returns-clause-here c =
    let m = c.args.mol.now in
    let kinds = c.args.kinds in
    let joined = c.loop-bond.joined in
    let start = c.args.start in
    let bonds = c.bonds-bonds.ensures.value in
    record {
      all = joined_all m kinds start joined c.bonds-bonds.ensures.valid
          (λ k l. subst (λ bs. bit_at kinds (kind_number (get_or bs k no_bond).kind) ≡ 1
          → (bit_at (slice_index joined (start + (get_or bs k no_bond).a)) (get_or bs k no_bond).b ≡ 1)
          × (bit_at (slice_index joined (start + (get_or bs k no_bond).b)) (get_or bs k no_bond).a ≡ 1))
          bonds (c.loop-bond.invariant.here k (omega (arith, l, ap length bonds, c.loop-bond-test.false))));
      only = λ x y l t. joined_by_bond m kinds c.loop-bond.bond-index x y
          (omega (arith, ap length bonds, c.loop-bond.auto))
          (subst (λ bs. IsJoinedBy kinds bs c.loop-bond.bond-index x y) bonds (c.loop-bond.invariant.only x y l t));
    }
