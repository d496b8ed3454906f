use Rattle.std.proofs.Common.{◌≡◌, ◌≢◌, ◌+◌, ◌<◌, ◌≤◌, ◌∙◌, ℕ, Bool, false, true, List, inl, inr, get_or, length, set, ap, sym, arith}
use Rattle.std.proofs.lemmas.Bool.{cases_eq}
use Rattle.std.proofs.lemmas.List.{get_or-set_same, get_or-set_other}
use Rattle.smallvec.proofs.SmallVecLemmas.{items-with_items}
use Rattle.chem_core.specs.Words.{bits_of}
use Rattle.chem_core.proofs.Prints.{length-bits_of, no_bit}
use Rattle.chem_core.proofs.mol.bond_set.Goals as goal
use Rattle.chem_core.proofs.mol.bond_set.Goals.{then-flag, else-flag}

-- the first of the truth values are the bits, and one more
step : (old new flags : List Bool) (i : ℕ) → ((k : ℕ) → k < i → get_or old k false ≡ get_or flags k false)
    → ((k : ℕ) → i ≤ k → get_or old k false ≡ false) → get_or new i false ≡ get_or flags i false
    → ((k : ℕ) → k ≢ i → get_or new k false ≡ get_or old k false)
    → ((k : ℕ) → k < i + 1 → get_or new k false ≡ get_or flags k false)
    × ((k : ℕ) → i + 1 ≤ k → get_or new k false ≡ false)
step old new flags i before behind here others = (
  λ k h. elim (cases_eq k i) [ inl is ↦ rw is here | inr not' ↦ others k not' ∙ before k (omega arith) ],
  λ k h. others k (λ is. omega arith) ∙ behind k (omega arith),
)

pub loop-bond-init : goal.loop-bond-init
loop-bond-init c =
    let zeros = c.in_ok-set.ensures.items_if_clones_equal (λ y e. e) in
    record {
      room = omega (arith, c.div_ceil.ensures, c.in_ok-set.ensures.len);
      before = λ k h. absurd (omega arith);
      behind = λ k h. rw zeros (no_bit c.div_ceil.result k);
    }

pub loop-bond-preserved : goal.loop-bond-preserved
loop-bond-preserved c =
    let i = c.loop-bond.bond in
    let flags = c.args.flags.now in
    let old = c.loop-bond.set.items in
    let known = c.loop-bond.invariant in
    let small : i < length (bits_of old) =
    rw length-bits_of (omega (arith, c.loop-bond-test.true, known.room)) in
    elim c.if-flag.branch [
      | then-flag w ↦
          let long : length w.set_bit.new.words ≡ length old =
          w.set_bit.auto.words ∙ ap length w.deref_mut.ensures.value in
          let now : c.if-flag.set.items ≡ w.set_bit.new.words =
          ap (λ v. v.items) w.set-is ∙ items-with_items c.loop-bond.set w.set_bit.new.words long in
          let bits : bits_of c.if-flag.set.items ≡ set (bits_of old) i true =
          ap bits_of now ∙ w.set_bit.ensures ∙ ap (λ l. set (bits_of l) i true) w.deref_mut.ensures.value in
          let more = step (bits_of old) (bits_of c.if-flag.set.items) flags i known.before known.behind
          (rw bits (get_or-set_same (bits_of old) i true false small ∙ sym w.if-flag.true))
          (λ k n. rw bits (get_or-set_other (bits_of old) i k true false n)) in
          record { room = omega (arith, known.room, ap length now, long); before = more.0; behind = more.1 }
      | else-flag w ↦
          let now : c.if-flag.set.items ≡ old = ap (λ v. v.items) w.set-is in
          let more = step (bits_of old) (bits_of c.if-flag.set.items) flags i known.before known.behind
          (rw now (known.behind i (omega arith) ∙ sym w.if-flag.false)) (λ k n. rw now) in
          record { room = omega (arith, known.room, ap length now); before = more.0; behind = more.1 }
    ]
