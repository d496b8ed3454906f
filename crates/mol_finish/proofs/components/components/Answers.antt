use Rattle.std.proofs.Common.{ℕ, ◌+◌, ◌<◌, ◌≡◌, inl, inr, List, length, get_or, replicate, sym, ap, subst, ◌∙◌, arith}
use Rattle.std.specs.Vec.{vec_len}
use Rattle.std.proofs.lemmas.Bool.{cases_lt}
use Rattle.std.proofs.lemmas.List.{get_or_read, take_at}
use Rattle.mol_finish.specs.declared.components.TheConstants.{NONE}
use Rattle.mol_finish.specs.Naming.{IsNamed}
use Rattle.mol_finish.proofs.Namings.{naming_none, least_unnamed, all_named}
use Rattle.mol_finish.proofs.components.components.Goals as goal
use Rattle.mol_finish.proofs.components.components.Goals.{then-index+in_ok-name_from, else-index}

-- one more atom has a name
named_more : (old new : List ℕ) (atom : ℕ) → ((a : ℕ) → a < atom → IsNamed old a)
    → ((a : ℕ) → IsNamed old a → IsNamed new a) → IsNamed new atom → (a : ℕ) → a < atom + 1 → IsNamed new a
named_more old new atom before kept here a l = elim (cases_lt a atom) [
  | inl low ↦ kept a (before a low)
  | inr high ↦ let e : a ≡ atom = omega arith in subst (λ x. IsNamed new x) (sym e) here
]

pub loop-atom-init : goal.loop-atom-init
loop-atom-init c =
    let none : c.in_ok-components.components.items ≡ replicate c.atoms-atoms.result NONE =
    c.in_ok-components.ensures.items_if_clones_equal (λ y e. e) in
    record {
      naming = rw (none, c.atoms-atoms.ensures.value) (naming_none _ _ c.atoms-atoms.ensures.valid);
      below = λ a l. absurd (omega (arith, l));
    }

pub name_from-requires-clause-least : goal.name_from-requires-clause-least
name_from-requires-clause-least c =
    let within : c.loop-atom.atom < length c.loop-atom.components.items =
    omega (arith, c.loop-atom.invariant.naming.one_each) in
    let at : c.index.result.now ≡ get_or c.loop-atom.components.items c.loop-atom.atom 0 =
    get_or_read _ _ _ within c.index.ensures 0 in
    least_unnamed _ _ _ _ c.loop-atom.invariant.naming c.loop-atom.invariant.below (sym at ∙ c.if-index.true)

pub loop-atom-preserved : goal.loop-atom-preserved
loop-atom-preserved c =
    let names = c.loop-atom.components.items in
    let known = c.loop-atom.invariant in
    let within : c.loop-atom.atom < length c.loop-atom.components.items = omega (arith, known.naming.one_each) in
    let at : c.index.result.now ≡ get_or c.loop-atom.components.items c.loop-atom.atom 0 =
    get_or_read _ _ _ within c.index.ensures 0 in
    elim c.if-index.branch [
      | then-index+in_ok-name_from w ↦
          let long : length w.name_from.new.components ≡ vec_len c.loop-atom.components = w.name_from.auto.components
          ∙ ap length w.deref_mut.ensures.value ∙ sym c.loop-atom.components.ok.0 in
          let now : c.if-index.components.items ≡ w.name_from.new.components =
          rw w.components-is (take_at _ _ _ long) in
          let kept : (a : ℕ) → IsNamed c.loop-atom.components.items a → IsNamed w.name_from.new.components a =
          λ a named. w.in_ok-name_from.ensures.kept a (rw w.deref_mut.ensures.value named) in
          record {
            naming = rw now w.in_ok-name_from.ensures.after;
            below = rw now (named_more names w.name_from.new.components c.loop-atom.atom known.below kept
                w.in_ok-name_from.ensures.named);
          }
      | else-index w ↦
          let named : IsNamed c.loop-atom.components.items c.loop-atom.atom = λ e. w.if-index.false (at ∙ e) in
          record {
            naming = rw w.components-is known.naming;
            below = rw w.components-is (named_more names names c.loop-atom.atom known.below (λ a n. n) named);
          }
    ]

pub returns : goal.returns
returns c = all_named _ _ _ c.loop-atom.invariant.naming (λ a l. c.loop-atom.invariant.below a (omega arith))
