use Rattle.std.proofs.Common.{◌≡◌, ◌∙◌, ◌&&◌, eq-eqb, eqb, refl, subst, sym, true}
use Rattle.std.proofs.lemmas.Bool.{false≢true}
use Rattle.exact_find.specs.Same.{IsSame}
use Rattle.exact_find.specs.declared.key.Key.{Key}
use Rattle.lookup.proofs.same.Sames.is_same.Goals as goal

one_key : (k l : Key) → k ≡ l
    → (eqb k.atoms l.atoms && (eqb k.bonds l.bonds && (eqb k.sum l.sum && eqb k.squares l.squares))) ≡ true
one_key k l e =
    rw (
      sym e,
      eq-eqb k.atoms k.atoms refl,
      eq-eqb k.bonds k.bonds refl,
      eq-eqb k.sum k.sum refl,
      eq-eqb k.squares k.squares refl,
    ) refl

pub returns-else-eq-clause-is : goal.returns-else-eq-clause-is
returns-else-eq-clause-is c = λ molecule key. (
  λ no. absurd (false≢true (sym c.if-eq.false ∙ no)),
  λ same.
      let e : c.key_of-key.result ≡ c.args.self.now.key =
      sym (c.same_have_equal_keys.ensures c.args.given.now.mol c.mol-mol.result.now c.args.self.now.key
      c.key_of-key.result molecule c.key_of-key.ensures.valid
      (subst (IsSame c.args.given.now.mol) (sym c.mol-mol.ensures.mol) same) key c.key_of-key.ensures.key) in
      c.eq.ensures ∙ one_key c.key_of-key.result c.args.self.now.key e,
)

pub returns-then-not-has_counts-clause-is : goal.returns-then-not-has_counts-clause-is
returns-then-not-has_counts-clause-is c = λ molecule key. (
  λ no. absurd (false≢true no),
  λ same.
      let like = subst (IsSame c.args.given.now.mol) (sym c.mol-mol.ensures.mol) same in
      let yes = c.has_counts.ensures.1 (key.atoms ∙ like.atoms, key.bonds ∙ like.bonds) in
      let no = c.if-not-has_counts.true in
      absurd (cc (yes, no)),
)
