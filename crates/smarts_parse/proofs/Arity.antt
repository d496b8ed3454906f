-- Steps that are given a meaning are said of as many expressions as before.
use Rattle.std.proofs.Common.{◌≡◌, ℕ, ◌+◌, ◌-◌, List, [], ◌∷◌, map, refl, sym, subst, arith}
use Rattle.smarts_words.specs.declared.word.Step.{Step}
use Rattle.smarts_words.specs.declared.word.Step.TheVariants as steps
use Rattle.smarts_words.specs.declared.word.AtomWord.{AtomWord}
use Rattle.smarts_words.specs.declared.word.AtomWord.TheVariants as words
use Rattle.smarts_words.specs.declared.word.BondWord.{BondWord}
use Rattle.smarts_parse.specs.declared.pattern.AtomPrim.{AtomPrim}
use Rattle.smarts_parse.specs.declared.pattern.AtomPrim.TheVariants as atoms
use Rattle.smarts_parse.specs.Meaning.{atom_prim, atom_steps, bond_step}
use Rattle.smarts_parse.specs.Steps.{operands, LeaveOne}

operands_bond : (s : Step BondWord) → operands (bond_step s) ≡ operands s
operands_bond (steps.Prim word) = refl
operands_bond steps.Not = refl
operands_bond steps.And = refl
operands_bond steps.Or = refl

pub leave_bonds : (n : ℕ) (ss : List (Step BondWord)) → LeaveOne n ss → LeaveOne n (map bond_step ss)
leave_bonds n [] h = h
leave_bonds n (s ∷ ss) h =
    let e = operands_bond s in let le = h.0 in (
      omega arith,
      subst (λ (w : ℕ). LeaveOne (n - w + 1) (map bond_step ss)) (sym e)
          (leave_bonds (n - operands s + 1) ss h.1),
    )

-- what one step of an atom becomes
record Headed (ns : List ℕ) (s : Step AtomWord) (ss : List (Step AtomWord)) : Type 0 where
  head : Step AtomPrim
  left : List ℕ
  is : atom_steps ns (s ∷ ss) ≡ head ∷ atom_steps left ss
  same : operands head ≡ operands s

headed : (ns : List ℕ) (s : Step AtomWord) (ss : List (Step AtomWord)) → Headed ns s ss
headed [] (steps.Prim word) ss = record { head = steps.Prim (atom_prim 0 word); left = []; is = refl; same = refl }
headed (n ∷ ns) (steps.Prim words.Part) ss = record {
  head = steps.Prim (atoms.Rec n);
  left = ns;
  is = refl;
  same = refl;
}
headed (n ∷ ns) (steps.Prim word) ss = record {
  head = steps.Prim (atom_prim 0 word);
  left = n ∷ ns;
  is = refl;
  same = refl;
}
headed [] steps.Not ss = record { head = steps.Not; left = []; is = refl; same = refl }
headed [] steps.And ss = record { head = steps.And; left = []; is = refl; same = refl }
headed [] steps.Or ss = record { head = steps.Or; left = []; is = refl; same = refl }
headed (n ∷ ns) steps.Not ss = record { head = steps.Not; left = n ∷ ns; is = refl; same = refl }
headed (n ∷ ns) steps.And ss = record { head = steps.And; left = n ∷ ns; is = refl; same = refl }
headed (n ∷ ns) steps.Or ss = record { head = steps.Or; left = n ∷ ns; is = refl; same = refl }

pub nil_steps : (ns : List ℕ) → atom_steps ns [] ≡ []
nil_steps [] = refl
nil_steps (n ∷ ns) = refl

pub leave_atoms : (n : ℕ) (ns : List ℕ) (ss : List (Step AtomWord)) → LeaveOne n ss → LeaveOne n (atom_steps ns ss)
leave_atoms n ns [] h = subst (λ (w : List (Step AtomPrim)). LeaveOne n w) (sym (nil_steps ns)) h
leave_atoms n ns (s ∷ ss) h =
    let d = headed ns s ss in
    let e = d.same in let le = h.0 in
    subst (λ (w : List (Step AtomPrim)). LeaveOne n w) (sym d.is) (
      omega arith,
      subst (λ (w : ℕ). LeaveOne (n - w + 1) (atom_steps d.left ss)) (sym e)
          (leave_atoms (n - operands s + 1) d.left ss h.1),
    )
