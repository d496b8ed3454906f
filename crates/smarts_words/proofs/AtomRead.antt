-- Atoms that are read.
use Rattle.std.proofs.Common.{◌≡◌, ℕ, List, ◌∷◌, ◌++◌, Option, None, Some, Result, Ok, Err, sym, ◌∙◌, arith}
use Rattle.std.specs.Result.{IfOk}
use Rattle.std.specs.Option.{option_map, IfSome, IsSomeAnd}
use Rattle.line_walk.specs.Follow.{Reads, AfterBond}
use Rattle.smarts_words.specs.declared.word.BondWord.{BondWord}
use Rattle.smarts_words.specs.declared.word.Step.{Step}
use Rattle.smarts_words.specs.Expression.{Expression}
use Rattle.smarts_words.specs.Bonds.{BondPrim, bond_text, IsBondExpression, bond_value}
use Rattle.smarts_words.specs.State.{EndsBond}
use Rattle.smarts_words.specs.Words.{smarts_words, IsBond}
use Rattle.smarts_words.proofs.Apart.{bond_more, bond_less, after_no_mark, after_ends}
use Rattle.smarts_words.specs.Bracket.{Atom, star, aromatic, aliphatic, organic, lower, bracket, atom_text, IsAtom, AtomValue, value_of_atom}
use Rattle.smarts_words.proofs.BracketRead.{BracketAt, organic_first, lower_first}

heads : (a b : ℕ) (r s : List ℕ) → a ∷ r ≡ b ∷ s → a ≡ b
heads a b r s e = cc

pub bracket_atom : (May : List ℕ → Type 0) (bytes r : List ℕ) (o : Option (AtomValue × List ℕ)) → bytes ≡ 91 ∷ r
    → BracketAt r o → Reads atom_text IsAtom value_of_atom May bytes o
bracket_atom May bytes r o e at = record { found = found_by o at; only = λ x rest is may h. by x rest is (sym e ∙ h) }
  where
    found_by : (o : Option (AtomValue × List ℕ)) → BracketAt r o
        → IfSome o (λ p. (x : Atom) × IsAtom x × (bytes ≡ atom_text x ++ p.1) × (p.0 ≡ value_of_atom x))
    found_by None at = tt
    found_by (Some p) at = let f = at.found in (bracket f.0, f.1, e ∙ f.2, f.3)

    by : (x : Atom) (rest : List ℕ) → IsAtom x → 91 ∷ r ≡ atom_text x ++ rest → IsSomeAnd o (λ p. p.1 ≡ rest)
    by star rest is h = absurd (let k = heads 91 42 r _ h in omega arith)
    by aromatic rest is h = absurd (let k = heads 91 97 r _ h in omega arith)
    by aliphatic rest is h = absurd (let k = heads 91 65 r _ h in omega arith)
    by (organic x) rest is h = absurd (organic_first x r rest h)
    by (lower x) rest is h = absurd (lower_first x r rest h)
    by (bracket x) rest is h = at.only x rest is tt h

pub ok_then : {X Y : Type 0} (r : Result X Y) {P Q : X → Type 0} → IfOk r P → ((x : X) → P x → Q x) → IfOk r Q
ok_then (Ok x) h f = f x h
ok_then (Err y) h f = tt

-- a bond expression, as the walk asks for it
pub bond_reads : {T Y : Type 0} (F : T → List (Step BondWord) × List ℕ) (bytes : List ℕ) (result : Result (Option T) Y)
    → IfOk result (λ o. IfSome o (λ r. (e : Expression BondPrim) × IsBondExpression e (F r).1
    × (bytes ≡ bond_text e ++ (F r).1) × ((F r).0 ≡ bond_value (Some e))))
    → IfOk result (λ o. (e : Expression BondPrim) (rest : List ℕ) → IsBondExpression e rest → EndsBond rest
    → bytes ≡ bond_text e ++ rest → IsSomeAnd o (λ r. (F r).1 ≡ rest))
    → IfOk result (λ o. Reads bond_text IsBond (λ x. bond_value (Some x)) (AfterBond smarts_words) bytes
    (option_map F o))
bond_reads F bytes (Err y) found only = tt
bond_reads F bytes (Ok None) found only = record {
  found = tt;
  only = λ x rest is may h.
      only x rest (bond_more x rest (after_no_mark rest may) is) (after_ends rest may) h;
}
bond_reads F bytes (Ok (Some r)) found only = record {
  found = (found.0, bond_less found.0 (F r).1 found.1, found.2, found.3);
  only = λ x rest is may h. only x rest (bond_more x rest (after_no_mark rest may) is) (after_ends rest may) h;
}
