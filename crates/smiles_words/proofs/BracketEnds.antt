-- The front and the end of a bracket, read back from their texts.
use Rattle.std.proofs.Common.{◌≡◌, ℕ, Bool, inl, List, ◌∷◌, ◌++◌, Option, refl, sym, ◌∙◌, ap, append_assoc}
use Rattle.std.specs.Prelude.{ℤ}
use Rattle.smiles_words.specs.declared.bracket.Front.{Front}
use Rattle.smiles_words.specs.declared.bracket.End.{End}
use Rattle.smiles_words.specs.Atom.{symbol_text, Symbol, chiral_text, Chiral, hydrogens_text, Hydrogens, charge_text, Charge, class_text, Bracket, bracket_text, IsBracket}
use Rattle.smiles_words.specs.Follow.{AfterChiral}
use Rattle.smiles_words.specs.Parts.{FrontText, front_text, IsFront, EndText, end_text, IsEnd}
use Rattle.smiles_words.proofs.Digits.{same_digits}
use Rattle.smiles_words.proofs.Symbols.{symbol_no_digit, same_symbol}
use Rattle.smiles_words.proofs.Pieces.{class_then, charge_then, hydrogens_then, chiral_then, same_class, same_charge, same_hydrogens, same_chiral, few_hydrogens}

pub front_spelled : (x : FrontText) (rest : List ℕ) → front_text x ++ rest ≡ x.isotope
    ++ (symbol_text x.symbol ++ (chiral_text x.chiral ++ rest))
front_spelled x rest = simp append_assoc

pub end_spelled : (x : EndText) (rest : List ℕ) → end_text x ++ rest ≡ hydrogens_text x.hydrogens
    ++ (charge_text x.charge ++ (class_text x.class ++ 93 ∷ rest))
end_spelled x rest = simp append_assoc

-- the parts of a bracket
abbrev pub front_part : Bracket → FrontText
front_part x = record { isotope = x.isotope; symbol = x.symbol; chiral = x.chiral }

abbrev pub end_part : Bracket → EndText
end_part x = record { hydrogens = x.hydrogens; charge = x.charge; class = x.class }

pub is_front : (x : Bracket) → IsBracket x → IsFront (front_part x)
is_front x is = record { short = is.short; digits = is.digits; symbol = is.symbol; chiral = is.chiral }

pub is_end : (x : Bracket) → IsBracket x → IsEnd (end_part x)
is_end x is = record {
  hydrogens = few_hydrogens x.symbol x.hydrogens is.hydrogens;
  charge = is.charge;
  class =
      is.class;
}

pub parts_spelled : (x : Bracket) (rest : List ℕ) → bracket_text x ++ rest ≡ 91
    ∷ (front_text (front_part x) ++ (end_text (end_part x) ++ rest))
parts_spelled x rest = ap (λ w. 91 ∷ w) (simp append_assoc)

pub end_then : (x : EndText) (rest : List ℕ) → IsEnd x → AfterChiral (end_text x ++ rest)
end_then x rest is =
    let after = hydrogens_then x.hydrogens _
    (charge_then x.charge _ is.charge (class_then x.class (93 ∷ rest) (inl refl))) in
    rw (end_spelled x rest) after

front_made : (i i' : List ℕ) (s s' : Symbol) (m m' : Chiral) → i ≡ i' → s ≡ s' → m ≡ m'
    → (let x : FrontText = record { isotope = i; symbol = s; chiral = m } in x) ≡ record {
      isotope = i';
      symbol = s';
      chiral = m';
    }
front_made i i' s s' m m' a b d = cc

end_made : (h h' : Hydrogens) (c c' : Charge) (k k' : Option (List ℕ)) → h ≡ h' → c ≡ c' → k ≡ k'
    → (let x : EndText = record { hydrogens = h; charge = c; class = k } in x) ≡ record {
      hydrogens = h';
      charge = c';
      class = k';
    }
end_made h h' c c' k k' a b d = cc

pub same_front : (x y : FrontText) (a b : List ℕ) → IsFront x → IsFront y → AfterChiral a → AfterChiral b
    → front_text x ++ a ≡ front_text y ++ b → (x ≡ y) × (a ≡ b)
same_front x y a b ix iy fa fb h =
    let e = sym (front_spelled x a) ∙ h ∙ front_spelled y b in
    let p0 = same_digits x.isotope y.isotope (symbol_text x.symbol ++ (chiral_text x.chiral ++ a)) (symbol_text y.symbol
    ++ (chiral_text y.chiral ++ b)) ix.digits iy.digits (symbol_no_digit x.symbol _ ix.symbol) (symbol_no_digit
    y.symbol _ iy.symbol) e in
    let p1 = same_symbol x.symbol y.symbol (chiral_text x.chiral ++ a) (chiral_text y.chiral ++ b) ix.symbol iy.symbol
    (chiral_then x.chiral a fa) (chiral_then y.chiral b fb) p0.1 in
    let p2 = same_chiral x.chiral y.chiral a b ix.chiral iy.chiral fa fb p1.1 in
    (front_made _ _ _ _ _ _ p0.0 p1.0 p2.0, p2.1)

last_same : (a b : List ℕ) → 93 ∷ a ≡ 93 ∷ b → a ≡ b
last_same a b h = cc

pub same_end : (x y : EndText) (a b : List ℕ) → IsEnd x → IsEnd y → end_text x ++ a ≡ end_text y ++ b → (x ≡ y)
    × (a ≡ b)
same_end x y a b ix iy h =
    let cx = class_then x.class (93 ∷ a) (inl refl) in
    let cy = class_then y.class (93 ∷ b) (inl refl) in
    let ex = charge_then x.charge _ ix.charge cx in
    let ey = charge_then y.charge _ iy.charge cy in
    let e = sym (end_spelled x a) ∙ h ∙ end_spelled y b in
    let p3 = same_hydrogens x.hydrogens y.hydrogens (charge_text x.charge ++ (class_text x.class ++ 93 ∷ a))
    (charge_text y.charge ++ (class_text y.class ++ 93 ∷ b)) ix.hydrogens iy.hydrogens ex ey e in
    let p4 = same_charge x.charge y.charge (class_text x.class ++ 93 ∷ a) (class_text y.class ++ 93 ∷ b) ix.charge
    iy.charge cx cy p3.1 in
    let p5 = same_class x.class y.class (93 ∷ a) (93 ∷ b) ix.class iy.class (inl refl) (inl refl) p4.1 in
    (end_made _ _ _ _ _ _ p3.0 p4.0 p5.0, last_same a b p5.1)

rest_same : (a b : List ℕ) → 91 ∷ a ≡ 91 ∷ b → a ≡ b
rest_same a b h = cc

-- bytes after `[`, as the two parts
pub parts_of : (x : Bracket) (bytes rest : List ℕ) → 91 ∷ bytes ≡ bracket_text x ++ rest
    → bytes ≡ front_text (front_part x) ++ (end_text (end_part x) ++ rest)
parts_of x bytes rest h = rest_same _ _ (h ∙ parts_spelled x rest)

pub same_bracket : (x y : Bracket) (a b : List ℕ) → IsBracket x → IsBracket y → bracket_text x ++ a ≡ bracket_text y
    ++ b → (x ≡ y) × (a ≡ b)
same_bracket x y a b ix iy h =
    let e = rest_same _ _ (sym (parts_spelled x a) ∙ h ∙ parts_spelled y b) in
    let p = same_front (front_part x) (front_part y) (end_text (end_part x) ++ a) (end_text (end_part y) ++ b)
    (is_front x ix) (is_front y iy) (end_then (end_part x) a (is_end x ix)) (end_then (end_part y) b (is_end y iy))
    e in
    let q = same_end (end_part x) (end_part y) a b (is_end x ix) (is_end y iy) p.1 in
    let M : FrontText → EndText → Bracket = λ f g. record {
      isotope = f.isotope;
      symbol = f.symbol;
      chiral = f.chiral;
      hydrogens = g.hydrogens;
      charge = g.charge;
      class = g.class;
    } in
    (ap (λ f. M f (end_part x)) p.0 ∙ ap (λ g. M (front_part y) g) q.0, q.1)

-- what the two are read as
pub same_front_value : (i j n m : ℕ) (k l : Bool) → i ≡ j → n ≡ m → k ≡ l
    → (let x : Front = record { isotope = i; number = n; lower = k } in x) ≡ record {
      isotope = j;
      number = m;
      lower =
          l;
    }
same_front_value i j n m k l a b d = cc

pub same_value : (h g : Option ℕ) (x y : ℤ) → h ≡ g → x ≡ y → (let z : End = record { hydrogens = h; charge = x } in z)
    ≡ record { hydrogens = g; charge = y }
same_value h g x y a b = cc
