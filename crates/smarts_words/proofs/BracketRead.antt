-- Brackets that are read.
use Rattle.std.proofs.Common.{◌≡◌, ℕ, List, [], ◌∷◌, ◌++◌, Option, None, Some, ◌⊎◌, inl, inr, refl, sym, ◌∙◌, ap, subst, arith, append_assoc}
use Rattle.std.proofs.lemmas.List.{append-nil}
use Rattle.line_walk.specs.Follow.{Reads, Anything}
use Rattle.smiles_words.specs.Atom.{class_text, IsClass, Lower, lower_b, lower_c, lower_n, lower_o, lower_p, lower_s, lower_se, lower_as, lower_bytes}
use Rattle.smarts_words.specs.declared.word.Letter.TheVariants as letters
use Rattle.smarts_words.specs.Prims.{NoDigit, StandsAlone, Signs, signs_text, AreSigns, sign_of, Prim, counted, charge, mass, prim_text, IsPrim, FollowsPrim, word_of, part_of}
use Rattle.smarts_words.specs.Expression.{Joining, beside, Operand, Expression}
use Rattle.smarts_words.specs.Expression as expression
use Rattle.smarts_words.specs.Bracket.{AtomValue, expression_text, IsExpression, Hydro, charge_text, IsCharge, hydro_text, IsHydro, Inside, hydro, low, inside_text, inside_value, Bracket, end_text, bracket_text, IsInside, IsBracket}
use Rattle.smarts_words.specs.State.{EndsInside}
use Rattle.smarts_words.specs.Follow.{BeginsEnd, IsInsideRead}
use Rattle.smarts_words.proofs.Signs.{sign_is}
use Rattle.smarts_words.proofs.Shapes.{symbol_second}
use Rattle.smarts_words.proofs.Hydrogens.{begins_end, end_then, end_no_sign, signs_end, signs_first, hydro_then}
use Rattle.smarts_words.proofs.Numbers.{same_digits}
use Rattle.smarts_words.proofs.Pairs.{same_charge}
use Rattle.chem_core.specs.Organic.{Organic, boron, carbon, nitrogen, oxygen, phosphorus, sulfur, fluorine, chlorine, bromine, iodine, symbol_bytes}
use Rattle.smarts_words.proofs.InsideRead.{inside_apart}
use Rattle.smarts_words.proofs.Expressions.{same_expression}
use Rattle.smarts_words.proofs.Once.{one_prim}
use Rattle.smarts_words.proofs.Whole.{expression_moved}

tails : (a b : ℕ) (r s : List ℕ) → a ∷ r ≡ b ∷ s → r ≡ s
tails a b r s e = cc

-- a hydrogen atom as an expression
count_h : Operand Prim
count_h = record { bangs = 0; prim = counted letters.TotalH [] }

charge_more : Option Signs → List (Joining × Operand Prim)
charge_more None = []
charge_more (Some s) = (beside, record { bangs = 0; prim = charge s }) ∷ []

as_expression : List ℕ → Option Signs → Expression Prim
as_expression [] x = record { first = count_h; more = charge_more x }
as_expression (d ∷ ds) x = record {
  first = record { bangs = 0; prim = mass (d ∷ ds) };
  more = (beside, count_h)
      ∷ charge_more x;
}

abbrev more_of : List (Joining × Operand Prim) → List ℕ
more_of xs = expression.more_text prim_text IsPrim FollowsPrim word_of part_of xs

charge_is : (x : Option Signs) → more_of (charge_more x) ≡ charge_text x
unfolding charge_more
charge_is None = refl
charge_is (Some s) = append-nil (signs_text s)

text_is : (ds : List ℕ) (x : Option Signs) → expression_text (as_expression ds x)
    ≡ hydro_text (record { mass = ds; charge = x })
unfolding as_expression count_h
text_is [] x = ap (λ v. 72 ∷ v) (charge_is x)
text_is (d ∷ ds) x = ap (λ v. (d ∷ ds) ++ 72 ∷ v) (charge_is x)

sign_alone : (b : ℕ) (r : List ℕ) → (b ≡ 43) ⊎ (b ≡ 45) ⊎ (b ≡ 58) ⊎ (b ≡ 93) → StandsAlone 72 (b ∷ r) × NoDigit (b ∷ r)
sign_alone b r h = (
  λ symbol. let low = symbol_second 72 b symbol in grind arith,
  λ digit. let low = digit.0 in
      let high = digit.1 in grind arith,
)

end_alone : (rest : List ℕ) → BeginsEnd rest → StandsAlone 72 rest × NoDigit rest
end_alone [] h = absurd h
end_alone (b ∷ bs) (inl e) = sign_alone b bs (inr (inr (inl e)))
end_alone (b ∷ bs) (inr e) = sign_alone b bs (inr (inr (inr e)))

charge_alone : (x : Option Signs) (rest : List ℕ) → IsCharge x → BeginsEnd rest → StandsAlone 72 (charge_text x ++ rest)
    × NoDigit (charge_text x ++ rest)
charge_alone None rest is h = end_alone rest h
charge_alone (Some s) rest is h =
    let f = signs_first s is in
    let sign : (sign_of s ≡ 43) ⊎ (sign_of s ≡ 45) ⊎ (sign_of s ≡ 58) ⊎ (sign_of s ≡ 93) =
    elim (sign_is s) [ inl e ↦ inl e | inr e ↦ inr (inl e) ] in
    subst (λ (v : List ℕ). StandsAlone 72 (v ++ rest) × NoDigit (v ++ rest)) (sym f.1)
    (sign_alone (sign_of s) (f.0 ++ rest) sign)

charge_are : (x : Option Signs) (rest : List ℕ) → IsCharge x → BeginsEnd rest
    → expression.AreMore prim_text IsPrim FollowsPrim word_of part_of (charge_more x) rest
unfolding charge_more
charge_are None rest is h = tt
charge_are (Some s) rest is h = (is, signs_end s rest h, tt)

h_alone : (x : Option Signs) (rest : List ℕ) → IsCharge x → BeginsEnd rest
    → StandsAlone 72 (more_of (charge_more x) ++ rest) × NoDigit (more_of (charge_more x) ++ rest)
h_alone x rest is h = subst (λ (v : List ℕ). StandsAlone 72 (v ++ rest) × NoDigit (v ++ rest)) (sym (charge_is x))
    (charge_alone x rest is h)

h_after : (r : List ℕ) → NoDigit (72 ∷ r)
h_after r d = let high = d.1 in omega arith

hydro_is : (ds : List ℕ) (x : Option Signs) (rest : List ℕ) → IsHydro (record { mass = ds; charge = x })
    → BeginsEnd rest → IsExpression (as_expression ds x) rest
unfolding as_expression count_h
hydro_is [] x rest is h = ((omega arith, tt), h_alone x rest is.2 h, charge_are x rest is.2 h)
hydro_is (d ∷ ds) x rest is h = (
  (omega arith, is.0, is.1),
  h_after (more_of (charge_more x) ++ rest),
  ((omega arith, tt), h_alone x rest is.2 h, charge_are x rest is.2 h),
)

ends_inside : (k : Option (List ℕ)) (rest : List ℕ) → EndsInside (end_text k ++ rest)
ends_inside None rest = inl refl
ends_inside (Some ds) rest = inr refl

any_rest : (e : Expression Prim) (k : Option (List ℕ)) (r s : List ℕ) → IsExpression e (end_text k ++ r)
    → IsExpression e (end_text k ++ s)
any_rest e k r s h = subst (λ (v : List ℕ). IsExpression e v) (sym (end_then k s))
    (expression_moved e (class_text k) r s (subst (λ (v : List ℕ). IsExpression e v) (end_then k r) h))

in_bracket : (e : Expression Prim) (k : Option (List ℕ)) (s : List ℕ) → IsExpression e (end_text k)
    → IsExpression e (end_text k ++ s)
in_bracket e k s h = any_rest e k [] s (subst (λ (v : List ℕ). IsExpression e v) (sym (append-nil (end_text k))) h)

to_bracket : (e : Expression Prim) (k : Option (List ℕ)) (r : List ℕ) → IsExpression e (end_text k ++ r)
    → IsExpression e (end_text k)
to_bracket e k r h = subst (λ (v : List ℕ). IsExpression e v) (append-nil (end_text k)) (any_rest e k r [] h)

-- no hydrogen atom is spelled as another expression
hydro_or_low : (h : Hydro) (k j : Option (List ℕ)) (r s : List ℕ) (e : Expression Prim) → IsHydro h
    → IsInside (low e) (end_text j) → hydro_text h ++ (end_text k ++ r) ≡ expression_text e ++ (end_text j ++ s) → ⊥
hydro_or_low h k j r s e is inside spelled =
    let d = as_expression h.mass h.charge in
    let same = same_expression prim_text IsPrim FollowsPrim word_of part_of EndsInside inside_apart one_prim d e
    (end_text k ++ r) (end_text j ++ s) (hydro_is h.mass h.charge (end_text k ++ r) is (begins_end k r))
    (in_bracket e j s inside.0)
    (ends_inside k r) (ends_inside j s) (ap (λ v. v ++ (end_text k ++ r)) (text_is h.mass h.charge) ∙ spelled) in
    inside.1 h is (sym (text_is h.mass h.charge) ∙ ap (λ v. expression_text v) same.0)

pub bracket_then : (x : Inside) (k : Option (List ℕ)) (rest : List ℕ) → bracket_text (record { inside = x; class = k })
    ++ rest ≡ 91 ∷ (inside_text x ++ (end_text k ++ rest))
bracket_then x k rest = ap (λ (v : List ℕ). 91 ∷ v) (append_assoc (inside_text x) (end_text k) rest)

-- what a bracket is read as
abbrev pub BracketAt : List ℕ → Option (AtomValue × List ℕ) → Type 0
BracketAt bytes result = Reads bracket_text IsBracket (λ b. inside_value b.inside) Anything (91 ∷ bytes) result

pub hydro_taken : (bytes rest : List ℕ) (value : AtomValue) (h : Hydro) (k : Option (List ℕ)) → IsHydro h → IsClass k
    → bytes ≡ hydro_text h ++ (end_text k ++ rest) → value ≡ inside_value (hydro h)
    → ((g : Hydro) (j : Option (List ℕ)) (s : List ℕ) → IsHydro g → IsClass j → bytes ≡ hydro_text g
    ++ (end_text j ++ s) → rest ≡ s) → BracketAt bytes (Some (value, rest))
hydro_taken bytes rest value h k is class spelled same only = record {
  found = (
    record { inside = hydro h; class = k },
    (is, class),
    ap (λ (v : List ℕ). 91 ∷ v) spelled
        ∙ sym (bracket_then (hydro h) k rest),
    same,
  );
  only = λ b s ib _ e. by b.inside b.class s ib.0 ib.1 (tails 91 91 bytes _ (e ∙ bracket_then b.inside b.class s));
}
  where
    by : (x : Inside) (j : Option (List ℕ)) (s : List ℕ) → IsInside x (end_text j) → IsClass j → bytes ≡ inside_text x
        ++ (end_text j ++ s) → rest ≡ s
    by (hydro g) j s ix ij e = only g j s ix ij e
    by (low e) j s ix ij h' = absurd (hydro_or_low h k j rest s e is ix (sym spelled ∙ h'))

pub low_taken : (bytes after rest : List ℕ) (value : AtomValue) (k : Option (List ℕ)) → IsInsideRead bytes value after
    → IsClass k → after ≡ end_text k ++ rest
    → ((g : Hydro) (j : Option (List ℕ)) (s : List ℕ) → IsHydro g → IsClass j → bytes ≡ hydro_text g
    ++ (end_text j ++ s) → ⊥)
    → ((e : Expression Prim) (s : List ℕ) → IsExpression e s → EndsInside s → bytes ≡ expression_text e ++ s
    → after ≡ s)
    → ((j : Option (List ℕ)) (s : List ℕ) → IsClass j → after ≡ end_text j ++ s → rest ≡ s)
    → BracketAt bytes (Some (value, rest))
low_taken bytes after rest value k read class ends none only last =
    let e = read.0 in
    let spelled : bytes ≡ expression_text e ++ (end_text k ++ rest) = read.2 ∙ ap (λ v. expression_text e ++ v) ends in
    record {
      found = (
        record { inside = low e; class = k },
        (
          (
            to_bracket e k rest (subst (λ (v : List ℕ). IsExpression e v) ends read.1),
            λ h is same.
                none h k rest is class (spelled ∙ ap (λ v. v ++ (end_text k ++ rest)) (sym same)),
          ),
          class,
        ),
        ap (λ (v : List ℕ). 91 ∷ v) spelled ∙ sym (bracket_then (low e) k rest),
        read.3,
      );
      only = λ b s ib _ h. by b.inside b.class s ib.0 ib.1 (tails 91 91 bytes _ (h ∙ bracket_then b.inside b.class s));
    }
  where
    by : (x : Inside) (j : Option (List ℕ)) (s : List ℕ) → IsInside x (end_text j) → IsClass j → bytes ≡ inside_text x
        ++ (end_text j ++ s) → rest ≡ s
    by (hydro g) j s ix ij h = absurd (none g j s ix ij h)
    by (low d) j s ix ij h = last j s ij (only d (end_text j ++ s) (in_bracket d j s ix.0) (ends_inside j s) h)

pub bracket_refused : (bytes : List ℕ) → ((g : Hydro) (j : Option (List ℕ)) (s : List ℕ) → IsHydro g → IsClass j
    → bytes ≡ hydro_text g ++ (end_text j ++ s) → ⊥)
    → ((e : Expression Prim) (j : Option (List ℕ)) (s : List ℕ) → IsExpression e (end_text j ++ s)
    → EndsInside (end_text j ++ s) → IsClass j → bytes ≡ expression_text e ++ (end_text j ++ s) → ⊥)
    → BracketAt bytes None
bracket_refused bytes none never = record {
  found = tt;
  only = λ b s ib _ e. by b.inside b.class s ib.0 ib.1 (tails 91 91 bytes _ (e ∙ bracket_then b.inside b.class s));
}
  where
    by : (x : Inside) (j : Option (List ℕ)) (s : List ℕ) → IsInside x (end_text j) → IsClass j → bytes ≡ inside_text x
        ++ (end_text j ++ s) → ⊥
    by (hydro g) j s ix ij h = none g j s ix ij h
    by (low d) j s ix ij h = never d j s (in_bracket d j s ix.0) (ends_inside j s) ij h

heads : (a b : ℕ) (r s : List ℕ) → a ∷ r ≡ b ∷ s → a ≡ b
heads a b r s e = cc

pub organic_first : (x : Organic) (r rest : List ℕ) → 91 ∷ r ≡ symbol_bytes x ++ rest → ⊥
organic_first boron r rest e = absurd (let k = heads 91 66 r _ e in omega arith)
organic_first carbon r rest e = absurd (let k = heads 91 67 r _ e in omega arith)
organic_first nitrogen r rest e = absurd (let k = heads 91 78 r _ e in omega arith)
organic_first oxygen r rest e = absurd (let k = heads 91 79 r _ e in omega arith)
organic_first phosphorus r rest e = absurd (let k = heads 91 80 r _ e in omega arith)
organic_first sulfur r rest e = absurd (let k = heads 91 83 r _ e in omega arith)
organic_first fluorine r rest e = absurd (let k = heads 91 70 r _ e in omega arith)
organic_first chlorine r rest e = absurd (let k = heads 91 67 r _ e in omega arith)
organic_first bromine r rest e = absurd (let k = heads 91 66 r _ e in omega arith)
organic_first iodine r rest e = absurd (let k = heads 91 73 r _ e in omega arith)

pub lower_first : (x : Lower) (r rest : List ℕ) → 91 ∷ r ≡ lower_bytes x ++ rest → ⊥
lower_first lower_b r rest e = absurd (let k = heads 91 98 r _ e in omega arith)
lower_first lower_c r rest e = absurd (let k = heads 91 99 r _ e in omega arith)
lower_first lower_n r rest e = absurd (let k = heads 91 110 r _ e in omega arith)
lower_first lower_o r rest e = absurd (let k = heads 91 111 r _ e in omega arith)
lower_first lower_p r rest e = absurd (let k = heads 91 112 r _ e in omega arith)
lower_first lower_s r rest e = absurd (let k = heads 91 115 r _ e in omega arith)
lower_first lower_se r rest e = absurd (let k = heads 91 115 r _ e in omega arith)
lower_first lower_as r rest e = absurd (let k = heads 91 97 r _ e in omega arith)

-- the end of a bracket
class_no_digit : (r : List ℕ) → NoDigit (93 ∷ r)
class_no_digit r d = let high = d.1 in omega arith

same_end : (k j : Option (List ℕ)) (r s : List ℕ) → IsClass k → IsClass j → end_text k ++ r ≡ end_text j ++ s → k ≡ j
same_end None None r s ik ij e = refl
same_end None (Some es) r s ik ij e = absurd (let k = heads 93 58 _ _ e in omega arith)
same_end (Some ds) None r s ik ij e = absurd (let k = heads 58 93 _ _ e in omega arith)
same_end (Some ds) (Some es) r s ik ij e =
    ap (λ v. Some v) (same_digits ds es (93 ∷ r) (93 ∷ s) ik.1 ij.1 (class_no_digit r) (class_no_digit s)
    (sym (append_assoc ds (93 ∷ []) r) ∙ tails 58 58 _ _ e ∙ append_assoc es (93 ∷ []) s)).0

charge_no_end : (x : Signs) (r s : List ℕ) → AreSigns x → BeginsEnd r → r ≡ signs_text x ++ s → ⊥
charge_no_end x r s is h e = let f = signs_first x is in end_no_sign x r (f.0 ++ s) h (e ∙ ap (λ v. v ++ s) f.1)

same_charges : (x y : Option Signs) (k j : Option (List ℕ)) (r s : List ℕ) → IsCharge x → IsCharge y
    → charge_text x ++ (end_text k ++ r) ≡ charge_text y ++ (end_text j ++ s) → x ≡ y
same_charges None None k j r s ix iy e = refl
same_charges None (Some y) k j r s ix iy e =
    absurd (charge_no_end y (end_text k ++ r) (end_text j ++ s) iy (begins_end k r) e)
same_charges (Some x) None k j r s ix iy e =
    absurd (charge_no_end x (end_text j ++ s) (end_text k ++ r) ix (begins_end j s) (sym e))
same_charges (Some x) (Some y) k j r s ix iy e =
    ap (λ v. Some v) (same_charge x y (end_text k ++ r) (end_text j ++ s) ix iy
    (signs_end x (end_text k ++ r) (begins_end k r)) (signs_end y (end_text j ++ s) (begins_end j s)) e)

append_left : (xs r s : List ℕ) → xs ++ r ≡ xs ++ s → r ≡ s
append_left [] r s e = e
append_left (x ∷ xs) r s e = append_left xs r s (tails x x (xs ++ r) (xs ++ s) e)

hydro_by : (a b : List ℕ) (x y : Option Signs) → a ≡ b → x ≡ y → (let h : Hydro = record { mass = a; charge = x } in h)
    ≡ record { mass = b; charge = y }
hydro_by a b x y p q = cc

same_hydro : (h g : Hydro) (k j : Option (List ℕ)) (r s : List ℕ) → IsHydro h → IsHydro g
    → hydro_text h ++ (end_text k ++ r) ≡ hydro_text g ++ (end_text j ++ s) → (h ≡ g)
    × (end_text k ++ r ≡ end_text j ++ s)
same_hydro h g k j r s ih ig e =
    let spelled = sym (hydro_then h (end_text k ++ r)) ∙ e ∙ hydro_then g (end_text j ++ s) in
    let d = same_digits h.mass g.mass (72 ∷ (charge_text h.charge ++ (end_text k ++ r)))
    (72 ∷ (charge_text g.charge ++ (end_text j ++ s))) ih.1 ig.1
    (h_after (charge_text h.charge ++ (end_text k ++ r))) (h_after (charge_text g.charge ++ (end_text j ++ s)))
    spelled in
    let after = tails 72 72 (charge_text h.charge ++ (end_text k ++ r)) (charge_text g.charge ++ (end_text j ++ s))
    d.1 in
    let c = same_charges h.charge g.charge k j r s ih.2 ig.2 after in (
      hydro_by h.mass g.mass h.charge g.charge d.0 c,
      append_left (charge_text g.charge) (end_text k ++ r) (end_text j
          ++ s) (sym (ap (λ v. charge_text v ++ (end_text k ++ r)) c) ∙ after),
    )

same_inside : (x y : Inside) (k j : Option (List ℕ)) (r s : List ℕ) → IsInside x (end_text k) → IsInside y (end_text j)
    → inside_text x ++ (end_text k ++ r) ≡ inside_text y ++ (end_text j ++ s) → (x ≡ y)
    × (end_text k ++ r ≡ end_text j ++ s)
same_inside (hydro h) (hydro g) k j r s ix iy e = let p = same_hydro h g k j r s ix iy e in (ap (λ v. hydro v) p.0, p.1)
same_inside (hydro h) (low d) k j r s ix iy e = absurd (hydro_or_low h k j r s d ix iy e)
same_inside (low d) (hydro h) k j r s ix iy e = absurd (hydro_or_low h j k s r d iy ix (sym e))
same_inside (low c) (low d) k j r s ix iy e =
    let p = same_expression prim_text IsPrim FollowsPrim word_of part_of EndsInside inside_apart one_prim c d
    (end_text k ++ r) (end_text j ++ s) (in_bracket c k r ix.0) (in_bracket d j s iy.0) (ends_inside k r)
    (ends_inside j s) e in
    (ap (λ v. low v) p.0, p.1)

bracket_by : (x y : Inside) (k j : Option (List ℕ)) → x ≡ y → k ≡ j
    → (let b : Bracket = record { inside = x; class = k } in b) ≡ record { inside = y; class = j }
bracket_by x y k j p q = cc

pub one_bracket : (a b : Bracket) (r s : List ℕ) → IsBracket a → IsBracket b → bracket_text a ++ r ≡ bracket_text b ++ s
    → a ≡ b
one_bracket a b r s ia ib e =
    let spelled = tails 91 91 _ _ (sym (bracket_then a.inside a.class r) ∙ e ∙ bracket_then b.inside b.class s) in
    let p = same_inside a.inside b.inside a.class b.class r s ia.0 ib.0 spelled in
    bracket_by a.inside b.inside a.class b.class p.0 (same_end a.class b.class r s ia.1 ib.1 p.1)
