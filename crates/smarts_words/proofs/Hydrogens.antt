-- Ends of brackets, and hydrogen atoms.
use Rattle.std.proofs.Common.{◌≡◌, ◌≢◌, ℕ, zero, suc, ◌≤◌, List, [], ◌∷◌, ◌++◌, length, map, false, ℤ, Option, None, Some, inl, inr, refl, sym, ◌∙◌, ap, arith, append_assoc}
use Rattle.std.proofs.lemmas.List.{append-nil, map-append}
use Rattle.std.specs.List.{AllByRecursion}
use Rattle.std.specs.Option.{option_map, option_to_list}
use Rattle.smarts_words.specs.declared.word.Step.{Step}
use Rattle.smarts_words.specs.declared.word.Step.TheVariants as steps
use Rattle.smarts_words.specs.declared.word.AtomWord.{AtomWord}
use Rattle.smarts_words.specs.declared.word.AtomWord.TheVariants as words
use Rattle.smarts_words.specs.Expression.{joined}
use Rattle.smarts_words.specs.State.{one_operand, lows_ended}
use Rattle.line_walk.specs.Follow.{Reads}
use Rattle.smiles_words.specs.Atom.{IsDigit, class_text, IsClass}
use Rattle.smarts_words.specs.Prims.{NoDigit, Signs, run, amount, signs_text, AreSigns, FollowsSigns, sign_of, charge_of, number_of}
use Rattle.smarts_words.specs.Bracket.{charge_text, IsCharge, charge_value, Hydro, hydro_text, IsHydro, end_text, mass_words, charge_words, hydro_words}
use Rattle.smarts_words.specs.Follow.{Takes, BeginsEnd, IsHydroRead}
use Rattle.smarts_words.proofs.Signs.{sign_is}

tails : (a b : ℕ) (r s : List ℕ) → a ∷ r ≡ b ∷ s → r ≡ s
tails a b r s e = cc

heads : (a b : ℕ) (r s : List ℕ) → a ∷ r ≡ b ∷ s → a ≡ b
heads a b r s e = cc

pub end_then : (k : Option (List ℕ)) (rest : List ℕ) → end_text k ++ rest ≡ class_text k ++ 93 ∷ rest
end_then k rest = append_assoc (class_text k) (93 ∷ []) rest

pub begins_end : (k : Option (List ℕ)) (rest : List ℕ) → BeginsEnd (end_text k ++ rest)
begins_end None rest = inr refl
begins_end (Some ds) rest = inl refl

pub class_none : (k : Option (List ℕ)) (bytes rest : List ℕ) → bytes ≡ class_text k ++ 93 ∷ rest
    → ((r : List ℕ) → bytes ≢ 58 ∷ r) → bytes ≡ 93 ∷ rest
class_none None bytes rest h other = h
class_none (Some ds) bytes rest h other = absurd (other (ds ++ 93 ∷ rest) h)

pub end_no_digit : (rest : List ℕ) → BeginsEnd rest → NoDigit rest
end_no_digit [] h = absurd h
end_no_digit (b ∷ bs) (inl e) = λ d. let high = d.1 in omega arith
end_no_digit (b ∷ bs) (inr e) = λ d. let high = d.1 in omega arith

sign_not_end : (s : Signs) (b : ℕ) (bs more : List ℕ) → BeginsEnd (b ∷ bs) → b ∷ bs ≢ sign_of s ∷ more
sign_not_end s b bs more h e = let k = heads b (sign_of s) bs more e in
    elim h [
      | inl x ↦ elim (sign_is s) [ inl y ↦ omega arith | inr y ↦ omega arith ]
      | inr x ↦
          elim (sign_is s) [ inl y ↦ omega arith | inr y ↦ omega arith ]
    ]

pub end_no_sign : (s : Signs) (rest more : List ℕ) → BeginsEnd rest → rest ≢ sign_of s ∷ more
end_no_sign s [] more h = absurd h
end_no_sign s (b ∷ bs) more h = sign_not_end s b bs more h

pub signs_end : (s : Signs) (rest : List ℕ) → BeginsEnd rest → FollowsSigns s rest
signs_end (run sign n) rest h = (λ more. end_no_sign (run sign n) rest more h, end_no_digit rest h)
signs_end (amount sign ds) rest h = end_no_digit rest h

pub signs_first : (s : Signs) → AreSigns s → (more : List ℕ) × (signs_text s ≡ sign_of s ∷ more)
signs_first (run sign zero) is = absurd (let l = is.0 in omega arith)
signs_first (run sign (suc n)) is = (_, refl)
signs_first (amount sign ds) is = (ds, refl)

-- a charge that is read
pub charge_some : (bytes rest : List ℕ) (n : ℤ) → Takes signs_text AreSigns FollowsSigns charge_of bytes
    (Some (n, rest)) → Reads charge_text IsCharge charge_value BeginsEnd bytes (Some (Some n, rest))
charge_some bytes rest n at =
    let f = at.found in
    record { found = (Some f.0, f.1, f.2, ap (λ v. Some v) f.4); only = λ x r is may h. by x r is may h }
  where
    by : (x : Option Signs) (r : List ℕ) → IsCharge x → BeginsEnd r → bytes ≡ charge_text x ++ r → rest ≡ r
    by None r is may h =
        let f = at.found in
        let g = signs_first f.0 f.1 in
        absurd (end_no_sign f.0 r (g.0 ++ rest) may (sym h ∙ f.2 ∙ ap (λ v. v ++ rest) g.1))
    by (Some s) r is may h = at.only s r is (signs_end s r may) h

pub charge_none : (bytes : List ℕ) → Takes signs_text AreSigns FollowsSigns charge_of bytes None
    → Reads charge_text IsCharge charge_value BeginsEnd bytes (Some (None, bytes))
charge_none bytes at = record { found = (None, tt, refl, refl); only = λ x r is may h. by x r is may h }
  where
    by : (x : Option Signs) (r : List ℕ) → IsCharge x → BeginsEnd r → bytes ≡ charge_text x ++ r → bytes ≡ r
    by None r is may h = h
    by (Some s) r is may h = absurd (at.only s r is (signs_end s r may) h)

pub hydro_then : (h : Hydro) (more : List ℕ) → hydro_text h ++ more ≡ h.mass ++ 72 ∷ (charge_text h.charge ++ more)
hydro_then h more = append_assoc h.mass (72 ∷ charge_text h.charge) more

pub h_no_digit : (more : List ℕ) → NoDigit (72 ∷ more)
h_no_digit more d = let high = d.1 in omega arith

-- what the readers of the parts of a hydrogen atom found
pub record HydroParts (bytes one two left : List ℕ) (mass : Option ℕ) (charge : Option ℤ) : Type 0 where
  pub number : Takes (λ (digits : List ℕ). digits) (λ digits. (length digits ≤ 3) × AllByRecursion IsDigit digits)
      (λ digits rest. NoDigit rest) number_of bytes (Some (mass, 72 ∷ one))
  pub sign : Reads charge_text IsCharge charge_value BeginsEnd one (Some (charge, two))

pub parts_only : (bytes one two : List ℕ) (mass : Option ℕ) (charge : Option ℤ)
    → HydroParts bytes one two two mass charge → (h : Hydro) (k : Option (List ℕ)) (rest : List ℕ) → IsHydro h
    → bytes ≡ hydro_text h ++ (end_text k ++ rest) → two ≡ end_text k ++ rest
parts_only bytes one two mass charge p h k rest is e =
    let first = p.number.only h.mass (72 ∷ (charge_text h.charge ++ (end_text k ++ rest))) (is.0, is.1)
    (h_no_digit (charge_text h.charge ++ (end_text k ++ rest))) (e ∙ hydro_then h (end_text k ++ rest)) in
    p.sign.only h.charge (end_text k ++ rest) is.2 (begins_end k rest) (tails 72 72 one _ first)

pub parts_found : (bytes one two left : List ℕ) (mass : Option ℕ) (charge : Option ℤ)
    → HydroParts bytes one two two mass charge → (k : Option (List ℕ)) → IsClass k → two ≡ end_text k ++ left
    → (h : Hydro) × (j : Option (List ℕ)) × IsHydro h × IsClass j × (bytes ≡ hydro_text h ++ (end_text j ++ left))
    × IsHydroRead h mass charge
parts_found bytes one two left mass charge p k is e =
    let n = p.number.found in
    let s = p.sign.found in
    let h : Hydro = record { mass = n.0; charge = s.0 } in (
      h,
      k,
      (n.1.0, n.1.1, s.1),
      is,
      n.2 ∙ ap (λ v. n.0 ++ 72 ∷ v) (s.2 ∙ ap (λ v. charge_text s.0 ++ v) e) ∙ sym (hydro_then h (end_text k ++ left)),
      record { mass_is = n.4; charge_is = s.3 },
    )

mass_is : (ds : List ℕ) → option_to_list (option_map (λ n. words.Mass n) (number_of ds)) ≡ mass_words ds
mass_is [] = refl
mass_is (d ∷ ds) = refl

charge_is : (x : Option Signs) → option_to_list (option_map (λ n. words.Charge n) (charge_value x)) ≡ charge_words x
charge_is None = refl
charge_is (Some s) = refl

-- the steps of a hydrogen atom
pub hydro_steps : (h : Hydro) (mass : Option ℕ) (charge : Option ℤ) → IsHydroRead h mass charge
    → joined steps.And (lows_ended [] []
    (((steps.Prim (words.Symbol 1 false) ∷ [])
    ∷ map (λ w. one_operand 0 w) (option_to_list (option_map (λ n. words.Mass n) mass))) ++ map (λ w.
    one_operand 0 w) (option_to_list (option_map (λ n. words.Charge n) charge))))
    ≡ joined steps.And (map (λ w. steps.Prim w ∷ []) (hydro_words h))
hydro_steps h mass charge r =
    let f : List AtomWord → List (List (Step AtomWord)) = λ ws. map (λ w. steps.Prim w ∷ []) ws in
    let m : option_to_list (option_map (λ n. words.Mass n) mass) ≡ mass_words h.mass =
    ap (λ v. option_to_list (option_map (λ n. words.Mass n) v)) r.mass_is ∙ mass_is h.mass in
    let k : option_to_list (option_map (λ n. words.Charge n) charge) ≡ charge_words h.charge =
    ap (λ v. option_to_list (option_map (λ n. words.Charge n) v)) r.charge_is ∙ charge_is h.charge in
    let whole : List (List (Step AtomWord)) = (steps.Prim (words.Symbol 1 false) ∷ [])
    ∷ (f (option_to_list (option_map (λ n. words.Mass n) mass))
    ++ f (option_to_list (option_map (λ n. words.Charge n) charge))) in
    append-nil (joined steps.Or (joined steps.And whole ∷ [])) ∙ append-nil (joined steps.And whole)
    ∙ ap (λ v. joined steps.And ((steps.Prim (words.Symbol 1 false) ∷ [])
    ∷ (f v ++ f (option_to_list (option_map (λ n. words.Charge n) charge))))) m
    ∙ ap (λ v. joined steps.And ((steps.Prim (words.Symbol 1 false) ∷ []) ∷ (f (mass_words h.mass) ++ f v))) k
    ∙ ap (λ v. joined steps.And ((steps.Prim (words.Symbol 1 false) ∷ []) ∷ v))
    (sym (map-append {A = AtomWord} {B = List (Step AtomWord)} (λ w. steps.Prim w ∷ []) (mass_words h.mass)
    (charge_words h.charge)))
