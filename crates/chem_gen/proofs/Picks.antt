-- Texts that are written piece by piece.
use Rattle.std.proofs.Common.{ℕ, zero, suc, ◌+◌, ◌%◌, ◌<◌, ◌≡◌, List, [], ◌∷◌, ◌++◌, length, get_or, drop, refl, sym, ap, ◌∙◌, arith}
use Rattle.std.specs.Prelude.{codes, decimal}
use Rattle.std.specs.List.{flat_map}
use Rattle.std.proofs.lemmas.List.{append_assoc, append-nil}
use Rattle.chem_gen.specs.Script.{next, fragments, patterns, picked, structure_text, after_structure, registrations}
use Rattle.chem_gen.specs.Summary.{outcome, outcomes}

pub picked_more : (n x : ℕ) (out : List ℕ) → (out ++ get_or fragments (next x % 8) []) ++ picked n (next x) ≡ out
    ++ picked (suc n) x
unfolding picked
picked_more n x out = append_assoc out (get_or fragments (next x % 8) []) (picked n (next x))

pub picked_none : (x : ℕ) (out : List ℕ) → out ++ picked zero x ≡ out
unfolding picked
picked_none x out = append-nil out

-- the line of a registration
abbrev pub registration : ℕ → ℕ → List ℕ
registration id x = codes "register " ++ decimal id ++ codes " " ++ structure_text x ++ 10 ∷ []

pub registrations_more : (n id x : ℕ) (out : List ℕ) → (out ++ registration id x)
    ++ registrations n (id + 1) (after_structure x) ≡ out ++ registrations (suc n) id x
unfolding registrations
registrations_more n id x out =
    append_assoc out (registration id x) (registrations n (id + 1) (after_structure x))
    ∙ ap (λ t. out ++ t) (append_assoc (codes "register " ++ decimal id ++ codes " " ++ structure_text x) (10 ∷ [])
    (registrations n (id + 1) (after_structure x)))

pub registrations_none : (id x : ℕ) (out : List ℕ) → out ++ registrations zero id x ≡ out
unfolding registrations
registrations_none id x out = append-nil out

drop_next : (i : ℕ) (xs : List (List ℕ)) → i < length xs → drop i xs ≡ get_or xs i [] ∷ drop (i + 1) xs
drop_next i [] h = absurd (omega arith)
drop_next zero (x ∷ xs) h = refl
drop_next (suc i) (x ∷ xs) h =
    let e : suc i + 1 ≡ suc (i + 1) = omega arith in
    rw e (drop_next i xs (omega arith))

abbrev pub searches_from : ℕ → List ℕ
searches_from place = flat_map (λ pattern. codes "search " ++ pattern ++ 10 ∷ []) (drop place patterns)

-- ---- outcomes

pub outcomes_more : (place : ℕ) (out pattern ending : List ℕ) (endings : List (List ℕ)) → place < 5
    → pattern ≡ get_or patterns place []
    → (out ++ (codes "search " ++ pattern ++ codes " " ++ outcome ending ++ 10 ∷ []))
    ++ outcomes (drop (place + 1) patterns) endings ≡ out ++ outcomes (drop place patterns) (ending ∷ endings)
unfolding outcomes
outcomes_more place out pattern ending endings h is =
    let front : List ℕ → List ℕ = λ pattern. codes "search " ++ pattern ++ codes " " ++ outcome ending in
    append_assoc out (front pattern ++ 10 ∷ []) (outcomes (drop (place + 1) patterns) endings)
    ∙ ap (λ t. out ++ t) (append_assoc (front pattern) (10 ∷ []) (outcomes (drop (place + 1) patterns) endings))
    ∙ ap (λ p. out ++ (front p ++ 10 ∷ outcomes (drop (place + 1) patterns) endings)) is
    ∙ sym (ap (λ ps. out ++ outcomes ps (ending ∷ endings)) (drop_next place patterns h))

outcomes-none : (ps : List (List ℕ)) → outcomes ps [] ≡ []
unfolding outcomes
outcomes-none [] = refl
outcomes-none (p ∷ ps) = refl

pub outcomes_end : (ps : List (List ℕ)) (out : List ℕ) → out ++ outcomes ps [] ≡ out
outcomes_end ps out = ap (λ t. out ++ t) (outcomes-none ps) ∙ append-nil out

pub outcomes_past : (es : List (List ℕ)) (out : List ℕ) → out ++ outcomes [] es ≡ out
unfolding outcomes
outcomes_past es out = append-nil out
