-- What is kept of an atom, read from the list of all.
use Rattle.std.proofs.Common.{ℕ, ◌+◌, ◌++◌, ◌<◌, ◌≡◌, List, [], ◌∷◌, length, map, take, get_or, slice_index, sym, ap, subst, ◌∙◌, arith}
use Rattle.std.proofs.lemmas.List.{get_or-map, length-map, map-append, take_more}
use Rattle.chem_core.specs.declared.mol.AtomFacts.{AtomFacts}

-- what holds of each atom and the number kept of it
pub kept-at : (part : AtomFacts → ℕ) (P : ℕ → ℕ → Type 0) (facts : List AtomFacts) (n : ℕ)
    → length (map part facts) ≡ n → ((a : ℕ) → a < n → P a (slice_index (map part facts) a)) → (a : ℕ)
    (fact : AtomFacts) → a < n → fact ≡ get_or facts a fact → P a (part fact)
kept-at part P facts n count each a fact within is =
    let there : a < length facts = omega (arith, within, count, length-map facts part) in
    let read : slice_index (map part facts) a ≡ part fact = get_or-map part facts a fact 0 there ∙ ap part (sym is) in
    subst (P a) read (each a within)

-- one atom more, with the number kept of it
pub kept-more : (part : AtomFacts → ℕ) (facts facts' : List AtomFacts) (fact : AtomFacts) (numbers : List ℕ) (i : ℕ)
    → map part facts ≡ take i numbers → facts' ≡ facts ++ fact ∷ [] → i < length numbers
    → part fact ≡ slice_index numbers i → map part facts' ≡ take (i + 1) numbers
kept-more part facts facts' fact numbers i before more within is =
    ap (map part) more ∙ map-append part facts (fact ∷ []) ∙ ap (λ xs. xs ++ part fact ∷ []) before
    ∙ ap (λ k. take i numbers ++ k ∷ []) is ∙ sym (take_more numbers i 0 within)
