-- The least embedding that begins with some atoms: with all, and with one more.
use Rattle.std.proofs.Common.{◌≡◌, ℕ, ◌<◌, List, [], ◌∷◌, ◌++◌, length, take, slice_index, sym, ap, ◌∙◌, subst, append_assoc, arith, length-append, inl, inr}
use Rattle.std.proofs.lemmas.Bool.{cases_order}
use Rattle.std.proofs.Math.Seq.{get_or-append_seam}
use Rattle.std.proofs.lemmas.List.{append-nil, get_or-take}
use Rattle.chem_core.specs.Molecule.{Molecule}
use Rattle.smarts_parse.specs.Pattern.{GraphTerm}
use Rattle.smarts_parse.specs.Embedding.{IsEmbedding}
use Rattle.matcher.specs.Least.{Precedes}
use Rattle.matcher.specs.Partial.{CanComplete, IsLeastFrom, Parts}
use Rattle.matcher.proofs.Partials.{index_front}

-- no list precedes one that begins with all of it
pub least_whole : (parts : Parts) (g : GraphTerm) (m : Molecule) (front : List ℕ) → length front ≡ length g.atoms
    → IsEmbedding parts g m front → IsLeastFrom parts g m front front
least_whole parts g m front full h = record {
  embeds = h;
  begins = ([], sym (append-nil front));
  least = λ rest other before.
      let size : length (front ++ rest) ≡ length g.atoms = other.one_each in
      let same : slice_index (front ++ rest) before.0 ≡ slice_index front before.0 = index_front front rest before.0
      (omega (arith, before.1)) in
      omega (arith, before.3);
}

-- where the next atom is higher, the list does not precede
higher : (front r s : List ℕ) (a b : ℕ) → a < b → Precedes (front ++ b ∷ r) (front ++ a ∷ s) → ⊥
higher front r s a b lt before =
    let mine : slice_index (front ++ b ∷ r) (length front) ≡ b = get_or-append_seam front b r 0 in
    let its : slice_index (front ++ a ∷ s) (length front) ≡ a = get_or-append_seam front a s 0 in
    let k : ℕ = before.0 in
    let low : slice_index (front ++ b ∷ r) k < slice_index (front ++ a ∷ s) k = before.3 in
    elim (cases_order k (length front)) [
      | inl same ↦
          let e : slice_index (front ++ b ∷ r) k ≡ slice_index (front ++ b ∷ r) (length front) = ap
          (λ i. slice_index (front ++ b ∷ r) i) same in
          let f : slice_index (front ++ a ∷ s) k ≡ slice_index (front ++ a ∷ s) (length front) = ap
          (λ i. slice_index (front ++ a ∷ s) i) same in
          omega arith
      | inr apart ↦ elim apart [
        | inl below ↦
            let e = index_front front (b ∷ r) k below in
            let f = index_front front (a ∷ s) k below in
            omega arith
        | inr above ↦
            let e : slice_index (take k (front ++ b ∷ r)) (length front)
            ≡ b = get_or-take k (front ++ b ∷ r) (length front) 0 above ∙ mine in
            let f : slice_index (take k (front ++ a ∷ s)) (length front)
            ≡ a = get_or-take k (front ++ a ∷ s) (length front) 0 above ∙ its in
            let same : b ≡ a = sym e ∙ ap (λ xs. slice_index xs (length front)) before.2 ∙ f in
            omega arith
      ]
    ]

-- the least with the next atom is the least, where none has a lower one
pub least_more : (parts : Parts) (g : GraphTerm) (m : Molecule) (front : List ℕ) (a : ℕ) (whole : List ℕ)
    → length front < length g.atoms
    → ((b : ℕ) → b < a → CanComplete parts g m (front ++ b ∷ []) → ⊥) → IsLeastFrom parts g m (front ++ a ∷ []) whole
    → IsLeastFrom parts g m front whole
least_more parts g m front a whole short none h =
    let tail : List ℕ = h.begins.0 in
    let is : whole ≡ front ++ a ∷ tail = h.begins.1 ∙ append_assoc front (a ∷ []) tail in
    record {
      embeds = h.embeds;
      begins = (a ∷ tail, is);
      least = λ rest other before. not_before tail is rest other before;
    }
  where
    not_before : (tail : List ℕ) → whole ≡ front ++ a ∷ tail → (rest : List ℕ) → IsEmbedding parts g m (front ++ rest)
        → Precedes (front ++ rest) whole → ⊥
    not_before tail is [] other before = omega (arith, other.one_each, length-append front [])
    not_before tail is (b ∷ rest) other before = elim (cases_order b a) [
      | inl same ↦
          let along : front ++ b ∷ rest ≡ (front ++ a ∷ []) ++ rest = ap (λ x. front ++ x ∷ rest) same
          ∙ sym (append_assoc front (a ∷ []) rest) in
          h.least rest (subst (IsEmbedding parts g m) along other) (subst (λ xs. Precedes xs whole) along before)
      | inr apart ↦ elim apart [
        | inl lower ↦ none b lower (rest, subst (IsEmbedding parts g m) (sym (append_assoc front (b ∷ []) rest)) other)
        | inr above ↦ higher front rest tail a b above (subst (λ xs. Precedes (front ++ b ∷ rest) xs) is before)
      ]
    ]

-- the same, where the front is left as it was
pub found_next : (parts : Parts) (g : GraphTerm) (m : Molecule) (front same : List ℕ) (a : ℕ) (whole : List ℕ)
    → same ≡ front → length front < length g.atoms
    → ((b : ℕ) → b < a → CanComplete parts g m (front ++ b ∷ []) → ⊥) → IsLeastFrom parts g m (same ++ a ∷ []) whole
    → IsLeastFrom parts g m front whole
found_next parts g m front same a whole e short none h = least_more parts g m front a whole short none
    (subst (λ xs. IsLeastFrom parts g m (xs ++ a ∷ []) whole) e h)
