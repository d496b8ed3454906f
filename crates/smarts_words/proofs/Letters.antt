-- Symbols of one and of two letters.
use Rattle.std.proofs.Common.{◌≡◌, ◌≢◌, ℕ, zero, suc, ◌≤◌, [], ◌∷◌, length, get_or, slice_get, Some, refl, sym, ◌∙◌, ap, arith}
use Rattle.std.proofs.lemmas.Option.{slice_get-get_or}
use Rattle.chem_core.specs.Element.{symbols}
use Rattle.smiles_words.specs.Atom.{Lower, lower_b, lower_c, lower_n, lower_o, lower_p, lower_s, lower_se, lower_as, lower_bytes, IsOrganicLower}
use Rattle.smiles_words.proofs.Symbols.{same_element}
use Rattle.smarts_words.specs.Prims.{Prim, any, aromatic, aliphatic, element, lower, prim_text, IsPrim}
use Rattle.smarts_words.specs.Follow.{IsBare}

pub length-symbols : length symbols ≡ 104
unfolding symbols
length-symbols = refl

pub two_from : (n a b : ℕ) → slice_get symbols n ≡ Some (a ∷ b ∷ []) → 2 ≤ n
unfolding symbols
two_from zero a b e = let k : 42 ∷ [] ≡ a ∷ b ∷ [] = cc in absurd (cc)
two_from (suc zero) a b e = let k : 72 ∷ [] ≡ a ∷ b ∷ [] = cc in absurd (cc)
two_from (suc (suc n)) a b e = omega arith

pub one_from : (n a : ℕ) → slice_get symbols n ≡ Some (a ∷ []) → a ≢ 42 → a ≢ 72 → 2 ≤ n
unfolding symbols
one_from zero a e star h = let k : 42 ∷ [] ≡ a ∷ [] = cc in let j : a ≡ 42 = cc in absurd (star j)
one_from (suc zero) a e star h = let k : 72 ∷ [] ≡ a ∷ [] = cc in let j : a ≡ 72 = cc in absurd (h j)
one_from (suc (suc n)) a e star h = omega arith

head_is : (a b : ℕ) → a ∷ [] ≡ b ∷ [] → b ≡ a
head_is a b e = cc

lower_one : (l : Lower) (a : ℕ) → lower_bytes l ≡ a ∷ [] → IsOrganicLower l
lower_one lower_b a e = tt
lower_one lower_c a e = tt
lower_one lower_n a e = tt
lower_one lower_o a e = tt
lower_one lower_p a e = tt
lower_one lower_s a e = tt
lower_one lower_se a e = absurd (cc)
lower_one lower_as a e = absurd (cc)

-- no primitive of letters alone is this byte
pub none_single : (a : ℕ) → a ≢ 42 → a ≢ 97 → a ≢ 65 → ((l : Lower) → IsOrganicLower l → lower_bytes l ≡ a ∷ [] → ⊥)
    → ((n : ℕ) → slice_get symbols n ≢ Some (a ∷ []))
    → (x : Prim) → IsPrim x → IsBare x → prim_text x ≡ a ∷ [] → ⊥
none_single a star small big lowers elements any is bare e = star (head_is 42 a e)
none_single a star small big lowers elements aromatic is bare e = small (head_is 97 a e)
none_single a star small big lowers elements aliphatic is bare e = big (head_is 65 a e)
none_single a star small big lowers elements (element n) is bare e =
    let l = length-symbols in
    let high = is.1 in
    elements n (slice_get-get_or symbols n [] (omega arith) ∙ ap (λ v. Some v) e)
none_single a star small big lowers elements (lower l) is bare e = lowers l (lower_one l a e) e
none_single a star small big lowers elements _ is bare e = absurd bare

lower_not_h : (l : Lower) → lower_bytes l ≡ 72 ∷ [] → ⊥
lower_not_h lower_b e = absurd (let k = head_is 98 72 e in omega arith)
lower_not_h lower_c e = absurd (let k = head_is 99 72 e in omega arith)
lower_not_h lower_n e = absurd (let k = head_is 110 72 e in omega arith)
lower_not_h lower_o e = absurd (let k = head_is 111 72 e in omega arith)
lower_not_h lower_p e = absurd (let k = head_is 112 72 e in omega arith)
lower_not_h lower_s e = absurd (let k = head_is 115 72 e in omega arith)
lower_not_h lower_se e = absurd (cc)
lower_not_h lower_as e = absurd (cc)

hydrogen_text : get_or symbols 1 [] ≡ 72 ∷ []
unfolding symbols
hydrogen_text = refl

-- `H` is no symbol
pub none_hydrogen : (x : Prim) → IsPrim x → IsBare x → (a : ℕ) → prim_text x ≡ a ∷ [] → a ≡ 72 → ⊥
none_hydrogen any is bare a e h = let k = head_is 42 a e in absurd (omega arith)
none_hydrogen aromatic is bare a e h = let k = head_is 97 a e in absurd (omega arith)
none_hydrogen aliphatic is bare a e h = let k = head_is 65 a e in absurd (omega arith)
none_hydrogen (element n) is bare a e h =
    let low = is.0 in
    let j : n ≡ 1 = same_element n 1 is.1 (omega arith) (e ∙ ap (λ v. v ∷ []) h ∙ sym hydrogen_text) in
    absurd (omega arith)
none_hydrogen (lower l) is bare a e h = lower_not_h l (e ∙ ap (λ v. v ∷ []) h)
none_hydrogen _ is bare a e h = absurd bare
