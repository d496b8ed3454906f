-- What stays: moved to the front of a list, and renumbered.
use Rattle.std.proofs.Common.{ℕ, ◌+◌, ◌<◌, ◌≤◌, ◌≡◌, Bool, true, false, not, cond, List, [], ◌∷◌, ◌++◌, length, map, filter, take, drop, get_or, set, All, refl, ap, sym, ◌∙◌, arith, Fits, w8}
use Rattle.std.specs.List.{enumerate_from}
use Rattle.std.proofs.lemmas.List.{map-append, append-nil, take_more_set, drop-set-lt, drop-drop, get_or-drop, get_or_default}
use Rattle.std.proofs.lemmas.List.Edits.{map_over_more}
use Rattle.std.proofs.lemmas.List.Elements.{filter-append}
use Rattle.chem_core.specs.declared.sketch.SketchAtom.{SketchAtom}
use Rattle.std.specs.Prelude.{pos}
use Rattle.chem_core.specs.declared.sketch.Fill.TheVariants.{Given}
use Rattle.chem_core.specs.declared.sketch.SketchBond.{SketchBond}
use Rattle.valence.specs.Suppressed.{staying_atoms, renumbered}
use Rattle.chem_core.specs.Enumerated.{enumerate-more}

-- the element at i of two lists that are one from i on
same-at : {X : Type 0} (xs ys : List X) (i : ℕ) (d : X) → drop i ys ≡ drop i xs → get_or ys i d ≡ get_or xs i d
same-at xs ys i d e =
    let z : i + 0 ≡ i = omega arith in
    ap (λ k. get_or ys k d) (sym z) ∙ sym (get_or-drop i ys 0 d) ∙ ap (λ zs. get_or zs 0 d) e ∙ get_or-drop i xs 0 d
    ∙ ap (λ k. get_or xs k d) z

rest-more : {X : Type 0} (xs ys : List X) (i : ℕ) → drop i ys ≡ drop i xs → drop (i + 1) ys ≡ drop (i + 1) xs
rest-more xs ys i e = sym (drop-drop 1 i ys) ∙ ap (drop 1) e ∙ drop-drop 1 i xs

pub staying-more : (goes : ℕ → Bool) (gain : ℕ → ℕ) (xs : List SketchAtom) (i : ℕ) (d : SketchAtom) → i < length xs
    → staying_atoms goes gain (take (i + 1) xs) ≡ staying_atoms goes gain (take i xs)
    ++ cond (not (goes i)) (record (get_or xs i d) { hydrogens = (get_or xs i d).hydrogens + gain i } ∷ []) []
staying-more goes gain xs i d h =
    let p : ℕ × SketchAtom → Bool = λ p. not (goes p.0) in
    let f : ℕ × SketchAtom → SketchAtom = λ p. record p.1 { hydrogens = p.1.hydrogens + gain p.0 } in
    let x : SketchAtom = get_or xs i d in
    let one : map f (filter p ((i, x) ∷ [])) ≡ cond (not (goes i)) (f (i, x) ∷ []) [] =
    elim (goes i) as (λ t. map f (cond (not t) ((i, x) ∷ []) []) ≡ cond (not t) (f (i, x) ∷ []) []) [
      | true ↦
          refl
      | false ↦ refl
    ] in
    ap (λ ps. map f (filter p ps)) (enumerate-more xs i d h)
    ∙ ap (map f) (filter-append p (enumerate_from 0 (take i xs)) ((i, x) ∷ []))
    ∙ map-append f (filter p (enumerate_from 0 (take i xs))) (filter p ((i, x) ∷ []))
    ∙ ap (λ ys. staying_atoms goes gain (take i xs) ++ ys) one

-- what stays of the first i of xs stands in the first places of ys, and from i on ys is as it was
pub record StaysInFront (goes : ℕ → Bool) (gain : ℕ → ℕ) (xs ys : List SketchAtom) (kept i : ℕ) : Type 0 where
  pub front : take kept ys ≡ staying_atoms goes gain (take i xs)
  pub rest : drop i ys ≡ drop i xs
  pub behind : kept ≤ i

pub front-kept : (goes : ℕ → Bool) (gain : ℕ → ℕ) (xs ys : List SketchAtom) (kept i : ℕ) (d : SketchAtom)
    → StaysInFront goes gain xs ys kept i → i < length xs → length ys ≡ length xs → goes i ≡ false
    → StaysInFront goes gain xs (set ys kept (record (get_or ys i d) {
      hydrogens = (get_or ys i d).hydrogens
          + gain i;
    })) (kept + 1) (i + 1)
front-kept goes gain xs ys kept i d h within long stays =
    let behind = h.behind in
    let there : kept < length ys = omega arith in
    let x : SketchAtom = get_or xs i d in
    let new : SketchAtom = record x { hydrogens = x.hydrogens + gain i } in
    let same : get_or ys i d ≡ x = same-at xs ys i d h.rest in
    let more : staying_atoms goes gain (take (i + 1) xs) ≡ staying_atoms goes gain (take i xs) ++ new ∷ [] =
    staying-more goes gain xs i d within
    ∙ ap (λ t. staying_atoms goes gain (take i xs) ++ cond (not t) (new ∷ []) []) stays in
    rw same (record {
      front = take_more_set ys kept new there ∙ ap (λ zs. zs ++ new ∷ []) h.front ∙ sym more;
      rest = drop-set-lt (i + 1) ys kept new (omega arith) ∙ rest-more xs ys i h.rest;
      behind = omega arith;
    })

pub front-gone : (goes : ℕ → Bool) (gain : ℕ → ℕ) (xs ys : List SketchAtom) (kept i : ℕ)
    → StaysInFront goes gain xs ys kept i → i < length xs → goes i ≡ true → StaysInFront goes gain xs ys kept (i + 1)
front-gone goes gain xs ys kept i h within gone =
    let behind = h.behind in
    let d : SketchAtom = record {
      number = 0;
      isotope = 0;
      charge = pos 0;
      lower = false;
      fill = Given;
      hydrogens = 0;
      written = 0;
    } in
    let x : SketchAtom = get_or xs i d in
    let more : staying_atoms goes gain (take (i + 1) xs) ≡ staying_atoms goes gain (take i xs) =
    staying-more goes gain xs i d within
    ∙ ap (λ t. staying_atoms goes gain (take i xs) ++ cond (not t) (record x { hydrogens = x.hydrogens + gain i }
    ∷ []) []) gone ∙ append-nil (staying_atoms goes gain (take i xs)) in
    record { front = h.front ∙ sym more; rest = rest-more xs ys i h.rest; behind = omega arith }

-- the hydrogens of the atom that is looked at, with its gain
pub gain-fits : (gains : List ℕ) (xs ys : List SketchAtom) (i : ℕ) (d : SketchAtom) → drop i ys ≡ drop i xs
    → i < length xs → All (λ a. a.hydrogens ≤ 15) xs → ((a : ℕ) → get_or gains a 0 ≤ 12)
    → Fits w8 ((get_or ys i d).hydrogens + get_or gains i 0)
gain-fits gains xs ys i d e within few more = rw (same-at xs ys i d e) (let le = few i d within in let up = more i in
    omega arith)

-- one more bond is renumbered
pub renumbered-more : (place : ℕ → ℕ) (xs ys : List SketchBond) (i : ℕ) (d : SketchBond) → i < length xs
    → length ys ≡ length xs → ys ≡ map (renumbered place) (take i xs) ++ drop i xs
    → set ys i (renumbered place (get_or ys i d)) ≡ map (renumbered place) (take (i + 1) xs) ++ drop (i + 1) xs
renumbered-more place xs ys i d within long e =
    let there : i < length ys = omega arith in
    map_over_more (renumbered place) xs ys i (get_or ys i d) within e (get_or_default ys i d (get_or ys i d) there)
