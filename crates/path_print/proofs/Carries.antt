-- An embedding carries the paths of a pattern to paths of the molecule with the same strings.
use Rattle.std.proofs.Common.{ℕ, zero, suc, ◌<◌, ◌≡◌, ◌⊎◌, inl, inr, true, List, [], ◌∷◌, ◌++◌, length, get_or, map, reverse, refl, sym, ap, ◌∙◌, subst, ⊎_elim, arith}
use Rattle.std.specs.Prelude.{Some, option_map, find}
use Rattle.std.specs.List.{slice_get}
use Rattle.std.proofs.lemmas.Bool.{cases_lt, cases_eq}
use Rattle.std.proofs.lemmas.Bool.Decides.{nat_tests}
use Rattle.std.proofs.lemmas.List.{get_or-map, length-map, map-append}
use Rattle.std.proofs.lemmas.Grind.{reverse_onto}
use Rattle.std.proofs.lemmas.Option.{none-some, same_Some, some_pair_parts, slice_get_within, slice_get-map, get_or_from_slice_get}
use Rattle.chem_core.specs.declared.mol.Bond.{Bond}
use Rattle.chem_core.specs.Graph.{JoinsAt, IsSimpleGraph}
use Rattle.chem_core.specs.Molecule.{Molecule, IsMolecule, bond_ends, ends_of}
use Rattle.smarts_parse.specs.Pattern.{GraphTerm}
use Rattle.smarts_parse.specs.Embedding.{BondEmbeds, IsEmbedding}
use Rattle.path_print.specs.Path.{Family, View, string_of, IsPath}
use Rattle.path_print.specs.Prints.{are_ends, molecule_view, graph_view}
use Rattle.path_print.proofs.Options.{and_then_some, map_some, find_there, find_some}
use Rattle.path_print.proofs.Truths.{label_is_so, byte_is_so}

-- ---- ends

pub ends_cases : (x y a b : ℕ) → are_ends x y a b ≡ true → ((a ≡ x) × (b ≡ y)) ⊎ ((a ≡ y) × (b ≡ x))
ends_cases x y a b h = grind (arith, nat_tests)

pub ends_there : (x y : ℕ) → are_ends x y x y ≡ true
ends_there x y = grind (arith, nat_tests)

pub ends_back : (x y : ℕ) → are_ends x y y x ≡ true
ends_back x y = grind (arith, nat_tests)

pub bond_at : (bonds : List Bond) (b : ℕ) (x : Bond) → slice_get bonds b ≡ Some x
    → slice_get (bond_ends bonds) b ≡ Some (x.a, x.b)
bond_at bonds b x h = slice_get-map (λ y. (y.a, y.b)) bonds b ∙ ap (option_map (λ y. (y.a, y.b))) h

pub joins_from_ends : (bonds : List Bond) (b : ℕ) (bond : Bond) (x y : ℕ) → slice_get bonds b ≡ Some bond
    → are_ends x y bond.a bond.b ≡ true → JoinsAt (bond_ends bonds) b x y
joins_from_ends bonds b bond x y at e =
    let here = bond_at bonds b bond at in
    elim (ends_cases x y bond.a bond.b e) [
      | inl q ↦ inl (rw (q.0, q.1) at here)
      | inr q ↦ inr (rw (q.0, q.1) at here)
    ]

pub ends_from_joins : (bonds : List Bond) (b : ℕ) (bond : Bond) (x y : ℕ) → slice_get bonds b ≡ Some bond
    → JoinsAt (bond_ends bonds) b x y → are_ends x y bond.a bond.b ≡ true
ends_from_joins bonds b bond x y at joins =
    let here = bond_at bonds b bond at in
    elim joins [
      | inl q ↦ let p = some_pair_parts bond.a x bond.b y (sym here ∙ q) in rw (p.0, p.1) (ends_there x y)
      | inr q ↦ let p = some_pair_parts bond.a y bond.b x (sym here ∙ q) in rw (p.0, p.1) (ends_back x y)
    ]

-- the bond that joins two atoms is the one that is found
pub found_bond : (n : ℕ) (bonds : List Bond) (b : ℕ) (bond : Bond) (x y : ℕ) → IsSimpleGraph n (bond_ends bonds)
    → slice_get bonds b ≡ Some bond → JoinsAt (bond_ends bonds) b x y
    → find (λ z. are_ends x y z.a z.b) bonds ≡ Some bond
found_bond n bonds b bond x y graph at joins =
    let some = find_some (λ z. are_ends x y z.a z.b) bonds b bond at (ends_from_joins bonds b bond x y at joins) in
    let there = find_there (λ z. are_ends x y z.a z.b) bonds some.0 some.1 in
    let same : b ≡ there.0 = graph.once b there.0 x y joins (joins_from_ends bonds there.0 some.0 x y there.1 there.2)
    in
    let one : some.0 ≡ bond = same_Some some.0 bond (sym there.1 ∙ sym (ap (slice_get bonds) same) ∙ at) in
    some.1 ∙ ap Some one

-- ---- strings

-- each atom of a list that has a string has a label
pub labels_in : (v : View) (xs s : List ℕ) → string_of v xs ≡ Some s → (i : ℕ) (d : ℕ) → i < length xs
    → (l : ℕ × ℕ) × (v.label (get_or xs i d) ≡ Some l)
labels_in v [] s h i d lt = absurd (omega arith)
labels_in v (x ∷ []) s h zero d lt = let q = map_some _ (v.label x) s h in (q.0, q.1)
labels_in v (x ∷ []) s h (suc i) d lt = absurd (omega arith)
labels_in v (x ∷ y ∷ ys) s h zero d lt = let q = and_then_some _ (v.label x) s h in (q.0, q.1)
labels_in v (x ∷ y ∷ ys) s h (suc i) d lt =
    let q = and_then_some _ (v.label x) s h in
    let r = and_then_some _ (v.byte x y) s q.2 in
    let t = and_then_some _ (string_of v (y ∷ ys)) s r.2 in
    labels_in v (y ∷ ys) t.0 t.1 i d (omega arith)

-- where labels and bytes are carried, strings are
pub string_carried : (v w : View) (f : ℕ → ℕ) → ((x : ℕ) (l : ℕ × ℕ) → v.label x ≡ Some l → w.label (f x) ≡ Some l)
    → ((x y b : ℕ) → v.byte x y ≡ Some b → w.byte (f x) (f y) ≡ Some b) → (xs s : List ℕ) → string_of v xs ≡ Some s
    → string_of w (map f xs) ≡ Some s
string_carried v w f labels bytes [] s h = absurd (none-some s h)
string_carried v w f labels bytes (x ∷ []) s h =
    let q = map_some _ (v.label x) s h in
    rw (labels x q.0 q.1) (ap Some q.2)
string_carried v w f labels bytes (x ∷ y ∷ ys) s h =
    let q = and_then_some _ (v.label x) s h in
    let r = and_then_some _ (v.byte x y) s q.2 in
    let t = and_then_some _ (string_of v (y ∷ ys)) s r.2 in
    let rest = string_carried v w f labels bytes (y ∷ ys) t.0 t.1 in
    rw (labels x q.0 q.1, bytes x y r.0 r.1, rest) t.2

map_reverse : (f : ℕ → ℕ) (xs : List ℕ) → reverse (map f xs) ≡ map f (reverse xs)
map_reverse f [] = refl
map_reverse f (x ∷ xs) =
    reverse_onto (map f xs) (f x) [] ∙ ap (λ ys. ys ++ f x ∷ []) (map_reverse f xs)
    ∙ sym (map-append f (reverse xs) (x ∷ [])) ∙ sym (ap (map f) (reverse_onto xs x []))

-- ---- embeddings

module _ (parts : ℕ → ℕ → Type 0) (family : Family) (g : GraphTerm) (m : Molecule) (image : List ℕ)
    (molecule : IsMolecule m) (embeds : IsEmbedding parts g m image) where
  label_carried : (x : ℕ) (l : ℕ × ℕ) → (graph_view g family).label x ≡ Some l
      → (molecule_view m family).label (get_or image x 0) ≡ Some l
  label_carried x l h =
      let q = and_then_some _ (slice_get g.atoms x) l h in
      label_is_so parts family q.0 m (get_or image x 0) l (embeds.atoms x q.0 q.1) q.2

  byte_carried : (x y b : ℕ) → (graph_view g family).byte x y ≡ Some b
      → (molecule_view m family).byte (get_or image x 0) (get_or image y 0) ≡ Some b
  byte_carried x y b h =
      let q = and_then_some _ (find (λ z. are_ends x y z.a z.b) g.bonds) b h in
      let there = find_there (λ z. are_ends x y z.a z.b) g.bonds q.0 q.1 in
      let within = slice_get_within g.bonds there.0 q.0 there.1 in
      let e : BondEmbeds m image q.0 = subst (BondEmbeds m image)
      (get_or_from_slice_get g.bonds there.0 q.0 q.0 there.1) (embeds.bonds there.0 q.0 within) in
      let so = byte_is_so q.0.expr m e.0 b e.2 q.2 in
      let joins : JoinsAt (ends_of m) e.0 (get_or image x 0) (get_or image y 0) = elim
      (ends_cases x y q.0.a q.0.b there.2) [
        | inl r ↦ rw (r.0, r.1) at e.1
        | inr r ↦ let back = rw (r.0, r.1) at e.1 in ⊎_elim inr inl back
      ] in
      rw (found_bond _ m.bonds e.0 so.0 _ _ molecule.graph so.1 joins) (ap Some so.2)

  atom_within : (xs s : List ℕ) → string_of (graph_view g family) xs ≡ Some s → (i d : ℕ) → i < length xs
      → get_or xs i d < length image
  atom_within xs s h i d lt =
      let l = labels_in (graph_view g family) xs s h i d lt in
      let q = and_then_some _ (slice_get g.atoms (get_or xs i d)) l.0 l.1 in
      let within = slice_get_within g.atoms (get_or xs i d) q.0 q.1 in
      rw embeds.one_each within

  same_atom : (x y : ℕ) → x < length image → y < length image → get_or image x 0 ≡ get_or image y 0 → x ≡ y
  same_atom x y hx hy e =
      elim (cases_eq x y) [
        | inl q ↦ q
        | inr n ↦ elim (cases_lt x y) [
          | inl l ↦ absurd (embeds.distinct x y 0 l hy e)
          | inr l ↦ absurd (embeds.distinct y x 0 (omega arith) hx (sym e))
        ]
      ]

  pub path_carried : (xs s t : List ℕ) → IsPath (graph_view g family) xs s t
      → IsPath (molecule_view m family) (map (λ x. get_or image x 0) xs) s t
  path_carried xs s t path = record {
    short = rw length-map path.short;
    distinct = λ i j d lo hi same.
        let hj : j < length xs = rw length-map at hi in
        let hi' : i < length xs = omega arith in
        let at_i : get_or (map (λ x. get_or image x 0) xs) i d ≡ get_or image (get_or xs i 0) 0 = get_or-map
        (λ x. get_or image x 0) xs i 0 d hi' in
        let at_j : get_or (map (λ x. get_or image x 0) xs) j d ≡ get_or image (get_or xs j 0) 0 = get_or-map
        (λ x. get_or image x 0) xs j 0 d hj in
        path.distinct i j 0 lo hj (same_atom (get_or xs i 0) (get_or xs j 0) (atom_within xs s path.reads i 0 hi')
        (atom_within xs s path.reads j 0 hj) (sym at_i ∙ same ∙ at_j));
    reads = string_carried _ _ (λ x. get_or image x 0) label_carried byte_carried xs s path.reads;
    reads_back = rw map_reverse (string_carried _ _ (λ x. get_or image x 0) label_carried byte_carried
        (reverse xs) t path.reads_back);
  }
