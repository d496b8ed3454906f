-- That what stays of a sound sketch is a sound sketch.
use Rattle.std.proofs.Common.{ℕ, zero, suc, ◌+◌, ◌<◌, ◌≤◌, ◌≡◌, ◌≢◌, ◌⊎◌, Bool, true, false, not, cond, eqb, List, [], ◌∷◌, length, map, filter, take, get_or, count_by, sum_by, All, Some, refl, ap, sym, subst, ◌∙◌, inl, inr, arith}
use Rattle.std.specs.List.{AllPairs, enumerate_from, range_with_len, slice_get}
use Rattle.std.proofs.lemmas.Bool.{cases_Bool, cases_eq, cases_order, and_parts, not-true, or_cases, or_left, or_right, eqb-true, eq-eqb, false≢true}
use Rattle.std.proofs.lemmas.Option.{same_Some, slice_get_within, slice_get-get_or}
use Rattle.std.proofs.lemmas.List.{length-map, get_or-map, get_or-take}
use Rattle.std.proofs.lemmas.List.FromFn.{length-enumerate_from, get_or-enumerate_from}
use Rattle.std.proofs.lemmas.List.Elements.{All-filter, All-map, All-tail, All-head, filter_passes}
use Rattle.std.proofs.lemmas.List.Kept.{AllPairs-filter}
use Rattle.std.proofs.lemmas.List.Sums.{sum_by-cons, length-filter, count_by-le-length}
use Rattle.std.proofs.Math.Path.{fun_ext}
use Rattle.chem_core.specs.declared.sketch.SketchAtom.{SketchAtom}
use Rattle.chem_core.specs.declared.sketch.SketchBond.{SketchBond}
use Rattle.chem_core.specs.declared.sketch.SketchKind.TheVariants.{Unwritten}
use Rattle.chem_core.specs.Sketch.{SketchTerm, ends_at}
use Rattle.chem_core.specs.Graph.{JoinsAt, IsSimpleGraph}
use Rattle.chem_core.specs.Sound.{IsSound, IsSketchAtom, ends_among, sketch_ends}
use Rattle.valence.specs.Suppressed.{is_suppressed, new_place, brings, stays, staying_atoms, staying_bonds, renumbered, gained, suppressed}
use Rattle.valence.proofs.Sums.{degree_is, brought-le, bond-in_graph}
use Rattle.valence.proofs.Hydrogens.{with_hydrogens}
use Rattle.valence.proofs.Renumbering.{new_place-le, new_place-agree, new_place-lt, new_place-one}

-- ---- the atoms that stay

kept-count : (goes : ℕ → Bool) (n : ℕ) (xs : List SketchAtom) → count_by (λ p. not (goes p.0)) (enumerate_from n xs)
    ≡ count_by (λ k. not (goes k)) (range_with_len n (length xs))
kept-count goes n [] = refl
kept-count goes n (x ∷ xs) =
    let f : ℕ × SketchAtom → ℕ = λ p. cond (not (goes p.0)) 1 0 in
    let g : ℕ → ℕ = λ k. cond (not (goes k)) 1 0 in
    sum_by-cons f (n, x) (enumerate_from (n + 1) xs) ∙ ap (λ k. g n + k) (kept-count goes (n + 1) xs)
    ∙ sym (sum_by-cons g n (range_with_len (n + 1) (length xs)))

-- there are as many as the place after the last
pub length-staying : (goes : ℕ → Bool) (gain : ℕ → ℕ) (xs : List SketchAtom) → length (staying_atoms goes gain xs)
    ≡ new_place goes (length xs)
length-staying goes gain xs =
    length-map (filter (λ p. not (goes p.0)) (enumerate_from 0 xs))
    (λ p. record p.1 { hydrogens = p.1.hydrogens + gain p.0 })
    ∙ length-filter (λ p. not (goes p.0)) (enumerate_from 0 xs) ∙ kept-count goes 0 xs

atoms-stay : (goes : ℕ → Bool) (gain : ℕ → ℕ) (xs : List SketchAtom) → All IsSketchAtom xs
    → All (λ a. a.hydrogens ≤ 15) xs → ((a : ℕ) → gain a ≤ 12) → All IsSketchAtom (staying_atoms goes gain xs)
atoms-stay goes gain xs valid few more =
    let f : ℕ × SketchAtom → SketchAtom = λ p. record p.1 { hydrogens = p.1.hydrogens + gain p.0 } in
    let P : ℕ × SketchAtom → Type 0 = λ p. IsSketchAtom (f p) in
    let all : All P (enumerate_from 0 xs) = λ k d h.
    let within : k < length xs = omega (arith, length-enumerate_from 0 xs) in
    let atom : SketchAtom = get_or xs k d.1 in
    let le = few k d.1 within in
    let up = more (0 + k) in
    subst P (sym (get_or-enumerate_from 0 xs k d within)) (with_hydrogens atom (atom.hydrogens + gain (0 + k))
    (valid k d.1 within) (omega arith)) in
    All-map IsSketchAtom f (filter (λ p. not (goes p.0)) (enumerate_from 0 xs))
    (All-filter (λ p. not (goes p.0)) P (enumerate_from 0 xs) all)

-- ---- the bonds that stay

-- neither end of the bond goes
abbrev Stays : (ℕ → Bool) → SketchBond → Type 0
Stays goes b = (goes b.a ≡ false) × (goes b.b ≡ false)

stays-parts : (goes : ℕ → Bool) (b : SketchBond) → stays goes b ≡ true → Stays goes b
stays-parts goes b h =
    let t = and_parts (not (goes b.a)) (not (goes b.b)) h in
    (not-true (goes b.a) t.0, not-true (goes b.b) t.1)

-- what holds of each bond holds of each that stays, beside that it stays
all-stay : (goes : ℕ → Bool) (P : SketchBond → Type 0) (bonds : List SketchBond) → All P bonds
    → (k : ℕ) (d : SketchBond) → k < length (filter (stays goes) bonds)
    → Stays goes (get_or (filter (stays goes) bonds) k d) × P (get_or (filter (stays goes) bonds) k d)
all-stay goes P bonds all k d h = (
  stays-parts goes (get_or (filter (stays goes) bonds) k d) (filter_passes (stays goes) bonds k d h),
  All-filter (stays goes) P bonds all k d h,
)

bonds-stay : (goes : ℕ → Bool) (place : ℕ → ℕ) (Q : ℕ × ℕ → Type 0) (P : SketchBond → Type 0) (bonds : List SketchBond)
    → All P bonds → ((b : SketchBond) → Stays goes b → P b → Q (place b.a, place b.b))
    → All Q (ends_among (staying_bonds goes place bonds))
bonds-stay goes place Q P bonds all step =
    All-map Q (λ (b : SketchBond). (b.a, b.b)) (staying_bonds goes place bonds)
    (All-map (λ (b : SketchBond). Q (b.a, b.b)) (renumbered place) (filter (stays goes) bonds)
    (λ k d h. let both = all-stay goes P bonds all k d h in step (get_or (filter (stays goes) bonds) k d) both.0
    both.1))

-- at most one atom that stays moves to a place
owner : (goes : ℕ → Bool) (a n : ℕ) → (x : ℕ) × ((y : ℕ) → y < n → goes y ≡ false → new_place goes y ≡ a → y ≡ x)
owner goes a zero = (0, λ y h s e. absurd (omega arith))
owner goes a (suc n) =
    let o = owner goes a n in
    elim (cases_eq (new_place goes n) a) [
      | inl e ↦ elim (cases_Bool (goes n)) [
        | inl g ↦ (
          o.0,
          λ y h s q. elim (cases_eq y n) [
            | inl is ↦ absurd (false≢true (sym s ∙ ap goes is ∙ g))
            | inr
                ne ↦ o.1 y (omega arith) s q
          ],
        )
        | inr s ↦ (n, λ y h sy q. new_place-one goes y n sy s (q ∙ sym e))
      ]
      | inr other ↦ (
        o.0,
        λ y h s q.
            elim (cases_eq y n) [
              | inl is ↦ absurd (other (ap (new_place goes) (sym is) ∙ q))
              | inr ne ↦
                  o.1 y (omega arith) s q
            ],
      )
    ]

test-le : (s t : Bool) → (s ≡ true → t ≡ true) → cond {A = ℕ} s 1 0 ≤ cond t 1 0
test-le true t h = let e : t ≡ true = h refl in rw e (omega arith)
test-le false t h = omega arith

-- the bonds at a place are among those at one atom
count-le : (goes : ℕ → Bool) (place : ℕ → ℕ) (a x : ℕ) (bonds : List SketchBond)
    → All (λ b. stays goes b ≡ true → ends_at a (renumbered place b) ≡ true → ends_at x b ≡ true) bonds
    → count_by (ends_at a) (staying_bonds goes place bonds) ≤ count_by (ends_at x) bonds
count-le goes place a x [] h = omega arith
count-le goes place a x (b ∷ bs) h =
    let P : SketchBond → Type 0 = λ b. stays goes b ≡ true → ends_at a (renumbered place b) ≡ true
    → ends_at x b ≡ true in
    let f : SketchBond → ℕ = λ b. cond (ends_at a b) 1 0 in
    let g : SketchBond → ℕ = λ b. cond (ends_at x b) 1 0 in
    let rest = count-le goes place a x bs (All-tail P b bs h) in
    let right = sum_by-cons g b bs in
    elim (cases_Bool (stays goes b)) [
      | inl s ↦
          let left : count_by (ends_at a) (staying_bonds goes place (b ∷ bs)) ≡ f (renumbered place b)
          + count_by (ends_at a) (staying_bonds goes place bs) =
          ap (λ t. sum_by f (map (renumbered place) (cond t (b ∷ filter (stays goes) bs) (filter (stays goes) bs))))
          s ∙ sum_by-cons f (renumbered place b) (staying_bonds goes place bs) in
          let one = test-le (ends_at a (renumbered place b)) (ends_at x b) (All-head P b bs h s) in
          omega (arith, left, right, one, rest)
      | inr s ↦
          let left : count_by (ends_at a) (staying_bonds goes place (b ∷ bs))
          ≡ count_by (ends_at a) (staying_bonds goes place bs) =
          ap (λ t. sum_by f (map (renumbered place) (cond t (b ∷ filter (stays goes) bs) (filter (stays goes) bs))))
          s in
          omega (arith, left, right, rest)
    ]

-- ---- no two bonds between the same atoms

-- the bonds join the same atoms
abbrev pub SameEnds : SketchBond → SketchBond → Type 0
SameEnds b c = ((b.a ≡ c.a) × (b.b ≡ c.b)) ⊎ ((b.a ≡ c.b) × (b.b ≡ c.a))

abbrev pub Apart : SketchBond → SketchBond → Type 0
Apart b c = SameEnds b c → ⊥

ends-read : (bonds : List SketchBond) (i : ℕ) (d : SketchBond) → i < length bonds → slice_get (ends_among bonds) i
    ≡ Some ((get_or bonds i d).a, (get_or bonds i d).b)
ends-read bonds i d within =
    let within' : i < length (ends_among bonds) = omega (arith, length-map {B = ℕ × ℕ} bonds (λ b. (b.a, b.b))) in
    slice_get-get_or (ends_among bonds) i (0, 0) within'
    ∙ ap Some (get_or-map (λ b. (b.a, b.b)) bonds i d (0, 0) within)

pair_is : (a b x y : ℕ) → a ≡ x → b ≡ y → ◌≡◌ {A = ℕ × ℕ} (a, b) (x, y)
pair_is a b x y p q = ap (λ k. (k, b)) p ∙ ap (λ k. (x, k)) q

pub apart-from_once : (bonds : List SketchBond) (n : ℕ) → IsSimpleGraph n (ends_among bonds) → AllPairs Apart bonds
apart-from_once bonds n graph i j d lt h same =
    let b : SketchBond = get_or bonds i d in
    let c : SketchBond = get_or bonds j d in
    let at = ends-read bonds i d (omega arith) in
    let at' = ends-read bonds j d h in
    let joins : JoinsAt (ends_among bonds) j b.a b.b = elim same [
      | inl q ↦ inl (at' ∙ ap Some (pair_is c.a c.b b.a b.b (sym q.0) (sym q.1)))
      | inr q ↦ inr (at' ∙ ap Some (pair_is c.a c.b b.b b.a (sym q.1) (sym q.0)))
    ] in
    let e : i ≡ j = graph.once i j b.a b.b (inl at) joins in
    absurd (omega arith)

joined-read : (bonds : List SketchBond) (i x y : ℕ) (d : SketchBond) → JoinsAt (ends_among bonds) i x y
    → (i < length bonds) × ((((get_or bonds i d).a ≡ x) × ((get_or bonds i d).b ≡ y))
    ⊎ (((get_or bonds i d).a ≡ y) × ((get_or bonds i d).b ≡ x)))
joined-read bonds i x y d joins =
    let low : i < length (ends_among bonds) = elim joins [
      | inl r ↦ slice_get_within _ i _ r
      | inr r ↦
          slice_get_within _ i _ r
    ] in
    let within : i < length bonds = omega (arith, length-map {B = ℕ × ℕ} bonds (λ b. (b.a, b.b))) in
    let at = ends-read bonds i d within in (
      within,
      elim joins [
        | inl r ↦ let e : ◌≡◌ {A = ℕ × ℕ} ((get_or bonds i d).a, (get_or bonds i d).b) (x, y) =
            same_Some _ _ (sym at ∙ r) in inl (ap (λ p. p.0) e, ap (λ p. p.1) e)
        | inr r ↦ let e : ◌≡◌ {A = ℕ × ℕ} ((get_or bonds i d).a, (get_or bonds i d).b) (y, x) =
            same_Some _ _ (sym at ∙ r) in inr (ap (λ p. p.0) e, ap (λ p. p.1) e)
      ],
    )

same-ends : (b c : SketchBond) (x y : ℕ) → ((b.a ≡ x) × (b.b ≡ y)) ⊎ ((b.a ≡ y) × (b.b ≡ x)) → ((c.a ≡ x) × (c.b ≡ y))
    ⊎ ((c.a ≡ y) × (c.b ≡ x)) → SameEnds b c
same-ends b c x y p q = elim p [
  | inl r ↦ elim q [ inl s ↦ inl (r.0 ∙ sym s.0, r.1 ∙ sym s.1) | inr s ↦ inr (r.0 ∙ sym s.1, r.1 ∙ sym s.0) ]
  | inr r ↦ elim q [ inl s ↦ inr (r.0 ∙ sym s.1, r.1 ∙ sym s.0) | inr s ↦ inl (r.0 ∙ sym s.0, r.1 ∙ sym s.1) ]
]

pub once-from_apart : (bonds : List SketchBond) → AllPairs Apart bonds → (b c x y : ℕ)
    → JoinsAt (ends_among bonds) b x y → JoinsAt (ends_among bonds) c x y → b ≡ c
once-from_apart bonds apart b c x y p q =
    let d : SketchBond = record { a = 0; b = 0; kind = Unwritten } in
    let f = joined-read bonds b x y d p in
    let g = joined-read bonds c x y d q in
    elim (cases_order b c) [
      | inl e ↦ e
      | inr o ↦ elim o [
        | inl lt ↦ absurd (apart b c d lt g.0 (same-ends (get_or bonds b d) (get_or bonds c d) x y f.1 g.1))
        | inr lt ↦ absurd (apart c b d lt f.0 (same-ends (get_or bonds c d) (get_or bonds b d) x y g.1 f.1))
      ]
    ]

apart-renumbered : (goes : ℕ → Bool) (b c : SketchBond) → Stays goes b → Stays goes c → Apart b c
    → Apart (renumbered (new_place goes) b) (renumbered (new_place goes) c)
apart-renumbered goes b c s t apart same = apart (elim same [
  | inl q ↦ inl (new_place-one goes b.a c.a s.0 t.0 q.0, new_place-one goes b.b c.b s.1 t.1 q.1)
  | inr q ↦ inr (new_place-one goes b.a c.b s.0 t.1 q.0, new_place-one goes b.b c.a s.1 t.0 q.1)
])

apart-stay : (goes : ℕ → Bool) (bonds : List SketchBond) → AllPairs Apart bonds
    → AllPairs Apart (staying_bonds goes (new_place goes) bonds)
apart-stay goes bonds apart i j d lt h =
    let kept : List SketchBond = filter (stays goes) bonds in
    let within : j < length kept = omega (arith, length-map kept (renumbered (new_place goes))) in
    let within' : i < length kept = omega arith in
    let one : (k : ℕ) → k < length kept → Stays goes (get_or kept k d) = λ k l. stays-parts goes (get_or kept k d)
    (filter_passes (stays goes) bonds k d l) in
    rw (
      get_or-map (renumbered (new_place goes)) kept i d d within',
      get_or-map (renumbered (new_place goes)) kept j d d
          within,
    )
    (apart-renumbered goes (get_or kept i d) (get_or kept j d) (one i within') (one j within)
    (AllPairs-filter Apart (stays goes) bonds apart i j d lt within))

-- ---- the whole graph

pub graph-stays : (goes : ℕ → Bool) (bonds : List SketchBond) (n : ℕ) → IsSimpleGraph n (ends_among bonds)
    → IsSimpleGraph (new_place goes n) (ends_among (staying_bonds goes (new_place goes) bonds))
graph-stays goes bonds n graph =
    let place : ℕ → ℕ = new_place goes in
    let new : List SketchBond = staying_bonds goes place bonds in
    let P : SketchBond → Type 0 = λ b. (b.a < n) × (b.b < n) × (b.a ≢ b.b) in
    let all : All P bonds = λ k d h. bond-in_graph bonds n k d graph h in
    record {
      few_atoms = omega (arith, new_place-le goes n, graph.few_atoms);
      few_bonds = omega (
        arith,
        length-map {B = ℕ × ℕ} new (λ b. (b.a, b.b)),
        length-map (filter (stays goes) bonds) (renumbered place),
        length-filter (stays goes) bonds,
        count_by-le-length (stays goes) bonds,
        length-map {B = ℕ × ℕ} bonds (λ b. (b.a, b.b)),
        graph.few_bonds,
      );
      few_neighbours = λ a.
          let o = owner goes a n in
          let at : All (λ b. stays goes b ≡ true → ends_at a (renumbered place b) ≡ true → ends_at o.0 b ≡ true) bonds =
          λ k d h s e.
          let b : SketchBond = get_or bonds k d in
          let range = all k d h in
          let stay = stays-parts goes b s in
          elim (or_cases (eqb (place b.a) a) (eqb (place b.b) a) e) [
            | inl t ↦ or_left (eqb b.a o.0) (eqb b.b o.0)
                (eq-eqb b.a o.0 (o.1 b.a range.0 stay.0 (eqb-true (place b.a) a t)))
            | inr t ↦ or_right (eqb b.a o.0) (eqb b.b o.0)
                (eq-eqb b.b o.0 (o.1 b.b range.1 stay.1 (eqb-true (place b.b) a t)))
          ] in
          omega (
            arith,
            degree_is new a,
            count-le goes place a o.0 bonds at,
            degree_is bonds o.0,
            graph.few_neighbours o.0,
          );
      in_range = bonds-stay goes place (λ e. (e.0 < place n) × (e.1 < place n)) P bonds all (λ b s r.
          (new_place-lt goes b.a n s.0 r.0, new_place-lt goes b.b n s.1 r.1));
      distinct = bonds-stay goes place (λ e. e.0 ≢ e.1) P bonds all (λ b s r e.
          r.2 (new_place-one goes b.a b.b s.0 s.1 e));
      once = once-from_apart new (apart-stay goes bonds (apart-from_once bonds n graph));
    }

gained-le : (s : SketchTerm) → IsSound s → (a : ℕ) → gained s a ≤ 12
gained-le s sound a = omega (
  arith,
  brought-le (is_suppressed s) a s.bonds,
  degree_is s.bonds a,
  sound.graph.few_neighbours a,
)

pub suppressed-sound : (s : SketchTerm) → IsSound s → All (λ a. a.hydrogens ≤ 15) s.atoms → IsSound (suppressed s)
suppressed-sound s sound few = record {
  graph = subst (λ n. IsSimpleGraph n (sketch_ends (suppressed s)))
      (sym (length-staying (is_suppressed s) (gained s) s.atoms))
      (graph-stays (is_suppressed s) s.bonds (length s.atoms) sound.graph);
  each = atoms-stay (is_suppressed s) (gained s) s.atoms sound.each few (gained-le s sound);
}

-- ---- the lists that the code makes

map-agree : {X Y : Type 0} (f g : X → Y) (xs : List X) → All (λ x. f x ≡ g x) xs → map f xs ≡ map g xs
map-agree f g [] h = refl
map-agree f g (x ∷ xs) h = ap (λ y. y ∷ map f xs) (All-head (λ x. f x ≡ g x) x xs h)
    ∙ ap (λ ys. g x ∷ ys) (map-agree f g xs (All-tail (λ x. f x ≡ g x) x xs h))

places-agree : (goes : ℕ → Bool) (place other : ℕ → ℕ) (bonds : List SketchBond) (n : ℕ)
    → All (λ b. (b.a < n) × (b.b < n)) bonds → ((a : ℕ) → a < n → place a ≡ other a) → staying_bonds goes place bonds
    ≡ staying_bonds goes other bonds
places-agree goes place other bonds n range same =
    map-agree (renumbered place) (renumbered other) (filter (stays goes) bonds) (λ k d h.
    let b : SketchBond = get_or (filter (stays goes) bonds) k d in
    let in' = All-filter (stays goes) (λ b. (b.a < n) × (b.b < n)) bonds range k d h in
    ap (λ x. record b { a = x; b = place b.b }) (same b.a in'.0) ∙ ap (λ y. record b { a = other b.a; b = y })
    (same b.b in'.1))

abbrev pub gone : List Bool → ℕ → Bool
gone goes k = get_or goes k false

-- the flags of the first atoms give the places of these
pub new_place-front : (goes : List Bool) (n a : ℕ) → a ≤ n → new_place (gone (take n goes)) a ≡ new_place (gone goes) a
new_place-front goes n a h = new_place-agree (gone (take n goes)) (gone goes) a (λ k l.
    get_or-take n goes k false (omega arith))

abbrev pub number_at : List ℕ → ℕ → ℕ
number_at xs k = get_or xs k 0

pub same_sketch : (xs ys : List SketchAtom) (ps qs : List SketchBond) → xs ≡ ys → ps ≡ qs
    → ◌≡◌ {A = SketchTerm} (record { atoms = xs; bonds = ps }) (record { atoms = ys; bonds = qs })
same_sketch xs ys ps qs e f = λ i. record { atoms = e i; bonds = f i }

pub bonds-in_range : (s : SketchTerm) → IsSound s → All (λ b. (b.a < 999) × (b.b < 999)) s.bonds
bonds-in_range s sound k d h =
    let at = bond-in_graph s.bonds (length s.atoms) k d sound.graph h in
    let few = sound.graph.few_atoms in
    (omega (arith, at.0), omega (arith, at.1))

pub few_at : (s : SketchTerm) → IsSound s → (a : ℕ) → count_by (ends_at a) s.bonds ≤ 12
few_at s sound a = omega (arith, degree_is s.bonds a, sound.graph.few_neighbours a)

pub suppressed-is : (s : SketchTerm) (goes : List Bool) (gains places : List ℕ) (atoms : List SketchAtom)
    (bonds : List SketchBond) → IsSound s → ((a : ℕ) → get_or goes a false ≡ is_suppressed s a)
    → ((a : ℕ) → get_or gains a 0 ≡ count_by (brings (gone goes) a) s.bonds)
    → ((a : ℕ) → a < length s.atoms → get_or places a 0 ≡ new_place (gone goes) a)
    → atoms ≡ staying_atoms (gone goes) (number_at gains) s.atoms → bonds ≡ staying_bonds (gone goes) (number_at places)
    s.bonds → ◌≡◌ {A = SketchTerm} (record { atoms = atoms; bonds = bonds }) (suppressed s)
suppressed-is s goes gains places atoms bonds sound going gaining placing es fs =
    let g : gone goes ≡ is_suppressed s = fun_ext going in
    let n : number_at gains ≡ gained s =
    fun_ext (λ (a : ℕ). gaining a ∙ ap (λ (f : ℕ → Bool). count_by (brings f a) s.bonds) g) in
    same_sketch atoms (suppressed s).atoms bonds (suppressed s).bonds
    (es ∙ ap (λ (f : ℕ → Bool). staying_atoms f (number_at gains) s.atoms) g
    ∙ ap (λ (f : ℕ → ℕ). staying_atoms (is_suppressed s) f s.atoms) n)
    (fs ∙ places-agree (gone goes) (number_at places) (new_place (gone goes)) s.bonds (length s.atoms) (λ k d h.
    let at = bond-in_graph s.bonds (length s.atoms) k d sound.graph h in (at.0, at.1)) placing
    ∙ ap (λ (f : ℕ → Bool). staying_bonds f (new_place f) s.bonds) g)
