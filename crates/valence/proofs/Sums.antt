-- What is summed up at the ends of bonds.
use Rattle.std.proofs.Common.{ℕ, ◌+◌, ◌*◌, ◌<◌, ◌≤◌, ◌≡◌, ◌≢◌, Bool, true, false, cond, eqb, ◌||◌, ◌&&◌, count_by, List, [], ◌∷◌, length, take, get_or, set, replicate, sum_by, refl, ap, sym, subst, ◌∙◌, inl, inr, arith, Fits, w8}
use Rattle.std.proofs.lemmas.Bool.{cases_eq, cases_lt, eq-eqb, ne_eqb, eqb-true}
use Rattle.std.proofs.lemmas.List.{get_or-set_same, get_or-set_other, length-set, get_or-replicate, get_or_past, length-replicate, length-map, get_or-map}
use Rattle.std.proofs.lemmas.List.Sums.{sum_by-cons, sum_by_more, sum_by_more_le, sum_by-le-sum_by}
use mir.Val.{bool_byte}
use Rattle.chem_core.specs.declared.sketch.SketchBond.{SketchBond}
use Rattle.chem_core.specs.declared.sketch.SketchKind.{SketchKind}
use Rattle.chem_core.specs.declared.sketch.SketchKind.TheVariants.{Unwritten, Single, Double, Triple, Quad, Colon}
use Rattle.chem_core.specs.Graph.{degree, IsSimpleGraph}
use Rattle.chem_core.specs.Sound.{ends_among}
use Rattle.chem_core.specs.Sketch.{ends_at, order_of}
use Rattle.valence.specs.Valence.{adds}
use Rattle.valence.specs.Suppressed.{brings}

pub zeros : (n a : ℕ) → get_or {A = ℕ} (replicate n 0) a 0 ≡ 0
zeros n a = elim (cases_lt a n) [
  | inl h ↦ get_or-replicate {A = ℕ} n a 0 0 h
  | inr h ↦ get_or_past {X = ℕ} (replicate n 0) a 0 (omega (arith, length-replicate {A = ℕ} n 0))
]

-- what a sum has more at a after one more at x and at y
abbrev pub at_ends : ℕ → ℕ → ℕ → ℕ → ℕ → ℕ
at_ends x y m n a = cond (eqb x a) m (cond (eqb y a) n 0)

-- m more at x, and n more at y
abbrev pub bumped : List ℕ → ℕ → ℕ → ℕ → ℕ → List ℕ
bumped xs x y m n = set (set xs x (get_or xs x 0 + m)) y (get_or (set xs x (get_or xs x 0 + m)) y 0 + n)

pub bumped-at : (xs : List ℕ) (x y m n a : ℕ) → x < length xs → y < length xs → x ≢ y → get_or (bumped xs x y m n) a 0
    ≡ get_or xs a 0 + at_ends x y m n a
bumped-at xs x y m n a inx iny apart =
    let first : List ℕ = set xs x (get_or xs x 0 + m) in
    let iny' : y < length first = omega (arith, length-set xs x (get_or xs x 0 + m)) in
    elim (cases_eq y a) [
      | inl e ↦
          let test : eqb y a ≡ true = eq-eqb y a e in
          let other : eqb x a ≡ false = ne_eqb x a (λ h. apart (h ∙ sym e)) in
          let new : get_or (set first y (get_or first y 0 + n)) a 0 ≡ get_or first y 0 + n =
          ap (λ k. get_or (set first y (get_or first y 0 + n)) k 0) (sym e)
          ∙ get_or-set_same first y (get_or first y 0 + n) 0 iny' in
          let kept : get_or first y 0 ≡ get_or xs y 0 = get_or-set_other xs x y (get_or xs x 0 + m) 0
          (λ h. apart (sym h)) in
          let here : get_or xs y 0 ≡ get_or xs a 0 = ap (λ k. get_or xs k 0) e in
          rw (other, test) (new ∙ ap (λ k. k + n) (kept ∙ here))
      | inr ne ↦
          let test : eqb y a ≡ false = ne_eqb y a ne in
          let kept : get_or (set first y (get_or first y 0 + n)) a 0 ≡ get_or first a 0 =
          get_or-set_other first y a (get_or first y 0 + n) 0 (λ h. ne (sym h)) in
          elim (cases_eq x a) [
            | inl e ↦
                let there : eqb x a ≡ true = eq-eqb x a e in
                let new : get_or first a 0 ≡ get_or xs a 0 + m = ap (λ k. get_or first k 0) (sym e)
                ∙ get_or-set_same xs x (get_or xs x 0 + m) 0 inx ∙ ap (λ k. get_or xs k 0 + m) e in
                rw there (kept ∙ new)
            | inr nx ↦
                let there : eqb x a ≡ false = ne_eqb x a nx in
                let old : get_or first a 0 ≡ get_or xs a 0 = get_or-set_other xs x a (get_or xs x 0 + m) 0
                (λ h. nx (sym h)) in
                rw (there, test) (kept ∙ old ∙ omega arith)
          ]
    ]

at_ends-both : (s t : Bool) (n : ℕ) → cond s n (cond t n 0) ≡ cond (s || t) n 0
at_ends-both true t n = refl
at_ends-both false t n = refl

-- the sums of one more bond, which adds m at its one end and n at its other
pub tally-more : (f : ℕ → SketchBond → ℕ) (xs : List ℕ) (bonds : List SketchBond) (i m n : ℕ) (d : SketchBond)
    → i < length bonds → (get_or bonds i d).a < length xs → (get_or bonds i d).b < length xs → (get_or bonds i d).a
    ≢ (get_or bonds i d).b → ((a : ℕ) → at_ends (get_or bonds i d).a (get_or bonds i d).b m n a
    ≡ f a (get_or bonds i d)) → ((a : ℕ) → get_or xs a 0 ≡ sum_by (f a) (take i bonds)) → (a : ℕ)
    → get_or (bumped xs (get_or bonds i d).a (get_or bonds i d).b m n) a 0 ≡ sum_by (f a) (take (i + 1) bonds)
tally-more f xs bonds i m n d h inx iny apart new before a =
    let b : SketchBond = get_or bonds i d in
    bumped-at xs b.a b.b m n a inx iny apart ∙ ap (λ k. k + at_ends b.a b.b m n a) (before a)
    ∙ ap (λ k. sum_by (f a) (take i bonds) + k) (new a) ∙ sym (sum_by_more (f a) bonds i d h)

-- the two sums on the way are within the whole sums
pub tally-first-le : (f : ℕ → SketchBond → ℕ) (xs : List ℕ) (bonds : List SketchBond) (i m n : ℕ) (d : SketchBond)
    → i < length bonds → ((a : ℕ) → at_ends (get_or bonds i d).a (get_or bonds i d).b m n a ≡ f a (get_or bonds i d))
    → ((a : ℕ) → get_or xs a 0 ≡ sum_by (f a) (take i bonds)) → get_or xs (get_or bonds i d).a 0 + m
    ≤ sum_by (f (get_or bonds i d).a) bonds
tally-first-le f xs bonds i m n d h new before =
    let b : SketchBond = get_or bonds i d in
    let test : eqb b.a b.a ≡ true = eq-eqb b.a b.a refl in
    let one : at_ends b.a b.b m n b.a ≡ m = ap (λ t. cond t m (cond (eqb b.b b.a) n 0)) test in
    omega (arith, one, new b.a, before b.a, sum_by_more_le (f b.a) bonds i d h)

pub tally-second-le : (f : ℕ → SketchBond → ℕ) (xs : List ℕ) (bonds : List SketchBond) (i m n : ℕ) (d : SketchBond)
    → i < length bonds → (get_or bonds i d).a ≢ (get_or bonds i d).b
    → ((a : ℕ) → at_ends (get_or bonds i d).a (get_or bonds i d).b m n a ≡ f a (get_or bonds i d))
    → ((a : ℕ) → get_or xs a 0 ≡ sum_by (f a) (take i bonds))
    → get_or (set xs (get_or bonds i d).a (get_or xs (get_or bonds i d).a 0 + m)) (get_or bonds i d).b 0 + n
    ≤ sum_by (f (get_or bonds i d).b) bonds
tally-second-le f xs bonds i m n d h apart new before =
    let b : SketchBond = get_or bonds i d in
    let kept : get_or (set xs b.a (get_or xs b.a 0 + m)) b.b 0 ≡ get_or xs b.b 0 =
    get_or-set_other xs b.a b.b (get_or xs b.a 0 + m) 0 (λ e. apart (sym e)) in
    let other : eqb b.a b.b ≡ false = ne_eqb b.a b.b apart in
    let test : eqb b.b b.b ≡ true = eq-eqb b.b b.b refl in
    let one : at_ends b.a b.b m n b.b ≡ n = ap (λ t. cond t m (cond (eqb b.b b.b) n 0)) other
    ∙ ap (λ t. cond t n 0) test in
    omega (arith, kept, one, new b.b, before b.b, sum_by_more_le (f b.b) bonds i d h)

-- so each sum on the way fits a byte, where the whole sums are at most 12
pub tally-first-fits : (f : ℕ → SketchBond → ℕ) (xs : List ℕ) (bonds : List SketchBond) (i m n : ℕ) (d : SketchBond)
    (x : ℕ) → x ≡ (get_or bonds i d).a → i < length bonds
    → ((a : ℕ) → at_ends (get_or bonds i d).a (get_or bonds i d).b m n a ≡ f a (get_or bonds i d))
    → ((a : ℕ) → get_or xs a 0 ≡ sum_by (f a) (take i bonds)) → ((a : ℕ) → sum_by (f a) bonds ≤ 12)
    → Fits w8 (get_or xs x 0 + m)
tally-first-fits f xs bonds i m n d x is h new before few =
    let le = tally-first-le f xs bonds i m n d h new before in
    rw is (omega (arith, le, few (get_or bonds i d).a))

pub tally-second-fits : (f : ℕ → SketchBond → ℕ) (xs : List ℕ) (bonds : List SketchBond) (i m n : ℕ) (d : SketchBond)
    (x y : ℕ) → x ≡ (get_or bonds i d).a → y ≡ (get_or bonds i d).b → i < length bonds → (get_or bonds i d).a
    ≢ (get_or bonds i d).b → ((a : ℕ) → at_ends (get_or bonds i d).a (get_or bonds i d).b m n a
    ≡ f a (get_or bonds i d)) → ((a : ℕ) → get_or xs a 0 ≡ sum_by (f a) (take i bonds)) → ((a : ℕ)
    → sum_by (f a) bonds ≤ 12) → Fits w8 (get_or (set xs x (get_or xs x 0 + m)) y 0 + n)
tally-second-fits f xs bonds i m n d x y isx isy h apart new before few =
    let le = tally-second-le f xs bonds i m n d h apart new before in
    rw (isx, isy) (omega (arith, le, few (get_or bonds i d).b))

-- what a bond adds, counts and brings, at both ends
pub adds-at : (b : SketchBond) (o : ℕ) → o ≡ order_of b.kind → (a : ℕ) → at_ends b.a b.b o o a ≡ adds a b
adds-at b o is a = at_ends-both (eqb b.a a) (eqb b.b a) o ∙ ap (λ k. cond (eqb b.a a || eqb b.b a) k 0) is

pub ends-at : (x y a : ℕ) → at_ends x y 1 1 a ≡ cond (eqb x a || eqb y a) 1 0
ends-at x y a = at_ends-both (eqb x a) (eqb y a) 1

first_alone : (g h : Bool) → cond {A = ℕ} g 1 0 ≡ cond (g || (false && h)) 1 0
first_alone true h = refl
first_alone false h = refl

one_or_other : (s t g h : Bool) → (s ≡ true → t ≡ true → ⊥) → cond {A = ℕ} s (cond g 1 0) (cond t (cond h 1 0) 0)
    ≡ cond ((s && g) || (t && h)) 1 0
one_or_other true true g h apart = absurd (apart refl refl)
one_or_other true false g h apart = first_alone g h
one_or_other false true g h apart = refl
one_or_other false false g h apart = refl

-- a `bool` as a number
pub byte-is : (t : Bool) → bool_byte t ≡ cond t 1 0
byte-is true = refl
byte-is false = refl

pub brings-at : (goes : ℕ → Bool) (x y m n : ℕ) → x ≢ y → m ≡ bool_byte (goes y) → n ≡ bool_byte (goes x) → (a : ℕ)
    → at_ends x y m n a ≡ cond ((eqb x a && goes y) || (eqb y a && goes x)) 1 0
brings-at goes x y m n apart is0 is1 a =
    ap (λ k. cond (eqb x a) k (cond (eqb y a) n 0)) (is0 ∙ byte-is (goes y))
    ∙ ap (λ k. cond (eqb x a) (cond (goes y) 1 0) (cond (eqb y a) k 0)) (is1 ∙ byte-is (goes x))
    ∙ one_or_other (eqb x a) (eqb y a) (goes y) (goes x) (λ p q. apart (eqb-true x a p ∙ sym (eqb-true y a q)))

brings-le : (s t g h : Bool) → cond {A = ℕ} ((s && g) || (t && h)) 1 0 ≤ cond (s || t) 1 0
brings-le true t true h = omega arith
brings-le true true false true = omega arith
brings-le true true false false = omega arith
brings-le true false false h = omega arith
brings-le false true g true = omega arith
brings-le false true g false = omega arith
brings-le false false g h = omega arith

-- an atom has no more neighbours that go than neighbours
pub brought-le : (goes : ℕ → Bool) (a : ℕ) (bonds : List SketchBond) → count_by (brings goes a) bonds
    ≤ count_by (ends_at a) bonds
brought-le goes a bonds = sum_by-le-sum_by _ _ bonds (λ b. brings-le (eqb b.a a) (eqb b.b a) (goes b.b) (goes b.a))

pub degree_is : (bonds : List SketchBond) (a : ℕ) → degree (ends_among bonds) a ≡ count_by (ends_at a) bonds
degree_is [] a = refl
degree_is (b ∷ bs) a =
    let f : ℕ × ℕ → ℕ = λ e. cond (eqb e.0 a || eqb e.1 a) 1 0 in
    sum_by-cons f (b.a, b.b) (ends_among bs) ∙ ap (λ k. f (b.a, b.b) + k) (degree_is bs a)
    ∙ sym (sum_by-cons (λ b. cond (ends_at a b) 1 0) b bs)

order_of-le : (k : SketchKind) → order_of k ≤ 4
order_of-le Unwritten = omega arith
order_of-le Single = omega arith
order_of-le Double = omega arith
order_of-le Triple = omega arith
order_of-le Quad = omega arith
order_of-le Colon = omega arith

adds-le : (t : Bool) (k : SketchKind) → cond t (order_of k) 0 ≤ 4 * cond t 1 0
adds-le true k = omega (arith, order_of-le k)
adds-le false k = omega arith

pub bond_sum-le : (bonds : List SketchBond) (a : ℕ) → sum_by (adds a) bonds ≤ 4 * degree (ends_among bonds) a
bond_sum-le [] a = omega arith
bond_sum-le (b ∷ bs) a =
    let one : cond (eqb b.a a || eqb b.b a) (order_of b.kind) 0 ≤ 4 * cond (eqb b.a a || eqb b.b a) 1 0 =
    adds-le (eqb b.a a || eqb b.b a) b.kind in
    let f : ℕ × ℕ → ℕ = λ e. cond (eqb e.0 a || eqb e.1 a) 1 0 in
    let left = sum_by-cons (adds a) b bs in
    let right = sum_by-cons f (b.a, b.b) (ends_among bs) in
    omega (arith, bond_sum-le bs a)

pub few_bonds_at : (bonds : List SketchBond) (n : ℕ) → IsSimpleGraph n (ends_among bonds) → (a : ℕ)
    → sum_by (adds a) bonds ≤ 48
few_bonds_at bonds n graph a = omega (arith, bond_sum-le bonds a, graph.few_neighbours a)

-- a bond's ends are two atoms of the graph
pub bond-in_graph : (bonds : List SketchBond) (n i : ℕ) (d : SketchBond) → IsSimpleGraph n (ends_among bonds)
    → i < length bonds → ((get_or bonds i d).a < n) × ((get_or bonds i d).b < n)
    × ((get_or bonds i d).a ≢ (get_or bonds i d).b)
bond-in_graph bonds n i d graph within =
    let within' : i < length (ends_among bonds) = omega (arith, length-map {B = ℕ × ℕ} bonds (λ b. (b.a, b.b))) in
    let read = get_or-map {Y = ℕ × ℕ} (λ b. (b.a, b.b)) bonds i d (0, 0) within in
    let range = graph.in_range i (0, 0) within' in
    let apart = graph.distinct i (0, 0) within' in
    let range' = subst (λ e. (e.0 < n) × (e.1 < n)) read range in
    (range'.0, range'.1, subst (λ e. e.0 ≢ e.1) read apart)
