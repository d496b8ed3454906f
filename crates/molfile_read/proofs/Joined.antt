-- Which atoms the bonds join.
use Rattle.std.proofs.Common.{◌≡◌, ◌≢◌, ℕ, zero, suc, ◌<◌, ◌≤◌, inl, inr, Bool, true, false, cond, ◌==◌, ◌||◌, ◌&&◌, List, [], ◌∷◌, ◌++◌, length, Option, Some, refl, sym, ◌∙◌, ap, arith, subst}
use Rattle.std.proofs.lemmas.Bool.{cases_lt, eqb-true}
use Rattle.std.proofs.lemmas.Bool.Decides.{nat_tests}
use Rattle.std.proofs.lemmas.List.{length-map}
use Rattle.std.proofs.lemmas.List.Folds.{list_any-append}
use Rattle.std.proofs.lemmas.List.Elements.{All-from_recursion}
use Rattle.std.specs.List.{All, AllByRecursion}
use Rattle.std.specs.Prelude.{nat_lt}
use Rattle.chem_core.specs.declared.sketch.SketchKind.TheVariants.{Colon}
use Rattle.chem_core.specs.declared.sketch.SketchAtom.{SketchAtom}
use Rattle.chem_core.specs.declared.sketch.SketchBond.{SketchBond}
use Rattle.chem_core.specs.Graph.{JoinsAt, degree}
use Rattle.chem_core.specs.Sound.{IsSketchAtom, IsSound, ends_among}
use Rattle.molfile_read.specs.Bonds.{are_joined}
use Rattle.molfile_read.specs.Parts.{IsKind, JoinsTwo, AreOnce, AreBondsAmong, ordered_ends}

abbrev joins : SketchBond → ℕ → ℕ → Bool
joins x a b = ((x.a == a) && (x.b == b)) || ((x.a == b) && (x.b == a))

agree : (m : ℕ) → (m == m) ≡ true
agree m = grind (arith, nat_tests)

swap : (m n : ℕ) → (m == n) ≡ (n == m)
swap m n = grind (arith, nat_tests)

lt_true : (a b : ℕ) → a < b → nat_lt a b ≡ true
lt_true a b h = grind (arith, nat_tests)

lt_false : (a b : ℕ) → b ≤ a → nat_lt a b ≡ false
lt_false a b h = grind (arith, nat_tests)

or_swap : (u v : Bool) → (u || v) ≡ (v || u)
or_swap true true = refl
or_swap true false = refl
or_swap false true = refl
or_swap false false = refl

and_swap : (u v : Bool) → (u && v) ≡ (v && u)
and_swap true true = refl
and_swap true false = refl
and_swap false true = refl
and_swap false false = refl

and_none : (u v : Bool) → (u ≡ true → v ≡ true → ⊥) → (u && v) ≡ false
and_none true true h = absurd (h refl refl)
and_none true false h = refl
and_none false v h = refl

or_none : (u : Bool) → (u || false) ≡ u
or_none true = refl
or_none false = refl

or_false : (u v : Bool) → (u || v) ≡ false → (u ≡ false) × (v ≡ false)
or_false true v h = absurd (cc)
or_false false v h = (refl, h)

or_nothing : (u v : Bool) → u ≡ false → v ≡ false → (u || (v || false)) ≡ false
or_nothing u v p q = ap (λ w. w || (v || false)) p ∙ ap (λ w. w || false) q

-- a bond joins in both directions
pub joined_turned : (bonds : List SketchBond) (a b : ℕ) → are_joined bonds a b ≡ are_joined bonds b a
joined_turned [] a b = refl
joined_turned (x ∷ xs) a b =
    ap (λ w. w || are_joined xs a b) (or_swap ((x.a == a) && (x.b == b)) ((x.a == b) && (x.b == a)))
    ∙ ap (λ w. joins x b a || w) (joined_turned xs a b)

abbrev pub lower : ℕ → ℕ → ℕ
lower a b = (ordered_ends a b).0

abbrev pub higher : ℕ → ℕ → ℕ
higher a b = (ordered_ends a b).1

ends_first : (a b : ℕ) → a < b → ordered_ends a b ≡ (a, b)
ends_first a b h = ap (λ t. cond t (a, b) (b, a)) (lt_true a b h)

ends_turned : (a b : ℕ) → b ≤ a → ordered_ends a b ≡ (b, a)
ends_turned a b h = ap (λ t. cond t (a, b) (b, a)) (lt_false a b h)

pub lower-higher : (a b : ℕ) → a ≢ b → lower a b < higher a b
lower-higher a b ne = elim (cases_lt a b) [
  | inl h ↦ let e = ends_first a b h in let p = ap (λ (q : ℕ × ℕ). q.0) e in let r = ap (λ (q : ℕ × ℕ). q.1) e in
      omega arith
  | inr h ↦ let e = ends_turned a b h in let p = ap (λ (q : ℕ × ℕ). q.0) e in let r = ap (λ (q : ℕ × ℕ). q.1) e in
      omega arith
]

pub joined_ordered : (bonds : List SketchBond) (a b : ℕ) → are_joined bonds (lower a b) (higher a b)
    ≡ are_joined bonds a b
joined_ordered bonds a b = elim (cases_lt a b) [
  | inl h ↦ ap (λ (q : ℕ × ℕ). are_joined bonds q.0 q.1) (ends_first a b h)
  | inr h ↦ ap (λ (q : ℕ × ℕ). are_joined bonds q.0 q.1) (ends_turned a b h) ∙ joined_turned bonds b a
]

-- a bond joins two atoms in order where these are its ends in order
joins_ordered : (z : SketchBond) (a b : ℕ) → a < b → joins z a b ≡ ((lower z.a z.b == a) && (higher z.a z.b == b))
joins_ordered z a b lt = elim (cases_lt z.a z.b) [
  | inl h ↦
      let not_turned : ((z.a == b) && (z.b == a)) ≡ false = and_none (z.a == b) (z.b == a) (λ p q. let e =
      eqb-true z.a b p in let f = eqb-true z.b a q in omega arith) in
      ap (λ w. ((z.a == a) && (z.b == b)) || w) not_turned ∙ or_none ((z.a == a) && (z.b == b))
      ∙ sym (ap (λ (q : ℕ × ℕ). (q.0 == a) && (q.1 == b)) (ends_first z.a z.b h))
  | inr h ↦
      let not_first : ((z.a == a) && (z.b == b)) ≡ false = and_none (z.a == a) (z.b == b) (λ p q. let e =
      eqb-true z.a a p in let f = eqb-true z.b b q in omega arith) in
      ap (λ w. w || ((z.a == b) && (z.b == a))) not_first ∙ and_swap (z.a == b) (z.b == a)
      ∙ sym (ap (λ (q : ℕ × ℕ). (q.0 == a) && (q.1 == b)) (ends_turned z.a z.b h))
]

one_more : (t x : Bool) → cond t true x ≡ (x || (t || false))
one_more true true = refl
one_more true false = refl
one_more false true = refl
one_more false false = refl

-- what the keys of the bonds so far say, and one bond more
pub joined_more : (old new : ℕ → ℕ → Bool) (bonds : List SketchBond) (z : SketchBond)
    → ((a b : ℕ) → a < b → old a b ≡ are_joined bonds a b)
    → ((a b : ℕ) → new a b ≡ cond ((lower z.a z.b == a) && (higher z.a z.b == b)) true (old a b)) → (a b : ℕ) → a < b
    → new a b ≡ are_joined (bonds ++ z ∷ []) a b
joined_more old new bonds z so step a b lt =
    step a b ∙ one_more ((lower z.a z.b == a) && (higher z.a z.b == b)) (old a b)
    ∙ ap (λ w. w || (((lower z.a z.b == a) && (higher z.a z.b == b)) || false)) (so a b lt)
    ∙ sym (list_any-append (λ x. joins x a b) bonds (z ∷ []) ∙ ap (λ w. are_joined bonds a b || (w || false))
    (joins_ordered z a b lt))

or_comm : (u v w x : Bool) → ((u && v) || (w && x)) ≡ ((u && v) || (x && w))
or_comm u v w x = ap (λ t. (u && v) || t) (and_swap w x)

joins_swapped : (x z : SketchBond) → joins z x.a x.b ≡ joins x z.a z.b
joins_swapped x z =
    ap (λ w. (w && (z.b == x.b)) || ((z.a == x.b) && (z.b == x.a))) (swap z.a x.a)
    ∙ ap (λ w. ((x.a == z.a) && w) || ((z.a == x.b) && (z.b == x.a))) (swap z.b x.b)
    ∙ ap (λ w. ((x.a == z.a) && (x.b == z.b)) || (w && (z.b == x.a))) (swap z.a x.b)
    ∙ ap (λ w. ((x.a == z.a) && (x.b == z.b)) || ((x.b == z.a) && w)) (swap z.b x.a)
    ∙ or_comm (x.a == z.a) (x.b == z.b) (x.b == z.a) (x.a == z.b)

pub once_push : (xs : List SketchBond) (z : SketchBond) → AreOnce xs → are_joined xs z.a z.b ≡ false
    → AreOnce (xs ++ z ∷ [])
once_push [] z h j = (refl, tt)
once_push (x ∷ xs) z h j =
    let p = or_false (joins x z.a z.b) (are_joined xs z.a z.b) j in (
      list_any-append (λ y. joins y x.a x.b) xs (z ∷ []) ∙ or_nothing (are_joined xs x.a x.b) (joins z x.a x.b) h.0
          (joins_swapped x z ∙ p.0),
      once_push xs z h.1 p.1,
    )

or_true : (b : Bool) → (b || true) ≡ true
or_true true = refl
or_true false = refl

joins_itself : (z : SketchBond) (x y : ℕ) → z.a ≡ x → z.b ≡ y → joins z x y ≡ true
joins_itself z x y e f =
    sym (ap (λ w. joins z w y) e) ∙ sym (ap (λ w. joins z z.a w) f)
    ∙ ap (λ w. (w && (z.b == z.b)) || ((z.a == z.b) && (z.b == z.a))) (agree z.a)
    ∙ ap (λ w. (true && w) || ((z.a == z.b) && (z.b == z.a))) (agree z.b)

joins_turned : (z : SketchBond) (x y : ℕ) → z.a ≡ y → z.b ≡ x → joins z x y ≡ true
joins_turned z x y e f =
    sym (ap (λ w. joins z w y) f) ∙ sym (ap (λ w. joins z z.b w) e)
    ∙ ap (λ w. ((z.a == z.b) && (z.b == z.a)) || (w && (z.b == z.b))) (agree z.a)
    ∙ ap (λ w. ((z.a == z.b) && (z.b == z.a)) || (true && w)) (agree z.b) ∙ or_true ((z.a == z.b) && (z.b == z.a))

pair_parts : (a b x y : ℕ) → ◌≡◌ {A = Option (ℕ × ℕ)} (Some (a, b)) (Some (x, y)) → (a ≡ x) × (b ≡ y)
pair_parts a b x y h = let p : ◌≡◌ {A = ℕ × ℕ} (a, b) (x, y) = cc in
    (ap (λ (q : ℕ × ℕ). q.0) p, ap (λ (q : ℕ × ℕ). q.1) p)

joined_at : (xs : List SketchBond) (c x y : ℕ) → JoinsAt (ends_among xs) c x y → are_joined xs x y ≡ true
joined_at [] c x y (inl h) = absurd (cc)
joined_at [] c x y (inr h) = absurd (cc)
joined_at (z ∷ xs) zero x y (inl h) = let p = pair_parts z.a z.b x y h in
    ap (λ w. w || are_joined xs x y) (joins_itself z x y p.0 p.1)
joined_at (z ∷ xs) zero x y (inr h) = let p = pair_parts z.a z.b y x h in
    ap (λ w. w || are_joined xs x y) (joins_turned z x y p.0 p.1)
joined_at (z ∷ xs) (suc c) x y h = ap (λ w. joins z x y || w) (joined_at xs c x y h) ∙ or_true (joins z x y)

turned : (xs : List SketchBond) (c x y : ℕ) → JoinsAt (ends_among xs) c x y → JoinsAt (ends_among xs) c y x
turned xs c x y (inl h) = inr h
turned xs c x y (inr h) = inl h

head_once : (z : SketchBond) (xs : List SketchBond) (c x y : ℕ) → are_joined xs z.a z.b ≡ false
    → JoinsAt (ends_among (z ∷ xs)) 0 x y → JoinsAt (ends_among xs) c x y → ⊥
head_once z xs c x y free (inl h) j =
    let p = pair_parts z.a z.b x y h in
    let t = joined_at xs c x y j in
    let f : are_joined xs x y ≡ false = sym (ap (λ w. are_joined xs w z.b) p.0 ∙ ap (λ w. are_joined xs x w) p.1)
    ∙ free in
    cc
head_once z xs c x y free (inr h) j =
    let p = pair_parts z.a z.b y x h in
    let t = joined_at xs c y x (turned xs c x y j) in
    let f : are_joined xs y x ≡ false = sym (ap (λ w. are_joined xs w z.b) p.0 ∙ ap (λ w. are_joined xs y w) p.1)
    ∙ free in
    cc

once_at : (xs : List SketchBond) → AreOnce xs → (b c x y : ℕ) → JoinsAt (ends_among xs) b x y
    → JoinsAt (ends_among xs) c x y → b ≡ c
once_at [] h b c x y (inl i) j = absurd (cc)
once_at [] h b c x y (inr i) j = absurd (cc)
once_at (z ∷ xs) h zero zero x y i j = refl
once_at (z ∷ xs) h zero (suc c) x y i j = absurd (head_once z xs c x y h.0 i j)
once_at (z ∷ xs) h (suc b) zero x y i j = absurd (head_once z xs b x y h.0 j i)
once_at (z ∷ xs) h (suc b) (suc c) x y i j = ap (λ n. suc n) (once_at xs h.1 b c x y i j)

all_ends : (P : ℕ × ℕ → Type 0) (n : ℕ) (xs : List SketchBond) → ((x : SketchBond) → JoinsTwo n x → P (x.a, x.b))
    → AllByRecursion (JoinsTwo n) xs → AllByRecursion P (ends_among xs)
all_ends P n [] k h = tt
all_ends P n (x ∷ xs) k h = (k x h.0, all_ends P n xs k h.1)

-- each bond joins two of the atoms
pub apart : (n : ℕ) (xs : List SketchBond) → AllByRecursion (JoinsTwo n) xs
    → AllByRecursion (λ b. (b.a < n) × (b.b < n) × (b.a ≢ b.b)) xs
apart n [] h = tt
apart n (x ∷ xs) h = ((h.0.0, h.0.1, h.0.2), apart n xs h.1)

-- such atoms and bonds are a sound sketch
pub sound_sketch : (atoms : List SketchAtom) (bonds : List SketchBond) → AreBondsAmong (length atoms) bonds
    → All IsSketchAtom atoms → length atoms ≤ 999 → length bonds ≤ 999
    → ((a : ℕ) → degree (ends_among bonds) a ≤ 12) → IsSound (record { atoms = atoms; bonds = bonds })
sound_sketch atoms bonds among each la lb few =
    let n = length atoms in
    record {
      graph = record {
        few_atoms = la;
        few_bonds = let l = length-map {B = ℕ × ℕ} bonds (λ (b : SketchBond). (b.a, b.b)) in omega (arith, l);
        few_neighbours = few;
        in_range = All-from_recursion (λ e. (e.0 < n) × (e.1 < n)) (ends_among bonds)
            (all_ends (λ e. (e.0 < n) × (e.1 < n)) n bonds (λ x h. (h.0, h.1)) among.0);
        distinct = All-from_recursion (λ e. e.0 ≢ e.1) (ends_among bonds)
            (all_ends (λ e. e.0 ≢ e.1) n bonds (λ x h. h.2) among.0);
        once = once_at bonds among.1;
      };
      each = each;
    }

no_colon : (n : ℕ) (xs : List SketchBond) → AllByRecursion (JoinsTwo n) xs
    → AllByRecursion (λ (x : SketchBond). x.kind ≢ Colon) xs
no_colon n [] h = tt
no_colon n (x ∷ xs) h = (λ e. subst IsKind e h.0.3, no_colon n xs h.1)

-- such bonds are not `:`
pub no_colons : (n : ℕ) (bonds : List SketchBond) → AllByRecursion (JoinsTwo n) bonds → All (λ b. b.kind ≢ Colon) bonds
no_colons n bonds h = All-from_recursion (λ b. b.kind ≢ Colon) bonds (no_colon n bonds h)
