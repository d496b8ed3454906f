-- The bits of the paths through an atom are those of the arms to it, and all paths go through some atom.
use Rattle.std.proofs.Common.{ℕ, zero, suc, ◌+◌, ◌<◌, ◌≤◌, ◌≡◌, ◌≢◌, ◌⊎◌, inl, inr, Bool, List, [], ◌∷◌, ◌++◌, length, get_or, take, reverse, Contains, refl, sym, ap, ◌∙◌, append_assoc, subst, lit≤, arith}
use Rattle.std.specs.Prelude.{Some, All, AllPairs}
use Rattle.std.proofs.lemmas.Bool.{cases_eq, cases_lt}
use Rattle.std.proofs.lemmas.List.{take_more, get_or-take, get_or_default, length-take-le, length-reverse, reverse-reverse}
use Rattle.std.proofs.lemmas.List.Elements.{Contains-append_left, Contains-push}
use Rattle.std.proofs.Math.Seq.{take-length}
use Rattle.std.proofs.lemmas.Option.{none-some}
use Rattle.chem_core.specs.Bits.{HasBit}
use Rattle.path_print.specs.declared.arms.Arm.{Arm}
use Rattle.path_print.specs.Path.{Family, View, bit_of, IsPath}
use Rattle.path_print.specs.Prints.{HasPathBits}
use Rattle.path_print.specs.Texts.{SetsBits, last_of}
use Rattle.path_print.specs.Arms.{HasArm, through, atoms_in, IsArm, AreArms, path_of, IsBalanced, IsBitOfSome, IsBitAt, IsBitThrough, IsBitAround, IsBitBelow}
use Rattle.path_print.proofs.Carries.{labels_in}
use Rattle.path_print.proofs.Ways.{sets_none, path_back}
use Rattle.path_print.proofs.Joints.{blank, length_atoms, some_more}
use Rattle.path_print.proofs.Paths.{distinct_front, turned_path, joints_before, bit_turned}

-- ---- rows of arms

-- one more of a row
pub some_sets : (F : Arm → ℕ → Type 0) (arms : List Arm) (i : ℕ) (d : Arm) (a b c : List Bool) → i < length arms
    → SetsBits (IsBitOfSome F (take i arms)) a b → SetsBits (F (get_or arms i d)) b c
    → SetsBits (IsBitOfSome F (take (i + 1) arms)) a c
some_sets F arms i d a b c lt first second =
    let split = take_more arms i d lt in
    record {
      size = second.size ∙ first.size;
      bits = λ bit. (
        λ h. elim ((second.bits bit).0 h) [
          | inl g ↦ elim ((first.bits bit).0 g) [
            | inl was ↦ inl was
            | inr some ↦ inr (
              some.0,
              subst (λ xs. Contains xs some.0) (sym split)
                  (Contains-append_left (take i arms) (get_or arms i d ∷ []) some.0 some.1),
              some.2,
            )
          ]
          | inr f ↦ inr (
            get_or arms i d,
            subst (λ xs. Contains xs (get_or arms i d)) (sym split)
                (Contains-push (take i arms) (get_or arms i d)),
            f,
          )
        ],
        λ h. elim h [
          | inl was ↦ (second.bits bit).1 (inl ((first.bits bit).1 (inl was)))
          | inr some ↦ elim (some_more arms i d some.0 lt some.1) [
            | inl before ↦ (second.bits bit).1 (inl ((first.bits bit).1 (inr (some.0, before, some.2))))
            | inr same ↦ (second.bits bit).1 (inr (subst (λ (z : Arm). F z bit) (sym same) some.2))
          ]
        ],
      );
    }

pub some_sets_none : (F : Arm → ℕ → Type 0) (arms : List Arm) (a : List Bool)
    → SetsBits (IsBitOfSome F (take 0 arms)) a a
some_sets_none F arms a = sets_none (IsBitOfSome F (take 0 arms)) a (λ bit some. absurd (omega (arith, some.1.1)))

pub some_sets_all : (F : Arm → ℕ → Type 0) (arms : List Arm) (i : ℕ) (a b : List Bool) → i ≡ length arms
    → SetsBits (IsBitOfSome F (take i arms)) a b → SetsBits (IsBitOfSome F arms) a b
some_sets_all F arms i a b whole sets =
    let all : take i arms ≡ arms = ap (λ n. take n arms) whole ∙ take-length arms in
    subst (λ xs. SetsBits (IsBitOfSome F xs) a b) all sets

-- no place yet
pub sets_next_none : (F : ℕ → ℕ → Type 0) (a : List Bool) → SetsBits (λ bit. (k : ℕ) × (k < 0) × F k bit) a a
sets_next_none F a = sets_none (λ bit. (k : ℕ) × (k < 0) × F k bit) a (λ bit some. absurd (omega (arith, some.1)))

pub sets_then : (F G : ℕ → Type 0) (a b c : List Bool) → SetsBits F a b → SetsBits G b c
    → SetsBits (λ bit. F bit ⊎ G bit) a c
sets_then F G a b c first second = record {
  size = second.size ∙ first.size;
  bits = λ bit. (
    λ h. elim ((second.bits bit).0 h) [
      | inl g ↦ elim ((first.bits bit).0 g) [ inl old ↦ inl old | inr f ↦ inr (inl f) ]
      | inr g ↦ inr (inr g)
    ],
    λ h. elim h [
      | inl old ↦ (second.bits bit).1 (inl ((first.bits bit).1 (inl old)))
      | inr new ↦ elim new [
        | inl f ↦ (second.bits bit).1 (inl ((first.bits bit).1 (inr f)))
        | inr g ↦ (second.bits bit).1 (inr g)
      ]
    ],
  );
}

-- ---- all paths through an atom

turned : (xs : List ℕ) (c : ℕ) (ys : List ℕ) → reverse (xs ++ c ∷ ys) ≡ reverse ys ++ c ∷ reverse xs
turned xs c ys = ap (λ zs. reverse (xs ++ c ∷ zs)) (sym (reverse-reverse ys)) ∙ turned_path xs c (reverse ys)

-- the arm before the middle of a path, and the one behind it
arm_before : (views : Family → View) (c n : ℕ) (row : List Arm) (family : Family) (xs ys there back : List ℕ)
    → AreArms views c n row → length xs ≡ n → IsPath (views family) (xs ++ c ∷ ys) there back → HasArm n row xs
arm_before views c n row family xs ys there back row_is size path =
    let js = joints_before (views family) c xs ys there path.reads in
    let whole : xs ++ c ∷ ys ≡ (xs ++ c ∷ []) ++ ys = sym (append_assoc xs (c ∷ []) ys) in
    row_is.all family xs js.0 size (distinct_front (xs ++ c ∷ []) ys (subst (AllPairs ◌≢◌) whole path.distinct)) js.1

arm_behind : (views : Family → View) (c n : ℕ) (row : List Arm) (family : Family) (xs ys there back : List ℕ)
    → AreArms views c n row → length ys ≡ n → IsPath (views family) (xs ++ c ∷ ys) there back
    → HasArm n row (reverse ys)
arm_behind views c n row family xs ys there back row_is size path =
    arm_before views c n row family (reverse ys) (reverse xs) back there row_is (length-reverse ys ∙ size)
    (subst (λ zs. IsPath (views family) zs back there) (turned xs c ys)
    (path_back (views family) (xs ++ c ∷ ys) there back path))

not_same : (xs : List ℕ) (c : ℕ) (ys : List ℕ) → 1 ≤ length xs → length xs ≤ 2 → length xs ≡ length ys
    → AllPairs ◌≢◌ (xs ++ c ∷ ys) → xs ≡ reverse ys → ⊥
not_same [] c ys some few e distinct same = omega arith
not_same (x ∷ []) c [] some few e distinct same = omega arith
not_same (x ∷ []) c (y ∷ []) some few e distinct same = distinct 0 2 0 (lit≤ tt) (lit≤ tt) (let h = same in cc)
not_same (x ∷ []) c (y ∷ v ∷ ys) some few e distinct same = omega arith
not_same (u ∷ x ∷ []) c [] some few e distinct same = omega arith
not_same (u ∷ x ∷ []) c (y ∷ []) some few e distinct same = omega arith
not_same (u ∷ x ∷ []) c (y ∷ v ∷ []) some few e distinct same =
    distinct 0 4 0 (lit≤ tt) (lit≤ tt) (let h = same in cc)
not_same (u ∷ x ∷ []) c (y ∷ v ∷ w ∷ ys) some few e distinct same = omega arith
not_same (t ∷ u ∷ x ∷ xs) c ys some few e distinct same = omega arith

-- the bit of a path between two arms of a row, of which the first is at one of the first places
abbrev pub IsBitInRow : (Family → View) → ℕ → ℕ → List Arm → ℕ → ℕ → Type 0
IsBitInRow views c n row place bit = (i : ℕ) × (i < place)
    × IsBitOfSome (λ last. IsBitAt views (path_of n (get_or row i blank) c n last)) (take i row) bit

module _ (views : Family → View) (c n : ℕ) (row : List Arm) (few : n ≤ 2) (is : AreArms views c n row) where
  pub row_there : (bit : ℕ) → IsBitInRow views c n row (length row) bit → IsBitThrough views c n n bit
  row_there bit in_row =
      let first : Arm = get_or row in_row.0 blank in
      let last : Arm = in_row.2.0 in (
        atoms_in n first,
        reverse (atoms_in n last),
        length_atoms n first few,
        length-reverse (atoms_in n last) ∙ length_atoms n last few,
        inl refl,
        in_row.2.2,
      )

  in_row : (i k bit : ℕ) (xs zs : List ℕ) → k < i → i < length row → atoms_in n (get_or row i blank) ≡ xs
      → atoms_in n (get_or row k blank) ≡ zs → IsBitAt views (xs ++ c ∷ reverse zs) bit
      → IsBitInRow views c n row (length row) bit
  in_row i k bit xs zs lo hi first last at =
      let one : Arm = get_or row k blank in
      let long : length (take i row) ≡ i = length-take-le i row (omega arith) in (
        i,
        hi,
        (
          one,
          (k, omega arith, get_or-take i row k one lo ∙ get_or_default row k one blank (omega arith)),
          subst (λ zs. IsBitAt views zs bit)
              (ap (λ zs. zs ++ c ∷ reverse (atoms_in n one)) (sym first) ∙ refl)
              (subst (λ ws. IsBitAt views (xs ++ c ∷ reverse ws) bit) (sym last) at),
        ),
      )

  pub row_back : 1 ≤ n → (bit : ℕ) → IsBitThrough views c n n bit → IsBitInRow views c n row (length row) bit
  row_back some bit through =
      let xs : List ℕ = through.0 in
      let ys : List ℕ = through.1 in
      let sx = through.2 in
      let sy = through.3 in
      let at = through.5 in
      let a = arm_before views c n row at.0 xs ys at.1 at.2 is sx at.3 in
      let b = arm_behind views c n row at.0 xs ys at.1 at.2 is sy at.3 in
      let i : ℕ = a.1.0 in
      let k : ℕ = b.1.0 in
      let first : atoms_in n (get_or row i blank) ≡ xs = ap (atoms_in n) (get_or_default row i blank a.0 a.1.1 ∙ a.1.2)
      ∙ a.2 in
      let last : atoms_in n (get_or row k blank) ≡ reverse ys = ap (atoms_in n)
      (get_or_default row k blank b.0 b.1.1 ∙ b.1.2) ∙ b.2 in
      elim (cases_lt k i) [
        | inl lt ↦ in_row i k bit xs (reverse ys) lt a.1.1 first last
            (subst (λ zs. IsBitAt views (xs ++ c ∷ zs) bit) (sym (reverse-reverse ys)) at)
        | inr ge ↦ elim (cases_eq i k) [
          | inl same ↦ absurd (not_same xs c ys (omega arith) (omega arith) (sx ∙ sym sy) at.3.distinct
              (sym first ∙ ap (λ j. atoms_in n (get_or row j blank)) same ∙ last))
          | inr other ↦ in_row k i bit (reverse ys) xs (omega arith) b.1.1 last first
              (subst (λ zs. IsBitAt views zs bit) (turned xs c ys) (bit_turned views (xs ++ c ∷ ys) bit at))
        ]
      ]

last_near : (behind : ℕ) (arm : Arm) → behind ≤ 1 → last_of (atoms_in (behind + 1) arm) ≡ arm.near
last_near zero arm few = refl
last_near (suc zero) arm few = refl
last_near (suc (suc n)) arm few = absurd (omega arith)

-- the bit of a path from a longer arm, if it comes from a lower atom, to one of a row
abbrev pub IsBitFromLower : (Family → View) → ℕ → ℕ → List Arm → Arm → ℕ → Type 0
IsBitFromLower views c behind row first bit = (first.near < c)
    × IsBitOfSome (λ last. IsBitAt views (path_of (behind + 1) first c behind last)) row bit

module _ (views : Family → View) (c behind : ℕ) (longer row : List Arm) (few : behind ≤ 1)
    (are_longer : AreArms views c (behind + 1) longer) (are : AreArms views c behind row) where
  pub lower_there : (bit : ℕ) → IsBitOfSome (IsBitFromLower views c behind row) longer bit
      → IsBitThrough views c (behind + 1) behind bit
  lower_there bit some =
      let first : Arm = some.0 in
      let last : Arm = some.2.1.0 in
      let near = last_near behind first few in (
        atoms_in (behind + 1) first,
        reverse (atoms_in behind last),
        length_atoms (behind + 1) first (omega arith),
        length-reverse (atoms_in behind last) ∙ length_atoms behind last (omega arith),
        inr (subst (λ z. z < c) (sym near) some.2.0),
        some.2.1.2,
      )

  pub lower_back : (bit : ℕ) → IsBitThrough views c (behind + 1) behind bit
      → IsBitOfSome (IsBitFromLower views c behind row) longer bit
  lower_back bit through =
      let xs : List ℕ = through.0 in
      let ys : List ℕ = through.1 in
      let at = through.5 in
      let a = arm_before views c (behind + 1) longer at.0 xs ys at.1 at.2 are_longer through.2 at.3 in
      let b = arm_behind views c behind row at.0 xs ys at.1 at.2 are through.3 at.3 in
      let near : last_of xs ≡ a.0.near = ap last_of (sym a.2) ∙ last_near behind a.0 few in
      let low : a.0.near < c = elim through.4 [
        | inl same ↦ absurd (omega (arith, same))
        | inr lt ↦ subst (λ z. z < c) near lt
      ] in
      let atoms : xs ++ c ∷ ys ≡ path_of (behind + 1) a.0 c behind b.0 = ap (λ zs. zs ++ c ∷ ys) (sym a.2)
      ∙ ap (λ zs. atoms_in (behind + 1) a.0 ++ c ∷ zs) (sym (ap reverse b.2 ∙ reverse-reverse ys)) in
      (a.0, a.1, (low, (b.0, b.1, subst (λ zs. IsBitAt views zs bit) atoms at)))

-- the arm of no atom is all
pub none_all : (views : Family → View) (c : ℕ) (arm : Arm) → IsArm views c 0 arm → AreArms views c 0 (arm ∷ [])
none_all views c arm is = record {
  each = each;
  all = λ family xs js size distinct joints. (arm, (0, lit≤ tt, refl), none xs size);
}
  where
    each : All (IsArm views c 0) (arm ∷ [])
    each zero d lt = is
    each (suc i) d lt = absurd (omega arith)

    none : (xs : List ℕ) → length xs ≡ 0 → [] ≡ xs
    none [] size = refl
    none (x ∷ xs) size = absurd (omega arith)

-- the bits of all paths around an atom
pub around_all : (views : Family → View) (c bit : ℕ) → IsBitAround views c bit
    → IsBitThrough views c 0 0 bit ⊎ (IsBitThrough views c 1 0 bit ⊎ (IsBitThrough views c 1 1 bit
    ⊎ (IsBitThrough views c 2 1 bit ⊎ IsBitThrough views c 2 2 bit)))
around_all views c bit around = at around.0 around.1 around.2 around.3 around.4
  where
    at : (before behind : ℕ) → before ≤ 2 → IsBalanced before behind → IsBitThrough views c before behind bit
        → IsBitThrough views c 0 0 bit ⊎ (IsBitThrough views c 1 0 bit ⊎ (IsBitThrough views c 1 1 bit
        ⊎ (IsBitThrough views c 2 1 bit ⊎ IsBitThrough views c 2 2 bit)))
    at zero zero few balanced h = inl h
    at zero (suc n) few balanced h = absurd (omega arith)
    at (suc zero) zero few balanced h = inr (inl h)
    at (suc zero) (suc zero) few balanced h = inr (inr (inl h))
    at (suc zero) (suc (suc n)) few balanced h = absurd (omega arith)
    at (suc (suc zero)) zero few balanced h = absurd (omega arith)
    at (suc (suc zero)) (suc zero) few balanced h = inr (inr (inr (inl h)))
    at (suc (suc zero)) (suc (suc zero)) few balanced h = inr (inr (inr (inr h)))
    at (suc (suc zero)) (suc (suc (suc n))) few balanced h = absurd (omega arith)
    at (suc (suc (suc m))) n few balanced h = absurd (omega arith)

-- the path of a single atom
pub single_there : (views : Family → View) (c bit : ℕ) → IsBitAt views (c ∷ []) bit → IsBitThrough views c 0 0 bit
single_there views c bit at = ([], [], refl, refl, inl refl, at)

pub single_back : (views : Family → View) (c bit : ℕ) → IsBitThrough views c 0 0 bit → IsBitAt views (c ∷ []) bit
single_back views c bit h = at h.0 h.1 h.2 h.3 h.5
  where
    at : (xs ys : List ℕ) → length xs ≡ 0 → length ys ≡ 0 → IsBitAt views (xs ++ c ∷ ys) bit
        → IsBitAt views (c ∷ []) bit
    at [] [] sx sy h = h
    at [] (y ∷ ys) sx sy h = absurd (omega arith)
    at (x ∷ xs) ys sx sy h = absurd (omega arith)

-- ---- all paths

-- each path is around one of its atoms
path_around : (views : Family → View) (n : ℕ) → ((family : Family) (x : ℕ) (l : ℕ × ℕ) → (views family).label x ≡ Some l
    → x < n) → (family : Family) (atoms there back : List ℕ) (bit : ℕ) → IsPath (views family) atoms there back
    → bit ≡ bit_of there back → IsBitBelow views n bit
path_around views n within family [] there back bit path is = absurd (none-some there path.reads)
path_around views n within family (c ∷ []) there back bit path is =
    let l = labels_in (views family) (c ∷ []) there path.reads 0 0 (lit≤ tt) in
    let at : IsBitAt views (c ∷ []) bit = (family, there, back, path, is) in
    (c, within family c l.0 l.1, (0, 0, lit≤ tt, inl refl, ([], [], refl, refl, inl refl, at)))
path_around views n within family (x ∷ c ∷ []) there back bit path is =
    let at : IsBitAt views (x ∷ c ∷ []) bit = (family, there, back, path, is) in
    let turn : IsBitAt views (c ∷ x ∷ []) bit = bit_turned views (x ∷ c ∷ []) bit at in
    let apart : x ≢ c = path.distinct 0 1 0 (lit≤ tt) (lit≤ tt) in
    let lc = labels_in (views family) (x ∷ c ∷ []) there path.reads 1 0 (lit≤ tt) in
    let lx = labels_in (views family) (x ∷ c ∷ []) there path.reads 0 0 (lit≤ tt) in
    elim (cases_lt x c) [
      | inl lt ↦ (c, within family c lc.0 lc.1, (1, 0, lit≤ tt, inr refl, (x ∷ [], [], refl, refl, inr lt, at)))
      | inr ge ↦ (
        x,
        within family x lx.0 lx.1,
        (
          1,
          0,
          lit≤ tt,
          inr refl,
          (c ∷ [], [], refl, refl, inr (omega arith), turn),
        ),
      )
    ]
path_around views n within family (x ∷ c ∷ y ∷ []) there back bit path is =
    let l = labels_in (views family) (x ∷ c ∷ y ∷ []) there path.reads 1 0 (lit≤ tt) in (
      c,
      within family c l.0 l.1,
      (1, 1, lit≤ tt, inl refl, (x ∷ [], y ∷ [], refl, refl, inl refl, (family, there, back, path, is))),
    )
path_around views n within family (u ∷ x ∷ c ∷ v ∷ []) there back bit path is =
    let at : IsBitAt views (u ∷ x ∷ c ∷ v ∷ []) bit = (family, there, back, path, is) in
    let turn : IsBitAt views (v ∷ c ∷ x ∷ u ∷ []) bit = bit_turned views (u ∷ x ∷ c ∷ v ∷ []) bit at in
    let apart : x ≢ c = path.distinct 1 2 0 (lit≤ tt) (lit≤ tt) in
    let lc = labels_in (views family) (u ∷ x ∷ c ∷ v ∷ []) there path.reads 2 0 (lit≤ tt) in
    let lx = labels_in (views family) (u ∷ x ∷ c ∷ v ∷ []) there path.reads 1 0 (lit≤ tt) in
    elim (cases_lt x c) [
      | inl lt ↦ (
        c,
        within family c lc.0 lc.1,
        (
          2,
          1,
          lit≤ tt,
          inr refl,
          (u ∷ x ∷ [], v ∷ [], refl, refl, inr lt, at),
        ),
      )
      | inr ge ↦ (
        x,
        within family x lx.0 lx.1,
        (
          2,
          1,
          lit≤ tt,
          inr refl,
          (v ∷ c ∷ [], u ∷ [], refl, refl, inr (omega arith), turn),
        ),
      )
    ]
path_around views n within family (u ∷ x ∷ c ∷ y ∷ v ∷ []) there back bit path is =
    let l = labels_in (views family) (u ∷ x ∷ c ∷ y ∷ v ∷ []) there path.reads 2 0 (lit≤ tt) in (
      c,
      within family c l.0 l.1,
      (2, 2, lit≤ tt, inl refl, (u ∷ x ∷ [], y ∷ v ∷ [], refl, refl, inl refl, (family, there, back, path, is))),
    )
path_around views n within family (u ∷ x ∷ c ∷ y ∷ v ∷ w ∷ ws) there back bit path is =
    absurd (let short = path.short in omega arith)

pub around_each : (views : Family → View) (n : ℕ) (empty print : List Bool)
    → ((family : Family) (x : ℕ) (l : ℕ × ℕ) → (views family).label x ≡ Some l → x < n) → length empty ≡ 1024
    → ((bit : ℕ) → HasBit empty bit → ⊥) → SetsBits (IsBitBelow views n) empty print → HasPathBits views print
around_each views n empty print within size none sets = record {
  size = sets.size ∙ size;
  bits = λ bit. (
    λ h. elim ((sets.bits bit).0 h) [
      | inl old ↦ absurd (none bit old)
      | inr new ↦
          let xs : List ℕ = new.2.4.0 in
          let ys : List ℕ = new.2.4.1 in
          let at = new.2.4.5 in
          (at.0, (xs ++ new.0 ∷ ys, at.1, at.2, at.3, at.4))
    ],
    λ h. (sets.bits bit).1 (inr (path_around views n within h.0 h.1.0 h.1.1 h.1.2 bit h.1.3 h.1.4)),
  );
}
