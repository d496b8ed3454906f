-- Arms of atoms: what an arm to a neighbour is, and one that goes on to the next.
use Rattle.std.proofs.Common.{ℕ, zero, suc, ◌+◌, ◌<◌, ◌≤◌, ◌≡◌, ◌≢◌, ◌⊎◌, inl, inr, List, [], ◌∷◌, ◌++◌, length, get_or, set, take, Contains, refl, sym, ap, ◌∙◌, subst, lit≤, arith}
use Rattle.std.specs.Prelude.{Some, All, AllPairs}
use Rattle.std.proofs.lemmas.List.{take_more, take_more_set}
use Rattle.std.proofs.lemmas.List.Elements.{All-push, All-nil, Contains-push, Contains-append_left, Contains-push_cases}
use Rattle.std.proofs.lemmas.List.Kept.{AllPairs-cons}
use Rattle.std.proofs.lemmas.Option.{slice_get_within, get_or_from_slice_get}
use Rattle.chem_core.specs.Graph.{JoinsAt, AreNeighbours}
use Rattle.chem_core.specs.Molecule.{Molecule, IsMolecule, ends_of}
use Rattle.path_print.specs.declared.arm.Half.{Half}
use Rattle.path_print.specs.declared.arms.Arm.{Arm}
use Rattle.path_print.specs.declared.arms.Labels.{Labels}
use Rattle.path_print.specs.Prints.{molecule_view}
use Rattle.path_print.proofs.Molecules.{byte_neighbour, label_within, molecule_symmetric}
use Rattle.path_print.specs.Path.{Family, exact, plain, View}
use Rattle.path_print.specs.Arms.{HasArm, Joint, IsHalf, IsHalfOf, AreJoints, half_in, atoms_in, IsArm, AreArms, AreLabels}

pub joins_swap : (m : Molecule) (b x y : ℕ) → JoinsAt (ends_of m) b x y → JoinsAt (ends_of m) b y x
joins_swap m b x y joins = elim joins [ inl q ↦ inr q | inr q ↦ inl q ]

-- a bond joins two atoms
pub joined_apart : (m : Molecule) (b x y : ℕ) → IsMolecule m → JoinsAt (ends_of m) b x y → x ≢ y
joined_apart m b x y molecule joins same =
    elim joins [
      | inl q ↦
          let within : b < length (ends_of m) = slice_get_within (ends_of m) b (x, y) q in
          let is = get_or_from_slice_get (ends_of m) b (x, y) (x, y) q in
          molecule.graph.distinct b (x, y) within
          (ap (λ (e : ℕ × ℕ). e.0) is ∙ same ∙ sym (ap (λ (e : ℕ × ℕ). e.1) is))
      | inr q ↦
          let within : b < length (ends_of m) = slice_get_within (ends_of m) b (y, x) q in
          let is = get_or_from_slice_get (ends_of m) b (y, x) (y, x) q in
          molecule.graph.distinct b (y, x) within
          (ap (λ (e : ℕ × ℕ). e.0) is ∙ sym same ∙ sym (ap (λ (e : ℕ × ℕ). e.1) is))
    ]

-- ---- distinct atoms of short lists

none_apart : (x : ℕ) → All (λ y. x ≢ y) []
none_apart x = All-nil (λ y. x ≢ y)

All-cons : (P : ℕ → Type 0) (x : ℕ) (xs : List ℕ) → P x → All P xs → All P (x ∷ xs)
All-cons P x xs here more zero d lt = here
All-cons P x xs here more (suc i) d lt = more i d (omega arith)

pub distinct_one : (x : ℕ) → AllPairs ◌≢◌ (x ∷ [])
distinct_one x i j d lo hi = absurd (omega arith)

pub distinct_two : (x y : ℕ) → x ≢ y → AllPairs ◌≢◌ (x ∷ y ∷ [])
distinct_two x y xy = AllPairs-cons ◌≢◌ x (y ∷ []) (All-cons (λ z. x ≢ z) y [] xy (none_apart x)) (distinct_one y)

pub distinct_three : (x y z : ℕ) → x ≢ y → x ≢ z → y ≢ z → AllPairs ◌≢◌ (x ∷ y ∷ z ∷ [])
distinct_three x y z xy xz yz =
    AllPairs-cons ◌≢◌ x (y ∷ z ∷ [])
    (All-cons (λ w. x ≢ w) y (z ∷ []) xy (All-cons (λ w. x ≢ w) z [] xz (none_apart x))) (distinct_two y z yz)

pub distinct_four : (x y z w : ℕ) → x ≢ y → x ≢ z → x ≢ w → AllPairs ◌≢◌ (y ∷ z ∷ w ∷ [])
    → AllPairs ◌≢◌ (x ∷ y ∷ z ∷ w ∷ [])
distinct_four x y z w xy xz xw more =
    AllPairs-cons ◌≢◌ x (y ∷ z ∷ w ∷ []) (All-cons (λ v. x ≢ v) y (z ∷ w ∷ []) xy
    (All-cons (λ v. x ≢ v) z (w ∷ []) xz (All-cons (λ v. x ≢ v) w [] xw (none_apart x)))) more

pub distinct_five : (x y z w u : ℕ) → x ≢ y → x ≢ z → x ≢ w → x ≢ u → AllPairs ◌≢◌ (y ∷ z ∷ w ∷ u ∷ [])
    → AllPairs ◌≢◌ (x ∷ y ∷ z ∷ w ∷ u ∷ [])
distinct_five x y z w u xy xz xw xu more =
    AllPairs-cons ◌≢◌ x (y ∷ z ∷ w ∷ u ∷ []) (All-cons (λ v. x ≢ v) y (z ∷ w ∷ u ∷ []) xy
    (All-cons (λ v. x ≢ v) z (w ∷ u ∷ []) xz (All-cons (λ v. x ≢ v) w (u ∷ []) xw
    (All-cons (λ v. x ≢ v) u [] xu (none_apart x))))) more

-- ---- arms

pub length_joints : (v : View) (c : ℕ) (xs : List ℕ) (js : List Joint) → AreJoints v c xs js → length js ≡ length xs
length_joints v c [] [] joints = refl
length_joints v c [] (j ∷ js) joints = absurd joints
length_joints v c (x ∷ xs) [] joints = absurd joints
length_joints v c (x ∷ xs) (j ∷ js) joints = let more = length_joints v c xs js joints.2 in omega arith

pub length_atoms : (n : ℕ) (arm : Arm) → n ≤ 2 → length (atoms_in n arm) ≡ n
length_atoms zero arm few = refl
length_atoms (suc zero) arm few = refl
length_atoms (suc (suc zero)) arm few = refl
length_atoms (suc (suc (suc n))) arm few = absurd (omega arith)

pub arm_half : (views : Family → View) (c n : ℕ) (arm : Arm) (family : Family) → n ≤ 2 → IsArm views c n arm
    → IsHalfOf n (half_in arm family)
arm_half views c n arm family few is =
    let h = is.halves family in
    (h.0, length_joints (views family) c (atoms_in n arm) h.0 h.1 ∙ length_atoms n arm few, h.2)

module _ (views : Family → View) (c to byte : ℕ) (labels : Labels) (e p : Half) (new : to ≢ c)
    (named : AreLabels views to labels) where
  pub one_is_arm : ((family : Family) → (views family).byte to c ≡ Some byte)
      → IsHalf ((labels.exact, byte) ∷ []) e → IsHalf ((labels.plain, byte) ∷ []) p
      → IsArm views c 1 (record { near = to; far = to; exact = e; plain = p })
  one_is_arm joined he hp = record {
    distinct = distinct_two to c new;
    shape = refl;
    halves = halves;
  }
    where
      halves : (family : Family) → (js : List Joint) × AreJoints (views family) c (to ∷ []) js
          × IsHalf js (half_in (record { near = to; far = to; exact = e; plain = p }) family)
      halves exact = ((labels.exact, byte) ∷ [], (named exact, joined exact, tt), he)
      halves plain = ((labels.plain, byte) ∷ [], (named plain, joined plain, tt), hp)

  pub two_is_arm : (one : Arm) → IsArm views c 1 one → to ≢ one.near
      → ((family : Family) → (views family).byte to one.near ≡ Some byte)
      → ((j : Joint) → IsHalf (j ∷ []) one.exact → IsHalf ((labels.exact, byte) ∷ j ∷ []) e)
      → ((j : Joint) → IsHalf (j ∷ []) one.plain → IsHalf ((labels.plain, byte) ∷ j ∷ []) p)
      → IsArm views c 2 (record { near = one.near; far = to; exact = e; plain = p })
  two_is_arm one arm apart joined he hp = record {
    distinct = distinct_three to one.near c apart new (arm.distinct 0 1 0 (lit≤ tt) (lit≤ tt));
    shape = tt;
    halves = halves;
  }
    where
      longer : (family : Family) (l : ℕ × ℕ) (was is : Half) → (views family).label to ≡ Some l
          → ((j : Joint) → IsHalf (j ∷ []) was → IsHalf ((l, byte) ∷ j ∷ []) is) → (js : List Joint)
          → AreJoints (views family) c (one.near ∷ []) js → IsHalf js was
          → (ks : List Joint) × AreJoints (views family) c (to ∷ one.near ∷ []) ks × IsHalf ks is
      longer family l was is label more [] joints half = absurd joints
      longer family l was is label more (j ∷ []) joints half =
          ((l, byte) ∷ j ∷ [], (label, joined family, joints), more j half)
      longer family l was is label more (j ∷ k ∷ js) joints half = absurd joints.2

      halves : (family : Family) → (js : List Joint) × AreJoints (views family) c (to ∷ one.near ∷ []) js
          × IsHalf js (half_in (record { near = one.near; far = to; exact = e; plain = p }) family)
      halves exact =
          let h = arm.halves exact in
          longer exact labels.exact one.exact e (named exact) he h.0 h.1 h.2
      halves plain =
          let h = arm.halves plain in
          longer plain labels.plain one.plain p (named plain) hp h.0 h.1 h.2

-- ---- arms that are gathered

pub push_each : (views : Family → View) (c n : ℕ) (arms : List Arm) (count : ℕ) (arm : Arm) → count < length arms
    → All (IsArm views c n) (take count arms) → IsArm views c n arm
    → All (IsArm views c n) (take (count + 1) (set arms count arm))
push_each views c n arms count arm room each is =
    subst (All (IsArm views c n)) (sym (take_more_set arms count arm room))
    (All-push (IsArm views c n) (take count arms) arm each is)

pub push_keeps : (arms : List Arm) (count : ℕ) (arm other : Arm) → count < length arms
    → Contains (take count arms) other → Contains (take (count + 1) (set arms count arm)) other
push_keeps arms count arm other room there =
    subst (λ xs. Contains xs other) (sym (take_more_set arms count arm room))
    (Contains-append_left (take count arms) (arm ∷ []) other there)

pub push_there : (arms : List Arm) (count : ℕ) (arm : Arm) → count < length arms
    → Contains (take (count + 1) (set arms count arm)) arm
push_there arms count arm room =
    subst (λ xs. Contains xs arm) (sym (take_more_set arms count arm room)) (Contains-push (take count arms) arm)

pub reaches_more : (n : ℕ) (arms more : List Arm) (xs : List ℕ)
    → ((arm : Arm) → Contains arms arm → Contains more arm) → HasArm n arms xs → HasArm n more xs
reaches_more n arms more xs keeps r = (r.0, keeps r.0 r.1, r.2)

pub reaches_there : (n : ℕ) (arms : List Arm) (arm : Arm) (xs : List ℕ) → Contains arms arm → atoms_in n arm ≡ xs
    → HasArm n arms xs
reaches_there n arms arm xs there is = (arm, there, is)

-- what stands behind a list of arms
abbrev pub blank : Arm
blank = record {
  near = 0;
  far = 0;
  exact = record { number = 0; head = 0; tail = 0 };
  plain = record { number = 0; head = 0; tail = 0 };
}

-- one of the arms so far, or the next
pub some_more : (arms : List Arm) (i : ℕ) (d one : Arm) → i < length arms → Contains (take (i + 1) arms) one
    → Contains (take i arms) one ⊎ (get_or arms i d ≡ one)
some_more arms i d one lt there =
    Contains-push_cases (take i arms) (get_or arms i d) one
    (subst (λ xs. Contains xs one) (take_more arms i d lt) there)

module _ (m : Molecule) (family : Family) (c : ℕ) (arms : List Arm) (pairs : List (ℕ × ℕ)) where
  -- the arms to all neighbours
  pub ones_all : AreNeighbours (ends_of m) c pairs
      → ((k : ℕ) → k < length pairs → HasArm 1 arms ((get_or pairs k (0, 0)).0 ∷ []))
      → (xs : List ℕ) (js : List Joint) → length xs ≡ 1 → AreJoints (molecule_view m family) c xs js → HasArm 1 arms xs
  ones_all neighbours reached [] js size joints = absurd (omega arith)
  ones_all neighbours reached (y ∷ []) [] size joints = absurd joints
  ones_all neighbours reached (y ∷ []) (j ∷ js) size joints =
      let k = byte_neighbour m family c y j.1 pairs neighbours (molecule_symmetric m family c y ∙ joints.1) in
      subst (λ z. HasArm 1 arms (z ∷ [])) k.2 (reached k.0 k.1)
  ones_all neighbours reached (x ∷ y ∷ xs) js size joints = absurd (omega arith)

  -- and those that go on from one
  pub behind_all : (near : ℕ) → AreNeighbours (ends_of m) near pairs
      → ((k : ℕ) → k < length pairs → (get_or pairs k (0, 0)).0 ≢ c
      → HasArm 2 arms ((get_or pairs k (0, 0)).0 ∷ near ∷ []))
      → (z : ℕ) (js : List Joint) → AllPairs ◌≢◌ (z ∷ near ∷ c ∷ [])
      → AreJoints (molecule_view m family) c (z ∷ near ∷ []) js → HasArm 2 arms (z ∷ near ∷ [])
  behind_all near neighbours reached z [] distinct joints = absurd joints
  behind_all near neighbours reached z (j ∷ js) distinct joints =
      let k = byte_neighbour m family near z j.1 pairs neighbours (molecule_symmetric m family near z ∙ joints.1) in
      let apart : z ≢ c = distinct 0 2 0 (lit≤ tt) (lit≤ tt) in
      subst (λ y. HasArm 2 arms (y ∷ near ∷ [])) k.2 (reached k.0 k.1 (λ same. apart (sym k.2 ∙ same)))

-- the atom of an arm is one of the molecule's
pub near_within : (m : Molecule) (c : ℕ) (one : Arm) → IsArm (molecule_view m) c 1 one → one.near < length m.atoms
near_within m c one is = at (is.halves exact).0 (is.halves exact).1
  where
    at : (js : List Joint) → AreJoints (molecule_view m exact) c (one.near ∷ []) js → one.near < length m.atoms
    at [] joints = absurd joints
    at (j ∷ js) joints = label_within m exact one.near j.0 joints.0

-- the arms of two atoms, where all are there that go on from each of one
pub twos_all : (views : Family → View) (c : ℕ) (ones arms : List Arm) → AreArms views c 1 ones
    → ((one : Arm) → Contains ones one → (family : Family) (z : ℕ) (js : List Joint)
    → AllPairs ◌≢◌ (z ∷ one.near ∷ c ∷ []) → AreJoints (views family) c (z ∷ one.near ∷ []) js
    → HasArm 2 arms (z ∷ one.near ∷ []))
    → (family : Family) (xs : List ℕ) (js : List Joint) → length xs ≡ 2 → AllPairs ◌≢◌ (xs ++ c ∷ [])
    → AreJoints (views family) c xs js → HasArm 2 arms xs
twos_all views c ones arms all behind family [] js size distinct joints = absurd (omega arith)
twos_all views c ones arms all behind family (z ∷ []) js size distinct joints = absurd (omega arith)
twos_all views c ones arms all behind family (z ∷ y ∷ []) [] size distinct joints = absurd joints
twos_all views c ones arms all behind family (z ∷ y ∷ []) (j ∷ js) size distinct joints =
    let two = distinct_two y c (distinct 1 2 0 (lit≤ tt) (lit≤ tt)) in
    let r = all.all family (y ∷ []) js refl two joints.2 in
    let same : r.0.near ≡ y = let h = r.2 in cc in
    subst (λ w. AllPairs ◌≢◌ (z ∷ w ∷ c ∷ []) → AreJoints (views family) c (z ∷ w ∷ []) (j ∷ js)
    → HasArm 2 arms (z ∷ w ∷ [])) same (behind r.0 r.1 family z (j ∷ js)) distinct joints
twos_all views c ones arms all behind family (z ∷ y ∷ x ∷ xs) js size distinct joints = absurd (omega arith)
