-- Paths through an atom are two arms to it.
use Rattle.std.proofs.Common.{ℕ, zero, suc, ◌≤◌, ◌≡◌, ◌≢◌, inl, inr, Bool, List, [], ◌∷◌, ◌++◌, length, reverse, sym, ap, ◌∙◌, append_assoc, lit≤, arith}
use Rattle.std.specs.Prelude.{Some, AllPairs, option_map}
use Rattle.std.proofs.lemmas.List.{length-append, length-reverse, reverse-reverse, reverse-append, get_or_append_left}
use Rattle.std.proofs.lemmas.Option.{same_Some}
use Rattle.chem_core.specs.Bits.{HasBit}
use Rattle.path_print.specs.declared.arms.Arm.{Arm}
use Rattle.path_print.specs.Path.{Family, exact, plain, View, string_of, bit_of, IsPath}
use Rattle.path_print.specs.Texts.{SetsBits}
use Rattle.path_print.specs.Arms.{Joint, through, outward, AreJoints, IsHalf, half_in, atoms_in, IsArm, path_of, AreApart, IsBalanced, IsBitAt}
use Rattle.path_print.proofs.Options.{and_then_some}
use Rattle.path_print.proofs.Strings.{three_steps}
use Rattle.path_print.proofs.Ways.{bit-turn, path_back}
use Rattle.path_print.proofs.Joints.{length_joints, length_atoms, distinct_three, distinct_four, distinct_five}

-- ---- strings of two arms

-- the atoms of a path from its other end
pub turned_path : (xs : List ℕ) (c : ℕ) (ys : List ℕ) → reverse (xs ++ c ∷ reverse ys) ≡ ys ++ c ∷ reverse xs
turned_path xs c ys =
    reverse-append xs (c ∷ reverse ys)
    ∙ ap (λ zs. zs ++ reverse xs) (reverse-append (c ∷ []) (reverse ys) ∙ ap (λ zs. zs ++ c ∷ []) (reverse-reverse ys))
    ∙ append_assoc ys (c ∷ []) (reverse xs)

module _ (v : View) (symmetric : (x y : ℕ) → v.byte x y ≡ v.byte y x) (c : ℕ) (l : ℕ × ℕ)
    (label : v.label c ≡ Some l) where
  string_outward : (ys : List ℕ) (ks : List Joint) → length ys ≤ 2 → AreJoints v c ys ks
      → string_of v (c ∷ reverse ys) ≡ Some (l.0 ∷ l.1 ∷ outward ks)
  string_outward [] [] few joints = ap (option_map (λ l. l.0 ∷ l.1 ∷ [])) label
  string_outward [] (k ∷ ks) few joints = absurd joints
  string_outward (y ∷ []) [] few joints = absurd joints
  string_outward (y ∷ []) (k ∷ []) few joints =
      three_steps (v.label c) (v.byte c y) (string_of v (y ∷ [])) l k.1 (k.0.0 ∷ k.0.1 ∷ []) label
      (symmetric c y ∙ joints.1) (ap (option_map (λ l. l.0 ∷ l.1 ∷ [])) joints.0)
  string_outward (y ∷ []) (k ∷ m ∷ ks) few joints = absurd joints.2
  string_outward (z ∷ y ∷ []) [] few joints = absurd joints
  string_outward (z ∷ y ∷ []) (k ∷ []) few joints = absurd joints.2
  string_outward (z ∷ y ∷ []) (k ∷ m ∷ []) few joints =
      let end = three_steps (v.label y) (v.byte y z) (string_of v (z ∷ [])) m.0 k.1 (k.0.0 ∷ k.0.1 ∷ []) joints.2.0
      (symmetric y z ∙ joints.1) (ap (option_map (λ l. l.0 ∷ l.1 ∷ [])) joints.0) in
      three_steps (v.label c) (v.byte c y) (string_of v (y ∷ z ∷ [])) l m.1
      (m.0.0 ∷ m.0.1 ∷ k.1 ∷ k.0.0 ∷ k.0.1 ∷ []) label
      (symmetric c y ∙ joints.2.1) end
  string_outward (z ∷ y ∷ []) (k ∷ m ∷ n ∷ ks) few joints = absurd joints.2.2
  string_outward (z ∷ y ∷ x ∷ ys) ks few joints = absurd (omega arith)

  string_through : (xs ys : List ℕ) (js ks : List Joint) → length ys ≤ 2 → AreJoints v c xs js → AreJoints v c ys ks
      → string_of v (xs ++ c ∷ reverse ys) ≡ Some (through js l ks)
  string_through [] ys [] ks few first last = string_outward ys ks few last
  string_through [] ys (j ∷ js) ks few first last = absurd first
  string_through (x ∷ xs) ys [] ks few first last = absurd first
  string_through (x ∷ []) ys (j ∷ js) ks few first last =
      three_steps (v.label x) (v.byte x c) (string_of v (c ∷ reverse ys)) j.0 j.1 (through js l ks) first.0 first.1
      (string_through [] ys js ks few first.2 last)
  string_through (x ∷ z ∷ xs) ys (j ∷ js) ks few first last =
      three_steps (v.label x) (v.byte x z) (string_of v (z ∷ xs ++ c ∷ reverse ys)) j.0 j.1 (through js l ks) first.0
      first.1 (string_through (z ∷ xs) ys js ks few first.2 last)

  -- two arms make a path
  pub arms_path : (xs ys : List ℕ) (js ks : List Joint) → length xs ≤ 2 → length ys ≤ 2 → AreJoints v c xs js
      → AreJoints v c ys ks → AllPairs ◌≢◌ (xs ++ c ∷ reverse ys)
      → IsPath v (xs ++ c ∷ reverse ys) (through js l ks) (through ks l js)
  arms_path xs ys js ks fx fy first last distinct = record {
    short = let n = length-append xs (c ∷ reverse ys) in let m = length-reverse ys in omega arith;
    distinct = distinct;
    reads = string_through xs ys js ks fy first last;
    reads_back = ap (string_of v) (turned_path xs c ys) ∙ string_through ys xs ks js fx last first;
  }

-- the arm before an atom of a path
pub joints_before : (v : View) (c : ℕ) (xs ys s : List ℕ) → string_of v (xs ++ c ∷ ys) ≡ Some s
    → (js : List Joint) × AreJoints v c xs js
joints_before v c [] ys s reads = ([], tt)
joints_before v c (x ∷ []) ys s reads =
    let q = and_then_some _ (v.label x) s reads in
    let b = and_then_some _ (v.byte x c) s q.2 in
    ((q.0, b.0) ∷ [], (q.1, b.1, tt))
joints_before v c (x ∷ z ∷ xs) ys s reads =
    let q = and_then_some _ (v.label x) s reads in
    let b = and_then_some _ (v.byte x z) s q.2 in
    let t = and_then_some _ (string_of v (z ∷ xs ++ c ∷ ys)) s b.2 in
    let more = joints_before v c (z ∷ xs) ys t.0 t.1 in
    ((q.0, b.0) ∷ more.0, (q.1, b.1, more.1))

-- the bit of a path is that of its strings
pub record IsPathWith (v : View) (atoms : List ℕ) (x : ℕ) : Type 0 where
  pub there : List ℕ
  pub back : List ℕ
  pub path : IsPath v atoms there back
  pub bit : x ≡ bit_of there back

same_bit : (v : View) (atoms there back : List ℕ) (x bit : ℕ) → IsPathWith v atoms x → IsPath v atoms there back
    → bit ≡ bit_of there back → bit ≡ x
same_bit v atoms there back x bit with path is =
    let a : there ≡ with.there = same_Some there with.there (sym path.reads ∙ with.path.reads) in
    let b : back ≡ with.back = same_Some back with.back (sym path.reads_back ∙ with.path.reads_back) in
    is ∙ ap (λ s. bit_of s back) a ∙ ap (bit_of with.there) b ∙ sym with.bit

-- the bits of both families
pub both_set : (views : Family → View) (atoms : List ℕ) (e p : ℕ) (old between new : List Bool)
    → IsPathWith (views exact) atoms e → IsPathWith (views plain) atoms p → SetsBits (λ bit. bit ≡ e) old between
    → SetsBits (λ bit. bit ≡ p) between new → SetsBits (IsBitAt views atoms) old new
both_set views atoms e p old between new we wp first second = record {
  size = second.size ∙ first.size;
  bits = λ bit. (
    λ h. elim ((second.bits bit).0 h) [
      | inl g ↦ elim ((first.bits bit).0 g) [
        | inl was ↦ inl was
        | inr is ↦ inr (exact, we.there, we.back, we.path, is ∙ we.bit)
      ]
      | inr is ↦ inr (plain, wp.there, wp.back, wp.path, is ∙ wp.bit)
    ],
    λ h. elim h [
      | inl was ↦ (second.bits bit).1 (inl ((first.bits bit).1 (inl was)))
      | inr at ↦ set bit at.0 at.1 at.2 at.3 at.4
    ],
  );
}
  where
    set : (bit : ℕ) (family : Family) (there back : List ℕ) → IsPath (views family) atoms there back
        → bit ≡ bit_of there back → HasBit new bit
    set bit exact there back path is =
        (second.bits bit).1 (inl ((first.bits bit).1 (inr (same_bit (views exact) atoms there back e bit we path is))))
    set bit plain there back path is =
        (second.bits bit).1 (inr (same_bit (views plain) atoms there back p bit wp path is))

-- the bit of a path is that of the path from its other end
pub bit_turned : (views : Family → View) (atoms : List ℕ) (bit : ℕ) → IsBitAt views atoms bit
    → IsBitAt views (reverse atoms) bit
bit_turned views atoms bit at =
    (at.0, at.2, at.1, path_back (views at.0) atoms at.1 at.2 at.3, at.4 ∙ bit-turn at.1 at.2)

-- ---- distinct atoms

pub distinct_front : (xs ys : List ℕ) → AllPairs ◌≢◌ (xs ++ ys) → AllPairs ◌≢◌ xs
distinct_front xs ys distinct i j d lo hi same =
    let more = length-append xs ys in
    distinct i j d lo (omega arith)
    (get_or_append_left xs ys d i (omega arith) ∙ same ∙ sym (get_or_append_left xs ys d j hi))

module _ (views : Family → View) (c : ℕ) (first last : Arm) where
  pub apart_distinct : (before behind : ℕ) → 1 ≤ before → before ≤ 2 → IsBalanced before behind
      → IsArm views c before first → IsArm views c behind last → AreApart first last
      → AllPairs ◌≢◌ (path_of before first c behind last)
  apart_distinct zero behind some few balanced f l apart = absurd (omega arith)
  apart_distinct (suc zero) zero some few balanced f l apart = f.distinct
  apart_distinct (suc zero) (suc zero) some few balanced f l apart =
      distinct_three first.near c last.near (f.distinct 0 1 0 (lit≤ tt) (lit≤ tt)) apart.0
      (λ same. l.distinct 0 1 0 (lit≤ tt) (lit≤ tt) (sym same))
  apart_distinct (suc zero) (suc (suc n)) some few balanced f l apart = absurd (omega arith)
  apart_distinct (suc (suc zero)) zero some few balanced f l apart = absurd (omega arith)
  apart_distinct (suc (suc zero)) (suc zero) some few balanced f l apart =
      distinct_four first.far first.near c last.near (f.distinct 0 1 0 (lit≤ tt) (lit≤ tt))
      (f.distinct 0 2 0 (lit≤ tt) (lit≤ tt)) apart.2
      (distinct_three first.near c last.near (f.distinct 1 2 0 (lit≤ tt) (lit≤ tt)) apart.0
      (λ same. l.distinct 0 1 0 (lit≤ tt) (lit≤ tt) (sym same)))
  apart_distinct (suc (suc zero)) (suc (suc zero)) some few balanced f l apart =
      distinct_five first.far first.near c last.near last.far (f.distinct 0 1 0 (lit≤ tt) (lit≤ tt))
      (f.distinct 0 2 0 (lit≤ tt) (lit≤ tt)) apart.2 apart.3
      (distinct_four first.near c last.near last.far (f.distinct 1 2 0 (lit≤ tt) (lit≤ tt)) apart.0 apart.1
      (distinct_three c last.near last.far (λ same. l.distinct 1 2 0 (lit≤ tt) (lit≤ tt) (sym same))
      (λ same. l.distinct 0 2 0 (lit≤ tt) (lit≤ tt) (sym same))
      (λ same. l.distinct 0 1 0 (lit≤ tt) (lit≤ tt) (sym same))))
  apart_distinct (suc (suc zero)) (suc (suc (suc n))) some few balanced f l apart = absurd (omega arith)
  apart_distinct (suc (suc (suc n))) behind some few balanced f l apart = absurd (omega arith)

  pub distinct_apart : (before behind : ℕ) → 1 ≤ before → before ≤ 2 → IsBalanced before behind
      → IsArm views c before first → IsArm views c behind last
      → AllPairs ◌≢◌ (path_of before first c behind last) → AreApart first last
  distinct_apart zero behind some few balanced f l distinct = absurd (omega arith)
  distinct_apart (suc zero) zero some few balanced f l distinct =
      let apart = f.distinct 0 1 0 (lit≤ tt) (lit≤ tt) in (
        λ same. apart (same ∙ l.shape.0),
        λ same. apart (same ∙ l.shape.1),
        λ same. apart (sym f.shape ∙ same ∙ l.shape.0),
        λ same. apart (sym f.shape ∙ same ∙ l.shape.1),
      )
  distinct_apart (suc zero) (suc zero) some few balanced f l distinct =
      let apart = distinct 0 2 0 (lit≤ tt) (lit≤ tt) in (
        λ same. apart same,
        λ same. apart (same ∙ l.shape),
        λ same. apart (sym f.shape ∙ same),
        λ same. apart (sym f.shape ∙ same ∙ l.shape),
      )
  distinct_apart (suc zero) (suc (suc n)) some few balanced f l distinct = absurd (omega arith)
  distinct_apart (suc (suc zero)) zero some few balanced f l distinct = absurd (omega arith)
  distinct_apart (suc (suc zero)) (suc zero) some few balanced f l distinct =
      let near = distinct 1 3 0 (lit≤ tt) (lit≤ tt) in
      let far = distinct 0 3 0 (lit≤ tt) (lit≤ tt) in (
        λ same. near same,
        λ same. near (same ∙ l.shape),
        λ same. far same,
        λ same. far (same ∙ l.shape),
      )
  distinct_apart (suc (suc zero)) (suc (suc zero)) some few balanced f l distinct = (
    λ same. distinct 1 3 0 (lit≤ tt) (lit≤ tt) same,
    λ same. distinct 1 4 0 (lit≤ tt) (lit≤ tt) same,
    λ same. distinct 0 3 0 (lit≤ tt) (lit≤ tt) same,
    λ same. distinct 0 4 0 (lit≤ tt) (lit≤ tt) same,
  )
  distinct_apart (suc (suc zero)) (suc (suc (suc n))) some few balanced f l distinct = absurd (omega arith)
  distinct_apart (suc (suc (suc n))) behind some few balanced f l distinct = absurd (omega arith)

-- ---- a path that is marked

-- the path of two arms, with its bit
pub path_with : (views : Family → View) → ((family : Family) (x y : ℕ) → (views family).byte x y
    ≡ (views family).byte y x) → (c before behind : ℕ) (first last : Arm) (family : Family) (l : ℕ × ℕ) (x : ℕ)
    → (views family).label c ≡ Some l → before ≤ 2 → behind ≤ 2 → IsArm views c before first → IsArm views c behind last
    → AllPairs ◌≢◌ (path_of before first c behind last) → ((js ks : List Joint) → length js ≡ before
    → length ks ≡ behind → IsHalf js (half_in first family) → IsHalf ks (half_in last family)
    → x ≡ bit_of (through js l ks) (through ks l js))
    → IsPathWith (views family) (path_of before first c behind last) x
path_with views symmetric c before behind first last family l x label fx fy f g distinct value =
    let xs = atoms_in before first in
    let ys = atoms_in behind last in
    let js = f.halves family in
    let ks = g.halves family in
    let sx = length_atoms before first fx in
    let sy = length_atoms behind last fy in
    record {
      there = through js.0 l ks.0;
      back = through ks.0 l js.0;
      path = arms_path (views family) (symmetric family) c l label xs ys js.0 ks.0 (omega arith) (omega arith) js.1 ks.1
          distinct;
      bit = value js.0 ks.0 (length_joints (views family) c xs js.0 js.1 ∙ sx)
          (length_joints (views family) c ys ks.0 ks.1 ∙ sy) js.2 ks.2;
    }
