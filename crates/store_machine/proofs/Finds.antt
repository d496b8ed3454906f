-- Records that are found: they ascend, they are one list, and those that match are the hits.
use Rattle.std.proofs.Common.{◌≡◌, ◌+◌, ◌<◌, ◌≤◌, ◌∙◌, ap, arith, Bool, Contains, inl, inr, List, [], ◌∷◌, refl, subst, sym, ℕ}
use Rattle.std.specs.List.Sorted.{IsStrictlyIncreasing}
use Rattle.chem_core.specs.Molecule.{IsMolecule, Molecule}
use Rattle.mol_finish.specs.Structure.{HasMolecule}
use Rattle.mol_finish.specs.declared.fault.Format.{Format}
use Rattle.smarts_parse.specs.Pattern.{PatternTerm}
use Rattle.store_machine.specs.Answers.{AreFound, AreHits, AreMatched, ids}
use Rattle.store_machine.specs.History.{IsHistory, Snapshot, snapshot}
use Rattle.store_machine.specs.Structures.{IsMatched, IsScreened, Screens}
use Rattle.store_machine.specs.declared.machine.Found.{Found}
use Rattle.store_machine.specs.declared.machine.History.{History}
use Rattle.store_machine.specs.declared.machine.Status.TheVariants.{Live}
use Rattle.store_machine.proofs.Ascending.{Ascends}
use Rattle.store_machine.proofs.Made.{state-valid}
use Rattle.store_machine.proofs.Members.{contains-here, contains-split, contains-there}
use Rattle.store_machine.proofs.Picks.{Picks, increasing-behind, picked-answers}

-- the first is not before this identifier
abbrev pub Starts : ℕ → List Found → Type 0
Starts a [] = Unit {0}
Starts a (r ∷ rs) = a ≤ r.id

pub increasing-Ascends : (a : ℕ) (rs : List Found) → Starts a rs → IsStrictlyIncreasing (ids rs) → Ascends a rs
increasing-Ascends a [] starts up = tt
increasing-Ascends a (r ∷ []) starts up = (starts, tt)
increasing-Ascends a (r ∷ q ∷ qs) starts up =
    let first : r.id < q.id = up 0 (omega arith) in
    (starts, increasing-Ascends (r.id + 1) (q ∷ qs) (omega (arith, first)) (increasing-behind r.id q.id (ids qs) up))

pub above : (a : ℕ) (rs : List Found) (r : Found) → Ascends a rs → Contains rs r → a ≤ r.id
above a [] r h c = absurd (omega (arith, c.1))
above a (q ∷ qs) r h c =
    elim (contains-split q r qs c) [
      | inl e ↦ subst (λ (x : Found). a ≤ x.id) e h.0
      | inr d ↦ omega (arith, h.0, above (q.id + 1) qs r h.1 d)
    ]

-- lists that ascend and have the same members are one
first-same : (x y : Found) (xs ys : List Found) → Ascends (x.id + 1) xs → Ascends (y.id + 1) ys → Contains (y ∷ ys) x
    → Contains (x ∷ xs) y → x ≡ y
first-same x y xs ys up vp c d =
    elim (contains-split y x ys c) [
      | inl e ↦ sym e
      | inr behind-y ↦ elim (contains-split x y xs d) [
        | inl e ↦ e
        | inr behind-x ↦ absurd (omega (arith, above (y.id + 1) ys x vp behind-y, above (x.id + 1) xs y up behind-x))
      ]
    ]

tail-has : (x y r : Found) (ys : List Found) → x ≡ y → x.id + 1 ≤ r.id → Contains (y ∷ ys) r → Contains ys r
tail-has x y r ys same late c =
    elim (contains-split y r ys c) [
      | inl e ↦ absurd (omega (arith, late, ap (λ (z : Found). z.id) (same ∙ e)))
      | inr d ↦
          d
    ]

none-in : (r : Found) → Contains [] r → ⊥
none-in r c = omega (arith, c.1)

pub one-list : (a b : ℕ) (xs ys : List Found) → Ascends a xs → Ascends b ys
    → ((r : Found) → Contains xs r → Contains ys r) → ((r : Found) → Contains ys r → Contains xs r) → xs ≡ ys
one-list a b [] [] up vp to from = refl
one-list a b [] (y ∷ ys) up vp to from = absurd (none-in y (from y (contains-here y y ys refl)))
one-list a b (x ∷ xs) [] up vp to from = absurd (none-in x (to x (contains-here x x xs refl)))
one-list a b (x ∷ xs) (y ∷ ys) up vp to from =
    let same : x ≡ y = first-same x y xs ys up.1 vp.1 (to x (contains-here x x xs refl))
    (from y (contains-here y y ys refl)) in
    let rest : xs ≡ ys =
    one-list (x.id + 1) (y.id + 1) xs ys up.1 vp.1
    (λ r c. tail-has x y r ys same (above (x.id + 1) xs r up.1 c) (to r (contains-there x r xs c)))
    (λ r c. tail-has y x r xs (sym same) (above (y.id + 1) ys r vp.1 c) (from r (contains-there y r ys c))) in
    λ i. same i ∷ rest i

pub found-ascends : (want : List Bool) (states : Snapshot) (rs : List Found) → AreFound (IsScreened want) states rs
    → Ascends 0 rs
found-ascends want states rs f = increasing-Ascends 0 rs (any rs) f.ascending
  where
    any : (rs : List Found) → Starts 0 rs
    any [] = tt
    any (r ∷ rs) = omega arith

pub answers-are-one : (want : List Bool) (states : Snapshot) (xs ys : List Found) → AreFound (IsScreened want) states xs
    → AreFound (IsScreened want) states ys → xs ≡ ys
answers-are-one want states xs ys f g =
    one-list 0 0 xs ys (found-ascends want states xs f) (found-ascends want states ys g)
    (λ r c. let o = f.only r c in g.all r o.0 o.1)
    (λ r c. let o = g.only r c in f.all r o.0 o.1)

-- in a history identifiers are at least 1
pub found-from-one : (want : List Bool) (h : History) (v : ℕ) (rs : List Found) → IsHistory h
    → AreFound (IsScreened want) (snapshot h v) rs → Ascends 1 rs
found-from-one want h v rs good f = increasing-Ascends 1 rs
    (any rs (λ r c. let live = (f.only r c).0 in (state-valid h v r.id (Live live.0 r.format r.text) good live.1).0))
    f.ascending
  where
    any : (rs : List Found) → ((r : Found) → Contains rs r → 1 ≤ r.id) → Starts 1 rs
    any [] all = tt
    any (r ∷ rs) all = all r (contains-here r r rs refl)

matched-picks : (pattern : PatternTerm) (rs : List Found) (hits : List ℕ) → AreMatched pattern rs hits
    → Picks (IsMatched pattern) rs hits
matched-picks pattern [] hits m = m
matched-picks pattern (r ∷ rs) hits (inl m) = inl (m.0, m.1, m.2, matched-picks pattern rs m.1 m.3)
matched-picks pattern (r ∷ rs) hits (inr m) = inr (m.0, matched-picks pattern rs hits m.1)

-- structures of texts are molecules
abbrev pub AreMolecules : Type 0
AreMolecules = (format : Format) (text : List ℕ) (m : Molecule) → HasMolecule format text m → IsMolecule m

pub found-hits : AreMolecules → (pattern : PatternTerm) (want : List Bool) (h : History) (v : ℕ)
    → (rs : List Found) (hits : List ℕ) → Screens pattern want
    → AreFound (IsScreened want) (snapshot h v) rs → AreMatched pattern rs hits → AreHits h v pattern hits
found-hits are pattern want h v rs hits screens f m =
    picked-answers (IsMatched pattern) want h v rs hits
    (λ format text asked. (
      asked.0,
      asked.1,
      screens asked.0 (are format text asked.0 asked.1) asked.2,
    )) f (matched-picks pattern rs hits m)
