-- What is found of a sketch is what the definitions ask for, by the rows that the code reads.
use Rattle.std.proofs.Common.{ℕ, ◌+◌, ◌%◌, ◌<◌, ◌≡◌, ◌⊎◌, ◌↔◌, inl, inr, Bool, true, false, List, length, map, get_or, Contains, Option, None, Some, option_map, option_and_then, if◌then◌else◌, not, ◌&&◌, slice_get, refl, sym, ap, subst, ◌∙◌, arith}
use Rattle.std.proofs.lemmas.List.{get_or_default, get_or_past, get_or-map, length-map}
use Rattle.std.proofs.lemmas.Option.{slice_get_past, same_Some}
use Rattle.std.proofs.lemmas.Bool.{cases_lt, false≢true}
use Rattle.chem_core.specs.Sketch.{SketchTerm}
use Rattle.chem_core.specs.Sound.{IsSound, sketch_ends, ends_among}
use Rattle.chem_core.specs.Graph.{Ends, JoinsAt, IsSimpleGraph, next_place}
use Rattle.aromatic.specs.Electrons.{electrons, row_at, row_of, environment_of, is_eligible}
use Rattle.aromatic.specs.Huckel.{IsHuckelBy, IsHuckelCycle, IsAromaticAtom, IsRefused, IsFirstRefused, IsPerceived, has_colon, bonded, adds_one}
use Rattle.std.specs.List.{enumerate_from}
use Rattle.chem_core.specs.declared.sketch.SketchAtom.{SketchAtom}
use Rattle.chem_core.specs.RingFacts.{AreRingBonds}
use Rattle.aromatic.specs.declared.links.Link.{Link}
use Rattle.aromatic.specs.Links.{AreLinks}
use Rattle.aromatic.specs.Route.{AreAromaticAtoms, AreAromaticBonds, AreMarksBelow, AreRows, IsMarkedEnd, IsNet}
use Rattle.aromatic.proofs.Tallies.{refused, valence_by}
use Rattle.aromatic.specs.declared.table.Row.{Row}
use Rattle.aromatic.proofs.Cycles.{joins_within}

-- ---- the same of what the code reads

rows_everywhere : (s : SketchTerm) (rings : List Bool) (rows : List (Option Row)) → AreRows s rings rows → (a : ℕ)
    → get_or rows a None ≡ row_at s rings a
rows_everywhere s rings rows h a = elim (cases_lt a (length s.atoms)) [
  | inl l ↦ h.each a l
  | inr l ↦ get_or_past rows a None (rw h.count l)
      ∙ sym (ap (λ o. option_and_then (λ x. let environment = environment_of s rings a x in
      if is_eligible environment then row_of environment else None) o) (slice_get_past s.atoms a l))
]

pub given_by_rows : (s : SketchTerm) (rings : List Bool) (rows : List (Option Row)) (gives : List (Option ℕ))
    → AreRows s rings rows → gives ≡ map (λ row. option_map (λ (r : Row). r.electrons) row) rows → (a : ℕ)
    → get_or gives a None ≡ electrons s rings a
given_by_rows s rings rows gives h is a =
    let f : Option Row → Option ℕ = λ row. option_map (λ (r : Row). r.electrons) row in
    let read : get_or (map f rows) a None ≡ f (get_or rows a None) = elim (cases_lt a (length rows)) [
      | inl l ↦ get_or-map f rows a None None l
      | inr l ↦ get_or_past (map f rows) a None (rw length-map l) ∙ sym (ap f (get_or_past rows a None l))
    ] in
    rw is (read ∙ ap f (rows_everywhere s rings rows h a))

-- a cycle, where the electrons of each atom are told
huckel-told : (s : SketchTerm) (rings : List Bool) (gives : List (Option ℕ)) (atoms : List ℕ)
    → ((a : ℕ) → get_or gives a None ≡ electrons s rings a) → IsHuckelBy (sketch_ends s) (λ a. get_or gives a None)
    atoms ↔ IsHuckelCycle s rings atoms
huckel-told s rings gives atoms given =
    let same : ◌≡◌ {A = ℕ → Option ℕ} (λ a. get_or gives a None) (electrons s rings) = λ i a. given a i in (
      λ h. subst (λ f. IsHuckelBy (sketch_ends s) f atoms) same h,
      λ h. subst (λ f. IsHuckelBy (sketch_ends s) f atoms)
          (sym same) h,
    )

mod_within : (n m : ℕ) → 0 < m → n % m < m
mod_within n m h = omega arith

-- an end of a bond that joins two atoms of a list is one of the two
which_end : (ends : Ends) (b a n : ℕ) (atoms : List ℕ) (i j : ℕ) → i < length atoms → j < length atoms
    → JoinsAt ends b a n → JoinsAt ends b (get_or atoms i 0) (get_or atoms j 0) → Contains atoms a
which_end ends b a n atoms i j hi hj one two =
    let at_i : get_or atoms i 0 ≡ a → Contains atoms a = λ e. (i, hi, get_or_default atoms i a 0 hi ∙ e) in
    let at_j : get_or atoms j 0 ≡ a → Contains atoms a = λ e. (j, hj, get_or_default atoms j a 0 hj ∙ e) in
    elim one [
      | inl p ↦ elim two [
        | inl q ↦ let e : ◌≡◌ {A = ℕ × ℕ} (get_or atoms i 0, get_or atoms j 0) (a, n) = same_Some _ _ (sym q ∙ p) in
            at_i (ap (λ u. u.0) e)
        | inr q ↦ let e : ◌≡◌ {A = ℕ × ℕ} (get_or atoms j 0, get_or atoms i 0) (a, n) = same_Some _ _ (sym q ∙ p) in
            at_j (ap (λ u. u.0) e)
      ]
      | inr p ↦ elim two [
        | inl q ↦ let e : ◌≡◌ {A = ℕ × ℕ} (get_or atoms i 0, get_or atoms j 0) (n, a) = same_Some _ _ (sym q ∙ p) in
            at_j (ap (λ u. u.1) e)
        | inr q ↦ let e : ◌≡◌ {A = ℕ × ℕ} (get_or atoms j 0, get_or atoms i 0) (n, a) = same_Some _ _ (sym q ∙ p) in
            at_i (ap (λ u. u.1) e)
      ]
    ]

-- an atom lies on a Hückel cycle exactly where one of its bonds does
pub ends-aromatic : (s : SketchTerm) (rings marks flags : List Bool) → AreAromaticBonds s rings marks
    → length flags ≡ length s.atoms
    → ((a : ℕ) → (get_or flags a false ≡ true) ↔ IsMarkedEnd (ends_among s.bonds) marks (length s.bonds) a)
    → AreAromaticAtoms s rings flags
ends-aromatic s rings marks flags h len each = record {
  count = len;
  each = λ a. (
    λ q.
        let end = (each a).0 q in
        let on = (h.each end.0 end.2).0 end.4 in
        let atoms : List ℕ = on.0 in
        let i : ℕ = on.2.0 in
        let within : i < length atoms = on.2.1 in
        let next : next_place atoms i < length atoms = mod_within (i + 1) (length atoms) (omega arith) in
        (atoms, on.1, which_end (sketch_ends s) end.0 a end.1 atoms i (next_place atoms i) within next end.3 on.2.2),
    λ q.
        let atoms : List ℕ = q.0 in
        let k : ℕ = q.2.0 in
        let within : k < length atoms = q.2.1 in
        let j = q.1.cycle.joined k within in
        let below : j.0 < length s.bonds = subst (λ n. j.0 < n) (length-map s.bonds (λ b. (b.a, b.b)))
        (joins_within (sketch_ends s) j.0 _ _ j.1) in
        let is : get_or atoms k 0 ≡ a = get_or_default atoms k 0 a within ∙ q.2.2 in
        (each a).1 (
          j.0,
          get_or atoms (next_place atoms k) 0,
          below,
          subst (λ x. JoinsAt (sketch_ends s) j.0 x (get_or atoms (next_place atoms k) 0)) is j.1,
          (h.each j.0 below).1 (atoms, q.1, (k, within, j.1)),
        ),
  );
}

pub bonds-found : (s : SketchTerm) (rings : List Bool) (rows : List (Option Row)) (gives : List (Option ℕ))
    (marks : List Bool) → AreRows s rings rows → gives ≡ map (λ row. option_map (λ (r : Row). r.electrons) row) rows
    → AreMarksBelow (sketch_ends s) gives (length s.bonds) marks → AreAromaticBonds s rings marks
bonds-found s rings rows gives marks h is marked =
    let given = given_by_rows s rings rows gives h is in
    record {
      count = marked.count ∙ length-map s.bonds (λ b. (b.a, b.b));
      each = λ b within. (
        λ q. let on = marked.sound b q in (on.0, (huckel-told s rings gives on.0 given).0 on.1, on.2),
        λ on. marked.each b within (on.0, (huckel-told s rings gives on.0 given).1 on.1, on.2),
      );
    }

-- the links are those of a sketch
pub net-found : (s : SketchTerm) (rings : List Bool) (rows : List (Option Row)) (gives : List (Option ℕ))
    (links : List (List Link)) → IsSound s → AreRingBonds (sketch_ends s) rings → AreRows s rings rows
    → gives ≡ map (λ row. option_map (λ (r : Row). r.electrons) row) rows
    → AreLinks (sketch_ends s) rings gives (length s.bonds) links → IsNet (sketch_ends s) rings gives links
net-found s rings rows gives links sound flags h is linked =
    let many : length s.bonds ≡ length (sketch_ends s) = sym (length-map s.bonds (λ b. (b.a, b.b))) in
    let each : length s.atoms ≡ length gives =
    sym (ap length is ∙ length-map rows (λ row. option_map (λ (r : Row). r.electrons) row) ∙ h.count) in
    record {
      graph = subst (λ n. IsSimpleGraph n (sketch_ends s)) each sound.graph;
      count = flags.one_each;
      whole = λ b on. (flags.each b (joins_within (sketch_ends s) b _ _ on.2.2)).1 (on.0, on.1.cycle, on.2);
      linked = subst (λ k. AreLinks (sketch_ends s) rings gives k links) many linked;
    }

-- ---- refusals

refused_if : (s : SketchTerm) (rings : List Bool) (a : ℕ) (flag lower : Bool)
    → ((flag ≡ true) ↔ IsAromaticAtom s rings a) → (if lower then not flag else has_colon s.bonds a) ≡ true
    → ((lower ≡ true) × (IsAromaticAtom s rings a → ⊥)) ⊎ ((lower ≡ false) × (has_colon s.bonds a ≡ true))
refused_if s rings a true true h r = absurd (false≢true r)
refused_if s rings a false true h r = inl (refl, λ q. false≢true (h.1 q))
refused_if s rings a flag false h r = inr (refl, r)

not_refused_if : (s : SketchTerm) (rings : List Bool) (a : ℕ) (flag lower : Bool)
    → ((flag ≡ true) ↔ IsAromaticAtom s rings a) → (if lower then not flag else has_colon s.bonds a) ≡ false
    → ((lower ≡ true) × (IsAromaticAtom s rings a → ⊥)) ⊎ ((lower ≡ false) × (has_colon s.bonds a ≡ true)) → ⊥
not_refused_if s rings a true true h r (inl q) = q.1 (h.0 refl)
not_refused_if s rings a true true h r (inr q) = false≢true (sym q.0)
not_refused_if s rings a false true h r q = false≢true (sym r)
not_refused_if s rings a flag false h r (inl q) = false≢true q.0
not_refused_if s rings a flag false h r (inr q) = false≢true (sym r ∙ q.1)

pub refused-false : (s : SketchTerm) (rings flags : List Bool) (a : ℕ) (x : SketchAtom) → AreAromaticAtoms s rings flags
    → refused s.bonds (get_or flags a false) a x ≡ false → IsRefused s rings a x → ⊥
refused-false s rings flags a x h = not_refused_if s rings a (get_or flags a false) x.lower (h.each a)

pub refused-true : (s : SketchTerm) (rings flags : List Bool) (a : ℕ) (x : SketchAtom) → AreAromaticAtoms s rings flags
    → refused s.bonds (get_or flags a false) a x ≡ true → IsRefused s rings a x
refused-true s rings flags a x h = refused_if s rings a (get_or flags a false) x.lower (h.each a)

pub fault-first : (s : SketchTerm) (rings flags : List Bool) (w : ℕ) → AreAromaticAtoms s rings flags → (a : ℕ)
    × (x : SketchAtom) × (slice_get s.atoms a ≡ Some x) × (refused s.bonds (get_or flags a false) a x ≡ true)
    × (x.written ≡ w) × ((b : ℕ) (y : SketchAtom) → b < a → slice_get s.atoms b ≡ Some y
    → refused s.bonds (get_or flags b false) b y ≡ false) → IsFirstRefused s rings w
fault-first s rings flags w h (a, x, here, yes_refused, at, before) = (
  a,
  x,
  here,
  refused-true s rings flags a x h yes_refused,
  at,
  λ b y lt there. refused-false s rings flags b y h
      (before b y lt there),
)

-- ---- all that is found

pub all-found : (s : SketchTerm) (rings : List Bool) (rows : List (Option Row)) (flags marks : List Bool)
    (sums : List ℕ) → AreRows s rings rows → AreAromaticBonds s rings marks → AreAromaticAtoms s rings flags
    → ((b : ℕ) (y : SketchAtom) → slice_get s.atoms b ≡ Some y → refused s.bonds (get_or flags b false) b y ≡ false)
    → sums ≡ map (λ p. valence_by rows flags s.bonds marks p.0 p.1) (enumerate_from 0 s.atoms)
    → IsPerceived s rings flags marks sums
all-found s rings rows flags marks sums rows_are marks_are flags_are none values = record {
  atom_each = flags_are.count;
  bond_each = marks_are.count;
  atoms = λ a _. flags_are.each a;
  bonds = marks_are.each;
  valences = values ∙ (λ i. map (λ p. bonded s.bonds marks p.0 + p.1.hydrogens
      + (if get_or flags p.0 false && adds_one s.bonds marks p.0 (rows_everywhere s rings rows rows_are p.0 i) then 1
      else 0)) (enumerate_from 0 s.atoms));
  accepted = λ a x here. refused-false s rings flags a x flags_are (none a x here);
}
