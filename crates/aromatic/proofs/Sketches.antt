-- A sketch's bonds by their places: they end at atoms of the sketch, and the counts of an atom's bonds, one bond after
-- another.
use Rattle.std.proofs.Common.{zero, suc, slice_get, Some, ℕ, ◌+◌, ◌<◌, ◌≤◌, ◌≡◌, ◌≢◌, ◌&&◌, All, Option, None, unwrap_or, option_map, option_and_then, Bool, true, false, List, [], ◌∷◌, ◌++◌, length, map, take, get_or, zip, if◌then◌else◌, refl, sym, ap, subst, ◌∙◌, arith, add-zero}
use Rattle.std.proofs.lemmas.List.{take_more, take_all, get_or-map, length-map, length-take}
use Rattle.std.proofs.lemmas.List.Sums.{sum_by_push, count_by-le-length}
use Rattle.std.proofs.lemmas.Option.{slice_get_within, slice_get-map, unwrap_or-slice_get, slice_get-get_or, get_or_from_slice_get}
use Rattle.std.proofs.lemmas.Slice.Zip.{get_or-zip, length-zip}
use Rattle.chem_core.specs.declared.sketch.SketchAtom.{SketchAtom}
use Rattle.chem_core.specs.declared.sketch.SketchBond.{SketchBond}
use Rattle.chem_core.specs.Sketch.{SketchTerm, ends_at}
use Rattle.chem_core.specs.Graph.{IsSimpleGraph}
use Rattle.chem_core.specs.Sound.{ends_among}
use Rattle.aromatic.specs.declared.environment.Environment.{Environment}
use Rattle.aromatic.specs.Electrons.{environment_among, environment_of, element_beyond, count_at, candidate_row}
use Rattle.aromatic.specs.Counts.{AreEnvironments, HasFewBonds, add, without_bonds, more}
use Rattle.aromatic.specs.Route.{AreRows}
use Rattle.aromatic.specs.declared.table.Row.{Row}

-- a place within a list has an element
pub some_element : {X : Type 0} (xs : List X) (i : ℕ) → i < length xs → (x : X) × (slice_get xs i ≡ Some x)
some_element [] i h = absurd (omega arith)
some_element (x ∷ xs) zero h = (x, refl)
some_element (x ∷ xs) (suc i) h = some_element xs i (omega arith)

-- a bond's ends are two atoms
pub bond-in_graph : (n : ℕ) (bonds : List SketchBond) (i : ℕ) (d : SketchBond) → IsSimpleGraph n (ends_among bonds)
    → i < length bonds → ((get_or bonds i d).a < n) × ((get_or bonds i d).b < n)
    × ((get_or bonds i d).a ≢ (get_or bonds i d).b)
bond-in_graph n bonds i d graph within =
    let within' : i < length (ends_among bonds) = omega (arith, length-map {B = ℕ × ℕ} bonds (λ b. (b.a, b.b))) in
    let read = get_or-map {Y = ℕ × ℕ} (λ b. (b.a, b.b)) bonds i d (0, 0) within in
    let range = subst (λ e. (e.0 < n) × (e.1 < n)) read (graph.in_range i (0, 0) within') in
    (range.0, range.1, subst (λ e. e.0 ≢ e.1) read (graph.distinct i (0, 0) within'))

pub few_pairs : (n : ℕ) (bonds : List SketchBond) (rings : List Bool) (i : ℕ) → IsSimpleGraph n (ends_among bonds)
    → length (take i (zip bonds rings)) < 1000
few_pairs n bonds rings i graph =
    omega (
      arith,
      graph.few_bonds,
      length-map {B = ℕ × ℕ} bonds (λ b. (b.a, b.b)),
      length-zip bonds rings,
      length-take i (zip bonds rings),
    )

counted : (e : Bool) (x : Environment) (ring higher inner outer oxygen hetero : Bool)
    → ◌≡◌ {A = Environment} (record x {
      neighbours = x.neighbours + (if e && true then 1 else 0);
      ring_bonds = x.ring_bonds + (if e && ring then 1 else 0);
      higher = x.higher + (if e && higher then 1 else 0);
      ring_doubles = x.ring_doubles + (if e && inner then 1 else 0);
      outer_doubles = x.outer_doubles + (if e && outer then 1 else 0);
      to_oxygen = x.to_oxygen + (if e && oxygen then 1 else 0);
      to_hetero = x.to_hetero + (if e && hetero then 1 else 0);
    }) (if e then record x {
      neighbours = x.neighbours + 1;
      ring_bonds = more x.ring_bonds ring;
      higher = more x.higher higher;
      ring_doubles = more x.ring_doubles inner;
      outer_doubles = more x.outer_doubles outer;
      to_oxygen = more x.to_oxygen oxygen;
      to_hetero = more x.to_hetero hetero;
    } else x)
counted true x ring higher inner outer oxygen hetero = refl
counted false x ring higher inner outer oxygen hetero = simp add-zero

-- one more bond
environment_among-push : (atoms : List SketchAtom) (a : ℕ) (x : SketchAtom) (pairs : List (SketchBond × Bool))
    (bond : SketchBond) (ring : Bool) → environment_among atoms a x (pairs ++ (bond, ring) ∷ [])
    ≡ (if ends_at a bond then add (environment_among atoms a x pairs) bond.kind ring (element_beyond atoms a bond)
    else environment_among atoms a x pairs)
environment_among-push atoms a x pairs bond ring =
    simp sum_by_push (counted (ends_at a bond) (environment_among atoms a x pairs) _ _ _ _ _ _)

environment_among-more : (atoms : List SketchAtom) (bonds : List SketchBond) (rings : List Bool) (a i : ℕ)
    (x : SketchAtom)
    (d : SketchBond) → i < length bonds → length rings ≡ length bonds → (let bond : SketchBond = get_or bonds i d in
    environment_among atoms a x (take (i + 1) (zip bonds rings))
    ≡ (if ends_at a bond then add (environment_among atoms a x (take i (zip bonds rings))) bond.kind
    (get_or rings i false)
    (element_beyond atoms a bond) else environment_among atoms a x (take i (zip bonds rings))))
environment_among-more atoms bonds rings a i x d within same =
    let within' : i < length (zip bonds rings) = omega (arith, length-zip bonds rings) in
    let read : get_or (zip bonds rings) i (d, false) ≡ (get_or bonds i d, get_or rings i false) =
    get_or-zip bonds rings i (d, false) within (omega arith) in
    rw (take_more (zip bonds rings) i (d, false) within', read)
    (environment_among-push atoms a x (take i (zip bonds rings))
    (get_or bonds i d) (get_or rings i false))

counts_small : (pairs : List (SketchBond × Bool)) (a : ℕ) (test : SketchBond → Bool → Bool) → length pairs < 1000
    → count_at pairs a test < 1000
counts_small pairs a test few = omega (arith, count_by-le-length (λ p. ends_at a p.0 && test p.0 p.1) pairs)

pub environment_among-small : (atoms : List SketchAtom) (a : ℕ) (x : SketchAtom) (pairs : List (SketchBond × Bool))
    → length pairs < 1000 → HasFewBonds (environment_among atoms a x pairs)
environment_among-small atoms a x pairs few = record {
  neighbours = counts_small pairs a _ few;
  ring_bonds = counts_small pairs a _ few;
  higher = counts_small pairs a _ few;
  ring_doubles = counts_small pairs a _ few;
  outer_doubles = counts_small pairs a _ few;
  to_oxygen = counts_small pairs a _ few;
  to_hetero = counts_small pairs a _ few;
}

-- ---- of each atom

abbrev pub AreEnvironmentsBelow : List SketchAtom → List (SketchBond × Bool) → List Environment → Type 0
AreEnvironmentsBelow atoms pairs environments = (a : ℕ) (x : SketchAtom) (d : Environment) → slice_get atoms a ≡ Some x
    → get_or environments a d
    ≡ environment_among atoms a x pairs

-- no bond
pub environments-none : (atoms : List SketchAtom) (environments : List Environment)
    → environments ≡ map without_bonds atoms → AreEnvironmentsBelow atoms [] environments
environments-none atoms environments is a x d here =
    rw is (get_or-map without_bonds atoms a x d (slice_get_within atoms a x here)
    ∙ ap without_bonds (get_or_from_slice_get atoms a x x here))

-- one more bond
pub environment-more : (atoms : List SketchAtom) (bonds : List SketchBond) (rings : List Bool) (a i : ℕ)
    (x : SketchAtom)
    (e : SketchBond) (environment after : Environment) → i < length bonds → length rings ≡ length bonds
    → environment ≡ environment_among atoms a x (take i (zip bonds rings))
    → (let bond : SketchBond = get_or bonds i e in
    after ≡ (if ends_at a bond then add environment bond.kind (get_or rings i false) (element_beyond atoms a bond)
    else environment))
    → after ≡ environment_among atoms a x (take (i + 1) (zip bonds rings))
environment-more atoms bonds rings a i x e environment after within same old new =
    let bond : SketchBond = get_or bonds i e in
    new ∙ ap (λ y. if ends_at a bond then add y bond.kind (get_or rings i false) (element_beyond atoms a bond) else y)
    old ∙ sym (environment_among-more atoms bonds rings a i x e within same)

pub environments-more : (atoms : List SketchAtom) (bonds : List SketchBond) (rings : List Bool)
    (environments after : List Environment)
    (i : ℕ) (e : SketchBond) → i < length bonds → length rings ≡ length bonds
    → AreEnvironmentsBelow atoms (take i (zip bonds rings)) environments → (let bond : SketchBond = get_or bonds i e in
    (a : ℕ) (d : Environment) → get_or after a d
    ≡ (if ends_at a bond then add (get_or environments a d) bond.kind (get_or rings i false)
    (element_beyond atoms a bond)
    else get_or environments a d)) → AreEnvironmentsBelow atoms (take (i + 1) (zip bonds rings)) after
environments-more atoms bonds rings environments after i e within same old new a x d here =
    environment-more atoms bonds rings a i x e (get_or environments a d) (get_or after a d) within same (old a x d here)
    (new a d)

pub environments-small : (atoms : List SketchAtom) (pairs : List (SketchBond × Bool)) (environments : List Environment)
    → length environments ≡ length atoms → length pairs < 1000 → AreEnvironmentsBelow atoms pairs environments
    → All (λ x. HasFewBonds x) environments
environments-small atoms pairs environments count few are k d within =
    let here = some_element atoms k (omega arith) in
    subst (λ x. HasFewBonds x) (sym (are k here.0 d here.1)) (environment_among-small atoms k here.0 pairs few)

-- all bonds
pub environments-whole : (atoms : List SketchAtom) (bonds : List SketchBond) (rings : List Bool)
    (environments : List Environment) (i : ℕ)
    → length environments ≡ length atoms → length bonds ≤ i
    → AreEnvironmentsBelow atoms (take i (zip bonds rings)) environments
    → AreEnvironments atoms (zip bonds rings) environments
environments-whole atoms bonds rings environments i count past are = record {
  count = count;
  each = λ a x here.
      let within = slice_get_within atoms a x here in
      let whole = take_all i (zip bonds rings) (omega (arith, length-zip bonds rings)) in
      slice_get-get_or environments a (without_bonds x) (omega arith)
      ∙ ap (λ y. Some y) (are a x (without_bonds x) here)
      ∙ ap (λ ps. Some (environment_among atoms a x ps)) whole;
}

pub rows-are : (s : SketchTerm) (rings : List Bool) (environments : List Environment) (rows : List (Option Row))
    → AreEnvironments s.atoms (zip s.bonds rings) environments → rows ≡ map candidate_row environments
    → AreRows s rings rows
rows-are s rings environments rows are is = record {
  count = ap (λ rs. length rs) is ∙ length-map environments candidate_row ∙ are.count;
  each = λ a within.
      let there = some_element s.atoms a within in
      let read : slice_get rows a ≡ Some (candidate_row (environment_of s rings a there.0)) = ap
      (λ rs. slice_get rs a) is
      ∙ slice_get-map candidate_row environments a ∙ ap (λ o. option_map candidate_row o) (are.each a there.0 there.1)
      in
      sym (unwrap_or-slice_get rows a None) ∙ ap (λ o. unwrap_or o None) read
      ∙ sym (ap (λ o. option_and_then (λ x. candidate_row (environment_of s rings a x)) o) there.1);
}
