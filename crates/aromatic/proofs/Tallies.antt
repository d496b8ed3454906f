-- What the bonds of an atom come to, one bond after another, and at most.
use Rattle.std.proofs.Common.{ℕ, ◌+◌, ◌<◌, ◌≤◌, ◌≡◌, ◌&&◌, ◌||◌, Bool, true, false, All, Option, None, List, length, take, get_or, zip, sum_by, if◌then◌else◌, refl, ◌∙◌, arith, add-zero}
use Rattle.std.specs.List.{list_any}
use Rattle.std.proofs.Math.Bool.{and-false, and-true, or-false}
use Rattle.std.proofs.lemmas.List.{take_all, get_or_default}
use Rattle.std.proofs.lemmas.List.Folds.{list_any_more}
use Rattle.std.proofs.lemmas.List.Sums.{sum_by_more, sum_by-take-le}
use Rattle.chem_core.specs.declared.sketch.SketchBond.{SketchBond}
use Rattle.chem_core.specs.Sketch.{ends_at}
use Rattle.chem_core.specs.Graph.{IsSimpleGraph}
use Rattle.chem_core.specs.Sound.{ends_among}
use Rattle.aromatic.specs.declared.bond_tallies.Tally.{Tally}
use Rattle.aromatic.specs.Electrons.{is_double}
use Rattle.chem_core.specs.declared.sketch.SketchAtom.{SketchAtom}
use Rattle.aromatic.specs.Huckel.{bonded, has_colon, share, is_colon}
use Rattle.aromatic.specs.Tallies.{AreTallies, no_bonds, refused_at, refused_by, tally_of, valence_at, valence_told, with_bond}
use Rattle.aromatic.specs.declared.table.Row.{Row}
use Rattle.aromatic.proofs.Valences.{pair_at, pair_within, pairs_past, bonded-le}

-- what the bonds of an atom below place k come to
abbrev pub tally_below : List SketchBond → List Bool → ℕ → ℕ → Tally
tally_below bonds aromatic k a = record {
  bonded = sum_by (λ p. share a p.0 p.1) (take k (zip bonds aromatic));
  aromatic_double = list_any (λ p. ends_at a p.0 && (p.1 && is_double p.0.kind)) (take k (zip bonds aromatic));
  colon = list_any (λ bond. is_colon bond.kind && ends_at a bond) (take k bonds);
}

tallied : (ends : Bool) (n m : ℕ) (p q double colon : Bool) → ◌≡◌ {A = Tally} (record {
  bonded = n + (if ends then m else 0);
  aromatic_double = p || (ends && double);
  colon = q || (colon && ends);
}) (if ends then record {
  bonded = n + m;
  aromatic_double = p || double;
  colon = q || colon;
} else record {
  bonded = n;
  aromatic_double = p;
  colon = q;
})
tallied true n m p q double colon = rw (and-true colon) refl
tallied false n m p q double colon = rw (and-false colon, or-false p, or-false q, add-zero n) refl

-- one more bond
pub tally-more : (bonds : List SketchBond) (aromatic : List Bool) (a i : ℕ) (d : SketchBond) → i < length bonds
    → length aromatic ≡ length bonds → (let bond : SketchBond = get_or bonds i d in tally_below bonds aromatic (i + 1) a
    ≡ (if ends_at a bond then with_bond (tally_below bonds aromatic i a) bond.kind (get_or aromatic i false)
    else tally_below bonds aromatic i a))
tally-more bonds aromatic a i d within same =
    let bond : SketchBond = get_or bonds i d in
    let within' = pair_within bonds aromatic i within same in
    let pair = pair_at bonds aromatic i d within same in
    rw (
      sum_by_more (λ p. share a p.0 p.1) (zip bonds aromatic) i (d, false) within',
      list_any_more (λ p. ends_at a p.0 && (p.1 && is_double p.0.kind)) (zip bonds aromatic) i (d, false) within',
      list_any_more (λ bond. is_colon bond.kind && ends_at a bond) bonds i d within,
      pair,
    )
    (tallied (ends_at a bond) _ _ _ _ _ _)

-- all bonds
pub tally-whole : (bonds : List SketchBond) (aromatic : List Bool) (a i : ℕ) → length bonds ≤ i
    → tally_below bonds aromatic i a ≡ tally_of bonds aromatic a
tally-whole bonds aromatic a i past =
    rw (take_all i (zip bonds aromatic) (pairs_past bonds aromatic i past), take_all i bonds past) refl

pub bonded-few : (bonds : List SketchBond) (aromatic : List Bool) (n a : ℕ) → IsSimpleGraph n (ends_among bonds)
    → bonded bonds aromatic a ≤ 48
bonded-few bonds aromatic n a graph = omega (arith, bonded-le bonds aromatic a, graph.few_neighbours a)

pub below-few : (bonds : List SketchBond) (aromatic : List Bool) (n k a : ℕ) → IsSimpleGraph n (ends_among bonds)
    → (tally_below bonds aromatic k a).bonded ≤ 48
below-few bonds aromatic n k a graph = omega (
  arith,
  bonded-few bonds aromatic n a graph,
  sum_by-take-le (λ p. share a p.0 p.1) (zip bonds aromatic) k,
)

pub tallies-few : (bonds : List SketchBond) (aromatic : List Bool) (n : ℕ) (tallies : List Tally)
    → IsSimpleGraph n (ends_among bonds) → AreTallies bonds aromatic tallies → All (λ t. t.bonded ≤ 48) tallies
tallies-few bonds aromatic n tallies graph are k d within =
    let read : get_or tallies k d ≡ tally_of bonds aromatic k = get_or_default tallies k d no_bonds within ∙ are k in
    rw read (bonded-few bonds aromatic n k graph)

-- ---- what is read of tallies

-- the atom is refused, where it is told whether it is aromatic
abbrev pub refused : List SketchBond → Bool → ℕ → SketchAtom → Bool
refused bonds aromatic a x = refused_by aromatic (has_colon bonds a) x

-- the valence of an atom, where the rows are told
abbrev pub valence_by : List (Option Row) → List Bool → List SketchBond → List Bool → ℕ → SketchAtom → ℕ
valence_by rows flags bonds marks a x = valence_told (tally_of bonds marks a) (get_or rows a None)
    (get_or flags a false) x

pub refusals-told : (bonds : List SketchBond) (flags aromatic : List Bool) (tallies : List Tally)
    → AreTallies bonds aromatic tallies → refused_at flags tallies ≡ (λ a x. refused bonds (get_or flags a false) a x)
refusals-told bonds flags aromatic tallies are = λ i a x. refused_by (get_or flags a false) (are a i).colon x

pub valences-told : (bonds : List SketchBond) (rows : List (Option Row)) (flags aromatic : List Bool)
    (tallies : List Tally) → AreTallies bonds aromatic tallies → valence_at flags tallies rows
    ≡ (λ a x. valence_by rows flags bonds aromatic a x)
valences-told bonds rows flags aromatic tallies are = λ i a x. valence_told (are a i) (get_or rows a None)
    (get_or flags a false) x
