-- What the bonds of an atom add to its valence at most, and the valences of one atom after another.
use Rattle.std.proofs.Common.{ℕ, ◌+◌, ◌*◌, ◌<◌, ◌≤◌, ◌≡◌, ◌||◌, Bool, true, false, cond, List, [], ◌∷◌, ◌++◌, length, map, take, get_or, zip, if◌then◌else◌, nat_eq, ap, ◌∙◌, arith, zero-add}
use Rattle.std.proofs.lemmas.List.{take_more, take_all, map-append}
use Rattle.std.proofs.lemmas.List.FromFn.{length-enumerate_from, get_or-enumerate_from}
use Rattle.std.specs.List.{enumerate_from}
use Rattle.chem_core.specs.declared.sketch.SketchAtom.{SketchAtom}
use Rattle.std.proofs.lemmas.List.Sums.{sum_by-cons}
use Rattle.std.proofs.lemmas.Slice.Zip.{get_or-zip, length-zip}
use Rattle.chem_core.specs.declared.sketch.SketchBond.{SketchBond}
use Rattle.chem_core.specs.declared.sketch.SketchKind.{SketchKind}
use Rattle.chem_core.specs.declared.sketch.SketchKind.TheVariants.{Unwritten, Single, Double, Triple, Quad, Colon}
use Rattle.chem_core.specs.Graph.{degree}
use Rattle.chem_core.specs.Sketch.{ends_at, order_of}
use Rattle.aromatic.specs.Huckel.{bonded, share}
use Rattle.chem_core.specs.Sound.{ends_among}

pub pair_at : (bonds : List SketchBond) (marks : List Bool) (i : ℕ) (d : SketchBond) → i < length bonds
    → length marks ≡ length bonds → get_or (zip bonds marks) i (d, false) ≡ (get_or bonds i d, get_or marks i false)
pair_at bonds marks i d within same = get_or-zip bonds marks i (d, false) within (omega arith)

pub pair_within : (bonds : List SketchBond) (marks : List Bool) (i : ℕ) → i < length bonds → length marks ≡ length bonds
    → i < length (zip bonds marks)
pair_within bonds marks i within same = omega (arith, length-zip bonds marks)

pub pairs_past : (bonds : List SketchBond) (marks : List Bool) (i : ℕ) → length bonds ≤ i → length (zip bonds marks) ≤ i
pairs_past bonds marks i past = omega (arith, length-zip bonds marks)

order-le : (kind : SketchKind) → order_of kind ≤ 4
order-le Unwritten = omega arith
order-le Single = omega arith
order-le Double = omega arith
order-le Triple = omega arith
order-le Quad = omega arith
order-le Colon = omega arith

share_le : (ends aromatic : Bool) (order : ℕ) → order ≤ 4 → (if ends then (if aromatic then 1 else order) else 0)
    ≤ 4 * cond ends 1 0
share_le true true order h = omega arith
share_le true false order h = omega arith
share_le false aromatic order h = omega arith

pub bonded-le : (bonds : List SketchBond) (marks : List Bool) (a : ℕ)
    → bonded bonds marks a ≤ 4 * degree (ends_among bonds) a
bonded-le [] marks a = omega arith
bonded-le (b ∷ bonds) [] a = omega arith
bonded-le (b ∷ bonds) (m ∷ marks) a =
    let rest = bonded-le bonds marks a in
    let here = share_le (ends_at a b) m (order_of b.kind) (order-le b.kind) in
    let left = sum_by-cons (λ p. share a p.0 p.1) (b, m) (zip bonds marks) in
    let right = sum_by-cons (λ (e : ℕ × ℕ). cond (nat_eq e.0 a || nat_eq e.1 a) 1 0) (b.a, b.b) (ends_among bonds) in
    omega (arith, rest, here, left, right)

-- one more valence
pub values-more : (f : ℕ × SketchAtom → ℕ) (atoms : List SketchAtom) (values after : List ℕ) (i : ℕ) (d : SketchAtom)
    (v : ℕ) → i < length atoms → values ≡ map f (take i (enumerate_from 0 atoms)) → after ≡ values ++ v ∷ []
    → v ≡ f (i, get_or atoms i d) → after ≡ map f (take (i + 1) (enumerate_from 0 atoms))
values-more f atoms values after i d v within before is new =
    let within' : i < length (enumerate_from 0 atoms) = omega (arith, length-enumerate_from 0 atoms) in
    let read : get_or (enumerate_from 0 atoms) i (0, d) ≡ (i, get_or atoms i d) =
    get_or-enumerate_from 0 atoms i (0, d) within ∙ ap (λ m. (m, get_or atoms i d)) (zero-add i) in
    rw (take_more (enumerate_from 0 atoms) i (0, d) within', read, map-append) (is ∙ ap (λ vs. vs ++ v ∷ []) before
    ∙ ap (λ m. map f (take i (enumerate_from 0 atoms)) ++ m ∷ []) new)

pub values-whole : (f : ℕ × SketchAtom → ℕ) (atoms : List SketchAtom) (i : ℕ) → length atoms ≤ i
    → map f (take i (enumerate_from 0 atoms)) ≡ map f (enumerate_from 0 atoms)
values-whole f atoms i past = ap (λ ps. map f ps)
    (take_all i (enumerate_from 0 atoms) (omega (arith, length-enumerate_from 0 atoms)))
