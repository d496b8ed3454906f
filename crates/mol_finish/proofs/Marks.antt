-- A sketch without lower-case atoms and `:` bonds stays so, and none of its atoms is refused.
use Rattle.std.proofs.Common.{ℕ, ◌+◌, ◌≡◌, ◌≢◌, inl, inr, Bool, true, false, cond, not, ◌&&◌, ◌||◌, List, [], ◌∷◌, get_or, map, filter, refl, sym, ap, ◌∙◌}
use Rattle.std.specs.List.{All, AllByRecursion, enumerate_from}
use Rattle.std.proofs.lemmas.List.Elements.{All-from_recursion, recursion_from_All}
use Rattle.std.proofs.lemmas.Option.{slice_get_within, get_or_from_slice_get}
use Rattle.chem_core.specs.declared.sketch.SketchAtom.{SketchAtom}
use Rattle.chem_core.specs.declared.sketch.SketchBond.{SketchBond}
use Rattle.chem_core.specs.declared.sketch.SketchKind.{SketchKind}
use Rattle.chem_core.specs.declared.sketch.SketchKind.TheVariants.{Unwritten, Single, Double, Triple, Quad, Colon}
use Rattle.chem_core.specs.Sketch.{SketchTerm, ends_at}
use Rattle.valence.specs.Valence.{bond_sum}
use Rattle.valence.specs.Filled.{filled, filled_atom}
use Rattle.valence.specs.Suppressed.{is_suppressed, gained, new_place, staying_bonds, stays, renumbered}
use Rattle.aromatic.specs.Huckel.{has_colon, is_colon}
use Rattle.molfile_read.specs.Reading.{HasNoAromaticMark}
use Rattle.mol_finish.specs.Structure.{IsRefusedAt, prepared}

abbrev IsUpper : SketchAtom → Type 0
IsUpper a = a.lower ≡ false

abbrev IsNoColon : SketchBond → Type 0
IsNoColon b = b.kind ≢ Colon

filled-upper : (s : SketchTerm) (k : ℕ) (atoms : List SketchAtom) → AllByRecursion IsUpper atoms
    → AllByRecursion IsUpper (map (λ p. filled_atom (bond_sum s p.0) p.1) (enumerate_from k atoms))
filled-upper s k [] h = tt
filled-upper s k (a ∷ as') h = (h.0, filled-upper s (k + 1) as' h.1)

abbrev kept : (ℕ → ℕ) → List (ℕ × SketchAtom) → List SketchAtom
kept gain ps = map (λ p. (let a : SketchAtom = record p.1 { hydrogens = p.1.hydrogens + gain p.0 } in a)) ps

one-kept : (gain : ℕ → ℕ) (t : Bool) (p : ℕ × SketchAtom) (ps : List (ℕ × SketchAtom)) → IsUpper p.1
    → AllByRecursion IsUpper (kept gain ps) → AllByRecursion IsUpper (kept gain (cond t (p ∷ ps) ps))
one-kept gain true p ps h k = (h, k)
one-kept gain false p ps h k = k

staying-upper : (goes : ℕ → Bool) (gain : ℕ → ℕ) (k : ℕ) (atoms : List SketchAtom) → AllByRecursion IsUpper atoms
    → AllByRecursion IsUpper (kept gain (filter (λ p. not (goes p.0)) (enumerate_from k atoms)))
staying-upper goes gain k [] h = tt
staying-upper goes gain k (a ∷ as') h =
    one-kept gain (not (goes k)) (k, a) (filter (λ p. not (goes p.0)) (enumerate_from (k + 1) as')) h.0
    (staying-upper goes gain (k + 1) as' h.1)

one-stays : (place : ℕ → ℕ) (t : Bool) (b : SketchBond) (bs : List SketchBond) → IsNoColon b
    → AllByRecursion IsNoColon (map (renumbered place) bs)
    → AllByRecursion IsNoColon (map (renumbered place) (cond t (b ∷ bs) bs))
one-stays place true b bs h k = (h, k)
one-stays place false b bs h k = k

staying-plain : (goes : ℕ → Bool) (place : ℕ → ℕ) (bonds : List SketchBond) → AllByRecursion IsNoColon bonds
    → AllByRecursion IsNoColon (staying_bonds goes place bonds)
staying-plain goes place [] h = tt
staying-plain goes place (b ∷ bs) h = one-stays place (stays goes b) b (filter (stays goes) bs) h.0
    (staying-plain goes place bs h.1)

no-colon : (k : SketchKind) → k ≢ Colon → is_colon k ≡ false
no-colon Unwritten h = refl
no-colon Single h = refl
no-colon Double h = refl
no-colon Triple h = refl
no-colon Quad h = refl
no-colon Colon h = absurd (h refl)

no-colons : (a : ℕ) (bonds : List SketchBond) → AllByRecursion IsNoColon bonds → has_colon bonds a ≡ false
no-colons a [] h = refl
no-colons a (b ∷ bs) h =
    ap (λ t. (t && ends_at a b) || has_colon bs a) (no-colon b.kind h.0) ∙ no-colons a bs h.1

true≢false : (t : Bool) → t ≡ true → t ≡ false → ⊥
true≢false t e f = cc

-- no atom of what is made of the sketch is refused
pub never-refused : (s : SketchTerm) (w : ℕ) → HasNoAromaticMark s → IsRefusedAt (prepared s) w → ⊥
never-refused s w plain h =
    let atoms : AllByRecursion IsUpper (filled s).atoms =
    filled-upper s 0 s.atoms (recursion_from_All IsUpper s.atoms plain.atoms) in
    let upper : All IsUpper (prepared s).atoms =
    All-from_recursion IsUpper (prepared s).atoms (staying-upper (is_suppressed (filled s)) (gained (filled s)) 0
    (filled s).atoms atoms) in
    let bonds : AllByRecursion IsNoColon (prepared s).bonds =
    staying-plain (is_suppressed (filled s)) (new_place (is_suppressed (filled s))) s.bonds
    (recursion_from_All IsNoColon s.bonds plain.bonds) in
    let first = h.2 in
    let a = first.0 in
    let x = first.1 in
    let at = first.2 in
    let is : get_or (prepared s).atoms a x ≡ x = get_or_from_slice_get (prepared s).atoms a x x at in
    let low : x.lower ≡ false = ap (λ (y : SketchAtom). y.lower) (sym is)
    ∙ upper a x (slice_get_within (prepared s).atoms a x at) in
    elim first.3 [
      | inl r ↦ true≢false x.lower r.0 low
      | inr r ↦ true≢false (has_colon (prepared s).bonds a) r.1 (no-colons a (prepared s).bonds bonds)
    ]
