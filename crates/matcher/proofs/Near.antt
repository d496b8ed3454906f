-- The next atom of a graph, where its first bond joins it to an earlier one: it stands at a neighbour of that one.
use Rattle.std.proofs.Common.{◌≡◌, ◌≢◌, ℕ, ◌<◌, ◌≤◌, List, [], ◌∷◌, ◌++◌, length, map, max, min, take, slice_index, get_or, sym, ap, ◌∙◌, subst, arith}
use Rattle.std.proofs.lemmas.List.{get_or-take, length-take-le, length_push}
use Rattle.chem_core.specs.Graph.{AreNeighbours, JoinsAt}
use Rattle.chem_core.specs.Molecule.{Molecule, ends_of}
use Rattle.smarts_parse.specs.declared.pattern.PatBond.{PatBond}
use Rattle.smarts_parse.specs.Pattern.{BondTerm, GraphTerm, Prim, Term, bond_of, term_of}
use Rattle.smarts_parse.specs.declared.pattern.BondPrim.{BondPrim}
use Rattle.smarts_parse.specs.Truth.{BondTrue}
use Rattle.smarts_parse.specs.Embedding.{BondEmbeds}
use Rattle.matcher.specs.declared.plan.EarlierBonds.{EarlierBonds}
use Rattle.matcher.specs.Partial.{CanComplete, IsPartial, Parts}
use Rattle.matcher.specs.Plan.{IsReady, step_at}
use Rattle.matcher.proofs.Joins.{among_neighbours, neighbour_joined, neighbours_rise, one_bond}
use Rattle.matcher.proofs.Partials.{CanComplete-next, IsPartial-from_completion, embeds_joined}
use Rattle.matcher.proofs.Plans.{first_bond}
use Rattle.matcher.proofs.Places.{all_apart}
use Rattle.smarts_parse.specs.declared.pattern.BondPrim.TheVariants as prims

-- what the first bond of the next atom asks: that the atom is joined to the earlier one by a bond that is as asked
pub record IsNear (parts : Parts) (g : GraphTerm) (m : Molecule) (front : List ℕ) (earlier place : ℕ)
    (expr : Term BondPrim) : Type 0 where
  pub in_range : earlier < length m.atoms
  pub embeds : (atom : ℕ) (d : BondTerm) → ((b : ℕ) × JoinsAt (ends_of m) b earlier atom × BondTrue expr m b)
      → BondEmbeds m (front ++ atom ∷ []) (get_or g.bonds place d)
  pub completes : (atom : ℕ) → CanComplete parts g m (front ++ atom ∷ [])
      → (b : ℕ) × JoinsAt (ends_of m) b earlier atom × BondTrue expr m b

pub low_before : {x y placed : ℕ} → max x y ≡ placed → x ≢ y → min x y < placed
low_before high apart = omega arith

pub near_step : (parts : Parts) (g : GraphTerm) (m : Molecule) (bonds : List PatBond) (steps : List EarlierBonds)
    (image : List ℕ) (placed low : ℕ) (bond : PatBond) → g.bonds ≡ map bond_of bonds → IsReady g steps
    → placed ≤ length image → placed < length g.atoms → IsPartial parts g m (take placed image)
    → (step_at steps placed).from < (step_at steps placed).to
    → bond ≡ get_or bonds (step_at steps placed).from bond → low ≡ min bond.a bond.b
    → (low < placed) × IsNear parts g m (take placed image) (get_or image low 0) (step_at steps placed).from
    (term_of bond.expr)
near_step parts g m bonds steps image placed low bond same ready room few partial some is least =
    let front : List ℕ = take placed image in
    let place : ℕ = (step_at steps placed).from in
    let first = first_bond bonds g steps placed bond same ready few some is in
    let size : length front ≡ placed = length-take-le placed image room in
    let before : low < placed = let l = low_before first.0 first.1 in omega arith in
    let read : slice_index front low ≡ get_or image low 0 = get_or-take placed image low 0 before in
    let high : max bond.a bond.b ≡ length front = first.0 ∙ sym size in
    let both = λ (atom : ℕ). embeds_joined m front atom (bond_of bond) high first.1 in
    let earlier : slice_index front (min bond.a bond.b) ≡ get_or image low 0 = ap (λ k. slice_index front k) (sym least)
    ∙ read in
    let end = ready.planned.ends placed few in (
      before,
      record {
        in_range = subst (λ x. x < length m.atoms) read (partial.in_range low 0 (omega arith));
        embeds = λ atom d w. subst (BondEmbeds m (front ++ atom ∷ [])) (sym (first.2 d))
            ((both atom).1 (w.0, subst (λ x. JoinsAt (ends_of m) w.0 x atom) (sym earlier) w.1, w.2));
        completes = λ atom w.
            let whole = IsPartial-from_completion parts g m (front ++ atom ∷ []) w in
            let top : max (get_or g.bonds place (bond_of bond)).a (get_or g.bonds place (bond_of bond)).b < length
            (front ++ atom ∷ []) =
            subst (λ (b : BondTerm). max b.a b.b < length (front ++ atom ∷ [])) (sym (first.2 (bond_of bond)))
            (omega (arith, length_push front atom)) in
            let embedded = whole.bonds place (bond_of bond) (omega arith) top in
            let j = (both atom).0 (subst (BondEmbeds m (front ++ atom ∷ [])) (first.2 (bond_of bond)) embedded) in
            (j.0, subst (λ x. JoinsAt (ends_of m) j.0 x atom) earlier j.1, j.2);
      },
    )

-- a bond that is not as asked
pub near_false : (parts : Parts) (g : GraphTerm) (m : Molecule) (front : List ℕ) (earlier place : ℕ)
    (expr : Term BondPrim) (pairs : List (ℕ × ℕ)) (k : ℕ) → IsNear parts g m front earlier place expr
    → AreNeighbours (ends_of m) earlier pairs
    → k < length pairs → (BondTrue expr m (get_or pairs k (0, 0)).1 → ⊥)
    → CanComplete parts g m (front ++ (get_or pairs k (0, 0)).0 ∷ []) → ⊥
near_false parts g m front earlier place expr pairs k near h l lacks w =
    let j = near.completes (get_or pairs k (0, 0)).0 w in
    let one : j.0 ≡ (get_or pairs k (0, 0)).1 = one_bond (ends_of m) earlier (get_or pairs k (0, 0)).0 pairs h j.0
    (get_or pairs k (0, 0)).1 j.1 (neighbour_joined (ends_of m) earlier pairs k (0, 0) h l) in
    lacks (subst (BondTrue expr m) one j.2)

-- no lower atom, where none of the neighbours before can be taken
pub none_lower : (parts : Parts) (g : GraphTerm) (m : Molecule) (front : List ℕ) (earlier place : ℕ)
    (expr : Term BondPrim) (pairs : List (ℕ × ℕ)) (k : ℕ) → IsNear parts g m front earlier place expr
    → AreNeighbours (ends_of m) earlier pairs
    → k < length pairs → ((i : ℕ) → i < k → CanComplete parts g m (front ++ (get_or pairs i (0, 0)).0 ∷ []) → ⊥)
    → (b : ℕ) → b < (get_or pairs k (0, 0)).0 → CanComplete parts g m (front ++ b ∷ []) → ⊥
none_lower parts g m front earlier place expr pairs k near h l none b lower w =
    let j = near.completes b w in
    let at = among_neighbours (ends_of m) earlier b j.0 pairs h j.1 in
    let is : (get_or pairs at.0 (0, 0)).0 ≡ b = ap (λ (e : ℕ × ℕ). e.0) at.2 in
    let before : at.0 < k = neighbours_rise (ends_of m) earlier pairs at.0 k h at.1 l (omega arith) in
    none at.0 before (subst (λ x. CanComplete parts g m (front ++ x ∷ [])) (sym is) w)

-- none at all, where none of the neighbours can be taken
pub none_near : (parts : Parts) (g : GraphTerm) (m : Molecule) (front : List ℕ) (earlier place : ℕ)
    (expr : Term BondPrim) (pairs : List (ℕ × ℕ)) → IsNear parts g m front earlier place expr
    → AreNeighbours (ends_of m) earlier pairs
    → length front < length g.atoms → ((i : ℕ) → i < length pairs
    → CanComplete parts g m (front ++ (get_or pairs i (0, 0)).0 ∷ []) → ⊥) → CanComplete parts g m front → ⊥
none_near parts g m front earlier place expr pairs near h short none w =
    let next = CanComplete-next parts g m front short w in
    let j = near.completes next.0 next.2 in
    let at = among_neighbours (ends_of m) earlier next.0 j.0 pairs h j.1 in
    let is : (get_or pairs at.0 (0, 0)).0 ≡ next.0 = ap (λ (e : ℕ × ℕ). e.0) at.2 in
    none at.0 at.1 (subst (λ x. CanComplete parts g m (front ++ x ∷ [])) (sym is) next.2)

-- the first atom of a graph has no bond to an earlier one
pub no_first : (g : GraphTerm) (steps : List EarlierBonds) → IsReady g steps → 0 < length g.atoms
    → (step_at steps 0).from < (step_at steps 0).to → ⊥
no_first g steps ready some lt =
    let d : ℕ × ℕ = (0, 0) in
    let place : ℕ = (step_at steps 0).from in
    let end = ready.planned.ends 0 some in
    let within : place < length g.bonds = omega arith in
    let high = λ (e : BondTerm). ready.planned.first 0 e some lt in
    ready_apart within high
  where
    ready_apart : (step_at steps 0).from < length g.bonds
        → ((e : BondTerm) → max (get_or g.bonds (step_at steps 0).from e).a (get_or g.bonds (step_at steps 0).from e).b
        ≡ 0) → ⊥
    ready_apart within high =
        let e : BondTerm = record { a = 0; b = 0; expr = Prim prims.Any } in
        let both = all_apart g ready.searchable.apart (step_at steps 0).from e within in
        let top = high e in
        both (omega arith)
