-- At which atoms a search for a graph begins: those that a bond, as its second place asks, joins to a candidate of it.
use Rattle.std.proofs.Common.{◌≡◌, ◌∙◌, ◌+◌, ◌*◌, ◌/◌, ◌%◌, ◌<◌, ◌≤◌, ℕ, List, [], ◌∷◌, bit_and, get_or, inl, inr, length, map, min, arith, refl, subst, sym}
use Rattle.std.specs.Int.{bit_at}
use Rattle.std.proofs.lemmas.Bool.{cases_eq}
use Rattle.std.proofs.lemmas.List.{get_or_default, length-map}
use Rattle.std.proofs.lemmas.Nat.Bits.{bit_at_and}
use Rattle.std.proofs.lemmas.Option.{slice_get_within}
use Rattle.chem_core.specs.declared.mol.Bond.{Bond}
use Rattle.chem_core.specs.Graph.{JoinsAt}
use Rattle.chem_core.specs.Molecule.{Molecule, ends_of}
use Rattle.smarts_parse.specs.declared.pattern.BondPrim.{BondPrim}
use Rattle.smarts_parse.specs.declared.pattern.PatBond.{PatBond}
use Rattle.smarts_parse.specs.Pattern.{GraphTerm, Term, bond_of, term_of}
use Rattle.smarts_parse.specs.Truth.{BondTrue}
use Rattle.matcher.specs.declared.plan.EarlierBonds.{EarlierBonds}
use Rattle.matcher.specs.Candidates.{AreTruthsIn, IsCandidate}
use Rattle.matcher.specs.Partial.{CanComplete, Parts}
use Rattle.matcher.specs.Plan.{IsReady, step_at}
use Rattle.matcher.proofs.Narrowings.{low_bit}
use Rattle.matcher.proofs.Near.{near_step}
use Rattle.matcher.proofs.Partials.{CanComplete-next, IsPartial-from_completion}
use Rattle.matcher.proofs.Refusals.{ends_read, no_bond}
use Rattle.matcher.proofs.Standing.{no_begin}

-- the word has the atoms that a bond where the expression is true joins to those of a second word
abbrev pub AreBefore : Term BondPrim → Molecule → ℕ → ℕ → Type 0
AreBefore expr m second found = (b x y : ℕ) → JoinsAt (ends_of m) b x y → BondTrue expr m b → bit_at second y ≡ 1
    → bit_at found x ≡ 1

-- an embedding that begins at an atom has its second place near
pub second_near : (parts : Parts) (g : GraphTerm) (m : Molecule) (words : List ℕ) (steps : List EarlierBonds)
    (bonds : List PatBond) (bond : PatBond) (a : ℕ) → g.bonds ≡ map bond_of bonds → IsReady g steps
    → 1 < length g.atoms → AreTruthsIn parts g m words → (step_at steps 1).from < (step_at steps 1).to
    → bond ≡ get_or bonds (step_at steps 1).from bond → CanComplete parts g m (a ∷ [])
    → (y b : ℕ) × (y < length m.atoms) × IsCandidate words 1 y × JoinsAt (ends_of m) b a y
    × BondTrue (term_of bond.expr) m b
second_near parts g m words steps bonds bond a same ready some truths lt is w =
    let low : ℕ = min bond.a bond.b in
    let near = near_step parts g m bonds steps (a ∷ []) 1 low bond same ready (omega arith) some
    (IsPartial-from_completion parts g m (a ∷ []) w) lt is refl in
    let next = CanComplete-next parts g m (a ∷ []) some w in
    let j = near.1.completes next.0 next.2 in
    let first : low ≡ 0 = let l = near.0 in omega arith in (
      next.0,
      j.0,
      next.1,
      elim (cases_eq (bit_at (get_or words (256 * (next.0 / 64) + 1) 0) (next.0 % 64)) 1) [
        | inl here ↦ here
        | inr none ↦ absurd (no_begin parts g m words (a ∷ []) 1 next.0 truths refl some next.1 none next.2)
      ],
      subst (λ k. JoinsAt (ends_of m) j.0 (get_or (a ∷ []) k 0) next.0) first j.1,
      j.2,
    )

-- so the atom is before a candidate of the second place
pub second_begins : (parts : Parts) (g : GraphTerm) (m : Molecule) (words : List ℕ) (steps : List EarlierBonds)
    (bonds : List PatBond) (bond : PatBond) (block all second found i : ℕ) → length m.atoms ≤ 64
    → g.bonds ≡ map bond_of bonds → IsReady g steps → 1 < length g.atoms → AreTruthsIn parts g m words
    → (step_at steps 1).from < (step_at steps 1).to → bond ≡ get_or bonds (step_at steps 1).from bond
    → 1 < length words → second ≡ get_or words 1 second → AreBefore (term_of bond.expr) m second found → i < 64
    → bit_at all i ≡ 1 → CanComplete parts g m ((64 * block + i) ∷ []) → bit_at (bit_and all found) i ≡ 1
second_begins parts g m words steps bonds bond block all second found i small same ready some truths lt is room read
    before low mine w =
    let a : ℕ = 64 * block + i in
    let s = second_near parts g m words steps bonds bond a same ready some truths lt is w in
    let within : a < length m.atoms = (IsPartial-from_completion parts g m (a ∷ []) w).in_range 0 0 (omega arith) in
    let word : second ≡ get_or words 1 0 = read ∙ get_or_default words 1 second 0 room in
    let there : bit_at second s.0 ≡ 1 = subst (λ v. bit_at v s.0 ≡ 1) (sym word)
    (low_bit words 1 s.0 (let l = s.2 in omega arith) s.3) in
    let here : bit_at found a ≡ 1 = before s.1 a s.0 s.4 s.5 there in
    let first : a ≡ i = omega arith in
    let one : bit_at found i ≡ 1 = subst (λ k. bit_at found k ≡ 1) first here in
    let both = bit_at_and all found i in
    omega arith

pub joins_within : (m : Molecule) (b x y : ℕ) → JoinsAt (ends_of m) b x y → b < length m.bonds
joins_within m b x y joins = subst (λ n. b < n) (length-map m.bonds (λ (z : Bond). (z.a, z.b))) (elim joins [
  | inl e ↦ slice_get_within (ends_of m) b (x, y) e
  | inr e ↦ slice_get_within (ends_of m) b (y, x) e
])

-- the ends of each bond, as they are read
pub before_all : (expr : Term BondPrim) (m : Molecule) (second found : ℕ)
    → ((k : ℕ) → k < length m.bonds → BondTrue expr m k
    → (bit_at second (get_or m.bonds k no_bond).b ≡ 1 → bit_at found (get_or m.bonds k no_bond).a ≡ 1)
    × (bit_at second (get_or m.bonds k no_bond).a ≡ 1 → bit_at found (get_or m.bonds k no_bond).b ≡ 1))
    → AreBefore expr m second found
before_all expr m second found h b x y joins holds in_second =
    let l = joins_within m b x y joins in
    let both = h b l holds in
    elim (ends_read m b x y no_bond l joins) [
      | inl p ↦ subst (λ u. bit_at found u ≡ 1) (sym p.0)
          (both.0 (subst (λ v. bit_at second v ≡ 1) p.1 in_second))
      | inr p ↦ subst (λ u. bit_at found u ≡ 1) (sym p.0)
          (both.1 (subst (λ v. bit_at second v ≡ 1) p.1 in_second))
    ]
