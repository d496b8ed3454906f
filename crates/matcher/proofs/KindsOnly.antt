-- A bond of one of the kinds that an expression asks for is as asked, where it asks for kinds alone.
use Rattle.std.proofs.Common.{◌≡◌, ◌⊎◌, ℕ, inl, inr, Some, slice_get, arith, refl}
use Rattle.std.specs.Int.{bit_at}
use Rattle.std.proofs.lemmas.Bool.{cases_eq}
use Rattle.std.proofs.lemmas.Nat.Bits.{bit_at-lt, bit_at_and, bit_at_or}
use Rattle.chem_core.specs.declared.mol.Bond.{Bond}
use Rattle.chem_core.specs.declared.mol.BondKind.{BondKind}
use Rattle.chem_core.specs.declared.mol.BondKind.TheVariants as kinds
use Rattle.chem_core.specs.Molecule.{Molecule}
use Rattle.chem_core.specs.Sorts.{kind_number}
use Rattle.smarts_parse.specs.declared.pattern.BondPrim.{BondPrim}
use Rattle.smarts_parse.specs.declared.pattern.BondPrim.TheVariants as bonds
use Rattle.smarts_parse.specs.Pattern.{Term, Prim, Not, And, Or}
use Rattle.smarts_parse.specs.Truth.{BondPrimTrue, BondTrue}
use Rattle.matcher.specs.Counted.{kinds_of, prim_kinds}
use Rattle.matcher.specs.Route.{AsksKinds}

single_back : (k : BondKind) → bit_at 1 (kind_number k) ≡ 1 → k ≡ kinds.Single
single_back kinds.Single h = refl
single_back kinds.Double h = absurd (omega arith)
single_back kinds.Triple h = absurd (omega arith)
single_back kinds.Quad h = absurd (omega arith)
single_back kinds.Aromatic h = absurd (omega arith)

double_back : (k : BondKind) → bit_at 2 (kind_number k) ≡ 1 → k ≡ kinds.Double
double_back kinds.Single h = absurd (omega arith)
double_back kinds.Double h = refl
double_back kinds.Triple h = absurd (omega arith)
double_back kinds.Quad h = absurd (omega arith)
double_back kinds.Aromatic h = absurd (omega arith)

triple_back : (k : BondKind) → bit_at 4 (kind_number k) ≡ 1 → k ≡ kinds.Triple
triple_back kinds.Single h = absurd (omega arith)
triple_back kinds.Double h = absurd (omega arith)
triple_back kinds.Triple h = refl
triple_back kinds.Quad h = absurd (omega arith)
triple_back kinds.Aromatic h = absurd (omega arith)

quad_back : (k : BondKind) → bit_at 8 (kind_number k) ≡ 1 → k ≡ kinds.Quad
quad_back kinds.Single h = absurd (omega arith)
quad_back kinds.Double h = absurd (omega arith)
quad_back kinds.Triple h = absurd (omega arith)
quad_back kinds.Quad h = refl
quad_back kinds.Aromatic h = absurd (omega arith)

aromatic_back : (k : BondKind) → bit_at 16 (kind_number k) ≡ 1 → k ≡ kinds.Aromatic
aromatic_back kinds.Single h = absurd (omega arith)
aromatic_back kinds.Double h = absurd (omega arith)
aromatic_back kinds.Triple h = absurd (omega arith)
aromatic_back kinds.Quad h = absurd (omega arith)
aromatic_back kinds.Aromatic h = refl

unwritten_back : (k : BondKind) → bit_at 17 (kind_number k) ≡ 1 → (k ≡ kinds.Single) ⊎ (k ≡ kinds.Aromatic)
unwritten_back kinds.Single h = inl refl
unwritten_back kinds.Double h = absurd (omega arith)
unwritten_back kinds.Triple h = absurd (omega arith)
unwritten_back kinds.Quad h = absurd (omega arith)
unwritten_back kinds.Aromatic h = inr refl

prim_back : (p : BondPrim) (m : Molecule) (b : ℕ) (x : Bond) → AsksKinds (Prim p)
    → bit_at (prim_kinds p) (kind_number x.kind) ≡ 1 → BondPrimTrue p m b x
prim_back bonds.Single m b x asks h = single_back x.kind h
prim_back bonds.Double m b x asks h = double_back x.kind h
prim_back bonds.Triple m b x asks h = triple_back x.kind h
prim_back bonds.Quad m b x asks h = quad_back x.kind h
prim_back bonds.Aromatic m b x asks h = aromatic_back x.kind h
prim_back bonds.Unwritten m b x asks h = unwritten_back x.kind h
prim_back bonds.Any m b x asks h = tt
prim_back bonds.Ring m b x asks h = absurd asks

pub kinds_back : (e : Term BondPrim) (m : Molecule) (b : ℕ) (x : Bond) → AsksKinds e → slice_get m.bonds b ≡ Some x
    → bit_at (kinds_of e) (kind_number x.kind) ≡ 1 → BondTrue e m b
kinds_back (Prim p) m b x asks get h = (x, get, prim_back p m b x asks h)
kinds_back (Not e) m b x asks get h = absurd asks
kinds_back (And e f) m b x asks get h =
    let both = bit_at_and (kinds_of e) (kinds_of f) (kind_number x.kind) in
    let one = bit_at-lt (kinds_of e) (kind_number x.kind) in
    let two = bit_at-lt (kinds_of f) (kind_number x.kind) in
    (kinds_back e m b x asks.0 get (omega arith), kinds_back f m b x asks.1 get (omega arith))
kinds_back (Or e f) m b x asks get h =
    let either = bit_at_or (kinds_of e) (kinds_of f) (kind_number x.kind) in
    let one = bit_at-lt (kinds_of e) (kind_number x.kind) in
    let two = bit_at-lt (kinds_of f) (kind_number x.kind) in
    elim (cases_eq (bit_at (kinds_of e) (kind_number x.kind)) 1) [
      | inl here ↦ inl (kinds_back e m b x asks.0 get here)
      | inr other ↦ inr (kinds_back f m b x asks.1 get (omega arith))
    ]
