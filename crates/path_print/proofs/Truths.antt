-- Where an expression is true, what it implies is so.
use Rattle.std.proofs.Common.{ℕ, ◌≡◌, Bool, true, false, cond, refl, sym, ap, ◌∙◌, ⊎_elim, arith}
use Rattle.std.specs.Prelude.{None, Some, nat_eq, nat_le}
use Rattle.std.specs.List.{slice_get}
use Rattle.std.proofs.lemmas.Option.{none-some, same_Some}
use Rattle.std.proofs.lemmas.Bool.Decides.{nat_tests}
use Rattle.chem_core.specs.declared.mol.Atom.{Atom}
use Rattle.chem_core.specs.declared.mol.Bond.{Bond}
use Rattle.chem_core.specs.Molecule.{Molecule}
use Rattle.smarts_parse.specs.declared.pattern.AtomPrim.{AtomPrim}
use Rattle.smarts_parse.specs.declared.pattern.AtomPrim.TheVariants as atoms
use Rattle.smarts_parse.specs.declared.pattern.BondPrim.{BondPrim}
use Rattle.smarts_parse.specs.declared.pattern.BondPrim.TheVariants as bonds
use Rattle.smarts_parse.specs.Pattern.{Term, Prim, Not, And, Or}
use Rattle.smarts_parse.specs.Truth.{AtomPrimTrue, AtomTrue, BondPrimTrue, BondTrue}
use Rattle.path_print.specs.Path.{Family, exact, plain, label_of}
use Rattle.path_print.specs.Implied.{same_flag, prim_implies, implied, prim_byte, implied_byte}
use Rattle.path_print.specs.Prints.{kind_byte, molecule_view}
use Rattle.path_print.proofs.Options.{and_then_some, map_some, either_some, alike_some}

eq-nat : (m n : ℕ) → nat_eq m n ≡ true → m ≡ n
eq-nat m n h = grind (arith, nat_tests)

cond_same : (b : Bool) (x y : ℕ) → cond b (Some x) None ≡ Some y → x ≡ y
cond_same true x y h = same_Some x y h
cond_same false x y h = absurd (none-some y h)

-- ---- atoms

prim_number : (parts : ℕ → ℕ → Type 0) (p : AtomPrim) (m : Molecule) (a : ℕ) (x : Atom) (n : ℕ)
    → AtomPrimTrue parts p m a x → (prim_implies p).number ≡ Some n → x.number ≡ n
prim_number parts (atoms.Symbol number lower) m a x n t h = t.0 ∙ same_Some number n h
prim_number parts (atoms.Number k) m a x n t h = t ∙ cond_same (nat_le k 103) k n h
prim_number parts _ m a x n t h = absurd (none-some n h)

prim_flag : (parts : ℕ → ℕ → Type 0) (p : AtomPrim) (m : Molecule) (a : ℕ) (x : Atom) (b : Bool)
    → AtomPrimTrue parts p m a x → (prim_implies p).aromatic ≡ Some b → x.aromatic ≡ b
prim_flag parts (atoms.Symbol number lower) m a x b t h = t.1 ∙ same_Some lower b h
prim_flag parts atoms.Aromatic m a x b t h = t ∙ same_Some true b h
prim_flag parts atoms.Aliphatic m a x b t h = t ∙ same_Some false b h
prim_flag parts _ m a x b t h = absurd (none-some b h)

pub number_is_so : (parts : ℕ → ℕ → Type 0) (e : Term AtomPrim) (m : Molecule) (a n : ℕ) → AtomTrue parts e m a
    → (implied e).number ≡ Some n → (x : Atom) × (slice_get m.atoms a ≡ Some x) × (x.number ≡ n)
number_is_so parts (Prim p) m a n t h = (t.0, t.1, prim_number parts p m a t.0 n t.2 h)
number_is_so parts (Not e) m a n t h = absurd (none-some n h)
number_is_so parts (And e f) m a n t h =
    ⊎_elim (λ g. number_is_so parts e m a n t.0 g) (λ g. number_is_so parts f m a n t.1 g)
    (either_some (implied e).number (implied f).number n h)
number_is_so parts (Or e f) m a n t h =
    let both = alike_some nat_eq (implied e).number (implied f).number n h in
    let same : both.1.0 ≡ n = sym (eq-nat n both.1.0 both.1.2) in
    ⊎_elim (λ g. number_is_so parts e m a n g both.0) (λ g. number_is_so parts f m a n g (both.1.1 ∙ ap Some same)) t

same_flags : (b c : Bool) → same_flag b c ≡ true → c ≡ b
same_flags true c h = h
same_flags false true h = sym h
same_flags false false h = refl

pub flag_is_so : (parts : ℕ → ℕ → Type 0) (e : Term AtomPrim) (m : Molecule) (a : ℕ) (b : Bool) → AtomTrue parts e m a
    → (implied e).aromatic ≡ Some b → (x : Atom) × (slice_get m.atoms a ≡ Some x) × (x.aromatic ≡ b)
flag_is_so parts (Prim p) m a b t h = (t.0, t.1, prim_flag parts p m a t.0 b t.2 h)
flag_is_so parts (Not e) m a b t h = absurd (none-some b h)
flag_is_so parts (And e f) m a b t h =
    ⊎_elim (λ g. flag_is_so parts e m a b t.0 g) (λ g. flag_is_so parts f m a b t.1 g)
    (either_some (implied e).aromatic (implied f).aromatic b h)
flag_is_so parts (Or e f) m a b t h =
    let both = alike_some same_flag (implied e).aromatic (implied f).aromatic b h in
    let same : both.1.0 ≡ b = same_flags b both.1.0 both.1.2 in
    ⊎_elim (λ g. flag_is_so parts e m a b g both.0) (λ g. flag_is_so parts f m a b g (both.1.1 ∙ ap Some same)) t

pub label_is_so : (parts : ℕ → ℕ → Type 0) (family : Family) (e : Term AtomPrim) (m : Molecule) (a : ℕ) (l : ℕ × ℕ)
    → AtomTrue parts e m a → label_of family (implied e) ≡ Some l → (molecule_view m family).label a ≡ Some l
label_is_so parts exact e m a l t h =
    let first = and_then_some _ (implied e).number l h in
    let second = and_then_some _ (implied e).aromatic l first.2 in
    let x = number_is_so parts e m a first.0 t first.1 in
    let y = flag_is_so parts e m a second.0 t second.1 in
    let one : x.0 ≡ y.0 = same_Some x.0 y.0 (sym x.1 ∙ y.1) in
    let flag : x.0.aromatic ≡ second.0 = ap (λ z. z.aromatic) one ∙ y.2 in
    rw (x.1, x.2, flag) second.2
label_is_so parts plain e m a l t h =
    let first = map_some _ (implied e).number l h in
    let x = number_is_so parts e m a first.0 t first.1 in
    rw (x.1, x.2) (ap Some first.2)

-- ---- bonds

prim_bond : (p : BondPrim) (m : Molecule) (b : ℕ) (x : Bond) (n : ℕ) → BondPrimTrue p m b x → prim_byte p ≡ Some n
    → kind_byte x.kind ≡ n
prim_bond bonds.Single m b x n t h = rw t (same_Some 1 n h)
prim_bond bonds.Double m b x n t h = rw t (same_Some 2 n h)
prim_bond bonds.Triple m b x n t h = rw t (same_Some 3 n h)
prim_bond bonds.Quad m b x n t h = rw t (same_Some 4 n h)
prim_bond bonds.Aromatic m b x n t h = rw t (same_Some 1 n h)
prim_bond bonds.Unwritten m b x n t h = ⊎_elim (λ e. rw e (same_Some 1 n h)) (λ e. rw e (same_Some 1 n h)) t
prim_bond bonds.Any m b x n t h = absurd (none-some n h)
prim_bond bonds.Ring m b x n t h = absurd (none-some n h)

pub byte_is_so : (e : Term BondPrim) (m : Molecule) (b n : ℕ) → BondTrue e m b → implied_byte e ≡ Some n
    → (x : Bond) × (slice_get m.bonds b ≡ Some x) × (kind_byte x.kind ≡ n)
byte_is_so (Prim p) m b n t h = (t.0, t.1, prim_bond p m b t.0 n t.2 h)
byte_is_so (Not e) m b n t h = absurd (none-some n h)
byte_is_so (And e f) m b n t h =
    ⊎_elim (λ g. byte_is_so e m b n t.0 g) (λ g. byte_is_so f m b n t.1 g)
    (either_some (implied_byte e) (implied_byte f) n h)
byte_is_so (Or e f) m b n t h =
    let both = alike_some nat_eq (implied_byte e) (implied_byte f) n h in
    let same : both.1.0 ≡ n = sym (eq-nat n both.1.0 both.1.2) in
    ⊎_elim (λ g. byte_is_so e m b n g both.0) (λ g. byte_is_so f m b n g (both.1.1 ∙ ap Some same)) t
