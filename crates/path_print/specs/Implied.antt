-- The known facts of every atom and bond at which an expression is true, for callers.
use Rattle.std.specs.Prelude.{ℕ, Bool, true, false, not, nat_le, nat_eq, Option, None, Some, if◌then◌else◌}
use Rattle.smarts_parse.specs.declared.pattern.AtomPrim.{AtomPrim}
use Rattle.smarts_parse.specs.declared.pattern.AtomPrim.TheVariants as atoms
use Rattle.smarts_parse.specs.declared.pattern.BondPrim.{BondPrim}
use Rattle.smarts_parse.specs.declared.pattern.BondPrim.TheVariants as bonds
use Rattle.smarts_parse.specs.Pattern.{Term, Prim, Not, And, Or}
use Rattle.path_print.specs.declared.known.Known.{Known}

abbrev pub same_flag : Bool → Bool → Bool
same_flag true b = b
same_flag false b = not b

abbrev pub nothing : Known
nothing = record { number = None; aromatic = None }

-- the first, else the second
abbrev pub either : {A : Type 0} → Option A → Option A → Option A
either None y = y
either (Some x) y = Some x

-- the value of both, if it is the same
abbrev pub alike : {A : Type 0} → (A → A → Bool) → Option A → Option A → Option A
alike eq None y = None
alike eq (Some x) None = None
alike eq (Some x) (Some y) = if eq x y then Some x else None

-- A symbol says number and whether aromatic, `#n` the number of an element, `a` and `A` whether aromatic; nothing else
-- says any of these.
abbrev pub prim_implies : AtomPrim → Known
prim_implies (atoms.Symbol number lower) = record { number = Some number; aromatic = Some lower }
prim_implies (atoms.Number n) = record { number = (if nat_le n 103 then Some n else None); aromatic = None }
prim_implies atoms.Aromatic = record { number = None; aromatic = Some true }
prim_implies atoms.Aliphatic = record { number = None; aromatic = Some false }
prim_implies _ = nothing

abbrev pub both : Known → Known → Known
both k l = record { number = either k.number l.number; aromatic = either k.aromatic l.aromatic }

abbrev pub common : Known → Known → Known
common k l = record { number = alike nat_eq k.number l.number; aromatic = alike same_flag k.aromatic l.aromatic }

-- the facts that an atom expression implies
abbrev pub implied : Term AtomPrim → Known
implied (Prim p) = prim_implies p
implied (Not e) = nothing
implied (And e f) = both (implied e) (implied f)
implied (Or e f) = common (implied e) (implied f)

-- Single, aromatic and unwritten bonds have byte 1, double, triple and quadruple ones 2, 3 and 4.
abbrev pub prim_byte : BondPrim → Option ℕ
prim_byte bonds.Single = Some 1
prim_byte bonds.Aromatic = Some 1
prim_byte bonds.Unwritten = Some 1
prim_byte bonds.Double = Some 2
prim_byte bonds.Triple = Some 3
prim_byte bonds.Quad = Some 4
prim_byte bonds.Any = None
prim_byte bonds.Ring = None

-- the byte that a bond expression implies
abbrev pub implied_byte : Term BondPrim → Option ℕ
implied_byte (Prim p) = prim_byte p
implied_byte (Not e) = None
implied_byte (And e f) = either (implied_byte e) (implied_byte f)
implied_byte (Or e f) = alike nat_eq (implied_byte e) (implied_byte f)
