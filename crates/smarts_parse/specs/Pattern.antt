-- Patterns as plain trees, without their places in memory.
use Rattle.std.specs.Prelude.{ℕ, List, map}
use Rattle.smarts_parse.specs.declared.pattern.AtomPrim.{AtomPrim}
use Rattle.smarts_parse.specs.declared.pattern.BondPrim.{BondPrim}
use Rattle.smarts_parse.specs.declared.pattern.Expr.{Expr}
use Rattle.smarts_parse.specs.declared.pattern.Expr.TheVariants as in_memory
use Rattle.smarts_parse.specs.declared.pattern.PatBond as pat_bond
use Rattle.smarts_parse.specs.declared.pattern.Graph as graph
use Rattle.smarts_parse.specs.declared.pattern.Pattern as pattern

-- an expression over primitives
pub data Term (P : Type 0) : Type 0 where
  Prim : P → Term P
  Not : Term P → Term P
  And : Term P → Term P → Term P
  Or : Term P → Term P → Term P

-- a bond of a pattern
pub record BondTerm : Type 0 where
  pub a : ℕ
  pub b : ℕ
  pub expr : Term BondPrim

-- an expression for each atom, bonds between them, and the group of each atom: from 1 on, or 0 for no group
pub record GraphTerm : Type 0 where
  pub atoms : List (Term AtomPrim)
  pub bonds : List BondTerm
  pub groups : List ℕ

pub record PatternTerm : Type 0 where
  pub top : GraphTerm
  pub recs : List GraphTerm

abbrev pub term_of : {P : Type 0} → Expr P → Term P
term_of (in_memory.Prim x) = Prim x
term_of (in_memory.Not' p e) = Not (term_of e)
term_of (in_memory.And' p a q b) = And (term_of a) (term_of b)
term_of (in_memory.Or' p a q b) = Or (term_of a) (term_of b)

abbrev pub bond_of : pat_bond.PatBond → BondTerm
bond_of b = record { a = b.a; b = b.b; expr = term_of b.expr }

abbrev pub graph_of : graph.Graph → GraphTerm
graph_of g =
    record { atoms = map term_of g.atoms.items; bonds = map bond_of g.bonds.items; groups = g.groups.items }

abbrev pub pattern_of : pattern.Pattern → PatternTerm
pattern_of p = record { top = graph_of p.top; recs = map graph_of p.recs.items }
