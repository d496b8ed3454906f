-- One bond at most joins the two atoms.
use Rattle.std.proofs.Common.{subst}
use Rattle.smarts_parse.specs.Pattern.{term_of}
use Rattle.smarts_parse.specs.Truth.{BondTrue}
use Rattle.matcher.proofs.fit.are_joined_by.Goals as goal

pub returns-in-Some : goal.returns-in-Some
returns-in-Some c = (
  λ t. (c.in-Some.place, c.in-Some.ensures.found, c.bond_true.ensures.0 t),
  λ w. c.bond_true.ensures.1 (subst (BondTrue (term_of c.args.expr.now) c.args.mol.now)
      (c.in-Some.ensures.only w.0 w.1) w.2),
)
