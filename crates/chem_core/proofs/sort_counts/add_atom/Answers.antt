use Rattle.std.proofs.Common.{◌≡◌, ℕ, Bool, ap, arith, cond}
use Rattle.chem_core.specs.Sorts.{atom_sort, has_class}
use Rattle.chem_core.proofs.Sorts.{raised-next, raised-none}
use Rattle.chem_core.proofs.sort_counts.add_atom.Goals as goal

pub loop-k-init : goal.loop-k-init
loop-k-init c = raised-none _ _ (omega arith)

pub loop-k-preserved : goal.loop-k-preserved
loop-k-preserved c =
    let i = c.loop-k.k in
    let bit = rw c.atom_sorts-sorts.ensures.value at c.has_bit-more.ensures in
    let more : cond {A = ℕ} c.has_bit-more.result 1 0 ≡ cond {A = ℕ} (has_class (atom_sort i) c.args.class) 1 0 =
    ap (λ (b : Bool). cond {A = ℕ} b 1 0) bit in
    raised-next _ _ _ i c.raise-raised.result (omega arith) (omega (arith, more, c.raise-raised.ensures))
    c.loop-k.invariant

pub returns : goal.returns
returns c k low = c.loop-k.invariant.done k (omega (arith, low, c.loop-k-test.false))
