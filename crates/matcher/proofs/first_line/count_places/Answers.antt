use Rattle.std.proofs.Common.{◌≡◌, ◌∙◌, ap, arith, count_by, min, refl}
use Rattle.chem_core.specs.Sorts.{atom_sort}
use Rattle.matcher.specs.Class.{is_within}
use Rattle.matcher.proofs.Counted.{filled-next}
use Rattle.matcher.proofs.first_line.count_places.Goals as goal

pub loop-k-init : goal.loop-k-init
loop-k-init c = record { long = refl; done = λ k h. absurd (omega arith) }

pub loop-k-preserved : goal.loop-k-preserved
loop-k-preserved c =
    let i = c.loop-k.k in
    let number = rw c.atom_sorts-sorts.ensures.value at c.places_within-number.ensures in
    let is : c.saturated-count.result ≡ min 255 (count_by (is_within (atom_sort i)) c.args.places.now) =
    c.saturated-count.ensures ∙ ap (min 255) number in
    filled-next (λ k. min 255 (count_by (is_within (atom_sort k)) c.args.places.now)) c.loop-k.counts i
    c.saturated-count.result (omega arith) is c.loop-k.invariant

pub returns : goal.returns
returns c k low = c.loop-k.invariant.done k (omega (arith, low, c.loop-k-test.false))
