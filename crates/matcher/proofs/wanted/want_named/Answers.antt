use Rattle.std.proofs.Common.{arith, bit_or, get_or, set, slice_index, subst, sym}
use Rattle.smarts_parse.specs.Sound.{PrimNamesBelow}
use Rattle.matcher.specs.Wanted.{IsWithin, PrimNames}
use Rattle.matcher.proofs.Asked.{set_within, within_set}
use Rattle.matcher.proofs.wanted.want_named.Goals as goal

pub returns-in-Rec-clause-more : goal.returns-in-Rec-clause-more
returns-in-Rec-clause-more c =
    let low = subst (PrimNamesBelow 64) c.in-Rec.is c.requires.names in
    within_set c.args.wanted.now c.from.result c.args.classes (omega (arith, low))

pub returns-in-Rec-clause-named : goal.returns-in-Rec-clause-named
returns-in-Rec-clause-named c =
    let low = subst (PrimNamesBelow 64) c.in-Rec.is c.requires.names in
    let wanted = c.args.wanted.now in
    let k = c.from.result in
    let new = set wanted k (bit_or (get_or wanted k 0) c.args.classes) in
    subst (PrimNames (λ part. IsWithin c.args.classes (slice_index new part))) (sym c.in-Rec.is)
    (subst (λ part. IsWithin c.args.classes (slice_index new part)) c.from.ensures
    (set_within wanted k c.args.classes (omega (arith, low))))
