use Rattle.std.proofs.Common.{sym, ◌∙◌}
use Rattle.std.proofs.lemmas.Bool.{false≢true}
use Rattle.exact_find.specs.Pairs.{Has, flip}
use Rattle.exact_find.proofs.Grow.{grow, none_value, read_at, refuse-alike, refuse-back, refuse-carried, refuse-paired, some_value}
use Rattle.exact_find.proofs.fit.fits.Goals as goal

pub returns-then-is_some-clause-refused : goal.returns-then-is_some-clause-refused
returns-then-is_some-clause-refused c = λ no' ext.
    refuse-paired c.args.left.now c.args.right.now c.args.pairs.now c.args.a c.args.b c.requires.free
    (some_value c.partner_back.result (Has (flip c.args.pairs.now) c.args.b) (sym c.is_some.ensures ∙ c.if-is_some.true)
    c.partner_back.ensures.some) ext

pub returns-then-not-is_alike-clause-refused : goal.returns-then-not-is_alike-clause-refused
returns-then-not-is_alike-clause-refused c = λ no' ext.
    refuse-alike c.args.left.now c.args.right.now c.args.pairs.now c.args.a c.args.b _ _
    (read_at c.args.left.now.atoms c.atoms.result.now c.args.a c.from.result _ c.atoms.ensures.value c.from.ensures
    c.requires.a_in_range)
    (read_at c.args.right.now.atoms c.atoms-2.result.now c.args.b c.from-2.result _ c.atoms-2.ensures.value
    c.from-2.ensures c.requires.b_in_range)
    (λ like. false≢true (sym c.if-not-is_alike.true ∙ c.is_alike.ensures.1 like)) ext

pub returns-then-not-is_carried-clause-refused : goal.returns-then-not-is_carried-clause-refused
returns-then-not-is_carried-clause-refused c = λ no' ext.
    refuse-carried c.args.left.now c.args.right.now c.args.pairs.now c.args.a c.args.b
    (λ all. false≢true (sym c.if-not-is_carried.true ∙ c.is_carried.ensures.1 all)) ext

pub returns-clause-fits : goal.returns-clause-fits
returns-clause-fits c = λ yes'.
    grow c.args.left.now c.args.right.now c.args.pairs.now c.args.a c.args.b _ _ c.atoms.ensures.valid
    c.atoms-2.ensures.valid
    (read_at c.args.left.now.atoms c.atoms.result.now c.args.a c.from.result _ c.atoms.ensures.value c.from.ensures
    c.requires.a_in_range)
    (read_at c.args.right.now.atoms c.atoms-2.result.now c.args.b c.from-2.result _ c.atoms-2.ensures.value
    c.from-2.ensures c.requires.b_in_range)
    (c.is_alike.ensures.0 c.if-not-is_alike.false) c.requires.free
    (none_value c.partner_back.result _ (sym c.is_some.ensures ∙ c.if-is_some.false) c.partner_back.ensures.none)
    (c.is_carried.ensures.0 c.if-not-is_carried.false) (c.is_carried_back.ensures.0 yes') c.requires.partial

pub returns-clause-refused : goal.returns-clause-refused
returns-clause-refused c = λ no' ext.
    refuse-back c.args.left.now c.args.right.now c.args.pairs.now c.args.a c.args.b c.atoms.ensures.valid
    (λ all. false≢true (sym no' ∙ c.is_carried_back.ensures.1 all)) ext
