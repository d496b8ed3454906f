use Rattle.std.proofs.Common.{◌≡◌, arith, length, subst, sym}
use Rattle.smarts_parse.specs.Pattern.{pattern_of}
use Rattle.matcher.specs.Wanted.{AreWanted}
use Rattle.matcher.proofs.Places.{take_all}
use Rattle.matcher.proofs.wanted.Wanted.find.Goals as goal

pub returns : goal.returns
returns c =
    let wanted = c.want_all.new.wanted in
    let same : length wanted ≡ c.args.self.now.classes.len = omega
    (arith, c.deref_mut-2.ensures.len, c.want_all.auto.wanted) in
    subst (AreWanted (pattern_of c.args.pattern.now))
    (sym (take_all c.args.self.now.classes.len wanted _ (sym same))) c.want_all.ensures
