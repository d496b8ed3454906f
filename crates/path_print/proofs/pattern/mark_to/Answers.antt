use Rattle.std.proofs.Common.{◌∷◌, reverse, ap, ◌∙◌, subst, arith}
use Rattle.path_print.specs.Texts.{IsBitFrom, SetsBits}
use Rattle.path_print.specs.Sheets.{views_of}
use Rattle.path_print.proofs.Grown.{length-turned}
use Rattle.path_print.proofs.Ways.{sets_full, sets_none}
use Rattle.std.proofs.Common.{length}
use Rattle.path_print.proofs.pattern.mark_to.Goals as goal

pub returns-in-Some : goal.returns-in-Some
returns-in-Some c =
    let views = views_of c.args.sheet.now in
    let whole = c.in-Some.ensures.some in
    let one = ap length whole.atoms ∙ length-turned c.args.path.now.atoms c.args.atom in
    subst (λ xs. SetsBits (IsBitFrom views xs) c.args.print.now c.mark.new.print) whole.atoms
    (sets_full views c.in-Some.whole whole.on (omega (arith, one, c.requires.room)) c.args.print.now
    c.mark.new.print c.mark.ensures.bits)

pub returns-in_default : goal.returns-in_default
returns-in_default c =
    sets_none (IsBitFrom (views_of c.args.sheet.now) (c.args.atom ∷ reverse c.args.path.now.atoms)) c.args.print.now
    c.in_default.ensures.none
