use Rattle.std.proofs.Common.{◌≡◌, false, true, length, get_or, set, ◌∙◌}
use Rattle.std.proofs.lemmas.List.{get_or-replicate}
use Rattle.aromatic.proofs.Routes.{flags-back}
use Rattle.aromatic.proofs.cycle.closes.Goals as goal

pub returns-clause-off : goal.returns-clause-off
returns-clause-off c =
    let off : get_or c.args.scratch.now.path.flags.items c.args.first.to false ≡ false =
    rw c.requires.off (get_or-replicate (length c.args.links.now) c.args.first.to false false c.requires.first) in
    let flagged : c.extend.new.path.flags.items ≡ set c.args.scratch.now.path.flags.items c.args.first.to true =
    c.in_ok-found.ensures.flags ∙ c.in_ok-push.ensures.flags in
    rw (c.from.ensures, flagged) (flags-back c.args.scratch.now.path.flags.items c.args.first.to off ∙ c.requires.off)
