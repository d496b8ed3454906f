use Rattle.std.proofs.Common.{[]}
use Rattle.std.proofs.lemmas.List.{get_or-map}
use Rattle.aromatic.proofs.LinkLists.{link-push}
use Rattle.aromatic.proofs.links.add.Goals as goal

pub returns : goal.returns
returns c = rw c.from.ensures (link-push c.args.links.now c.args.from c.args.link _ c.push.new.self c.requires
    (get_or-map (λ w. w.items) c.args.links.now c.args.from _ [] c.requires)
    (rw c.from.ensures at c.in_ok-push.ensures.ok))
