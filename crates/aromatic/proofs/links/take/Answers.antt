use Rattle.std.proofs.Common.{[], eqb, not, rules}
use Rattle.std.proofs.lemmas.List.{get_or-map}
use Rattle.aromatic.specs.declared.links.Link.{Link}
use Rattle.aromatic.proofs.Unlinks.{filter-from_retain, link-take}
use Rattle.aromatic.proofs.links.take.Goals as goal

pub returns : goal.returns
returns c =
    let kept = filter-from_retain _ (λ (l : Link). not (eqb l.bond c.args.place)) _ (λ x b f y k. search rules) _ _
    c.retain.ensures.filtered in
    rw c.from.ensures (link-take c.args.links.now c.args.from c.args.place _ c.retain.new.self c.requires
    (get_or-map (λ w. w.items) c.args.links.now c.args.from _ [] c.requires) (rw c.from.ensures at kept))
