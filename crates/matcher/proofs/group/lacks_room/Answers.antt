use Rattle.std.proofs.Common.{◌∙◌, ap, count_by}
use Rattle.std.proofs.lemmas.List.{length-map}
use Rattle.smarts_parse.specs.Pattern.{term_of}
use Rattle.matcher.specs.Group.{is_of_group}
use Rattle.matcher.proofs.Groups.{group_read, groups_room, no_room}
use Rattle.matcher.proofs.group.lacks_room.Goals as goal

pub returns : goal.returns
returns c = λ few.
    let task = c.args.task.now in
    let is = group_read task c.args.place c.index-group.result.now
    (groups_room task c.args.place c.requires.ready c.requires.place) c.index-group.ensures in
    no_room task c.args.place c.args.atom c.index-group.result.now c.places_of.result c.requires.place is
    c.if-group-eq0.false (c.requires.ready.searchable.groups ∙ length-map task.graph.now.atoms.items term_of)
    (c.places_of.ensures ∙ ap (count_by (is_of_group c.index-group.result.now)) c.deref.ensures.value)
    (c.has_few_atoms.ensures few)
