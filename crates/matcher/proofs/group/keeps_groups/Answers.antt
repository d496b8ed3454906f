use Rattle.std.proofs.Common.{◌∙◌, subst, sym}
use Rattle.matcher.specs.Group.{KeepsGroup}
use Rattle.matcher.proofs.Groups.{group_read, groups_room}
use Rattle.matcher.proofs.group.keeps_groups.Goals as goal

pub returns : goal.returns
returns c =
    let task = c.args.task.now in
    let taken = c.args.taken.now in
    let is = group_read task c.args.place c.index-group.result.now
    (groups_room task c.args.place c.requires.ready c.requires.place) c.index-group.ensures in (
      λ t _. subst (λ group. KeepsGroup task taken group c.args.atom) is (c.keeps_group.ensures.0 t),
      λ keeps. c.keeps_group.ensures.1 (subst (λ group. KeepsGroup task taken group c.args.atom) (sym is)
          (keeps (λ z. c.if-group-eq0.false (is ∙ z)))),
    )
