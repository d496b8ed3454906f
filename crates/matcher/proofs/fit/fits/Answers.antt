-- A new atom, its expression true, its bonds embedded.
use Rattle.std.proofs.Common.{◌<◌, length, subst, sym}
use Rattle.std.proofs.lemmas.List.{length-map}
use Rattle.smarts_mean.specs.Table.{HoldsIn}
use Rattle.smarts_parse.specs.Pattern.{graph_of, term_of}
use Rattle.matcher.proofs.Groups.{keeps_next, next_keeps}
use Rattle.matcher.proofs.Partials.{IsPartial-last, IsPartial-push}
use Rattle.matcher.proofs.fit.fits.Goals as goal

pub returns-then-not-is_new : goal.returns-then-not-is_new
returns-then-not-is_new c = (
  λ t. absurd (cc),
  λ p.
      let last = IsPartial-last (HoldsIn c.args.task.now.table.now)
      (graph_of c.args.task.now.graph.now) c.args.task.now.mol.now c.args.front.now c.args.atom p in
      let is_new = c.is_new.ensures.1 last.0 in
      absurd (cc),
)

pub returns-then-not-keeps_groups : goal.returns-then-not-keeps_groups
returns-then-not-keeps_groups c = (
  λ t. absurd (cc),
  λ p.
      let task = c.args.task.now in
      let last = IsPartial-last (HoldsIn task.table.now) (graph_of task.graph.now) task.mol.now c.args.front.now
      c.args.atom p in
      let keeps = c.keeps_groups.ensures.1 (next_keeps task c.args.front.now c.args.atom last.3) in
      absurd (cc),
)

pub returns : goal.returns
returns c =
    let task = c.args.task.now in
    let g = graph_of task.graph.now in
    let m = task.mol.now in
    let parts = HoldsIn task.table.now in
    let front = c.args.front.now in
    let left = subst (λ n. length front < n) (sym (length-map task.graph.now.atoms.items term_of)) c.requires.few in (
      λ t. IsPartial-push parts g m front c.args.atom c.requires.partial left c.requires.in_range
          (c.is_new.ensures.0 c.if-not-is_new.false) c.requires.holds (c.closes.ensures.0 t)
          (keeps_next task front c.args.atom c.requires.partial
          (c.keeps_groups.ensures.0 c.if-not-keeps_groups.false)),
      λ p. c.closes.ensures.1 (IsPartial-last parts g m front c.args.atom p).2,
    )
