-- The steps of a turn that begins, and of one that does not, keep the rule.
use Rattle.std.proofs.Common.{rules, ap, ◌∙◌, ◌∷◌, Some, sym, refl, arith}
use mathlib.Core.Option.{none}
use Rattle.atomic_table.specs.Table.{step, rest}
use Rattle.turn_gate.proofs.Lists.{single_is}
use Rattle.turn_gate.proofs.Adding.{looks, releases}
use Rattle.turn_gate.proofs.gate.Gate.begin.Goals as goal

pub load-count-requires : goal.load-count-requires
load-count-requires g c =
    let limit = c.requires.of.limit in
    let least = c.args.self.now.limits.0 in
    let origin = single_is _ c.requires.of.placed in (
      c.take.ensures.same ∙ c.requires.of.same,
      search rules,
      rw c.take.ensures.taken (looks _ g.V.Stands.tells _ _ _ _ _ _
          (step c.args.self.now.table.shared.table_id.slots 0 0 0 none) origin.0 refl origin.1
          (omega (arith, limit, least)) refl),
    )

pub store-requires : goal.store-requires
store-requires g c =
    let looked = c.load-count.ensures.2 in (
      c.load-count.ensures.0 ∙ (c.take.ensures.same ∙ c.requires.of.same),
      search rules,
      rw looked.sees (releases _ g.V.Stands.tells _ _ _ _ _ _
          (step c.args.self.now.table.shared.table_id.slots 1 0 0 none) looked.value looked.origin
          c.args.self.now.sized.1 (omega arith) looked.of refl looked.standing),
    )

pub exchange-requires : goal.exchange-requires
exchange-requires g c =
    let looked = c.load-count.ensures.2 in
    let away = ap (λ k. k.1) looked.sees in (
      c.load-count.ensures.0 ∙ (c.take.ensures.same ∙ c.requires.of.same),
      (
        Some looked.value,
        away ∙
            ap (λ l. (0, Some looked.value) ∷ rest l) (sym away),
      ),
    )
