-- The table at the start meets the rule, and the root pass picks the origin.
use Rattle.std.proofs.Common.{rules, ap, ◌∙◌, ◌∷◌, ◌++◌, [], Some, refl}
use mathlib.Core.Option.{none}
use Rattle.atomic_table.specs.Table.{step}
use Rattle.turn_gate.proofs.Opening.{opens, picks}
use Rattle.turn_gate.proofs.gate.Gate.start.Goals as goal

pub new-requires : goal.new-requires
new-requires g c = rw c.of.ensures (opens _ _ c.args.value c.requires.stands.0 c.args.turns _ c.requires.stands.1
    (c.push_reserved.ensures.items ∙ ap (λ l. l ++ Some c.args.value ∷ []) c.in-Ok.ensures.items))

pub load-requires : goal.load-requires
load-requires g c =
    let made = c.in-Ok-new.ensures.ok in (
      made.2,
      search rules,
      rw made.4 (picks _ _ _ _ _ _ _ (step c.in-Ok-new.table.shared.table_id.slots 0 0 0 none) c.of.result.value refl
          refl),
    )
