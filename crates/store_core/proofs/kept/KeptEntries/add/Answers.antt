use Rattle.std.proofs.Common.{◌≡◌, ◌<◌, All, arith, IfSome, option_map, refl, Some, subst, sym}
use Rattle.std.specs.Arc.{arc_value}
use Rattle.record_versions.specs.Entries.{chain_of}
use Rattle.store_core.specs.Kept.{Kept, KeptTerm}
use Rattle.store_core.proofs.Indexed.{IsPair, indexed-more, indexed-none, lacks}
use Rattle.store_core.proofs.kept.KeptEntries.add.Goals as goal
use Rattle.store_core.proofs.kept.KeptEntries.add.Goals.{then-is_some, else-is_some}

pub add-requires-clause-absent : goal.add-requires-clause-absent
add-requires-clause-absent c =
    lacks c.self.inside.chains c.supersede.new.index.entries c.args.id c.args.version
    (subst (λ (t : KeptTerm). All (λ (k : Kept). k.version < c.args.version) (chain_of t.chains c.args.id))
    (sym c.self.view_is) c.requires.later)
    (omega (arith, c.ranges.version)) c.supersede.ensures.indexed

room : (c : goal.After-add-2) → IfSome c.args.entry (λ r. option_map (λ p. arc_value p.1) c.supersede.new.index.reserved
    ≡ Some (arc_value r))
room c =
    rw c.supersede.ensures.reserved
    (subst (λ (t : KeptTerm). IfSome c.args.entry (λ r. t.reserved ≡ Some (arc_value r))) (sym c.self.view_is)
    c.requires.room.record_is)

pub invariant_of-self : goal.invariant_of-self
invariant_of-self c =
    let k : Kept = record { version = c.args.version; value = c.args.entry } in
    let later = subst (λ (t : KeptTerm). All (λ (k : Kept). k.version < c.args.version) (chain_of t.chains c.args.id))
    (sym c.self.view_is) c.requires.later in
    let xs = c.supersede.new.index.entries in
    elim c.if-is_some.branch [
      | then-is_some w ↦ rw w.self-inside-is (
        indexed-more c.self.inside.chains c.add-2.new.self xs c.args.id k
            (rw w.self-inside-is at c.add-2.ensures.chains)
            later c.supersede.ensures.until c.supersede.ensures.indexed c.supersede.new.index.reserved c.args.entry refl
            (sym w.if-is_some.ensures) (room c) (omega (arith, c.ranges.version))
            (subst IsPair (sym c.supersede.ensures.reserved) c.self.invariant.1) w.add.new.self.entries
            w.add.ensures.entries,
        subst IsPair (sym w.add.ensures.reserved) tt,
      )
      | else-is_some w ↦ rw w.self-inside-is (
        indexed-none c.self.inside.chains c.add-2.new.self xs c.args.id k
            (rw w.self-inside-is at c.add-2.ensures.chains)
            later c.supersede.ensures.until c.supersede.ensures.indexed (sym w.if-is_some.ensures),
        subst IsPair (sym c.supersede.ensures.reserved) c.self.invariant.1,
      )
    ]
