use Rattle.std.proofs.Common.{◌≤◌, ℕ, List, get_or, length, take, ap, sym, ◌∙◌, subst, arith, rules}
use Rattle.std.proofs.lemmas.Bool.{false≢true}
use Rattle.exact_find.specs.Colours.{AreMatched}
use Rattle.exact_find.proofs.Both.{all-matched, codes-kept}
use Rattle.exact_find.proofs.sides.Work.start.Goals as goal

pub returns-then-not-settle-clause-refused : goal.returns-then-not-settle-clause-refused
returns-then-not-settle-clause-refused c = λ no' f g all.
    let m = c.args.left.now in
    let n = c.args.right.now in
    let room : length m.atoms ≤ length c.start.new.self.list.items = search (rules, c.atoms.ensures.valid.graph.few_atoms) in
    let room_right : length n.atoms ≤ length c.start-2.new.self.list.items =
    search (rules, c.atoms-2.ensures.valid.graph.few_atoms) in
    let matched = subst (λ zs. AreMatched f g (take (length zs) c.start.new.self.list.items)
    (take (length c.atoms-2.result.now) c.start-2.new.self.list.items)) (sym c.atoms.ensures.value)
    (subst (λ zs. AreMatched f g (take (length m.atoms) c.start.new.self.list.items)
    (take (length zs) c.start-2.new.self.list.items)) (sym c.atoms-2.ensures.value)
    (all-matched m n f g c.start.new.self.list.items c.start-2.new.self.list.items room room_right c.start.ensures.listed
    c.start-2.ensures.listed all)) in
    let kept = codes-kept m n f g c.start.new.self.colours.items c.start-2.new.self.colours.items c.start.ensures.valid
    c.start-2.ensures.valid all c.start.ensures.coloured c.start-2.ensures.coloured in
    false≢true (sym c.if-not-settle.true ∙ (c.settle.ensures f g all matched kept).0)

pub returns-clause-kept : goal.returns-clause-kept
returns-clause-kept c = λ yes'.
    let m = c.args.left.now in
    let n = c.args.right.now in
    let room : length m.atoms ≤ length c.start.new.self.list.items = search (rules, c.atoms.ensures.valid.graph.few_atoms) in
    let room_right : length n.atoms ≤ length c.start-2.new.self.list.items =
    search (rules, c.atoms-2.ensures.valid.graph.few_atoms) in
    record {
      sound = c.atoms.ensures.valid;
      sound_right = c.atoms-2.ensures.valid;
      kept = λ f g all x inside.
          let matched = subst (λ zs. AreMatched f g (take (length zs) c.start.new.self.list.items)
          (take (length c.atoms-2.result.now) c.start-2.new.self.list.items)) (sym c.atoms.ensures.value)
          (subst (λ zs. AreMatched f g (take (length m.atoms) c.start.new.self.list.items)
          (take (length zs) c.start-2.new.self.list.items)) (sym c.atoms-2.ensures.value)
          (all-matched m n f g c.start.new.self.list.items c.start-2.new.self.list.items room room_right
          c.start.ensures.listed c.start-2.ensures.listed all)) in
          let kept = codes-kept m n f g c.start.new.self.colours.items c.start-2.new.self.colours.items
          c.start.ensures.valid c.start-2.ensures.valid all c.start.ensures.coloured c.start-2.ensures.coloured in
          let there = all.within x inside in
          c.copy.ensures.copied x (omega (arith, inside, ap length c.atoms-3.ensures.value))
          ∙ ap (λ (zs : List ℕ). get_or zs x 0) c.deref.ensures.value
          ∙ (c.settle.ensures f g all matched kept).1 x inside
          ∙ ap (λ (zs : List ℕ). get_or zs (f x) 0) (sym c.deref-2.ensures.value)
          ∙ sym (c.copy-2.ensures.copied (f x) (omega (arith, there, ap length c.atoms-4.ensures.value)));
    }
