use Rattle.std.proofs.Common.{◌∷◌, ◌-◌, ◌≡◌, inl, inr, reverse, length, refl, ap, sym, ◌∙◌, subst, arith}
use Rattle.std.specs.Prelude.{All}
use Rattle.std.proofs.lemmas.Bool.{false≢true}
use Rattle.smarts_parse.specs.Pattern.{graph_of}
use Rattle.path_print.specs.Texts.{IsOn, IsBitFrom, SetsBits, last_of}
use Rattle.path_print.specs.Sheets.{AreSet, IsAtom, views_of}
use Rattle.path_print.proofs.Sheets.{graph_symmetric}
use Rattle.path_print.proofs.Grown.{all_turned}
use Rattle.path_print.proofs.Ways.{from_step, longer_on, none_from, sets_none}
use Rattle.path_print.proofs.Twins.{twins_set, sets_again, more_set}
use Rattle.path_print.proofs.pattern.mark_twin.Goals as goal

pub returns-then-is_marked-clause-bits : goal.returns-then-is_marked-clause-bits
returns-then-is_marked-clause-bits c =
    let s = c.args.sheet.now in
    let views = views_of s in
    let atoms = c.args.path.now.atoms in
    let print = c.args.print.now in
    let twins = c.requires.twins in
    let step = c.requires.step in
    sets_again (IsBitFrom views (c.args.atom ∷ reverse atoms)) print
    (elim (c.is_marked.ensures.yes c.if-is_marked.true) [
      | inl both ↦
          let second = twins.second both in
          twins_set views (graph_symmetric (graph_of s.graph.now)) atoms (omega (arith, c.requires.room))
          c.args.twins.first second.0 c.args.atom print
          (λ family. step.byte family ∙ sym (twins.step.byte family))
          (λ family. step.label family ∙ sym (twins.step.label family))
          (λ family. step.byte family ∙ sym (second.1.byte family))
          (λ family. step.label family ∙ sym (second.1.label family))
          twins.new second.2 second.3 twins.marked second.4
      | inr first ↦ subst (λ y. AreSet views (y ∷ reverse atoms) print) (sym first) twins.marked
    ])

pub mark_to-requires-clause-path : goal.mark_to-requires-clause-path
mark_to-requires-clause-path c =
    let s = c.args.sheet.now in
    let step = c.requires.step in
    let one = c.in-Some.ensures.value in
    subst (IsOn (views_of s)) (sym one)
    (longer_on (views_of s) (graph_symmetric (graph_of s.graph.now)) c.args.path.now c.requires.path c.args.atom
    c.args.twins.step.byte c.args.twins.step.known step.byte step.label c.in-Some.ensures.new c.in-Some.ensures.room)

pub mark_to-requires-clause-last : goal.mark_to-requires-clause-last
mark_to-requires-clause-last c =
    let s = c.args.sheet.now in
    let atoms = c.args.path.now.atoms in
    let turned = c.args.atom ∷ reverse atoms in
    let all : All (IsAtom s) turned = all_turned (IsAtom s) atoms c.args.atom c.requires.atoms c.requires.atom in
    let is : c.in-Some.longer.atoms ≡ turned = ap (λ p. p.atoms) c.in-Some.ensures.value in
    subst (λ xs. IsAtom s (last_of xs)) (sym is) (all (length turned - 1) 0 (omega arith))

pub returns-in-Some-clause-bits : goal.returns-in-Some-clause-bits
returns-in-Some-clause-bits c =
    let s = c.args.sheet.now in
    let views = views_of s in
    let atoms = c.args.path.now.atoms in
    let twins = c.requires.twins in
    let step = c.requires.step in
    let sets = subst (λ xs. SetsBits (IsBitFrom views (c.args.twins.first ∷ reverse xs)) c.args.print.now
    c.mark_to.new.print) (ap (λ p. p.atoms) c.in-Some.ensures.value) c.mark_to.ensures in
    let fresh = c.is_marked.ensures.no (λ yes. false≢true (sym c.if-is_marked.false ∙ yes)) in
    more_set (IsBitFrom views (c.args.twins.first ∷ reverse (c.args.atom ∷ reverse atoms)))
    (IsBitFrom views (c.args.atom ∷ reverse atoms)) c.args.print.now c.mark_to.new.print sets
    (from_step views (c.args.atom ∷ reverse atoms) c.args.twins.first)
    (twins_set views (graph_symmetric (graph_of s.graph.now)) atoms (omega (arith, c.requires.room))
    c.args.twins.first c.args.atom c.args.atom c.mark_to.new.print
    (λ family. step.byte family ∙ sym (twins.step.byte family))
    (λ family. step.label family ∙ sym (twins.step.label family)) (λ family. refl) (λ family. refl)
    twins.new c.in-Some.ensures.new fresh
    (λ bit from. (sets.bits bit).1 (inl (twins.marked bit from))) (λ bit from. (sets.bits bit).1 (inr from)))

pub returns-in-Some-clause-twins : goal.returns-in-Some-clause-twins
returns-in-Some-clause-twins c =
    let views = views_of c.args.sheet.now in
    let twins = c.requires.twins in
    let sets = subst (λ xs. SetsBits (IsBitFrom views (c.args.twins.first ∷ reverse xs)) c.args.print.now
    c.mark_to.new.print) (ap (λ p. p.atoms) c.in-Some.ensures.value) c.mark_to.ensures in
    record {
      atom = twins.atom;
      step = twins.step;
      new = twins.new;
      marked = λ bit from. (sets.bits bit).1 (inl (twins.marked bit from));
      second = λ both. (
        c.args.atom,
        c.requires.step,
        c.in-Some.ensures.new,
        c.is_marked.ensures.no (λ yes. false≢true (sym c.if-is_marked.false ∙ yes)),
        λ bit from. (sets.bits bit).1 (inr from),
      );
    }

pub returns-in-None-clause-bits : goal.returns-in-None-clause-bits
returns-in-None-clause-bits c =
    let s = c.args.sheet.now in
    let step = c.requires.step in
    sets_none (IsBitFrom (views_of s) (c.args.atom ∷ reverse c.args.path.now.atoms)) c.args.print.now
    (none_from (views_of s) (graph_symmetric (graph_of s.graph.now)) c.args.path.now c.requires.path c.args.atom
    c.args.twins.step.byte c.args.twins.step.known step.byte step.label c.in-None.ensures.none)
