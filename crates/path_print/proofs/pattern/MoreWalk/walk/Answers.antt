use Rattle.std.proofs.Common.{ℕ, ◌+◌, ◌*◌, ◌-◌, ◌<◌, ◌≡◌, ◌⊎◌, ◌∷◌, length, reverse, get_or, sym, ap, ◌∙◌, subst, arith}
use Rattle.std.specs.Prelude.{All}
use Rattle.smarts_parse.specs.Pattern.{graph_of}
use Rattle.path_print.specs.Texts.{IsBitFrom, IsBitHere, SetsBits, last_of}
use Rattle.path_print.specs.Sheets.{IsAtom, views_of}
use Rattle.path_print.proofs.Sheets.{row_neighbour}
use Rattle.path_print.proofs.Ways.{IsBitVia, sets_more, sets_none, sets_from, sets_spent}
use Rattle.path_print.proofs.Grown.{all_turned}
use Rattle.path_print.proofs.Twins.{sets_all}
use Rattle.path_print.proofs.pattern.MoreWalk.walk.Goals as goal
use Rattle.path_print.proofs.pattern.MoreWalk.walk.Goals.{in-Some, in_default}

pub returns-then-has_all : goal.returns-then-has_all
returns-then-has_all g c =
    sets_all (views_of c.args.sheet.now) c.args.path.now.atoms c.args.print.now (c.has_all.ensures c.if-has_all.true)

pub walk-requires-clause-atoms : goal.walk-requires-clause-atoms
walk-requires-clause-atoms g c =
    let s = c.args.sheet.now in
    let atoms = c.args.path.now.atoms in
    let last : ℕ = c.from-last.result in
    let to : ℕ → ℕ = λ k. get_or s.rows.now (256 * last + k) 0 in
    let is : last ≡ last_of atoms = c.from-last.ensures ∙ c.last.ensures in
    let some = c.requires.path.some in
    let hx : IsAtom s (last_of atoms) = c.requires.atoms (length atoms - 1) 0 (omega (arith, some)) in
    let row = c.requires.sheet.neighbours last (subst (IsAtom s) (sym is) hx) in
    let lt : c.loop-place.place < get_or s.counts.now last 0 = omega arith in
    let at : to c.loop-place.place ≡ c.from-in-loop-place.result = ap to (sym c.from.ensures)
    ∙ sym c.from-in-loop-place.ensures in
    subst (All (IsAtom s)) (sym c.in-Some.ensures.some.atoms)
    (all_turned (IsAtom s) atoms c.from-in-loop-place.result c.requires.atoms
    (subst (IsAtom s) at (row.within c.loop-place.place lt)))

pub returns-then-is_spent : goal.returns-then-is_spent
returns-then-is_spent g c =
    sets_spent (views_of c.args.sheet.now) c.args.path.now c.requires.path (c.is_spent.ensures.0 c.if-is_spent.true)
    c.args.print.now c.mark.new.print c.mark.ensures.bits

pub loop-place-preserved : goal.loop-place-preserved
loop-place-preserved g c =
    let s = c.args.sheet.now in
    let views = views_of s in
    let atoms = c.args.path.now.atoms in
    let to : ℕ → ℕ = λ k. get_or s.rows.now (256 * c.from-last.result + k) 0 in
    let at : to c.loop-place.place ≡ c.from-in-loop-place.result = ap to (sym c.from.ensures)
    ∙ sym c.from-in-loop-place.ensures in
    sets_more (IsBitHere c.args.path.now) (λ k bit. IsBitFrom views (to k ∷ reverse atoms) bit) c.loop-place.place
    c.args.print.now c.loop-place.print c.match-path_to.print c.loop-place.invariant
    (subst (λ y. SetsBits (IsBitFrom views (y ∷ reverse atoms)) c.loop-place.print c.match-path_to.print) (sym at)
    (elim c.match-path_to.branch [
      | in-Some w ↦
          let longer = w.in-Some.ensures.some in
          subst (λ print. SetsBits (IsBitFrom views (c.from-in-loop-place.result ∷ reverse atoms)) c.loop-place.print
          print) (sym w.print-is)
          (subst (λ xs. SetsBits (IsBitFrom views xs) c.loop-place.print w.walk.new.print) longer.atoms w.walk.ensures)
      | in_default w ↦
          subst (λ print. SetsBits (IsBitFrom views (c.from-in-loop-place.result ∷ reverse atoms)) c.loop-place.print
          print) (sym w.print-is)
          (sets_none (IsBitFrom views (c.from-in-loop-place.result ∷ reverse atoms)) c.loop-place.print
          w.in_default.ensures.none)
    ]))

pub returns : goal.returns
returns g c =
    let s = c.args.sheet.now in
    let g = graph_of s.graph.now in
    let views = views_of s in
    let atoms = c.args.path.now.atoms in
    let last : ℕ = c.from-last.result in
    let to : ℕ → ℕ = λ k. get_or s.rows.now (256 * last + k) 0 in
    let is : last ≡ last_of atoms = c.from-last.ensures ∙ c.last.ensures in
    let some = c.requires.path.some in
    let hx : IsAtom s (last_of atoms) = c.requires.atoms (length atoms - 1) 0 (omega (arith, some)) in
    let whole : c.loop-place.place ≡ get_or s.counts.now last 0 = omega arith in
    sets_from views c.args.path.now c.requires.path to (get_or s.counts.now last 0)
    (λ family y b h. row_neighbour g s.known.now s.square.now s.rows.now s.counts.now c.requires.sheet family last
    (last_of atoms) y b is hx h)
    c.args.print.now c.loop-place.print
    (subst (λ n. SetsBits (λ bit. IsBitHere c.args.path.now bit ⊎ IsBitVia views atoms to n bit) c.args.print.now
    c.loop-place.print) whole c.loop-place.invariant)
