use Rattle.std.proofs.Common.{◌≡◌, ℕ, ◌+◌, List, [], ◌∷◌, ◌++◌, map, sym, ◌∙◌, ap, subst, arith}
use Rattle.std.proofs.lemmas.List.{map-append, nil_from_length}
use Rattle.std.proofs.lemmas.Result.{err_from_is_err_and}
use Rattle.std.proofs.lemmas.Grind.{common_steps}
use Rattle.line_walk.specs.Tree as walk
use Rattle.smarts_words.specs.Words.{smarts_words}
use Rattle.smarts_parse.specs.Whole.{part_texts}
use Rattle.smarts_parse.specs.Draft.{Read, Left, left_of, at_level}
use Rattle.smarts_parse.proofs.Worklist.{Worklist, start, all_read, one_more, last_tree, last_level, last_fits}
use Rattle.smarts_parse.proofs.draft.read_draft.Goals as goal

pub parts-init : goal.parts-init
parts-init c =
    let text = c.args.text.now in
    let d = c.in_ok-items.items in
    let r = c.in_ok-items.ensures.found in
    let w = start text r.first r.others r.are r.spelled d.groups.items r.grouped c.take.new.self d.reader r.depth
    r.holds c.take.ensures in
    let e = c.in_ok-put_parts.ensures ∙ ap (λ v. map left_of v ++ at_level 1 (part_texts c.deref.result.now))
    c.new-left.ensures.items ∙ ap (λ v. at_level 1 (part_texts v)) (c.deref.ensures.value ∙ r.holds.atoms) in
    let P : List Left → Type 0 = λ v. Worklist text d.reader d.groups.items c.take.new.self [] v in
    let Q : List Read → Type 0 = λ v. Worklist text d.reader d.groups.items c.take.new.self v
    (map left_of c.put_parts.new.left.items) in
    subst Q (sym c.new-parts.ensures.items) (subst P (sym e) w)

pub returns-in_err-reader-clause-only : goal.returns-in_err-reader-clause-only
returns-in_err-reader-clause-only c is whole all =
    let text = c.args.text.now in
    let init = map left_of c.pop.new.self.items in
    let x = left_of c.in-Some.part in
    let e = ap (map left_of) c.in-Some.ensures.items ∙ map-append left_of c.pop.new.self.items (c.in-Some.part ∷ []) in
    let P : List Left → Type 0 = λ v.
    Worklist text c.in_ok-items.items.reader c.in_ok-items.items.groups.items c.parts.sizes c.parts.parts.items v in
    let t = last_tree text _ _ c.parts.sizes c.parts.parts.items init x (subst P e c.parts.invariant) whole all in
    let Q : List ℕ → Type 0 = λ v. walk.IsTreeOf smarts_words v t.0 in
    let k = c.in_err-reader.ensures.only t.0 (subst Q (sym c.deref-in-Some.ensures.value) t.1) in
    let p = err_from_is_err_and c.from_residual-in_err-reader.result c.from_residual-in_err-reader.ensures.1 in
    let q = p.1 in
    let r = p.2 in
    absurd (cc)

pub overflow_add-part : goal.overflow_add-part
overflow_add-part c =
    let text = c.args.text.now in
    let init = map left_of c.pop.new.self.items in
    let x = left_of c.in-Some.part in
    let e = ap (map left_of) c.in-Some.ensures.items ∙ map-append left_of c.pop.new.self.items (c.in-Some.part ∷ []) in
    let P : List Left → Type 0 = λ v.
    Worklist text c.in_ok-items.items.reader c.in_ok-items.items.groups.items c.parts.sizes c.parts.parts.items v in
    let w = subst P e c.parts.invariant in
    omega (
      arith,
      last_level text _ _ c.parts.sizes c.parts.parts.items init x w,
      last_fits text _ _ c.parts.sizes
          c.parts.parts.items init x w,
    )

pub overflow_add-sizes : goal.overflow_add-sizes
overflow_add-sizes c =
    let p = c.in_ok-reader.ensures.found in
    let t = c.take-in-Some.ensures.parts in
    let f = c.parts.invariant.fits in
    omega arith

pub parts-smaller : goal.parts-smaller
parts-smaller c =
    let text = c.args.text.now in
    let init = map left_of c.pop.new.self.items in
    let x = left_of c.in-Some.part in
    let e = ap (map left_of) c.in-Some.ensures.items ∙ map-append left_of c.pop.new.self.items (c.in-Some.part ∷ []) in
    let P : List Left → Type 0 = λ v.
    Worklist text c.in_ok-items.items.reader c.in_ok-items.items.groups.items c.parts.sizes c.parts.parts.items v in
    let p = c.in_ok-reader.ensures.found in
    let t = c.take-in-Some.ensures.parts in
    omega (arith, last_fits text _ _ c.parts.sizes c.parts.parts.items init x (subst P e c.parts.invariant))

pub parts-preserved : goal.parts-preserved
parts-preserved c =
    let text = c.args.text.now in
    let d = c.in_ok-items.items in
    let init = map left_of c.pop.new.self.items in
    let x = left_of c.in-Some.part in
    let e = ap (map left_of) c.in-Some.ensures.items ∙ map-append left_of c.pop.new.self.items (c.in-Some.part ∷ []) in
    let P : List Left → Type 0 = λ v. Worklist text d.reader d.groups.items c.parts.sizes c.parts.parts.items v in
    let p = c.in_ok-reader.ensures.found in
    let Q : List ℕ → Type 0 = λ v. walk.IsTreeOf smarts_words v p.tree in
    let w = one_more text d.reader d.groups.items c.parts.sizes c.take-in-Some.new.self c.parts.parts.items init x
    p.tree c.in_ok-reader.reader (subst Q c.deref-in-Some.ensures.value p.is) p.depth p.holds c.take-in-Some.ensures
    (subst P e c.parts.invariant) in
    let f = c.in_ok-put_parts-2.ensures ∙ ap (λ v. map left_of c.pop.new.self.items
    ++ at_level (c.in-Some.part.level + 1) (part_texts v)) (c.deref-in-Some-2.ensures.value ∙ p.holds.atoms) in
    let counted = record c.take-in-Some.new.self { parts = c.take-in-Some.new.self.parts + 1 } in
    let g : c.push.new.self.items ≡ c.parts.parts.items ++ c.in_ok-reader.reader ∷ [] = grind (arith, common_steps) in
    let R : List Left → Type 0 = λ v.
    Worklist text d.reader d.groups.items counted (c.parts.parts.items ++ c.in_ok-reader.reader ∷ []) v in
    let T : List Read → Type 0 = λ v. Worklist text d.reader d.groups.items counted v
    (map left_of c.put_parts-in-Some.new.left.items) in
    subst T (sym g) (subst R (sym f) w)

pub returns-clause-found : goal.returns-clause-found
returns-clause-found c =
    let text = c.args.text.now in
    let d = c.in_ok-items.items in
    let none = c.in_default.ensures.cases in
    let e = nil_from_length c.parts.left.items (omega arith) in
    let P : List Left → Type 0 = λ v. Worklist text d.reader d.groups.items c.parts.sizes c.parts.parts.items v in
    all_read text (record {
      top = d.reader;
      parts = c.parts.parts;
      groups = d.groups;
      sizes = c.parts.sizes;
    }) (subst P (ap (map left_of) e) c.parts.invariant)
