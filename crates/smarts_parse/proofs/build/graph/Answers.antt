use Rattle.std.proofs.Common.{◌≡◌, ◌-◌, ◌<◌, List, false, length, map, drop, All, refl, sym, ◌∙◌, ap, subst, arith}
use Rattle.std.specs.List.{list_any, AllByRecursion}
use Rattle.line_walk.specs.declared.pairs.Link.{Link}
use Rattle.smarts_words.specs.Bracket.{AtomValue}
use Rattle.smarts_words.specs.declared.word.Step.{Step}
use Rattle.smarts_words.specs.declared.word.BondWord.{BondWord}
use Rattle.smarts_parse.specs.Pattern.{bond_of}
use Rattle.smarts_parse.specs.Whole.{part_texts}
use Rattle.smarts_parse.specs.Meaning.{atoms_steps, AreBondTerms}
use Rattle.smarts_parse.specs.Reading.{is_stereo}
use Rattle.smarts_parse.specs.Steps.{IsValue}
use Rattle.smarts_parse.proofs.Links.{IsKind}
use Rattle.smarts_parse.proofs.Ready.{few_texts, own_texts, enough_open, numbers_are, front_is, values_are, plain_is, kinds_are, ends_are, term_is}
use Rattle.smarts_parse.proofs.build.graph.Goals as goal

pub part_count-requires : goal.part_count-requires
part_count-requires c =
    let r = c.requires in
    let h = few_texts r.0 r.1 r.2 c.args.written.now c.args.unplaced.now.items r.3 in
    let e = ap (λ v. length (part_texts v)) c.deref.ensures.value in
    omega arith

pub overflow_sub-first : goal.overflow_sub-first
overflow_sub-first c =
    let r = c.requires in
    let h = enough_open r.0 r.1 r.2 c.args.written.now c.args.unplaced.now.items r.3 in
    let e = ap (λ v. length (part_texts v)) c.deref.ensures.value in
    omega (arith, c.len.ensures, c.part_count.ensures)

pub after-requires : goal.after-requires
after-requires c =
    let e = ap length c.deref-3.ensures.value in
    omega (arith, c.len.ensures)

pub atoms-requires-clause-are : goal.atoms-requires-clause-are
atoms-requires-clause-are c =
    let r = c.requires in
    let F : List AtomValue → Type 0 = λ v. AllByRecursion IsValue v in
    subst F (sym c.deref-2.ensures.value) (values_are r.0 r.1 r.2 c.args.written.now c.args.unplaced.now.items r.3)

pub atoms-requires-clause-plain : goal.atoms-requires-clause-plain
atoms-requires-clause-plain c =
    let r = c.requires in
    let F : List AtomValue → Type 0 = λ v. list_any (λ a. list_any is_stereo a.steps) v ≡ false in
    subst F (sym c.deref-2.ensures.value) (plain_is r.0 r.1 r.2 c.args.written.now c.args.unplaced.now.items r.3)

pub atoms-requires-clause-enough : goal.atoms-requires-clause-enough
atoms-requires-clause-enough c =
    let r = c.requires in
    let texts = c.part_count.ensures ∙ ap (λ v. length (part_texts v)) c.deref.ensures.value in
    let own = own_texts r.0 r.1 r.2 c.args.written.now c.args.unplaced.now.items r.3 in
    let first = c.len.result - c.part_count.result in
    let n : first ≡ length c.args.unplaced.now.items - length (part_texts c.args.written.now.atoms.items) =
    omega (arith, c.len.ensures) in
    let numbers = c.after.ensures ∙ ap (λ v. drop first v) c.deref-3.ensures.value
    ∙ numbers_are r.0 r.1 r.2 c.args.written.now c.args.unplaced.now.items r.3 first n in
    let e = ap length numbers in
    let f = ap (λ v. length (part_texts v)) c.deref-2.ensures.value in
    omega arith

pub bonds-requires-clause-kinds : goal.bonds-requires-clause-kinds
bonds-requires-clause-kinds c =
    let r = c.requires in
    let F : List (Link (List (Step BondWord))) → Type 0 = λ v. All (λ x. IsKind x.kind) v in
    subst F (sym c.deref-4.ensures.value) (kinds_are r.0 r.1 r.2 c.args.written.now c.args.unplaced.now.items r.3)

pub bonds-requires-clause-ends : goal.bonds-requires-clause-ends
bonds-requires-clause-ends c =
    let r = c.requires in
    let F : List (Link (List (Step BondWord))) → Type 0 = λ v. All (λ x. (x.a < 65536) × (x.b < 65536)) v in
    subst F (sym c.deref-4.ensures.value) (ends_are r.0 r.1 r.2 c.args.written.now c.args.unplaced.now.items r.3)

pub returns : goal.returns
returns c = λ nodes front numbers r.
    let written = c.args.written.now in
    let numbers_open = c.args.unplaced.now.items in
    let texts = c.part_count.ensures ∙ ap (λ v. length (part_texts v)) c.deref.ensures.value in
    let first = c.len.result - c.part_count.result in
    let n : first ≡ length numbers_open - length (part_texts written.atoms.items) = omega (arith, c.len.ensures) in
    let own = c.after.ensures ∙ ap (λ v. drop first v) c.deref-3.ensures.value
    ∙ numbers_are nodes front numbers written numbers_open r first n in
    let F : List (Link (List (Step BondWord))) → Type 0 = λ v.
    AreBondTerms v (map bond_of c.in_ok-bonds.bonds.items) in (
      term_is nodes front numbers written numbers_open r _ _
          (c.in_ok-atoms.ensures ∙ ap (λ v. atoms_steps v c.deref-2.result.now) own
          ∙ ap (λ v. atoms_steps numbers v) c.deref-2.ensures.value)
          (subst F c.deref-4.ensures.value c.in_ok-bonds.ensures) refl,
      c.truncate.ensures.items ∙ front_is nodes front numbers written numbers_open r first n,
    )
