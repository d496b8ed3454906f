use Rattle.std.proofs.Common.{arith}
use Rattle.std.proofs.lemmas.List.{length-map}
use Rattle.smarts_parse.specs.Pattern.{term_of}
use Rattle.matcher.proofs.Narrowings.{narrowed, none_left}
use Rattle.matcher.proofs.narrow.narrow_words.Goals as goal

pub bounds-words-place : goal.bounds-words-place
bounds-words-place c =
    let few = c.requires.ready.searchable.few in
    omega (arith, few, c.requires.room, length-map c.args.task.now.graph.now.atoms.items term_of)

pub loop-place-init : goal.loop-place-init
loop-place-init c = record {
  candidates = c.requires.candidates;
  last = record { enough = λ a l h _. h; within = λ a h. h };
}

pub loop-place-preserved : goal.loop-place-preserved
loop-place-preserved c =
    let few = c.requires.ready.searchable.few in
    record {
      candidates = narrowed c.args.task.now c.args.near.now c.loop-place.words c.loop-place.place
          c.narrow_word-last.result.kept _ c.requires.few
          (omega (arith, few, c.requires.room, length-map c.args.task.now.graph.now.atoms.items term_of))
          (c.requires.around c.loop-place.place (omega (arith, c.loop-place-test.true)))
          c.loop-place.invariant.candidates c.narrow_word-last.ensures.kept.enough
          c.narrow_word-last.ensures.kept.within;
      last = c.narrow_word-last.ensures.last;
    }

pub returns-then-words-place-eq0-clause-refused : goal.returns-then-words-place-eq0-clause-refused
returns-then-words-place-eq0-clause-refused c =
    let few = c.requires.ready.searchable.few in
    none_left c.args.task.now _ c.loop-place.place
    (narrowed c.args.task.now c.args.near.now c.loop-place.words c.loop-place.place c.narrow_word-last.result.kept _
    c.requires.few (omega (arith, few, c.requires.room, length-map c.args.task.now.graph.now.atoms.items term_of))
    (c.requires.around c.loop-place.place (omega (arith, c.loop-place-test.true))) c.loop-place.invariant.candidates
    c.narrow_word-last.ensures.kept.enough c.narrow_word-last.ensures.kept.within)
    c.requires.few (omega (arith, length-map c.args.task.now.graph.now.atoms.items term_of))
    c.if-words-place-eq0.true

pub returns-then-words-place-eq0-clause-candidates : goal.returns-then-words-place-eq0-clause-candidates
returns-then-words-place-eq0-clause-candidates c =
    let few = c.requires.ready.searchable.few in
    narrowed c.args.task.now c.args.near.now c.loop-place.words c.loop-place.place c.narrow_word-last.result.kept _
    c.requires.few (omega (arith, few, c.requires.room, length-map c.args.task.now.graph.now.atoms.items term_of))
    (c.requires.around c.loop-place.place (omega (arith, c.loop-place-test.true))) c.loop-place.invariant.candidates
    c.narrow_word-last.ensures.kept.enough c.narrow_word-last.ensures.kept.within
