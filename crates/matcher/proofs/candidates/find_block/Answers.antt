use Rattle.std.proofs.Common.{◌∙◌, arith}
use Rattle.std.proofs.lemmas.List.{get_or-set_other, length-map}
use Rattle.smarts_parse.specs.Pattern.{term_of}
use Rattle.matcher.proofs.Truths.{block_more}
use Rattle.matcher.proofs.candidates.find_block.Goals as goal

pub loop-place-preserved : goal.loop-place-preserved
loop-place-preserved c =
    let few = c.requires.ready.searchable.few in
    let block = c.args.block in
    let place = c.loop-place.place in
    record {
      here = block_more c.args.task.now block place c.word_at.result c.loop-place.words
          (omega (arith, few, c.requires.room, length-map c.args.task.now.graph.now.atoms.items term_of))
          c.loop-place.invariant.here c.word_at.ensures;
      before = λ k l. get_or-set_other c.loop-place.words _ k c.word_at.result 0 (λ same. omega arith)
          ∙ c.loop-place.invariant.before k l;
    }
