-- A part is searched for from the atoms of each block in turn.
use Rattle.std.proofs.Common.{◌<◌, ◌≤◌, ap, arith, length, subst}
use Rattle.std.proofs.lemmas.List.{length-map}
use Rattle.smarts_mean.specs.Table.{HoldsIn}
use Rattle.smarts_parse.specs.Pattern.{graph_of, pattern_of, term_of}
use Rattle.matcher.specs.Parts.{AreBeginnings}
use Rattle.matcher.proofs.Asked.{asked_of}
use Rattle.matcher.proofs.Truths.{truths_noted}
use Rattle.matcher.proofs.PartsHeld.{noted_more, row_more}
use Rattle.matcher.proofs.Places.{get_map}
use Rattle.matcher.proofs.parts.note_part.Goals as goal

pub find-requires : goal.find-requires
find-requires c = c.part-steps.ensures (graph_of c.index-graph.result.now)
    (get_map graph_of c.args.pattern.now.recs.items c.args.part c.index-graph.result.now c.requires.part
    c.index-graph.ensures)

pub begins_in-word-requires-clause-ready : goal.begins_in-word-requires-clause-ready
begins_in-word-requires-clause-ready c = c.part-steps.ensures (graph_of c.index-graph.result.now)
    (get_map graph_of c.args.pattern.now.recs.items c.args.part c.index-graph.result.now c.requires.part
    c.index-graph.ensures)

pub begins_in-word-requires-clause-some : goal.begins_in-word-requires-clause-some
begins_in-word-requires-clause-some c =
    let some = (c.requires.sound.parts c.args.part (graph_of c.index-graph.result.now)
    (get_map graph_of c.args.pattern.now.recs.items c.args.part c.index-graph.result.now c.requires.part
    c.index-graph.ensures)).some in
    subst (λ n. 0 < n) (length-map c.index-graph.result.now.atoms.items term_of) some

pub begins_in-word-requires-clause-block : goal.begins_in-word-requires-clause-block
begins_in-word-requires-clause-block c =
    let few = c.atoms.ensures.valid.graph.few_atoms in
    omega (arith, few, ap length c.atoms.ensures.value, c.loop-block-test.true)

pub put_block-requires-clause-block : goal.put_block-requires-clause-block
put_block-requires-clause-block c =
    let few = c.atoms.ensures.valid.graph.few_atoms in
    omega (arith, few, ap length c.atoms.ensures.value, c.loop-block-test.true)

pub loop-block-init : goal.loop-block-init
loop-block-init c = record {
  truths = c.find.ensures.truths;
  row = record { kept = c.requires.noted; done = λ a x l. absurd (omega (arith, l)) };
}

pub loop-block-preserved : goal.loop-block-preserved
loop-block-preserved c =
    let p = pattern_of c.args.pattern.now in
    let g = graph_of c.index-graph.result.now in
    let m = c.args.mol.now in
    let get = get_map graph_of c.args.pattern.now.recs.items c.args.part c.index-graph.result.now c.requires.part
    c.index-graph.ensures in
    let few : length m.atoms ≤ 999 = c.atoms.ensures.valid.graph.few_atoms in
    let parts : length p.recs ≤ 64 = c.requires.sound.few_parts in
    let low : c.args.part < 64 = omega (arith, length-map c.args.pattern.now.recs.items graph_of, c.requires.part) in
    let others = rw c.begins_in-word.ensures.table at c.put_block.ensures.others in
    let found = subst (λ w. AreBeginnings (HoldsIn c.loop-block.memory.table) g m w c.loop-block.block
    c.begins_in-word.result) c.at-classes.ensures c.begins_in-word.ensures.found in
    record {
      truths = truths_noted g m c.begins_in-word.new.memory.candidates.words.items c.loop-block.memory.table
          c.put_block.new.self c.args.part c.loop-block.block others low few
          (c.requires.sound.parts c.args.part g get).names
          (rw c.begins_in-word.ensures.candidates c.loop-block.invariant.truths);
      row = row_more p.recs m c.args.prepared.now.wanted.classes.items c.args.part c.loop-block.block
          c.begins_in-word.result g c.loop-block.memory.table c.put_block.new.self low few get
          (c.requires.sound.parts c.args.part g get).names
          (asked_of p c.args.prepared.now.wanted.classes.items c.args.part g c.requires.prepared.wanted get)
          c.loop-block.invariant.row found c.put_block.ensures.here others;
    }

pub returns : goal.returns
returns c = noted_more (pattern_of c.args.pattern.now).recs c.args.mol.now c.args.prepared.now.wanted.classes.items
    c.args.part c.loop-block.block c.loop-block.memory.table
    (omega (arith, ap length c.atoms.ensures.value, c.loop-block-test.false)) c.loop-block.invariant.row
