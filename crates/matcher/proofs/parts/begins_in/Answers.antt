-- The candidates of a block are asked in turn, the lowest first.
use Rattle.std.proofs.Common.{◌≡◌, ◌<◌, ◌+◌, ◌*◌, ◌∙◌, ap, arith, get_or, length, refl, subst, sym, w64}
use Rattle.std.specs.Int.{bit_at, trailing_zeros}
use Rattle.std.proofs.lemmas.Bool.{iff_false}
use Rattle.std.proofs.lemmas.List.{length-map}
use Rattle.std.proofs.lemmas.Option.{same_Some, slice_get-get_or}
use Rattle.chem_core.specs.Symbols.{class_of}
use Rattle.smarts_mean.specs.Table.{HoldsIn}
use Rattle.smarts_parse.specs.Pattern.{graph_of, term_of}
use Rattle.matcher.proofs.Beginnings.{all_begin, asked_all, asked_held, asked_near, asked_out, asked_whole, next_first, one_begins}
use Rattle.matcher.proofs.Classes.{no_element}
use Rattle.matcher.proofs.parts.begins_in.Goals as goal

pub returns-then-len-eq1-clause-found : goal.returns-then-len-eq1-clause-found
returns-then-len-eq1-clause-found c = one_begins (HoldsIn c.args.memory.now.table) (graph_of c.args.graph.now)
    c.args.mol.now c.args.memory.now.candidates.words.items c.args.classes c.args.block c.first_in-all.result
    c.requires.ready.searchable (length-map c.args.graph.now.atoms.items term_of ∙ omega arith)
    c.requires.truths c.first_in-all.ensures

pub returns-in-Some-clause-found : goal.returns-in-Some-clause-found
returns-in-Some-clause-found c = all_begin (HoldsIn c.args.memory.now.table) (graph_of c.args.graph.now)
    c.args.mol.now c.args.memory.now.candidates.words.items c.args.classes c.args.block c.first_in-all.result
    c.in-Some.held (subst (λ n. 0 < n) (sym (length-map c.args.graph.now.atoms.items term_of)) c.requires.some)
    c.requires.truths c.first_in-all.ensures c.in-Some.ensures

pub loop-turn-init : goal.loop-turn-init
loop-turn-init c = record {
  asked = asked_near (HoldsIn c.args.memory.now.table) (graph_of c.args.graph.now) c.args.mol.now
      c.args.memory.now.candidates.words.items c.args.classes c.args.block c.first_in-all.result
      c.with_second-near.result
      (subst (λ n. 0 < n) (sym (length-map c.args.graph.now.atoms.items term_of)) c.requires.some)
      c.requires.truths c.first_in-all.ensures c.with_second-near.ensures.within c.with_second-near.ensures.begins;
  table = refl;
  candidates = refl;
}

pub bounds-atoms-atom : goal.bounds-atoms-atom
bounds-atoms-atom c =
    let next = next_first (HoldsIn c.args.memory.now.table) (graph_of c.args.graph.now) c.args.mol.now
    c.args.memory.now.candidates.words.items c.args.classes c.args.block c.loop-turn._turn c.first_in-all.result
    c.loop-turn.left c.loop-turn.held
    (omega arith) (omega arith) c.first_in-all.ensures c.loop-turn.invariant.asked in
    let within = next.0 in
    omega (arith, ap length c.atoms.ensures.value)

pub begins_at-requires-clause-in_range : goal.begins_at-requires-clause-in_range
begins_at-requires-clause-in_range c = (next_first (HoldsIn c.args.memory.now.table) (graph_of c.args.graph.now)
    c.args.mol.now
    c.args.memory.now.candidates.words.items c.args.classes c.args.block c.loop-turn._turn c.first_in-all.result
    c.loop-turn.left c.loop-turn.held
    (omega arith) (omega arith) c.first_in-all.ensures c.loop-turn.invariant.asked).0

pub begins_at-requires-clause-truths : goal.begins_at-requires-clause-truths
begins_at-requires-clause-truths c = rw (c.loop-turn.invariant.table, c.loop-turn.invariant.candidates)
    c.requires.truths

pub begins_at-requires-clause-candidate : goal.begins_at-requires-clause-candidate
begins_at-requires-clause-candidate c = rw c.loop-turn.invariant.candidates
    (next_first (HoldsIn c.args.memory.now.table) (graph_of c.args.graph.now) c.args.mol.now
    c.args.memory.now.candidates.words.items c.args.classes c.args.block c.loop-turn._turn c.first_in-all.result
    c.loop-turn.left c.loop-turn.held
    (omega arith) (omega arith) c.first_in-all.ensures c.loop-turn.invariant.asked).1

pub loop-turn-preserved : goal.loop-turn-preserved
loop-turn-preserved c =
    let found = rw c.loop-turn.invariant.table at c.begins_at.ensures.found in
    record {
      asked = asked_out (HoldsIn c.args.memory.now.table) (graph_of c.args.graph.now) c.args.mol.now
          c.args.classes c.args.block c.loop-turn._turn c.first_in-all.result c.loop-turn.left c.loop-turn.held
          (omega arith) (omega arith) (λ w. iff_false found c.if-begins_at.false w) c.loop-turn.invariant.asked;
      table = c.begins_at.ensures.table ∙ c.loop-turn.invariant.table;
      candidates = c.begins_at.ensures.candidates ∙ c.loop-turn.invariant.candidates;
    }

pub loop-turn-preserved-then-begins_at : goal.loop-turn-preserved-then-begins_at
loop-turn-preserved-then-begins_at c =
    let found = rw c.loop-turn.invariant.table at c.begins_at.ensures.found in
    record {
      asked = asked_held (HoldsIn c.args.memory.now.table) (graph_of c.args.graph.now) c.args.mol.now
          c.args.classes c.args.block c.loop-turn._turn c.first_in-all.result c.loop-turn.left c.loop-turn.held
          (omega arith) (omega arith) (λ x get may. found.0 c.if-begins_at.true) c.loop-turn.invariant.asked;
      table = c.begins_at.ensures.table ∙ c.loop-turn.invariant.table;
      candidates = c.begins_at.ensures.candidates ∙ c.loop-turn.invariant.candidates;
    }

pub loop-turn-preserved-then-not-may_be : goal.loop-turn-preserved-then-not-may_be
loop-turn-preserved-then-not-may_be c =
    let m = c.args.mol.now in
    let atom = 64 * c.args.block + trailing_zeros w64 c.loop-turn.left in
    let next = next_first (HoldsIn c.args.memory.now.table) (graph_of c.args.graph.now) c.args.mol.now
    c.args.memory.now.candidates.words.items c.args.classes c.args.block c.loop-turn._turn c.first_in-all.result
    c.loop-turn.left c.loop-turn.held
    (omega arith) (omega arith) c.first_in-all.ensures c.loop-turn.invariant.asked in
    let asked = rw c.atoms.ensures.value at c.may_be.ensures in
    record {
      asked = asked_held (HoldsIn c.args.memory.now.table) (graph_of c.args.graph.now) c.args.mol.now
          c.args.classes c.args.block c.loop-turn._turn c.first_in-all.result c.loop-turn.left c.loop-turn.held
          (omega arith) (omega arith) (λ x get may. absurd (iff_false asked c.if-not-may_be.true
          (subst (λ y. bit_at c.args.classes (class_of y) ≡ 1)
          (same_Some x (get_or m.atoms atom no_element) (sym get ∙ slice_get-get_or m.atoms atom no_element next.0))
          may))) c.loop-turn.invariant.asked;
      table = c.loop-turn.invariant.table;
      candidates = c.loop-turn.invariant.candidates;
    }

pub returns-then-bit-ge64-clause-found : goal.returns-then-bit-ge64-clause-found
returns-then-bit-ge64-clause-found c = asked_all _ _ _ _ _ c.loop-turn._turn c.first_in-all.result c.loop-turn.left
    c.loop-turn.held (omega arith) (omega arith) c.loop-turn.invariant.asked

pub returns-then-bit-ge64-clause-table : goal.returns-then-bit-ge64-clause-table
returns-then-bit-ge64-clause-table c = c.loop-turn.invariant.table

pub returns-then-bit-ge64-clause-candidates : goal.returns-then-bit-ge64-clause-candidates
returns-then-bit-ge64-clause-candidates c = c.loop-turn.invariant.candidates

pub returns-clause-found : goal.returns-clause-found
returns-clause-found c = asked_whole _ _ _ _ _ c.loop-turn._turn c.first_in-all.result c.loop-turn.left c.loop-turn.held
    (omega (arith, c.loop-turn-test.false)) c.loop-turn.invariant.asked

pub returns-clause-table : goal.returns-clause-table
returns-clause-table c = c.loop-turn.invariant.table

pub returns-clause-candidates : goal.returns-clause-candidates
returns-clause-candidates c = c.loop-turn.invariant.candidates
