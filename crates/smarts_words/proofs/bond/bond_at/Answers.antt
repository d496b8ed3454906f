use Rattle.std.proofs.Common.{◌∙◌}
use Rattle.smarts_words.proofs.BondRead.{word_read, bond_last, bond_only, bond_never, bond_next, bond_begins}
use Rattle.smarts_words.proofs.bond.bond_at.Goals as goal

pub operands-init : goal.operands-init
operands-init c = record { goes = bond_begins c.args.bytes.now c.no_steps-postfix.result c.no_steps-postfix.ensures }

pub returns-in_default-clause-only : goal.returns-in_default-clause-only
returns-in_default-clause-only c =
    bond_never c.args.bytes.now c.operands.rest.now c.run_at-bangs.result.1.now c.operands.postfix
    c.run_at-bangs.result.0 c.operands.invariant.goes c.run_at-bangs.ensures.found c.run_at-bangs.ensures.all
    c.in_default.ensures.reads

pub returns-in_default-joint_at-clause-found : goal.returns-in_default-joint_at-clause-found
returns-in_default-joint_at-clause-found c =
    let w = word_read c.operands.rest.now c.run_at-bangs.result.1.now c.in-Some.after.now c.run_at-bangs.result.0
    c.in-Some.word c.run_at-bangs.ensures.found c.run_at-bangs.ensures.all c.in-Some.ensures.reads in
    let read = bond_last c.args.bytes.now c.operands.rest.now c.in-Some.after.now c.operands.postfix
    c.operand.new.postfix c.run_at-bangs.result.0 c.in-Some.word c.in_ok-finish.field-0.items
    c.operands.invariant.goes w c.in_ok-operand.ensures c.in_ok-finish.ensures in
    (read.0, read.1, read.2, c.new.ensures ∙ read.3)

pub returns-in_default-joint_at-clause-only : goal.returns-in_default-joint_at-clause-only
returns-in_default-joint_at-clause-only c =
    let w = word_read c.operands.rest.now c.run_at-bangs.result.1.now c.in-Some.after.now c.run_at-bangs.result.0
    c.in-Some.word c.run_at-bangs.ensures.found c.run_at-bangs.ensures.all c.in-Some.ensures.reads in
    bond_only c.args.bytes.now c.operands.rest.now c.in-Some.after.now c.operands.postfix c.run_at-bangs.result.0
    c.in-Some.word c.operands.invariant.goes w c.in_default-joint_at.ensures.ends

pub operands-preserved : goal.operands-preserved
operands-preserved c =
    let w = word_read c.operands.rest.now c.run_at-bangs.result.1.now c.in-Some.after.now c.run_at-bangs.result.0
    c.in-Some.word c.run_at-bangs.ensures.found c.run_at-bangs.ensures.all c.in-Some.ensures.reads in
    let j = c.in_ok-join.ensures in
    record {
      goes = bond_next c.args.bytes.now c.operands.rest.now c.in-Some.after.now c.in-Some-joint_at.after.now
          c.operands.postfix c.operand.new.postfix c.join.new.postfix c.run_at-bangs.result.0 c.in-Some.word
          c.in-Some-joint_at.joint
          c.operands.invariant.goes w c.in_ok-operand.ensures c.in-Some-joint_at.ensures.found
          c.in-Some-joint_at.ensures.goes j.semicolon j.comma j.and;
    }
