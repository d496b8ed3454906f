use Rattle.std.proofs.Common.{List, ℕ, map, sym, ◌∙◌, ap, subst}
use Rattle.smarts_words.proofs.InsideRead.{InsideGoes, word_read, inside_last, inside_only, inside_never, inside_next, inside_begins}
use Rattle.smarts_words.proofs.inside.inside_at.Goals as goal

pub operands-init : goal.operands-init
operands-init c =
    record {
      goes = subst (λ (v : List (List ℕ)). InsideGoes c.args.bytes.now c.args.bytes.now c.no_steps-postfix.result
          v) (sym (ap (λ vs. map (λ v. v.items) vs) c.new-parts.ensures.items)) (inside_begins c.args.bytes.now
          c.no_steps-postfix.result c.no_steps-postfix.ensures);
    }

pub returns-in_default-clause-only : goal.returns-in_default-clause-only
returns-in_default-clause-only c =
    inside_never c.args.bytes.now c.operands.rest.now c.run_at-bangs.result.1.now c.operands.postfix _
    c.run_at-bangs.result.0 c.operands.invariant.goes c.run_at-bangs.ensures.found c.run_at-bangs.ensures.all
    c.in_default.ensures.reads

pub returns-in_default-joint_at-clause-found : goal.returns-in_default-joint_at-clause-found
returns-in_default-joint_at-clause-found c =
    let w = word_read c.operands.rest.now c.run_at-bangs.result.1.now c.in-Some.after.now c.run_at-bangs.result.0
    c.in-Some.found.word _ c.run_at-bangs.ensures.found c.run_at-bangs.ensures.all c.in-Some.ensures.reads in
    let read = inside_last c.args.bytes.now c.operands.rest.now c.in-Some.after.now c.operands.postfix
    c.operand.new.postfix _ _ c.run_at-bangs.result.0 c.in-Some.found.word _ c.in_ok-finish.field-0.items
    c.operands.invariant.goes w c.in_ok-keep_part.ensures c.in_ok-operand.ensures c.in_ok-finish.ensures in
    (c.in_default-joint_at.ensures.ends, (read.0, read.1, read.2, c.new.ensures ∙ read.3))

pub returns-in_default-joint_at-clause-only : goal.returns-in_default-joint_at-clause-only
returns-in_default-joint_at-clause-only c =
    let w = word_read c.operands.rest.now c.run_at-bangs.result.1.now c.in-Some.after.now c.run_at-bangs.result.0
    c.in-Some.found.word _ c.run_at-bangs.ensures.found c.run_at-bangs.ensures.all c.in-Some.ensures.reads in
    inside_only c.args.bytes.now c.operands.rest.now c.in-Some.after.now c.operands.postfix _ c.run_at-bangs.result.0
    c.in-Some.found.word _ c.operands.invariant.goes w c.in_default-joint_at.ensures.ends

pub operands-preserved : goal.operands-preserved
operands-preserved c =
    let w = word_read c.operands.rest.now c.run_at-bangs.result.1.now c.in-Some.after.now c.run_at-bangs.result.0
    c.in-Some.found.word _ c.run_at-bangs.ensures.found c.run_at-bangs.ensures.all c.in-Some.ensures.reads in
    let j = c.in_ok-join.ensures in
    record {
      goes = inside_next c.args.bytes.now c.operands.rest.now c.in-Some.after.now c.in-Some-joint_at.after.now
          c.operands.postfix c.operand.new.postfix c.join.new.postfix _ _ c.run_at-bangs.result.0 c.in-Some.found.word _
          c.in-Some-joint_at.joint
          c.operands.invariant.goes w c.in_ok-keep_part.ensures c.in_ok-operand.ensures c.in-Some-joint_at.ensures.found
          c.in-Some-joint_at.ensures.goes j.semicolon j.comma j.and;
    }
