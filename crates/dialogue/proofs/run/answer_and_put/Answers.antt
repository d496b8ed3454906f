use Rattle.std.proofs.Common.{Err, Ok, inl, inr, sym}
use Rattle.std.proofs.KnownBytes.{Appends-nil}
use Rattle.dialogue.proofs.run.answer_and_put.Goals as goal

pub answer-requires : goal.answer-requires
answer-requires g c =
    let r = c.requires.ready in
    c.requires.answers.takes _ _ _ r.0 r.1 r.2 r.3 r.4 r.5

pub returns-in-Err-NoMemory-clause-turned : goal.returns-in-Err-NoMemory-clause-turned
returns-in-Err-NoMemory-clause-turned g c = λ kept request n ready asked small. (
  inr (rw c.in-Err-NoMemory.field-0-is at
      (c.requires.answers.gives _ _ _ kept request n ready asked small (Err c.in-Err-NoMemory.field-0) _ _ c.in-Err-NoMemory.ensures)),
  Appends-nil (g.O.Sink.written c.args.sink.now),
)

pub returns-in-Err-Worn-clause-turned : goal.returns-in-Err-Worn-clause-turned
returns-in-Err-Worn-clause-turned g c = λ kept request n ready asked small. (
  rw c.in-Err-Worn.field-0-is at
      (c.requires.answers.gives _ _ _ kept request n ready asked small (Err c.in-Err-Worn.field-0) _ _ c.in-Err-Worn.ensures),
  Appends-nil (g.O.Sink.written c.args.sink.now),
)

pub returns-in-Ok-put-clause-turned : goal.returns-in-Ok-put-clause-turned
returns-in-Ok-put-clause-turned g c = λ kept request n ready asked small.
    let a = c.requires.answers.gives _ _ _ kept request n ready asked small (Ok c.in-Ok.field-0) _ _ c.in-Ok.ensures in
    (a, rw (sym a.said) (rw c.reply.ensures at c.in-Ok-put.ensures.ok))

pub returns-in-Err-Failed-clause-turned : goal.returns-in-Err-Failed-clause-turned
returns-in-Err-Failed-clause-turned g c = λ kept request n ready asked small.
    let a = c.requires.answers.gives _ _ _ kept request n ready asked small (Ok c.in-Ok.field-0) _ _ c.in-Ok.ensures in
    (a, rw (sym a.said) (rw c.reply.ensures at (rw c.in-Err-Failed.field-0-is at c.in-Err-Failed.ensures.part)))

pub returns-in-Err-NoMemory-put-clause-turned : goal.returns-in-Err-NoMemory-put-clause-turned
returns-in-Err-NoMemory-put-clause-turned g c = λ kept request n ready asked small. (
  inl (c.requires.answers.gives _ _ _ kept request n ready asked small (Ok c.in-Ok.field-0) _ _ c.in-Ok.ensures),
  rw c.in-Err-NoMemory-put.field-0-is at c.in-Err-NoMemory-put.ensures.no_memory,
)
