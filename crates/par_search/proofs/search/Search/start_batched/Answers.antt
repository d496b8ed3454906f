use Rattle.par_search.proofs.search.Search.start_batched.Goals as goal

pub returns-in-Ok-Some-clause-apart : goal.returns-in-Ok-Some-clause-apart
returns-in-Ok-Some-clause-apart g c = λ slot version other taken.
    let apart = rw c.in-Ok-Some.field-0-is at c.in-Ok-Some.ensures.apart in
    apart slot version other taken
