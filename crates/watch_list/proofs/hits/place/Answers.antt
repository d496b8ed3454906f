use Rattle.std.proofs.Common.{◌↔◌, Contains, List, subst, sym, ℕ}
use Rattle.std.specs.List.Sorted.{IsStrictlyIncreasing}
use Rattle.std.specs.Prelude.{Err, Ok}
use Rattle.watch_list.proofs.Ascending.{IsGap, IsPlace, gap-lacks, insert-ascends, insert-others, looked-up, put-in, remove-lacks, remove-others}
use Rattle.watch_list.proofs.hits.place.Goals as goal

pub returns-then-not-is_hit-clause-own : goal.returns-then-not-is_hit-clause-own
returns-then-not-is_hit-clause-own c =
    let xs = c.args.hits.now.items in
    let up = c.requires.ascending in
    let found : IsPlace xs c.args.id c.in-Ok.place =
    looked-up xs _ c.args.id (Ok c.in-Ok.place) up c.deref.ensures.value c.in-Ok.ensures.position in
    let lacks = remove-lacks xs c.args.id c.in-Ok.place up found in
    (λ has. absurd (lacks (subst (λ l. Contains l c.args.id) c.remove.ensures.items has)), λ is. absurd (cc))

pub returns-then-not-is_hit-clause-others : goal.returns-then-not-is_hit-clause-others
returns-then-not-is_hit-clause-others c q other =
    let xs = c.args.hits.now.items in
    let found : IsPlace xs c.args.id c.in-Ok.place =
    looked-up xs _ c.args.id (Ok c.in-Ok.place) c.requires.ascending c.deref.ensures.value c.in-Ok.ensures.position in
    subst (λ (l : List ℕ). Contains l q ↔ Contains xs q) (sym c.remove.ensures.items)
    (remove-others xs c.args.id c.in-Ok.place q found other)

pub returns-then-is_hit-clause-ascending : goal.returns-then-is_hit-clause-ascending
returns-then-is_hit-clause-ascending c =
    let xs = c.args.hits.now.items in
    let gap : IsGap xs c.args.id c.in-Err.place =
    looked-up xs _ c.args.id (Err c.in-Err.place) c.requires.ascending c.deref.ensures.value
    c.in-Err.ensures.position in
    subst IsStrictlyIncreasing
    (sym (put-in c.insert.result _ xs _ (c.insert.ensures.succeeds c.requires.room) c.insert.ensures.items))
    (insert-ascends xs c.args.id c.in-Err.place c.requires.ascending gap)

pub returns-then-is_hit-clause-others : goal.returns-then-is_hit-clause-others
returns-then-is_hit-clause-others c q other =
    let xs = c.args.hits.now.items in
    subst (λ (l : List ℕ). Contains l q ↔ Contains xs q)
    (sym (put-in c.insert.result _ xs _ (c.insert.ensures.succeeds c.requires.room) c.insert.ensures.items))
    (insert-others xs c.args.id c.in-Err.place q other)

pub returns-else-is_hit-clause-own : goal.returns-else-is_hit-clause-own
returns-else-is_hit-clause-own c =
    let xs = c.args.hits.now.items in
    let gap : IsGap xs c.args.id c.in-Err.place =
    looked-up xs _ c.args.id (Err c.in-Err.place) c.requires.ascending c.deref.ensures.value
    c.in-Err.ensures.position in
    (λ has. absurd (gap-lacks xs c.args.id c.in-Err.place gap has), λ is. absurd (cc))
