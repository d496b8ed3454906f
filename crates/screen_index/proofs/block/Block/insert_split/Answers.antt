use Rattle.std.proofs.Common.{◌++◌, ◌<◌, ◌∙◌, All, ap, arith, length, subst, sym}
use Rattle.screen_index.specs.Pairs.{Ascend, Lacks, put_in, rank_of}
use Rattle.screen_index.proofs.Places.{apart, ascend-left, ascend-right, lacks-right, put-before, put-behind, put-some}
use Rattle.screen_index.proofs.block.Block.insert_split.Goals as goal

pub count_before-requires-2 : goal.count_before-requires-2
count_before-requires-2 g c =
    ascend-right 0 c.split.new.self c.split.new.upper (subst (Ascend 0) (sym c.split.ensures.whole) c.requires.ascending)

pub insert-requires-clause-ascending : goal.insert-requires-clause-ascending
insert-requires-clause-ascending g c =
    ascend-left 0 c.split.new.self c.split.new.upper (subst (Ascend 0) (sym c.split.ensures.whole) c.requires.ascending)

pub insert-requires-else-count_before-eq0-clause-ascending :
    goal.insert-requires-else-count_before-eq0-clause-ascending
insert-requires-else-count_before-eq0-clause-ascending g c =
    ascend-right 0 c.split.new.self c.split.new.upper (subst (Ascend 0) (sym c.split.ensures.whole) c.requires.ascending)

pub insert-requires-else-count_before-eq0-clause-absent : goal.insert-requires-else-count_before-eq0-clause-absent
insert-requires-else-count_before-eq0-clause-absent g c =
    lacks-right (rank_of c.args.entry) c.split.new.self c.split.new.upper
    (subst (Lacks (rank_of c.args.entry)) (sym c.split.ensures.whole) c.requires.absent)

pub returns-then-count_before-eq0-clause-whole : goal.returns-then-count_before-eq0-clause-whole
returns-then-count_before-eq0-clause-whole g c =
    let lower = c.split.new.self in
    let upper = c.split.new.upper in
    let lacks = lacks-right (rank_of c.args.entry) lower upper
    (subst (Lacks (rank_of c.args.entry)) (sym c.split.ensures.whole) c.requires.absent) in
    let behind : All (λ y. rank_of c.args.entry < rank_of y) upper = λ k d less.
    let h = c.count_before-2.ensures.behind k d (omega arith) less in
    let ne = lacks k d less in
    omega (arith, h, ne) in
    ap (λ l. l ++ upper) c.insert.ensures
    ∙ (sym (put-before c.args.entry lower upper behind) ∙ ap (put_in c.args.entry) c.split.ensures.whole)

pub returns-else-count_before-eq0-clause-whole : goal.returns-else-count_before-eq0-clause-whole
returns-else-count_before-eq0-clause-whole g c =
    let lower = c.split.new.self in
    let upper = c.split.new.upper in
    let up = subst (Ascend 0) (sym c.split.ensures.whole) c.requires.ascending in
    let some : 0 < length upper = omega (arith, c.count_before-2.ensures.within) in
    let before : All (λ y. rank_of y < rank_of c.args.entry) lower = λ i d less.
    let h = apart 0 lower upper i d up less 0 d some in
    let l = c.count_before-2.ensures.before 0 d (omega arith) (omega arith) in
    omega (arith, h, l) in
    ap (λ l. lower ++ l) c.insert-else-count_before-eq0.ensures
    ∙ (sym (put-behind c.args.entry lower upper before) ∙ ap (put_in c.args.entry) c.split.ensures.whole)

pub returns-else-count_before-eq0-clause-upper_some : goal.returns-else-count_before-eq0-clause-upper_some
returns-else-count_before-eq0-clause-upper_some g c =
    subst (λ l. 0 < length l) (sym c.insert-else-count_before-eq0.ensures) (put-some c.args.entry c.split.new.upper)
