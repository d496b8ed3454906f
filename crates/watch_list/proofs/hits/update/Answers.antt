use Rattle.std.proofs.Common.{◌↔◌, ◌≢◌, Contains, subst, ℕ}
use Rattle.smarts_parse.specs.Pattern.{pattern_of}
use Rattle.watch_list.specs.Notes.{LeavesMatch}
use Rattle.watch_list.proofs.hits.update.Goals as goal

pub returns-clause-list : goal.returns-clause-list
returns-clause-list c =
    let new = c.place.new.hits.items in
    let p = pattern_of c.args.pattern.now in
    let is = c.leaves_match-is_hit.ensures in
    record {
      ascending = c.place.ensures.ascending;
      own = subst (λ n. Contains new n ↔ LeavesMatch p c.args.change.now) c.id.ensures.id
          (λ has. is.0 (c.place.ensures.own.0 has), λ leaves. c.place.ensures.own.1 (is.1 leaves));
      others = subst (λ n. (q : ℕ) → q ≢ n → Contains new q ↔ Contains c.args.hits.now.items q) c.id.ensures.id
          c.place.ensures.others;
    }
