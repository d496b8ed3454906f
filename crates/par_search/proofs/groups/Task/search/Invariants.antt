use Rattle.std.proofs.Common.{◌≡◌, ◌-◌, ◌≤◌, [], drop, length, take, vec_capacity}
use Rattle.smarts_parse.specs.Pattern.{pattern_of}
use Rattle.par_search.specs.Groups.{HasMatched}
use Rattle.par_search.specs.Shares.{FetchesInto, records_in}
use Rattle.par_search.proofs.groups.Task.search.Given as goal

-- all pages before the end were fetched, and those before the start were matched
abbrev pub invariant-loop-next : goal.invariant-loop-next
invariant-loop-next g l = record {
  fetched : FetchesInto g.S.Service l.fn.service l.service l.self.pin.now l.self.size l.self.want.now l.fn.from
      l.fn.pages l.pages (take l.group.end l.pages) l.fetched;
  matched : HasMatched (pattern_of l.self.pattern.now) (take l.group.start l.pages) l.fn.workers l.workers
      [] l.hits.items (vec_capacity l.fn.hits) (vec_capacity l.hits);
  order : l.group.start ≤ l.fetched.count;
  within : l.group.end ≤ length l.pages;
  tried : l.group.tried ≡ length (records_in (drop l.group.start (take l.fetched.count l.pages)));
  from : l.group.from ≡ l.fetched.from;
}

abbrev pub decreases-loop-next : goal.decreases-loop-next
decreases-loop-next g l = length l.pages - l.group.end
