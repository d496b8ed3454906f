use Rattle.std.proofs.Common.{◌++◌, arith, List, subst, sym, ℕ}
use Rattle.smarts_parse.specs.Pattern.{pattern_of}
use Rattle.store_machine.specs.Answers.{AreMatched}
use Rattle.store_core.specs.Records.{founds}
use Rattle.par_search.specs.Shares.{hits_in, records_in}
use Rattle.par_search.proofs.Joining.{joined-few, shares-joined}
use Rattle.par_search.proofs.Matched.{matched-append}
use Rattle.par_search.proofs.find.Shares.match_beside.Goals as goal

pub find_beside-done-requires-clause-room : goal.find_beside-done-requires-clause-room
find_beside-done-requires-clause-room g c κs within k d less =
    omega (arith, c.requires.few, c.requires.can_match.share k d less)

pub add_all_hits-requires : goal.add_all_hits-requires
add_all_hits-requires g c =
    let self = c.args.self.now in
    let p = pattern_of self.pattern.now in
    let records = records_in self.pages.now in
    let new = c.find_beside-done.new.workers in
    let can = c.requires.can_match in
    let few = joined-few p records (hits_in new) (shares-joined p self.total self.size records c.args.workers.now
    new can.total c.requires.all c.find_beside-done.auto.workers can.some c.find_beside-done.ensures.found) in
    record { room = omega (arith, few, can.total, can.hits) }

pub returns-clause-matched : goal.returns-clause-matched
returns-clause-matched g c =
    let self = c.args.self.now in
    let p = pattern_of self.pattern.now in
    let records = records_in self.pages.now in
    let new = c.find_beside-done.new.workers in
    let can = c.requires.can_match in
    let all = shares-joined p self.total self.size records c.args.workers.now new can.total
    c.requires.all c.find_beside-done.auto.workers can.some c.find_beside-done.ensures.found in
    record {
      matched = λ before m.
          subst (λ (l : List ℕ). AreMatched p (before ++ founds records) l)
          (sym {A = List ℕ} c.add_all_hits.ensures.hits)
          (matched-append p before (founds records) c.args.hits.now.items (hits_in new) m all);
      workers = c.find_beside-done.ensures.same;
      capacity = c.add_all_hits.ensures.capacity;
    }
