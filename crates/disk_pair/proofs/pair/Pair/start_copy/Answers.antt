use Rattle.std.proofs.Common.{◌∙◌, ◌+◌, ap, rules, subst}
use Rattle.disk_pair.specs.declared.other.Other.TheVariants.{Idle}
use Rattle.journal_core.specs.declared.header.Header.{Header}
use Rattle.disk_pair.specs.Gives.{StartGives}
use Rattle.disk_pair.specs.Stands.{StandsFor}
use Rattle.disk_pair.specs.Term.{next_header}
use Rattle.disk_pair.proofs.Calls.{current_stays, other_goes, paired, was}
use Rattle.disk_pair.proofs.Copying.{idle_beside, next_generation, start_gives}
use Rattle.disk_pair.proofs.pair.Pair.start_copy.Goals as goal

pub returns : goal.returns
returns g c =
    let d = g.D.Disk.model in
    let j = c.self.inside.journal in
    let second = c.self.inside.second in
    let disk = c.in-Some-Idle.disk in
    let flag = c.in-Some-Idle.doubtful in
    let new = c.start-other.result.0 in
    let result = c.start-other.result.1 in
    let said = c.start-other.ensures in
    let is = was c.args.self.now j second c.self.inside.other (Idle disk flag) c.self.view_is
    (cc (c.take.ensures.value, c.in-Some-Idle.is, c.in-Some-Idle.field-0-is)) in
    record {
      gives = rw is (λ s st. subst (λ (h : Header). StartGives result (StandsFor d (paired j new second)) s
          (next_header h c.args.base_version c.args.base_count)) c.header.ensures
          (start_gives d j second s disk flag new st (next_header c.header.result c.args.base_version c.args.base_count)
          result (said.gives second s.now.header.generation s.finish
          (ap (λ (h : Header). h.generation + 1) c.header.ensures ∙ next_generation d j second s disk flag new st)
          (idle_beside d j second s disk flag new st))));
      current = current_stays d g.met.D.Disk.only_now j second c.args.self.now (Idle disk flag) new is
          (λ s st. said.moments second s.now.header.generation s.finish (idle_beside d j second s disk flag new st));
      goes = other_goes d j second c.args.self.now (Idle disk flag) new result is said.goes said.cause;
      progress = search rules;
    }
