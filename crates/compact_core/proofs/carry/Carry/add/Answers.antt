use Rattle.std.proofs.Common.{◌∷◌, List, ℕ, sym, subst, arith}
use Rattle.journal_core.specs.Fronts.{IsOpen}
use Rattle.journal_core.proofs.RecordLaws.{all_short}
use Rattle.journal_core.specs.Records.{body}
use Rattle.journal_core.specs.declared.format.TheConstants.{OPEN}
use Rattle.journal_core.specs.declared.header.Header.{Header}
use Rattle.compact_core.specs.Carrying.{Carrying}
use Rattle.compact_core.specs.Copies.{Copies, tail_of}
use Rattle.compact_core.proofs.Gates.{not_open}
use Rattle.compact_core.proofs.Gathering.{more_pending}
use Rattle.compact_core.proofs.Tails.{add_tail, length-add_tail}
use Rattle.compact_core.proofs.Viewed.{at_view}
use Rattle.compact_core.proofs.carry.Carry.add.Goals as goal

pub returns-clause-ok : goal.returns-clause-ok
returns-clause-ok g c base commits q =
    let d = g.D.Disk.model in
    let r = subst (λ (k : Carrying g.row.D.Denot). Copies d k base commits) (sym c.self.view_is) q in
    let h = c.self.inside.header in
    let p = c.args.payload.now in
    record {
      gate = r.gate;
      shut = r.shut;
      gathered = more_pending (c.make_room.ensures.stays r.gate (tail_of h base commits) r.gathered r.place)
          (OPEN ∷ body p) (add_tail h base commits p) c.push_commit.ensures;
      place = omega (arith, r.place, length-add_tail h base commits p);
      bases = r.bases;
      fit = r.fit;
      fit_commits = all_short commits p r.fit_commits c.requires.few;
    }

pub returns-in_err-make_room-clause-moments : goal.returns-in_err-make_room-clause-moments
returns-in_err-make_room-clause-moments g c base commits q =
    let d = g.D.Disk.model in
    let r = subst (λ (k : Carrying g.row.D.Denot). Copies d k base commits) (sym c.self.view_is) q in
    at_view d (λ (h : Header) (x : List ℕ). IsOpen x → ⊥) _ _ c.make_room.new.disk c.self.view_is
    (λ x m. not_open r.gate x r.shut
    (c.make_room.ensures.moments r.gate (tail_of c.self.inside.header base commits) r.gathered r.place x m))

pub returns-clause-moments : goal.returns-clause-moments
returns-clause-moments g c base commits q =
    let d = g.D.Disk.model in
    let r = subst (λ (k : Carrying g.row.D.Denot). Copies d k base commits) (sym c.self.view_is) q in
    at_view d (λ (h : Header) (x : List ℕ). IsOpen x → ⊥) _ _ c.make_room.new.disk c.self.view_is
    (λ x m. not_open r.gate x r.shut
    (c.make_room.ensures.moments r.gate (tail_of c.self.inside.header base commits) r.gathered r.place x m))
