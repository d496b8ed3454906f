-- What a pass has seen stays a run.
use Rattle.std.proofs.Common.{◌≡◌, ◌++◌, ◌∙◌, ap, arith, Bool, length, List, refl, subst, sym, ⊎_elim}
use Rattle.disk_edge.specs.Disk.{DiskModel}
use Rattle.store_disk.specs.OnDisk.{StoreTerm}
use Rattle.store_machine.proofs.Joins.{calms-join, runs-join}
use Rattle.store_machine.specs.Runs.{IsCalm, IsRun}
use Rattle.store_machine.specs.declared.machine.State.{State}
use Rattle.store_machine.specs.declared.machine.Step.{Step}
use Rattle.hall.specs.declared.hall.Hall.{Hall}
use Rattle.hall.specs.declared.hall.HallPass.{HallPass}
use Rattle.hall.specs.declared.kept.Origin.{Origin}
use Rattle.hall.specs.Desks.{Stretches}
use Rattle.hall.specs.Histories.{after}
use Rattle.hall.specs.Passes.{Begins, IsOf, Merged, Runs, known}
use Rattle.hall.proofs.Runs.{run-ends}

-- the first pass has seen nothing
pub runs-first : {D : Type 0} (model : DiskModel D) (store : StoreTerm D) (opened : Bool) (p : HallPass D)
    → Begins model store opened p → Runs p
runs-first model store opened p b = record {
  origin = b.origin;
  of = b.of;
  run = subst (λ (l : List Step). IsRun b.origin.state l (after b.origin.state l)) (sym b.seen) refl;
  calm = subst IsCalm (sym b.seen) tt;
  within = let none = ap length b.seen in omega (arith, none);
}

module _ {D : Type 0} where
  -- a pass that has seen the same of the same hall
  pub runs-as : (p q : HallPass D) → (known q).origin ≡ (known p).origin → (known q).seen ≡ (known p).seen
      → (known q).turns ≡ (known p).turns → Runs p → Runs q
  runs-as p q origin seen turns r = record {
    origin = r.origin;
    of = origin ∙ r.of;
    run = subst (λ (l : List Step). IsRun r.origin.state l (after r.origin.state l)) (sym seen) r.run;
    calm = subst IsCalm (sym seen) r.calm;
    within = let same = ap length seen in omega (arith, same, turns, r.within);
  }

  -- a pass at a desk
  pub runs-later : (p q : HallPass D) (s t : State) (steps : List Step) → Stretches p q s steps t → Runs p → Runs q
  runs-later p q s t steps st r =
      let o : State = r.origin.state in
      let same : st.begins.0 ≡ r.origin = cc (st.begins.1, r.of) in
      let here : s ≡ after o (known p).seen =
      st.begins.2 ∙ ap (λ (i : Origin D). after i.state (known p).seen) same in
      let rest : IsRun (after o (known p).seen) steps t = subst (λ (u : State). IsRun u steps t) here st.run in
      let all : IsRun o ((known p).seen ++ steps) t =
      runs-join (known p).seen steps o (after o (known p).seen) t r.run rest in
      let run : IsRun o ((known p).seen ++ steps) (after o ((known p).seen ++ steps)) =
      subst (λ (u : State). IsRun o ((known p).seen ++ steps) u) (run-ends ((known p).seen ++ steps) o t all) all in
      record {
        origin = r.origin;
        of = st.stays.origin ∙ r.of;
        run = subst (λ (l : List Step). IsRun o l (after o l)) (sym st.seen) run;
        calm = subst IsCalm (sym st.seen) (calms-join (known p).seen steps r.calm st.calm);
        within = st.stays.within r.within;
      }

  -- a pass that was joined, where both are of one hall
  pub runs-merged : (h : Hall D) (p o q : HallPass D) → IsOf h p → IsOf h o → IsOf h q → Merged p o q → Runs p → Runs o
      → Runs q
  runs-merged h p o q a b c m r u = ⊎_elim
      (λ e. runs-as p q m.origin e (c.limit ∙ sym a.limit) r)
      (λ e. runs-as o q m.origin_other e (c.limit ∙ sym b.limit) u) m.longer
