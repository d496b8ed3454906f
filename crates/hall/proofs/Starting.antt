-- The history at its start and at its end.
use Rattle.std.proofs.Common.{◌≡◌, ◌^◌, ◌∙◌, ap, Bool, [], refl, subst, sym}
use Rattle.disk_edge.specs.Disk.{DiskModel}
use Rattle.store_machine.specs.declared.machine.State.{State}
use Rattle.store_machine.specs.declared.machine.Step.{Step}
use Rattle.store_disk.specs.OnDisk.{StandsFor, StoreTerm}
use Rattle.store_disk.specs.Stored.{Stretches, stays}
use Rattle.turn_gate.specs.Passes as gate
use Rattle.turn_gate.specs.declared.known.Known.{Known}
use Rattle.hall.specs.declared.hall.HallPass.{HallPass}
use Rattle.hall.specs.declared.kept.Kept.{Kept}
use Rattle.hall.specs.declared.kept.Origin.{Origin}
use Rattle.hall.specs.Histories.{IsStart, KeptFor}
use Rattle.hall.specs.Passes.{Begins, Ends}

module _ {D : Type 0} (model : DiskModel D) where
  -- a store stands for no event after each state at which it is and no pin is held
  pub may-start : (store : StoreTerm D) (opened : Bool) (kept : Kept D) → kept.store.value ≡ store
      → kept.opened.value ≡ opened → (s : State) → StandsFor model store s → IsStart opened s
      → (o : Origin D) × KeptFor model o kept []
  may-start store opened kept e f s stands start = (
    record { store = store; state = s; opened = opened },
    record {
      start = start;
      given = λ _. (e, f);
      stands = subst (λ (x : StoreTerm D). Stretches model store x s [] s) (sym e) (stays model store s stands);
    },
  )

  pub begins : (store : StoreTerm D) (opened : Bool) (kept : Kept D) (p : HallPass D) → kept.store.value ≡ store
      → kept.opened.value ≡ opened → gate.Begins (KeptFor model) kept (2 ^ 63) p.pass → Begins model store opened p
  begins store opened kept p e f b =
      let given = b.standing.given refl in
      let is : b.origin.store ≡ store = sym given.0 ∙ e in
      let marked : b.origin.opened ≡ opened = sym given.1 ∙ f in
      record {
        origin = b.origin;
        of = ap (λ (k : Known (Kept D) Step (Origin D)). k.origin) b.is;
        store_is = is;
        opened_is = marked;
        stands = subst (λ (x : StoreTerm D). StandsFor model x b.origin.state) is b.standing.stands.begins;
        start = subst (λ (o : Bool). IsStart o b.origin.state) marked b.standing.start;
        seen = ap (λ (k : Known (Kept D) Step (Origin D)). k.seen) b.is;
        numbers = ap (λ (k : Known (Kept D) Step (Origin D)). k.numbers) b.is;
        given = ap (λ (k : Known (Kept D) Step (Origin D)). k.given) b.is;
        turns = ap (λ (k : Known (Kept D) Step (Origin D)). k.turns) b.is;
      }

  pub ends : (p : HallPass D) (kept : Kept D) (store : StoreTerm D) → store ≡ kept.store.value
      → gate.Ends (KeptFor model) p.pass kept → Ends model p store
  ends p kept store e c =
      let whole : Ends model p kept.store.value = record {
        origin = c.origin;
        of = c.of;
        start = c.standing.start;
        stretch = c.standing.stands;
      } in
      subst (λ (x : StoreTerm D). Ends model p x) (sym e) whole
