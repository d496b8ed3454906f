-- What the disks of a store that was just opened open to.
use Rattle.std.proofs.Common.{◌≡◌, ◌∙◌, ap, inl, inr, List, None, Option, Some, subst, sym, ℕ}
use Rattle.disk_edge.specs.Disk.{DiskModel}
use Rattle.disk_pair.specs.Term.{OfEachPair, disk_a, disk_b}
use Rattle.journal_core.specs.Looks.{Narrows}
use Rattle.store_disk.specs.Loads.{OpensAfter, OpensTo}
use Rattle.store_disk.specs.OnDisk.{StandsFor, StoreTerm}
use Rattle.store_disk.specs.declared.disks.Disks.{Disks}
use Rattle.store_machine.specs.History.{rebase}
use Rattle.store_machine.specs.Machine.{MayBeLeft, on_disk}
use Rattle.store_machine.specs.Openings.{IsOpened}
use Rattle.store_machine.specs.Rebases.{RebasesStay}
use Rattle.store_machine.specs.declared.machine.History.{History}
use Rattle.store_machine.specs.declared.machine.State.{State}
use Rattle.chem_shell.specs.Contents.{IfBothTell}

none_is_some : {X : Type 0} (x : X) → None ≡ Some x → ⊥
none_is_some x e = cc e

not_some : {X : Type 0} (o : Option X) (x : X) → o ≡ None → o ≡ Some x → ⊥
not_some o x none some = none_is_some x (sym none ∙ some)

-- what may be left of a state as an opening leaves it is its history
left_whole : RebasesStay → (commits : ℕ) (s : State) (h : History) (generation : ℕ) → IsOpened commits s
    → on_disk s ≡ s.history → MayBeLeft s h generation → (h ≡ s.history) × (generation ≡ s.generation)
left_whole stay commits s h generation opened whole (inl now) = (now.0 ∙ whole, now.1)
left_whole stay commits s h generation opened whole (inr (inl doubted)) =
    absurd (not_some s.doubt doubted.0 opened.doubt doubted.1)
left_whole stay commits s h generation opened whole (inr (inr copied)) =
    absurd (not_some s.finish copied.0 opened.finish copied.1)

-- a state without pins as an opening leaves it, with the limit of the store that stands for it
pub opened_in : {D : Type 0} (model : DiskModel D) (n commits : ℕ) (store : StoreTerm D) (s t : State)
    → IsOpened commits s → StandsFor model store s → StandsFor model store t → IsOpened n t → IsOpened commits t
opened_in model n commits store s t first stands other opened = record {
  serves = opened.serves;
  limit = sym other.memory.stands.limit ∙ (stands.memory.stands.limit ∙ first.limit);
  pins = opened.pins;
  base = opened.base;
  copy = opened.copy;
  doubt = opened.doubt;
  finish = opened.finish;
  kept = opened.kept;
}

-- what reads of disks gave that were only read since is what they open to
pub opens_at : RebasesStay → {D : Type 0} (model : DiskModel D)
    (read : (d : D) (l : List ℕ) → model.content d ≡ Some l → model.images d l)
    (store : StoreTerm D) (s : State) → OfEachPair model store.pair (OpensAfter s) → StandsFor model store s
    → (commits : ℕ) → IsOpened commits s
    → (disks : Disks D) → Narrows model disks.a (disk_a store.pair) → Narrows model disks.b (disk_b store.pair)
    → IfBothTell model disks (OpensTo s.history s.generation)
opens_at stay model read store s standing stands commits opened disks read_a read_b l is m it =
    let told_a = read_a.same ∙ is in
    let told_b = read_b.same ∙ it in
    let o = standing l told_a m told_b l m (read (disk_a store.pair) l told_a) (read (disk_b store.pair) m told_b) in
    let whole = ap (λ (d : ℕ). rebase s.history d) opened.base ∙ stay s.history stands.memory.sound.history in
    let all = left_whole stay commits s o.0 o.1 opened whole o.2 in
    subst (λ (g : ℕ). OpensTo s.history g l m) all.1 (subst (λ (h : History). OpensTo h o.1 l m) all.0 o.3)
