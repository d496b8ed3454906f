-- A world stands for some state with its limit, whatever is called; and a loading of what a crash leaves never fails.
use Rattle.std.proofs.Common.{◌≡◌, ◌⊎◌, ◌∙◌, ap, arith, inl, inr, List, Option, refl, Some, subst, sym, true, ℕ}
use Rattle.disk_edge.specs.Disk.{Bounded, IfTold, Rose}
use Rattle.disk_edge.specs.Failures.{bound_of}
use Rattle.disk_edge.specs.Fresh.{fresh}
use Rattle.disk_edge.specs.Medium.{Medium, model, replay}
use Rattle.disk_edge.specs.MediumLaws.{content_is_image, within}
use Rattle.disk_pair.specs.Term.{OfEachPair, disk_a, disk_b}
use Rattle.journal_core.specs.Fronts.{IsOpen}
use Rattle.journal_core.specs.Looks.{Narrows}
use Rattle.store_core.specs.Calls.{Calls}
use Rattle.store_machine.specs.History.{head}
use Rattle.store_machine.specs.Machine.{MayBeLeft}
use Rattle.store_machine.specs.Openings.{CrashOpens, IsOpened}
use Rattle.store_machine.specs.declared.machine.Event.{Event}
use Rattle.store_machine.specs.declared.machine.History.{History}
use Rattle.store_machine.specs.declared.machine.Reply.{Reply}
use Rattle.store_machine.specs.declared.machine.State.{State}
use Rattle.store_disk.specs.InMemory.{StandsInMemory}
use Rattle.store_disk.specs.Loads.{Damages, OpensAfter, OpensTo}
use Rattle.store_disk.specs.OnDisk.{StandsFor, StoreTerm}
use Rattle.store_disk.specs.Stored.{Stretches}
use Rattle.drill_core.proofs.Limits.{limits-stay}
use Rattle.drill_core.specs.Worlds.{HasSynced, IsWorld, Reopens}

pub still : (old new : StoreTerm Medium) (commits : ℕ) (calls : List (Event × Reply)) → IsWorld old commits
    → ((s : State) → StandsInMemory old s → Calls (Stretches model) (λ _. true) old new s calls) → IsWorld new commits
still old new commits calls w c =
    let s : State = w.1.0 in
    let k = c s w.1.1 in
    (w.0, (k.after, k.stands.ends, limits-stay s k.after k.steps k.stands.run ∙ w.1.2))

-- the limit of each state for which it stands
pub limit-of : (store : StoreTerm Medium) (commits : ℕ) (s : State) → IsWorld store commits → StandsInMemory store s
    → s.limit ≡ commits
limit-of store commits s w h = sym h.memory.stands.limit ∙ (w.1.1.memory.stands.limit ∙ w.1.2)

-- what a disk holds that a crash has left
pub told : (d : Medium) (bytes : List ℕ) → d ≡ fresh bytes → model.content d ≡ Some bytes
told d bytes is = ap (λ (m : Medium). Some (replay m.first m.calls)) is

pub synced : (d new : Medium) (bytes : List ℕ) → d ≡ fresh bytes → Narrows model d new → HasSynced new bytes
synced d new bytes is n =
    let same : model.content new ≡ Some bytes = n.same ∙ told d bytes is in (
      same,
      record {
        only = λ c i. subst (λ m. model.images m c) is (n.no_more c i);
        is = content_is_image new bytes same;
      },
    )

-- what an image of each disk, beside one of the other, opens to
module _ (store : StoreTerm Medium)
    (law : (s : State) → StandsFor model store s → OfEachPair model store.pair (OpensAfter s)) (a b : Medium)
    (x y : List ℕ) (first : a ≡ disk_a store.pair) (second : b ≡ disk_b store.pair) (of-a : model.images a x)
    (of-b : model.images b y)
  where
    pub opens-after : (s : State) → StandsInMemory store s → OpensAfter s x y
    opens-after s h = law s h (replay (disk_a store.pair).first (disk_a store.pair).calls) refl
        (replay (disk_b store.pair).first (disk_b store.pair).calls) refl x y
        (subst (λ d. model.images d x) first of-a) (subst (λ d. model.images d y) second of-b)

    pub world-opens : (commits : ℕ) → IsWorld store commits → (h : History) × (generation : ℕ)
        × OpensTo h generation x y
    world-opens commits w = let o = opens-after w.1.0 w.1.1 in (o.0, o.1, o.3)

-- so a loading of both finds a store
module _ (a b : Medium) (x y : List ℕ) (first : a ≡ fresh x) (second : b ≡ fresh y)
    (o : (h : History) × (generation : ℕ) × OpensTo h generation x y)
  where
    pub no-header : ((h : History) (g : ℕ) (x y : List ℕ) → OpensTo h g x y → ¬ IsOpen x → ¬ IsOpen y → ⊥)
        → IfTold (model.content a) (λ x. IfTold (model.content b) (λ y. (¬ IsOpen x) × (¬ IsOpen y))) → ⊥
    no-header law none = let n = none x (told a x first) y (told b y second) in law o.0 o.1 x y o.2 n.0 n.1

    pub no-damage : ((h : History) (g at : ℕ) (x y : List ℕ) → OpensTo h g x y → Damages at x y → ⊥) → (at : ℕ)
        → IfTold (model.content a) (λ x. IfTold (model.content b) (Damages at x)) → ⊥
    no-damage law at damaged = law o.0 o.1 at x y o.2 (damaged x (told a x first) y (told b y second))

-- where no failure is set, none is set later
none-set : (old new : Option ℕ) → old ≡ Some 0 → Bounded old new → new ≡ Some 0
none-set old new is still =
    let h = still 0 is in
    let none : h.0 ≡ 0 = omega (arith, h.2) in h.1 ∙ ap Some none

-- so no call of a disk fails
pub unset : (d new : Medium) (bytes : List ℕ) → d ≡ fresh bytes → Narrows model d new
    → bound_of new.failures ≡ Some 0
unset d new bytes is n = none-set _ _ (ap (λ (m : Medium). bound_of m.failures) is) n.count.bound

not-risen : (d new : Medium) (bytes : List ℕ) → d ≡ fresh bytes → Narrows model d new
    → Rose d.failures.count new.failures.count → ⊥
not-risen d new bytes is n rose =
    let few = within new 0 (unset d new bytes is n) in
    elim rose [ inl less ↦ omega (arith, few, less) | inr end ↦ omega (arith, few, end) ]

pub no-fault : (a b a' b' : Medium) (x y : List ℕ) → a ≡ fresh x → b ≡ fresh y → Narrows model a a'
    → Narrows model b b'
    → Rose a.failures.count a'.failures.count ⊎ Rose b.failures.count b'.failures.count → ⊥
no-fault a b a' b' x y first second of-a of-b (inl rose) = not-risen a a' x first of-a rose
no-fault a b a' b' x y first second of-a of-b (inr rose) = not-risen b b' y second of-b rose

-- a crash and an opening are a run to the state that was loaded
pub reopens : CrashOpens
    → ((h k : History) (g j : ℕ) (a b : List ℕ) → OpensTo h g a b → OpensTo k j a b → (h ≡ k) × (g ≡ j))
    → (store : StoreTerm Medium) (s t : State) (a b : List ℕ) (commits count : ℕ) → OpensAfter s a b
    → s.limit ≡ commits → StandsInMemory store t → IsOpened commits t → OpensTo t.history t.generation a b
    → count ≡ head t.history → Reopens s a b store count
reopens law one store s t a b commits count o limit at loaded opens is =
    let same = one o.0 t.history o.1 t.generation a b o.3 opens in
    let left : MayBeLeft s t.history t.generation =
    subst (MayBeLeft s t.history) same.1 (subst (λ (h : History). MayBeLeft s h o.1) same.0 o.2) in
    let opened : IsOpened s.limit t = subst (λ n. IsOpened n t) (sym limit) loaded in
    record {
      after = t;
      stands = at;
      left = left;
      opens = opens;
      version = is;
      opened = opened;
      run = λ a b e. law s t a b e (inl left) opened;
    }
