-- A copy's next item: where it is found, and what a call on the pair gives of it.
use Rattle.std.proofs.Common.{◌≡◌, ◌+◌, ◌≤◌, ◌∙◌, ap, arith, Bool, drop, Err, false, get_or, IfSome, length, List, [], ◌∷◌, map, None, Ok, OnOk, Option, option_map, Result, Some, subst, sym, true, Vec, ℕ}
use Rattle.std.specs.declared.alloc.Global.{Global}
use Rattle.disk_edge.specs.Disk.{DiskModel}
use Rattle.disk_pair.specs.Gives.{CopyGives}
use Rattle.disk_pair.specs.Pairs.{History as Written, State as PairState, with_base, with_commit}
use Rattle.disk_pair.specs.Stands.{StandsFor as StandsOnDisks}
use Rattle.disk_pair.specs.Term.{AtEachPair, OfEachPair, Paired, disk_a, disk_b}
use Rattle.disk_pair.specs.declared.fault.PutFault.{PutFault}
use Rattle.disk_pair.specs.declared.fault.PutFault.TheVariants.{DiskFault}
use Rattle.store_core.specs.Copied.{FirstFrom, IsFirstFrom, KeepsCopied, KeepsVersion}
use Rattle.store_core.specs.Stored.{IsServing, StoreTerm as Memory}
use Rattle.store_machine.specs.History.{rebase}
use Rattle.store_machine.specs.declared.machine.Copying.{Copying}
use Rattle.store_machine.specs.declared.machine.History.{History}
use Rattle.store_machine.specs.declared.machine.State.{State}
use Rattle.store_machine.specs.declared.machine.Status.{Status}
use Rattle.store_disk.specs.Items.{left, with_next}
use Rattle.store_disk.specs.OnDisk.{CopyTerm, Lacks, copy_so_far, lacking, on_pair, whole_copy}
use Rattle.store_disk.specs.Payloads.{base_payload}
use Rattle.store_disk.proofs.Items.{commit-written, no-commits, none-later, state-written}

-- what holds always holds at `Ok`
pub if-ok : {X E : Type 0} (P : Type 0) (r : Result X E) → P → OnOk r P
if-ok P (Ok x) p = p
if-ok P (Err e) p = tt

-- the copy's version is kept in memory
pub keeps-version : KeepsCopied → (m : Memory) (s : State) (c : CopyTerm) → IsServing m s → Lacks s.history s.copy c
    → KeepsVersion s c.version
keeps-version law m s c serving l =
    subst (λ (o : Option Copying). IfSome o (λ copy. KeepsVersion s copy.version)) l.is
    (law s serving.sound serving.serves).1

-- as long as a state is left, one is found
pub some-found : (h : History) (copy : Option Copying) (c : CopyTerm) → Lacks h copy c → 1 ≤ c.states
    → IsFirstFrom c.from (rebase h c.version).base None → ⊥
some-found h copy c l some none = omega (arith, l.states, some, none-later c.from (rebase h c.version).base none)

-- where nothing is called, what is shown now is shown at each moment
pub still-shown : {D : Type 0} (model : DiskModel D)
    → ((d : D) (c : List ℕ) → model.images_between d (model.clock d) (model.clock d) c → model.images d c)
    → (pair : Paired D) (P : List ℕ → List ℕ → Type 0) → OfEachPair model pair P → AtEachPair model pair pair P
still-shown model only-now pair P shown l is k it x i y j =
    shown l is k it x y (only-now (disk_a pair) x i) (only-now (disk_b pair) y j)

module _ {D : Type 0} (model : DiskModel D) (old new : Paired D) (r : Result (Unit {0}) PutFault) (s : State)
    (c : CopyTerm) (l : Lacks s.history s.copy c) where
  abbrev so-far : Written
  so-far = lacking (left c) (whole_copy s c.version)

  has : (on_pair s).copy ≡ Some so-far
  has = ap (λ (o : Option Copying). option_map (copy_so_far s) o) l.is

  -- of a base record
  pub state-given : (some : 1 ≤ c.states) (e : ℕ × Status) (f : FirstFrom c.from (rebase s.history c.version).base e)
      (p : List ℕ) → p ≡ base_payload e
      → ((t : PairState) (copy : Written) → StandsOnDisks model old t → t.copy ≡ Some copy → copy.commits ≡ []
      → CopyGives r (StandsOnDisks model new) t (with_base copy p))
      → StandsOnDisks model old (on_pair s) → CopyGives r (StandsOnDisks model new) (on_pair s) (with_next s c)
  state-given some e f p is gives stands =
      subst (λ (w : Written). CopyGives r (StandsOnDisks model new) (on_pair s) w)
      (ap (λ q. with_base so-far q) is ∙ sym (state-written s.history s.copy c l (s.generation + 1) some e f))
      (gives (on_pair s) so-far stands has (no-commits s.history s.copy c l (s.generation + 1) some))

  -- of a commit
  pub commit-given : c.states ≡ 0 → (x : List ℕ) (rest : List (List ℕ)) → c.commits ≡ x ∷ rest → (p : List ℕ) → p ≡ x
      → ((t : PairState) (copy : Written) → StandsOnDisks model old t → t.copy ≡ Some copy
      → CopyGives r (StandsOnDisks model new) t (with_commit copy p))
      → StandsOnDisks model old (on_pair s) → CopyGives r (StandsOnDisks model new) (on_pair s) (with_next s c)
  commit-given none x rest split p is gives stands =
      subst (λ (w : Written). CopyGives r (StandsOnDisks model new) (on_pair s) w)
      (ap (λ q. with_commit so-far q) is
      ∙ sym (commit-written s.history s.copy c l (s.generation + 1) none x rest split))
      (gives (on_pair s) so-far stands has)

  -- it is given up
  pub dropped : (doubt : Bool) (w : Written) → CopyGives (Err (DiskFault doubt)) (StandsOnDisks model new) (on_pair s) w
      → StandsOnDisks model new (record (on_pair s) { copy = None })
  dropped true w gives = absurd gives
  dropped false w gives = gives

-- the first payload of a queue, before the rest of it
pub queue-split : (q rest : List (Vec ℕ Global)) (x : Vec ℕ Global) → 1 ≤ length q → x ≡ get_or q 0 x → rest ≡ drop 1 q
    → map (λ (v : Vec ℕ Global). v.items) q ≡ x.items ∷ map (λ (v : Vec ℕ Global). v.items) rest
queue-split [] rest x some first is = absurd (omega (arith, some))
queue-split (y ∷ ys) rest x some first is =
    λ i. (sym first i).items ∷ map (λ (v : Vec ℕ Global). v.items) (sym is i)
