-- What a running copy lacks, after a commit more and after the next item.
use Rattle.std.proofs.Common.{◌≡◌, ◌+◌, ◌*◌, ◌-◌, ◌++◌, ◌≤◌, ◌∙◌, ap, append_assoc, arith, count_by, length, length-append, List, [], ◌∷◌, MatchOption, nat_le, None, Option, option_map, Some, subst, sym, ℕ}
use Rattle.std.proofs.lemmas.List.{map-append}
use Rattle.std.specs.List.{AllByRecursion}
use Rattle.disk_pair.specs.Term.{Progress}
use Rattle.journal_core.specs.declared.format.TheConstants.{LONGEST_PAYLOAD}
use Rattle.store_machine.specs.History.{grown, head, rebase}
use Rattle.store_machine.specs.Machine.{one_more}
use Rattle.store_machine.specs.Rebases.{RebasesGrow}
use Rattle.store_machine.specs.declared.machine.Change.{Change}
use Rattle.store_machine.specs.declared.machine.Copying.{Copying}
use Rattle.store_machine.specs.declared.machine.History.{History}
use Rattle.store_disk.specs.Copies.{queued}
use Rattle.store_disk.specs.OnDisk.{CopyTerm, Follow, HasCopy, HasHeader, IsPayload, Lacks}
use Rattle.store_disk.specs.Payloads.{history_of, payload, payloads}

-- a copy that runs is of a version that the history has
abbrev pub IsPastCopy : History → Option Copying → Type 0
IsPastCopy h copy = MatchOption copy (Unit {0}) (λ copy. (h.version ≤ copy.version) × (copy.version ≤ head h))

past-of : (h : History) (copy : Option Copying) (c : CopyTerm) → Lacks h copy c → IsPastCopy h copy → c.version ≤ head h
past-of h copy c l past = (subst (IsPastCopy h) l.is past).1

-- a commit more
module _ (grow : RebasesGrow) (h : History) (change : Change) (copy : Option Copying) (past : IsPastCopy h copy) where
  after : (version : ℕ) → version ≤ head h
      → rebase (grown h (change ∷ [])) version ≡ grown (rebase h version) (change ∷ [])
  after version le = grow h (change ∷ []) version le

  pub has-more : (c : Option CopyTerm) → HasCopy h copy c
      → HasCopy (grown h (change ∷ [])) (option_map one_more copy) (option_map (queued (payload change)) c)
  has-more None none = ap (option_map one_more) none
  has-more (Some c) l =
      let same = after c.version (past-of h copy c l past) in
      let size = length-append c.commits (payload change ∷ []) in
      record {
        is = ap (option_map one_more) l.is
            ∙ ap (λ n. Some (record { version = c.version; left = n })) (omega (arith, size));
        states = subst (λ (k : History). c.states ≡ count_by (λ e. nat_le c.from e.0) k.base) (sym same) l.states;
        made = l.made;
        commits = ap payloads same ∙ map-append payload (rebase h c.version).commits (change ∷ [])
            ∙ ap (λ (ps : List (List ℕ)). ps ++ payload change ∷ []) l.commits
            ∙ append_assoc l.made c.commits (payload change ∷ []);
        first = l.first;
      }

  pub header-more : (c : Option CopyTerm) → HasCopy h copy c → (generation : ℕ) (p : Option Progress)
      → HasHeader generation h c p
      → HasHeader generation (grown h (change ∷ [])) (option_map (queued (payload change)) c) p
  header-more None l generation p header = tt
  header-more (Some c) l generation None header = absurd header
  header-more (Some c) l generation (Some p) header =
      header
      ∙ ap (λ (k : History). (history_of (generation + 1) k).header) (sym (after c.version (past-of h copy c l past)))

all-and-one : {X : Type 0} (P : X → Type 0) (xs : List X) (x : X) → AllByRecursion P xs → P x
    → AllByRecursion P (xs ++ x ∷ [])
all-and-one P [] x all one = (one, tt)
all-and-one P (y ∷ ys) x all one = (all.0, all-and-one P ys x all.1 one)

-- the copy on the disk is as far as before
pub follow-more : (version : ℕ) (c : Option CopyTerm) (p : Option Progress) (payload : List ℕ) → IsPayload payload
    → Follow version c p → Follow (version + 1) (option_map (queued payload) c) p
follow-more version None p payload fit none = none
follow-more version (Some c) None payload fit f = absurd f
follow-more version (Some c) (Some p) payload fit f =
    let size = length-append c.commits (payload ∷ []) in
    let same : version + 1 - (c.version + length (c.commits ++ payload ∷ []))
    ≡ version - (c.version + length c.commits) = omega (arith, size) in
    record {
      bases = f.bases;
      few = f.few;
      fit = all-and-one IsPayload c.commits payload f.fit fit;
      past = omega (arith, size, f.past);
      place = subst (λ n. p.place ≤ 20 + (5 + LONGEST_PAYLOAD) * (p.bases + n)) (sym same) f.place;
    }
