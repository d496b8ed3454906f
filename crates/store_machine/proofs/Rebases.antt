-- What stays where a history's base is moved.
use Rattle.std.proofs.Common.{◌≡◌, ◌≤◌, ◌+◌, ◌++◌, ◌-◌, ◌∙◌, ap, arith, cond, drop, false, length, length-drop, List, [], ◌∷◌, nat_cmp, refl, Some, subst, suc, sym, take, true, zero, ℕ}
use Rattle.std.proofs.lemmas.List.{drop-drop}
use Rattle.std.specs.Cmp.{nat_cmp_total}
use Rattle.std.specs.FinMap.{entries, from_entries, get, get-entries, get-from_entries, get-insert, insert, nat_cmp-IsAntisymmetric, same_map}
use Rattle.std.specs.Ordering.{eq_by_cmp}
use Rattle.store_machine.specs.History.{AreAllowed, HasText, IsHistory, IsValid, Snapshot, after_change, after_changes, base_states, head, rebase, snapshot}
use Rattle.store_machine.specs.Rebases.{BasesReadBack, LaterRebasesStand, RebasesGrow, RebasesKeepAllowed, RebasesKeepHeads, RebasesKeepSnapshots, RebasesStay}
use Rattle.store_machine.specs.declared.machine.Change.{Change}
use Rattle.store_machine.specs.declared.machine.Change.TheVariants.{Register, Revise, Withdraw}
use Rattle.store_machine.specs.declared.machine.History.{History}
use Rattle.store_machine.specs.declared.machine.Status.{Status}
use Rattle.store_machine.specs.declared.machine.Status.TheVariants.{Live, Withdrawn}
use Rattle.store_machine.proofs.Made.{states-stay}
use Rattle.store_machine.proofs.PagesRead.{snapshots-stay}

pub bases-read-back : BasesReadBack
bases-read-back states = same_map nat_cmp_total nat_cmp-IsAntisymmetric (from_entries (entries states)) states
    (λ q. get-from_entries nat_cmp_total (entries states) q ∙ sym (get-entries states q))

none-taken : (n version : ℕ) (states : Snapshot) → after_changes version (take n []) states ≡ states
none-taken zero version states = refl
none-taken (suc n) version states = refl

-- some changes, and then some more
split : (a b n : ℕ) (cs : List Change) (s : Snapshot)
    → after_changes n (take (a + b) cs) s ≡ after_changes (n + a) (take b (drop a cs)) (after_changes n (take a cs) s)
split zero b n cs s =
    let same : zero + b ≡ b = omega arith in
    let none : n ≡ n + zero = omega arith in
    ap (λ (k : ℕ). after_changes n (take k cs) s) same ∙ ap (λ (k : ℕ). after_changes k (take b cs) s) none
split (suc a) b n [] s = none-taken (suc a + b) n s ∙ sym (none-taken b (n + suc a) s)
split (suc a) b n (c ∷ cs) s =
    let same : suc a + b ≡ suc (a + b) = omega arith in
    let place : n + 1 + a ≡ n + suc a = omega arith in
    ap (λ (k : ℕ). after_changes n (take k (c ∷ cs)) s) same
    ∙ (split a b (n + 1) cs (after_change (n + 1) c s)
    ∙ ap (λ (k : ℕ). after_changes k (take b (drop a cs)) (after_changes (n + 1) (take a cs)
    (after_change (n + 1) c s))) place)

pub rebases-keep-snapshots : RebasesKeepSnapshots
rebases-keep-snapshots h d v le more =
    let a = d - h.version in
    let whole : a + (v - d) ≡ v - h.version = omega (arith, le, more) in
    let at : h.version + a ≡ d = omega (arith, le) in
    let rest = take (v - d) (drop a h.commits) in
    ap (λ (m : Snapshot). after_changes d rest m) (bases-read-back (snapshot h d))
    ∙ sym (ap (λ (k : ℕ). after_changes h.version (take k h.commits) (base_states h)) (sym whole)
    ∙ (split a (v - d) h.version h.commits (base_states h)
    ∙ ap (λ (k : ℕ). after_changes k rest (snapshot h d)) at))

pub rebases-keep-heads : RebasesKeepHeads
rebases-keep-heads h d le most = omega (arith, le, most, length-drop (d - h.version) h.commits)

rest-allowed : (a n : ℕ) (cs : List Change) (s : Snapshot) → a ≤ length cs → AreAllowed n cs s
    → AreAllowed (n + a) (drop a cs) (after_changes n (take a cs) s)
rest-allowed zero n cs s le all =
    let none : n ≡ n + zero = omega arith in
    subst (λ (k : ℕ). AreAllowed k cs s) none all
rest-allowed (suc a) n [] s le all = absurd (omega (arith, le))
rest-allowed (suc a) n (c ∷ cs) s le all =
    let place : n + 1 + a ≡ n + suc a = omega arith in
    subst (λ (k : ℕ). AreAllowed k (drop a cs) (after_changes (n + 1) (take a cs) (after_change (n + 1) c s))) place
    (rest-allowed a (n + 1) cs (after_change (n + 1) c s) (omega (arith, le)) all.2)

pub rebases-keep-allowed : RebasesKeepAllowed
rebases-keep-allowed h d le most all =
    let at : h.version + (d - h.version) ≡ d = omega (arith, le) in
    subst (λ (m : Snapshot). AreAllowed d (drop (d - h.version) h.commits) m) (sym (bases-read-back (snapshot h d)))
    (subst (λ (k : ℕ). AreAllowed k (drop (d - h.version) h.commits) (snapshot h d)) at
    (rest-allowed (d - h.version) h.version h.commits (base_states h) (omega (arith, le, most)) all))

drop-append : (n : ℕ) (xs ys : List Change) → n ≤ length xs → drop n (xs ++ ys) ≡ drop n xs ++ ys
drop-append zero xs ys le = refl
drop-append (suc n) [] ys le = absurd (omega (arith, le))
drop-append (suc n) (x ∷ xs) ys le = drop-append n xs ys (omega (arith, le))

pub rebases-grow : RebasesGrow
rebases-grow h more d most =
    let states = snapshots-stay h more d most in
    let commits = drop-append (d - h.version) h.commits more (omega (arith, most)) in
    λ i. record { base = entries (states i); version = d; commits = commits i }

pub later-rebases-stand : LaterRebasesStand
later-rebases-stand h d e le more =
    let states = rebases-keep-snapshots h d e le more in
    let sum : d - h.version + (e - d) ≡ e - h.version = omega (arith, le, more) in
    let commits : drop (e - d) (drop (d - h.version) h.commits) ≡ drop (e - h.version) h.commits =
    drop-drop (e - d) (d - h.version) h.commits ∙ ap (λ (k : ℕ). drop k h.commits) sum in
    λ i. record { base = entries (states i); version = e; commits = commits i }

pub rebases-stay : RebasesStay
rebases-stay h good =
    let none : h.version - h.version ≡ 0 = omega arith in
    let states : snapshot h h.version ≡ base_states h =
    ap (λ (k : ℕ). after_changes h.version (take k h.commits) (base_states h)) none in
    let base = ap entries states ∙ good.base in
    let commits : drop (h.version - h.version) h.commits ≡ h.commits = ap (λ (k : ℕ). drop k h.commits) none in
    λ i. record { base = base i; version = h.version; commits = commits i }

-- the text of each state has a structure
abbrev HaveText : Snapshot → Type 0
HaveText states = (id : ℕ) (status : Status) → get states id ≡ Some status → HasText status

inserted-text : (states : Snapshot) (key : ℕ) (new : Status) → HasText new → HaveText states
    → HaveText (insert states key new)
inserted-text states key new text all id status e =
    elim (eq_by_cmp nat_cmp id key) as (λ b. cond b (Some new) (get states id) ≡ Some status → HasText status)
    [ true ↦ λ f. subst HasText (the_one f) text | false ↦ λ f. all id status f ]
    (sym (get-insert nat_cmp_total states key new id) ∙ e)
  where
    the_one : {x y : Status} → Some x ≡ Some y → x ≡ y
    the_one f = cc

changed-text : (version : ℕ) (c : Change) (states : Snapshot) → IsValid c → HaveText states
    → HaveText (after_change version c states)
changed-text version (Register id format text) states valid all = inserted-text states id (Live version format text)
    valid.1 all
changed-text version (Revise id format text) states valid all = inserted-text states id (Live version format text)
    valid.1 all
changed-text version (Withdraw id) states valid all = inserted-text states id (Withdrawn version) tt all

later-text : (n version : ℕ) (cs : List Change) (states : Snapshot) → AreAllowed version cs states → HaveText states
    → HaveText (after_changes version (take n cs) states)
later-text zero version cs states allowed all = all
later-text (suc n) version [] states allowed all = all
later-text (suc n) version (c ∷ cs) states allowed all =
    later-text n (version + 1) cs (after_change (version + 1) c states) allowed.2
    (changed-text (version + 1) c states allowed.0 all)

-- a history whose base is moved to a version that it has is one
pub rebased : (h : History) (d : ℕ) → IsHistory h → h.version ≤ d → d ≤ head h → IsHistory (rebase h d)
rebased h d good from most =
    let back = bases-read-back (snapshot h d) in
    record {
      base = ap entries back;
      states = λ id status e.
          let there : get (snapshot h d) id ≡ Some status = ap (λ (m : Snapshot). get m id) (sym back) ∙ e in
          let stays = states-stay h d id status good there in
          record {
            in_range = stays.0;
            since = stays.1;
            until = stays.2 from;
            text = later-text (d - h.version) h.version h.commits (base_states h) good.allowed
                (λ k s f. (good.states k s f).text) id status there;
          };
      allowed = rebases-keep-allowed h d from most good.allowed;
    }
