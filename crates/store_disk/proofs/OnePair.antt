-- Two disks open to one history.
use Rattle.std.proofs.Common.{◌≡◌, ◌≤◌, ◌∙◌, ap, arith, List, [], ◌∷◌, map, refl, sym, ℕ}
use Rattle.std.specs.List.{AllByRecursion}
use Rattle.commit_log.specs.Change.{IsInRange}
use Rattle.commit_log.specs.Entry as entry
use Rattle.disk_pair.specs.Pairs.{History as Written, PairOpens}
use Rattle.store_machine.specs.History.{IsBased, IsHistory, made_at}
use Rattle.store_machine.specs.declared.machine.Change.{Change}
use Rattle.store_machine.specs.declared.machine.History.{History}
use Rattle.store_machine.specs.declared.machine.Status.{Status}
use Rattle.store_machine.specs.declared.machine.Status.TheVariants.{Live, Withdrawn}
use Rattle.store_disk.specs.Loads.{OpensTo}
use Rattle.store_disk.specs.Payloads.{base_payload, history_of, logged_change, logged_entry, logged_state, payload, told, told_entry, told_state}
use Rattle.store_disk.proofs.OneWay.{OneChange, history-in-range, logged-told, same-format}
use Rattle.store_disk.proofs.Sorted.{base-has}

-- what is written one by one for each of a list
module _ {A : Type 0} (f : A → List ℕ) (P : A → Type 0) (one : (a b : A) → P a → P b → f a ≡ f b → a ≡ b) where
  first-is : (x y : List ℕ) (xs ys : List (List ℕ)) → x ∷ xs ≡ y ∷ ys → x ≡ y
  first-is x y xs ys e = cc e

  rest-is : (x y : List ℕ) (xs ys : List (List ℕ)) → x ∷ xs ≡ y ∷ ys → xs ≡ ys
  rest-is x y xs ys e = cc e

  same-mapped : (xs ys : List A) → AllByRecursion P xs → AllByRecursion P ys → map f xs ≡ map f ys → xs ≡ ys
  same-mapped [] [] p q e = refl
  same-mapped [] (y ∷ ys) p q e = cc e
  same-mapped (x ∷ xs) [] p q e = cc e
  same-mapped (x ∷ xs) (y ∷ ys) p q e =
      let first = one x y p.0 q.0 (first-is (f x) (f y) (map f xs) (map f ys) e) in
      let rest = same-mapped xs ys p.1 q.1 (rest-is (f x) (f y) (map f xs) (map f ys) e) in
      λ i. first i ∷ rest i

-- the law of a base, that a payload is written for one entry
abbrev pub OneEntry : Type 0
OneEntry = (a b : entry.Entry) → entry.IsInRange a → entry.IsInRange b → entry.written a ≡ entry.written b → a ≡ b

told-again : (status : Status) → told_state (made_at status) (logged_state status) ≡ status
told-again (Live version format text) = ap (λ f. Live version f text) (same-format format)
told-again (Withdrawn version) = refl

pub entry-again : (e : ℕ × Status) → told_entry (logged_entry e) ≡ e
entry-again e = λ i. (e.0, told-again e.1 i)

abbrev IsWritten : ℕ × Status → Type 0
IsWritten e = entry.IsInRange (logged_entry e)

one-state : OneEntry → (a b : ℕ × Status) → IsWritten a → IsWritten b → base_payload a ≡ base_payload b → a ≡ b
one-state one a b p q e =
    sym (entry-again a) ∙ (ap told_entry (one (logged_entry a) (logged_entry b) p q e) ∙ entry-again b)

abbrev IsChange : Change → Type 0
IsChange c = IsInRange (logged_change c)

one-change : OneChange → (a b : Change) → IsChange a → IsChange b → payload a ≡ payload b → a ≡ b
one-change one a b p q e =
    sym (logged-told a) ∙ (ap told (one (logged_change a) (logged_change b) p q e) ∙ logged-told b)

based-in-range : (version id : ℕ) (status : Status) → version ≤ 16777215 → IsBased version id status
    → IsWritten (id, status)
based-in-range version id status few h = (h.in_range.0, h.in_range.1, omega (arith, h.until, few))

base-in-range : (h : History) → IsHistory h → h.version ≤ 16777215 → AllByRecursion IsWritten h.base
base-in-range h good few = base-has h good IsWritten (λ q x b. based-in-range h.version q x few b)

pub one-history : OneChange → OneEntry
    → ((h k : Written) (a b : List ℕ) → PairOpens h a b → PairOpens k a b → h ≡ k)
    → (h k : History) (g j : ℕ) (a b : List ℕ) → OpensTo h g a b → OpensTo k j a b → (h ≡ k) × (g ≡ j)
one-history changes entries pairs h k g j a b o p =
    let same = pairs (history_of g h) (history_of j k) a b o.opens p.opens in
    let version = ap (λ (w : Written). w.header.base_version) same in
    let base = same-mapped base_payload IsWritten (one-state entries) h.base k.base
    (base-in-range h o.history (omega (arith, o.few))) (base-in-range k p.history (omega (arith, p.few)))
    (ap (λ (w : Written). w.base) same) in
    let commits = same-mapped payload IsChange (one-change changes) h.commits k.commits
    (history-in-range h o.history) (history-in-range k p.history) (ap (λ (w : Written). w.commits) same) in (
      λ i. record { base = base i; version = version i; commits = commits i },
      ap (λ (w : Written). w.header.generation) same,
    )
