-- A history as a disk has it is told one way.
use Rattle.std.proofs.Common.{◌≡◌, ◌⊎◌, ◌+◌, ◌-◌, ◌++◌, ◌≤◌, ◌<◌, ap, arith, inl, inr, length, length-append, List, [], ◌∷◌, map, refl, subst, sym, take, ℕ}
use Rattle.std.proofs.lemmas.List.{length-map, map-append}
use Rattle.std.specs.List.{AllByRecursion}
use Rattle.commit_log.specs.Change.{Change as Logged, IsInRange, written}
use Rattle.commit_log.specs.Entry.{Entry}
use Rattle.commit_log.specs.Log.{IsLogged, payloads as log_payloads}
use Rattle.journal_core.specs.Records.{IsShort}
use Rattle.mol_finish.specs.declared.fault.Format.{Format}
use Rattle.mol_finish.specs.declared.fault.Format.TheVariants.{Smiles, Molfile}
use Rattle.store_machine.specs.History.{AreAllowed, IsAllowed, IsHistory, IsValid, Snapshot, after_change, after_changes, base_states, head}
use Rattle.store_machine.specs.declared.machine.Change.{Change}
use Rattle.store_machine.specs.declared.machine.Change.TheVariants.{Register, Revise, Withdraw}
use Rattle.store_machine.specs.declared.machine.History.{History}
use Rattle.store_disk.specs.Loads.{MayFollow}
use Rattle.store_disk.specs.Payloads.{logged_change, logged_format, payload, stored_format, told, told_history}

pub same-format : (f : Format) → stored_format (logged_format f) ≡ f
same-format Smiles = refl
same-format Molfile = refl

pub logged-told : (c : Change) → told (logged_change c) ≡ c
logged-told (Register id format text) = ap (λ f. Register id f text) (same-format format)
logged-told (Revise id format text) = ap (λ f. Revise id f text) (same-format format)
logged-told (Withdraw id) = refl

in-range : (c : Change) → IsValid c → IsInRange (logged_change c)
in-range (Register id format text) v = v.0
in-range (Revise id format text) v = v.0
in-range (Withdraw id) v = v

abbrev AllInRange : List Change → Type 0
AllInRange h = AllByRecursion (λ c. IsInRange (logged_change c)) h

all-in-range : (version : ℕ) (h : List Change) (states : Snapshot) → AreAllowed version h states → AllInRange h
all-in-range version [] states all = tt
all-in-range version (c ∷ cs) states all =
    (in-range c all.0, all-in-range (version + 1) cs (after_change (version + 1) c states) all.2)

pub history-in-range : (h : History) → IsHistory h → AllInRange h.commits
history-in-range h is = all-in-range h.version h.commits (base_states h) is.allowed

-- the law of a log, that a payload is written for one change
abbrev pub OneChange : Type 0
OneChange = (a b : Logged) → IsInRange a → IsInRange b → written a ≡ written b → a ≡ b

-- the changes of a history as a log has them
pub logged-all : (h : List Change) → AllInRange h → AllByRecursion IsShort (map payload h)
    → AllByRecursion IsLogged (map logged_change h)
logged-all [] p q = tt
logged-all (c ∷ cs) p q = ((p.0, q.0), logged-all cs p.1 q.1)

pub logged-payloads : (h : List Change) → log_payloads (map logged_change h) ≡ map payload h
logged-payloads [] = refl
logged-payloads (c ∷ cs) = ap (λ l. payload c ∷ l) (logged-payloads cs)

-- a commit of a history may follow those before it
allowed-after : (version : ℕ) (h : List Change) (c : Change) (more : List Change) (states : Snapshot)
    → AreAllowed version (h ++ c ∷ more) states → IsValid c × IsAllowed (after_changes version h states) c
allowed-after version [] c more states all = (all.0, all.1)
allowed-after version (a ∷ h) c more states all =
    allowed-after (version + 1) h c more (after_change (version + 1) a states) all.2

take-all : (n : ℕ) (h : List Change) → n ≡ length h → take n h ≡ h
take-all n h is = rw is (go h)
  where
    go : (h : List Change) → take (length h) h ≡ h
    go [] = refl
    go (c ∷ h) = ap (λ l. c ∷ l) (go h)

may-follow : (version : ℕ) (entries : List Entry) (before : List Logged) (c : Logged) (more : List Logged)
    → IsHistory (told_history version entries (before ++ c ∷ more))
    → head (told_history version entries before) < 16777215 → MayFollow (told_history version entries before) (told c)
may-follow version entries before c more h few =
    let states = base_states (told_history version entries before) in
    let a = allowed-after version (map told before) (told c) (map told more) states
    (subst (λ l. AreAllowed version l states) (map-append told before (c ∷ more)) h.allowed) in (
      a.0,
      subst (λ l. IsAllowed (after_changes version l states) (told c))
          (sym (take-all (head (told_history version entries before) - version) (map told before) (omega arith))) a.1,
      few,
    )

-- a commit of a history is not refused
pub never : (version : ℕ) (entries : List Entry) (before : List Logged) (c : Logged) (more longer : List Logged)
    → longer ≡ before ++ c ∷ more → IsHistory (told_history version entries longer)
    → head (told_history version entries longer) ≤ 16777215
    → ¬ MayFollow (told_history version entries before) (told c) → ⊥
never version entries before c more longer is h few refused =
    refused (may-follow version entries before c more
    (subst (λ l. IsHistory (told_history version entries l)) is h)
    (omega (
      arith,
      few,
      ap (λ (l : List Logged). length l) is,
      length-append before (c ∷ more),
      length-map before told,
      length-map longer told,
    )))

-- two lists that begin so: one of the beginnings goes on to the other
abbrev pub Compared : {A : Type 0} → List A → A → List A → A → Type 0
Compared {A} xs x ys y = (xs ≡ ys) ⊎ (((zs : List A) × (ys ≡ xs ++ x ∷ zs)) ⊎ ((zs : List A) × (xs ≡ ys ++ y ∷ zs)))

same-head : {A : Type 0} (x y : A) (xs ys : List A) → x ∷ xs ≡ y ∷ ys → x ≡ y
same-head x y xs ys e = cc e

same-tail : {A : Type 0} (x y : A) (xs ys : List A) → x ∷ xs ≡ y ∷ ys → xs ≡ ys
same-tail x y xs ys e = cc e

pub compare : {A : Type 0} (xs : List A) (x : A) (xm ys : List A) (y : A) (ym : List A)
    → xs ++ x ∷ xm ≡ ys ++ y ∷ ym → Compared xs x ys y
compare [] x xm [] y ym e = inl refl
compare [] x xm (b ∷ ys) y ym e = inr (inl (ys, ap (λ c. c ∷ ys) (sym (same-head x b xm (ys ++ y ∷ ym) e))))
compare (a ∷ xs) x xm [] y ym e = inr (inr (xs, ap (λ c. c ∷ xs) (same-head a y (xs ++ x ∷ xm) ym e)))
compare (a ∷ xs) x xm (b ∷ ys) y ym e =
    let first = same-head a b (xs ++ x ∷ xm) (ys ++ y ∷ ym) e in
    elim (compare xs x xm ys y ym (same-tail a b (xs ++ x ∷ xm) (ys ++ y ∷ ym) e)) [
      | inl same ↦ inl (λ i. first i ∷ same i)
      | inr rest ↦ elim rest [
        | inl on ↦ inr (inl (on.0, λ i. sym first i ∷ on.1 i))
        | inr on ↦ inr (inr (on.0, λ i. first i ∷ on.1 i))
      ]
    ]

-- the payloads of a history are short
pub all-short : (h : List Change) → AllInRange h → ((c : Change) → IsValid c → IsShort (payload c))
    → (version : ℕ) (states : Snapshot) → AreAllowed version h states → AllByRecursion IsShort (map payload h)
all-short [] range short version states all = tt
all-short (c ∷ h) range short version states all = (
  short c all.0,
  all-short h range.1 short (version + 1) (after_change (version + 1) c states) all.2,
)
