-- Records in ascending order, and what of them is at or past an identifier.
use Rattle.std.proofs.Common.{◌≡◌, ◌+◌, ◌≤◌, ◌∙◌, ap, arith, Bool, cond, drop, filter, le_trans, le-leb, leb-false, leb-true, List, [], ◌∷◌, nat_le, refl, suc, sym, take, zero, ℕ}
use Rattle.std.proofs.lemmas.Bool.{cond-false, cond-true, cond_both, lt-leb}
use Rattle.store_machine.specs.Answers.{from_on}
use Rattle.store_machine.specs.Searches.{past}
use Rattle.store_machine.specs.declared.machine.Found.{Found}

-- each identifier is at or past this one, and past the one before it
abbrev pub Ascends : ℕ → List Found → Type 0
Ascends a [] = Unit {0}
Ascends a (r ∷ rs) = (a ≤ r.id) × Ascends (r.id + 1) rs

pub Ascends-weaker : (a b : ℕ) (rs : List Found) → a ≤ b → Ascends b rs → Ascends a rs
Ascends-weaker a b [] le h = tt
Ascends-weaker a b (r ∷ rs) le h = (le_trans le h.0, h.1)

pub Ascends-filter : (a : ℕ) (p : Found → Bool) (rs : List Found) → Ascends a rs → Ascends a (filter p rs)
Ascends-filter a p [] h = tt
Ascends-filter a p (r ∷ rs) h =
    let rest = Ascends-filter (r.id + 1) p rs h.1 in
    cond_both (p r) (r ∷ filter p rs) (filter p rs) (Ascends a) (λ _. (h.0, rest))
    (λ _. Ascends-weaker a (r.id + 1) (filter p rs) (omega (arith, h.0)) rest)

pub Ascends-from_on : (a b : ℕ) (rs : List Found) → Ascends b rs → Ascends a (from_on a rs)
Ascends-from_on a b [] h = tt
Ascends-from_on a b (r ∷ rs) h =
    cond_both (nat_le a r.id) (r ∷ from_on a rs) (from_on a rs) (Ascends a)
    (λ e. (leb-true a r.id e, Ascends-filter (r.id + 1) (λ q. nat_le a q.id) rs h.1))
    (λ _. Ascends-from_on a (r.id + 1) rs h.1)

pub from_on-all : (a : ℕ) (rs : List Found) → Ascends a rs → from_on a rs ≡ rs
from_on-all a [] h = refl
from_on-all a (r ∷ rs) h =
    cond-true (nat_le a r.id) (r ∷ from_on a rs) (from_on a rs) (le-leb a r.id h.0)
    ∙ ap (λ l. r ∷ l) (from_on-all a rs (Ascends-weaker a (r.id + 1) rs (omega (arith, h.0)) h.1))

pub from_on-twice : (a b : ℕ) (rs : List Found) → a ≤ b → from_on b (from_on a rs) ≡ from_on b rs
from_on-twice a b [] le = refl
from_on-twice a b (r ∷ rs) le =
    cond_both (nat_le a r.id) (r ∷ from_on a rs) (from_on a rs) (λ l. from_on b l ≡ from_on b (r ∷ rs))
    (λ _. ap (λ l. cond (nat_le b r.id) (r ∷ l) l) (from_on-twice a b rs le))
    (λ e. from_on-twice a b rs le ∙ sym (cond-false (nat_le b r.id) (r ∷ from_on b rs) (from_on b rs)
    (lt-leb b r.id (omega (arith, le, leb-false a r.id e)))))

pub past-le : (a n : ℕ) (rs : List Found) → Ascends a rs → a ≤ past a (take n rs)
past-le a zero rs h = omega arith
past-le a (suc n) [] h = omega arith
past-le a (suc n) (r ∷ rs) h = omega (arith, h.0, past-le (r.id + 1) n rs h.1)

-- past the last of the first n stand the others
pub from_on-past : (a n : ℕ) (rs : List Found) → Ascends a rs → from_on (past a (take n rs)) rs ≡ drop n rs
from_on-past a zero rs h = from_on-all a rs h
from_on-past a (suc n) [] h = refl
from_on-past a (suc n) (r ∷ rs) h =
    let k = past (r.id + 1) (take n rs) in
    cond-false (nat_le k r.id) (r ∷ from_on k rs) (from_on k rs)
    (lt-leb k r.id (omega (arith, past-le (r.id + 1) n rs h.1))) ∙ from_on-past (r.id + 1) n rs h.1
