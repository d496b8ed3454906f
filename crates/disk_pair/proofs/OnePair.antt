-- Two disks open one way.
use Rattle.std.proofs.Common.{◌≡◌, ◌⊎◌, inl, inr, ◌++◌, ◌∷◌, ◌<◌, ◌≤◌, false, true, ℕ, List, refl, sym, ◌∙◌, subst, arith}
use Rattle.std.proofs.lemmas.Bool.{cases_lt}
use Rattle.std.specs.List.{AllByRecursion}
use Rattle.journal_core.proofs.FrontLaws.{one_generation, open_or_not}
use Rattle.journal_core.specs.Fronts.{IsFront, IsOpen, IsOpenAt}
use Rattle.journal_core.proofs.OneWay.{one_commits, one_front}
use Rattle.journal_core.specs.Records.{IsShort, prefix}
use Rattle.journal_core.specs.declared.format.TheConstants.{CLOSED}
use Rattle.disk_pair.specs.Pairs.{History, OpensAs, PairOpens, Picks, ReadsFirst, ReadsSecond}
use Rattle.disk_pair.proofs.Readings.{reads_current, shut_loses}

not_both : (a b : List ℕ) → ReadsFirst a b → ReadsSecond a b → ⊥
not_both a b f s =
    let le : s.0 ≤ f.0 = f.2 s.0 s.1 in
    let lt : f.0 < s.0 = s.2 f.0 f.1 in
    omega (arith, le, lt)

one_pick : (a b c d : List ℕ) → Picks a b c → Picks a b d → c ≡ d
one_pick a b c d (inl p) (inl q) = p.1 ∙ sym q.1
one_pick a b c d (inl p) (inr q) = absurd (not_both a b p.0 q.0)
one_pick a b c d (inr p) (inl q) = absurd (not_both a b q.0 p.0)
one_pick a b c d (inr p) (inr q) = p.1 ∙ sym q.1

one_disk : (h k : History) (c : List ℕ) → OpensAs h c → OpensAs k c → h ≡ k
one_disk h k c o p =
    let front = one_front h.header k.header h.base k.base o.front p.front h.commits k.commits c o.is p.is o.opens
    p.opens in
    let commits = one_commits h.header k.header h.base k.base o.front p.front h.commits k.commits c o.is p.is o.opens
    p.opens in
    λ i. record { header = front.header i; base = front.bases i; commits = commits i }

pub one_history : (h k : History) (a b : List ℕ) → PairOpens h a b → PairOpens k a b → h ≡ k
one_history h k a b o p = one_disk h k p.read
    (subst (OpensAs h) (one_pick a b o.read p.read o.picks p.picks) o.opens) p.opens

both_open : (a b : List ℕ) (g k : ℕ) → IsOpenAt g a → IsOpenAt k b → (c : List ℕ) × Picks a b c
both_open a b g k p q = elim (cases_lt g k) [
  | inl less ↦ (b, inr ((k, q, λ m r. let same = one_generation g m a p r in omega (arith, same, less)), refl))
  | inr le ↦ (a, inl ((g, p, λ m r. let same = one_generation k m b q r in omega (arith, same, le)), refl))
]

pub some_pick : (a b : List ℕ) → IsOpen a ⊎ IsOpen b → (c : List ℕ) × Picks a b c
some_pick a b (inl p) = elim (open_or_not b) [
  | inl q ↦ both_open a b p.0 q.0 p.1 q.1
  | inr closed ↦ (a, inl ((p.0, p.1, λ m r. absurd (closed (m, r))), refl))
]
some_pick a b (inr q) = elim (open_or_not a) [
  | inl p ↦ both_open a b p.0 q.0 p.1 q.1
  | inr closed ↦ (b, inr ((q.0, q.1, λ m r. absurd (closed (m, r))), refl))
]

text_opens : (h : History) (front rest : List ℕ) → IsFront h.header h.base front → AllByRecursion IsShort h.commits
    → OpensAs h (prefix front h.commits ++ CLOSED ∷ rest)
text_opens h front rest is fit = record {
  front = front;
  is = is;
  opens = record { gate = CLOSED; rest = rest; is = refl; shut = λ e. omega (arith, e); fit = fit };
}

pub first_text : (h : History) (front rest b : List ℕ) → IsFront h.header h.base front
    → AllByRecursion IsShort h.commits → (IsOpen b → ⊥) → PairOpens h (prefix front h.commits ++ CLOSED ∷ rest) b
first_text h front rest b is fit closed = reads_current false h (prefix front h.commits ++ CLOSED ∷ rest) b
    (text_opens h front rest is fit) (shut_loses false h.header.generation b closed)

pub second_text : (h : History) (front rest a : List ℕ) → IsFront h.header h.base front
    → AllByRecursion IsShort h.commits → (IsOpen a → ⊥) → PairOpens h a (prefix front h.commits ++ CLOSED ∷ rest)
second_text h front rest a is fit closed = reads_current true h (prefix front h.commits ++ CLOSED ∷ rest) a
    (text_opens h front rest is fit) (shut_loses true h.header.generation a closed)
