-- No two rows of the table fit one atom.
use Rattle.std.proofs.Common.{zero, suc, ℕ, ◌<◌, ◌≡◌, inl, inr, Bool, true, false, not, ◌&&◌, eqb, List, [], ◌∷◌, length, get_or, Option, None, Some, refl, sym, subst, ◌∙◌, arith}
use Rattle.std.specs.List.{list_any}
use Rattle.std.specs.Ordering.{int_eq}
use Rattle.std.proofs.lemmas.Bool.{cases_lt, cases_eq, eq-eqb, eqb-true, false≢true}
use Rattle.std.proofs.lemmas.Bool.Decides.{Decides-int_eq}
use Rattle.std.proofs.lemmas.List.Folds.{Any-from_list_any, list_any-from_Any}
use Rattle.aromatic.specs.declared.environment.Environment.{Environment}
use Rattle.aromatic.specs.declared.table.Row.{Row}
use Rattle.aromatic.specs.declared.table.Family.{Family}
use Rattle.aromatic.specs.declared.table.Doubles.{Doubles}
use Rattle.aromatic.specs.declared.table.Doubles.TheVariants.{Absent, Ring, RingAndOxygen, Oxygen, Hetero}
use Rattle.aromatic.specs.Electrons.{fits, has_connected, has_doubles, has_number, members, rows}

both : (a b : Bool) → (a && b) ≡ true → (a ≡ true) × (b ≡ true)
both true b h = (refl, h)
both false b h = absurd (false≢true h)

-- an element is of both families
abbrev shares : Family → Family → Bool
shares f g = list_any (λ n. has_number g n) (members f)

shares-found : (f g : Family) (n : ℕ) → has_number f n ≡ true → has_number g n ≡ true → shares f g ≡ true
shares-found f g n one other =
    let at = Any-from_list_any (λ m. eqb n m) (members f) one in
    list_any-from_Any (λ m. has_number g m) (members f) (
      at.0,
      at.1,
      at.2,
      at.3,
      subst (λ m. has_number g m ≡ true) (eqb-true n at.1 at.4) other,
    )

-- how many double bonds in rings, and how many outside
abbrev inner : Doubles → ℕ
inner Absent = 0
inner Ring = 1
inner RingAndOxygen = 1
inner Oxygen = 0
inner Hetero = 0

abbrev outer : Doubles → ℕ
outer Absent = 0
outer Ring = 0
outer RingAndOxygen = 1
outer Oxygen = 1
outer Hetero = 1

counts : (d : Doubles) (x : Environment) → has_doubles d x ≡ true → (x.ring_doubles ≡ inner d)
    × (x.outer_doubles ≡ outer d)
counts Absent x h = let p = both _ _ h in (eqb-true _ _ p.0, eqb-true _ _ p.1)
counts Ring x h = let p = both _ _ h in (eqb-true _ _ p.0, eqb-true _ _ p.1)
counts RingAndOxygen x h = let p = both _ _ h in let q = both _ _ p.0 in (eqb-true _ _ q.0, eqb-true _ _ q.1)
counts Oxygen x h = let p = both _ _ h in let q = both _ _ p.0 in (eqb-true _ _ q.0, eqb-true _ _ q.1)
counts Hetero x h = let p = both _ _ h in let q = both _ _ p.0 in (eqb-true _ _ q.0, eqb-true _ _ q.1)

abbrev agree : Option ℕ → Option ℕ → Bool
agree (Some m) (Some n) = eqb m n
agree _ _ = true

agree-found : (m n : Option ℕ) (x : Environment) → has_connected m x ≡ true → has_connected n x ≡ true
    → agree m n ≡ true
agree-found (Some m) (Some n) x one other = eq-eqb m n (sym (eqb-true _ m one) ∙ eqb-true _ n other)
agree-found (Some m) None x one other = refl
agree-found None (Some n) x one other = refl
agree-found None None x one other = refl

-- nothing tells the rows apart
abbrev alike : Row → Row → Bool
alike r s =
    shares r.family s.family && (int_eq r.charge s.charge && (eqb (inner r.doubles) (inner s.doubles)
    && (eqb (outer r.doubles) (outer s.doubles) && agree r.connected s.connected)))

all : (a b : Bool) → a ≡ true → b ≡ true → (a && b) ≡ true
all true b one other = other
all false b one other = absurd (false≢true one)

alike-found : (r s : Row) (x : Environment) → fits r x ≡ true → fits s x ≡ true → alike r s ≡ true
unfolding fits
alike-found r s x one other =
    let a = both _ _ one in
    let b = both _ _ other in
    let c = both _ _ a.0 in
    let d = both _ _ b.0 in
    let e = both _ _ (both _ _ c.0).0 in
    let f = both _ _ (both _ _ d.0).0 in
    let charge : r.charge ≡ s.charge = (Decides-int_eq r.charge x.charge).0 e.1
    ∙ sym ((Decides-int_eq s.charge x.charge).0 f.1) in
    let m = counts r.doubles x c.1 in
    let n = counts s.doubles x d.1 in
    all _ _ (shares-found r.family s.family x.number e.0 f.0)
    (all _ _ ((Decides-int_eq r.charge s.charge).1 charge)
    (all _ _ (eq-eqb _ _ (sym m.0 ∙ n.0))
    (all _ _ (eq-eqb _ _ (sym m.1 ∙ n.1)) (agree-found r.connected s.connected x a.1 b.1))))

-- no row of the list is like the row, and no two of a list are alike
abbrev none_like : Row → List Row → Bool
none_like r [] = true
none_like r (s ∷ rest) = not (alike r s) && none_like r rest

abbrev none_alike : List Row → Bool
none_alike [] = true
none_alike (r ∷ rest) = none_like r rest && none_alike rest

turned : (b : Bool) → not b ≡ true → b ≡ false
turned true h = absurd (false≢true h)
turned false h = refl

unlike-at : (r : Row) (rest : List Row) (j : ℕ) (d : Row) → none_like r rest ≡ true → j < length rest
    → alike r (get_or rest j d) ≡ false
unlike-at r [] j d h within = absurd (omega arith)
unlike-at r (s ∷ rest) zero d h within = turned (alike r s) (both _ _ h).0
unlike-at r (s ∷ rest) (suc j) d h within = unlike-at r rest j d (both _ _ h).1 (omega arith)

unlike : (list : List Row) (i j : ℕ) (d : Row) → none_alike list ≡ true → i < j → j < length list
    → alike (get_or list i d) (get_or list j d) ≡ false
unlike [] i j d h lt within = absurd (omega arith)
unlike (r ∷ rest) i zero d h lt within = absurd (omega arith)
unlike (r ∷ rest) zero (suc j) d h lt within = unlike-at r rest j d (both _ _ h).0 (omega arith)
unlike (r ∷ rest) (suc i) (suc j) d h lt within = unlike rest i j d (both _ _ h).1 (omega arith) (omega arith)

table_unlike : none_alike rows ≡ true
unfolding rows
table_unlike = refl

-- one of two places before the other
ordered : (x : Environment) (i j : ℕ) (d : Row) → i < j → j < length rows → fits (get_or rows i d) x ≡ true
    → fits (get_or rows j d) x ≡ true → ⊥
ordered x i j d lt within one other = false≢true (sym (unlike rows i j d table_unlike lt within)
    ∙ alike-found (get_or rows i d) (get_or rows j d) x one other)

pub row-once : (x : Environment) (i j : ℕ) (d : Row) → i < length rows → j < length rows
    → fits (get_or rows i d) x ≡ true
    → fits (get_or rows j d) x ≡ true → i ≡ j
row-once x i j d hi hj one other = elim (cases_eq i j) [
  | inl e ↦ e
  | inr ne ↦ elim (cases_lt i j) [
    | inl l ↦ absurd (ordered x i j d l hj one other)
    | inr l ↦ absurd (ordered x j i d (omega arith) hi other one)
  ]
]
