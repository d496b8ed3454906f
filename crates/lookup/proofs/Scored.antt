-- Records that are scored: each once, with one score.
use Rattle.std.proofs.Common.{◌≡◌, ◌≢◌, ◌+◌, ◌<◌, ◌≤◌, ◌||◌, ◌↔◌, ◌∙◌, ap, ap₂, arith, Bool, cond, Contains, false, inl, inr, length, List, [], ◌∷◌, map, refl, subst, suc, sym, true, zero, zip, ℕ}
use Rattle.std.proofs.lemmas.Bool.{false≢true}
use Rattle.std.proofs.lemmas.List.Sums.{sum_by-cons}
use Rattle.std.specs.List.{AllByRecursion}
use Rattle.chem_core.specs.Bits.{HasBit, set_bits, shared_bits}
use Rattle.chem_core.specs.Molecule.{Molecule}
use Rattle.mol_finish.specs.declared.fault.Format.{Format}
use Rattle.path_print.specs.Prints.{IsPrint}
use Rattle.similar_find.specs.Board.{AreOffers, Offer}
use Rattle.similar_find.specs.Score.{all_bits}
use Rattle.store_machine.proofs.Members.{contains-here, contains-split, contains-there}
use Rattle.store_machine.proofs.Picks.{Rising}
use Rattle.store_machine.specs.Answers.{ids}
use Rattle.store_machine.specs.declared.machine.Found.{Found}
use Rattle.lookup.specs.Asked.{AreScored, IsScored}
use Rattle.lookup.proofs.Picked.{OneStructure}

first-le : (a b : Bool) → cond a 1 0 ≤ cond (a || b) 1 0
first-le true b = omega arith
first-le false true = omega arith
first-le false false = omega arith

-- the bits of the first are among those of either
pub set-le-all : (xs ys : List Bool) → length xs ≡ length ys → set_bits xs ≤ all_bits xs ys
set-le-all [] [] e = omega arith
set-le-all [] (y ∷ ys) e = absurd (omega (arith, e))
set-le-all (x ∷ xs) [] e = absurd (omega (arith, e))
set-le-all (x ∷ xs) (y ∷ ys) e =
    let mine = sum_by-cons (λ (b : Bool). cond b 1 0) x xs in
    let all = sum_by-cons (λ (p : Bool × Bool). cond (p.0 || p.1) 1 0) (x, y) (zip xs ys) in
    omega (arith, mine, all, set-le-all xs ys (omega (arith, e)), first-le x y)

-- a print with a bit
pub some-bits : (xs : List Bool) (bit : ℕ) → HasBit xs bit → 1 ≤ set_bits xs
some-bits [] zero h = absurd (false≢true h)
some-bits [] (suc bit) h = absurd (false≢true h)
some-bits (true ∷ xs) zero h = omega (arith, sum_by-cons (λ (b : Bool). cond b 1 0) true xs)
some-bits (false ∷ xs) zero h = absurd (false≢true h)
some-bits (x ∷ xs) (suc bit) h =
    omega (arith, sum_by-cons (λ (b : Bool). cond b 1 0) x xs, some-bits xs bit h)

same-bit : (x y : Bool) → ((x ≡ true) ↔ (y ≡ true)) → x ≡ y
same-bit true y h = sym (h.0 refl)
same-bit false true h = h.1 refl
same-bit false false h = refl

bits-one : (xs ys : List Bool) → length xs ≡ length ys → ((bit : ℕ) → HasBit xs bit ↔ HasBit ys bit) → xs ≡ ys
bits-one [] [] e h = refl
bits-one [] (y ∷ ys) e h = absurd (omega (arith, e))
bits-one (x ∷ xs) [] e h = absurd (omega (arith, e))
bits-one (x ∷ xs) (y ∷ ys) e h =
    ap₂ (λ (b : Bool) (l : List Bool). b ∷ l) (same-bit x y (h 0))
    (bits-one xs ys (omega (arith, e)) (λ bit. h (suc bit)))

-- a molecule has one print
pub print-one : (m : Molecule) (x y : List Bool) → IsPrint m x → IsPrint m y → x ≡ y
print-one m x y p q =
    bits-one x y (p.size ∙ sym q.size)
    (λ bit. (λ h. (q.bits bit).1 ((p.bits bit).0 h), λ h. (p.bits bit).1 ((q.bits bit).0 h)))

module _ (one : OneStructure) (print : List Bool) where
  own-one : (format : Format) (text : List ℕ) (c u d w : ℕ) → (s : IsScored print format text c u)
      → (t : IsScored print format text d w) → s.own ≡ t.own
  own-one format text c u d w s t =
      print-one t.molecule s.own t.own
      (subst (λ (m : Molecule). IsPrint m s.own) (one format text s.molecule t.molecule s.structure t.structure) s.own_is)
      t.own_is

  score-one : (format : Format) (text : List ℕ) (c u d w : ℕ) → IsScored print format text c u
      → IsScored print format text d w → (c ≡ d) × (u ≡ w)
  score-one format text c u d w s t =
      let same = own-one format text c u d w s t in (
        s.both ∙ (ap (λ (l : List Bool). shared_bits print l) same ∙ sym t.both),
        s.either ∙ (ap (λ (l : List Bool). all_bits print l) same ∙ sym t.either),
      )

  pub scored-all : (rs : List Found) (offers : List Offer) (r : Found) (c u : ℕ) → AreScored print rs offers
      → Contains rs r → IsScored print r.format r.text c u → Contains offers (r.id, c, u)
  scored-all [] offers r c u h k s = absurd (omega (arith, k.1))
  scored-all (q ∷ qs) offers r c u (d, w, rest, scored, is, more) k s =
      subst (λ (l : List Offer). Contains l (r.id, c, u)) (sym is)
      (elim (contains-split q r qs k) [
        | inl e ↦
            let here : IsScored print r.format r.text d w =
            subst (λ (x : Found). IsScored print x.format x.text d w) e scored in
            let same = score-one r.format r.text d w c u here s in
            let id : q.id ≡ r.id = ap (λ (x : Found). x.id) e in
            contains-here (q.id, d, w) (r.id, c, u) rest
            (ap (λ (n : ℕ). (let o : Offer = (n, d, w) in o)) id
            ∙ ap₂ (λ (m n : ℕ). (let o : Offer = (r.id, m, n) in o)) same.0 same.1)
        | inr d' ↦ contains-there (q.id, d, w) (r.id, c, u) rest (scored-all qs rest r c u more d' s)
      ])

module _ (print : List Bool) where
  pub scored-ids : (rs : List Found) (offers : List Offer) → AreScored print rs offers
      → map (λ (o : Offer). o.0) offers ≡ ids rs
  scored-ids [] offers h = ap (map (λ (o : Offer). o.0)) h
  scored-ids (r ∷ rs) offers (c, u, rest, scored, is, more) =
      ap (map (λ (o : Offer). o.0)) is ∙ ap (λ (l : List ℕ). r.id ∷ l) (scored-ids rs rest more)

  pub scored-length : (rs : List Found) (offers : List Offer) → AreScored print rs offers → length offers ≡ length rs
  scored-length [] offers h = ap (λ (l : List Offer). length l) h
  scored-length (r ∷ rs) offers (c, u, rest, scored, is, more) =
      ap (λ (l : List Offer). length l) is ∙ ap suc (scored-length rs rest more)

  pub scored-only : (rs : List Found) (offers : List Offer) (o : Offer) → AreScored print rs offers
      → Contains offers o → (r : Found) × Contains rs r × (r.id ≡ o.0) × IsScored print r.format r.text o.1 o.2
  scored-only [] offers o h k = absurd (omega (arith, (subst (λ (l : List Offer). Contains l o) h k).1))
  scored-only (r ∷ rs) offers o (c, u, rest, scored, is, more) k =
      elim (contains-split (r.id, c, u) o rest (subst (λ (l : List Offer). Contains l o) is k)) [
        | inl e ↦ (
          r,
          contains-here r r rs refl,
          ap (λ (x : Offer). x.0) e,
          subst (λ (x : Offer). IsScored print r.format r.text x.1 x.2) e scored,
        )
        | inr d ↦ let w = scored-only rs rest o more d in (w.0, contains-there r w.0 rs w.1, w.2, w.3)
      ]

  others-above : (x a : ℕ) (offers : List Offer) → x < a → Rising a (map (λ (o : Offer). o.0) offers)
      → AllByRecursion (λ (y : Offer). y.0 ≢ x) offers
  others-above x a [] less up = tt
  others-above x a (o ∷ os) less up =
      (λ e. omega (arith, less, up.0, e), others-above x (o.0 + 1) os (omega (arith, less, up.0)) up.1)

  -- offers of records that ascend, beside a print with a bit
  pub are-offers : 1 ≤ set_bits print → length print ≡ 1024 → (a : ℕ) (rs : List Found) (offers : List Offer)
      → AreScored print rs offers → Rising a (map (λ (o : Offer). o.0) offers) → AreOffers offers
  are-offers some size a [] offers h up = subst AreOffers (sym h) tt
  are-offers some size a (r ∷ rs) offers (c, u, rest, scored, is, more) up =
      let up' : Rising a (map (λ (o : Offer). o.0) ((r.id, c, u) ∷ rest)) =
      subst (λ (l : List Offer). Rising a (map (λ (o : Offer). o.0) l)) is up in
      let all = set-le-all print scored.own (size ∙ sym scored.own_is.size) in
      subst AreOffers (sym is) (
        omega (arith, some, all, scored.either),
        others-above r.id (r.id + 1) rest (omega arith) up'.1,
        are-offers some size (r.id + 1) rs rest more up'.1,
      )
