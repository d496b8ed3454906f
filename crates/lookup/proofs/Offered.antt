-- Offers of records, one more at a time: a board knows them in any order.
use Rattle.std.proofs.Common.{◌≡◌, ◌≢◌, ◌++◌, ◌<◌, ◌&&◌, ◌∙◌, ap, arith, Bool, cond, count_by, inl, inr, length, List, [], ◌∷◌, refl, subst, sym, ℕ, Contains}
use Rattle.std.proofs.lemmas.List.Elements.{Contains-append_left, Contains-push}
use Rattle.std.proofs.lemmas.List.Sums.{sum_by-append, sum_by-cons}
use Rattle.std.specs.List.{AllByRecursion}
use Rattle.similar_find.specs.Board.{AreOffers, Board, IsBest, Offer, betters, is_better, passes}
use Rattle.store_core.specs.Records.{RecordTerm, found_of}
use Rattle.store_machine.proofs.Members.{contains-here, contains-last, contains-split, contains-there}
use Rattle.store_machine.specs.declared.machine.Found.{Found}
use Rattle.lookup.specs.Asked.{AreScored, IsScored}
use Rattle.lookup.specs.Lists.{IsSimilarList}
use Rattle.lookup.specs.Walks.{HasOffered}
use Rattle.lookup.specs.declared.similar.SimilarList.{SimilarList}

all-front : {X : Type 0} (P : X → Type 0) (xs ys : List X) → AllByRecursion P (xs ++ ys) → AllByRecursion P xs
all-front P [] ys h = tt
all-front P (x ∷ xs) ys h = (h.0, all-front P xs ys h.1)

all-last : {X : Type 0} (P : X → Type 0) (xs : List X) (x : X) → AllByRecursion P (xs ++ x ∷ []) → P x
all-last P [] x h = h.0
all-last P (y ∷ ys) x h = all-last P ys x h.1

offers-front : (xs : List Offer) (x : Offer) → AreOffers (xs ++ x ∷ []) → AreOffers xs
offers-front [] x h = tt
offers-front (y ∷ ys) x h = (h.0, all-front (λ (z : Offer). z.0 ≢ y.0) ys (x ∷ []) h.1, offers-front ys x h.2)

others : (xs : List Offer) (x : Offer) → AreOffers (xs ++ x ∷ []) → AllByRecursion (λ (y : Offer). y.0 ≢ x.0) xs
others [] x h = tt
others (y ∷ ys) x h = (λ e. all-last (λ (z : Offer). z.0 ≢ y.0) ys x h.1 (sym e), others ys x h.2)

some-bit : (xs : List Offer) (x : Offer) → AreOffers (xs ++ x ∷ []) → 0 < x.2
some-bit [] x h = h.0
some-bit (y ∷ ys) x h = some-bit ys x h.2

-- the last as the first
pub offers-turn : (xs : List Offer) (x : Offer) → AreOffers (xs ++ x ∷ []) → AreOffers (x ∷ xs)
offers-turn xs x h = (some-bit xs x h, others xs x h, offers-front xs x h)

count-turn : {X : Type 0} (p : X → Bool) (xs : List X) (x : X) → count_by p (xs ++ x ∷ []) ≡ count_by p (x ∷ xs)
count-turn {X} p xs x =
    let one : X → ℕ = λ z. cond (p z) 1 0 in
    omega (arith, sum_by-append one xs (x ∷ []), sum_by-cons one x xs, sum_by-cons one x [])

in-turned : {X : Type 0} (xs : List X) (x y : X) → Contains (xs ++ x ∷ []) y → Contains (x ∷ xs) y
in-turned xs x y c = elim (contains-last x y xs c) [
  | inl d ↦ contains-there x y xs d
  | inr e ↦ contains-here x y xs e
]

in-turned-back : {X : Type 0} (xs : List X) (x y : X) → Contains (x ∷ xs) y → Contains (xs ++ x ∷ []) y
in-turned-back xs x y c = elim (contains-split x y xs c) [
  | inl e ↦ subst (λ z. Contains (xs ++ x ∷ []) z) e (Contains-push xs x)
  | inr d ↦ Contains-append_left xs (x ∷ []) y d
]

pub best-turn : (board : Board) (xs : List Offer) (x : Offer) → IsBest (x ∷ xs) board → IsBest (xs ++ x ∷ []) board
best-turn board xs x b = record {
  each = λ place y.
      let same : betters board (xs ++ x ∷ []) y ≡ betters board (x ∷ xs) y =
      count-turn (λ z. passes board z && is_better z y) xs x in (
        λ at. let k = (b.each place y).0 at in (in-turned-back xs x y k.0, k.1, same ∙ k.2, k.3),
        λ k. (b.each place y).1 (in-turned xs x y k.0, k.1, sym same ∙ k.2, k.3),
      );
}

scored-append : (print : List Bool) (xs ys : List Found) (os ps : List Offer) → AreScored print xs os
    → AreScored print ys ps → AreScored print (xs ++ ys) (os ++ ps)
scored-append print [] ys os ps h k = subst (λ (l : List Offer). AreScored print ys (l ++ ps)) (sym h) k
scored-append print (x ∷ xs) ys os ps h k =
    (h.0, h.1, h.2 ++ ps, h.3, ap (λ l. l ++ ps) h.4, scored-append print xs ys h.2 ps h.5 k)

-- one record more
pub offered-on : (start old new : Board) (print : List Bool) (xs : List Found) (r : RecordTerm) (id c u : ℕ)
    → HasOffered start print xs old → IsScored print r.format r.text c u → id ≡ r.id
    → ((offered : List Offer) → AreOffers ((id, c, u) ∷ offered) → IsBest offered old → IsBest ((id, c, u) ∷ offered) new)
    → new.p ≡ old.p → new.q ≡ old.q → new.most ≡ old.most
    → HasOffered start print (xs ++ found_of r ∷ []) new
offered-on start old new print xs r id c u h scored e offer p q most =
    let x : Offer = (id, c, u) in
    record {
      p_is = p ∙ h.p_is;
      q_is = q ∙ h.q_is;
      most_is = most ∙ h.most_is;
      offers = h.offers ++ x ∷ [];
      are = scored-append print xs (found_of r ∷ []) h.offers (x ∷ []) h.are
          (c, u, [], scored, ap (λ n. (n, c, u) ∷ []) e, refl);
      best = λ are.
          best-turn new h.offers x
          (offer h.offers (offers-turn h.offers x are) (h.best (offers-front h.offers x are)));
    }

-- one without bits, which is none
pub offered-none-of : (start board : Board) (print : List Bool) (xs : List Found) (r : RecordTerm) (c u : ℕ)
    → HasOffered start print xs board → IsScored print r.format r.text c u → u ≡ 0
    → HasOffered start print (xs ++ found_of r ∷ []) board
offered-none-of start board print xs r c u h scored none =
    let x : Offer = (r.id, c, u) in
    record {
      p_is = h.p_is;
      q_is = h.q_is;
      most_is = h.most_is;
      offers = h.offers ++ x ∷ [];
      are = scored-append print xs (found_of r ∷ []) h.offers (x ∷ []) h.are (c, u, [], scored, refl, refl);
      best = λ are. absurd (omega (arith, some-bit h.offers x are, none));
    }

-- before the first record
pub offered-none : (start : Board) (print : List Bool) → IsBest [] start → HasOffered start print [] start
offered-none start print none = record {
  p_is = refl;
  q_is = refl;
  most_is = refl;
  offers = [];
  are = refl;
  best = λ are. none;
}

-- the list of all records
pub similar-list : (p q k version : ℕ) (print : List Bool) (start : Board) (records : List Found) (list : SimilarList)
    → start ≡ record { p = p; q = q; most = k; hits = [] } → HasOffered start print records list.best
    → list.version ≡ version → list.scored ≡ length records → IsSimilarList p q k print version records list
similar-list p q k version print start records list asked h v n = record {
  version_is = v;
  scored = n;
  p_is = h.p_is ∙ ap (λ (b : Board). b.p) asked;
  q_is = h.q_is ∙ ap (λ (b : Board). b.q) asked;
  most_is = h.most_is ∙ ap (λ (b : Board). b.most) asked;
  offers = h.offers;
  are = h.are;
  best = h.best;
}
