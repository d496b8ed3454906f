-- From the current disk and the other one to the first disk and the second.
use Rattle.std.proofs.Common.{Bool, false, true, ℕ, List, arith}
use Rattle.disk_edge.specs.Disk.{DiskModel, IfTold}
use Rattle.disk_edge.specs.Moments.{AtEachMoment}
use Rattle.disk_pair.specs.Pairs.{History, PairOpensTo}
use Rattle.disk_pair.specs.Term.{Goes, first_of}
use Rattle.disk_pair.proofs.Readings.{Shows}

module _ {D : Type 0} (model : DiskModel D) where
  -- nothing was called
  pub goes_none : (d : D) → Goes model d d
  goes_none d = record {
    past = record { later = omega arith; no_more = λ t u c le b. b; no_fewer = λ t u c le b. b };
    count = record { count = omega arith; bound = λ n is. (n, is, omega arith) };
    untold = λ none. none;
  }

  -- the current disk and the other one, before and after a call
  module _ (second : Bool) (c c' o o' : D) where
    abbrev Nested : (History → Type 0) → Type 0
    Nested P = IfTold (model.content c') (λ _. IfTold (model.content o') (λ _.
        AtEachMoment model c c' (λ x. AtEachMoment model o o' (λ y. (h : History) × P h × Shows second h x y))))

  pub each_pair : (second : Bool) (c c' o o' : D) (P : History → Type 0) → Nested second c c' o o' P
      → IfTold (model.content (first_of second c' o')) (λ _. IfTold (model.content (first_of second o' c')) (λ _.
      AtEachMoment model (first_of second c o) (first_of second c' o') (λ x.
      AtEachMoment model (first_of second o c) (first_of second o' c') (λ y. PairOpensTo P x y))))
  each_pair false c c' o o' P f = f
  each_pair true c c' o o' P f = λ l told k told_other x m y n. f k told_other l told y n x m

  pub each_now : (second : Bool) (c o : D) (P : History → Type 0)
      → IfTold (model.content c) (λ _. IfTold (model.content o) (λ _. (x y : List ℕ) → model.images c x
      → model.images o y → (h : History) × P h × Shows second h x y))
      → IfTold (model.content (first_of second c o)) (λ _. IfTold (model.content (first_of second o c)) (λ _.
      (x y : List ℕ) → model.images (first_of second c o) x → model.images (first_of second o c) y
      → PairOpensTo P x y))
  each_now false c o P f = f
  each_now true c o P f = λ l told k told_other x y i j. f k told_other l told y x j i
