-- What is in doubt is what some two images open to.
use Rattle.std.proofs.Common.{◌≡◌, ◌⊎◌, ◌<◌, inl, inr, Bool, false, true, ℕ, List, Option, Some, None, refl, subst, sym}
use Rattle.disk_edge.specs.Disk.{DiskModel, IfTold}
use Rattle.disk_pair.specs.Pairs.{History, Loses, OpensAs, PairOpens, State, with_commit}
use Rattle.disk_pair.specs.Puts.{IsOther, ShowsDoubt}
use Rattle.disk_pair.specs.Stands.{Beside, Has, OtherHas, StandsFor}
use Rattle.disk_pair.specs.Term.{OfSomePair, Paired, disk_of, first_of}
use Rattle.disk_pair.specs.declared.other.Other.{Other}
use Rattle.disk_pair.specs.declared.other.Other.TheVariants.{Idle, Copy}
use Rattle.disk_pair.proofs.Commits.{has_shows, opens_as}
use Rattle.disk_pair.proofs.Others.{other_shows}
use Rattle.disk_pair.proofs.Readings.{Shows, reads_copy, reads_current}

no_copy : (second : Bool) (g : ℕ) (y : List ℕ) → IsOther second g None y → Loses second g y
no_copy second g y (inl copy) = absurd (cc copy.1)
no_copy second g y (inr loses) = loses

-- a history that an image of the journal's disk opens to
record Current (s : State) (x : List ℕ) : Type 0 where
  history : History
  generation : history.header.generation ≡ s.now.header.generation
  opens : OpensAs history x

module _ {D : Type 0} (model : DiskModel D) (read : (d : D) (l : List ℕ) → model.content d ≡ Some l → model.images d l)
  where
    -- an image of the journal's disk, and one of the other
    abbrev SomeNow : Bool → D → D → History → Type 0
    SomeNow second current other h = (l k : List ℕ) → model.content current ≡ Some l → model.content other ≡ Some k
        → (x y : List ℕ) × model.images current x × model.images other y × Shows second h x y

    some_now : (second : Bool) (current other : D) (h : History) → SomeNow second current other h
        → IfTold (model.content (first_of second current other))
        (λ _. IfTold (model.content (first_of second other current)) (λ _. (x y : List ℕ)
        × model.images (first_of second current other) x × model.images (first_of second other current) y
        × PairOpens h x y))
    some_now false current other h some l told k it =
        let s = some l k told it in (s.0, s.1, s.2, s.3, s.4)
    some_now true current other h some l told k it =
        let s = some k l it told in (s.1, s.0, s.3, s.2, s.4)

    pub commit_shown : (pair : Paired D) (s : State) (p : List ℕ) → StandsFor model pair s → s.commit ≡ Some p
        → s.finish ≡ None → OfSomePair model pair (PairOpens (with_commit s.now p))
    commit_shown pair s p st commit finish =
        some_now pair.second pair.journal.disk (disk_of pair.other) (with_commit s.now p) (λ l k told it.
        let g = s.now.header.generation in
        let has = subst (Has model pair.journal st.front s.now.commits) commit st.journal in
        let some = (has.1 l told).some in
        let image = read (disk_of pair.other) k it in
        let beside = subst (λ (f : Option History). Beside model pair.second g f s.copy pair.other) finish st.other in
        let loses = no_copy pair.second g k
        (other_shows model pair.second g None s.copy pair.other beside k it k image) in
        let opens = opens_as (with_commit s.now p) st.front st.is_front some.0 some.2 in
        (some.0, k, some.1, image, reads_current pair.second (with_commit s.now p) some.0 k opens loses))

    current : (pair : Paired D) (s : State) → StandsFor model pair s → (l : List ℕ)
        → model.content pair.journal.disk ≡ Some l → Current s l
    current pair s st l told = go (has_shows model pair.journal st.front s.now.commits s.commit st.journal l told l
        (read pair.journal.disk l told))
      where
        go : ShowsDoubt st.front s.now.commits s.commit l → Current s l
        go (inl now) = record { history = s.now; generation = refl; opens = opens_as s.now st.front st.is_front l now }
        go (inr doubt) = record {
          history = with_commit s.now doubt.0;
          generation = refl;
          opens = opens_as (with_commit s.now doubt.0) st.front st.is_front l doubt.2;
        }

    finished : (second : Bool) (g : ℕ) (h : History) (copy : Option History) (other : Other D)
        → Beside model second g (Some h) copy other → (k : List ℕ) → model.content (disk_of other) ≡ Some k
        → OtherHas second g (Some h) (model.images (disk_of other))
    finished second g h copy (Idle disk doubtful) beside k told = beside.2 k told
    finished second g h copy (Copy carry) beside k told = absurd (cc beside.0)

    pub finish_shown : (pair : Paired D) (s : State) (h : History) → StandsFor model pair s → s.finish ≡ Some h
        → OfSomePair model pair (PairOpens h)
    finish_shown pair s h st finish = some_now pair.second pair.journal.disk (disk_of pair.other) h (λ l k told it.
        let g = s.now.header.generation in
        let x = current pair s st l told in
        let beside = subst (λ (f : Option History). Beside model pair.second g f s.copy pair.other) finish st.other in
        let has = finished pair.second g h s.copy pair.other beside k it in
        let less = subst (λ n. n < h.header.generation) (sym x.generation) has.0 in (
          l,
          has.2.0,
          read pair.journal.disk l told,
          has.2.1,
          reads_copy pair.second x.history h l has.2.0 x.opens has.2.2
              less,
        ))
