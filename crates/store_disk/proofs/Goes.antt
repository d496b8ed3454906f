-- What calls one after the other keep of two disks, and what is shown meanwhile.
use Rattle.std.proofs.Common.{◌≡◌, ◌⊎◌, ◌≤◌, ◌∙◌, arith, Bool, false, List, subst, sym, true, ℕ}
use Rattle.std.proofs.lemmas.Bool.{true≢false}
use Rattle.disk_edge.specs.Disk.{DiskModel}
use Rattle.disk_edge.specs.Moments.{two_calls}
use Rattle.disk_pair.specs.Term.{AtEachPair, Goes, Paired, disk_a, disk_b, disk_of, first_of}
use Rattle.disk_pair.specs.declared.other.Other.{Other}
use Rattle.journal_core.specs.Standing.{Standing}
use Rattle.store_disk.specs.Stored.{keeps-itself, keeps-twice, told-before}

pub goes-itself : {D : Type 0} (model : DiskModel D) (d : D) → Goes model d d
goes-itself model d = record {
  past = keeps-itself model d;
  count = record { count = omega arith; bound = λ b is. (b, is, omega arith) };
  untold = λ e. e;
}

pub goes-twice : {D : Type 0} (model : DiskModel D) (a b c : D) → Goes model a b → Goes model b c → Goes model a c
goes-twice model a b c p q = record {
  past = keeps-twice model a b c p.past q.past;
  count = record {
    count = omega (arith, p.count.count, q.count.count);
    bound = λ n is. let x = p.count.bound n is in let y = q.count.bound x.0 x.1 in (y.0, y.1, omega (arith, x.2, y.2));
  };
  untold = λ e. q.untold (p.untold e);
}

-- a call that touches the other disk alone
goes-other : {D : Type 0} (model : DiskModel D) (old new : Paired D) → new.second ≡ old.second
    → Goes model (disk_a old) (disk_a new) → Goes model (disk_b old) (disk_b new)
    → Goes model (disk_of old.other) (disk_of new.other)
goes-other model old new same a b = go old.second new.second same a b
  where
    go : (s r : Bool) → r ≡ s
        → Goes model (first_of s old.journal.disk (disk_of old.other)) (first_of r new.journal.disk (disk_of new.other))
        → Goes model (first_of s (disk_of old.other) old.journal.disk) (first_of r (disk_of new.other) new.journal.disk)
        → Goes model (disk_of old.other) (disk_of new.other)
    go false false e a b = b
    go true true e a b = a
    go false true e a b = absurd (true≢false e)
    go true false e a b = absurd (true≢false (sym e))

-- Two calls one after the other, of which each touches the other disk alone: what is shown at each moment of the one
-- and of the other is shown at each moment of both.
two-steps : {D : Type 0} (model : DiskModel D)
    → ((d : D) (t v u : ℕ) (c : List ℕ) → t ≤ v → v ≤ u → model.images_between d t u c
    → model.images_between d t v c ⊎ model.images_between d v u c)
    → (P : List ℕ → List ℕ → Type 0) (journal : Standing D) (old mid new : Other D) (second : Bool)
    → Goes model (disk_of old) (disk_of mid) → Goes model (disk_of mid) (disk_of new)
    → AtEachPair model (record { journal = journal; other = old; second = second })
    (record { journal = journal; other = mid; second = second }) P
    → AtEachPair model (record { journal = journal; other = mid; second = second })
    (record { journal = journal; other = new; second = second }) P
    → AtEachPair model (record { journal = journal; other = old; second = second })
    (record { journal = journal; other = new; second = second }) P
two-steps model parts P journal old mid new false goes went first later l is k it x i y j =
    let was = told-before (model.content (disk_of mid)) (model.content (disk_of new)) went.untold k it in
    two_calls model (disk_of old) (disk_of mid) (disk_of new) (P x) (parts (disk_of new)) goes.past.later went.past
    (first l is was.0 was.1 x i) (later l is k it x i) y j
two-steps model parts P journal old mid new true goes went first later l is k it x i y j =
    let was = told-before (model.content (disk_of mid)) (model.content (disk_of new)) went.untold l is in
    two_calls model (disk_of old) (disk_of mid) (disk_of new) (λ x. P x y) (parts (disk_of new)) goes.past.later
    went.past (λ x i. first was.0 was.1 k it x i y j) (λ x i. later l is k it x i y j) x i

pub two-moments : {D : Type 0} (model : DiskModel D)
    → ((d : D) (t v u : ℕ) (c : List ℕ) → t ≤ v → v ≤ u → model.images_between d t u c
    → model.images_between d t v c ⊎ model.images_between d v u c)
    → (P : List ℕ → List ℕ → Type 0) (old mid new : Paired D)
    → mid.journal ≡ old.journal → mid.second ≡ old.second → new.journal ≡ mid.journal → new.second ≡ mid.second
    → Goes model (disk_a old) (disk_a mid) → Goes model (disk_b old) (disk_b mid)
    → Goes model (disk_a mid) (disk_a new) → Goes model (disk_b mid) (disk_b new)
    → AtEachPair model old mid P → AtEachPair model mid new P → AtEachPair model old new P
two-moments {D} model parts P old mid new j f k g a b c d first later =
    let is-mid : mid ≡ record { journal = old.journal; other = mid.other; second = old.second } =
    λ i. record { journal = j i; other = mid.other; second = f i } in
    let l = k ∙ j in
    let m = g ∙ f in
    let is-new : new ≡ record { journal = old.journal; other = new.other; second = old.second } =
    λ i. record { journal = l i; other = new.other; second = m i } in
    subst (λ (q : Paired D). AtEachPair model old q P) (sym is-new)
    (two-steps model parts P old.journal old.other mid.other new.other old.second
    (goes-other model old mid f a b) (goes-other model mid new g c d)
    (subst (λ (q : Paired D). AtEachPair model old q P) is-mid first)
    (subst (λ (q : Paired D).
    AtEachPair model q (record { journal = old.journal; other = new.other; second = old.second }) P) is-mid
    (subst (λ (q : Paired D). AtEachPair model mid q P) is-new later)))
