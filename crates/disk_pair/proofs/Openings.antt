-- Two disks are opened.
use Rattle.std.proofs.Common.{◌≡◌, inl, inr, ◌<◌, ◌≤◌, [], Bool, false, true, ℕ, List, Option, Some, None, sym, ◌∙◌, ap, subst, arith}
use Rattle.disk_edge.specs.Disk.{DiskModel, Exactly, IfTold}
use Rattle.journal_core.proofs.FrontLaws.{at_front, one_generation, part_peeked}
use Rattle.journal_core.specs.Fronts.{IsHeader, IsOpen, IsOpenAt, IsPart, IsPeeked}
use Rattle.journal_core.specs.Journal.{Reads}
use Rattle.journal_core.specs.Looks.{Narrows}
use Rattle.journal_core.specs.Standing.{Standing}
use Rattle.journal_core.specs.declared.header.Header.{Header}
use Rattle.disk_pair.specs.Choices.{Chosen, IsRead}
use Rattle.disk_pair.specs.Pairs.{Loses}
use Rattle.disk_pair.specs.Stands.{OtherHas}
use Rattle.disk_pair.specs.Term.{first_of}
use Rattle.disk_pair.specs.declared.choice.Which.{Which}

-- a header that was read is of a disk that is open with its generation
pub peeked_open : (h : Header) (l : List ℕ) → IsPeeked (Some h) l → IsOpenAt h.generation l
peeked_open h l (inl one) = inl (one.0, ap (λ (k : Header). k.generation) one.1)
peeked_open h l (inr two) = inr (two.0, two.1, ap (λ (k : Header). k.generation) two.2)

some_is : (l k : List ℕ) → Some l ≡ Some k → l ≡ k
some_is l k e = cc e

loses_by : (second : Bool) (g : ℕ) (x y : List ℕ) → IsRead second (first_of second x y) (first_of second y x)
    → IsOpenAt g x → Loses second g y
loses_by false g x y read at = λ k is.
    let same = one_generation read.0 g x read.1 at in let le : k ≤ read.0 = read.2 k is in omega (arith, same, le)
loses_by true g x y read at = λ k is.
    let same = one_generation read.0 g x read.1 at in let less : k < read.0 = read.2 k is in omega (arith, same, less)

-- what is read is open
pub read_open : (second : Bool) (x y : List ℕ) → IsRead second (first_of second x y) (first_of second y x) → IsOpen x
read_open false x y read = (read.0, read.1)
read_open true x y read = (read.0, read.1)

module _ {D : Type 0} (model : DiskModel D) where
  -- the disk that was chosen is read
  pub chosen_read : (a b : D) (which : Option Which) (w : Which) → which ≡ Some w
      → IfTold (model.content a) (λ x. IfTold (model.content b) (λ y. Chosen which x y))
      → IfTold (model.content a) (λ x. IfTold (model.content b) (λ y. Chosen (Some w) x y))
  chosen_read a b which w is chosen x told y told_b =
      subst (λ (o : Option Which). Chosen o x y) is (chosen x told y told_b)

  -- the header of a journal that is opened
  pub header_read : (journal : Standing D) (front : List ℕ) → IsPart journal.header [] front → IsHeader journal.header
      → Reads model journal front [] → (l : List ℕ) → model.content journal.disk ≡ Some l
      → IsPeeked (Some journal.header) l
  header_read journal front part range r l told =
      part_peeked journal.header front r.tail l part range
      (some_is l r.told (sym told ∙ r.is_told) ∙ (at_front front r.told r.tail journal.place r.is r.place).0)

  module _ (second : Bool) (current other mid rest : D) (narrows : Narrows model current mid)
      (narrows_rest : Narrows model other rest)
      (read : IfTold (model.content current) (λ x. IfTold (model.content other)
      (λ y. IsRead second (first_of second x y) (first_of second y x)))) where
    -- no image of the other disk is read beside the one that is
    pub other_loses : (journal : Standing D) → Narrows model mid journal.disk
        → ((l : List ℕ) → model.content journal.disk ≡ Some l → IsPeeked (Some journal.header) l)
        → IfTold (model.content rest) (λ y. Exactly y (model.images rest))
        → IfTold (model.content journal.disk) (λ _. IfTold (model.content rest)
        (λ _. OtherHas second journal.header.generation None (model.images rest)))
    other_loses journal loaded peeked exactly l told k told_rest y i =
        let x_told = sym narrows.same ∙ (sym loaded.same ∙ told) in
        let y_told = sym narrows_rest.same ∙ told_rest in
        subst (Loses second journal.header.generation) (sym ((exactly k told_rest).only y i))
        (loses_by second journal.header.generation l k (read l x_told k y_told)
        (peeked_open journal.header l (peeked l told)))

    -- it is open
    pub never_closed : IfTold (model.content mid) (λ l. IsOpen l → ⊥)
        → (x : List ℕ) → model.content current ≡ Some x → (y : List ℕ) → model.content other ≡ Some y → ⊥
    never_closed closed x told y told_other =
        closed x (narrows.same ∙ told) (read_open second x y (read x told y told_other))
