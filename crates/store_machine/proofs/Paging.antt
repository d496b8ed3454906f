-- The pages of one pin, one after the other.
use Rattle.std.proofs.Common.{ap₂, drop_of_length-le, ◌≡◌, ◌≢◌, ◌++◌, ◌==◌, ◌≤◌, ◌∙◌, ap, append-nil, append_assoc, Bool, cond, eq-eqb, false, leb-true, length, List, [], ◌∷◌, nat_le, None, refl, Some, subst, sym, take, take-append-drop, drop, true, ℕ, le_of_eq}
use Rattle.std.proofs.lemmas.Bool.{cond-true}
use Rattle.std.specs.List.{AllByRecursion}
use Rattle.store_machine.specs.Answers.{AreFound, from_on}
use Rattle.store_machine.specs.History.{IsHistory, Snapshot, head, snapshot}
use Rattle.store_machine.specs.Laws.{PagesAreAPrefix, PagesArePieces, PagesAreTheAnswer, Searching}
use Rattle.store_machine.specs.Machine.{Gives, Holds, IsPage, pin_in}
use Rattle.store_machine.specs.Runs.{calls_of}
use Rattle.store_machine.specs.Searches.{ArePieces, At, End, Fetched, IsSearch, Place, ahead, fetched, past, place_after, records_of}
use Rattle.store_machine.specs.Structures.{IsScreened}
use Rattle.store_machine.specs.declared.machine.Event.{Event}
use Rattle.store_machine.specs.declared.machine.Event.TheVariants.{Pin}
use Rattle.store_machine.specs.declared.machine.Found.{Found}
use Rattle.store_machine.specs.declared.machine.History.{History}
use Rattle.store_machine.specs.declared.machine.Held.{Held}
use Rattle.store_machine.specs.declared.machine.Reply.{Reply}
use Rattle.store_machine.specs.declared.machine.Reply.TheVariants.{Pinned}
use Rattle.store_machine.specs.declared.machine.State.{State}
use Rattle.store_machine.specs.declared.machine.Step.{Step}
use Rattle.store_machine.proofs.Ascending.{Ascends, Ascends-from_on, Ascends-weaker, from_on-all, from_on-past, from_on-twice, past-le}
use Rattle.store_machine.proofs.Finds.{AreMolecules, answers-are-one, found-ascends, found-from-one, found-hits}
use Rattle.store_machine.proofs.PagesRead.{AreRead, IsRead, pages-read}
use Rattle.store_machine.proofs.Picks.{found-tried}

-- what is ahead after a page
ahead-after : (last : Bool) (from limit : ℕ) (records all : List Found) → Ascends 0 all
    → records ≡ take limit (from_on from all) → last ≡ nat_le (length (from_on from all)) limit
    → ahead (cond last End (At (past from records))) all ≡ drop limit (from_on from all)
ahead-after true from limit records all h e l = sym
    (drop_of_length-le (from_on from all) (leb-true (length (from_on from all)) limit (sym l)))
ahead-after false from limit records all h e l =
    let here = from_on from all in
    let up : Ascends from here = Ascends-from_on from 0 all h in
    let k = past from (take limit here) in
    ap (λ rs. from_on (past from rs) all) e ∙ (sym (from_on-twice from k all (past-le from limit here up))
    ∙ from_on-past from limit here up)

-- the records and the end of a page, in one list of what is found
record Of (all : List Found) (f : Fetched) : Type 0 where
  first : f.records ≡ take f.limit (from_on f.from all)
  end : f.last ≡ nat_le (length (from_on f.from all)) f.limit

page-of : (states : Snapshot) (want : List Bool) (all : List Found) (f : Fetched) → f.want ≡ want
    → AreFound (IsScreened want) states all → IsRead states f → Of all f
page-of states want all f e found read =
    let page : IsPage states want f.from f.limit f.records f.last = subst
    (λ w. IsPage states w f.from f.limit f.records f.last) e read in
    let one : page.all ≡ all = answers-are-one want states page.all all page.found found in
    record {
      first = page.first ∙ ap (λ l. take f.limit (from_on f.from l)) one;
      end = page.end
          ∙ ap (λ l. nat_le (length (from_on f.from l)) f.limit) one;
    }

paged : (states : Snapshot) (want : List Bool) (all : List Found) (place : Place) (fs : List Fetched) (place' : Place)
    → AreFound (IsScreened want) states all → AreRead states fs → IsSearch want place fs place'
    → records_of fs ++ ahead place' all ≡ ahead place all
paged states want all place [] place' found read search = ap (λ p. ahead p all) search
paged states want all place (f ∷ fs) place' found read search =
    let rest : records_of fs ++ ahead place' all ≡ ahead (place_after f) all = paged states want all
    (place_after f) fs place' found read.1 search.2 in
    let page = page-of states want all f search.1 found read.0 in
    let after : ahead (place_after f) all ≡ drop f.limit (from_on f.from all) = ahead-after f.last f.from f.limit
    f.records all (found-ascends want states all found) page.first page.end in
    append_assoc f.records (records_of fs) (ahead place' all) ∙ (ap (λ rs. f.records ++ rs) (rest ∙ after)
    ∙ (ap (λ rs. rs ++ drop f.limit (from_on f.from all)) page.first
    ∙ (take-append-drop f.limit (from_on f.from all) ∙ sym (ap (λ p. ahead p all) search.0))))

pieces : (states : Snapshot) (want : List Bool) (all : List Found) (size : ℕ) (place : Place) (fs : List Fetched)
    (place' : Place) (left : List Found)
    → AreFound (IsScreened want) states all → AreRead states fs → IsSearch want place fs place'
    → AllByRecursion (λ f. f.limit ≡ size) fs → ahead place all ≡ left
    → ArePieces size left fs
pieces states want all size place [] place' left found read search sized is = tt
pieces states want all size place (f ∷ fs) place' left found read search sized is =
    let page = page-of states want all f search.1 found read.0 in
    let here : from_on f.from all ≡ left = ap (λ p. ahead p all) (sym search.0) ∙ is in
    let after : ahead (place_after f) all ≡ drop size left =
    ahead-after f.last f.from f.limit f.records all (found-ascends want states all found) page.first page.end
    ∙ ap₂ (λ n rs. drop n rs) sized.0 here in (
      page.first ∙ ap₂ (λ n rs. take n rs) sized.0 here,
      page.end ∙ ap₂ (λ n rs. nat_le (length rs) n) sized.0 here,
      pieces states want all size (place_after f) fs place' (drop size left) found read.1 search.2 sized.1 after,
    )

pin_in-new : (slot : ℕ) (p : Held) (ps : List Held) → p.slot ≡ slot → pin_in slot ps ≡ None
    → pin_in slot (ps ++ p ∷ []) ≡ Some p
pin_in-new slot p [] e h = cond-true (p.slot == slot) (Some p) None (eq-eqb p.slot slot e)
pin_in-new slot p (x ∷ xs) e h =
    elim (x.slot == slot) as (λ b. cond b (Some x) (pin_in slot xs) ≡ None
    → cond b (Some x) (pin_in slot (xs ++ p ∷ [])) ≡ Some p) [
      | true ↦ λ n. cc
      | false ↦ λ n. pin_in-new slot p xs e n
    ] h

-- what a Pin found and leaves
pub record Taken (s s' : State) (slot owner version : ℕ) : Type 0 where
  pub free : pin_in slot s.pins ≡ None
  pub at : version ≡ head s.history
  pub same : s'.history ≡ s.history
  pub held : Holds s' slot owner version

taken-row : (s s' : State) (slot owner version : ℕ) → Gives s owner Pin (Pinned slot version) s'
    → Taken s s' slot owner version
taken-row s s' slot owner version g = record {
  free = g.1.2;
  at = g.1.3;
  same = ap (λ x. x.history) g.1.4;
  held =
      ap (λ x. pin_in slot x.pins) g.1.4
      ∙ (pin_in-new slot (record { slot = slot; owner = owner; version = head s.history }) s.pins refl g.1.2
      ∙ ap (λ v. Some (record { slot = slot; owner = owner; version = v })) (sym g.1.3));
}

pub taken : (s s' : State) (by : ℕ) (e : Event) (r : Reply) (slot version : ℕ)
    → e ≡ Pin → r ≡ Pinned slot version → Gives s by e r s' → Taken s s' slot by version
taken s s' by e r slot version p q g =
    taken-row s s' slot by version (subst (λ x. Gives s by x (Pinned slot version) s') p
    (subst (λ x. Gives s by e x s') q g))

-- along a search the pages are read from the snapshot at its Pin
record Along (own : ℕ → Bool) (pin : Step) (steps : List Step) (slot version : ℕ) : Type 0 where
  at : version ≡ head pin.before.history
  read : AreRead (snapshot pin.before.history version) (fetched slot (calls_of own steps))

along : (own : ℕ → Bool) (pin : Step) (steps : List Step) (slot version : ℕ) (want : List Bool) (place place' : Place)
    → Searching own pin steps slot version want place place' → Along own pin steps slot version
along own pin steps slot version want place place' c =
    let t : Taken pin.before pin.after slot pin.owner version = taken pin.before pin.after pin.owner pin.event pin.reply
    slot version c.takes.event c.takes.reply c.run.1 in
    let le : version ≤ head pin.after.history = le_of_eq (t.at ∙ ap (λ h. head h) (sym t.same)) in
    record {
      at = t.at;
      read = pages-read (snapshot pin.before.history version) pin.after c.after steps own slot pin.owner version c.run.2
          c.calm c.takes.by t.held le (ap (λ h. snapshot h version) t.same) c.keeps;
    }

pub pages-are-a-prefix : PagesAreAPrefix
pages-are-a-prefix own pin steps slot version want place place' c =
    let t = along own pin steps slot version want place place' c in (
      t.at,
      λ all found. paged (snapshot pin.before.history version) want all place
          (fetched slot (calls_of own steps)) place' found t.read c.search,
    )

-- from identifier 0 or 1 on stands everything
pub from-start : (h : History) (version from : ℕ) (want : List Bool) (all : List Found) → IsHistory h → from ≤ 1
    → AreFound (IsScreened want) (snapshot h version) all
    → from_on from all ≡ all
from-start h version from want all good le found = from_on-all from all
    (Ascends-weaker from 1 all le (found-from-one want h version all good found))

has-ended : Place → Bool
has-ended (At n) = false
has-ended End = true

not-ended : (from : ℕ) → End ≡ At from → ⊥
unfolding has-ended
not-ended from e = let b : true ≡ false = ap has-ended e in cc

-- a search that ended has a page
has-page : (want : List Bool) (from : ℕ) (fs : List Fetched) → IsSearch want (At from) fs End → fs ≢ []
has-page want from [] search = absurd (not-ended from search)
has-page want from (f ∷ fs) search = λ e. cc

-- a search that has a page has a list of what is found
some-found : (states : Snapshot) (want : List Bool) (place : Place) (fs : List Fetched) (place' : Place)
    → AreRead states fs → IsSearch want place fs place' → fs ≢ []
    → (all : List Found) × AreFound (IsScreened want) states all
some-found states want place [] place' read search more = absurd (more refl)
some-found states want place (f ∷ fs) place' read search more =
    let page : IsPage states want f.from f.limit f.records f.last = subst
    (λ w. IsPage states w f.from f.limit f.records f.last) search.1 read.0 in
    (page.all, page.found)

-- the same at its Pin
pub some-page : (own : ℕ → Bool) (pin : Step) (steps : List Step) (slot version : ℕ) (want : List Bool)
    (place place' : Place) → Searching own pin steps slot version want place place'
    → fetched slot (calls_of own steps) ≢ []
    → (all : List Found) × AreFound (IsScreened want) (snapshot pin.before.history version) all
some-page own pin steps slot version want place place' c more =
    some-found (snapshot pin.before.history version) want place (fetched slot (calls_of own steps)) place'
    (along own pin steps slot version want place place' c).read c.search more

-- the records of a search that ended are all that is found
pub all-found : (own : ℕ → Bool) (pin : Step) (steps : List Step) (slot version from : ℕ) (want : List Bool)
    → IsHistory pin.before.history → from ≤ 1 → Searching own pin steps slot version want (At from) End
    → AreFound (IsScreened want) (snapshot pin.before.history version) (records_of (fetched slot (calls_of own steps)))
all-found own pin steps slot version from want good le c =
    let t = along own pin steps slot version want (At from) End c in
    let states = snapshot pin.before.history version in
    let records = records_of (fetched slot (calls_of own steps)) in
    let some = some-found states want (At from) (fetched slot (calls_of own steps)) End t.read c.search
    (has-page want from (fetched slot (calls_of own steps)) c.search) in
    let whole : records ≡ some.0 =
    sym (append-nil records) ∙ (paged states want some.0 (At from)
    (fetched slot (calls_of own steps)) End some.1 t.read c.search
    ∙ from-start pin.before.history version from want some.0 good le some.1) in
    subst (λ rs. AreFound (IsScreened want) states rs) (sym whole) some.1

pub pages-are-the-answer : AreMolecules → PagesAreTheAnswer
pages-are-the-answer are own pin steps slot version from want good le c =
    let found = all-found own pin steps slot version from want good le c in
    let records = records_of (fetched slot (calls_of own steps)) in (
      (along own pin steps slot version want (At from) End c).at,
      found-tried want pin.before.history version records found,
      λ pattern hits screens matched.
          found-hits are pattern want pin.before.history version records hits screens found matched,
    )

pub pages-are-pieces : PagesArePieces
pages-are-pieces own pin steps slot version from size want place' good le c sized all found =
    let t = along own pin steps slot version want (At from) place' c in
    pieces (snapshot pin.before.history version) want all size (At from)
    (fetched slot (calls_of own steps)) place' all found t.read c.search sized
    (from-start pin.before.history version from want all good le found)
