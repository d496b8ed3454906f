-- What the pages of a pin are together, whatever follows.
use Rattle.std.proofs.Common.{◌≡◌, ◌≢◌, ◌++◌, ◌+◌, ◌*◌, ◌∙◌, ap, arith, Bool, drop, drop-drop, length, nat_le, take, List, [], ◌∷◌, subst, suc, sym, ℕ}
use Rattle.std.specs.FinMap.{get}
use Rattle.std.specs.List.{AllByRecursion}
use Rattle.std.proofs.Math.Nat.{suc-mul}
use Rattle.std.proofs.lemmas.List.{length-map}
use Rattle.mol_finish.specs.declared.fault.Format.{Format}
use Rattle.smarts_parse.specs.Pattern.{PatternTerm}
use Rattle.store_machine.specs.Answers.{AreAnswers, AreFound, AreMatched, IsAnswer, ids}
use Rattle.store_machine.specs.ByCalls.{CallsGivePages, Pages}
use Rattle.store_machine.specs.History.{Snapshot, snapshot}
use Rattle.store_machine.specs.Laws.{CommitsChange, IsSound, NeedsScreen, RunsGrow, SnapshotsStay}
use Rattle.store_machine.specs.Runs.{IsCalm, IsRun, calls_of}
use Rattle.store_machine.specs.Searches.{ArePieces, At, End, Fetched, IsSearch, KeepsPin, Place, fetched, records_of}
use Rattle.store_machine.specs.Structures.{IsMatched, IsNeedOf, IsScreened}
use Rattle.store_machine.specs.Told.{CommitsStand, PinsAreNew, RunsAdd, SlotsWereFree}
use Rattle.store_machine.specs.declared.machine.Event.TheVariants.{Pin}
use Rattle.store_machine.specs.declared.machine.Found.{Found}
use Rattle.store_machine.specs.declared.machine.History.{History}
use Rattle.store_machine.specs.declared.machine.Reply.TheVariants.{Pinned}
use Rattle.store_machine.specs.declared.machine.State.{State}
use Rattle.store_machine.specs.declared.machine.Step.{Step}
pub use Rattle.store_machine.proofs.Cuts.{one_call}
use Rattle.lookup.proofs.Parting.{so_far}
use Rattle.session_acts.specs.Cursors.{Calls}
use Rattle.session_acts.specs.Truths.{AreAllHits}

-- the machine's laws
pub record Laws : Type 0 where
  pub snapshots : SnapshotsStay
  pub commits : CommitsChange
  pub add : RunsAdd
  pub stand : CommitsStand
  pub grow : RunsGrow
  pub slots : SlotsWereFree
  pub pins : PinsAreNew
  pub pages : CallsGivePages
  pub needs : NeedsScreen

-- answers at a version that two histories have
then_answers : (Asked : Format → List ℕ → Type 0) (h h' : History) (v : ℕ) (found : List ℕ)
    → snapshot h v ≡ snapshot h' v → AreAnswers Asked h v found → AreAnswers Asked h' v found
then_answers Asked h h' v found e a = record {
  ascending = a.ascending;
  only = λ id is. moved h h' e id (a.only id is);
  all = λ id is. a.all id (moved h' h (sym e) id is);
} where
  moved : (g g' : History) → snapshot g v ≡ snapshot g' v → (id : ℕ) → IsAnswer Asked g v id
      → IsAnswer Asked g' v id
  moved g g' same id k = record {
    version = k.version;
    format = k.format;
    text = k.text;
    state = ap (λ (m : Snapshot). get m id) (sym same) ∙ k.state;
    asked = k.asked;
  }

-- the pages of a pin so far, whatever follows
module _ (laws : Laws) (own : ℕ → Bool) (s t : State) (steps : List Step) (before pages later : Calls)
    (slot version : ℕ) (want : List Bool) (place : Place) (sound : IsSound s) (run : IsRun s steps t)
    (calm : IsCalm steps) (made : calls_of own steps ≡ (before ++ (Pin, Pinned slot version) ∷ pages) ++ later)
    (keeps : KeepsPin slot pages) (search : IsSearch want (At 0) (fetched slot pages) place) where
  so_here : (m : State) × Pages s m slot version want place pages
      × (snapshot m.history version ≡ snapshot t.history version)
  so_here =
      so_far (record { snapshots = laws.snapshots; grow = laws.grow; pages = laws.pages }) own s t steps before pages
      later slot version want place sound run calm made keeps search

  -- up to the end of its search
  pub whole_pages : place ≡ End → (tried : ℕ) (pattern : PatternTerm) (hits : List ℕ) → IsNeedOf pattern want
      → AreMatched pattern (records_of (fetched slot pages)) hits
      → tried ≡ length (records_of (fetched slot pages)) → AreAllHits t.history version pattern tried hits
  whole_pages ended tried pattern hits need matched count =
      let p = so_here in
      record {
        are = then_answers (IsMatched pattern) p.0.history t.history version hits p.2
            (p.1.hits ended pattern hits (laws.needs pattern want need) matched);
        want = want;
        need = need;
        screened = ids (records_of (fetched slot pages));
        all = then_answers (IsScreened want) p.0.history t.history version (ids (records_of (fetched slot pages))) p.2
            (p.1.tried ended);
        count = count ∙ sym (length-map (records_of (fetched slot pages)) (λ (r : Found). r.id));
      }

  -- pieces of what is wanted at its version
  pub pieces_so_far : (size : ℕ) (all : List Found) → AllByRecursion (λ (f : Fetched). f.limit ≡ size) (fetched slot pages)
      → AreFound (IsScreened want) (snapshot t.history version) all → ArePieces size all (fetched slot pages)
  pieces_so_far size all sized found =
      let p = so_here in
      p.1.pieces all size (subst (λ (m : Snapshot). AreFound (IsScreened want) m all) (sym p.2) found) sized

  -- what is wanted at its version, once there is a page
  pub tried_so_far : fetched slot pages ≢ []
      → (all : List Found) × AreFound (IsScreened want) (snapshot t.history version) all
  tried_so_far more =
      let p = so_here in
      let all = p.1.there more in
      (all.0, subst (λ (m : Snapshot). AreFound (IsScreened want) m all.0) p.2 all.1)

-- pages with one more at their end are some
pub some_pages : (fs gs : List Fetched) (f : Fetched) → gs ≡ fs ++ f ∷ [] → gs ≢ []
some_pages [] gs f is = λ e. cc
some_pages (g ∷ fs) gs f is = λ e. cc

-- the last of some pieces
pub last_piece : (size : ℕ) (all : List Found) (fs : List Fetched) (f : Fetched) → ArePieces size all (fs ++ f ∷ [])
    → (f.records ≡ take size (drop (length fs * size) all))
    × (f.last ≡ nat_le (length (drop (length fs * size) all)) size)
last_piece size all [] f p =
    let none : 0 * size ≡ 0 = omega arith in
    subst (λ (n : ℕ). (f.records ≡ take size (drop n all)) × (f.last ≡ nat_le (length (drop n all)) size)) (sym none)
    (p.0, p.1)
last_piece size all (g ∷ fs) f p =
    let one : size + length fs * size ≡ suc (length fs) * size = omega (arith, suc-mul (length fs) size) in
    let same : drop (length fs * size) (drop size all) ≡ drop (suc (length fs) * size) all =
    drop-drop (length fs * size) size all ∙ ap (λ (n : ℕ). drop n all) one in
    subst (λ (l : List Found). (f.records ≡ take size l) × (f.last ≡ nat_le (length l) size)) same
    (last_piece size (drop size all) fs f p.2)
