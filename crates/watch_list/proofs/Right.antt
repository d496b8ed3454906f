-- The hits of a version, brought over its commit, are the hits of the next one.
use Rattle.std.proofs.Common.{◌≡◌, ◌≢◌, ◌↔◌, ◌+◌, ◌∙◌, ap, append_assoc, arith, cond, Contains, false, inl, inr, length-append, List, [], ◌∷◌, nat_cmp, None, Option, Some, subst, sym, true, ℕ}
use Rattle.std.proofs.lemmas.Bool.{cases_eq}
use Rattle.std.specs.Arc.{arc_value}
use Rattle.std.specs.Cmp.{nat_cmp_total}
use Rattle.std.specs.FinMap.{get, get-insert, insert}
use Rattle.std.specs.List.Sorted.{IsStrictlyIncreasing}
use Rattle.std.specs.Ordering.{eq_by_cmp}
use Rattle.chem_core.specs.Molecule.{Molecule}
use Rattle.mol_finish.specs.Structure.{HasMolecule}
use Rattle.mol_finish.specs.declared.fault.Format.{Format}
use Rattle.smarts_parse.specs.Embedding.{Matches}
use Rattle.smarts_parse.specs.Pattern.{PatternTerm, pattern_of}
use Rattle.store_core.specs.Records.{IsRecord, RecordTerm}
use Rattle.store_core.specs.Replies.{IsSoundChange, change_of}
use Rattle.store_core.specs.declared.words.Change.{Change as Asked}
use Rattle.store_core.specs.declared.words.Change.TheVariants as asked
use Rattle.store_machine.specs.Answers.{AreHits, IsAnswer}
use Rattle.store_machine.specs.History.{Snapshot, after_change, grown, head, id_of, snapshot}
use Rattle.store_machine.specs.Laws.{CommitsChange, SnapshotsStay}
use Rattle.store_machine.specs.Structures.{IsMatched}
use Rattle.store_machine.specs.declared.machine.Change.{Change}
use Rattle.store_machine.specs.declared.machine.Change.TheVariants.{Register, Revise, Withdraw}
use Rattle.store_machine.specs.declared.machine.History.{History}
use Rattle.store_machine.specs.declared.machine.Status.{Status}
use Rattle.store_machine.specs.declared.machine.Status.TheVariants.{Live, Withdrawn}
use Rattle.watch_list.specs.Notes.{IsCommit, IsListAfter, LeavesMatch, StaysRight}
use Rattle.watch_list.specs.Watches.{Watch}

-- a text has one structure
abbrev pub OneStructure : Type 0
OneStructure = (format : Format) (text : List ℕ) (m n : Molecule) → HasMolecule format text m
    → HasMolecule format text n → m ≡ n

-- a commit makes its own change of the version before
pub committed : SnapshotsStay → CommitsChange → (h : History) (version v : ℕ) (c : Change) → IsCommit h version c
    → v + 1 ≡ version → snapshot h version ≡ after_change version c (snapshot h v)
committed stay make h version v c is next =
    let before : History = record h { commits = is.before } in
    let n = head before in
    let was : n ≡ v = omega (arith, is.version_is) in
    let now : n + 1 ≡ version = omega (arith, is.version_is) in
    let whole : grown (grown before (c ∷ [])) is.after ≡ h =
    ap (λ (cs : List Change). record h { commits = cs }) (append_assoc is.before (c ∷ []) is.after ∙ sym is.commits) in
    let rest : grown before (c ∷ is.after) ≡ h =
    ap (λ (cs : List Change). record h { commits = cs }) (sym is.commits) in
    let new : snapshot h (n + 1) ≡ snapshot (grown before (c ∷ [])) (n + 1) =
    ap (λ (k : History). snapshot k (n + 1)) (sym whole)
    ∙ stay (grown before (c ∷ [])) is.after (n + 1) (omega (arith, length-append is.before (c ∷ []))) in
    let old : snapshot h n ≡ snapshot before n =
    ap (λ (k : History). snapshot k n) (sym rest) ∙ stay before (c ∷ is.after) n (omega arith) in
    let step : snapshot h (n + 1) ≡ after_change (n + 1) c (snapshot h n) =
    new ∙ make before c ∙ ap (λ (s : Snapshot). after_change (n + 1) c s) (sym old) in
    subst (λ m. snapshot h m ≡ after_change m c (snapshot h v)) now
    (subst (λ m. snapshot h (n + 1) ≡ after_change (n + 1) c (snapshot h m)) was step)

-- the state is live, with a text that the pattern matches
abbrev pub IsMatchedIn : PatternTerm → Option Status → Type 0
IsMatchedIn p None = ⊥
IsMatchedIn p (Some (Live version format text)) = IsMatched p format text
IsMatchedIn p (Some (Withdrawn version)) = ⊥

from-answer : (h : History) (v id : ℕ) (p : PatternTerm) → IsAnswer (IsMatched p) h v id
    → IsMatchedIn p (get (snapshot h v) id)
from-answer h v id p answer = subst (IsMatchedIn p) (sym answer.state) answer.asked

to-answer : (h : History) (v id : ℕ) (p : PatternTerm) (state : Option Status) → get (snapshot h v) id ≡ state
    → IsMatchedIn p state → IsAnswer (IsMatched p) h v id
to-answer h v id p None e m = absurd m
to-answer h v id p (Some (Live version format text)) e m =
    record { version = version; format = format; text = text; state = e; asked = m }
to-answer h v id p (Some (Withdrawn version)) e m = absurd m

-- what an insertion leaves at its key and elsewhere
inserted-here : (states : Snapshot) (key : ℕ) (status : Status) → get (insert states key status) key ≡ Some status
inserted-here states key status =
    get-insert nat_cmp_total states key status key
    ∙ ap (λ b. cond b (Some status) (get states key)) (tied key)
  where
    tied : (a : ℕ) → eq_by_cmp nat_cmp a a ≡ true
    tied a = grind arith

inserted-elsewhere : (states : Snapshot) (key : ℕ) (status : Status) (id : ℕ) → id ≢ key
    → get (insert states key status) id ≡ get states id
inserted-elsewhere states key status id other =
    get-insert nat_cmp_total states key status id
    ∙ ap (λ b. cond b (Some status) (get states id)) (apart id key other)
  where
    apart : (a b : ℕ) → a ≢ b → eq_by_cmp nat_cmp a b ≡ false
    apart a b n = grind arith

elsewhere : (version : ℕ) (c : Change) (states : Snapshot) (id : ℕ) → id ≢ id_of c
    → get (after_change version c states) id ≡ get states id
elsewhere version (Register key format text) states id other =
    inserted-elsewhere states key (Live version format text) id other
elsewhere version (Revise key format text) states id other =
    inserted-elsewhere states key (Live version format text) id other
elsewhere version (Withdraw key) states id other = inserted-elsewhere states key (Withdrawn version) id other

-- what a change leaves at its identifier
abbrev pub left_by : ℕ → Change → Status
left_by version (Register key format text) = Live version format text
left_by version (Revise key format text) = Live version format text
left_by version (Withdraw key) = Withdrawn version

here : (version : ℕ) (c : Change) (states : Snapshot)
    → get (after_change version c states) (id_of c) ≡ Some (left_by version c)
here version (Register key format text) states = inserted-here states key (Live version format text)
here version (Revise key format text) states = inserted-here states key (Live version format text)
here version (Withdraw key) states = inserted-here states key (Withdrawn version)

-- hits over a change: its identifier is one exactly where the change leaves a match, and each other as before
pub hits-over : (h : History) (v version : ℕ) (p : PatternTerm) (c : Change) (Leaves : Type 0) (old new : List ℕ)
    → snapshot h version ≡ after_change version c (snapshot h v)
    → IsMatchedIn p (Some (left_by version c)) ↔ Leaves → IsStrictlyIncreasing new
    → Contains new (id_of c) ↔ Leaves → ((id : ℕ) → id ≢ id_of c → Contains new id ↔ Contains old id)
    → AreHits h v p old → AreHits h version p new
hits-over h v version p c Leaves old new is leaves ascending own others are =
    let key = id_of c in
    let state : get (snapshot h version) key ≡ Some (left_by version c) =
    ap (λ (s : Snapshot). get s key) is ∙ here version c (snapshot h v) in
    let same : (id : ℕ) → id ≢ key → get (snapshot h version) id ≡ get (snapshot h v) id =
    λ id other. ap (λ (s : Snapshot). get s id) is ∙ elsewhere version c (snapshot h v) id other in
    record {
      ascending = ascending;
      only = λ id has. elim (cases_eq id key) [
        | inl e ↦ subst (λ n. IsAnswer (IsMatched p) h version n) (sym e)
            (to-answer h version key p (Some (left_by version c)) state
            (leaves.1 (own.0 (subst (λ n. Contains new n) e has))))
        | inr other ↦ to-answer h version id p (get (snapshot h v) id) (same id other)
            (from-answer h v id p (are.only id ((others id other).0 has)))
      ];
      all = λ id answer. elim (cases_eq id key) [
        | inl e ↦ subst (λ n. Contains new n) (sym e) (own.1 (leaves.0 (subst (IsMatchedIn p) state
            (from-answer h version key p (subst (λ n. IsAnswer (IsMatched p) h version n) e answer)))))
        | inr other ↦ (others id other).1 (are.all id (to-answer h v id p (get (snapshot h version) id)
            (sym (same id other)) (from-answer h version id p answer)))
      ];
    }

-- a record's text is matched exactly where its structure is
matched : OneStructure → (p : PatternTerm) (r : RecordTerm) → IsRecord r → IsMatched p r.format r.text ↔ Matches p r.mol
matched one p r sound =
    (λ m. subst (Matches p) (one r.format r.text m.0 r.mol m.1 sound.structure) m.2, λ m. (r.mol, sound.structure, m))

leaves-match : OneStructure → (version : ℕ) (p : PatternTerm) (change : Asked) → IsSoundChange change
    → IsMatchedIn p (Some (left_by version (change_of change))) ↔ LeavesMatch p change
leaves-match one version p (asked.Register r) sound = matched one p (arc_value r) sound
leaves-match one version p (asked.Revise r) sound = matched one p (arc_value r) sound
leaves-match one version p (asked.Withdraw id) sound = (λ m. m, λ m. m)

pub stays-right : OneStructure → SnapshotsStay → CommitsChange → (version : ℕ) (change : Asked) (old new : Watch)
    → IsSoundChange change → old.version + 1 ≡ version
    → IsListAfter (pattern_of old.pattern) change old.hits new.hits → StaysRight version (change_of change) old new
stays-right one stay make version change old new sound next list h is are =
    let p = pattern_of old.pattern in
    hits-over h old.version version p (change_of change) (LeavesMatch p change) old.hits new.hits
    (committed stay make h version old.version (change_of change) is next) (leaves-match one version p change sound)
    list.ascending list.own list.others are
