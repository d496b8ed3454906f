-- Two disks open to a history, or are damaged at one place, or neither is open, and never two of these.
use Rattle.std.proofs.Common.{◌≡◌, ◌⊎◌, ◌++◌, ◌<◌, ◌≤◌, ◌∙◌, ap, arith, inl, inr, length, List, [], ◌∷◌, map, nat_cmp, refl, subst, sym, T, ℕ}
use Rattle.std.specs.FinMap.Entries.{is_sorted}
use Rattle.std.specs.List.{AllByRecursion}
use Rattle.commit_log.specs.Base.{AreEntries, DamagesBase, base_payloads}
use Rattle.commit_log.specs.Change.{Change as Logged}
use Rattle.commit_log.specs.Entry.{Entry}
use Rattle.commit_log.specs.Log.{DamagesLog, IsLog, payloads as log_payloads}
use Rattle.disk_pair.specs.Pairs.{OpensAs, Picks}
use Rattle.journal_core.specs.Fronts.{IsFront, IsHeader, IsOpen, front_of}
use Rattle.journal_core.specs.Records.{IsShort, Opens, body, prefix}
use Rattle.journal_core.specs.declared.format.TheConstants.{OPEN}
use Rattle.journal_core.specs.declared.header.Header.{Header}
use Rattle.store_machine.specs.History.{HasText, IsBased, IsHistory, head}
use Rattle.store_machine.specs.declared.machine.Change.{Change}
use Rattle.store_machine.specs.declared.machine.History.{History}
use Rattle.store_machine.specs.declared.machine.Status.{Status}
use Rattle.store_disk.specs.Loads.{Damages, DamagesCommits, DamagesDisk, DamagesStates, Disallows, IsBegun, IsLate, LacksStructure, MayNotFollow, OpensTo}
use Rattle.store_disk.specs.Payloads.{base_payload, history_of, logged_change, logged_entry, told, told_entry, told_history}
use Rattle.store_disk.proofs.Fronts.{BasesApart, OneBase, WholeBase, behind, not-damaged, not-late, one-begun, one-peeked, states-header}
use Rattle.store_disk.proofs.OnePair.{entry-again}
use Rattle.store_disk.proofs.OneWay.{compare, history-in-range, logged-all, logged-payloads, logged-told, never}
use Rattle.store_disk.proofs.Sorted.{all-above, base-has, base-sorted, both-hold, of-mapped}

-- one of two disks is read, and only where it is open
pub one-read : (a b c d : List ℕ) → Picks a b c → Picks a b d → c ≡ d
one-read a b c d (inl p) (inl q) = p.1 ∙ sym q.1
one-read a b c d (inr p) (inr q) = p.1 ∙ sym q.1
one-read a b c d (inl p) (inr q) =
    let first = p.0.2 q.0.0 q.0.1 in let second = q.0.2 p.0.0 p.0.1 in absurd (omega (arith, first, second))
one-read a b c d (inr p) (inl q) =
    let first = q.0.2 p.0.0 p.0.1 in let second = p.0.2 q.0.0 q.0.1 in absurd (omega (arith, first, second))

pub some-open : (a b c : List ℕ) → Picks a b c → (IsOpen a → ⊥) → (IsOpen b → ⊥) → ⊥
some-open a b c (inl p) shut_a shut_b = shut_a (p.0.0, p.0.1)
some-open a b c (inr p) shut_a shut_b = shut_b (p.0.0, p.0.1)

-- a disk on which a whole base and a whole log stand
record WholeLog (bytes : List ℕ) : Type 0 where
  header : Header
  entries : List Entry
  front : List ℕ
  changes : List Logged
  begun : IsBegun header entries front
  log : IsLog front [] changes bytes

whole-base : (bytes : List ℕ) → WholeLog bytes → WholeBase bytes
whole-base bytes w = record {
  header = w.header;
  entries = w.entries;
  front = w.front;
  rest = _;
  begun = w.begun;
  is = behind w.front (log_payloads w.changes) _ bytes w.log.opens.is;
}

damaged-behind : (at : ℕ) (bytes : List ℕ) (d : DamagesCommits at bytes) → (rest : List ℕ) × (bytes ≡ d.front ++ rest)
damaged-behind at bytes d = elim d.damage.damage [
  | inl b ↦ (_, behind d.front (log_payloads d.damage.changes) b.tail bytes b.is)
  | inr u ↦ (_, behind d.front (log_payloads d.damage.changes) (OPEN ∷ (body u.payload ++ u.rest)) bytes u.is)
]

damaged-base : (at : ℕ) (bytes : List ℕ) → DamagesCommits at bytes → WholeBase bytes
damaged-base at bytes d =
    let rest = damaged-behind at bytes d in
    record {
      header = d.header;
      entries = d.entries;
      front = d.front;
      rest = rest.0;
      begun = d.begun;
      is = rest.1;
    }

disallowed-log : (at : ℕ) (bytes : List ℕ) → Disallows at bytes → WholeLog bytes
disallowed-log at bytes d = record {
  header = d.header;
  entries = d.entries;
  front = d.front;
  changes = d.changes;
  begun = d.begun;
  log = d.log;
}

-- a history's base as entries of a log
logged-bases : (base : List (ℕ × Status)) → base_payloads (map logged_entry base) ≡ map base_payload base
logged-bases [] = refl
logged-bases (e ∷ es) = ap (λ l. base_payload e ∷ l) (logged-bases es)

told-bases : (base : List (ℕ × Status)) → map told_entry (map logged_entry base) ≡ base
told-bases [] = refl
told-bases (e ∷ es) = λ i. entry-again e i ∷ told-bases es i

told-changes : (cs : List Change) → map told (map logged_change cs) ≡ cs
told-changes [] = refl
told-changes (c ∷ cs) = λ i. logged-told c i ∷ told-changes cs i

follow : (version last : ℕ) (es : List (ℕ × Status)) → T (is_sorted nat_cmp es)
    → AllByRecursion (λ e. last < e.0) es → AllByRecursion (λ e. IsBased version e.0 e.1) es
    → AllByRecursion IsShort (map base_payload es) → AreEntries version last (map logged_entry es)
follow version last [] sorted above based short = tt
follow version last (e ∷ es) sorted above based short =
    let parts = both-hold _ _ sorted in (
      record { above = above.0; in_range = based.0.in_range.1; made = based.0.since; past = based.0.until },
      short.0,
      follow version e.0 es parts.1 (all-above e.0 es parts.0) based.1 short.1,
    )

opened-log : (h : History) (g : ℕ) (bytes : List ℕ) → IsHistory h → head h ≤ 16777215
    → OpensAs (history_of g h) bytes → WholeLog bytes
opened-log h g bytes good few o = record {
  header = (history_of g h).header;
  entries = map logged_entry h.base;
  front = o.front;
  changes = map logged_change h.commits;
  begun = record {
    is = subst (λ (ps : List (List ℕ)). IsFront (history_of g h).header ps o.front) (sym (logged-bases h.base)) o.is;
    are = follow h.version 0 h.base (base-sorted h good)
        (base-has h good (λ e. 0 < e.0) (λ id status b. omega (arith, b.in_range.0)))
        (base-has h good (λ e. IsBased h.version e.0 e.1) (λ id status b. b)) o.is.fit;
    few = omega (arith, few);
  };
  log = record {
    opens = subst (λ ps. Opens o.front ps bytes) (sym (logged-payloads h.commits)) o.opens;
    logged = logged-all h.commits (history-in-range h good) o.opens.fit;
  };
}

-- an entry of a base whose texts have structures has one
one-text : (before : List Entry) (e : Entry) (more longer : List Entry) → longer ≡ before ++ e ∷ more
    → AllByRecursion (λ x. HasText (told_entry x).1) longer → HasText (told_entry e).1
one-text before e more longer is all = go before (subst (AllByRecursion (λ x. HasText (told_entry x).1)) is all)
  where
    go : (before : List Entry) → AllByRecursion (λ x. HasText (told_entry x).1) (before ++ e ∷ more)
        → HasText (told_entry e).1
    go [] all = all.0
    go (b ∷ before) all = go before all.1

-- each text of a history's base has a structure
lacks-none : (h : Header) (entries : List Entry) (changes : List Logged) (at : ℕ)
    → IsHistory (told_history h.base_version entries changes) → LacksStructure h entries at → ⊥
lacks-none h entries changes at good lacks =
    lacks.none (one-text lacks.before lacks.entry lacks.more entries lacks.is
    (of-mapped told_entry (λ e. HasText e.1) entries
    (base-has (told_history h.base_version entries changes) good (λ e. HasText e.1) (λ id status b. b.text))))

one-lack : (h : Header) (entries : List Entry) (at place : ℕ) → LacksStructure h entries at
    → LacksStructure h entries place → at ≡ place
one-lack h entries at place d e =
    elim (compare d.before d.entry d.more e.before e.entry e.more (sym d.is ∙ e.is)) [
      | inl same ↦ d.place ∙ (ap (λ es. length (front_of h (base_payloads es))) same ∙ sym e.place)
      | inr rest ↦ elim rest [
        | inl on ↦ absurd (d.none (one-text d.before d.entry on.0 e.before on.1 e.sound))
        | inr on ↦ absurd (e.none (one-text e.before e.entry on.0 d.before on.1 d.sound))
      ]
    ]

one-refusal : (version : ℕ) (entries : List Entry) (front : List ℕ) (changes : List Logged) (at place : ℕ)
    → MayNotFollow version entries front changes at → MayNotFollow version entries front changes place → at ≡ place
one-refusal version entries front changes at place d e =
    elim (compare d.before d.change d.more e.before e.change e.more (sym d.is ∙ e.is)) [
      | inl same ↦ d.place ∙ (ap (λ cs. length (prefix front (log_payloads cs))) same ∙ sym e.place)
      | inr rest ↦ elim rest [
        | inl on ↦ absurd (never version entries d.before d.change on.0 e.before on.1 e.history e.few d.refused)
        | inr on ↦ absurd (never version entries e.before e.change on.0 d.before on.1 d.history d.few e.refused)
      ]
    ]

abbrev Refused : Header → List Entry → List ℕ → List Logged → ℕ → Type 0
Refused h entries front changes at =
    LacksStructure h entries at ⊎ MayNotFollow h.base_version entries front changes at

one-end : (h : Header) (entries : List Entry) (front : List ℕ) (changes : List Logged) (at place : ℕ)
    → Refused h entries front changes at → Refused h entries front changes place → at ≡ place
one-end h entries front changes at place (inl d) (inl e) = one-lack h entries at place d e
one-end h entries front changes at place (inl d) (inr e) = absurd (lacks-none h entries e.before at e.history d)
one-end h entries front changes at place (inr d) (inl e) = absurd (lacks-none h entries d.before place d.history e)
one-end h entries front changes at place (inr d) (inr e) =
    one-refusal h.base_version entries front changes at place d e

-- the laws of a log, of any bytes
abbrev pub OneLog : Type 0
OneLog = (front : List ℕ) (before : List (List ℕ)) (cs ds : List Logged) (bytes : List ℕ)
    → IsLog front before cs bytes → IsLog front before ds bytes → cs ≡ ds

abbrev pub LogsApart : Type 0
LogsApart = (front : List ℕ) (before : List (List ℕ)) (changes : List Logged) (at : ℕ) (bytes : List ℕ)
    → IsLog front before changes bytes → DamagesLog front before at bytes → ⊥

module _ (one_base : OneBase) (apart_base : BasesApart)
    (place_base : (h : Header) (left a b : ℕ) (bytes : List ℕ) → IsHeader h → DamagesBase h [] left a bytes
    → DamagesBase h [] left b bytes → a ≡ b)
    (one_log : OneLog)
    (place_log : (front : List ℕ) (before : List (List ℕ)) (a b : ℕ) (bytes : List ℕ)
    → DamagesLog front before a bytes → DamagesLog front before b bytes → a ≡ b)
    (apart_log : LogsApart) where
  late-states : (at place : ℕ) (bytes : List ℕ) → IsLate at bytes → DamagesStates place bytes → ⊥
  late-states at place bytes d e =
      let same = one-peeked d.header e.header bytes d.is e.is in
      omega (arith, ap (λ (h : Header). h.base_version) same, d.late, e.few)

  one-states : (at place : ℕ) (bytes : List ℕ) → DamagesStates at bytes → DamagesStates place bytes → at ≡ place
  one-states at place bytes d e =
      let same = one-peeked e.header d.header bytes e.is d.is in
      place_base d.header d.header.base_count at place bytes (states-header at bytes d) d.damage
      (subst (λ (h : Header). DamagesBase h [] h.base_count place bytes) same e.damage)

  one-commits : (at place : ℕ) (bytes : List ℕ) → DamagesCommits at bytes → DamagesCommits place bytes → at ≡ place
  unfolding damaged-base
  one-commits at place bytes d e =
      let same = one-begun one_base apart_base bytes (damaged-base at bytes d) (damaged-base place bytes e) in
      place_log d.front [] at place bytes d.damage
      (subst (λ f. DamagesLog f [] place bytes) (sym same.front) e.damage)

  -- a log that is whole is not damaged
  log-commits : (at : ℕ) (bytes : List ℕ) → WholeLog bytes → DamagesCommits at bytes → ⊥
  unfolding whole-base damaged-base
  log-commits at bytes w d =
      let same = one-begun one_base apart_base bytes (whole-base bytes w) (damaged-base at bytes d) in
      apart_log d.front [] w.changes at bytes
      (subst (λ f. IsLog f [] w.changes bytes) same.front w.log) d.damage

  -- of two whole logs the parts are the same
  one-disallowed : (at place : ℕ) (bytes : List ℕ) → Disallows at bytes → Disallows place bytes → at ≡ place
  unfolding whole-base disallowed-log
  one-disallowed at place bytes d e =
      let same = one-begun one_base apart_base bytes (whole-base bytes (disallowed-log at bytes d))
      (whole-base bytes (disallowed-log place bytes e)) in
      let changes = one_log d.front [] d.changes e.changes bytes d.log
      (subst (λ f. IsLog f [] e.changes bytes) (sym same.front) e.log) in
      one-end d.header d.entries d.front d.changes at place d.refused
      (subst (λ (h : Header). Refused h d.entries d.front d.changes place) (sym same.header)
      (subst (λ (es : List Entry). Refused e.header es d.front d.changes place) (sym same.entries)
      (subst (λ f. Refused e.header e.entries f d.changes place) (sym same.front)
      (subst (λ (cs : List Logged). Refused e.header e.entries e.front cs place) (sym changes) e.refused))))

  one-disk : (at place : ℕ) (bytes : List ℕ) → DamagesDisk at bytes → DamagesDisk place bytes → at ≡ place
  one-disk at place bytes (inl d) (inl e) = d.place ∙ sym e.place
  one-disk at place bytes (inl d) (inr (inl e)) = absurd (late-states at place bytes d e)
  one-disk at place bytes (inl d) (inr (inr (inl e))) =
      absurd (not-late one_base apart_base at bytes (damaged-base place bytes e) d)
  one-disk at place bytes (inl d) (inr (inr (inr e))) =
      absurd (not-late one_base apart_base at bytes (whole-base bytes (disallowed-log place bytes e)) d)
  one-disk at place bytes (inr (inl d)) (inl e) = absurd (late-states place at bytes e d)
  one-disk at place bytes (inr (inl d)) (inr (inl e)) = one-states at place bytes d e
  one-disk at place bytes (inr (inl d)) (inr (inr (inl e))) =
      absurd (not-damaged one_base apart_base at bytes (damaged-base place bytes e) d)
  one-disk at place bytes (inr (inl d)) (inr (inr (inr e))) =
      absurd (not-damaged one_base apart_base at bytes (whole-base bytes (disallowed-log place bytes e)) d)
  one-disk at place bytes (inr (inr (inl d))) (inl e) =
      absurd (not-late one_base apart_base place bytes (damaged-base at bytes d) e)
  one-disk at place bytes (inr (inr (inl d))) (inr (inl e)) =
      absurd (not-damaged one_base apart_base place bytes (damaged-base at bytes d) e)
  one-disk at place bytes (inr (inr (inl d))) (inr (inr (inl e))) = one-commits at place bytes d e
  one-disk at place bytes (inr (inr (inl d))) (inr (inr (inr e))) =
      absurd (log-commits at bytes (disallowed-log place bytes e) d)
  one-disk at place bytes (inr (inr (inr d))) (inl e) =
      absurd (not-late one_base apart_base place bytes (whole-base bytes (disallowed-log at bytes d)) e)
  one-disk at place bytes (inr (inr (inr d))) (inr (inl e)) =
      absurd (not-damaged one_base apart_base place bytes (whole-base bytes (disallowed-log at bytes d)) e)
  one-disk at place bytes (inr (inr (inr d))) (inr (inr (inl e))) =
      absurd (log-commits place bytes (disallowed-log at bytes d) e)
  one-disk at place bytes (inr (inr (inr d))) (inr (inr (inr e))) = one-disallowed at place bytes d e

  pub one-place : (at place : ℕ) (a b : List ℕ) → Damages at a b → Damages place a b → at ≡ place
  one-place at place a b d e =
      one-disk at place d.read d.damages
      (subst (DamagesDisk place) (one-read a b e.read d.read e.picks d.picks) e.damages)

  -- what opens is not disallowed
  opened-disallows : (h : History) (g at : ℕ) (bytes : List ℕ) → IsHistory h → head h ≤ 16777215
      → OpensAs (history_of g h) bytes → Disallows at bytes → ⊥
  unfolding whole-base disallowed-log opened-log
  opened-disallows h g at bytes good few o d =
      let w = opened-log h g bytes good few o in
      let same = one-begun one_base apart_base bytes (whole-base bytes w)
      (whole-base bytes (disallowed-log at bytes d)) in
      let changes = one_log w.front [] w.changes d.changes bytes w.log
      (subst (λ f. IsLog f [] d.changes bytes) (sym same.front) d.log) in
      let is : h ≡ told_history d.header.base_version d.entries d.changes =
      (λ i. record {
        base = sym (told-bases h.base) i;
        version = h.version;
        commits = sym (told-changes h.commits) i;
      }) ∙ (λ i. told_history (same.header i).base_version (same.entries i) (changes i)) in
      elim d.refused [
        | inl lacks ↦ lacks-none d.header d.entries d.changes at (subst IsHistory is good) lacks
        | inr refused ↦ never d.header.base_version d.entries refused.before refused.change refused.more d.changes
            refused.is (subst IsHistory is good) (omega (arith, few, ap head is)) refused.refused
      ]

  pub not-both : (h : History) (g at : ℕ) (a b : List ℕ) → OpensTo h g a b → Damages at a b → ⊥
  not-both h g at a b o d =
      go (subst (DamagesDisk at) (one-read a b d.read o.opens.read d.picks o.opens.picks) d.damages)
    where
      go : DamagesDisk at o.opens.read → ⊥
      go (inl d) = not-late one_base apart_base at o.opens.read
          (whole-base o.opens.read (opened-log h g o.opens.read o.history o.few o.opens.opens)) d
      go (inr (inl d)) = not-damaged one_base apart_base at o.opens.read
          (whole-base o.opens.read (opened-log h g o.opens.read o.history o.few o.opens.opens)) d
      go (inr (inr (inl d))) =
          log-commits at o.opens.read (opened-log h g o.opens.read o.history o.few o.opens.opens) d
      go (inr (inr (inr d))) = opened-disallows h g at o.opens.read o.history o.few o.opens.opens d
