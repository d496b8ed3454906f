-- What a fetch finds at a pinned version, by the kept entries.
use Rattle.std.proofs.Common.{◌≡◌, ◌+◌, ◌<◌, ◌≤◌, ◌⊎◌, ◌∙◌, ap, arith, Bool, Contains, inl, inr, List, [], ◌∷◌, map, None, Option, option_map, refl, Some, subst, suc, sym, zero, ℕ}
use Rattle.std.proofs.lemmas.Bool.{cases_lt, true≢false}
use Rattle.std.specs.Arc.{arc_value}
use Rattle.std.specs.FinMap.{get}
use Rattle.record_versions.specs.Entries.{IsLatest, chain_of}
use Rattle.snap_registry.specs.declared.Pin.{Pin}
use Rattle.mol_finish.specs.declared.fault.Format.{Format}
use Rattle.store_machine.specs.Answers.{AreFound, IsLive, from_on}
use Rattle.store_machine.specs.History.{Snapshot, snapshot}
use Rattle.store_machine.specs.Laws.{KeptIsRead, StatesStay}
use Rattle.store_machine.specs.Machine.{is_live}
use Rattle.store_machine.specs.Structures.{IsScreened}
use Rattle.store_machine.specs.declared.machine.Found.{Found}
use Rattle.store_machine.specs.declared.machine.Held.{Held}
use Rattle.store_machine.specs.declared.machine.State.{State}
use Rattle.store_machine.specs.declared.machine.Status.{Status}
use Rattle.store_machine.specs.declared.machine.Status.TheVariants.{Live, Withdrawn}
use Rattle.store_core.specs.Copied.{KeepsVersion}
use Rattle.store_core.specs.Kept.{HasPrint, IsEntryOf, IsNextId, Kept, record_of, status_in, status_of}
use Rattle.store_core.specs.Records.{IsRecord, Shared, found_of}
use Rattle.store_core.specs.Stored.{StandsFor, StoreTerm, pin_of, served}
use Rattle.store_core.proofs.Bits.{decide-record}
use Rattle.store_core.proofs.Copied.{pin-kept}
use Rattle.store_core.proofs.Found.{Rises, increases, on-first, on-from, on-none, rises}
use Rattle.store_core.proofs.Screened.{OneStructure, screened}
use Rattle.store_core.proofs.Sees.{latest-of, same-state, sees}
use Rattle.store_machine.proofs.Members.{contains-here, contains-split, contains-there}

pinned-version : (pin : Pin) (ps : List Held) → Contains (map pin_of ps) pin
    → Contains (map (λ (p : Held). p.version) ps) pin.version
pinned-version pin [] c = absurd (omega (arith, c.1))
pinned-version pin (p ∷ ps) c =
    elim (contains-split (pin_of p) pin (map pin_of ps) c) [
      | inl e ↦ contains-here p.version pin.version (map (λ (x : Held). x.version) ps) (ap (λ (x : Pin). x.version) e)
      | inr d ↦ contains-there p.version pin.version (map (λ (x : Held). x.version) ps) (pinned-version pin ps d)
    ]

pub held-kept : (store : StoreTerm) (s : State) (pin : Pin) → StandsFor store (served s) → Contains store.pins pin
    → KeepsVersion s pin.version
held-kept store s pin h held =
    pin-kept store s h pin.version (pinned-version pin s.pins (subst (λ l. Contains l pin) (sym h.pins) held))

format_in : Format → Status → Format
format_in d (Live version format text) = format
format_in d (Withdrawn version) = d

text_in : Status → List ℕ
text_in (Live version format text) = text
text_in (Withdrawn version) = []

-- a live state is that of a record
record Lives (entry : Option Shared) (format : Format) (text : List ℕ) : Type 0 where
  shared : Shared
  is : entry ≡ Some shared
  same-format : (arc_value shared).format ≡ format
  same-text : (arc_value shared).text ≡ text

lives : (version : ℕ) (entry : Option Shared) (n : ℕ) (format : Format) (text : List ℕ)
    → status_in version entry ≡ Live n format text → Lives entry format text
unfolding format_in text_in
lives version None n format text e = absurd (true≢false (sym (ap is_live e)))
lives version (Some q) n format text e = record
    { shared = q; is = refl; same-format = ap (format_in format) e; same-text = ap text_in e }

-- a live state is of an entry
of-kept : (status : Status) (o : Option Kept) → option_map status_of o ≡ Some status
    → (k : Kept) × (o ≡ Some k) × (status_of k ≡ status)
of-kept status None e = absurd (none-some e)
  where
    none-some : {X : Type 0} {x : X} → None ≡ Some x → ⊥
    none-some e = cc
of-kept status (Some k) e = (k, refl, same-state (status_of k) status e)

-- the record of a found one, in the latest entry of its identifier
record Has (o : Option Kept) (r : Found) : Type 0 where
  shared : Shared
  value : record_of o ≡ Some shared
  is : found_of (arc_value shared) ≡ r
  sound : IsRecord (arc_value shared)

-- those of a stretch of identifiers
record FoundIn (Asked : Found → Type 0) (from to : ℕ) : Type 0 where
  all : List Found
  up : Rises all
  only : (r : Found) → Contains all r → Asked r × (from ≤ r.id)
  whole : (r : Found) → Asked r → from ≤ r.id → r.id < to → Contains all r

-- of an identifier one is found, or none
record One (Asked : Found → Type 0) (id : ℕ) : Type 0 where
  r : Found
  asked : Asked r
  same : r.id ≡ id

found-in : (Asked : Found → Type 0) → ((r q : Found) → Asked r → Asked q → r.id ≡ q.id → r ≡ q)
    → ((id : ℕ) → One Asked id ⊎ ¬ One Asked id) → (count from : ℕ) → FoundIn Asked from (from + count)
found-in Asked unique decide zero from =
    record {
      all = [];
      up = tt;
      only = λ r c. absurd (omega (arith, c.1));
      whole = λ r a le less. absurd (omega (arith, le, less));
    }
found-in Asked unique decide (suc count) from = go (found-in Asked unique decide count (from + 1)) (decide from)
  where
    go : FoundIn Asked (from + 1) (from + 1 + count) → One Asked from ⊎ ¬ One Asked from
        → FoundIn Asked from (from + suc count)
    go rest (inl one) = record {
      all = one.r ∷ rest.all;
      up = ((λ q c. let low = (rest.only q c).1 in omega (arith, low, one.same)), rest.up);
      only = λ r c. elim (contains-split one.r r rest.all c) [
        | inl e ↦ subst (λ x. Asked x × (from ≤ x.id)) e (one.asked, omega (arith, one.same))
        | inr d ↦ let o = rest.only r d in (o.0, (let low = o.1 in omega (arith, low)))
      ];
      whole = λ r a le less. elim (cases_lt from r.id) [
        | inl above ↦ contains-there one.r r rest.all (rest.whole r a (omega (arith, above)) (omega (arith, less)))
        | inr below ↦ contains-here one.r r rest.all
            (unique one.r r one.asked a (omega (arith, one.same, below, le)))
      ];
    }
    go rest (inr none) = record {
      all = rest.all;
      up = rest.up;
      only = λ r c. let o = rest.only r c in (o.0, (let low = o.1 in omega (arith, low)));
      whole = λ r a le less. elim (cases_lt from r.id) [
        | inl above ↦ rest.whole r a (omega (arith, above)) (omega (arith, less))
        | inr below ↦ absurd (none (record { r = r; asked = a; same = omega (arith, below, le) }))
      ];
    }

module _ (read : KeptIsRead) (stay : StatesStay) (one : OneStructure) (store : StoreTerm) (s : State) (v : ℕ)
    (h : StandsFor store (served s)) (keeps : KeepsVersion s v) (want : List Bool) where
  abbrev states : Snapshot
  states = snapshot s.history v

  abbrev Asked : Found → Type 0
  Asked r = IsLive states r × IsScreened want r.format r.text

  live-in : (r : Found) (o : Option Kept) → IsLatest v (chain_of store.kept.chains r.id) o → IsLive states r → Has o r
  live-in r o latest (version, e) =
      let found = of-kept (Live version r.format r.text) o (sym (sees read store s v r.id h keeps stay o latest) ∙ e) in
      let l = lives found.0.version found.0.value version r.format r.text found.2 in
      let there = subst (IsLatest v (chain_of store.kept.chains r.id)) found.1 latest in
      let own : IsEntryOf r.id (Some l.shared) = subst (IsEntryOf r.id) l.is
      ((h.chains r.id).records found.0 there.0) in record {
        shared = l.shared;
        value = ap record_of found.1 ∙ l.is;
        is = λ i. record { id = own.1 i; format = l.same-format i; text = l.same-text i };
        sound = own.0;
      }

  -- its print holds what is wanted
  holds : (o : Option Kept) (r : Found) → Has o r → IsScreened want r.format r.text → HasPrint want (record_of o)
  holds o r l asked =
      let x = arc_value l.shared in
      let own = subst (λ (f : Found). IsScreened want f.format f.text) (sym l.is) asked in
      subst (HasPrint want) (sym l.value)
      ((screened one x.format x.text x.mol x.print want l.sound.structure l.sound.print).1 own)

  -- and that of a latest entry whose print does is asked for
  record IsAsked (id : ℕ) (shared : Shared) : Type 0 where
    same : (arc_value shared).id ≡ id
    asked : Asked (found_of (arc_value shared))

  is-asked : (id : ℕ) (o : Option Kept) (shared : Shared) → IsLatest v (chain_of store.kept.chains id) o
      → record_of o ≡ Some shared → HasPrint want (Some shared) → IsAsked id shared
  is-asked id None shared latest value print = absurd (none-some value)
    where
      none-some : {X : Type 0} {x : X} → None ≡ Some x → ⊥
      none-some e = cc
  is-asked id (Some k) shared latest value print =
      let x = arc_value shared in
      let own : IsEntryOf id (Some shared) = subst (IsEntryOf id) value ((h.chains id).records k latest.0) in record {
        same = own.1;
        asked = (
          (
            k.version,
            ap (get states) own.1 ∙ (sees read store s v id h keeps stay (Some k) latest
                ∙ ap (λ e. Some (status_in k.version e)) value),
          ),
          (screened one x.format x.text x.mol x.print want own.0.structure own.0.print).0 print,
        );
      }

  -- of each identifier one at most
  same-found : (r q : Found) → Asked r → Asked q → r.id ≡ q.id → r ≡ q
  unfolding format_in text_in
  same-found r q a b same =
      let is : Live a.0.0 r.format r.text ≡ Live b.0.0 q.format q.text =
      same-state _ _ (sym a.0.1 ∙ (ap (get states) same ∙ b.0.1)) in
      λ i. record { id = same i; format = ap (format_in r.format) is i; text = ap text_in is i }

  latest-live : (r : Found) → IsLive states r → (k : Kept) × IsLatest v (chain_of store.kept.chains r.id) (Some k)
  latest-live r (version, e) =
      let l = latest-of read store s v r.id h keeps (Live version r.format r.text) e in (l.k, l.latest)

  same-screened : (q r : Found) → q.id ≡ r.id → Asked q → IsLive states r → IsScreened want r.format r.text
  unfolding format_in text_in
  same-screened q r same a l =
      let is : Live a.0.0 q.format q.text ≡ Live l.0 r.format r.text =
      same-state _ _ (sym a.0.1 ∙ (ap (get states) same ∙ l.1)) in
      subst (λ (f : Found). IsScreened want f.format f.text)
      (λ i. record { id = 0; format = ap (format_in q.format) is i; text = ap text_in is i }) a.1

  decide-at : (id : ℕ) → One Asked id ⊎ ¬ One Asked id
  decide-at id = go (get states id) refl
    where
      other : (o : Option Status) → get states id ≡ o
          → ((version : ℕ) (format : Format) (text : List ℕ) → o ≡ Some (Live version format text) → ⊥)
          → One Asked id ⊎ ¬ One Asked id
      other o e not = inr (λ x. not x.asked.0.0 x.r.format x.r.text
          (sym e ∙ (ap (get states) (sym x.same) ∙ x.asked.0.1)))

      not-live : (version n : ℕ) (format : Format) (text : List ℕ)
          → Some (Withdrawn version) ≡ Some (Live n format text) → ⊥
      not-live version n format text e = true≢false (sym (ap is_live (same-state _ _ e)))

      none-some : {X : Type 0} {x : X} → None ≡ Some x → ⊥
      none-some e = cc

      live : (r : Found) → r.id ≡ id → IsLive states r → One Asked id ⊎ ¬ One Asked id
      live r same l =
          let k = latest-live r l in
          let has = live-in r (Some k.0) k.1 l in
          elim (decide-record one want (arc_value has.shared) has.sound) [
            | inl w ↦ inl (record {
              r = r;
              asked = (l, subst (λ (f : Found). IsScreened want f.format f.text) has.is w);
              same = same;
            })
            | inr n ↦ inr (λ x. n (subst (λ (f : Found). IsScreened want f.format f.text) (sym has.is)
                (same-screened x.r r (x.same ∙ sym same) x.asked l)))
          ]

      go : (o : Option Status) → get states id ≡ o → One Asked id ⊎ ¬ One Asked id
      go None e = other None e (λ version format text f. none-some f)
      go (Some (Withdrawn version)) e = other (Some (Withdrawn version)) e
          (λ n format text f. not-live version n format text f)
      go (Some (Live version format text)) e = live (record { id = id; format = format; text = text }) refl (version, e)

  -- something is found
  pub found-all : (most : ℕ) → ((r : Found) → Asked r → r.id < most)
      → (all : List Found) × AreFound (IsScreened want) states all
  found-all most below =
      let f = found-in Asked same-found decide-at most 0 in (
        f.all,
        record {
          ascending = increases f.all f.up;
          only = λ r c. (f.only r c).0;
          all = λ r live asked. f.whole r (live, asked) (omega arith)
              (let b = below r (live, asked) in omega (arith, b));
        },
      )

  pub below-all : (r : Found) → Asked r → r.id < 1000000000
  below-all r a =
      let range = (stay s.history v r.id (Live a.0.0 r.format r.text) h.sound.history a.0.1).0.1 in
      omega (arith, range)

  module _ (all : List Found) (found : AreFound (IsScreened want) states all) where
    -- up to the next identifier with such a print none is found
    pub skip : (a b : ℕ) → a ≤ b
        → ((id : ℕ) (k : Kept) → a ≤ id → Contains (chain_of store.kept.chains id) k → HasPrint want k.value → b ≤ id)
        → from_on a all ≡ from_on b all
    skip a b le least =
        on-from a b all le (λ r c up.
        let asked = found.only r c in
        let k = latest-live r asked.0 in
        least r.id k.0 up k.1.0 (holds (Some k.0) r (live-in r (Some k.0) k.1 asked.0) asked.1))

    -- where there is none, none is left
    pub none-left : (a : ℕ) → IsNextId want a store.kept.chains None → from_on a all ≡ []
    none-left a none =
        on-none a all (λ r c. elim (cases_lt r.id a) [
          | inl below ↦ below
          | inr up ↦
              let asked = found.only r c in
              let k = latest-live r asked.0 in
              absurd (none r.id k.0 up k.1.0 (holds (Some k.0) r (live-in r (Some k.0) k.1 asked.0) asked.1))
        ])

    -- its latest entry is found, or none of it is
    pub here : (id : ℕ) (o : Option Kept) (shared : Shared) → IsLatest v (chain_of store.kept.chains id) o
        → record_of o ≡ Some shared → HasPrint want (Some shared)
        → from_on id all ≡ found_of (arc_value shared) ∷ from_on (id + 1) all
    here id o shared latest value print =
        let a = is-asked id o shared latest value print in
        let r = found_of (arc_value shared) in
        subst (λ i. from_on i all ≡ r ∷ from_on (i + 1) all) a.same
        (on-first all r (rises all found.ascending) (found.all r a.asked.0 a.asked.1))

    pub not-here : (id : ℕ) (o : Option Kept) → IsLatest v (chain_of store.kept.chains id) o
        → ¬ HasPrint want (record_of o) → from_on id all ≡ from_on (id + 1) all
    not-here id o latest not =
        on-from id (id + 1) all (omega arith) (λ r c le. elim (cases_lt id r.id) [
          | inl above ↦ omega (arith, above)
          | inr ge ↦
              let same : r.id ≡ id = omega (arith, ge, le) in
              let asked = found.only r c in
              absurd (not (holds o r (live-in r o
              (subst (λ i. IsLatest v (chain_of store.kept.chains i) o) (sym same) latest) asked.0) asked.1))
        ])
