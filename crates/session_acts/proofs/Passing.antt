-- What is known of an open cursor by the calls so far, how it goes on by its pages, and calls that pass its pin by.
use Rattle.std.proofs.Common.{◌≡◌, ◌≢◌, ◌⊎◌, ◌++◌, ◌+◌, ◌==◌, ◌∙◌, ap, append-nil, append_assoc, arith, Bool, cond, Contains, false, inl, inr, length, length-append, List, [], ◌∷◌, map, ne_eqb, None, Option, refl, Some, subst, sym, true, ℕ}
use Rattle.std.proofs.lemmas.Bool.{cond-false}
use Rattle.std.proofs.lemmas.List.Elements.{Contains-append_cases, Contains-push_cases}
use Rattle.std.specs.List.{AllByRecursion, cons_option}
use Rattle.par_search.proofs.Paged.{fetched_page, records_page}
use Rattle.lookup.specs.Fetches.{AreFetches}
pub use Rattle.lookup.proofs.Parting.{fetches_keep, fetches_search}
use Rattle.shell_lang.specs.Reply as line
use Rattle.store_machine.specs.Answers.{AreMatched}
use Rattle.store_machine.specs.Searches.{At, End, Fetched, IsSearch, KeepsPin, Place, fetched, page_in, past, records_of, unpins}
use Rattle.store_machine.specs.Structures.{IsNeedOf}
use Rattle.store_machine.specs.declared.machine.Event.{Event}
use Rattle.store_machine.specs.declared.machine.Event.TheVariants.{Fetch, Pin}
use Rattle.store_machine.specs.declared.machine.Found.{Found}
use Rattle.store_machine.specs.declared.machine.Reply.{Reply}
use Rattle.store_machine.specs.declared.machine.Reply.TheVariants as replies
use Rattle.session_acts.specs.Acts.{Advances, Ended, Lines, Lost, Paged, after_page, page_end}
use Rattle.session_acts.specs.Cursors.{Calls, Cursor}
use Rattle.session_acts.specs.Dialogue.{hits_in}
use Rattle.session_acts.proofs.Listings.{fetched-append, matched-append, search-append}

-- Calls that neither give a pin back nor are answered by a page of it
abbrev pub PassBy : ℕ → Calls → Type 0
PassBy slot [] = Unit {0}
PassBy slot (c ∷ cs) = (unpins slot c.0 ≡ false) × (page_in slot c.0 c.1 ≡ None) × PassBy slot cs

pub passes_keep : (slot : ℕ) (cs : Calls) → PassBy slot cs → KeepsPin slot cs
passes_keep slot [] h = tt
passes_keep slot (c ∷ cs) h = (h.0, passes_keep slot cs h.2)

passes_none : (slot : ℕ) (cs : Calls) → PassBy slot cs → fetched slot cs ≡ []
passes_none slot [] h = refl
passes_none slot (c ∷ cs) h = ap (λ (o : Option Fetched). cons_option o (fetched slot cs)) h.1 ∙ passes_none slot cs h.2

pub keeps-append : (slot : ℕ) (xs ys : Calls) → KeepsPin slot xs → KeepsPin slot ys → KeepsPin slot (xs ++ ys)
keeps-append slot [] ys h k = k
keeps-append slot (x ∷ xs) ys h k = (h.0, keeps-append slot xs ys h.1 k)

pub passes-append : (slot : ℕ) (xs ys : Calls) → PassBy slot xs → PassBy slot ys → PassBy slot (xs ++ ys)
passes-append slot [] ys h k = k
passes-append slot (x ∷ xs) ys h k = (h.0, h.1, passes-append slot xs ys h.2 k)

-- a pin's fetches are no pages of another
no_page : (other pin : ℕ) (asked : List Bool) (from limit : ℕ) (r : Reply) → (pin == other) ≡ false
    → page_in other (Fetch pin asked from limit) r ≡ None
no_page other pin asked from limit (replies.Page records last) h =
    cond-false (pin == other)
    (Some (let f : Fetched = record { want = asked; from = from; limit = limit; records = records; last = last } in
    f)) None h
no_page other pin asked from limit _ h = refl

fetch_none : (slot size from other : ℕ) (want : List Bool) (e : Event) (r : Reply) → slot ≢ other
    → e ≡ Fetch slot want from size → page_in other e r ≡ None
fetch_none slot size from other want e r apart is =
    ap (λ (x : Event). page_in other x r) is ∙ no_page other slot want from size r (ne_eqb slot other apart)

pub fetches_pass : (slot size other : ℕ) (want : List Bool) (place place' : Place) (cs : Calls) → slot ≢ other
    → AreFetches slot size want place cs place' → PassBy other cs
fetches_pass slot size other want place place' [] apart h = tt
fetches_pass slot size other want place place' (c ∷ cs) apart (from, at, is, inl k) = (
  ap (λ (e : Event). unpins other e) is,
  fetch_none slot size from other want c.0 c.1 apart is,
  subst (PassBy other) (sym k.1) tt,
)
fetches_pass slot size other want place place' (c ∷ cs) apart (from, at, is, inr k) = (
  ap (λ (e : Event). unpins other e) is,
  fetch_none slot size from other want c.0 c.1 apart is,
  fetches_pass slot size other want (cond k.1 End (At (past from k.0))) place' cs apart k.3,
)

-- By these calls the cursor's pin was taken and not given back, `turned` pages of a size brought its search to where
-- it stands, and these are its hits
pub record IsOpen (size turned : ℕ) (calls : Calls) (c : Cursor) (hits : List ℕ) : Type 0 where
  pub before : Calls
  pub pages : Calls
  pub own : calls ≡ before ++ (Pin, replies.Pinned c.slot c.version) ∷ pages
  pub keeps : KeepsPin c.slot pages
  pub search : IsSearch c.want (At 0) (fetched c.slot pages) c.place
  pub sized : AllByRecursion (λ (f : Fetched). f.limit ≡ size) (fetched c.slot pages)
  pub turned_is : length (fetched c.slot pages) ≡ turned
  pub need : IsNeedOf c.pattern c.want
  pub tried : c.tried ≡ length (records_of (fetched c.slot pages))
  pub matched : AreMatched c.pattern (records_of (fetched c.slot pages)) hits
  pub count : c.hits ≡ length hits

-- other calls
pub open_passes : {size k : ℕ} {calls : Calls} {c : Cursor} {hits : List ℕ} (its : Calls) → PassBy c.slot its
    → IsOpen size k calls c hits → IsOpen size k (calls ++ its) c hits
open_passes {size} {k} {calls} {c} {hits} its pass o =
    let same : fetched c.slot (o.pages ++ its) ≡ fetched c.slot o.pages =
    fetched-append c.slot o.pages its
    ∙ (ap (λ (fs : List Fetched). fetched c.slot o.pages ++ fs) (passes_none c.slot its pass)
    ∙ append-nil (fetched c.slot o.pages)) in
    record {
      before = o.before;
      pages = o.pages ++ its;
      own = ap (λ (l : Calls). l ++ its) o.own
          ∙ append_assoc o.before ((Pin, replies.Pinned c.slot c.version) ∷ o.pages) its;
      keeps = keeps-append c.slot o.pages its o.keeps (passes_keep c.slot its pass);
      search = subst (λ (fs : List Fetched). IsSearch c.want (At 0) fs c.place) (sym same) o.search;
      sized = subst (λ (fs : List Fetched). AllByRecursion (λ (f : Fetched). f.limit ≡ size) fs) (sym same) o.sized;
      turned_is = ap (λ (fs : List Fetched). length fs) same ∙ o.turned_is;
      need = o.need;
      tried = o.tried ∙ sym (ap (λ (fs : List Fetched). length (records_of fs)) same);
      matched = subst (λ (fs : List Fetched). AreMatched c.pattern (records_of fs) hits) (sym same) o.matched;
      count = o.count;
    }

sized-append : (size : ℕ) (fs : List Fetched) (f : Fetched) → AllByRecursion (λ (g : Fetched). g.limit ≡ size) fs
    → f.limit ≡ size → AllByRecursion (λ (g : Fetched). g.limit ≡ size) (fs ++ f ∷ [])
sized-append size [] f h e = (e, tt)
sized-append size (g ∷ fs) f h e = (h.0, sized-append size fs f h.1 e)

abbrev pub page_of : Cursor → ℕ → ℕ → List Found → Bool → Fetched
page_of c size from records last =
    record { want = c.want; from = from; limit = size; records = records; last = last }

-- a page of the pin
pub page_more : {size k : ℕ} {calls : Calls} {c : Cursor} {hits : List ℕ} (more : List ℕ) (from : ℕ)
    (records : List Found) (last : Bool) → c.place ≡ At from → AreMatched c.pattern records more → (o : IsOpen size k calls c hits)
    → (p : IsOpen size (k + 1) (calls ++ (Fetch c.slot c.want from size, replies.Page records last) ∷ [])
    (after_page c from records last more) (hits ++ more))
    × (fetched c.slot p.pages ≡ fetched c.slot o.pages ++ page_of c size from records last ∷ [])
page_more {size} {k} {calls} {c} {hits} more from records last e m o =
    let f : Fetched = page_of c size from records last in
    let call : Event × Reply = (Fetch c.slot c.want from size, replies.Page records last) in
    let all : fetched c.slot (o.pages ++ call ∷ []) ≡ fetched c.slot o.pages ++ f ∷ [] =
    fetched_page c.slot size from c.want o.pages records last in
    let records_are : records_of (fetched c.slot (o.pages ++ call ∷ [])) ≡ records_of
    (fetched c.slot o.pages) ++ records =
    records_page c.slot size from c.want o.pages records last in (
      record {
        before = o.before;
        pages = o.pages ++ call ∷ [];
        own = ap (λ (l : Calls). l ++ call ∷ []) o.own
            ∙ append_assoc o.before ((Pin, replies.Pinned c.slot c.version) ∷ o.pages) (call ∷ []);
        keeps = keeps-append c.slot o.pages (call ∷ []) o.keeps (refl, tt);
        search = subst (λ (fs : List Fetched). IsSearch c.want (At 0) fs (cond last End (At (past from records))))
            (sym all)
            (search-append c.want (At 0) c.place (cond last End (At (past from records))) (fetched c.slot o.pages)
            (f ∷ []) o.search (e, refl, refl));
        sized = subst (λ (fs : List Fetched). AllByRecursion (λ (g : Fetched). g.limit ≡ size) fs) (sym all)
            (sized-append size (fetched c.slot o.pages) f o.sized refl);
        turned_is = ap (λ (fs : List Fetched). length fs) all
            ∙ (length-append (fetched c.slot o.pages) (f ∷ []) ∙ ap (λ (n : ℕ). n + 1) o.turned_is);
        need = o.need;
        tried = ap (λ (n : ℕ). n + length records) o.tried
            ∙ (sym (length-append (records_of (fetched c.slot o.pages)) records)
            ∙ sym (ap (λ (l : List Found). length l) records_are));
        matched = subst (λ (rs : List Found). AreMatched c.pattern rs (hits ++ more)) (sym records_are)
            (matched-append c.pattern (records_of (fetched c.slot o.pages)) records hits more o.matched m);
        count = ap (λ (n : ℕ). n + length more) o.count ∙ sym (length-append hits more);
      },
      all,
    )

-- the hits in the lines of a page
pub hits_listed : (hits : List ℕ) (said : line.Reply) → hits_in (said ∷ []) ≡ []
    → hits_in (map line.Hit hits ++ said ∷ []) ≡ hits
hits_listed [] said e = e
hits_listed (h ∷ hs) said e = ap (λ (l : List ℕ). h ∷ l) (hits_listed hs said e)

pub no_hit : (last : Bool) (c : Cursor) → hits_in (page_end last c ∷ []) ≡ []
no_hit true c = refl
no_hit false c = refl

-- what stays of a cursor
pub record IsSame (c c' : Cursor) : Type 0 where
  pub name : c'.name ≡ c.name
  pub pattern : c'.pattern ≡ c.pattern
  pub slot : c'.slot ≡ c.slot
  pub version : c'.version ≡ c.version

pub advances_same : {size : ℕ} {c c' : Cursor} {calls : Calls} {lines : Lines} → Advances size c calls lines c'
    → IsSame c c'
advances_same (Ended at) = record { name = refl; pattern = refl; slot = refl; version = refl }
advances_same (Paged from records last hits at m) = record { name = refl; pattern = refl; slot = refl; version = refl }
advances_same (Lost from at) = record { name = refl; pattern = refl; slot = refl; version = refl }

-- its calls are fetches of its pin
pub advances_fetch : {size : ℕ} {c c' : Cursor} {calls : Calls} {lines : Lines} → Advances size c calls lines c'
    → (place : Place) × AreFetches c.slot size c.want c.place calls place
advances_fetch {c = c} (Ended at) = (c.place, refl)
advances_fetch (Paged from records last hits at m) =
    (cond last End (At (past from records)), (from, at, refl, inr (records, last, refl, refl)))
advances_fetch {c = c} (Lost from at) = (c.place, (from, at, refl, inl (refl, refl, refl)))

-- Lines
pub none_in : {X : Type 0} → (x : X) → ¬ Contains [] x
none_in x h = omega (arith, h.1)

pub one_in : {X : Type 0} → (y x : X) → Contains (y ∷ []) x → y ≡ x
one_in y x h = elim (Contains-push_cases [] y x h) [ inl k ↦ absurd (none_in x k) | inr e ↦ e ]

pub first_or_rest : {X : Type 0} → (y : X) (ys : List X) (x : X) → Contains (y ∷ ys) x → (y ≡ x) ⊎ Contains ys x
first_or_rest y ys x h = elim (Contains-append_cases (y ∷ []) ys x h) [ inl k ↦ inl (one_in y x k) | inr k ↦ inr k ]

-- a line that is no hit, among hits and one line more
pub behind_hits : (x : line.Reply) → ((id : ℕ) → line.Hit id ≡ x → ⊥) → (hits : List ℕ) (said : line.Reply)
    → Contains (map line.Hit hits ++ said ∷ []) x → said ≡ x
behind_hits x other [] said k = one_in said x k
behind_hits x other (h ∷ hs) said k = elim (first_or_rest (line.Hit h) (map line.Hit hs ++ said ∷ []) x k) [
  | inl e ↦ absurd (other h e)
  | inr m ↦ behind_hits x other hs said m
]

pub hit_or_more : (id : ℕ) → line.Hit id ≡ line.More → ⊥
hit_or_more id e = cc

end_or_more : (version tried hits : ℕ) → line.End version tried hits ≡ line.More → ⊥
end_or_more version tried hits e = cc

pub fault_or_more : line.MemoryFault ≡ line.More → ⊥
fault_or_more e = cc

end_or_fault : (last : Bool) (c : Cursor) → page_end last c ≡ line.MemoryFault → ⊥
end_or_fault true c e = cc
end_or_fault false c e = cc

pub last_or_more : (last : Bool) (c : Cursor) → page_end last c ≡ line.More → last ≡ false
last_or_more true c e = absurd (end_or_more c.version c.tried c.hits e)
last_or_more false c e = refl

-- How a reply moves a cursor: by a page with `more`, or not at all where it found no memory
pub record IsTurn (lines : Lines) (k : ℕ) (place : Place) (k' : ℕ) (place' : Place) : Type 0 where
  pub more : Contains lines line.More → (k' ≡ k + 1) × (from : ℕ) × (place' ≡ At from)
  pub lost : lines ≡ line.MemoryFault ∷ [] → (k' ≡ k) × (place' ≡ place)

page_turn : (c' : Cursor) {k : ℕ} {place : Place} (from : ℕ) (records : List Found) (last : Bool) (hits : List ℕ)
    → c'.place ≡ cond last End (At (past from records))
    → IsTurn (map line.Hit hits ++ page_end last c' ∷ []) k place (k + 1) c'.place
page_turn c' from records last hits moved = record {
  more = λ m.
      let q = last_or_more last c' (behind_hits line.More hit_or_more hits (page_end last c') m) in
      (refl, past from records, moved ∙ ap (λ (b : Bool). cond b End (At (past from records))) q);
  lost = λ e.
      let among : Contains (map line.Hit hits ++ page_end last c' ∷ []) line.MemoryFault =
      subst (λ (l : Lines). Contains l line.MemoryFault) (sym e) (0, omega arith, refl) in
      absurd (end_or_fault last c' (behind_hits line.MemoryFault (λ id q. cc) hits (page_end last c') among));
}

-- the cursor goes on, and lists the hits among its lines
pub open_advances : {size k : ℕ} {calls its : Calls} {lines : Lines} {c c' : Cursor} {hits : List ℕ}
    → Advances size c its lines c' → IsOpen size k calls c hits
    → (k' : ℕ) × IsTurn lines k c.place k' c'.place × IsOpen size k' (calls ++ its) c' (hits ++ hits_in lines)
open_advances {size} {k} {calls} {c = c} {hits = hits} (Ended at) o = (
  k,
  record {
    more = λ m. absurd (end_or_more c.version c.tried c.hits (one_in (page_end true c) line.More m));
    lost = λ q. (refl, refl);
  },
  subst (IsOpen size k (calls ++ []) c) (sym (append-nil hits)) (open_passes [] tt o),
)
open_advances {size} {k} {calls} {c = c} {hits = hits} (Paged from records last more at m) o =
    let call : Event × Reply = (Fetch c.slot c.want from size, replies.Page records last) in
    let next = after_page c from records last more in
    let listed : hits_in (map line.Hit more ++ page_end last next ∷ []) ≡ more =
    hits_listed more (page_end last next) (no_hit last next) in (
      k + 1,
      page_turn next from records last more refl,
      subst (λ (l : List ℕ). IsOpen size (k + 1) (calls ++ call ∷ []) next (hits ++ l)) (sym listed)
          (page_more more from records last at m o).0,
    )
open_advances {size} {k} {calls} {c = c} {hits = hits} (Lost from at) o =
    let its : Calls = (Fetch c.slot c.want from size, replies.NoMemory) ∷ [] in (
      k,
      record {
        more = λ m. absurd (fault_or_more (one_in line.MemoryFault line.More m));
        lost = λ q. (refl, refl);
      },
      subst (IsOpen size k (calls ++ its) c) (sym (append-nil hits)) (open_passes its (refl, refl, tt) o),
    )

-- the calls before, a search between its pin and its unpin, and the calls after
pub cut_calls : (before pages after : Calls) (pin unpin : Event × Reply)
    → before ++ ((pin ∷ (pages ++ unpin ∷ [])) ++ after) ≡ (before ++ pin ∷ pages) ++ unpin ∷ after
cut_calls before pages after pin unpin =
    ap (λ (l : Calls). before ++ pin ∷ l) (append_assoc pages (unpin ∷ []) after)
    ∙ sym (append_assoc before (pin ∷ pages) (unpin ∷ after))
