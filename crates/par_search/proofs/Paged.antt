-- Fetches that follow each other, and the records of their pages.
use Rattle.std.proofs.Common.{◌≡◌, ◌++◌, ◌==◌, ◌∙◌, ap, append-nil, append_assoc, Bool, cond, eq-eqb, inl, inr, List, [], ◌∷◌, None, Option, refl, Some, subst, sym, ℕ}
use Rattle.std.proofs.lemmas.Bool.{cond-true}
use Rattle.std.proofs.lemmas.List.Elements.{filter_map-append}
use Rattle.std.specs.List.{cons_option}
use Rattle.store_machine.specs.Searches.{At, End, Fetched, Place, fetched, page_in, past, records_of}
use Rattle.store_machine.specs.declared.machine.Event.{Event}
use Rattle.store_machine.specs.declared.machine.Event.TheVariants.{Fetch}
use Rattle.store_machine.specs.declared.machine.Found.{Found}
use Rattle.store_machine.specs.declared.machine.Reply.{Reply}
use Rattle.store_machine.specs.declared.machine.Reply.TheVariants as replies
use Rattle.par_search.specs.Fetches.{AreFetches, ArePages, Calls}

pub records-append : (fs gs : List Fetched) → records_of (fs ++ gs) ≡ records_of fs ++ records_of gs
records-append [] gs = refl
records-append (f ∷ fs) gs = ap (λ l. f.records ++ l) (records-append fs gs)
    ∙ sym (append_assoc f.records (records_of fs) (records_of gs))

pub fetched-append : (slot : ℕ) (xs ys : Calls) → fetched slot (xs ++ ys) ≡ fetched slot xs ++ fetched slot ys
fetched-append slot xs ys = filter_map-append (λ (c : Event × Reply). page_in slot c.0 c.1) xs ys

pub pages-append : (xs ys : Calls) → ArePages xs → ArePages ys → ArePages (xs ++ ys)
pages-append [] ys p q = q
pages-append (x ∷ xs) ys p q = (p.0, p.1, p.2, pages-append xs ys p.3 q)

pub pages_more : (cs : Calls) (e : Event) (records : List Found) (last : Bool) → ArePages cs
    → ArePages (cs ++ (e, replies.Page records last) ∷ [])
pages_more cs e records last p = pages-append cs ((e, replies.Page records last) ∷ []) p (records, last, refl, tt)

no_page_lost : (r : Reply) (records : List Found) (last : Bool) → r ≡ replies.Page records last → r ≡ replies.NoMemory
    → ⊥
no_page_lost r records last p q = cc

-- a fetch that found no memory gave no page
pub pages_lost : (cs : Calls) (e : Event) → ArePages (cs ++ (e, replies.NoMemory) ∷ []) → ⊥
pages_lost [] e p = no_page_lost replies.NoMemory p.0 p.1 p.2 refl
pages_lost (c ∷ cs) e p = pages_lost cs e p.3

-- more fetches behind pages
pub fetches-append : (slot size : ℕ) (want : List Bool) (a b d : Place) (xs ys : Calls) → ArePages xs
    → AreFetches slot size want a xs b → AreFetches slot size want b ys d → AreFetches slot size want a (xs ++ ys) d
fetches-append slot size want a b d [] ys p h k = subst (λ (q : Place). AreFetches slot size want q ys d) h k
fetches-append slot size want a b d (x ∷ xs) ys p (from, at, is, inl lost) k =
    absurd (no_page_lost x.1 p.0 p.1 p.2 lost.0)
fetches-append slot size want a b d (x ∷ xs) ys p (from, at, is, inr h) k =
    (from, at, is, inr (h.0, h.1, h.2, fetches-append slot size want (cond h.1 End (At (past from h.0))) b d xs ys p.3 h.3 k))

-- a page more
pub fetches_page : (slot size from : ℕ) (want : List Bool) (start : Place) (pages : Calls) (records : List Found)
    (last : Bool) → ArePages pages → AreFetches slot size want start pages (At from)
    → AreFetches slot size want start (pages ++ (Fetch slot want from size, replies.Page records last) ∷ [])
    (cond last End (At (past from records)))
fetches_page slot size from want start pages records last all h =
    fetches-append slot size want start (At from) (cond last End (At (past from records))) pages _ all h
    (from, refl, refl, inr (records, last, refl, refl))

-- a fetch that found no memory
pub fetches_lost : (slot size from : ℕ) (want : List Bool) (start : Place) (pages : Calls)
    → ArePages pages → AreFetches slot size want start pages (At from)
    → AreFetches slot size want start (pages ++ (Fetch slot want from size, replies.NoMemory) ∷ []) (At from)
fetches_lost slot size from want start pages all h =
    fetches-append slot size want start (At from) (At from) pages _ all h
    (from, refl, refl, inl (refl, refl, refl))

abbrev pub page_at : ℕ → ℕ → List Bool → List Found → Bool → Fetched
page_at size from want records last =
    record { want = want; from = from; limit = size; records = records; last = last }

-- the pages with one more, and their records
pub fetched_page : (slot size from : ℕ) (want : List Bool) (pages : Calls) (records : List Found) (last : Bool)
    → fetched slot (pages ++ (Fetch slot want from size, replies.Page records last) ∷ [])
    ≡ fetched slot pages ++ page_at size from want records last ∷ []
fetched_page slot size from want pages records last =
    let f : Fetched = page_at size from want records last in
    let call : Event × Reply = (Fetch slot want from size, replies.Page records last) in
    let page : page_in slot call.0 call.1 ≡ Some f = cond-true (slot == slot) (Some f) None (eq-eqb slot slot refl) in
    let one : fetched slot (call ∷ []) ≡ f ∷ [] = ap (λ (o : Option Fetched). cons_option o []) page in
    fetched-append slot pages (call ∷ []) ∙ ap (λ l. fetched slot pages ++ l) one

pub records_page : (slot size from : ℕ) (want : List Bool) (pages : Calls) (records : List Found) (last : Bool)
    → records_of (fetched slot (pages ++ (Fetch slot want from size, replies.Page records last) ∷ []))
    ≡ records_of (fetched slot pages) ++ records
records_page slot size from want pages records last =
    ap records_of (fetched_page slot size from want pages records last)
    ∙ (records-append (fetched slot pages) (page_at size from want records last ∷ [])
    ∙ ap (λ l. records_of (fetched slot pages) ++ l) (append-nil records))

-- which are those that there are, where it found no memory
pub records_lost : (slot size from : ℕ) (want : List Bool) (pages : Calls)
    → records_of (fetched slot (pages ++ (Fetch slot want from size, replies.NoMemory) ∷ []))
    ≡ records_of (fetched slot pages)
records_lost slot size from want pages =
    ap records_of (fetched-append slot pages ((Fetch slot want from size, replies.NoMemory) ∷ [])
    ∙ append-nil (fetched slot pages))
