-- Fetching and matching leave the room as it was.
use Rattle.std.proofs.Common.{◌≡◌, ◌*◌, ◌++◌, ◌<◌, ◌≤◌, ◌∙◌, All, ap, arith, get_or, length, List, [], ◌∷◌, map, set, subst, suc, sym, vec_capacity, zero, ℕ}
use Rattle.std.proofs.lemmas.List.{get_or-map, length-map, map-append}
use Rattle.std.specs.Int.{div_ceil}
use Rattle.store_core.specs.Records.{PageTerm}
use Rattle.par_search.specs.Flags.{HaveSameRoom, WorkerTerm}
use Rattle.par_search.specs.Rooms.{IsRoom, SameRoom}
use Rattle.par_search.specs.declared.room.Room.{Room}
use Rattle.par_search.specs.declared.worker.TheConstants.{MOST_RECORDS}
use Rattle.par_search.proofs.Shares.{share-grows}

abbrev pub page_rooms : List PageTerm → List ℕ
page_rooms ps = map {B = ℕ} (λ p. p.room) ps

pub same-length : {X : Type 0} (f : X → ℕ) (xs ys : List X) → map f ys ≡ map f xs → length ys ≡ length xs
same-length f xs ys e = sym (length-map ys f) ∙ ap (λ l. length l) e ∙ length-map xs f

pub kept : {X : Type 0} (f : X → ℕ) (q : ℕ) (xs ys : List X) → map f ys ≡ map f xs → All (λ x. q ≤ f x) xs
    → All (λ x. q ≤ f x) ys
kept f q xs ys e all i d less =
    let there : i < length xs = omega (arith, less, same-length f xs ys e) in
    let is : f (get_or xs i d) ≡ f (get_or ys i d) =
    sym (get_or-map f xs i d 0 there) ∙ ap (λ l. get_or l i 0) (sym e) ∙ get_or-map f ys i d 0 less in
    subst (λ n. q ≤ n) is (all i d there)

-- a page in the place of one with as much room
pub rooms-set : (ps : List PageTerm) (i : ℕ) (p d : PageTerm) → i < length ps → p.room ≡ (get_or ps i d).room
    → page_rooms (set ps i p) ≡ page_rooms ps
rooms-set [] i p d less e = absurd (omega (arith, less))
rooms-set (x ∷ xs) zero p d less e = ap (λ n. n ∷ page_rooms xs) e
rooms-set (x ∷ xs) (suc i) p d less e = ap (λ l. x.room ∷ l) (rooms-set xs i p d (omega (arith, less)) e)

-- room for equal parts of many records, of a page or of a full batch, is room for those of fewer
pub parts-fit : (room : WorkerTerm → ℕ) (n most : ℕ) (ws vs : List WorkerTerm) → vs ≡ ws → 1 ≤ length ws → n ≤ most
    → All (λ (w : WorkerTerm). div_ceil most (length ws) ≤ room w) ws
    → All (λ (w : WorkerTerm). div_ceil n (length vs) ≤ room w) vs
parts-fit room n most ws vs e some le all =
    subst (λ (l : List WorkerTerm). All (λ (w : WorkerTerm). div_ceil n (length l) ≤ room w) l) (sym e)
    (λ i d less. let grows = share-grows n most (length ws) some le in omega (arith, grows, all i d less))

-- and room for two of them is room for two of those
pub shares-fit : (n most : ℕ) (ws : List WorkerTerm) → 1 ≤ length ws → n ≤ most
    → All (λ (w : WorkerTerm). 2 * div_ceil most (length ws) ≤ w.share) ws
    → All (λ (w : WorkerTerm). 2 * div_ceil n (length ws) ≤ w.share) ws
shares-fit n most ws some le all i d less =
    let grows = share-grows n most (length ws) some le in omega (arith, grows, all i d less)

pub kept-room : (old new : Room) → IsRoom old → new.size ≡ old.size → old.page.room ≡ new.page.room
    → page_rooms new.batch.items ≡ page_rooms old.batch.items
    → vec_capacity new.hits ≡ vec_capacity old.hits
    → HaveSameRoom old.workers.items new.workers.items → SameRoom old new
kept-room old new h size page batch hits workers =
    let n = same-length (λ (w : WorkerTerm). w.room) old.workers.items new.workers.items workers.0 in
    let m = same-length (λ (p : PageTerm). p.room) old.batch.items new.batch.items batch in
    record {
      size = size;
      batch = m;
      room = record {
        some = omega (arith, h.some, size);
        few = omega (arith, h.few, size);
        some_workers = omega (arith, h.some_workers, n);
        few_workers = omega (arith, h.few_workers, n);
        few_pages = omega (arith, h.few_pages, m);
        page = omega (arith, h.page, page, size);
        batch = subst (λ s. All (λ (p : PageTerm). s ≤ p.room) new.batch.items) (sym size)
            (kept (λ (p : PageTerm). p.room) old.size old.batch.items new.batch.items batch h.batch);
        hits = omega (arith, h.hits, hits, size);
        batch_hits = subst (λ k. k * MOST_RECORDS ≤ vec_capacity new.hits) (sym m)
            (subst (λ k. length old.batch.items * MOST_RECORDS ≤ k) (sym hits) h.batch_hits);
        workers =
            subst (λ k. All (λ (w : WorkerTerm). div_ceil new.size k ≤ w.room) new.workers.items) (sym n)
            (subst (λ s. All (λ (w : WorkerTerm). div_ceil s (length old.workers.items) ≤ w.room) new.workers.items)
            (sym size) (kept (λ (w : WorkerTerm). w.room) (div_ceil old.size (length old.workers.items))
            old.workers.items new.workers.items workers.0 h.workers));
        shares =
            subst (λ k. All (λ (w : WorkerTerm). 2 * div_ceil (length new.batch.items * MOST_RECORDS) k ≤ w.share)
            new.workers.items) (sym n)
            (subst (λ b. All (λ (w : WorkerTerm). 2 * div_ceil (b * MOST_RECORDS) (length old.workers.items) ≤ w.share)
            new.workers.items) (sym m) (kept (λ (w : WorkerTerm). w.share)
            (2 * div_ceil (length old.batch.items * MOST_RECORDS) (length old.workers.items))
            old.workers.items new.workers.items workers.1 h.shares));
      };
    }

-- pages between others in the place of some with as much room
pub rooms-between : (first old new behind : List PageTerm) → page_rooms new ≡ page_rooms old
    → page_rooms (first ++ (new ++ behind)) ≡ page_rooms (first ++ (old ++ behind))
rooms-between [] old new behind e =
    map-append (λ (p : PageTerm). p.room) new behind ∙ ap (λ l. l ++ page_rooms behind) e
    ∙ sym (map-append (λ (p : PageTerm). p.room) old behind)
rooms-between (p ∷ ps) old new behind e = ap (λ l. p.room ∷ l) (rooms-between ps old new behind e)
