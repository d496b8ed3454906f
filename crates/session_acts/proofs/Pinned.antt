-- Pins by the calls of a run so far, and the versions that lines show: each was told before.
use Rattle.std.proofs.Common.{◌≡◌, ◌++◌, ◌∙◌, ap, append-nil, append_assoc, Bool, false, inl, inr, length, List, [], ◌∷◌, map, ne_eqb, refl, subst, sym, true, ℕ}
use Rattle.chem_core.specs.Molecule.{Molecule}
use Rattle.shell_lang.specs.Reply as line
use Rattle.similar_find.specs.Board.{Offer}
use Rattle.store_machine.specs.Searches.{At, End, KeepsPin, Place}
use Rattle.store_machine.specs.declared.machine.Change.{Change}
use Rattle.store_machine.specs.declared.machine.Event.{Event}
use Rattle.store_machine.specs.declared.machine.Event.TheVariants as events
use Rattle.store_machine.specs.declared.machine.Reply.{Reply}
use Rattle.store_machine.specs.declared.machine.Reply.TheVariants as replies
use Rattle.store_machine.specs.Told.{IsTold}
use Rattle.session_acts.specs.Acts.{Act, Advances, AllSame, AllSimilar, Asks, Closed, Current, Does, DoesAll, DoesWatch, Ended, FoundData, HitsLost, IsCutShort, IsNew, Lines, ListedSame, ListedSimilar, Lists, ListsSame, ListsSimilar, Lost, NewLost, NotNew, Opened, Paged, Refilled, RegisteredEach, RegisteredNew, RegistersNew, SameLost, Says, Searched, SimilarLost, TakenOut, Turned, WatchLost, WatchedAll, after_page, like_line, page_end}
use Rattle.session_acts.specs.Cursors.{Calls, Cursor}
use Rattle.dialogue.specs.Dialogue.{AreExchanged, calls_in}
use Rattle.session_acts.specs.Dialogue.{IsShown, IsShownIn}
use Rattle.session_acts.specs.Talking.{Exchange}
use Rattle.session_acts.specs.Lookups.{LooksUp}
use Rattle.session_acts.specs.Pins.{AreApart, AreHeld, HeldAfter, HeldBy, IsApart, effect}
use Rattle.session_acts.specs.Watching.{Standing, Watched, rebuilt_watch}
use Rattle.session_acts.proofs.Sized.{sized}
use Rattle.session_acts.proofs.ActPins.{all_held}
use Rattle.session_acts.proofs.Acts.{quiet_ask, quiet_data, quiet_each, quiet_note, told_left, told_right}
use Rattle.session_acts.proofs.Held.{after-append, after-under, apart-parts, held-at}
use Rattle.session_acts.proofs.Passing.{keeps-append}

-- the pin was taken and not given back
pub record IsPinned (calls : Calls) (slot version : ℕ) : Type 0 where
  pub before : Calls
  pub pages : Calls
  pub own : calls ≡ before ++ (events.Pin, replies.Pinned slot version) ∷ pages
  pub keeps : KeepsPin slot pages

-- no pin is taken in the slot of another
abbrev pub AreFree : Calls → Type 0
AreFree whole = (before pages later : Calls) (slot v v' : ℕ)
    → whole ≡ before ++ (events.Pin, replies.Pinned slot v) ∷ (pages ++ (events.Pin, replies.Pinned slot v') ∷ later)
    → KeepsPin slot pages → ⊥

pub new_slot : {whole calls : Calls} {slot v slot' : ℕ} (later : Calls) (v' : ℕ) → AreFree whole
    → whole ≡ calls ++ (events.Pin, replies.Pinned slot' v') ∷ later → IsPinned calls slot v → ¬ (slot ≡ slot')
new_slot {whole} {calls} {slot} {v} {slot'} later v' free w p e =
    let at : whole ≡ calls ++ (events.Pin, replies.Pinned slot v') ∷ later =
    subst (λ (k : ℕ). whole ≡ calls ++ (events.Pin, replies.Pinned k v') ∷ later) (sym e) w in
    free p.before p.pages later slot v v'
    (at ∙ (ap (λ (l : Calls). l ++ (events.Pin, replies.Pinned slot v') ∷ later) p.own
    ∙ append_assoc p.before ((events.Pin, replies.Pinned slot v) ∷ p.pages)
    ((events.Pin, replies.Pinned slot v') ∷ later))) p.keeps

pinned_more : (calls its : Calls) (slot version : ℕ) → KeepsPin slot its → IsPinned calls slot version
    → IsPinned (calls ++ its) slot version
pinned_more calls its slot version k p = record {
  before = p.before;
  pages = p.pages ++ its;
  own = ap (λ (l : Calls). l ++ its) p.own
      ∙ append_assoc p.before ((events.Pin, replies.Pinned slot version) ∷ p.pages) its;
  keeps = keeps-append slot p.pages its p.keeps k;
}

-- what is held after calls was taken by them and not given back
pinned_by : (calls : Calls) (event : Event) (reply : Reply) (s v : ℕ) → HeldBy (IsPinned calls) (effect event reply) s v
    → IsPinned (calls ++ (event, reply) ∷ []) s v
pinned_by calls events.Pin (replies.Pinned slot version) s v (inl p) = pinned_more calls _ s v (refl, tt) p
pinned_by calls events.Pin (replies.Pinned slot version) s v (inr e) =
    record { before = calls; pages = []; own = same; keeps = tt } where
      same : calls ++ (events.Pin, replies.Pinned slot version) ∷ []
          ≡ calls ++ (events.Pin, replies.Pinned s v) ∷ []
      same = rw (e.0, e.1) refl
pinned_by calls events.Pin _ s v p = pinned_more calls _ s v (refl, tt) p
pinned_by calls (events.Unpin slot) reply s v p = pinned_more calls _ s v (ne_eqb slot s p.1, tt) p.0
pinned_by calls _ reply s v p = pinned_more calls _ s v (refl, tt) p

pinned_after : (calls its : Calls) (s v : ℕ) → HeldAfter (IsPinned calls) its s v → IsPinned (calls ++ its) s v
pinned_after calls [] s v h = subst (λ (l : Calls). IsPinned l s v) (sym (append-nil calls)) h
pinned_after calls (c ∷ cs) s v h =
    subst (λ (l : Calls). IsPinned l s v) (append_assoc calls (c ∷ []) cs) (pinned_after (calls ++ c ∷ []) cs s v
    (after-under (HeldBy (IsPinned calls) (effect c.0 c.1)) (IsPinned (calls ++ c ∷ [])) cs (pinned_by calls c.0 c.1)
    s v h))

abbrev pub none : ℕ → ℕ → Type 0
none slot version = ⊥

pub pinned : (calls : Calls) (s v : ℕ) → HeldAfter none calls s v → IsPinned calls s v
pinned calls s v h = pinned_after [] calls s v (after-under none (IsPinned []) calls (λ t w k. absurd k) s v h)

call_apart : {whole : Calls} → AreFree whole → (calls cs : Calls) (event : Event) (reply : Reply)
    → whole ≡ calls ++ (event, reply) ∷ cs → IsApart (HeldAfter none calls) (effect event reply)
call_apart free calls cs events.Pin (replies.Pinned slot version) w =
    λ other h. new_slot cs version free w (pinned calls slot other h) refl
call_apart free calls cs events.Pin _ w = tt
call_apart free calls cs (events.Unpin slot) reply w = tt
call_apart free calls cs _ reply w = tt

pub are_apart : {whole : Calls} → AreFree whole → (calls its later : Calls) → whole ≡ calls ++ (its ++ later)
    → AreApart (HeldAfter none calls) its
are_apart free calls [] later w = tt
are_apart free calls (c ∷ cs) later w = (
  call_apart free calls (cs ++ later) c.0 c.1 w,
  subst (λ (f : ℕ → ℕ → Type 0). AreApart f cs) (after-append none calls (c ∷ []))
      (are_apart free (calls ++ c ∷ []) cs later (w ∙ sym (append_assoc calls (c ∷ []) (cs ++ later)))),
)

-- Versions that were told
pinned_told : (calls : Calls) (slot version : ℕ) → IsPinned calls slot version → IsTold calls version
pinned_told calls slot version p =
    subst (λ (l : Calls). IsTold l version) (sym p.own)
    (told_right p.before ((events.Pin, replies.Pinned slot version) ∷ p.pages) version (inl refl))

-- a version that a cursor's lines show is its own
end_shown : (last : Bool) (c : Cursor) (v : ℕ) → IsShownIn (page_end last c ∷ []) v → v ≡ c.version
end_shown true c v (inl e) = e
end_shown true c v (inr k) = absurd k
end_shown false c v (inl k) = absurd k
end_shown false c v (inr k) = absurd k

hits_shown : (hits : List ℕ) (lines : Lines) (v : ℕ) → IsShownIn (map line.Hit hits ++ lines) v → IsShownIn lines v
hits_shown [] lines v k = k
hits_shown (h ∷ hs) lines v (inl k) = absurd k
hits_shown (h ∷ hs) lines v (inr k) = hits_shown hs lines v k

nothing_shown : (v : ℕ) → ¬ IsShownIn (line.MemoryFault ∷ []) v
nothing_shown v (inl n) = n
nothing_shown v (inr n) = n

moved_shown : {size : ℕ} {c c' : Cursor} {calls : Calls} {lines : Lines} (v : ℕ) → Advances size c calls lines c'
    → IsShownIn lines v → v ≡ c.version
moved_shown {c = c} v (Ended at) k = end_shown true c v k
moved_shown {c = c} v (Paged from records last hits at m) k =
    end_shown last (after_page c from records last hits) v (hits_shown hits _ v k)
moved_shown v (Lost from at) k = absurd (nothing_shown v k)

cut_shown : (hits : List ℕ) (lines : Lines) (v : ℕ) → IsCutShort hits lines → ¬ IsShownIn lines v
cut_shown hits lines v c k =
    nothing_shown v (hits_shown c.0 (line.MemoryFault ∷ []) v (subst (λ (l : Lines). IsShownIn l v) c.3 k))

lists_shown : (place : Place) (version tried : ℕ) (hits : List ℕ) (lines : Lines) (v : ℕ)
    → Lists place version tried hits lines → IsShownIn lines v → v ≡ version
lists_shown End version tried hits lines v (inl e) k =
    one (hits_shown hits (line.End version tried (length hits) ∷ []) v (subst (λ (l : Lines). IsShownIn l v) e k)) where
      one : IsShownIn (line.End version tried (length hits) ∷ []) v → v ≡ version
      one (inl n) = n
      one (inr n) = absurd n
lists_shown End version tried hits lines v (inr c) k = absurd (cut_shown hits lines v c k)
lists_shown (At from) version tried hits lines v c k = absurd (cut_shown hits lines v c k)

-- a version that a lookup's lines show was told
likes_shown : (likes : List Offer) (lines : Lines) (v : ℕ) → IsShownIn (map like_line likes ++ lines) v → IsShownIn lines v
likes_shown [] lines v k = k
likes_shown (x ∷ xs) lines v (inl k) = absurd k
likes_shown (x ∷ xs) lines v (inr k) = likes_shown xs lines v k

looked_told : {size : ℕ} {want : List Bool} {place : Place} {calls : Calls} (l : LooksUp size want place calls)
    (version v : ℕ) → version ≡ l.version → v ≡ version → IsTold calls v
looked_told l version v e f = subst (λ (cs : Calls). IsTold cs v) (sym l.made) (inl (f ∙ e))

same_shown : {size : ℕ} {m : Molecule} {print : List Bool} {calls : Calls} {lines : Lines} (v : ℕ)
    → ListsSame size m print calls lines → IsShownIn lines v → IsTold calls v
same_shown v (AllSame calls list found) k =
    elim (hits_shown list.hits.items _ v k) [
      | inl e ↦ looked_told found.lookup list.version v found.is.version_is e
      | inr n ↦ absurd n
    ]
same_shown v (SameLost calls place lookup) k = absurd (nothing_shown v k)

new_shown : {size : ℕ} {change : Change} {m : Molecule} {print : List Bool} {calls : Calls} {lines : Lines} (v : ℕ)
    → RegistersNew size change m print calls lines → IsShownIn lines v → IsTold calls v
new_shown v (NotNew calls list id more found first) (inl n) = absurd n
new_shown v (NotNew calls list id more found first) (inr n) = absurd n
new_shown {change = change} v (IsNew calls list reply said found none is) k =
    told_right calls _ v ((quiet_ask (events.Commit change) reply said is).shows v k)
new_shown v (NewLost calls place lookup) k = absurd (nothing_shown v k)

similar_shown : {size p q k : ℕ} {print : List Bool} {calls : Calls} {lines : Lines} (v : ℕ)
    → ListsSimilar size p q k print calls lines → IsShownIn lines v → IsTold calls v
similar_shown v (AllSimilar calls list found) k =
    elim (likes_shown list.best.hits _ v k) [
      | inl e ↦ looked_told found.lookup list.version v found.is.version_is e
      | inr n ↦ absurd n
    ]
similar_shown v (SimilarLost calls want place none lookup) k = absurd (nothing_shown v k)

-- the versions that an act's lines show were told
shown_then : {size : ℕ} {cursors cursors' : List Cursor} {act : Act} (calls : Calls) {its : Calls} {lines : Lines} (v : ℕ)
    → Does size cursors act its lines cursors' → AreHeld (HeldAfter none calls) cursors → IsShownIn lines v
    → IsTold (calls ++ its) v
shown_then calls v (Says note) h k = told_right calls [] v ((quiet_note note).shows v k)
shown_then calls v (Asks event reply said is) h k = told_right calls _ v ((quiet_ask event reply said is).shows v k)
shown_then calls v (Searched pattern its lines s) h k =
    told_right calls its v
    (subst (λ (l : Calls). IsTold l v) (sym s.made)
    (inl (lists_shown s.place s.version s.tried s.hits lines v s.lists k)))
shown_then calls v (ListedSame m print its lines s) h k = told_right calls its v (same_shown v s k)
shown_then calls v (RegisteredNew change m print its lines s) h k = told_right calls its v (new_shown v s k)
shown_then calls v (ListedSimilar p q n print its lines s) h k = told_right calls its v (similar_shown v s k)
shown_then calls v (RegisteredEach id records its lines each) h k =
    told_right calls its v ((quiet_each id 0 records its lines each).shows v k)
shown_then calls v (FoundData id name reply said is) h k =
    told_right calls _ v ((quiet_data id name reply said is).shows v k)
shown_then calls v (Opened name pattern want slot version new need) h (inl n) = told_right calls _ v (inl n)
shown_then calls v (Opened name pattern want slot version new need) h (inr n) = absurd n
shown_then calls v (Turned name before after c c' its lines named advances) h k =
    let p = held-at (HeldAfter none calls) before after c (subst (AreHeld (HeldAfter none calls)) named.place h) in
    told_left calls its v (subst (IsTold calls) (sym (moved_shown v advances k))
    (pinned_told calls c.slot c.version (pinned calls c.slot c.version p)))
shown_then calls v (Closed name before after c named) h (inl n) = absurd n
shown_then calls v (Closed name before after c named) h (inr n) = absurd n

-- those that an act on watches shows
end_watched : (hits : List ℕ) (version count rebuilt v : ℕ)
    → IsShownIn (map line.Hit hits ++ line.EndWatched version count rebuilt ∷ []) v → v ≡ version
end_watched hits version count rebuilt v k =
    one (hits_shown hits (line.EndWatched version count rebuilt ∷ []) v k) where
      one : IsShownIn (line.EndWatched version count rebuilt ∷ []) v → v ≡ version
      one (inl n) = n
      one (inr n) = absurd n

watch_shown : {size : ℕ} {w w' : List Watched} {act : Act} {its : Calls} {lines : Lines} (v : ℕ)
    → DoesWatch size w act its lines w' → IsShownIn lines v → IsTold its v
watch_shown v (WatchedAll name pattern calls version hits new few found) (inl e) =
    looked_told found.lookup version v found.version_is e
watch_shown v (WatchedAll name pattern calls version hits new few found) (inr n) = absurd n
watch_shown v (WatchLost name pattern calls want place new few need lookup) k = absurd (nothing_shown v k)
watch_shown v (Current name w slot named) k = inl (end_watched w.hits w.version (length w.hits) w.rebuilt v k)
watch_shown v (Refilled name w calls version hits named other found) k =
    looked_told found.lookup version v found.version_is
    (end_watched hits version (length hits) (rebuilt_watch version hits w).rebuilt v k)
watch_shown v (HitsLost name w calls want place named need lookup anew) k = absurd (nothing_shown v k)
watch_shown v (TakenOut name w named) (inl n) = absurd n
watch_shown v (TakenOut name w named) (inr n) = absurd n

shown_all : {size : ℕ} {standing standing' : Standing} {act : Act} (calls : Calls) {its : Calls} {lines : Lines} (v : ℕ)
    → DoesAll size standing act its lines standing' → AreHeld (HeldAfter none calls) standing.cursors
    → IsShownIn lines v → IsTold (calls ++ its) v
shown_all calls v (inl d) h k = shown_then calls v d.0 h k
shown_all calls {its} v (inr d) h k = told_right calls its v (watch_shown v d.0 k)

-- and those that a dialogue shows
pub dialogue_shown : (size : ℕ) (xs : List Exchange) (calls : Calls) (standing standing' : Standing)
    → AreExchanged (sized size) standing xs standing' → AreApart (HeldAfter none calls) (calls_in (sized size) xs)
    → AreHeld (HeldAfter none calls) standing.cursors → (v : ℕ) → IsShown xs v
    → IsTold (calls ++ calls_in (sized size) xs) v
dialogue_shown size [] calls standing standing' d apart h v k = absurd k
dialogue_shown size (x ∷ xs) calls standing standing' d apart h v k =
    let more = calls_in (sized size) xs in
    let held : ℕ → ℕ → Type 0 = HeldAfter none calls in
    let parts = apart-parts held x.calls more apart in
    let same : HeldAfter held x.calls ≡ HeldAfter none (calls ++ x.calls) = sym (after-append none calls x.calls) in
    subst (λ (l : Calls). IsTold l v) (append_assoc calls x.calls more) (elim k [
      | inl now ↦ told_left (calls ++ x.calls) more v (shown_all calls v d.1.does h now)
      | inr later ↦ dialogue_shown size xs (calls ++ x.calls) d.0 standing' d.2
          (subst (λ (f : ℕ → ℕ → Type 0). AreApart f more) same parts.1)
          (subst (λ (f : ℕ → ℕ → Type 0). AreHeld f d.0.cursors) same (all_held held d.1.does parts.0 h)) v later
    ])

-- the calls of a dialogue behind calls
pub next_calls : (whole calls own more later : Calls) → whole ≡ calls ++ ((own ++ more) ++ later)
    → (whole ≡ calls ++ (own ++ (more ++ later))) × (whole ≡ (calls ++ own) ++ (more ++ later))
next_calls whole calls own more later w =
    let first : whole ≡ calls ++ (own ++ (more ++ later)) =
    w ∙ ap (λ (l : Calls). calls ++ l) (append_assoc own more later) in
    (first, first ∙ sym (append_assoc calls own (more ++ later)))
