-- What `next` answers, by the page of its search.
use Rattle.std.proofs.Common.{◌≡◌, ◌⊎◌, ◌++◌, ◌+◌, ◌∙◌, ap, append-nil, arith, Bool, Err, IfErr, inl, inr, length, List, [], ◌∷◌, map, Ok, OnOk, refl, Result, subst, sym, true, ℕ}
use Rattle.par_search.specs.Searches.{SearchTerm, place_after}
use Rattle.par_search.specs.declared.fault.SearchFault.{SearchFault}
use Rattle.par_search.specs.declared.fault.SearchFault.TheVariants as faults
use Rattle.shell_lang.specs.Reply as line
use Rattle.shell_lang.specs.Reply.{reply_line}
use Rattle.smarts_parse.specs.Pattern.{pattern_of}
use Rattle.store_machine.specs.Searches.{At}
use Rattle.store_machine.specs.declared.machine.Event.TheVariants as events
use Rattle.store_machine.specs.declared.machine.Reply.{Reply}
use Rattle.store_machine.specs.declared.machine.Reply.TheVariants as replies
use Rattle.session_acts.specs.Acts.{Ended, Lines, Lost, Paged, page_end}
use Rattle.session_acts.specs.Cursors.{Calls, Cursor}
use Rattle.session_run.specs.Made.{Answered, Said, Tells, Unsaid}
use Rattle.session_run.specs.Walks.{AreWritten, Counts, CursorAnswer, EndsPage, IsNoPage, IsPage, Pages, cursor_of}
use Rattle.session_run.specs.declared.cursors.Cursor as rust
use Rattle.session_run.specs.declared.listing.Shown.{Shown}
use Rattle.dialogue.specs.declared.end.Stop.{Stop}
use Rattle.dialogue.specs.declared.end.Stop.TheVariants as stops
use Rattle.session_run.proofs.Ending.{text_more}
use Rattle.session_run.proofs.Lines.{broken, said}

-- a cursor, by its search and its counts
abbrev with_search : List ℕ → SearchTerm → ℕ → ℕ → Cursor
with_search name s tried hits = record {
  name = name;
  pattern = pattern_of s.pattern;
  want = s.want;
  slot = s.slot;
  version = s.version;
  place = s.place;
  tried = tried;
  hits = hits;
}

same_cursor : (name name' : List ℕ) (s s' : SearchTerm) (tried tried' hits hits' : ℕ)
    → name' ≡ name → s' ≡ s → tried' ≡ tried → hits' ≡ hits
    → with_search name' s' tried' hits' ≡ with_search name s tried hits
same_cursor name name' s s' tried tried' hits hits' a b d e = rw (a, b, d, e) refl

-- the call for a page from an identifier on
abbrev fetches : SearchTerm → ℕ → Reply → Calls
fetches s from reply = (events.Fetch s.slot s.want from s.size, reply) ∷ []

-- the lines of a page, and its end
abbrev page_lines : List ℕ → Bool → Cursor → Lines
page_lines hits last c = map line.Hit hits ++ page_end last c ∷ []

module _ (Made : Calls → Type 0) (IsWorn : Type 0) (c c' : rust.Cursor) (out out' out'' : List ℕ)
    (name : c'.name.items ≡ c.name.items) where
  abbrev Is : Calls → Lines → Cursor → Type 0
  Is calls lines after = CursorAnswer c.walk.search.size (cursor_of c) calls lines after

  -- the cursor is where it was
  stays : c'.walk.search ≡ c.walk.search → c'.walk.tried ≡ c.walk.tried → c'.walk.hits ≡ c.walk.hits
      → cursor_of c' ≡ cursor_of c
  stays s t h =
      same_cursor c.name.items c'.name.items c.walk.search c'.walk.search c.walk.tried c'.walk.tried c.walk.hits
      c'.walk.hits name s t h

  -- a page whose lines are these
  turned : (shown : Shown) (p : IsPage Made c.walk.search c'.walk.search out out' shown)
      → c'.walk.tried ≡ c.walk.tried + shown.tried → c'.walk.hits ≡ c.walk.hits + shown.hits
      → Is (fetches c.walk.search p.from (replies.Page p.records shown.last))
      (page_lines p.hits shown.last (cursor_of c')) (cursor_of c')
  turned shown p t h =
      let next : SearchTerm = record c.walk.search { place = place_after p.from p.records shown.last } in
      let calls = fetches c.walk.search p.from (replies.Page p.records shown.last) in
      subst (λ (x : Cursor). Is calls (page_lines p.hits shown.last x) x)
      (sym (same_cursor c.name.items c'.name.items next c'.walk.search (c.walk.tried + length p.records)
      c'.walk.tried (c.walk.hits + length p.hits) c'.walk.hits name p.moved
      (t ∙ ap (λ (n : ℕ). c.walk.tried + n) p.tried) (h ∙ ap (λ (n : ℕ). c.walk.hits + n) p.count)))
      (inr (Paged p.from p.records shown.last p.hits p.place p.matched))

  -- the end alone
  ended : (shown : Shown) (p : IsNoPage Made c.walk.search c'.walk.search out out' shown)
      → c'.walk.tried ≡ c.walk.tried + shown.tried → c'.walk.hits ≡ c.walk.hits + shown.hits
      → Is [] (page_end shown.last (cursor_of c') ∷ []) (cursor_of c')
  ended shown p t h =
      let same = stays p.same (omega (arith, t, p.tried)) (omega (arith, h, p.count)) in
      subst (λ (b : Bool). Is [] (page_end b (cursor_of c') ∷ []) (cursor_of c')) (sym p.last)
      (subst (λ (x : Cursor). Is [] (page_end true x ∷ []) x) (sym same) (inr (Ended p.place)))

  -- a page was shown, and its end was said
  shown_ended : (shown : Shown) (result : Result (Unit {0}) Stop)
      → IsPage Made c.walk.search c'.walk.search out out' shown
      ⊎ IsNoPage Made c.walk.search c'.walk.search out out' shown
      → c'.walk.tried ≡ c.walk.tried + shown.tried → c'.walk.hits ≡ c.walk.hits + shown.hits
      → EndsPage (cursor_of c') (Ok shown) out' out'' result → Answered Made IsWorn Is out out'' (cursor_of c') result
  shown_ended shown (Ok u) (inl p) t h end =
      Said u (record { calls = _; lines = _; made = p.made; is = turned shown p t h })
      (text_more out out' out'' p.hits (page_end shown.last (cursor_of c'))
      (subst (λ (b : Bool). AreWritten b p.hits out out') end.0 p.written) end.1)
  shown_ended shown (Ok u) (inr p) t h end =
      Said u (record { calls = _; lines = _; made = p.made; is = ended shown p t h })
      (text_more out out' out'' [] (page_end shown.last (cursor_of c')) (p.unwritten ∙ sym (append-nil out)) end.1)
  shown_ended shown (Err stops.NoMemory) (inl p) t h end =
      Unsaid (record { calls = _; lines = _; made = p.made; is = turned shown p t h })
  shown_ended shown (Err stops.NoMemory) (inr p) t h end =
      Unsaid (record { calls = _; lines = _; made = p.made; is = ended shown p t h })
  shown_ended shown (Err stops.Worn) p t h end = absurd end

  -- no memory was found
  lost_by : (calls : Calls) → cursor_of c' ≡ cursor_of c
      → (calls ≡ [])
      ⊎ ((from : ℕ) × (c.walk.search.place ≡ At from) × (calls ≡ fetches c.walk.search from replies.NoMemory))
      → Is calls (line.MemoryFault ∷ []) (cursor_of c')
  lost_by calls same (inl e) = inl (e, refl, same)
  lost_by calls same (inr e) =
      subst (λ (l : Calls). Is l (line.MemoryFault ∷ []) (cursor_of c')) (sym e.2)
      (subst (λ (x : Cursor). Is (fetches c.walk.search e.0 replies.NoMemory) (line.MemoryFault ∷ []) x) (sym same)
      (inr (Lost e.0 e.1)))

  -- a page, by what it gave and how its end was said
  pub next_answered : (page : Result Shown SearchFault) (result : Result (Unit {0}) Stop)
      → Pages Made IsWorn c.walk.search c'.walk.search out out' page → Counts c.walk c'.walk page
      → EndsPage (cursor_of c') page out' out'' result
      → Answered Made IsWorn (CursorAnswer c.walk.search.size (cursor_of c)) out out'' (cursor_of c') result
  next_answered (Ok shown) result p n end = shown_ended shown result p n.0 n.1 end
  next_answered (Err faults.NoMemory) result p n end =
      said p.calls line.MemoryFault result p.made (lost_by p.calls (stays p.same n.0 n.1) p.by)
      (subst (λ (o : List ℕ). Tells line.MemoryFault o out'' result) p.unwritten end)
  next_answered (Err faults.Pins) result p n end = absurd p
  next_answered (Err faults.Worn) result p n end =
      broken [] (line.MemoryFault ∷ []) (cursor_of c) result p.0 p.3 (inl (refl, refl, refl)) end

-- the end of a page that was shown, by whether its line was written
pub end_said : (c : Cursor) (shown : Shown) (out out' : List ℕ) (result : Result (Unit {0}) Stop)
    → OnOk result ((shown.whole ≡ true) × (out' ≡ out ++ reply_line (page_end shown.last c)))
    → IfErr result (λ stop. stop ≡ stops.NoMemory) → EndsPage c (Ok shown) out out' result
end_said c shown out out' (Ok _) ok err = ok
end_said c shown out out' (Err stops.NoMemory) ok err = tt
end_said c shown out out' (Err stops.Worn) ok err = apart err where
  apart : stops.Worn ≡ stops.NoMemory → ⊥
  apart e = cc
