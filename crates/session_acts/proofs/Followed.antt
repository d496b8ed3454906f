-- One cursor followed through a dialogue, from its opening on: what it listed, whatever is asked between its pages.
use Rattle.std.proofs.Common.{◌≡◌, ◌≢◌, ◌⊎◌, ◌++◌, ◌∙◌, ◌+◌, ap, ap₂, append-nil, append_assoc, arith, Bool, Contains, Err, inl, inr, List, [], ◌∷◌, ne_eqb, Ok, refl, Result, subst, sym, ℕ}
use Rattle.std.proofs.lemmas.List.Elements.{All-head, All-tail}
use Rattle.shell_lang.specs.Command as command
use Rattle.shell_lang.specs.Command.{Command, IsLine}
use Rattle.shell_lang.specs.Reply as line
use Rattle.shell_lang.specs.declared.command.LineRefusal.{LineRefusal}
use Rattle.smarts_parse.specs.Pattern.{PatternTerm}
use Rattle.store_machine.specs.Searches.{At, Place}
use Rattle.store_machine.specs.Structures.{IsNeedOf}
use Rattle.store_machine.specs.declared.machine.Event.TheVariants as events
use Rattle.store_machine.specs.declared.machine.Reply.TheVariants as replies
use Rattle.session_acts.specs.Acts.{Act, Advances, Allows, Asks, Close, Closed, Does, DoesAll, FoundData, Lines, ListedSame, ListedSimilar, Opened, RegisteredEach, RegisteredNew, RequestAllows, Says, Searched, Searches, Turn, Turned, new_cursor}
use Rattle.session_acts.specs.Cursors.{Calls, Cursor, IsNoName}
use Rattle.dialogue.specs.Dialogue.{AreExchanged, calls_in}
use Rattle.session_acts.specs.Dialogue.{AreListed, AreTurned, IsCommand, StaysOpen, hits_in}
use Rattle.session_acts.specs.Talking.{Exchange}
use Rattle.session_acts.specs.Pins.{AreHeld, HeldAfter}
use Rattle.session_acts.specs.Requests.{Request, request_of}
use Rattle.session_acts.specs.Watching.{Standing}
use Rattle.session_acts.proofs.Sized.{sized}
use Rattle.session_acts.proofs.Acts.{OneReading, fits, quiet_ask, quiet_data, quiet_each, quiet_note}
use Rattle.session_acts.proofs.LookedUp.{IsLookup, looked_first, looked_pass, new_looks, same_looks, similar_looks}
use Rattle.session_acts.proofs.Passing.{IsOpen, IsTurn, PassBy, advances_fetch, advances_same, fetches_pass, open_advances, open_passes, passes-append}
use Rattle.session_acts.proofs.WatchActs.{next_apart, watch_is, watch_looks}
use Rattle.session_acts.proofs.Pinned.{AreFree, IsPinned, new_slot, next_calls, none, pinned}

-- the command of a request that turns a page or closes a cursor
pub turn_command : (standing : Standing) (request : Request) (own : List ℕ) → RequestAllows standing request (Turn own)
    → IsCommand request (command.Next own)
turn_command standing request own (inl a) = cc
turn_command standing request own (inr (short, text, e, read, line, a)) = by read line a where
  by : (read : Result Command LineRefusal) → IsLine text read → Allows standing request.more read (Turn own)
      → IsCommand request (command.Next own)
  by (Err refusal) line a = cc
  by (Ok command.Empty) line a = cc
  by (Ok (command.RegisterSd id count)) line a = cc
  by (Ok (command.Next name)) line a =
      (text, e, subst (λ (n : List ℕ). IsLine text (Ok (command.Next n))) (sym a) line)
  by (Ok _) line a = absurd a

close_command : (standing : Standing) (request : Request) (own : List ℕ) → RequestAllows standing request (Close own)
    → IsCommand request (command.Close own)
close_command standing request own (inl a) = cc
close_command standing request own (inr (short, text, e, read, line, a)) = by read line a where
  by : (read : Result Command LineRefusal) → IsLine text read → Allows standing request.more read (Close own)
      → IsCommand request (command.Close own)
  by (Err refusal) line a = cc
  by (Ok command.Empty) line a = cc
  by (Ok (command.RegisterSd id count)) line a = cc
  by (Ok (command.Close name)) line a =
      (text, e, subst (λ (n : List ℕ). IsLine text (Ok (command.Close n))) (sym a) line)
  by (Ok _) line a = absurd a

-- Cursors of other names in other slots
abbrev pub AreOthers : List ℕ → ℕ → List Cursor → Type 0
AreOthers name slot [] = Unit {0}
AreOthers name slot (d ∷ ds) = (d.name ≢ name) × (d.slot ≢ slot) × AreOthers name slot ds

pub others_both : (name : List ℕ) (slot : ℕ) (xs ys : List Cursor) → AreOthers name slot xs → AreOthers name slot ys
    → AreOthers name slot (xs ++ ys)
others_both name slot [] ys h k = k
others_both name slot (x ∷ xs) ys h k = (h.0, h.1, others_both name slot xs ys h.2 k)

others_left : (name : List ℕ) (slot : ℕ) (xs ys : List Cursor) → AreOthers name slot (xs ++ ys) → AreOthers name slot xs
others_left name slot [] ys h = tt
others_left name slot (x ∷ xs) ys h = (h.0, h.1, others_left name slot xs ys h.2)

others_right : (name : List ℕ) (slot : ℕ) (xs ys : List Cursor) → AreOthers name slot (xs ++ ys)
    → AreOthers name slot ys
others_right name slot [] ys h = h
others_right name slot (x ∷ xs) ys h = others_right name slot xs ys h.2

others_new : (a : ℕ → ℕ → Type 0) (name : List ℕ) (slot : ℕ) (cs : List Cursor) → AreHeld a cs → IsNoName cs name
    → ((s v : ℕ) → a s v → s ≢ slot) → AreOthers name slot cs
others_new a name slot [] h n f = tt
others_new a name slot (c ∷ cs) h n f = (
  All-head (λ (d : Cursor). d.name ≢ name) c cs n,
  f c.slot c.version h.0,
  others_new a name slot cs h.2 (All-tail (λ (d : Cursor). d.name ≢ name) c cs n) f,
)

-- the cursor stands elsewhere than another, which may move or be closed
pub record IsElsewhere (name : List ℕ) (slot : ℕ) (c : Cursor) (before : List Cursor) (d : Cursor)
    (after : List Cursor) : Type 0 where
  pub name_apart : d.name ≢ name
  pub slot_apart : d.slot ≢ slot
  pub again : (ds : List Cursor) → AreOthers name slot ds
      → (front back : List Cursor) × (before ++ (ds ++ after) ≡ front ++ c ∷ back) × AreOthers name slot front
      × AreOthers name slot back

abbrev pub IsSamePlace : List Cursor → Cursor → List Cursor → List Cursor → Cursor → List Cursor → Type 0
IsSamePlace front c back before d after = (front ≡ before) × (c ≡ d) × (back ≡ after)

same_head : (c d : Cursor) (cs ds : List Cursor) → c ∷ cs ≡ d ∷ ds → c ≡ d
same_head c d cs ds e = cc

same_tail : (c d : Cursor) (cs ds : List Cursor) → c ∷ cs ≡ d ∷ ds → cs ≡ ds
same_tail c d cs ds e = cc

same_list : (c d : Cursor) (cs ds : List Cursor) → c ≡ d → cs ≡ ds → c ∷ cs ≡ d ∷ ds
same_list c d cs ds e f = ap₂ (λ (x : Cursor) (l : List Cursor). x ∷ l) e f

pub places : (name : List ℕ) (slot : ℕ) (front back before after : List Cursor) (c d : Cursor)
    → AreOthers name slot front → AreOthers name slot back
    → front ++ c ∷ back ≡ before ++ d ∷ after
    → IsSamePlace front c back before d after ⊎ IsElsewhere name slot c before d after
places name slot [] back [] after c d f b e = inl (refl, same_head c d back after e, same_tail c d back after e)
places name slot [] back (x ∷ xs) after c d f b e =
    let first : c ≡ x = same_head c x back (xs ++ d ∷ after) e in
    let rest : back ≡ xs ++ d ∷ after = same_tail c x back (xs ++ d ∷ after) e in
    let all : AreOthers name slot (xs ++ d ∷ after) = subst (AreOthers name slot) rest b in
    let right : AreOthers name slot (d ∷ after) = others_right name slot xs (d ∷ after) all in
    inr (record {
      name_apart = right.0;
      slot_apart = right.1;
      again = λ ds o. (
        [],
        xs ++ (ds ++ after),
        same_list x c (xs ++ (ds ++ after)) (xs ++ (ds ++ after)) (sym first) refl,
        tt,
        others_both name slot xs (ds ++ after) (others_left name slot xs (d ∷ after) all)
            (others_both name slot ds after o right.2),
      );
    })
places name slot (y ∷ ys) back [] after c d f b e =
    let first : y ≡ d = same_head y d (ys ++ c ∷ back) after e in
    let rest : ys ++ c ∷ back ≡ after = same_tail y d (ys ++ c ∷ back) after e in
    let here : AreOthers name slot (d ∷ ys) = subst (λ (z : Cursor). AreOthers name slot (z ∷ ys)) first f in
    inr (record {
      name_apart = here.0;
      slot_apart = here.1;
      again = λ ds o. (
        ds ++ ys,
        back,
        ap (λ (l : List Cursor). ds ++ l) (sym rest) ∙ sym (append_assoc ds ys (c ∷ back)),
        others_both name slot ds ys o here.2,
        b,
      );
    })
places name slot (y ∷ ys) back (x ∷ xs) after c d f b e =
    let first : y ≡ x = same_head y x (ys ++ c ∷ back) (xs ++ d ∷ after) e in
    let rest : ys ++ c ∷ back ≡ xs ++ d ∷ after = same_tail y x (ys ++ c ∷ back) (xs ++ d ∷ after) e in
    elim (places name slot ys back xs after c d f.2 b rest) [
      | inl s ↦ inl (same_list y x ys xs first s.0, s.1, s.2)
      | inr k ↦ inr (record {
        name_apart = k.name_apart;
        slot_apart = k.slot_apart;
        again = λ ds o.
            let m = k.again ds o in
            (y ∷ m.0, m.1, same_list x y (xs ++ (ds ++ after)) (m.0 ++ c ∷ m.1) (sym first) m.2, (f.0, f.1, m.3), m.4);
      })
    ]

-- The cursor of a name among the others, after these calls: with this pattern, at this version, with these hits so far
pub record Follows (size : ℕ) (calls : Calls) (cursors : List Cursor) (name : List ℕ) (pattern : PatternTerm) (version : ℕ)
    (hits : List ℕ) : Type 0 where
  pub front : List Cursor
  pub back : List Cursor
  pub c : Cursor
  pub among : cursors ≡ front ++ c ∷ back
  pub named : c.name ≡ name
  pub pattern_is : c.pattern ≡ pattern
  pub version_is : c.version ≡ version
  pub left : AreOthers name c.slot front
  pub right : AreOthers name c.slot back
  pub turned : ℕ
  pub open_since : IsOpen size turned calls c hits

-- what a request adds to what the cursor of a name listed
abbrev pub Adds : List ℕ → Request → Lines → List ℕ → Type 0
Adds name request lines more =
    (IsCommand request (command.Next name) × (more ≡ hits_in lines))
    ⊎ (¬ IsCommand request (command.Next name) × (more ≡ []))

adds_none : (name : List ℕ) (request : Request) (lines : Lines) (more : List ℕ) → Adds name request lines more
    → (IsCommand request (command.Next name) → hits_in lines ≡ []) → more ≡ []
adds_none name request lines more (inl a) f = a.1 ∙ f a.0
adds_none name request lines more (inr a) f = a.1

adds_all : (name : List ℕ) (request : Request) (lines : Lines) (more : List ℕ) → Adds name request lines more
    → IsCommand request (command.Next name) → more ≡ hits_in lines
adds_all name request lines more (inl a) k = a.1
adds_all name request lines more (inr a) k = absurd (a.0 k)

-- its pin, as that of any cursor
pinned_so : {size k : ℕ} {calls : Calls} {c : Cursor} {hits : List ℕ} → IsOpen size k calls c hits
    → IsPinned calls c.slot c.version
pinned_so o = record { before = o.before; pages = o.pages; own = o.own; keeps = o.keeps }

search_passes : (size slot : ℕ) (pattern : PatternTerm) (calls : Calls) (lines : Lines)
    → (s : Searches size pattern calls lines) → ¬ (slot ≡ s.slot) → PassBy slot calls
search_passes size slot pattern calls lines s apart = subst (PassBy slot) (sym s.made) (
  refl,
  refl,
  passes-append slot s.pages ((events.Unpin s.slot, replies.Unpinned) ∷ [])
      (fetches_pass s.slot size slot s.searched.want (At 0) s.place s.pages (λ e. apart (sym e)) s.searched.fetches)
      (ne_eqb s.slot slot (λ e. apart (sym e)), refl, tt),
)

-- what a request does with the cursor of the name, by the pages so far and the place
pub record IsStep (name : List ℕ) (request : Request) (lines : Lines) (k : ℕ) (place : Place) (k' : ℕ) (place' : Place)
    : Type 0 where
  pub other : ¬ IsCommand request (command.Next name) → (k' ≡ k) × (place' ≡ place)
  pub turns : IsCommand request (command.Next name) → IsTurn lines k place k' place'

module _ (reading : OneReading) (whole : Calls) (free : AreFree whole) (size : ℕ) (name : List ℕ)
    (pattern : PatternTerm) (version : ℕ) where
  -- the cursor goes on, by a request
  abbrev pub Goes : Calls → List Cursor → Request → Lines → List ℕ → ℕ → Place → Type 0
  Goes calls cursors' request lines hits k place =
      (g : Follows size calls cursors' name pattern version hits)
      × IsStep name request lines k place g.turned g.c.place

  -- the cursor is where it was, others may have come or gone
  stays : {calls : Calls} {cursors : List Cursor} {hits : List ℕ} (its : Calls) (cursors' : List Cursor)
      (request : Request) (lines : Lines) (more : List ℕ) (f : Follows size calls cursors name pattern version hits)
      (front back : List Cursor) → cursors' ≡ front ++ f.c ∷ back → AreOthers name f.c.slot front
      → AreOthers name f.c.slot back → Adds name request lines more → hits_in lines ≡ []
      → (IsCommand request (command.Next name) → ¬ Contains lines line.More) → PassBy f.c.slot its
      → Goes (calls ++ its) cursors' request lines (hits ++ more) f.turned f.c.place
  stays {calls} {hits = hits} its cursors' request lines more f front back among left right adds none_in no_page pass = (
    record {
      front = front;
      back = back;
      c = f.c;
      among = among;
      named = f.named;
      pattern_is = f.pattern_is;
      version_is = f.version_is;
      left = left;
      right = right;
      turned = f.turned;
      open_since = subst (IsOpen size f.turned (calls ++ its) f.c)
          (sym (ap (λ (l : List ℕ). hits ++ l) (adds_none name request lines more adds (λ k. none_in))
          ∙ append-nil hits))
          (open_passes its pass f.open_since);
    },
    record {
      other = λ not. (refl, refl);
      turns = λ is. record { more = λ m. absurd (no_page is m); lost = λ e. (refl, refl) };
    },
  )

  -- the same where the request is no `next` of the name
  passed : {calls : Calls} {cursors : List Cursor} {hits : List ℕ} (its : Calls) (cursors' : List Cursor)
      (request : Request) (lines : Lines) (more : List ℕ) (f : Follows size calls cursors name pattern version hits)
      (front back : List Cursor) → cursors' ≡ front ++ f.c ∷ back → AreOthers name f.c.slot front
      → AreOthers name f.c.slot back → Adds name request lines more → ¬ IsCommand request (command.Next name)
      → PassBy f.c.slot its → Goes (calls ++ its) cursors' request lines (hits ++ more) f.turned f.c.place
  passed {calls} {hits = hits} its cursors' request lines more f front back among left right adds other pass =
      let none : more ≡ [] = adds_none name request lines more adds (λ k. absurd (other k)) in
      let g = stays its cursors' request [] [] f front back among left right (inr (other, refl)) refl
      (λ k. absurd (other k)) pass in
      subst (λ (l : List ℕ). Goes (calls ++ its) cursors' request lines (hits ++ l) f.turned f.c.place) (sym none)
      (g.0, record { other = g.1.other; turns = λ is. absurd (other is) })

  -- it goes on
  goes_on : {calls : Calls} {cursors : List Cursor} {hits : List ℕ} (its : Calls) (request : Request) (lines : Lines)
      (more : List ℕ) (f : Follows size calls cursors name pattern version hits) (c' : Cursor)
      → IsCommand request (command.Next name) → more ≡ hits_in lines → Advances size f.c its lines c'
      → Goes (calls ++ its) (f.front ++ c' ∷ f.back) request lines (hits ++ more) f.turned f.c.place
  goes_on {calls} {hits = hits} its request lines more f c' is listed advances =
      let same = advances_same advances in
      let next = open_advances advances f.open_since in (
        record {
          front = f.front;
          back = f.back;
          c = c';
          among = refl;
          named = same.name ∙ f.named;
          pattern_is = same.pattern ∙ f.pattern_is;
          version_is = same.version ∙ f.version_is;
          left = subst (λ (s : ℕ). AreOthers name s f.front) (sym same.slot) f.left;
          right = subst (λ (s : ℕ). AreOthers name s f.back) (sym same.slot) f.right;
          turned = next.0;
          open_since = subst (λ (l : List ℕ). IsOpen size next.0 (calls ++ its) c' (hits ++ l)) (sym listed) next.2;
        },
        record { other = λ not. absurd (not is); turns = λ it. next.1 },
      )

  at_name : (own : List ℕ) (xs ys : List Cursor) (c : Cursor) → IsNoName (xs ++ c ∷ ys) own → c.name ≢ own
  at_name own [] ys c n = All-head (λ (x : Cursor). x.name ≢ own) c ys n
  at_name own (x ∷ xs) ys c n = at_name own xs ys c (All-tail (λ (y : Cursor). y.name ≢ own) x (xs ++ c ∷ ys) n)

  -- a lookup
  looked : (calls its later : Calls) {cursors : List Cursor} (request : Request) (lines : Lines) (hits more : List ℕ)
      → whole ≡ calls ++ (its ++ later) → ¬ IsCommand request (command.Next name) → IsLookup size its
      → Adds name request lines more → (f : Follows size calls cursors name pattern version hits)
      → Goes (calls ++ its) cursors request lines (hits ++ more) f.turned f.c.place
  looked calls its later {cursors} request lines hits more w other l adds f =
      let first : whole ≡ calls ++ (events.Pin, replies.Pinned l.lookup.slot l.lookup.version) ∷ _ =
      w ∙ ap (λ (cs : Calls). calls ++ (cs ++ later)) (looked_first l).1 in
      passed its cursors request lines more f f.front f.back f.among f.left f.right adds other
      (looked_pass f.c.slot l (new_slot _ _ free first (pinned_so f.open_since)))

  -- after an act that does not close it
  follow : (calls its later : Calls) (standing : Standing) (cursors cursors' : List Cursor) (request : Request) (lines : Lines)
      (hits more : List ℕ) (act : Act) → whole ≡ calls ++ (its ++ later) → RequestAllows standing request act
      → Does size cursors act its lines cursors' → ¬ IsCommand request (command.Close name)
      → Adds name request lines more → (f : Follows size calls cursors name pattern version hits)
      → Goes (calls ++ its) cursors' request lines (hits ++ more) f.turned f.c.place
  follow calls its later standing cursors cursors' request lines hits more act w a (Says note) close adds f =
      let q = quiet_note note in
      stays its cursors request lines more f f.front f.back f.among f.left f.right adds q.hits
      (λ is m. q.plain line.More m) (q.pass f.c.slot)
  follow calls its later standing cursors cursors' request lines hits more act w a (Asks event reply said is) close adds f =
      let q = quiet_ask event reply said is in
      stays its cursors request lines more f f.front f.back f.among f.left f.right adds q.hits
      (λ is m. q.plain line.More m) (q.pass f.c.slot)
  follow calls its later standing cursors cursors' request lines hits more act w a (RegisteredEach id records own said each)
      close adds f =
      let q = quiet_each id 0 records its lines each in
      stays its cursors request lines more f f.front f.back f.among f.left f.right adds q.hits
      (λ is m. q.plain line.More m) (q.pass f.c.slot)
  follow calls its later standing cursors cursors' request lines hits more act w a (FoundData id named reply said is) close adds f =
      let q = quiet_data id named reply said is in
      stays its cursors request lines more f f.front f.back f.among f.left f.right adds q.hits
      (λ is m. q.plain line.More m) (q.pass f.c.slot)
  follow calls its later standing cursors cursors' request lines hits more act w a (Searched p own said s) close adds f =
      let first : whole ≡ calls ++ (events.Pin, replies.Pinned s.slot s.version) ∷ _ =
      w ∙ ap (λ (l : Calls). calls ++ (l ++ later)) s.made in
      passed its cursors request lines more f f.front f.back f.among f.left f.right adds
      (fits reading standing request act (command.Next name) a)
      (search_passes size f.c.slot p its lines s (new_slot _ _ free first (pinned_so f.open_since)))
  follow calls its later standing cursors cursors' request lines hits more act w a (ListedSame m print own said s) close adds f =
      looked calls its later request lines hits more w (fits reading standing request act (command.Next name) a)
      (same_looks s) adds f
  follow calls its later standing cursors cursors' request lines hits more act w a (RegisteredNew change m print own said s)
      close adds f =
      looked calls its later request lines hits more w (fits reading standing request act (command.Next name) a)
      (new_looks s) adds f
  follow calls its later standing cursors cursors' request lines hits more act w a (ListedSimilar p q n print own said s)
      close adds f =
      looked calls its later request lines hits more w (fits reading standing request act (command.Next name) a)
      (similar_looks s) adds f
  follow calls its later standing cursors cursors' request lines hits more act w a (Opened own p want slot v new need) close
      adds f =
      let d = new_cursor own p want slot v in
      let apart : ¬ (f.c.slot ≡ slot) = new_slot _ _ free w (pinned_so f.open_since) in
      let another : ¬ (own ≡ name) =
      λ e. at_name own f.front f.back f.c (subst (λ (l : List Cursor). IsNoName l own) f.among new) (f.named ∙ sym e)
      in
      passed its cursors' request lines more f f.front (f.back ++ d ∷ [])
      (ap (λ (l : List Cursor). l ++ d ∷ []) f.among ∙ append_assoc f.front (f.c ∷ f.back) (d ∷ [])) f.left
      (others_both name f.c.slot f.back (d ∷ []) f.right (another, (λ e. apart (sym e)), tt)) adds
      (fits reading standing request act (command.Next name) a) (refl, refl, tt)
  follow calls its later standing cursors cursors' request lines hits more act w a
      (Turned own before after d d' these said at advances) close adds f =
      elim (places name f.c.slot f.front f.back before after f.c d f.left f.right (sym f.among ∙ at.place)) [
        | inl s ↦
            let here : IsCommand request (command.Next name) =
            subst (λ (l : List ℕ). IsCommand request (command.Next l))
            (sym at.named ∙ (ap (λ (x : Cursor). x.name) (sym s.1) ∙ f.named)) (turn_command standing request own a) in
            subst (λ (l : List Cursor). Goes (calls ++ its) l request lines (hits ++ more) f.turned f.c.place)
            (ap₂ (λ (l m : List Cursor). l ++ d' ∷ m) s.0 s.2)
            (goes_on its request lines more f d' here (adds_all name request lines more adds here)
            (subst (λ (x : Cursor). Advances size x its lines d') (sym s.1) advances))
        | inr k ↦
            let same = advances_same advances in
            let fetches = advances_fetch advances in
            let m = k.again (d' ∷ [])
            ((λ e. k.name_apart (sym same.name ∙ e)), (λ e. k.slot_apart (sym same.slot ∙ e)), tt) in
            passed its cursors' request lines more f m.0 m.1 m.2 m.3 m.4 adds
            (λ q. k.name_apart (at.named ∙ fits reading standing request act (command.Next name) a q))
            (fetches_pass d.slot size f.c.slot d.want d.place fetches.0 its k.slot_apart fetches.1)
      ]
  follow calls its later standing cursors cursors' request lines hits more act w a (Closed own before after d at) close adds f =
      elim (places name f.c.slot f.front f.back before after f.c d f.left f.right (sym f.among ∙ at.place)) [
        | inl s ↦ absurd (close
            (subst (λ (l : List ℕ). IsCommand request (command.Close l))
            (sym at.named ∙ (ap (λ (x : Cursor). x.name) (sym s.1) ∙ f.named)) (close_command standing request own a)))
        | inr k ↦
            let m = k.again [] tt in
            passed its cursors' request lines more f m.0 m.1 m.2 m.3 m.4 adds
            (fits reading standing request act (command.Next name) a)
            (ne_eqb d.slot f.c.slot k.slot_apart, refl, tt)
      ]

  -- after any act
  follow_any : (calls its later : Calls) (standing standing' : Standing) (request : Request) (lines : Lines)
      (hits more : List ℕ) (act : Act) → whole ≡ calls ++ (its ++ later) → RequestAllows standing request act
      → DoesAll size standing act its lines standing' → ¬ IsCommand request (command.Close name)
      → Adds name request lines more → (f : Follows size calls standing.cursors name pattern version hits)
      → Goes (calls ++ its) standing'.cursors request lines (hits ++ more) f.turned f.c.place
  follow_any calls its later standing standing' request lines hits more act w a (inl d) close adds f =
      follow calls its later standing standing.cursors standing'.cursors request lines hits more act w a d.0 close adds f
  follow_any calls its later standing standing' request lines hits more act w a (inr d) close adds f =
      let other : ¬ IsCommand request (command.Next name) =
      λ is. next_apart standing request.more name act (fits reading standing request act (command.Next name) a is)
      (watch_is d.0) in
      subst (λ (l : List Cursor). Goes (calls ++ its) l request lines (hits ++ more) f.turned f.c.place) (sym d.1)
      (elim (watch_looks d.0) [
        | inl e ↦ passed its standing.cursors request lines more f f.front f.back f.among f.left f.right adds other
            (subst (PassBy f.c.slot) (sym e) tt)
        | inr l ↦ looked calls its later request lines hits more w other l adds f
      ])

  -- through a dialogue
  pub follow_all : (xs : List Exchange) (calls later : Calls) (standing standing' : Standing) (hits more : List ℕ)
      → whole ≡ calls ++ (calls_in (sized size) xs ++ later)
      → AreExchanged (sized size) standing xs standing' → StaysOpen name xs → AreListed name xs more
      → Follows size calls standing.cursors name pattern version hits
      → Follows size (calls ++ calls_in (sized size) xs) standing'.cursors name pattern version (hits ++ more)
  follow_all [] calls later standing standing' hits more w a kept listed f =
      rw (a, listed, append-nil, append-nil) f
  follow_all (x ∷ xs) calls later standing standing' hits more w a kept listed f =
      let rest_calls = calls_in (sized size) xs in
      let request = request_of x.request in
      let n = next_calls whole calls x.calls rest_calls later w in
      elim listed [
        | inl k ↦
            let one = follow_any calls x.calls (rest_calls ++ later) standing a.0 request x.reply hits (hits_in x.reply) a.1.act n.0
            a.1.allowed a.1.does kept.0 (inl (k.0, refl)) f in
            let rest = follow_all xs (calls ++ x.calls) later a.0 standing' (hits ++ hits_in x.reply) k.1 n.1 a.2 kept.1
            k.3 one.0 in
            subst (λ (l : Calls). Follows size l standing'.cursors name pattern version (hits ++ more))
            (append_assoc calls x.calls rest_calls)
            (subst (λ (l : List ℕ). Follows size ((calls ++ x.calls) ++ rest_calls) standing'.cursors name pattern version l)
            (append_assoc hits (hits_in x.reply) k.1 ∙ ap (λ (l : List ℕ). hits ++ l) (sym k.2)) rest)
        | inr k ↦
            let one = follow_any calls x.calls (rest_calls ++ later) standing a.0 request x.reply hits [] a.1.act n.0 a.1.allowed a.1.does
            kept.0 (inr (k.0, refl)) f in
            let rest = follow_all xs (calls ++ x.calls) later a.0 standing' (hits ++ []) more n.1 a.2 kept.1 k.1 one.0
            in
            subst (λ (l : Calls). Follows size l standing'.cursors name pattern version (hits ++ more))
            (append_assoc calls x.calls rest_calls)
            (subst (λ (l : List ℕ). Follows size ((calls ++ x.calls) ++ rest_calls) standing'.cursors name pattern version (l ++ more))
            (append-nil hits) rest)
      ]

  -- after k pages, through a dialogue
  abbrev pub Turned_to : Calls → List Cursor → ℕ → Type 0
  Turned_to calls cursors k = (hits : List ℕ) × (f : Follows size calls cursors name pattern version hits)
      × (f.turned ≡ k) × (from : ℕ) × (f.c.place ≡ At from)

  pub turn_all : (xs : List Exchange) (calls later : Calls) (standing standing' : Standing) (k n : ℕ)
      → whole ≡ calls ++ (calls_in (sized size) xs ++ later)
      → AreExchanged (sized size) standing xs standing' → StaysOpen name xs → AreTurned name xs n
      → Turned_to calls standing.cursors k → Turned_to (calls ++ calls_in (sized size) xs) standing'.cursors (k + n)
  turn_all [] calls later standing standing' k n w a kept turned t =
      let none_more : k ≡ k + n = omega (arith, turned) in
      subst (λ (l : Calls). Turned_to l standing'.cursors (k + n)) (sym (append-nil calls))
      (subst (λ (l : Standing). Turned_to calls l.cursors (k + n)) (sym a)
      (subst (λ (m : ℕ). Turned_to calls standing.cursors m) none_more t))
  turn_all (x ∷ xs) calls later standing standing' k n w a kept turned (hits, f, turns, from, at) =
      let rest_calls = calls_in (sized size) xs in
      let request = request_of x.request in
      let m = next_calls whole calls x.calls rest_calls later w in
      let step = λ (more : List ℕ) (adds : Adds name request x.reply more). follow_any calls x.calls (rest_calls ++ later) standing
      a.0 request x.reply hits more a.1.act m.0 a.1.allowed a.1.does kept.0 adds f in
      subst (λ (l : Calls). Turned_to l standing'.cursors (k + n)) (append_assoc calls x.calls rest_calls)
      (elim turned [
        | inl p ↦
            let one = step (hits_in x.reply) (inl (p.0, refl)) in
            let s = (one.1.turns p.0).more p.1 in
            let sum : (k + 1) + p.2 ≡ k + n = omega (arith, p.3) in
            subst (λ (q : ℕ). Turned_to ((calls ++ x.calls) ++ rest_calls) standing'.cursors q) sum
            (turn_all xs (calls ++ x.calls) later a.0 standing' (k + 1) p.2 m.1 a.2 kept.1 p.4
            (hits ++ hits_in x.reply, one.0, s.0 ∙ ap (λ (q : ℕ). q + 1) turns, s.1, s.2))
        | inr (inl p) ↦
            let one = step (hits_in x.reply) (inl (p.0, refl)) in
            let s = (one.1.turns p.0).lost p.1 in
            turn_all xs (calls ++ x.calls) later a.0 standing' k n m.1 a.2 kept.1 p.2
            (hits ++ hits_in x.reply, one.0, s.0 ∙ turns, from, s.1 ∙ at)
        | inr (inr p) ↦
            let one = step [] (inr (p.0, refl)) in
            let s = one.1.other p.0 in
            turn_all xs (calls ++ x.calls) later a.0 standing' k n m.1 a.2 kept.1 p.1
            (hits ++ [], one.0, s.0 ∙ turns, from, s.1 ∙ at)
      ])

  -- the cursor begins
  pub follow_new : (calls its later : Calls) (cursors : List Cursor) (want : List Bool) (slot : ℕ)
      → whole ≡ calls ++ (its ++ later) → its ≡ (events.Pin, replies.Pinned slot version) ∷ []
      → AreHeld (HeldAfter none calls) cursors → IsNoName cursors name → IsNeedOf pattern want
      → (f : Follows size (calls ++ its) (cursors ++ new_cursor name pattern want slot version ∷ []) name pattern version
      []) × (f.turned ≡ 0) × (f.c.place ≡ At 0)
  follow_new calls its later cursors want slot w first held new need = (
    record {
      front = cursors;
      back = [];
      c = new_cursor name pattern want slot version;
      among = refl;
      named = refl;
      pattern_is = refl;
      version_is = refl;
      left = others_new (HeldAfter none calls) name slot cursors held new
          (λ s v h. new_slot _ _ free (w ∙ ap (λ (l : Calls). calls ++ (l ++ later)) first) (pinned calls s v h));
      right = tt;
      turned = 0;
      open_since = record {
        before = calls;
        pages = [];
        own = ap (λ (l : Calls). calls ++ l) first;
        keeps = tt;
        search = refl;
        sized = tt;
        turned_is = refl;
        need = need;
        tried = refl;
        matched = refl;
        count = refl;
      };
    },
    refl,
    refl,
  )
