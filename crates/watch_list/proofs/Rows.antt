-- Loops over the watches that change each of them in turn.
use Rattle.std.proofs.Common.{◌≡◌, ◌+◌, ◌++◌, ◌<◌, ◌≤◌, ◌&&◌, ◌∙◌, add-one, All, ap, arith, Bool, false, filter, get_or, length, List, [], ◌∷◌, nat_lt, refl, set, subst, suc, sym, take, true, zero, ℕ}
use Rattle.std.proofs.lemmas.Bool.{lt-ltb, ltb-true}
use Rattle.std.proofs.lemmas.List.{length-map, take_at}
use Rattle.std.proofs.lemmas.List.Elements.{All-cons, All-filter, All-head, All-nil, All-tail}
use Rattle.std.specs.List.{AllZip}
use Rattle.watch_list.specs.Entries.{EntryTerm, HasRoom, all_have_room, watches_in}
use Rattle.watch_list.specs.Watches.{Watch}

-- one that keeps its watch
pub watches-set : (es : List EntryTerm) (k : ℕ) (e d : EntryTerm) → k < length es → e.watch ≡ (get_or es k d).watch
    → watches_in (set es k e) ≡ watches_in es
watches-set [] k e d lt same = absurd (omega arith)
watches-set (x ∷ xs) zero e d lt same = ap (λ (w : Watch). w ∷ watches_in xs) same
watches-set (x ∷ xs) (suc k) e d lt same =
    ap (λ ws. x.watch ∷ ws) (watches-set xs k e d (omega arith) same)

-- the first k are changed so, and the others are as they were
abbrev pub Upto : (Watch → Watch → Type 0) → ℕ → List EntryTerm → List EntryTerm → Type 0
Upto R zero old new = new ≡ old
Upto R (suc k) [] [] = Unit {0}
Upto R (suc k) [] (y ∷ ys) = ⊥
Upto R (suc k) (x ∷ xs) [] = ⊥
Upto R (suc k) (x ∷ xs) (y ∷ ys) = R x.watch y.watch × Upto R k xs ys

upto-next : (R : Watch → Watch → Type 0) (k : ℕ) (old now : List EntryTerm) (e d : EntryTerm) → Upto R k old now
    → k < length now → R (get_or now k d).watch e.watch → Upto R (suc k) old (set now k e)
upto-next R zero old [] e d h lt r = absurd (omega arith)
upto-next R zero old (y ∷ ys) e d h lt r = subst (λ (o : List EntryTerm). Upto R 1 o (e ∷ ys)) h (r, refl)
upto-next R (suc k) [] [] e d h lt r = absurd (omega arith)
upto-next R (suc k) [] (y ∷ ys) e d h lt r = absurd h
upto-next R (suc k) (x ∷ xs) [] e d h lt r = absurd h
upto-next R (suc k) (x ∷ xs) (y ∷ ys) e d h lt r = (h.0, upto-next R k xs ys e d h.1 (omega arith) r)

pub upto-more : (R : Watch → Watch → Type 0) (k : ℕ) (old now : List EntryTerm) (e d : EntryTerm) → Upto R k old now
    → k < length now → R (get_or now k d).watch e.watch → Upto R (k + 1) old (set now k e)
upto-more R k old now e d h lt r =
    subst (λ (n : ℕ). Upto R n old (set now k e)) (sym (add-one k)) (upto-next R k old now e d h lt r)

pub upto-all : (R : Watch → Watch → Type 0) (k : ℕ) (old now : List EntryTerm) → Upto R k old now → length now ≤ k
    → AllZip R (watches_in old) (watches_in now)
upto-all R zero old [] h le = subst (λ (o : List EntryTerm). AllZip R (watches_in o) []) h tt
upto-all R zero old (y ∷ ys) h le = absurd (omega arith)
upto-all R (suc k) [] [] h le = tt
upto-all R (suc k) [] (y ∷ ys) h le = absurd h
upto-all R (suc k) (x ∷ xs) [] h le = absurd h
upto-all R (suc k) (x ∷ xs) (y ∷ ys) h le = (h.0, upto-all R k xs ys h.1 (omega arith))

-- the next one is still as it was
pub upto-here : (R : Watch → Watch → Type 0) (k : ℕ) (old now : List EntryTerm) (d : EntryTerm) → Upto R k old now
    → get_or now k d ≡ get_or old k d
upto-here R zero old now d h = ap (λ l. get_or l 0 d) h
upto-here R (suc k) [] [] d h = refl
upto-here R (suc k) [] (y ∷ ys) d h = absurd h
upto-here R (suc k) (x ∷ xs) [] d h = absurd h
upto-here R (suc k) (x ∷ xs) (y ∷ ys) d h = upto-here R k xs ys d h.1

-- a slice that is written back
pub written : (n : ℕ) (old new rest : List EntryTerm) → length (watches_in new) ≡ length (watches_in old)
    → length old ≡ n → take n (new ++ rest) ≡ new
written n old new rest same all =
    take_at new rest n (sym (length-map new (λ e. e.watch)) ∙ same ∙ length-map old (λ e. e.watch) ∙ all)

-- room in each list, as a test and as a fact
pub room-each : (es : List EntryTerm) → all_have_room es ≡ true → All HasRoom es
room-each [] h = All-nil HasRoom
room-each (e ∷ es) h = by_test (nat_lt (length e.watch.hits) e.room) refl h (room-each es)
  where
    by_test : (b : Bool) → nat_lt (length e.watch.hits) e.room ≡ b → b && all_have_room es ≡ true
        → (all_have_room es ≡ true → All HasRoom es) → All HasRoom (e ∷ es)
    by_test true is h rest = All-cons HasRoom e es (ltb-true (length e.watch.hits) e.room is) (rest h)
    by_test false is h rest = absurd (cc)

pub each-room : (es : List EntryTerm) → All HasRoom es → all_have_room es ≡ true
each-room [] h = refl
each-room (e ∷ es) h =
    ap (λ b. b && all_have_room es) (lt-ltb (length e.watch.hits) e.room (All-head HasRoom e es h))
    ∙ each-room es (All-tail HasRoom e es h)

pub room-filtered : (p : EntryTerm → Bool) (es : List EntryTerm) → all_have_room es ≡ true
    → all_have_room (filter p es) ≡ true
room-filtered p es h = each-room (filter p es) (All-filter p HasRoom es (room-each es h))

pub both-left : (a b : Bool) → a && b ≡ true → a ≡ true
both-left true b h = refl
both-left false b h = h

pub both-right : (a b : Bool) → a && b ≡ true → b ≡ true
both-right true b h = h
both-right false b h = absurd (cc)

pub both : (a b : Bool) → a ≡ true → b ≡ true → a && b ≡ true
both a b h k = ap (λ x. x && b) h ∙ k
