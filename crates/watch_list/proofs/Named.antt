-- The watch of a name among watches with distinct names.
use Rattle.std.proofs.Common.{◌≡◌, ◌≢◌, ◌+◌, ◌<◌, ◌∙◌, AllPairs, ap, arith, Bool, cond, false, find, get_or, length, List, [], ◌∷◌, map, None, Option, option_map, refl, Some, subst, suc, sym, true, zero, ℕ}
use Rattle.std.proofs.lemmas.Slice.Eq.{bytes_eq-Decides}
use Rattle.std.specs.Borrow.{Bor}
use Rattle.std.specs.List.{position_from}
use Rattle.std.specs.Option.{is_some, option_copied}
use Rattle.std.proofs.Math.ListN.{set}
use Rattle.watch_list.specs.Entries.{EntryTerm, place_of, watches_in}
use Rattle.watch_list.specs.Watches.{Watch, filled, is_named, refilled, watch_of}

abbrev names_in : List EntryTerm → List (List ℕ)
names_in es = map (λ w. w.name) (watches_in es)

abbrev pub AreDistinct : List EntryTerm → Type 0
AreDistinct es = AllPairs (λ x y. x ≢ y) (names_in es)

-- no entry has the name
abbrev AreOthers : List ℕ → List EntryTerm → Type 0
AreOthers name es = (i : ℕ) (d : List ℕ) → i < length (names_in es) → name ≢ get_or (names_in es) i d

others-tail : (name : List ℕ) (e : EntryTerm) (es : List EntryTerm) → AreOthers name (e ∷ es) → AreOthers name es
others-tail name e es h i d lt = h (suc i) d (omega arith)

distinct-tail : (e : EntryTerm) (es : List EntryTerm) → AreDistinct (e ∷ es) → AreDistinct es
distinct-tail e es h i j d lt le = h (suc i) (suc j) d (omega arith) (omega arith)

others-behind : (e : EntryTerm) (es : List EntryTerm) → AreDistinct (e ∷ es) → AreOthers e.watch.name es
others-behind e es h i d lt = h zero (suc i) d (omega arith) (omega arith)

unnamed : (name : List ℕ) (w : Watch) → name ≢ w.name → is_named name w ≡ false
unnamed name w other = off (is_named name w) (λ t. other (sym ((bytes_eq-Decides w.name name).0 t)))
  where
    off : (b : Bool) → (b ≡ true → ⊥) → b ≡ false
    off true h = absurd (h refl)
    off false h = refl

-- others are not filled
others-unfilled : (name : List ℕ) (version : ℕ) (hits : List ℕ) (es : List EntryTerm) → AreOthers name es
    → map (filled name version hits) (watches_in es) ≡ watches_in es
others-unfilled name version hits [] h = refl
others-unfilled name version hits (e ∷ es) h =
    ap (λ b. cond b (refilled version hits e.watch) e.watch
    ∷ map (filled name version hits) (watches_in es)) (unnamed name e.watch (h zero [] (omega arith)))
    ∙ ap (λ ws. e.watch ∷ ws) (others-unfilled name version hits es (others-tail name e es h))

-- what stands at the place of a name
pub record IsFound (name : List ℕ) (es : List EntryTerm) (i : ℕ) : Type 0 where
  pub within : i < length es
  pub watch : (d : EntryTerm) → watch_of name (watches_in es) ≡ Some (get_or es i d).watch
  pub filled_is : AreDistinct es → (version : ℕ) (hits : List ℕ) (e d : EntryTerm)
      → e.watch ≡ refilled version hits (get_or es i d).watch
      → map (filled name version hits) (watches_in es) ≡ watches_in (set es i e)

found-first : (name : List ℕ) (e : EntryTerm) (es : List EntryTerm) → is_named name e.watch ≡ true
    → IsFound name (e ∷ es) 0
found-first name e es named =
    let same : e.watch.name ≡ name = (bytes_eq-Decides e.watch.name name).0 named in
    record {
      within = omega arith;
      watch = λ d. ap (λ b. cond b (Some e.watch) (watch_of name (watches_in es))) named;
      filled_is = λ apart version hits f d is. ap (λ b.
          cond b (refilled version hits e.watch) e.watch
          ∷ map (filled name version hits) (watches_in es)) named
          ∙ ap (λ ws. refilled version hits e.watch ∷ ws)
          (others-unfilled name version hits es (λ i d lt is. others-behind e es apart i d lt (same ∙ is)))
          ∙ ap (λ (w : Watch). w ∷ watches_in es) (sym is);
    }

found-later : (name : List ℕ) (e : EntryTerm) (es : List EntryTerm) (i : ℕ) → is_named name e.watch ≡ false
    → IsFound name es i → IsFound name (e ∷ es) (suc i)
found-later name e es i unnamed found = record {
  within = omega (arith, found.within);
  watch = λ d. ap (λ b. cond b (Some e.watch) (watch_of name (watches_in es))) unnamed ∙ found.watch d;
  filled_is = λ apart version hits f d is. ap (λ b. cond b (refilled version hits e.watch) e.watch
      ∷ map (filled name version hits) (watches_in es)) unnamed
      ∙ ap (λ ws. e.watch ∷ ws) (found.filled_is (distinct-tail e es apart) version hits f d is);
}

abbrev named-entry : List ℕ → EntryTerm → Bool
named-entry name e = is_named name e.watch

-- from any number on
found-from : (name : List ℕ) (es : List EntryTerm) (k i : ℕ) → position_from (named-entry name) k es ≡ Some i
    → (j : ℕ) × (i ≡ k + j) × IsFound name es j
found-from name [] k i h = absurd (cc)
found-from name (e ∷ es) k i h = by_test (is_named name e.watch) refl h (found-from name es (k + 1) i)
  where
    by_test : (b : Bool) → is_named name e.watch ≡ b
        → cond b (Some k) (position_from (named-entry name) (k + 1) es) ≡ Some i
        → (position_from (named-entry name) (k + 1) es ≡ Some i → (j : ℕ) × (i ≡ k + 1 + j) × IsFound name es j)
        → (j : ℕ) × (i ≡ k + j) × IsFound name (e ∷ es) j
    by_test true is h rest = let same : k ≡ i = cc in (0, omega arith, found-first name e es is)
    by_test false is h rest =
        let later = rest h in
        (suc later.0, omega (arith, later.1), found-later name e es later.0 is later.2)

pub found : (name : List ℕ) (es read : List EntryTerm) (i : ℕ) → read ≡ es → Some i ≡ place_of name read
    → IsFound name es i
found name es read i same at =
    let f = found-from name es 0 i (sym (at ∙ ap (place_of name) same)) in
    let is : f.0 ≡ i = omega (arith, f.1) in
    subst (IsFound name es) is f.2

lost-from : (name : List ℕ) (es : List EntryTerm) (k : ℕ) → position_from (named-entry name) k es ≡ None
    → watch_of name (watches_in es) ≡ None
lost-from name [] k h = refl
lost-from name (e ∷ es) k h = by_test (is_named name e.watch) h (lost-from name es (k + 1))
  where
    by_test : (b : Bool) → cond b (Some k) (position_from (named-entry name) (k + 1) es) ≡ None
        → (position_from (named-entry name) (k + 1) es ≡ None → watch_of name (watches_in es) ≡ None)
        → cond b (Some e.watch) (watch_of name (watches_in es)) ≡ None
    by_test true h rest = absurd (cc)
    by_test false h rest = rest h

pub lost : (name : List ℕ) (es read : List EntryTerm) → read ≡ es → None ≡ place_of name read
    → watch_of name (watches_in es) ≡ None
lost name es read same none = lost-from name es 0 (sym (none ∙ ap (place_of name) same))

-- a watch that is found among its entries
pub find-watch : (name : List ℕ) (es : List EntryTerm)
    → option_map (λ (e : EntryTerm). e.watch) (find (named-entry name) es) ≡ watch_of name (watches_in es)
find-watch name [] = refl
find-watch name (e ∷ es) = by_test (is_named name e.watch) (find-watch name es)
  where
    by_test : (b : Bool)
        → option_map (λ (e : EntryTerm). e.watch) (find (named-entry name) es) ≡ watch_of name (watches_in es)
        → option_map (λ (e : EntryTerm). e.watch) (cond b (Some e) (find (named-entry name) es))
        ≡ cond b (Some e.watch) (watch_of name (watches_in es))
    by_test true h = refl
    by_test false h = h

pub read-watch : (name : List ℕ) (es read : List EntryTerm) (ws : List Watch) (o : Option EntryTerm) → read ≡ es
    → watches_in es ≡ ws → o ≡ find (named-entry name) read → watch_of name ws ≡ option_map (λ e. e.watch) o
read-watch name es read ws o same are found =
    sym (ap (option_map (λ (e : EntryTerm). e.watch)) (found ∙ ap (find (named-entry name)) same) ∙ find-watch name es
    ∙ ap (watch_of name) are)

pub is-watched : (name : List ℕ) (es read : List EntryTerm) (ws : List Watch) (o : Option (Bor EntryTerm)) → read ≡ es
    → watches_in es ≡ ws → option_copied o ≡ find (named-entry name) read → is_some o ≡ is_some (watch_of name ws)
is-watched name es read ws None same are found = sym (ap is_some (read-watch name es read ws None same are found))
is-watched name es read ws (Some e) same are found =
    sym (ap is_some (read-watch name es read ws (Some e.now) same are found))
