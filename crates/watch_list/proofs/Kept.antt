-- What is true of all watches stays so: they are few, and their names are distinct.
use Rattle.std.proofs.Common.{◌≡◌, ◌≢◌, ◌++◌, ◌<◌, ◌∙◌, AllPairs, ap, arith, Bool, cond, false, filter, get_or, length, length-append, List, [], ◌∷◌, map, None, not, refl, Some, subst, suc, sym, true, zero, ℕ}
use Rattle.std.proofs.lemmas.List.{length-map, map-append}
use Rattle.std.proofs.lemmas.List.Filters.{length-filter_both}
use Rattle.std.proofs.lemmas.List.Kept.{AllPairs-filter}
use Rattle.std.proofs.lemmas.List.Quantifiers.{all_pairs_push}
use Rattle.std.proofs.lemmas.Slice.Eq.{bytes_eq-Decides}
use Rattle.std.specs.List.{AllZip}
use Rattle.std.specs.Str.{bytes_eq}
use Rattle.store_core.specs.declared.words.Change.{Change}
use Rattle.watch_list.specs.Entries.{EntryTerm, watches_in}
use Rattle.watch_list.specs.Notes.{IsNoted}
use Rattle.watch_list.specs.Watches.{AreWatches, Watch, filled, is_named, is_other, refilled, watch_of}

abbrev names : List Watch → List (List ℕ)
names ws = map (λ w. w.name) ws

-- where the names are the same
pub same-names : (old new : List Watch) → names new ≡ names old → AreWatches old → AreWatches new
same-names old new same are = record {
  few = omega (
    arith,
    are.few,
    length-map old (λ (w : Watch). w.name),
    length-map new (λ (w : Watch). w.name),
    ap (λ (l : List (List ℕ)). length l) same,
  );
  distinct = subst (AllPairs (λ x y. x ≢ y)) (sym same) are.distinct;
}

pub noted-names : (version : ℕ) (change : Change) (old new : List Watch) → AllZip (IsNoted version change) old new
    → names new ≡ names old
noted-names version change [] [] h = refl
noted-names version change [] (y ∷ ys) h = absurd h
noted-names version change (x ∷ xs) [] h = absurd h
noted-names version change (x ∷ xs) (y ∷ ys) h =
    ap (λ n. n ∷ names ys) h.0.name ∙ ap (λ ns. x.name ∷ ns) (noted-names version change xs ys h.1)

pub filled-names : (name : List ℕ) (version : ℕ) (hits : List ℕ) (ws : List Watch)
    → names (map (filled name version hits) ws) ≡ names ws
filled-names name version hits [] = refl
filled-names name version hits (w ∷ ws) =
    ap (λ n. n ∷ names (map (filled name version hits) ws)) (by_test (is_named name w))
    ∙ ap (λ ns. w.name ∷ ns) (filled-names name version hits ws)
  where
    by_test : (b : Bool) → (cond b (refilled version hits w) w).name ≡ w.name
    by_test true = refl
    by_test false = refl

-- a filter by what a function gives, before it and after it
pub map-filter : {A B : Type 0} (f : A → B) (p : B → Bool) (xs : List A)
    → map f (filter (λ x. p (f x)) xs) ≡ filter p (map f xs)
map-filter f p [] = refl
map-filter f p (x ∷ xs) = by_test (p (f x)) (map-filter f p xs)
  where
    by_test : (b : Bool) → map f (filter (λ x. p (f x)) xs) ≡ filter p (map f xs)
        → map f (cond b (x ∷ filter (λ x. p (f x)) xs) (filter (λ x. p (f x)) xs))
        ≡ cond b (f x ∷ filter p (map f xs)) (filter p (map f xs))
    by_test true rest = ap (λ l. f x ∷ l) rest
    by_test false rest = rest

pub one-taken : (name : List ℕ) (ws : List Watch) → AreWatches ws → AreWatches (filter (is_other name) ws)
one-taken name ws are = record {
  few = omega (arith, are.few, length-filter_both (is_other name) (λ w. not (is_other name w)) (λ _. refl) ws);
  distinct = subst (AllPairs (λ x y. x ≢ y)) (sym (map-filter (λ (w : Watch). w.name) (λ n. not (bytes_eq n name)) ws))
      (AllPairs-filter (λ x y. x ≢ y) (λ n. not (bytes_eq n name)) (names ws) are.distinct);
}

-- no watch of these has a name that is not found
unlike : (name : List ℕ) (ws : List Watch) → watch_of name ws ≡ None → (k : ℕ) (d : List ℕ) → k < length (names ws)
    → get_or (names ws) k d ≢ name
unlike name [] none k d lt is = absurd (omega arith)
unlike name (w ∷ ws) none k d lt is = by_test (is_named name w) refl none k lt is (unlike name ws)
  where
    by_test : (b : Bool) → is_named name w ≡ b → cond b (Some w) (watch_of name ws) ≡ None → (k : ℕ)
        → k < length (names (w ∷ ws)) → get_or (names (w ∷ ws)) k d ≡ name
        → (watch_of name ws ≡ None → (k : ℕ) (d : List ℕ) → k < length (names ws) → get_or (names ws) k d ≢ name)
        → ⊥
    by_test true t none k lt is rest = absurd (cc)
    by_test false t none zero lt is rest = let e : is_named name w ≡ true = (bytes_eq-Decides w.name name).1 is in cc
    by_test false t none (suc k) lt is rest = rest none k d (omega arith) is

pub one-added : (ws : List Watch) (w : Watch) → length ws < 16 → watch_of w.name ws ≡ None → AreWatches ws
    → AreWatches (ws ++ w ∷ [])
one-added ws w few none are = record {
  few = omega (arith, length-append ws (w ∷ []));
  distinct = subst (AllPairs (λ x y. x ≢ y)) (sym (map-append (λ (w : Watch). w.name) ws (w ∷ [])))
      (all_pairs_push (λ x y. x ≢ y) (names ws) w.name are.distinct (unlike w.name ws none));
}

pub one-pushed : (name : List ℕ) (es now : List EntryTerm) (ws : List Watch) (e : EntryTerm) → watches_in es ≡ ws
    → now ≡ es ++ e ∷ [] → e.watch.name ≡ name → length ws < 16 → watch_of name ws ≡ None → AreWatches (watches_in es)
    → AreWatches (watches_in now)
one-pushed name es now ws e is pushed named few none are =
    subst AreWatches (sym (ap watches_in pushed ∙ map-append (λ (e : EntryTerm). e.watch) es (e ∷ [])))
    (one-added (watches_in es) e.watch (subst (λ (l : List Watch). length l < 16) (sym is) few)
    (ap (λ n. watch_of n (watches_in es)) named ∙ ap (watch_of name) is ∙ none) are)
