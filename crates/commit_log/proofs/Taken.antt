-- Commits that are taken one after the other.
use Rattle.std.proofs.Common.{◌≡◌, ℕ, ◌+◌, List, [], ◌∷◌, ◌++◌, length, refl, sym, ◌∙◌, ap, subst}
use Rattle.std.proofs.lemmas.List.{map-append}
use Rattle.std.specs.List.{AllByRecursion}
use Rattle.commit_log.specs.Change.{Change, change_of, written}
use Rattle.commit_log.specs.Log.{IsLogged, Takes, changes_of, payloads, placed, end_of}
use Rattle.commit_log.specs.declared.change.Commit.{Commit}

pub payloads_push : (changes : List Change) (change : Change) → payloads (changes ++ change ∷ []) ≡ payloads changes
    ++ written change ∷ []
payloads_push changes change = map-append written changes (change ∷ [])

pub changes_push : (commits : List Commit) (commit : Commit) → changes_of (commits ++ commit ∷ []) ≡ changes_of commits
    ++ change_of commit.wire ∷ []
changes_push commits commit = map-append (λ (c : Commit). change_of c.wire) commits (commit ∷ [])

end_push : (at : ℕ) (changes : List Change) (change : Change) → end_of at (changes ++ change ∷ []) ≡ end_of at changes
    + 5 + length (written change)
end_push at [] change = refl
end_push at (c ∷ changes) change = end_push (at + 5 + length (written c)) changes change

placed_push : (at : ℕ) (changes : List Change) (change : Change) → placed at (changes ++ change ∷ [])
    ≡ placed at changes ++ (end_of at changes, change) ∷ []
placed_push at [] change = refl
placed_push at (c ∷ changes) change = ap (λ (l : List (ℕ × Change)). (at, c) ∷ l)
    (placed_push (at + 5 + length (written c)) changes change)

logged_push : (changes : List Change) (change : Change) → AllByRecursion IsLogged changes → IsLogged change
    → AllByRecursion IsLogged (changes ++ change ∷ [])
logged_push [] change all one = (one, tt)
logged_push (c ∷ changes) change all one = (all.0, logged_push changes change all.1 one)

pub takes_none : (start : ℕ) → Takes start [] start
takes_none start = record { places = refl; ends = refl; logged = tt }

pub takes_more : (start end : ℕ) (commits : List Commit) (commit : Commit) → Takes start commits end → commit.at ≡ end
    → IsLogged (change_of commit.wire)
    → Takes start (commits ++ commit ∷ []) (end + 5 + length (written (change_of commit.wire)))
takes_more start end commits commit takes at logged =
    let change = change_of commit.wire in
    let more = changes_push commits commit in
    record {
      places = map-append (λ (c : Commit). (c.at, change_of c.wire)) commits (commit ∷ [])
          ∙ (λ i. takes.places i ++ ((at ∙ takes.ends) i, change) ∷ [])
          ∙ sym (placed_push start (changes_of commits) change)
          ∙ ap (λ (cs : List Change). placed start cs) (sym more);
      ends = ap (λ (n : ℕ). n + 5 + length (written change)) takes.ends
          ∙ sym (end_push start (changes_of commits) change) ∙ ap (λ (cs : List Change). end_of start cs) (sym more);
      logged = subst (AllByRecursion IsLogged) (sym more) (logged_push (changes_of commits) change takes.logged logged);
    }
