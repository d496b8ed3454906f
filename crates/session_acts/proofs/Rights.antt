-- Watches by their names: where each was right, each is right after a commit and after an act, and one that is not taken
-- out keeps its pattern.
use Rattle.std.proofs.Common.{◌≡◌, ◌≢◌, ◌⊎◌, ◌+◌, ◌++◌, ◌∙◌, ap, Bool, bytes_eq, cond, false, inl, inr, List, [], ◌∷◌, map, None, not, Option, option_map, refl, Some, subst, sym, true, ℕ}
use Rattle.std.proofs.lemmas.Bool.{cases_eq, cond-false, cond-true}
use Rattle.std.proofs.lemmas.Slice.Eq.{bytes_eq-Decides}
use Rattle.smarts_parse.specs.Pattern.{PatternTerm}
use Rattle.store_machine.specs.Answers.{AreHits}
use Rattle.store_machine.specs.Laws.{CommitsChange, SnapshotsStay}
use Rattle.store_machine.specs.declared.machine.Change.{Change}
use Rattle.store_machine.specs.declared.machine.History.{History}
use Rattle.watch_list.specs.Notes.{IsCommit}
use Rattle.session_acts.specs.Watching.{AreNoted, IsNoted, Watched, is_of, rebuilt_in, rebuilt_watch, watch_of, without}
use Rattle.session_acts.proofs.Brought.{brought-over, committed}

pub none_some : (w : Watched) → None ≡ Some w → ⊥
none_some w e = cc

pub same_some : (a b : Watched) → Some a ≡ Some b → a ≡ b
same_some a b e = cc

-- the watch of each name has the hits of its version
abbrev pub IsRight : History → List Watched → Type 0
IsRight h ws = (name : List ℕ) (w : Watched) → watch_of name ws ≡ Some w → AreHits h w.version w.pattern w.hits

-- the watch of a name has this pattern
abbrev pub IsKeptAs : List ℕ → PatternTerm → List Watched → Type 0
IsKeptAs name pattern ws = (w : Watched) × (watch_of name ws ≡ Some w) × (w.pattern ≡ pattern)

found_named : (name : List ℕ) (ws : List Watched) (w : Watched) → watch_of name ws ≡ Some w → w.name ≡ name
found_named name [] w e = absurd (none_some w e)
found_named name (x ∷ xs) w e =
    elim (is_of name x) as (λ b. is_of name x ≡ b → cond b (Some x) (watch_of name xs) ≡ Some w → w.name ≡ name) [
      | true ↦ λ t k. ap (λ (y : Watched). y.name) (sym (same_some x w k)) ∙ (bytes_eq-Decides x.name name).0 t
      | false ↦ λ t k. found_named name xs w k
    ] refl e

-- Over a commit
noted_of : (version : ℕ) (c : Change) (old new : List Watched) → AreNoted version c old new → (name : List ℕ)
    (w' : Watched) → watch_of name new ≡ Some w'
    → (w : Watched) × (watch_of name old ≡ Some w) × IsNoted version c w w'
noted_of version c [] [] h name w' e = absurd (none_some w' e)
noted_of version c [] (y ∷ ys) h name w' e = absurd h
noted_of version c (x ∷ xs) [] h name w' e = absurd h
noted_of version c (x ∷ xs) (y ∷ ys) h name w' e =
    let same : is_of name x ≡ is_of name y = ap (λ (n : List ℕ). bytes_eq n name) (sym h.0.name) in
    elim (is_of name y) as (λ b. is_of name y ≡ b → cond b (Some y) (watch_of name ys) ≡ Some w'
    → (w : Watched) × (watch_of name (x ∷ xs) ≡ Some w) × IsNoted version c w w') [
      | true ↦ λ t k. (
        x,
        cond-true (is_of name x) (Some x) (watch_of name xs) (same ∙ t),
        subst (IsNoted version c x) (same_some y w' k) h.0,
      )
      | false ↦ λ t k.
          let r = noted_of version c xs ys h.1 name w' k in
          (r.0, cond-false (is_of name x) (Some x) (watch_of name xs) (same ∙ t) ∙ r.1, r.2)
    ] refl e

noted_on : (version : ℕ) (c : Change) (old new : List Watched) → AreNoted version c old new → (name : List ℕ)
    (w : Watched) → watch_of name old ≡ Some w
    → (w' : Watched) × (watch_of name new ≡ Some w') × IsNoted version c w w'
noted_on version c [] [] h name w e = absurd (none_some w e)
noted_on version c [] (y ∷ ys) h name w e = absurd h
noted_on version c (x ∷ xs) [] h name w e = absurd h
noted_on version c (x ∷ xs) (y ∷ ys) h name w e =
    let same : is_of name y ≡ is_of name x = ap (λ (n : List ℕ). bytes_eq n name) h.0.name in
    elim (is_of name x) as (λ b. is_of name x ≡ b → cond b (Some x) (watch_of name xs) ≡ Some w
    → (w' : Watched) × (watch_of name (y ∷ ys) ≡ Some w') × IsNoted version c w w') [
      | true ↦ λ t k. (
        y,
        cond-true (is_of name y) (Some y) (watch_of name ys) (same ∙ t),
        subst (λ (z : Watched). IsNoted version c z y) (same_some x w k) h.0,
      )
      | false ↦ λ t k.
          let r = noted_on version c xs ys h.1 name w k in
          (r.0, cond-false (is_of name y) (Some y) (watch_of name ys) (same ∙ t) ∙ r.1, r.2)
    ] refl e

same_hits : (h : History) (v v' : ℕ) (p p' : PatternTerm) (hits hits' : List ℕ) → v' ≡ v → p' ≡ p → hits' ≡ hits
    → AreHits h v p hits → AreHits h v' p' hits'
same_hits h v v' p p' hits hits' a b c are =
    subst (λ (n : ℕ). AreHits h n p' hits') (sym a)
    (subst (λ (q : PatternTerm). AreHits h v q hits') (sym b) (subst (λ (l : List ℕ). AreHits h v p l) (sym c) are))

pub noted_right : SnapshotsStay → CommitsChange → (h : History) (version : ℕ) (c : Change) (old new : List Watched)
    → IsCommit h version c → AreNoted version c old new → IsRight h old → IsRight h new
noted_right stay make h version c old new is noted right name w' e =
    let n = noted_of version c old new noted name w' e in
    let w = n.0 in
    elim (cases_eq (w.version + 1) version) [
      | inl next ↦
          let m = n.2.moved next in
          same_hits h version w'.version w.pattern w'.pattern w'.hits w'.hits m.version_is n.2.pattern refl
          (brought-over h w.version version w.pattern c w.hits w'.hits (committed stay make h version w.version c is next)
          m.list (right name w n.1))
      | inr other ↦ subst (λ (z : Watched). AreHits h z.version z.pattern z.hits) (sym (n.2.other other)) (right name w n.1)
    ]

pub noted_kept : (version : ℕ) (c : Change) (old new : List Watched) → AreNoted version c old new → (name : List ℕ)
    (pattern : PatternTerm) → IsKeptAs name pattern old → IsKeptAs name pattern new
noted_kept version c old new noted name pattern k =
    let n = noted_on version c old new noted name k.0 k.1 in
    (n.0, n.1, n.2.pattern ∙ k.2)

-- One more
added_of : (name : List ℕ) (ws : List Watched) (x w : Watched) → watch_of name (ws ++ x ∷ []) ≡ Some w
    → (watch_of name ws ≡ Some w) ⊎ (w ≡ x)
added_of name [] x w e =
    elim (is_of name x) as (λ b. cond b (Some x) None ≡ Some w → (None ≡ Some w) ⊎ (w ≡ x)) [
      | true ↦ λ k. inr (sym (same_some x w k))
      | false ↦ λ k. inl k
    ] e
added_of name (y ∷ ys) x w e =
    elim (is_of name y) as (λ b. is_of name y ≡ b → cond b (Some y) (watch_of name (ys ++ x ∷ [])) ≡ Some w
    → (cond b (Some y) (watch_of name ys) ≡ Some w) ⊎ (w ≡ x)) [
      | true ↦ λ t k. inl k
      | false ↦ λ t k. added_of name ys x w k
    ] refl e

added_on : (name : List ℕ) (ws : List Watched) (x w : Watched) → watch_of name ws ≡ Some w
    → watch_of name (ws ++ x ∷ []) ≡ Some w
added_on name [] x w e = absurd (none_some w e)
added_on name (y ∷ ys) x w e =
    elim (is_of name y) as (λ b. cond b (Some y) (watch_of name ys) ≡ Some w
    → cond b (Some y) (watch_of name (ys ++ x ∷ [])) ≡ Some w) [
      | true ↦ λ k. k
      | false ↦ λ k. added_on name ys x w k
    ] e

pub added_new : (name : List ℕ) (ws : List Watched) (x : Watched) → watch_of name ws ≡ None → x.name ≡ name
    → watch_of name (ws ++ x ∷ []) ≡ Some x
added_new name [] x e named = cond-true (is_of name x) (Some x) None ((bytes_eq-Decides x.name name).1 named)
added_new name (y ∷ ys) x e named =
    elim (is_of name y) as (λ b. cond b (Some y) (watch_of name ys) ≡ None
    → cond b (Some y) (watch_of name (ys ++ x ∷ [])) ≡ Some x) [
      | true ↦ λ k. absurd (none_some y (sym k))
      | false ↦ λ k. added_new name ys x k named
    ] e

pub added_right : (h : History) (ws : List Watched) (x : Watched) → AreHits h x.version x.pattern x.hits → IsRight h ws
    → IsRight h (ws ++ x ∷ [])
added_right h ws x are right name w e = elim (added_of name ws x w e) [
  | inl old ↦ right name w old
  | inr new ↦ subst (λ (z : Watched). AreHits h z.version z.pattern z.hits) (sym new) are
]

pub added_kept : (name : List ℕ) (pattern : PatternTerm) (ws : List Watched) (x : Watched) → IsKeptAs name pattern ws
    → IsKeptAs name pattern (ws ++ x ∷ [])
added_kept name pattern ws x k = (k.0, added_on name ws x k.0 k.1, k.2)

-- One filled anew
rebuilt_named : (own : List ℕ) (version : ℕ) (hits : List ℕ) (w : Watched) → (rebuilt_in own version hits w).name ≡ w.name
rebuilt_named own version hits w = by (is_of own w) where
  by : (b : Bool) → (cond b (rebuilt_watch version hits w) w).name ≡ w.name
  by true = refl
  by false = refl

rebuilt_pattern : (own : List ℕ) (version : ℕ) (hits : List ℕ) (w : Watched)
    → (rebuilt_in own version hits w).pattern ≡ w.pattern
rebuilt_pattern own version hits w = by (is_of own w) where
  by : (b : Bool) → (cond b (rebuilt_watch version hits w) w).pattern ≡ w.pattern
  by true = refl
  by false = refl

rebuilt_seen : (own : List ℕ) (version : ℕ) (hits name : List ℕ) (ws : List Watched)
    → watch_of name (map (rebuilt_in own version hits) ws) ≡ option_map (rebuilt_in own version hits) (watch_of name ws)
rebuilt_seen own version hits name [] = refl
rebuilt_seen own version hits name (x ∷ xs) =
    let f = rebuilt_in own version hits in
    let same : is_of name (f x) ≡ is_of name x =
    ap (λ (n : List ℕ). bytes_eq n name) (rebuilt_named own version hits x) in
    ap (λ (b : Bool). cond b (Some (f x)) (watch_of name (map f xs))) same
    ∙ by (is_of name x) (rebuilt_seen own version hits name xs)
  where
    by : (b : Bool) → watch_of name (map (rebuilt_in own version hits) xs)
        ≡ option_map (rebuilt_in own version hits) (watch_of name xs)
        → cond b (Some (rebuilt_in own version hits x)) (watch_of name (map (rebuilt_in own version hits) xs))
        ≡ option_map (rebuilt_in own version hits) (cond b (Some x) (watch_of name xs))
    by true e = refl
    by false e = e

mapped_some : (f : Watched → Watched) (o : Option Watched) (w' : Watched) → option_map f o ≡ Some w'
    → (w : Watched) × (o ≡ Some w) × (w' ≡ f w)
mapped_some f None w' e = absurd (none_some w' e)
mapped_some f (Some w) w' e = (w, refl, sym (same_some (f w) w' e))

pub rebuilt_right : (h : History) (own : List ℕ) (version : ℕ) (hits : List ℕ) (ws : List Watched) (x : Watched)
    → watch_of own ws ≡ Some x → AreHits h version x.pattern hits → IsRight h ws
    → IsRight h (map (rebuilt_in own version hits) ws)
rebuilt_right h own version hits ws x named are right name w' e =
    let m = mapped_some (rebuilt_in own version hits) (watch_of name ws) w'
    (sym (rebuilt_seen own version hits name ws) ∙ e) in
    let w = m.0 in
    subst (λ (z : Watched). AreHits h z.version z.pattern z.hits) (sym m.2)
    (elim (is_of own w) as (λ b. is_of own w ≡ b → AreHits h (cond b (rebuilt_watch version hits w) w).version
    (cond b (rebuilt_watch version hits w) w).pattern (cond b (rebuilt_watch version hits w) w).hits) [
      | true ↦ λ t.
          let one : name ≡ own = sym (found_named name ws w m.1) ∙ (bytes_eq-Decides w.name own).0 t in
          let same : w ≡ x = same_some w x (sym m.1 ∙ (ap (λ (n : List ℕ). watch_of n ws) one ∙ named)) in
          subst (λ (z : Watched). AreHits h version z.pattern hits) (sym same) are
      | false ↦ λ t. right name w m.1
    ] refl)

pub rebuilt_kept : (own : List ℕ) (version : ℕ) (hits name : List ℕ) (pattern : PatternTerm) (ws : List Watched)
    → IsKeptAs name pattern ws → IsKeptAs name pattern (map (rebuilt_in own version hits) ws)
rebuilt_kept own version hits name pattern ws k = (
  rebuilt_in own version hits k.0,
  rebuilt_seen own version hits name ws
      ∙ ap (λ (o : Option Watched). option_map (rebuilt_in own version hits) o) k.1,
  rebuilt_pattern own version hits k.0 ∙ k.2,
)

pub rebuilt_found : (own : List ℕ) (version : ℕ) (hits : List ℕ) (ws : List Watched) (x : Watched)
    → watch_of own ws ≡ Some x
    → watch_of own (map (rebuilt_in own version hits) ws) ≡ Some (rebuilt_watch version hits x)
rebuilt_found own version hits ws x e =
    let named : is_of own x ≡ true = (bytes_eq-Decides x.name own).1 (found_named own ws x e) in
    rebuilt_seen own version hits own ws
    ∙ (ap (λ (o : Option Watched). option_map (rebuilt_in own version hits) o) e
    ∙ ap (λ (w : Watched). Some w) (cond-true (is_of own x) (rebuilt_watch version hits x) x named))

-- One taken out
without_of : (own name : List ℕ) (ws : List Watched) (w : Watched) → watch_of name (without own ws) ≡ Some w
    → watch_of name ws ≡ Some w
without_of own name [] w e = e
without_of own name (x ∷ xs) w e =
    elim (is_of own x) as (λ b. is_of own x ≡ b
    → watch_of name (cond (not b) (x ∷ without own xs) (without own xs)) ≡ Some w
    → cond (is_of name x) (Some x) (watch_of name xs) ≡ Some w) [
      | true ↦ λ t k. left t (without_of own name xs w k) (found_named name (without own xs) w k) k
      | false ↦ λ t k. kept (λ i. without_of own name xs w i) k
    ] refl e
  where
    -- the watch of another name is found behind it
    other_found : (name : List ℕ) (ys : List Watched) (y : Watched) → watch_of name (without own ys) ≡ Some y
        → is_of own y ≡ false
    other_found name [] y e = absurd (none_some y e)
    other_found name (z ∷ zs) y e =
        elim (is_of own z) as (λ b. is_of own z ≡ b
        → watch_of name (cond (not b) (z ∷ without own zs) (without own zs)) ≡ Some y → is_of own y ≡ false) [
          | true ↦ λ t k. other_found name zs y k
          | false ↦ λ t k.
              elim (is_of name z) as (λ b. cond b (Some z) (watch_of name (without own zs)) ≡ Some y
              → is_of own y ≡ false) [
                | true ↦ λ i. subst (λ (q : Watched). is_of own q ≡ false) (same_some z y i) t
                | false ↦ λ i. other_found name zs y i
              ] k
        ] refl e

    left : is_of own x ≡ true → watch_of name xs ≡ Some w → w.name ≡ name
        → watch_of name (without own xs) ≡ Some w → cond (is_of name x) (Some x) (watch_of name xs) ≡ Some w
    left t found named k =
        elim (is_of name x) as (λ b. is_of name x ≡ b → cond b (Some x) (watch_of name xs) ≡ Some w) [
          | true ↦ λ i.
              let one : name ≡ own = sym ((bytes_eq-Decides x.name name).0 i) ∙ (bytes_eq-Decides x.name own).0 t in
              let yes : is_of own w ≡ true = (bytes_eq-Decides w.name own).1 (named ∙ one) in
              let apart : is_of own w ≡ false = other_found name xs w k in
              absurd (cc)
          | false ↦ λ i. found
        ] refl

    kept : (watch_of name (without own xs) ≡ Some w → watch_of name xs ≡ Some w)
        → watch_of name (x ∷ without own xs) ≡ Some w → cond (is_of name x) (Some x) (watch_of name xs) ≡ Some w
    kept rest k =
        elim (is_of name x) as (λ b. cond b (Some x) (watch_of name (without own xs)) ≡ Some w
        → cond b (Some x) (watch_of name xs) ≡ Some w) [
          | true ↦ λ i. i
          | false ↦ λ i. rest i
        ] k

pub without_right : (h : History) (own : List ℕ) (ws : List Watched) → IsRight h ws → IsRight h (without own ws)
without_right h own ws right name w e = right name w (without_of own name ws w e)

without_on : (own name : List ℕ) (ws : List Watched) (w : Watched) → own ≢ name → watch_of name ws ≡ Some w
    → watch_of name (without own ws) ≡ Some w
without_on own name [] w other e = e
without_on own name (x ∷ xs) w other e =
    elim (is_of own x) as (λ b. is_of own x ≡ b
    → watch_of name (cond (not b) (x ∷ without own xs) (without own xs)) ≡ Some w) [
      | true ↦ λ t. without_on own name xs w other (behind t e)
      | false ↦ λ t. kept (λ i. without_on own name xs w other i) e
    ] refl
  where
    behind : is_of own x ≡ true → watch_of name (x ∷ xs) ≡ Some w → watch_of name xs ≡ Some w
    behind t k =
        elim (is_of name x) as (λ b. is_of name x ≡ b → cond b (Some x) (watch_of name xs) ≡ Some w
        → watch_of name xs ≡ Some w) [
          | true ↦ λ i j. absurd (other
              (sym ((bytes_eq-Decides x.name own).0 t) ∙ (bytes_eq-Decides x.name name).0 i))
          | false ↦ λ i j. j
        ] refl k

    kept : (watch_of name xs ≡ Some w → watch_of name (without own xs) ≡ Some w)
        → watch_of name (x ∷ xs) ≡ Some w → watch_of name (x ∷ without own xs) ≡ Some w
    kept rest k =
        elim (is_of name x) as (λ b. cond b (Some x) (watch_of name xs) ≡ Some w
        → cond b (Some x) (watch_of name (without own xs)) ≡ Some w) [
          | true ↦ λ i. i
          | false ↦ λ i. rest i
        ] k

pub without_kept : (own name : List ℕ) (pattern : PatternTerm) (ws : List Watched) → own ≢ name
    → IsKeptAs name pattern ws → IsKeptAs name pattern (without own ws)
without_kept own name pattern ws other k = (k.0, without_on own name ws k.0 other k.1, k.2)
