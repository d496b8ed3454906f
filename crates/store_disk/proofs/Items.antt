-- The next item of a copy: the first state that is left, or the first commit.
use Rattle.std.proofs.Common.{◌≡◌, ◌+◌, ◌++◌, ◌-◌, ◌<◌, ◌≤◌, ◌∙◌, All, ap, append_assoc, arith, Bool, cond, count_by, false, get_or, length, length-append, List, [], ◌∷◌, map, nat_le, Option, option_map, refl, Some, suc, sym, take, true, ℕ}
use Rattle.std.proofs.Math.Seq.{get_or-append_seam}
use Rattle.std.proofs.lemmas.Bool.{le-leb, leb-true}
use Rattle.std.proofs.lemmas.List.{length-map, map-append}
use Rattle.std.proofs.lemmas.List.Sums.{sum_by-append, sum_by-cons}
use Rattle.disk_pair.specs.Pairs.{History as Written, with_base, with_commit}
use Rattle.store_core.specs.Copied.{FirstFrom}
use Rattle.store_machine.specs.History.{rebase}
use Rattle.store_machine.specs.declared.machine.Copying.{Copying}
use Rattle.store_machine.specs.declared.machine.History.{History}
use Rattle.store_machine.specs.declared.machine.Status.{Status}
use Rattle.store_disk.specs.Items.{left}
use Rattle.store_disk.specs.OnDisk.{CopyTerm, Lacks, lacking}
use Rattle.store_disk.specs.Payloads.{base_payload, history_of}
use Rattle.store_disk.proofs.OnDisks.{next-base, next-commit}

-- how many of a list are of identifiers from one on
abbrev later : ℕ → List (ℕ × Status) → ℕ
later from es = count_by (λ e. nat_le from e.0) es

later-cons : (from : ℕ) (x : ℕ × Status) (xs : List (ℕ × Status))
    → later from (x ∷ xs) ≡ cond (nat_le from x.0) 1 0 + later from xs
later-cons from x xs = sum_by-cons (λ (e : ℕ × Status). cond (nat_le from e.0) 1 0) x xs

later-append : (from : ℕ) (xs ys : List (ℕ × Status)) → later from (xs ++ ys) ≡ later from xs + later from ys
later-append from xs ys = sum_by-append (λ (e : ℕ × Status). cond (nat_le from e.0) 1 0) xs ys

above : (a b : ℕ) → b < a → nat_le a b ≡ false
above a b less = go (nat_le a b) refl
  where
    go : (x : Bool) → nat_le a b ≡ x → nat_le a b ≡ false
    go true e = absurd (let le = leb-true a b e in omega (arith, le, less))
    go false e = e

-- whether it is of one from there on, as a number
is-late : (from n : ℕ) → from ≤ n → cond {A = ℕ} (nat_le from n) 1 0 ≡ 1
is-late from n le = ap {B = ℕ} (λ b. cond b 1 0) (le-leb from n le)

is-early : (from n : ℕ) → n < from → cond {A = ℕ} (nat_le from n) 1 0 ≡ 0
is-early from n less = ap {B = ℕ} (λ b. cond b 1 0) (above from n less)

rest-of : (P : ℕ × Status → Type 0) (x : ℕ × Status) (xs : List (ℕ × Status)) → All P (x ∷ xs) → All P xs
rest-of P x xs all = λ k d less. all (suc k) d (omega (arith, less))

pub none-later : (from : ℕ) (xs : List (ℕ × Status)) → All (λ x. x.0 < from) xs → later from xs ≡ 0
none-later from [] all = refl
none-later from (x ∷ xs) all =
    let rest = none-later from xs (rest-of (λ x. x.0 < from) x xs all) in
    omega (arith, later-cons from x xs, is-early from x.0 (all 0 x (omega arith)), rest)

pub all-later : (from : ℕ) (xs : List (ℕ × Status)) → All (λ x. from ≤ x.0) xs → later from xs ≡ length xs
all-later from [] all = refl
all-later from (x ∷ xs) all =
    let rest = all-later from xs (rest-of (λ x. from ≤ x.0) x xs all) in
    omega (arith, later-cons from x xs, is-late from x.0 (all 0 x (omega arith)), rest)

module _ (from : ℕ) (es : List (ℕ × Status)) (e : ℕ × Status) (f : FirstFrom from es e) where
  split : (k : ℕ) → later k es ≡ later k f.before + (cond (nat_le k e.0) 1 0 + later k f.more)
  split k = ap (later k) f.is ∙ (later-append k f.before (e ∷ f.more)
      ∙ ap (λ n. later k f.before + n) (later-cons k e f.more))

  -- with the first of them, and without it
  count-with : later from es ≡ 1 + length f.more
  count-with =
      let before = none-later from f.before f.lesser in
      let one = is-late from e.0 f.late in
      let more = all-later from f.more (λ k d less. let up = f.greater k d less in omega (arith, up, f.late)) in
      omega (arith, split from, before, one, more)

  count-without : later (e.0 + 1) es ≡ length f.more
  count-without =
      let before = none-later (e.0 + 1) f.before
      (λ k d less. let low = f.lesser k d less in omega (arith, low, f.late)) in
      let one = is-early (e.0 + 1) e.0 (omega arith) in
      let more = all-later (e.0 + 1) f.more (λ k d less. let up = f.greater k d less in omega (arith, up)) in
      omega (arith, split (e.0 + 1), before, one, more)

-- an item less is left
abbrev pub less : Option Copying → Option Copying
less o = option_map (λ (copy : Copying). record copy { left = copy.left - 1 }) o

same-some : {X : Type 0} {a b : X} → Some a ≡ Some b → a ≡ b
same-some e = cc e

module _ (h : History) (copy : Option Copying) (c : CopyTerm) (l : Lacks h copy c) where
  -- what lacks an item less
  pub one-fewer : (next : CopyTerm) → Lacks h (less copy) next → left next ≡ left c - 1
  one-fewer next m = ap (λ (k : Copying). k.left) (same-some (sym m.is ∙ ap less l.is))

  pub state-lacks : 1 ≤ c.states → (e : ℕ × Status) → FirstFrom c.from (rebase h c.version).base e
      → Lacks h (less copy) (record c { from = e.0 + 1; states = c.states - 1 })
  state-lacks some e f = record {
    is = ap less l.is ∙ ap (λ n. Some (record { version = c.version; left = n })) (omega (arith, some));
    states =
        let with = count-with c.from (rebase h c.version).base e f in
        let without = count-without c.from (rebase h c.version).base e f in omega (arith, l.states, with, without);
    made = l.made;
    commits = l.commits;
    first = λ more. l.first some;
  }

  pub commit-lacks : c.states ≡ 0 → (x : List ℕ) (rest : List (List ℕ)) → c.commits ≡ x ∷ rest
      → Lacks h (less copy) (record c { commits = rest })
  commit-lacks none x rest is =
      let size = ap (λ (cs : List (List ℕ)). length cs) is in
      record {
        is = ap less l.is ∙ ap (λ n. Some (record { version = c.version; left = n })) (omega (arith, size));
        states = l.states;
        made = l.made ++ x ∷ [];
        commits = l.commits
            ∙ (ap (λ (cs : List (List ℕ)). l.made ++ cs) is ∙ sym (append_assoc l.made (x ∷ []) rest));
        first = λ some. absurd (omega (arith, some, none));
      }

  module _ (generation : ℕ) where
    abbrev whole : Written
    whole = history_of generation (rebase h c.version)

    -- what the copy's disk has with it
    pub state-written : 1 ≤ c.states → (e : ℕ × Status) → FirstFrom c.from (rebase h c.version).base e
        → lacking (left c - 1) whole ≡ with_base (lacking (left c) whole) (base_payload e)
    state-written some e f =
        let base = (rebase h c.version).base in
        let with = count-with c.from base e f in
        let count = ap (λ (es : List (ℕ × Status)). length es) f.is in
        let sizes : length whole.base ≡ length f.before + (1 + length f.more) =
        omega (arith, length-map base base_payload, count, length-append f.before (e ∷ f.more)) in
        let commits : length whole.commits ≡ length c.commits =
        ap (λ (ps : List (List ℕ)). length ps)
        (l.commits ∙ ap (λ (ps : List (List ℕ)). ps ++ c.commits) (l.first some)) in
        let at : length whole.base + length whole.commits - (left c - 1 + 1) ≡ length (map base_payload f.before) =
        omega (arith, sizes, commits, l.states, with, length-map f.before base_payload, some) in
        let item : get_or whole.base (length whole.base + length whole.commits - (left c - 1 + 1)) [] ≡ base_payload e =
        ap (λ n. get_or whole.base n []) at
        ∙ (ap (λ (ps : List (List ℕ)). get_or ps (length (map base_payload f.before)) [])
        (ap (λ (es : List (ℕ × Status)). map base_payload es) f.is ∙ map-append base_payload f.before (e ∷ f.more))
        ∙ get_or-append_seam (map base_payload f.before) (base_payload e) (map base_payload f.more) []) in
        let one : left c - 1 + 1 ≡ left c = omega (arith, some) in
        next-base (left c - 1) whole (omega (arith, commits, some))
        (omega (arith, sizes, commits, l.states, with, some))
        ∙ ap (λ n. with_base (lacking n whole)
        (get_or whole.base (length whole.base + length whole.commits - (left c - 1 + 1)) [])) one
        ∙ ap (λ p. with_base (lacking (left c) whole) p) item

    pub commit-written : c.states ≡ 0 → (x : List ℕ) (rest : List (List ℕ)) → c.commits ≡ x ∷ rest
        → lacking (left c - 1) whole ≡ with_commit (lacking (left c) whole) x
    commit-written none x rest is =
        let ps : whole.commits ≡ l.made ++ x ∷ rest = l.commits ∙ ap (λ (cs : List (List ℕ)). l.made ++ cs) is in
        let size = ap (λ (cs : List (List ℕ)). length cs) is in
        let count = ap (λ (cs : List (List ℕ)). length cs) ps in
        let sizes : length whole.commits ≡ length l.made + (1 + length rest) =
        omega (arith, count, length-append l.made (x ∷ rest)) in
        let at : length whole.commits - (left c - 1 + 1) ≡ length l.made = omega (arith, sizes, size, none) in
        let item : get_or whole.commits (length whole.commits - (left c - 1 + 1)) [] ≡ x =
        ap (λ n. get_or whole.commits n []) at
        ∙ (ap (λ (cs : List (List ℕ)). get_or cs (length l.made) []) ps ∙ get_or-append_seam l.made x rest []) in
        let one : left c - 1 + 1 ≡ left c = omega (arith, size) in
        next-commit (left c - 1) whole (omega (arith, sizes, size, none))
        ∙ ap (λ n. with_commit (lacking n whole)
        (get_or whole.commits (length whole.commits - (left c - 1 + 1)) [])) one
        ∙ ap (λ p. with_commit (lacking (left c) whole) p) item

  -- a copy that lacks a state has no commit
  pub no-commits : (generation : ℕ) → 1 ≤ c.states
      → (lacking (left c) (history_of generation (rebase h c.version))).commits ≡ []
  no-commits generation some =
      let w = history_of generation (rebase h c.version) in
      let commits : length w.commits ≡ length c.commits =
      ap (λ (ps : List (List ℕ)). length ps)
      (l.commits ∙ ap (λ (ps : List (List ℕ)). ps ++ c.commits) (l.first some)) in
      let none : length w.commits - left c ≡ 0 = omega (arith, commits, some) in ap (λ n. take n w.commits) none
