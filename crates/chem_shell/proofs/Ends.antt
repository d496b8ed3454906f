-- Facts of ends and of their statuses.
use Rattle.std.proofs.Common.{◌≡◌, ◌⊎◌, ◌≤◌, ◌==◌, if◌then◌else◌, Bool, true, false, ℕ, Option, List, [], ◌∷◌, length, map, refl, sym, ap, ◌∙◌, subst, inl, inr, arith}
use Rattle.disk_edge.specs.Disk.{DiskModel}
use Rattle.std.specs.Prelude.{All}
use Rattle.std.specs.List.{AllZip}
use Rattle.std.proofs.lemmas.List.Elements.{All-head, All-tail}
use Rattle.journal_core.specs.Looks.{Narrows}
use Rattle.serve_ends.specs.declared.end.End.{End}
use Rattle.serve_ends.specs.declared.status.TheConstants.{WORN}
use Rattle.store_disk.specs.declared.disks.Disks.{Disks}
use Rattle.chem_shell.specs.declared.outcome.Outcome.{Outcome}
use Rattle.chem_shell.specs.declared.request.Plan.{Plan}
use Rattle.chem_shell.specs.declared.request.Verb.{Verb}
use Rattle.chem_shell.specs.Done.{Leaves}
use Rattle.chem_shell.specs.Status.{first_fault, IsEndStatus, IsLoadStatus}
use Rattle.chem_shell.specs.Ends.{HasEndCauses, with_status}
use Rattle.chem_shell.specs.Loading.{HasCauses}
use Rattle.chem_shell.specs.OnDisks.{IsRefusedAs}

pub zip_weaker : {A B : Type 0} (R Q : A → B → Type 0) → ((x : A) (y : B) → R x y → Q x y) → (xs : List A) (ys : List B)
    → AllZip R xs ys → AllZip Q xs ys
zip_weaker R Q f [] [] h = tt
zip_weaker R Q f [] (y ∷ ys) h = absurd h
zip_weaker R Q f (x ∷ xs) [] h = absurd h
zip_weaker R Q f (x ∷ xs) (y ∷ ys) h = (f x y h.0, zip_weaker R Q f xs ys h.1)

pub zip_mapped : {A : Type 0} (R : A → A → Type 0) (f : A → A) → ((x : A) → R x (f x)) → (xs ys : List A)
    → ys ≡ map f xs → AllZip R xs ys
zip_mapped {A = A} R f g xs ys e = subst (AllZip R xs) (sym e) (go xs) where
  go : (xs : List A) → AllZip R xs (map f xs)
  go [] = tt
  go (x ∷ xs) = (g x, go xs)

-- where all ends have one status, it is the first that is not 0
pub first_alike : {S K : Type 0} (ends : List (End S K)) (n : ℕ) → 1 ≤ length ends
    → first_fault (map (λ end. end.status) (map (with_status n) ends)) ≡ n
first_alike [] n some = absurd (omega (arith, some))
first_alike (end ∷ []) n some = grind (arith)
first_alike (end ∷ other ∷ rest) n some =
    let more = first_alike (other ∷ rest) n (omega arith) in
    grind (arith, more)

pub first_of_alike : {S K : Type 0} (old new : List (End S K)) (n : ℕ) → 1 ≤ length old
    → new ≡ map (with_status n) old → first_fault (map (λ end. end.status) new) ≡ n
first_of_alike old new n some is =
    ap (λ (ends : List (End _ _)). first_fault (map (λ end. end.status) ends)) is ∙ first_alike old n some

-- the first fault is one of the statuses, or 0
either : (P : ℕ → Type 0) (b : Bool) (x y : ℕ) → P x → P y → P (if b then x else y)
either P true x y a b = a
either P false x y a b = b

pub first_is : (P : ℕ → Type 0) → P 0 → (statuses : List ℕ) → All P statuses → P (first_fault statuses)
first_is P done [] all = done
first_is P done (n ∷ ns) all =
    either P (n == 0) (first_fault ns) n (first_is P done ns (All-tail P n ns all)) (All-head P n ns all)

-- the statuses of a loading that is refused
load_between : (n : ℕ) → IsLoadStatus n → (5 ≤ n) × (n ≤ 8)
load_between n (inl a) = (omega arith, omega arith)
load_between n (inr (inl a)) = (omega arith, omega arith)
load_between n (inr (inr (inl a))) = (omega arith, omega arith)
load_between n (inr (inr (inr a))) = (omega arith, omega arith)

pub never_loaded_usage : (n : ℕ) → IsLoadStatus n → n ≡ 2 → ⊥
never_loaded_usage n is e = omega (arith, load_between n is, e)

-- a status that an end's session has
abbrev pub IsOfEnd : ℕ → Type 0
IsOfEnd n = IsEndStatus n ⊎ (n ≡ WORN)

-- it comes of no disk
pub no_usage : (n : ℕ) → IsOfEnd n → n ≡ 2 → ⊥
no_usage n (inl (inl a)) e = omega arith
no_usage n (inl (inr (inl a))) e = omega arith
no_usage n (inl (inr (inr (inl a)))) e = omega arith
no_usage n (inl (inr (inr (inr (inl a))))) e = omega arith
no_usage n (inl (inr (inr (inr (inr a))))) e = omega arith
no_usage n (inr a) e = omega arith

of_no_disk : (n : ℕ) → IsOfEnd n → 5 ≤ n → n ≤ 7 → ⊥
of_no_disk n (inl (inl a)) least most = omega arith
of_no_disk n (inl (inr (inl a))) least most = omega arith
of_no_disk n (inl (inr (inr (inl a)))) least most = omega arith
of_no_disk n (inl (inr (inr (inr (inl a))))) least most = omega arith
of_no_disk n (inl (inr (inr (inr (inr a))))) least most = omega arith
of_no_disk n (inr a) least most = omega arith

-- where the store was not loaded, no status of an end is its own objects'
pub load_causes : {S K : Type 0} (left : S → Option (List ℕ)) (source_faults : S → ℕ) (sink_faults : K → ℕ)
    (n : ℕ) → IsLoadStatus n → (end : End S K) → HasEndCauses left source_faults sink_faults end (with_status n end)
load_causes left source_faults sink_faults n is end = record {
  source_fault = λ e. absurd (omega (arith, load_between n is, e));
  sink_fault = λ e. absurd (omega (arith, load_between n is, e));
  input_too_long = λ e. absurd (omega (arith, load_between n is, e));
}

-- statuses of ends alone say nothing of a disk
pub no_disk_causes : {D : Type 0} (model : DiskModel D) (disks disks' : Disks D) (n place : ℕ) → IsOfEnd n → place ≡ 0
    → HasCauses model disks disks' n place
no_disk_causes model disks disks' n place is none = record {
  disk_fault = λ e. absurd (of_no_disk n is (omega (arith, e)) (omega (arith, e)));
  not_a_store = λ e. absurd (of_no_disk n is (omega (arith, e)) (omega (arith, e)));
  damaged = λ e. absurd (of_no_disk n is (omega (arith, e)) (omega (arith, e)));
  undamaged = λ _. none;
}

module _ {D S K : Type 0} (model : DiskModel D) (left : S → Option (List ℕ)) (source_faults : S → ℕ)
    (written : K → Option (List ℕ)) (sink_faults : K → ℕ) where
  abbrev LeavesBy : Verb → Plan → Disks D → List (End S K) → Outcome D S K → Type 0
  LeavesBy = Leaves model left source_faults written sink_faults

  -- what was left by a command
  pub leaves_by : (v w : Verb) (plan : Plan) (disks : Disks D) (ends : List (End S K)) (r : Outcome D S K) → v ≡ w
      → LeavesBy v plan disks ends r → LeavesBy w plan disks ends r
  leaves_by v w plan disks ends r e l = subst (λ (x : Verb). LeavesBy x plan disks ends r) e l

  -- where no end was served by `serve`
  pub refused_all : (disks disks' : Disks D) (n : ℕ) (old new : List (End S K)) → IsLoadStatus n
      → Narrows model disks.a disks'.a → Narrows model disks.b disks'.b → new ≡ map (with_status n) old
      → AllZip (IsRefusedAs model disks disks' n) old new
  refused_all disks disks' n old new status read_a read_b is =
      zip_mapped (IsRefusedAs model disks disks' n) (with_status n)
      (λ end. (record { status = status; end = refl; disk_a = read_a; disk_b = read_b }, refl)) old new is
