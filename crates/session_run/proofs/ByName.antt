-- The open cursors as their map finds, adds and takes them by name.
use Rattle.std.proofs.Common.{◌≡◌, ◌++◌, ◌↔◌, ◌∙◌, ap, arith, Bool, bytes_eq, cond, false, get_or, IfNone, is_some, List, [], ◌∷◌, map, None, Option, refl, Some, set, subst, suc, sym, true, unwrap_or, zero, ℕ}
use Rattle.std.proofs.lemmas.Slice.Eq.{bytes_eq-Decides}
use Rattle.std.specs.List.{remove}
use Rattle.std.specs.Map.{lookup, lookup_key, remove_entry, set_value}
use Rattle.std.specs.Prelude.{Vec}
use Rattle.std.specs.declared.alloc.Global.{Global}
use Rattle.indexmap.specs.IndexMap.{insert_entry}
use Rattle.session_acts.specs.Cursors.{IsNoName}
use Rattle.session_run.specs.Opened.{IsTaken, named}
use Rattle.session_run.specs.Walks.{IsNamedAt, cursor_of, cursors_of}
use Rattle.session_run.specs.declared.cursors.Cursor as rust
use Rattle.session_run.specs.declared.listing.Walk.{Walk}
use Rattle.session_run.proofs.Named.{not_none}

abbrev pub Entry : Type 0
Entry = Vec ℕ Global × Walk

same_some : {A : Type 0} {x y : A} → Some x ≡ Some y → x ≡ y
same_some {A} {x} e = ap (λ (r : Option A). unwrap_or r x) e

apart : (b : Bool) → b ≡ true → b ≡ false → ⊥
apart b h k = cc

abbrev pub is_name : List ℕ → Vec ℕ Global → Bool
is_name name k = bytes_eq name k.items

module _ (name : List ℕ) where
  abbrev test : Vec ℕ Global → Bool
  test k = is_name name k

  decides : (k : Vec ℕ Global) → (test k ≡ true) ↔ (name ≡ k.items)
  decides k = bytes_eq-Decides name k.items

  -- the name is at a place, and this is what a write and a removal there leave
  pub record IsPlaced (es : List Entry) (k : Vec ℕ Global) (w : Walk) : Type 0 where
    pub place : ℕ
    pub named_at : IsNamedAt (map named es) name place
    pub is : named (k, w) ≡ get_or (map named es) place (named (k, w))
    pub moved : (w' : Walk) → map named (set_value test es w') ≡ set (map named es) place (named (k, w'))
    pub left : map named (remove_entry test es) ≡ remove (map named es) place

  at_first : (x : Entry) (xs : List Entry) → test x.0 ≡ true → IsPlaced (x ∷ xs) x.0 x.1
  at_first x xs t = record {
    place = 0;
    named_at = record { within = omega arith; named = λ any. sym ((decides x.0).0 t) };
    is = refl;
    moved = λ w'. ap (λ (b : Bool). map named (cond b ((x.0, w') ∷ xs) (x ∷ set_value test xs w'))) t;
    left = ap (λ (b : Bool). map named (cond b xs (x ∷ remove_entry test xs))) t;
  }

  later : (x : Entry) (xs : List Entry) (k : Vec ℕ Global) (w : Walk) → test x.0 ≡ false → IsPlaced xs k w
      → IsPlaced (x ∷ xs) k w
  later x xs k w t p = record {
    place = suc p.place;
    named_at = record { within = omega (arith, p.named_at.within); named = λ any. p.named_at.named any };
    is = p.is;
    moved = λ w'. ap (λ (b : Bool). map named (cond b ((x.0, w') ∷ xs) (x ∷ set_value test xs w'))) t
        ∙ ap (λ (l : List rust.Cursor). named x ∷ l) (p.moved w');
    left = ap (λ (b : Bool). map named (cond b xs (x ∷ remove_entry test xs))) t
        ∙ ap (λ (l : List rust.Cursor). named x ∷ l) p.left;
  }

  pub placed : (es : List Entry) (k : Vec ℕ Global) (w : Walk) → lookup_key test es ≡ Some k
      → lookup test es ≡ Some w → IsPlaced es k w
  placed [] k w a b = cc
  placed (x ∷ xs) k w a b =
      elim (test x.0) as (λ t. test x.0 ≡ t → cond t (Some x.0) (lookup_key test xs) ≡ Some k
      → cond t (Some x.1) (lookup test xs) ≡ Some w → IsPlaced (x ∷ xs) k w) [
        | true ↦ λ t a b.
            subst (λ (n : Vec ℕ Global). IsPlaced (x ∷ xs) n w) (same_some a)
            (subst (λ (v : Walk). IsPlaced (x ∷ xs) x.0 v) (same_some b) (at_first x xs t))
        | false ↦ λ t a b. later x xs k w t (placed xs k w a b)
      ] refl a b

  -- a value has a key
  pub keyed : (es : List Entry) (w : Walk) → lookup test es ≡ Some w
      → (k : Vec ℕ Global) × (lookup_key test es ≡ Some k)
  keyed [] w b = cc
  keyed (x ∷ xs) w b =
      elim (test x.0) as (λ t. cond t (Some x.1) (lookup test xs) ≡ Some w
      → (k : Vec ℕ Global) × (cond t (Some x.0) (lookup_key test xs) ≡ Some k)) [
        | true ↦ λ b. (x.0, refl)
        | false ↦ λ b. keyed xs w b
      ] b

  pub found : (es : List Entry) (w : Walk) → lookup test es ≡ Some w → (k : Vec ℕ Global) × IsPlaced es k w
  found es w b = let k = keyed es w b in (k.0, placed es k.0 w k.1 b)

  pub taken : (es : List Entry) (k : Vec ℕ Global) (w : Walk) (es' : List Entry) → lookup_key test es ≡ Some k
      → lookup test es ≡ Some w → es' ≡ remove_entry test es
      → IsTaken name (map named es) (named (k, w)) (map named es')
  taken es k w es' a b e =
      let p = placed es k w a b in
      record {
        place = p.place;
        named_at = p.named_at;
        is = p.is;
        left = ap (λ (l : List Entry). map named l) e ∙ p.left;
      }

  -- no cursor has the name
  other : (x : Entry) (xs : List Entry) → test x.0 ≡ false → IsNoName (cursors_of (map named xs)) name
      → IsNoName (cursors_of (map named (x ∷ xs))) name
  other x xs t h zero any lt = λ same. apart (test x.0) ((decides x.0).1 (sym same)) t
  other x xs t h (suc k) any lt = h k any (omega (arith, lt))

  pub absent : (es : List Entry) → lookup test es ≡ None → IsNoName (cursors_of (map named es)) name
  absent [] e = λ k any lt. absurd (omega (arith, lt))
  absent (x ∷ xs) e =
      elim (test x.0) as (λ t. test x.0 ≡ t → cond t (Some x.1) (lookup test xs) ≡ None
      → IsNoName (cursors_of (map named (x ∷ xs))) name) [
        | true ↦ λ t e. cc
        | false ↦ λ t e. other x xs t (absent xs e)
      ] refl e

  -- by whether the map has it
  pub is_free : (es : List Entry) (b : Bool) → b ≡ is_some (lookup test es) → b ≡ false
      → IsNoName (cursors_of (map named es)) name
  is_free es b e f = by (lookup test es) refl
    where
      by : (r : Option Walk) → lookup test es ≡ r → IsNoName (cursors_of (map named es)) name
      by None p = absent es p
      by (Some w) p = absurd (apart b (e ∙ ap is_some p) f)

  pub is_taken : (es : List Entry) (b : Bool) → b ≡ is_some (lookup test es) → b ≡ true
      → ¬ IsNoName (cursors_of (map named es)) name
  is_taken es b e f = by (lookup test es) refl
    where
      by : (r : Option Walk) → lookup test es ≡ r → ¬ IsNoName (cursors_of (map named es)) name
      by None p = absurd (apart b f (e ∙ ap is_some p))
      by (Some w) p = let q = found es w p in not_none (map named es) name q.1.place q.1.named_at

-- a new name goes last
abbrev pub are_same : Vec ℕ Global → Vec ℕ Global → Bool
are_same a b = is_name a.items b

inserted : (k : Vec ℕ Global) (w : Walk) (es : List Entry) → IsNoName (cursors_of (map named es)) k.items
    → map named (insert_entry are_same es k w) ≡ map named es ++ named (k, w) ∷ []
inserted k w [] none = refl
inserted k w (x ∷ xs) none =
    elim (are_same k x.0) as (λ b. are_same k x.0 ≡ b
    → map named (cond b ((x.0, w) ∷ xs) (x ∷ insert_entry are_same xs k w))
    ≡ named x ∷ (map named xs ++ named (k, w) ∷ [])) [
      | true ↦ λ t. absurd (none zero (cursor_of (named x)) (omega arith) (sym ((decides k.items x.0).0 t)))
      | false ↦ λ t. ap (λ (l : List rust.Cursor). named x ∷ l)
          (inserted k w xs (λ j any lt. none (suc j) any (omega (arith, lt))))
    ] refl

pub added_last : (k : Vec ℕ Global) (w : Walk) (es es' : List Entry) → IsNoName (cursors_of (map named es)) k.items
    → es' ≡ insert_entry are_same es k w → map named es' ≡ map named es ++ named (k, w) ∷ []
added_last k w es es' none e = ap (λ (l : List Entry). map named l) e ∙ inserted k w es none

-- of what was not found
pub if_none : {A : Type 0} (r : Option A) (P : Type 0) → P → IfNone r P
if_none None P p = p
if_none (Some a) P p = tt
