-- What atoms and bonds are read as: the steps of one expression, with a primitive for each recursive part.
use Rattle.std.proofs.Common.{◌≡◌, ◌≢◌, ℕ, zero, suc, ◌+◌, List, [], ◌∷◌, ◌++◌, length, map, replicate, Option, None, Some, refl, ◌∙◌, arith, length-append}
use Rattle.std.specs.List.{flat_map, AllByRecursion}
use Rattle.smarts_words.specs.declared.word.Step.{Step}
use Rattle.smarts_words.specs.declared.word.Step.TheVariants as steps
use Rattle.smarts_words.specs.declared.word.AtomWord.{AtomWord}
use Rattle.smarts_words.specs.declared.word.AtomWord.TheVariants as words
use Rattle.smarts_words.specs.Prims as prims
use Rattle.smarts_words.specs.Expression.{Operand, Joining, semicolon, comma, ampersand, beside, Expression, at_first, levels, joined}
use Rattle.smarts_words.specs.Bracket.{Hydro, hydro_words, mass_words, charge_words, Inside, hydro, low, Atom, star, aromatic, aliphatic, organic, lower, bracket, inside_value, value_of_atom, expression_value}
use Rattle.smarts_words.specs.Bonds as in_bonds
use Rattle.smarts_parse.specs.Steps.{operands, LeaveOne, part_count, parts_in, IsValue}
use Rattle.smarts_parse.proofs.Postfix.{PutOne, leave_one, put_prim, put_not, put_joined}

-- a list with an element, in which each element is so
abbrev Each : {X : Type 0} → (X → Type 0) → List X → Type 0
Each Q [] = ⊥
Each Q (x ∷ xs) = Q x × AllByRecursion Q xs

each_first : {X : Type 0} (Q : X → Type 0) (f : X → X) → ((x : X) → Q x → Q (f x)) → (xs : List X) → Each Q xs
    → Each Q (at_first f xs)
each_first Q f h [] each = each
each_first Q f h (x ∷ xs) each = (h x each.0, each.1)

all_of : {X : Type 0} (Q : X → Type 0) (xs : List X) → Each Q xs → AllByRecursion Q xs
all_of Q [] each = absurd each
all_of Q (x ∷ xs) each = each

-- no level is empty
abbrev Full : {P : Type 0} → List (List (List (Operand P))) → Type 0
Full {P = P} xs =
    Each (λ (ors : List (List (Operand P))). Each (λ (ands : List (Operand P)). Each (λ x. Unit {0}) ands) ors) xs

each_unit : {X : Type 0} (xs : List X) → AllByRecursion (λ x. Unit {0}) xs
each_unit [] = tt
each_unit (x ∷ xs) = (tt, each_unit xs)

beside_full : {P : Type 0} (x : Operand P) (xs : List (List (List (Operand P)))) → Full xs
    → Full (at_first (λ ors. at_first (λ ands. x ∷ ands) ors) xs)
beside_full {P = P} x xs h =
    let A : List (Operand P) → Type 0 = λ ands. Each (λ x. Unit {0}) ands in
    each_first (λ (ors : List (List (Operand P))). Each A ors) (λ ors. at_first (λ ands. x ∷ ands) ors)
    (λ ors g. each_first A (λ ands. x ∷ ands) (λ ands k. (tt, each_unit ands)) ors g) xs h

levels_full : {P : Type 0} (x : Operand P) (more : List (Joining × Operand P)) → Full (levels x more)
levels_full x [] = (((tt, tt), tt), tt)
levels_full {P = P} x ((semicolon, y) ∷ more) = (
  ((tt, tt), tt),
  all_of (λ (ors : List (List (Operand P))). Each (λ (ands : List (Operand P)). Each (λ x. Unit {0}) ands) ors)
      (levels y more) (levels_full y more),
)
levels_full {P = P} x ((comma, y) ∷ more) =
    let A : List (Operand P) → Type 0 = λ ands. Each (λ x. Unit {0}) ands in
    each_first (λ (ors : List (List (Operand P))). Each A ors) (λ ors. (x ∷ []) ∷ ors)
    (λ ors h. ((tt, tt), all_of A ors h)) (levels y more) (levels_full y more)
levels_full {P = P} x ((ampersand, y) ∷ more) = beside_full x (levels y more) (levels_full y more)
levels_full {P = P} x ((beside, y) ∷ more) = beside_full x (levels y more) (levels_full y more)

-- the steps of levels, in which each part is joined
module _ {P W : Type 0} (word : P → W) where
  abbrev bangs_steps : Operand P → List (Step W)
  bangs_steps x = steps.Prim (word x.prim) ∷ replicate x.bangs steps.Not

  abbrev ands_steps : List (Operand P) → List (Step W)
  ands_steps ands = joined steps.And (map bangs_steps ands)

  abbrev ors_steps : List (List (Operand P)) → List (Step W)
  ors_steps ors = joined steps.Or (map ands_steps ors)

  abbrev levels_steps : List (List (List (Operand P))) → List (Step W)
  levels_steps xs = joined steps.And (map ors_steps xs)

  put_all : {X : Type 0} (Q : X → Type 0) (f : X → List (Step W)) → ((x : X) → Q x → PutOne (f x)) → (xs : List X)
      → AllByRecursion Q xs → AllByRecursion (λ x. PutOne x) (map f xs)
  put_all Q f h [] all = tt
  put_all Q f h (x ∷ xs) all = (h x all.0, put_all Q f h xs all.1)

  put_each : {X : Type 0} (op : Step W) → operands op ≡ 2 → (Q : X → Type 0) (f : X → List (Step W))
      → ((x : X) → Q x → PutOne (f x)) → (xs : List X) → Each Q xs → PutOne (joined op (map f xs))
  put_each op two Q f h [] each = absurd each
  put_each op two Q f h (x ∷ xs) each = put_joined op two (f x) (map f xs) (h x each.0) (put_all Q f h xs each.1)

  put_bangs : (x : Operand P) → PutOne (bangs_steps x)
  put_bangs x = put_not (word x.prim) x.bangs

  put_levels : (xs : List (List (List (Operand P)))) → Full xs → PutOne (levels_steps xs)
  put_levels xs full =
      let A : List (Operand P) → Type 0 = λ ands. Each (λ x. Unit {0}) ands in
      let B : List (List (Operand P)) → Type 0 = λ ors. Each A ors in
      put_each steps.And refl B ors_steps
      (λ ors b. put_each steps.Or refl A ands_steps
      (λ ands a. put_each steps.And refl (λ (x : Operand P). Unit {0}) bangs_steps (λ x u. put_bangs x) ands a) ors
      b) xs full

-- how many recursive parts steps name
parts-append : (xs ys : List (Step AtomWord)) → parts_in (xs ++ ys) ≡ parts_in xs + parts_in ys
parts-append [] ys = omega arith
parts-append (x ∷ xs) ys = let e = parts-append xs ys in omega arith

-- a sum over a list
abbrev total : {X : Type 0} → (X → ℕ) → List X → ℕ
total f [] = 0
total f (x ∷ xs) = f x + total f xs

parts_flat : {X : Type 0} (op : Step AtomWord) → part_count op ≡ 0 → (f : X → List (Step AtomWord)) (count : X → ℕ)
    → ((x : X) → parts_in (f x) ≡ count x) → (xs : List X)
    → parts_in (flat_map (λ y. y ++ op ∷ []) (map f xs)) ≡ total count xs
parts_flat op none f count h [] = refl
parts_flat op none f count h (x ∷ xs) =
    let a = parts-append (f x ++ op ∷ []) (flat_map (λ y. y ++ op ∷ []) (map f xs)) in
    let b = parts-append (f x) (op ∷ []) in
    let c = parts_flat op none f count h xs in
    let d = h x in
    omega arith

parts_joined : {X : Type 0} (op : Step AtomWord) → part_count op ≡ 0 → (f : X → List (Step AtomWord)) (count : X → ℕ)
    → ((x : X) → parts_in (f x) ≡ count x) → (xs : List X)
    → parts_in (joined op (map f xs)) ≡ total count xs
parts_joined op none f count h [] = refl
parts_joined op none f count h (x ∷ xs) =
    let a = parts-append (f x) (flat_map (λ y. y ++ op ∷ []) (map f xs)) in
    let c = parts_flat op none f count h xs in
    let d = h x in
    omega arith

nots_parts : (n : ℕ) → parts_in (replicate n steps.Not) ≡ 0
nots_parts zero = refl
nots_parts (suc n) = let e = nots_parts n in omega arith

prim_parts : (x : prims.Prim) → part_count (steps.Prim (prims.word_of x)) ≡ length (prims.part_of x)
prim_parts (prims.part text) = refl
prim_parts _ = refl

abbrev operand_parts : Operand prims.Prim → ℕ
operand_parts x = length (prims.part_of x.prim)

bangs_parts : (x : Operand prims.Prim) → parts_in (bangs_steps prims.word_of x) ≡ operand_parts x
bangs_parts x = let a = prim_parts x.prim in let b = nots_parts x.bangs in omega arith

levels_parts : (xs : List (List (List (Operand prims.Prim))))
    → parts_in (levels_steps prims.word_of xs) ≡ total (λ ors. total (λ ands. total operand_parts ands) ors) xs
levels_parts xs =
    parts_joined steps.And refl (ors_steps prims.word_of) (λ ors. total (λ ands. total operand_parts ands) ors)
    (λ ors. parts_joined steps.Or refl (ands_steps prims.word_of) (λ ands. total operand_parts ands)
    (λ ands. parts_joined steps.And refl (bangs_steps prims.word_of) operand_parts bangs_parts ands) ors) xs

-- the same, by the operands as they are written
module _ {P : Type 0} (count : Operand P → ℕ) where
  abbrev level_total : List (List (List (Operand P))) → ℕ
  level_total xs = total (λ ors. total (λ ands. total count ands) ors) xs

  comma_total : (x : Operand P) (xs : List (List (List (Operand P)))) → Full xs
      → level_total (at_first (λ ors. (x ∷ []) ∷ ors) xs) ≡ count x + level_total xs
  comma_total x [] full = absurd full
  comma_total x (ors ∷ xs) full = omega arith

  beside_total : (x : Operand P) (xs : List (List (List (Operand P)))) → Full xs
      → level_total (at_first (λ ors. at_first (λ ands. x ∷ ands) ors) xs) ≡ count x + level_total xs
  beside_total x [] full = absurd full
  beside_total x ([] ∷ xs) full = absurd full.0
  beside_total x ((ands ∷ ors) ∷ xs) full = omega arith

  written_total : (x : Operand P) (more : List (Joining × Operand P))
      → level_total (levels x more) ≡ count x + total (λ y. count y.1) more
  written_total x [] = omega arith
  written_total x ((semicolon, y) ∷ more) = let e = written_total y more in omega arith
  written_total x ((comma, y) ∷ more) = let e = written_total y more in
      let f = comma_total x (levels y more) (levels_full y more) in omega arith
  written_total x ((ampersand, y) ∷ more) = let e = written_total y more in
      let f = beside_total x (levels y more) (levels_full y more) in omega arith
  written_total x ((beside, y) ∷ more) = let e = written_total y more in
      let f = beside_total x (levels y more) (levels_full y more) in omega arith

flat_length : (more : List (Joining × Operand prims.Prim))
    → length (flat_map (λ x. prims.part_of x.1.prim) more) ≡ total (λ y. operand_parts y.1) more
flat_length [] = refl
flat_length (x ∷ more) = let e = length-append (prims.part_of x.1.prim) (flat_map (λ x. prims.part_of x.1.prim) more) in
    let f = flat_length more in omega arith

expression_is_value : (e : Expression prims.Prim) → IsValue (expression_value e)
expression_is_value e =
    let xs = levels e.first e.more in
    let a = levels_parts xs in
    let b = written_total operand_parts e.first e.more in
    let c = flat_length e.more in
    let d = length-append (prims.part_of e.first.prim) (flat_map (λ x. prims.part_of x.1.prim) e.more) in
    record {
      one = leave_one (levels_steps prims.word_of xs) (put_levels prims.word_of xs (levels_full e.first e.more));
      parts = a ∙ b ∙ omega arith;
    }

single_is_value : (word : AtomWord) → part_count (steps.Prim word) ≡ 0
    → IsValue (record { steps = steps.Prim word ∷ []; parts = [] })
single_is_value word none = record { one = leave_one (steps.Prim word ∷ []) (put_prim word); parts = omega arith }

-- words that are no recursive part
abbrev Plain : AtomWord → Type 0
Plain word = part_count (steps.Prim word) ≡ 0

masses_plain : (mass : List ℕ) → AllByRecursion Plain (mass_words mass)
masses_plain [] = tt
masses_plain (d ∷ ds) = (refl, tt)

charges_plain : (charge : Option prims.Signs) → AllByRecursion Plain (charge_words charge)
charges_plain None = tt
charges_plain (Some signs) = (refl, tt)

pub all-append : {X : Type 0} (Q : X → Type 0) (xs ys : List X) → AllByRecursion Q xs → AllByRecursion Q ys
    → AllByRecursion Q (xs ++ ys)
all-append Q [] ys a b = b
all-append Q (x ∷ xs) ys a b = (a.0, all-append Q xs ys a.1 b)

no_total : (xs : List AtomWord) → AllByRecursion Plain xs → total (λ w. part_count (steps.Prim w)) xs ≡ 0
no_total [] all = refl
no_total (x ∷ xs) all = let e = all.0 in let f = no_total xs all.1 in omega arith

words_plain : (h : Hydro) → AllByRecursion Plain (hydro_words h)
words_plain h =
    (refl, all-append Plain (mass_words h.mass) (charge_words h.charge) (masses_plain h.mass) (charges_plain h.charge))

joined_is_value : (word : AtomWord) (more : List AtomWord) → AllByRecursion Plain (word ∷ more)
    → IsValue (record { steps = joined steps.And (map (λ w. steps.Prim w ∷ []) (word ∷ more)); parts = [] })
joined_is_value word more plain =
    let one = put_joined steps.And refl (steps.Prim word ∷ []) (map (λ w. steps.Prim w ∷ []) more) (put_prim word)
    (put_all (λ (w : AtomWord). w) Plain (λ w. steps.Prim w ∷ []) (λ w p. put_prim w) more plain.1) in
    record {
      one = leave_one (joined steps.And (map (λ w. steps.Prim w ∷ []) (word ∷ more))) one;
      parts = parts_joined steps.And refl (λ w. steps.Prim w ∷ []) (λ w. part_count (steps.Prim w)) (λ w. omega arith)
          (word ∷ more) ∙ no_total (word ∷ more) plain;
    }

inside_is_value : (x : Inside) → IsValue (inside_value x)
inside_is_value (hydro h) = joined_is_value _ _ (words_plain h)
inside_is_value (low e) = expression_is_value e

pub atom_is_value : (x : Atom) → IsValue (value_of_atom x)
atom_is_value star = single_is_value words.Any refl
atom_is_value aromatic = single_is_value words.Aromatic refl
atom_is_value aliphatic = single_is_value words.Aliphatic refl
atom_is_value (organic x) = single_is_value _ refl
atom_is_value (lower x) = single_is_value _ refl
atom_is_value (bracket x) = inside_is_value x.inside

-- a bond's steps are those of one expression, where one is written
pub bond_leaves_one : (x : Option (Expression in_bonds.BondPrim)) → in_bonds.bond_value x ≢ []
    → LeaveOne 0 (in_bonds.bond_value x)
bond_leaves_one None h = absurd (h refl)
bond_leaves_one (Some e) h =
    let xs = levels e.first e.more in
    leave_one (levels_steps in_bonds.bond_word xs) (put_levels in_bonds.bond_word xs (levels_full e.first e.more))
