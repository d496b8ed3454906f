-- What a pattern's expressions imply, as it is written into a row and a square.
use Rattle.std.proofs.Common.{ℕ, zero, suc, ◌+◌, ◌*◌, ◌<◌, ◌≤◌, ◌≡◌, ◌≢◌, ◌⊎◌, inl, inr, Bool, true, false, cond, List, [], ◌∷◌, ◌++◌, length, get_or, set, map, take, refl, sym, ap, ◌∙◌, subst, ⊎_elim, arith, replicate}
use Rattle.std.specs.Prelude.{Option, None, Some, option_map, option_and_then, find, unwrap_or}
use Rattle.std.specs.List.{slice_get}
use Rattle.std.proofs.lemmas.Bool.{cases_eq, false≢true, cases_lt}
use Rattle.std.proofs.lemmas.List.{length-set, length-map, length-take-le, take_more, get_or-map, get_or-set_same, get_or-set_other, get_or-replicate, get_or_past, length-replicate}
use Rattle.std.proofs.lemmas.Option.{none-some, same_Some, slice_get_within, slice_get-map, slice_get-get_or, get_or_from_slice_get}
use Rattle.chem_core.specs.Graph.{JoinsAt}
use Rattle.smarts_parse.specs.Pattern.{Term, Prim, Not, And, Or, BondTerm, GraphTerm}
use Rattle.smarts_parse.specs.Sound.{IsSoundGraph}
use Rattle.smarts_parse.specs.declared.pattern.BondPrim.{BondPrim}
use Rattle.smarts_parse.specs.declared.pattern.BondPrim.TheVariants as bonds
use Rattle.path_print.specs.declared.known.Known.{Known}
use Rattle.path_print.specs.Path.{Family, label_of}
use Rattle.path_print.specs.Implied.{implied, implied_byte, prim_byte}
use Rattle.path_print.specs.Prints.{are_ends, graph_view}
use Rattle.path_print.specs.Squares.{IsSquare, IsSimplePattern, IsSheet}
use Rattle.path_print.proofs.Options.{and_then_some, find_there, either_some, alike_some}
use Rattle.path_print.proofs.Carries.{ends_cases, ends_there, ends_back}
use Rattle.path_print.proofs.Molecules.{find_same, ends_swap}

-- ---- bytes

prim_above : (p : BondPrim) (n : ℕ) → prim_byte p ≡ Some n → n ≢ 0
prim_above bonds.Single n h e = absurd (omega (arith, same_Some 1 n h, e))
prim_above bonds.Aromatic n h e = absurd (omega (arith, same_Some 1 n h, e))
prim_above bonds.Unwritten n h e = absurd (omega (arith, same_Some 1 n h, e))
prim_above bonds.Double n h e = absurd (omega (arith, same_Some 2 n h, e))
prim_above bonds.Triple n h e = absurd (omega (arith, same_Some 3 n h, e))
prim_above bonds.Quad n h e = absurd (omega (arith, same_Some 4 n h, e))
prim_above bonds.Any n h e = absurd (none-some n h)
prim_above bonds.Ring n h e = absurd (none-some n h)

-- an implied byte is not 0
pub byte_above : (e : Term BondPrim) (n : ℕ) → implied_byte e ≡ Some n → n ≢ 0
byte_above (Prim p) n h = prim_above p n h
byte_above (Not e) n h = absurd (none-some n h)
byte_above (And e f) n h = ⊎_elim (byte_above e n) (byte_above f n) (either_some (implied_byte e) (implied_byte f) n h)
byte_above (Or e f) n h = byte_above e n (alike_some _ (implied_byte e) (implied_byte f) n h).0

pub graph_symmetric : (g : GraphTerm) (family : Family) (x y : ℕ)
    → (graph_view g family).byte x y ≡ (graph_view g family).byte y x
graph_symmetric g family x y =
    ap (option_and_then (λ bond. implied_byte bond.expr))
    (find_same (λ bond. are_ends x y bond.a bond.b) (λ bond. are_ends y x bond.a bond.b)
    (λ bond. ends_swap x y bond.a bond.b) g.bonds)

-- ---- one more bond in the square

find_push_some : {A : Type 0} (p : A → Bool) (xs : List A) (x y : A) → find p xs ≡ Some y
    → find p (xs ++ x ∷ []) ≡ Some y
find_push_some p [] x y h = absurd (none-some y h)
find_push_some p (z ∷ zs) x y h = at (p z) h (find_push_some p zs x y)
  where
    at : (b : Bool) → cond b (Some z) (find p zs) ≡ Some y → (find p zs ≡ Some y → find p (zs ++ x ∷ []) ≡ Some y)
        → cond b (Some z) (find p (zs ++ x ∷ [])) ≡ Some y
    at true g more = g
    at false g more = more g

find_push_none : {A : Type 0} (p : A → Bool) (xs : List A) (x : A) → find p xs ≡ None
    → find p (xs ++ x ∷ []) ≡ cond (p x) (Some x) None
find_push_none p [] x h = refl
find_push_none p (z ∷ zs) x h = at (p z) h (find_push_none p zs x)
  where
    at : (b : Bool) → cond b (Some z) (find p zs) ≡ None
        → (find p zs ≡ None → find p (zs ++ x ∷ []) ≡ cond (p x) (Some x) None)
        → cond b (Some z) (find p (zs ++ x ∷ [])) ≡ cond (p x) (Some x) None
    at true g more = absurd (none-some z (sym g))
    at false g more = more g

option_cases : {A : Type 0} (o : Option A) → (o ≡ None) ⊎ ((x : A) × (o ≡ Some x))
option_cases None = inl refl
option_cases (Some x) = inr (x, refl)

bool_cases : (b : Bool) → (b ≡ true) ⊎ (b ≡ false)
bool_cases true = inl refl
bool_cases false = inr refl

-- what stands in the square for two atoms
abbrev value_of : List BondTerm → ℕ → ℕ → ℕ
value_of bs x y = unwrap_or (option_and_then (λ bond. implied_byte bond.expr)
    (find (λ bond. are_ends x y bond.a bond.b) bs)) 0

pub square_step : (bs : List BondTerm) (b : BondTerm) (old new : List ℕ) → IsSquare bs old → length old ≡ 65536
    → b.a < 256 → b.b < 256
    → ((x y : ℕ) → are_ends x y b.a b.b ≡ true → find (λ bond. are_ends x y bond.a bond.b) bs ≡ None)
    → ((implied_byte b.expr ≡ None) × (new ≡ old))
    ⊎ ((n : ℕ) × (implied_byte b.expr ≡ Some n) × (new ≡ set (set old (256 * b.a + b.b) n) (256 * b.b + b.a) n))
    → IsSquare (bs ++ b ∷ []) new
square_step bs b old new square size ha hb fresh cases x y hx hy =
    elim (bool_cases (are_ends x y b.a b.b)) [
      | inl ends ↦
          let none = fresh x y ends in
          let found : find (λ bond. are_ends x y bond.a bond.b) (bs ++ b ∷ [])
          ≡ Some b = find_push_none (λ bond. are_ends x y bond.a bond.b) bs b none
          ∙ ap (λ c. cond c (Some b) None) ends in
          let is : value_of (bs ++ b ∷ []) x y ≡ unwrap_or (implied_byte b.expr) 0 = ap
          (λ o. unwrap_or (option_and_then (λ bond. implied_byte bond.expr) o) 0) found in
          let was : get_or old (256 * x + y) 0 ≡ 0 = square x y hx hy
          ∙ ap (λ o. unwrap_or (option_and_then (λ bond. implied_byte bond.expr) o) 0) none in
          elim cases [
            | inl q ↦ ap (λ zs. get_or zs (256 * x + y) 0) q.1 ∙ was ∙ sym (is ∙ ap (λ o. unwrap_or o 0) q.0)
            | inr q ↦
                let n : ℕ = q.0 in
                let i : ℕ = 256 * b.a + b.b in
                let j : ℕ = 256 * b.b + b.a in
                let hi : i < length old = omega arith in
                let hj : j < length (set old i n) = rw length-set (omega arith) in
                let there : get_or (set (set old i n) j n) (256 * x + y) 0 ≡ n = elim (ends_cases x y b.a b.b ends) [
                  | inl r ↦
                      let at : 256 * x + y ≡ i = omega (arith, r.0, r.1) in
                      rw at (elim (cases_eq i j) [
                        | inl same ↦ rw same (get_or-set_same (set old j n) j n 0 (rw length-set (omega arith)))
                        | inr other ↦ get_or-set_other (set old i n) j i n 0 other ∙ get_or-set_same old i n 0 hi
                      ])
                  | inr r ↦
                      let at : 256 * x + y ≡ j = omega (arith, r.0, r.1) in
                      rw at (get_or-set_same (set old i n) j n 0 hj)
                ] in
                ap (λ zs. get_or zs (256 * x + y) 0) q.2 ∙ there ∙ sym (is ∙ ap (λ o. unwrap_or o 0) q.1)
          ]
      | inr apart ↦
          let found : find (λ bond. are_ends x y bond.a bond.b) (bs ++ b ∷ [])
          ≡ find (λ bond. are_ends x y bond.a bond.b) bs = elim
          (option_cases (find (λ bond. are_ends x y bond.a bond.b) bs)) [
            | inl none ↦ find_push_none (λ bond. are_ends x y bond.a bond.b) bs b none
                ∙ ap (λ c. cond c (Some b) None) apart ∙ sym none
            | inr some ↦ find_push_some (λ bond. are_ends x y bond.a bond.b) bs b some.0 some.1 ∙ sym some.1
          ] in
          let is : value_of (bs ++ b ∷ []) x y ≡ value_of bs x y = ap
          (λ o. unwrap_or (option_and_then (λ bond. implied_byte bond.expr) o) 0) found in
          let kept : get_or new (256 * x + y) 0 ≡ get_or old (256 * x + y) 0 = elim cases [
            | inl q ↦ ap (λ zs. get_or zs (256 * x + y) 0) q.1
            | inr q ↦
                let n : ℕ = q.0 in
                let i : ℕ = 256 * b.a + b.b in
                let j : ℕ = 256 * b.b + b.a in
                let ni : 256 * x + y ≢ i = λ e.
                let ea : x ≡ b.a = omega arith in
                let eb : y ≡ b.b = omega arith in
                false≢true (sym apart ∙ rw (ea, eb) (ends_there b.a b.b)) in
                let nj : 256 * x + y ≢ j = λ e.
                let ea : x ≡ b.b = omega arith in
                let eb : y ≡ b.a = omega arith in
                false≢true (sym apart ∙ rw (ea, eb) (ends_back b.b b.a)) in
                ap (λ zs. get_or zs (256 * x + y) 0) q.2 ∙ get_or-set_other (set old i n) j (256 * x + y) n 0 nj
                ∙ get_or-set_other old i (256 * x + y) n 0 ni
          ] in
          kept ∙ square x y hx hy ∙ sym is
    ]

-- ---- what is read

value_some : (e : Option ℕ) (f : ℕ) → e ≡ Some f → unwrap_or e 0 ≡ f
value_some e f h = ap (λ o. unwrap_or o 0) h

module _ (g : GraphTerm) (known : List Known) (square rows counts : List ℕ) (sheet : IsSheet g known square rows counts)
    (family : Family) (x y : ℕ) (hx : x < length g.atoms) (hy : y < length g.atoms) where
  square_at : get_or square (256 * x + y) 0 ≡ value_of g.bonds x y
  square_at =
      let few = sheet.few in
      sheet.bonds x y (omega arith) (omega arith)

  pub byte_from_square : get_or square (256 * x + y) 0 ≢ 0
      → (graph_view g family).byte x y ≡ Some (get_or square (256 * x + y) 0)
  byte_from_square above =
      elim (option_cases ((graph_view g family).byte x y)) [
        | inl none ↦ absurd (above (square_at ∙ ap (λ o. unwrap_or o 0) none))
        | inr some ↦ some.1 ∙ ap Some (sym (square_at ∙ ap (λ o. unwrap_or o 0) some.1))
      ]

  pub no_byte_from_square : get_or square (256 * x + y) 0 ≡ 0 → (b : ℕ) → (graph_view g family).byte x y ≡ Some b → ⊥
  no_byte_from_square none b h =
      let q = and_then_some _ (find (λ bond. are_ends x y bond.a bond.b) g.bonds) b h in
      byte_above q.0.expr b q.2 (sym (square_at ∙ ap (λ o. unwrap_or o 0) h) ∙ none)

  pub label_from_known : (d : Known) → (graph_view g family).label y ≡ label_of family (get_or known y d)
  label_from_known d =
      let few = sheet.few in
      let room = sheet.room in
      let got : Some (get_or known y d) ≡ option_map implied (slice_get g.atoms y) = sym
      (slice_get-get_or known y d (omega arith)) ∙ sheet.atoms y hy in
      at (slice_get g.atoms y) (get_or known y d) got
    where
      at : (o : Option (Term _)) (k : Known) → Some k ≡ option_map implied o
          → option_and_then (λ e. label_of family (implied e)) o ≡ label_of family k
      at None k h = absurd (none-some k (sym h))
      at (Some e) k h = ap (label_of family) (sym (same_Some k (implied e) h))

pub byte_within : (g : GraphTerm) → IsSimplePattern (length g.atoms) g.bonds → (family : Family) (x y b : ℕ)
    → (graph_view g family).byte x y ≡ Some b → y < length g.atoms
byte_within g simple family x y b h =
    let q = and_then_some _ (find (λ bond. are_ends x y bond.a bond.b) g.bonds) b h in
    let there = find_there (λ bond. are_ends x y bond.a bond.b) g.bonds q.0 q.1 in
    let ok = simple.in_range there.0 q.0 (slice_get_within g.bonds there.0 q.0 there.1) in
    let ok' : (q.0.a < length g.atoms) × (q.0.b < length g.atoms) = subst
    (λ (z : BondTerm). (z.a < length g.atoms) × (z.b < length g.atoms))
    (get_or_from_slice_get g.bonds there.0 q.0 q.0 there.1) ok in
    elim (ends_cases x y q.0.a q.0.b there.2) [
      | inl r ↦ subst (λ z. z < length g.atoms) r.1 ok'.1
      | inr r ↦ subst
          (λ z. z < length g.atoms) r.0 ok'.0
    ]

-- a bond with a byte leads to a neighbour in the row of its other end
pub row_neighbour : (g : GraphTerm) (known : List Known) (square rows counts : List ℕ)
    → IsSheet g known square rows counts → (family : Family) (last x y b : ℕ) → last ≡ x → x < length g.atoms
    → (graph_view g family).byte x y ≡ Some b
    → (k : ℕ) × (k < get_or counts last 0) × (get_or rows (256 * last + k) 0 ≡ y)
row_neighbour g known square rows counts sheet family last x y b is hx h =
    let hy = byte_within g sheet.ends family x y b h in
    let above : get_or square (256 * x + y) 0 ≢ 0 = λ e. no_byte_from_square g known square rows counts sheet family x y
    hx hy e b h in
    subst (λ z. (k : ℕ) × (k < get_or counts z 0) × (get_or rows (256 * z + k) 0 ≡ y)) (sym is)
    ((sheet.neighbours x hx).each y hy above)

pub graph_label_within : (g : GraphTerm) (family : Family) (x : ℕ) (l : ℕ × ℕ) → (graph_view g family).label x ≡ Some l
    → x < length g.atoms
graph_label_within g family x l h = let q = and_then_some _ (slice_get g.atoms x) l h
    in slice_get_within g.atoms x q.0 q.1

-- ---- what is written

-- one more atom
pub known_more : (g : GraphTerm) (known : List Known) (i : ℕ) (v : Known) (e : Term _) → i < length known
    → slice_get g.atoms i ≡ Some e → v ≡ implied e
    → ((j : ℕ) → j < i → slice_get known j ≡ option_map implied (slice_get g.atoms j)) → (j : ℕ) → j < i + 1
    → slice_get (set known i v) j ≡ option_map implied (slice_get g.atoms j)
known_more g known i v e within at is before j h =
    elim (cases_eq j i) [
      | inl same ↦
          let here : slice_get (set known i v) i ≡ Some v = slice_get-get_or (set known i v) i v (rw length-set within)
          ∙ ap Some (get_or-set_same known i v v within) in
          rw same (here ∙ ap Some is ∙ sym (ap (option_map implied) at))
      | inr other ↦
          let lt : j < i = omega arith in
          slice_get-get_or (set known i v) j v (rw length-set (omega arith))
          ∙ ap Some (get_or-set_other known i j v v other) ∙ sym (slice_get-get_or known j v (omega arith))
          ∙ before j lt
    ]

-- no bond before joins the same two
pub fresh_bond : (n : ℕ) (bs : List BondTerm) (b : BondTerm) (whole : List BondTerm) → IsSimplePattern n whole
    → ((j : ℕ) (c : BondTerm) → slice_get bs j ≡ Some c → slice_get whole j ≡ Some c)
    → slice_get whole (length bs) ≡ Some b → (x y : ℕ) → are_ends x y b.a b.b ≡ true
    → find (λ bond. are_ends x y bond.a bond.b) bs ≡ None
fresh_bond n bs b whole simple begins at x y ends =
    elim (option_cases (find (λ bond. are_ends x y bond.a bond.b) bs)) [
      | inl none ↦ none
      | inr some ↦
          let there = find_there (λ bond. are_ends x y bond.a bond.b) bs some.0 some.1 in
          let low = slice_get_within bs there.0 some.0 there.1 in
          let same = simple.once there.0 (length bs) x y
          (joins_at whole there.0 some.0 (begins there.0 some.0 there.1) there.2)
          (joins_at whole (length bs) b at ends) in
          absurd (omega (arith, low, same))
    ]
  where
    joins_at : (zs : List BondTerm) (j : ℕ) (c : BondTerm) → slice_get zs j ≡ Some c → are_ends x y c.a c.b ≡ true
        → JoinsAt (map (λ bond. (bond.a, bond.b)) zs) j x y
    joins_at zs j c here e =
        let ends : BondTerm → ℕ × ℕ = λ bond. (bond.a, bond.b) in
        let pair : slice_get (map ends zs) j ≡ Some (ends c) = slice_get-map ends zs j ∙ ap (option_map ends) here in
        elim (ends_cases x y c.a c.b e) [ inl r ↦ inl (rw (r.0, r.1) at pair) | inr r ↦ inr (rw (r.0, r.1) at pair) ]

pub simple_within : (g : GraphTerm) (n : ℕ) → IsSoundGraph n g → IsSimplePattern (length g.atoms) g.bonds
simple_within g n sound = record {
  in_range = λ k d h.
      let ends : BondTerm → ℕ × ℕ = λ bond. (bond.a, bond.b) in
      let at : get_or (map ends g.bonds) k (ends d) ≡ ends (get_or g.bonds k d) = get_or-map ends g.bonds k d (ends d) h
      in
      let ok = sound.in_range k (ends d) (rw length-map h) in
      subst (λ (e : ℕ × ℕ). (e.0 < length g.atoms) × (e.1 < length g.atoms)) at ok;
  once = sound.once;
}

pub simple_wider : (m n : ℕ) (bs : List BondTerm) → m ≤ n → IsSimplePattern m bs → IsSimplePattern n bs
simple_wider m n bs le simple = record {
  in_range = λ k d h. let ok = simple.in_range k d h in (omega (arith, ok.0), omega (arith, ok.1));
  once = simple.once;
}

pub zeros : (n i : ℕ) → ◌≡◌ {A = ℕ} (get_or (replicate n 0) i 0) 0
zeros n i =
    let blank : List ℕ = replicate n 0 in
    elim (cases_lt i n) [
      | inl l ↦ get_or-replicate n i 0 0 l
      | inr past ↦ get_or_past blank i 0
          (rw length-replicate past)
    ]

begins_take : (i : ℕ) (xs : List BondTerm) (j : ℕ) (c : BondTerm) → slice_get (take i xs) j ≡ Some c
    → slice_get xs j ≡ Some c
begins_take zero xs j c h = absurd (none-some c h)
begins_take (suc i) [] j c h = absurd (none-some c h)
begins_take (suc i) (x ∷ xs) zero c h = h
begins_take (suc i) (x ∷ xs) (suc j) c h = begins_take i xs j c h

-- the ends of a bond
pub ends_small : (n : ℕ) (whole : List BondTerm) (i : ℕ) (b : BondTerm) → IsSimplePattern n whole
    → slice_get whole i ≡ Some b → (b.a < n) × (b.b < n)
ends_small n whole i b simple at =
    let ok = simple.in_range i b (slice_get_within whole i b at) in
    subst (λ (z : BondTerm). (z.a < n) × (z.b < n)) (get_or_from_slice_get whole i b b at) ok

-- one more bond of a graph
pub square_more : (whole : List BondTerm) (i : ℕ) (b : BondTerm) (old new : List ℕ) → IsSimplePattern 256 whole
    → slice_get whole i ≡ Some b → IsSquare (take i whole) old → length old ≡ 65536
    → ((implied_byte b.expr ≡ None) × (new ≡ old))
    ⊎ ((n : ℕ) × (implied_byte b.expr ≡ Some n) × (new ≡ set (set old (256 * b.a + b.b) n) (256 * b.b + b.a) n))
    → IsSquare (take (i + 1) whole) new
square_more whole i b old new simple at square size cases =
    let ends = ends_small 256 whole i b simple at in
    let within = slice_get_within whole i b at in
    let long : length (take i whole) ≡ i = length-take-le i whole (omega arith) in
    let next : take (i + 1) whole ≡ take i whole ++ b ∷ [] = take_more whole i b within
    ∙ ap (λ z. take i whole ++ z ∷ []) (get_or_from_slice_get whole i b b at) in
    rw next
    (square_step (take i whole) b old new square size ends.0 ends.1
    (fresh_bond 256 (take i whole) b whole simple (begins_take i whole) (ap (slice_get whole) long ∙ at)) cases)
