-- What a tree says of bonds is said of its atoms.
use Rattle.std.proofs.Common.{◌≡◌, ℕ, ◌+◌, ◌<◌, ◌≤◌, List, [], ◌∷◌, ◌++◌, length, map, Option, None, Some, ◌∙◌, ap, subst, arith}
use Rattle.std.proofs.lemmas.List.{length-append, length-map}
use Rattle.std.specs.Option.{IfSome, option_map}
use Rattle.std.specs.List.{AllByRecursion}
use Rattle.line_walk.specs.declared.pairs.Mark.{Mark}
use Rattle.line_walk.specs.declared.pairs.Link.{Link}
use Rattle.line_walk.specs.Words.{Words}
use Rattle.line_walk.specs.Tree.{Ring, Joint, bonded, dotted, Tail, stop, next, branch, Tree}
use Rattle.line_walk.specs.Places.{Placed, joined_to, size_of, placed_from, placed_nodes, chain_entry, ring_entry, node_entries, entries_from, entries_of}
use Rattle.line_walk.specs.Partners.{Entry, chain, ring, marks_of, of_number, unpaired, partner, bond_between, bonds_at, bonds_after}
use Rattle.line_walk.specs.Reading.{IsGraphOf}
use Rattle.line_walk.proofs.Lists.{all_filter, all_push}

all_joined : {X : Type 0} (P : X → Type 0) (xs ys : List X) → AllByRecursion P xs → AllByRecursion P ys
    → AllByRecursion P (xs ++ ys)
all_joined P [] ys h k = k
all_joined P (x ∷ xs) ys h k = (h.0, all_joined P xs ys h.1 k)

all_somes : {X : Type 0} (P : X → Type 0) (xs : List X) → AllByRecursion (λ o. IfSome o P) (map (λ x. Some x) xs)
    → AllByRecursion P xs
all_somes P [] h = tt
all_somes P (x ∷ xs) h = (h.0, all_somes P xs h.1)

module _ {K : Type 0} (agreed : K → K → Option K) (n : ℕ) where
  abbrev IsMark : Mark K → Type 0
  IsMark m = m.atom < n

  abbrev IsLink : Link K → Type 0
  IsLink x = (x.a < n) × (x.b < n)

  abbrev IsEntry : Entry K → Type 0
  IsEntry (chain x) = IsLink x
  IsEntry (ring m) = IsMark m

  abbrev AreLinks : List (Option (Link K)) → Type 0
  AreLinks os = AllByRecursion (λ o. IfSome o IsLink) os

  marks_within : (es : List (Entry K)) → AllByRecursion IsEntry es → AllByRecursion IsMark (marks_of es)
  marks_within [] h = tt
  marks_within (chain x ∷ es) h = marks_within es h.1
  marks_within (ring m ∷ es) h = (h.0, marks_within es h.1)

  unpaired_within : (ms : List (Mark K)) → AllByRecursion IsMark ms → IfSome (unpaired ms) IsMark
  unpaired_within [] h = tt
  unpaired_within (a ∷ []) h = h.0
  unpaired_within (a ∷ b ∷ ms) h = unpaired_within ms h.1.1

  partner_within : (number : ℕ) (es : List (Entry K)) → AllByRecursion IsEntry es → IfSome (partner number es) IsMark
  partner_within number es h =
      unpaired_within (of_number number (marks_of es)) (all_filter IsMark _ (marks_of es) (marks_within es h))

  agreed_within : (a b : ℕ) (o : Option K) → a < n → b < n
      → IfSome (option_map (λ k. (let x : Link K = record { a = a; b = b; kind = k } in x)) o) IsLink
  agreed_within a b None p q = tt
  agreed_within a b (Some k) p q = (p, q)

  closed_within : (m : Mark K) (o : Option (Mark K)) → IfSome o IsMark → IsMark m
      → AreLinks (elim o [ None ↦ [] | Some first ↦ bond_between agreed first m ∷ [] ])
  closed_within m None h k = tt
  closed_within m (Some first) h k = (agreed_within first.atom m.atom (agreed first.kind m.kind) h k, tt)

  at_within : (es : List (Entry K)) (x : Entry K) → AllByRecursion IsEntry es → IsEntry x
      → AreLinks (bonds_at agreed es x)
  at_within es (chain x) h k = (k, tt)
  at_within es (ring m) h k = closed_within m (partner m.number es) (partner_within m.number es h) k

  after_within : (es more : List (Entry K)) → AllByRecursion IsEntry es → AllByRecursion IsEntry more
      → AreLinks (bonds_after agreed es more)
  after_within es [] h k = tt
  after_within es (x ∷ more) h k =
      all_joined (λ o. IfSome o IsLink) (bonds_at agreed es x) (bonds_after agreed (es ++ x ∷ []) more)
      (at_within es x h k.0) (after_within (es ++ x ∷ []) more (all_push IsEntry es x h k.0) k.1)

-- joined to a place below n
abbrev IsAfter : {A B : Type 0} → ℕ → Placed A B → Type 0
IsAfter n x = IfSome x.before (λ p. p.0 < n)

joint_after : {B : Type 0} (n at : ℕ) (joint : Joint B) → at < n → IfSome (joined_to at joint) (λ p. p.0 < n)
joint_after n at (bonded bond) h = h
joint_after n at dotted h = tt

placed_after : {A B : Type 0} (n at k : ℕ) (t : Tail A B) → at < n → k + size_of t ≤ n
    → AllByRecursion (IsAfter n) (placed_from at k t)
placed_after n at k stop h le = tt
placed_after n at k (next joint node t) h le =
    (joint_after n at joint h, placed_after n k (k + 1) t (omega arith) (omega arith))
placed_after n at k (branch joint node i t) h le = (
  joint_after n at joint h,
  all_joined (IsAfter n) (placed_from k (k + 1) i) (placed_from at (k + 1 + size_of i) t)
      (placed_after n k (k + 1) i (omega arith) (omega arith))
      (placed_after n at (k + 1 + size_of i) t h (omega arith)),
)

length-placed : {A B : Type 0} (at k : ℕ) (t : Tail A B) → length (placed_from at k t) ≡ size_of t
length-placed at k stop = omega arith
length-placed at k (next joint node t) = let e = length-placed k (k + 1) t in omega arith
length-placed at k (branch joint node i t) =
    let e = length-placed k (k + 1) i in
    let f = length-placed at (k + 1 + size_of i) t in
    let l = length-append (placed_from k (k + 1) i) (placed_from at (k + 1 + size_of i) t) in
    omega arith

module _ {V K : Type 0} (w : Words V K) (n : ℕ) where
  rings_within : (k : ℕ) (rings : List (Ring w.Bond)) → k < n
      → AllByRecursion (IsEntry w.agreed n) (map (ring_entry w k) rings)
  rings_within k [] h = tt
  rings_within k (x ∷ xs) h = (h, rings_within k xs h)

  chain_within : (k : ℕ) (before : Option (ℕ × Option w.Bond)) → k < n → IfSome before (λ p. p.0 < n)
      → AllByRecursion (IsEntry w.agreed n) (chain_entry w k before)
  chain_within k None h p = tt
  chain_within k (Some before) h p = ((p, h), tt)

  entries_within : (k : ℕ) (xs : List (Placed w.Atom w.Bond)) → AllByRecursion (IsAfter n) xs → k + length xs ≤ n
      → AllByRecursion (IsEntry w.agreed n) (entries_from w k xs)
  entries_within k [] h le = tt
  entries_within k (x ∷ xs) h le =
      let below : k < n = omega arith in
      all_joined (IsEntry w.agreed n) (node_entries w k x) (entries_from w (k + 1) xs)
      (all_joined (IsEntry w.agreed n) (chain_entry w k x.before) (map (ring_entry w k) x.node.rings)
      (chain_within k x.before below h.0) (rings_within k x.node.rings below))
      (entries_within (k + 1) xs h.1 (omega arith))

  links_within : (es : List (Entry K)) (links : List (Link K)) → AllByRecursion (IsEntry w.agreed n) es
      → bonds_after w.agreed [] es ≡ map (λ x. Some x) links → AllByRecursion (IsLink w.agreed n) links
  links_within es links h e =
      all_somes (IsLink w.agreed n) links (subst (λ os. AreLinks w.agreed n os) e (after_within w.agreed n [] es tt h))

pub bonds_join_atoms : {V K : Type 0} (w : Words V K) (tree : Tree w.Atom w.Bond) (atoms : List V)
    (links : List (Link K)) → IsGraphOf w tree atoms links
    → AllByRecursion (λ x. (x.a < length atoms) × (x.b < length atoms)) links
bonds_join_atoms w tree atoms links h =
    let l = length-placed 0 1 tree.tail in
    let n : length atoms ≡ 1 + size_of tree.tail = ap length h.0
    ∙ length-map (placed_nodes tree) (λ x. w.atom_of x.node.atom) ∙ omega arith in
    links_within w (length atoms) (entries_of w tree) links (entries_within w (length atoms) 0 (placed_nodes tree)
    (tt, placed_after (length atoms) 0 1 tree.tail (omega arith) (omega arith)) (omega arith)) h.1.agree
