-- What holds of all that a text says of its bonds holds of its bonds.
use Rattle.std.proofs.Common.{◌≡◌, ◌≢◌, ℕ, ◌+◌, ◌<◌, ◌≤◌, ◌==◌, Bool, true, false, cond, List, [], ◌∷◌, ◌++◌, length, map, filter, Option, None, Some, refl, subst, arith, length-append}
use Rattle.std.specs.List.{AllByRecursion}
use Rattle.line_walk.specs.Tree.{Ring, Tail, stop, next, branch, Joint, bonded, dotted}
use Rattle.line_walk.specs.Places.{Placed, joined_to, size_of, placed_from, placed_at, chain_entry, ring_entry, node_entries, entries_from}
use Rattle.line_walk.specs.Partners.{Entry, chain, ring, marks_of, of_number, unpaired, partner, bonds_at, bonds_after, bond_between, IsGraph}
use Rattle.line_walk.specs.declared.pairs.Mark.{Mark}
use Rattle.line_walk.specs.declared.pairs.Link.{Link}
use Rattle.smarts_words.specs.declared.word.Step.{Step}
use Rattle.smarts_words.specs.declared.word.BondWord.{BondWord}
use Rattle.smarts_words.specs.Expression.{Expression}
use Rattle.smarts_words.specs.Bracket.{Atom}
use Rattle.smarts_words.specs.Bonds.{BondPrim, agreed_bond, same_steps}
use Rattle.smarts_words.specs.Words.{smarts_words}
use Rattle.smarts_parse.specs.Whole.{Tree, Nodes, Item, tree_of, nodes_from}
use Rattle.smarts_parse.specs.Steps.{LeaveOne}
use Rattle.smarts_parse.proofs.Values.{all-append, bond_leaves_one}

module _ {K : Type 0} (agreed : K → K → Option K) (L : Link K → Type 0) (M : Mark K → Type 0) where
  abbrev pub EntryIs : Entry K → Type 0
  EntryIs (chain link) = L link
  EntryIs (ring mark) = M mark

  -- a bond of two marks
  abbrev pub BondIs : Type 0
  BondIs = (x y : Mark K) (k : K) → M x → M y → agreed x.kind y.kind ≡ Some k
      → L (record { a = x.atom; b = y.atom; kind = k })

  abbrev MayBe : Option (Link K) → Type 0
  MayBe None = Unit {0}
  MayBe (Some x) = L x

  abbrev MarkMayBe : Option (Mark K) → Type 0
  MarkMayBe None = Unit {0}
  MarkMayBe (Some x) = M x

  marks_all : (es : List (Entry K)) → AllByRecursion EntryIs es → AllByRecursion M (marks_of es)
  marks_all [] h = tt
  marks_all (chain link ∷ es) h = marks_all es h.1
  marks_all (ring mark ∷ es) h = (h.0, marks_all es h.1)

  kept_all : (b : Bool) (x : Mark K) (xs : List (Mark K)) → M x → AllByRecursion M xs
      → AllByRecursion M (cond b (x ∷ xs) xs)
  kept_all true x xs p h = (p, h)
  kept_all false x xs p h = h

  filter_all : (t : Mark K → Bool) (xs : List (Mark K)) → AllByRecursion M xs → AllByRecursion M (filter t xs)
  filter_all t [] h = tt
  filter_all t (x ∷ xs) h = kept_all (t x) x (filter t xs) h.0 (filter_all t xs h.1)

  unpaired_all : (xs : List (Mark K)) → AllByRecursion M xs → MarkMayBe (unpaired xs)
  unpaired_all [] h = tt
  unpaired_all (x ∷ []) h = h.0
  unpaired_all (x ∷ y ∷ xs) h = unpaired_all xs h.1.1

  agreed_is : BondIs → (x y : Mark K) (o : Option K) → M x → M y → agreed x.kind y.kind ≡ o
      → MayBe (elim o [ None ↦ None | Some k ↦ Some (record { a = x.atom; b = y.atom; kind = k }) ])
  agreed_is law x y None p q e = tt
  agreed_is law x y (Some k) p q e = law x y k p q e

  ring_all : BondIs → (mark : Mark K) (o : Option (Mark K)) → M mark → MarkMayBe o
      → AllByRecursion MayBe (elim o [ None ↦ [] | Some first ↦ bond_between agreed first mark ∷ [] ])
  ring_all law mark None p q = tt
  ring_all law mark (Some first) p q = (agreed_is law first mark (agreed first.kind mark.kind) q p refl, tt)

  bonds_all : BondIs → (before es : List (Entry K)) → AllByRecursion EntryIs before → AllByRecursion EntryIs es
      → AllByRecursion MayBe (bonds_after agreed before es)
  bonds_all law before [] p h = tt
  bonds_all law before (chain link ∷ es) p h = (
    h.0,
    bonds_all law (before ++ chain link ∷ []) es (all-append EntryIs before (chain link ∷ []) p (h.0, tt)) h.1,
  )
  bonds_all law before (ring mark ∷ es) p h =
      all-append MayBe (bonds_at agreed before (ring mark)) (bonds_after agreed (before ++ ring mark ∷ []) es)
      (ring_all law mark (partner mark.number before) h.0
      (unpaired_all (of_number mark.number (marks_of before))
      (filter_all (λ m. m.number == mark.number) (marks_of before) (marks_all before p))))
      (bonds_all law (before ++ ring mark ∷ []) es (all-append EntryIs before (ring mark ∷ []) p (h.0, tt)) h.1)

  somes_all : (links : List (Link K)) → AllByRecursion MayBe (map (λ x. Some x) links) → AllByRecursion L links
  somes_all [] h = tt
  somes_all (x ∷ links) h = (h.0, somes_all links h.1)

  pub links_all : BondIs → (es : List (Entry K)) (links : List (Link K)) → AllByRecursion EntryIs es
      → IsGraph agreed es links → AllByRecursion L links
  links_all law es links h graph =
      somes_all links (subst (λ (w : List (Option (Link K))). AllByRecursion MayBe w) graph.agree
      (bonds_all law [] es tt h))

-- the kinds of bonds are the steps of one expression, or none
abbrev pub IsKind : List (Step BondWord) → Type 0
IsKind k = k ≢ [] → LeaveOne 0 k

chosen : (b : Bool) (x k : List (Step BondWord)) → IsKind x → cond b (Some x) None ≡ Some k → IsKind k
chosen true x k p e = let f : x ≡ k = cc in subst (λ (w : List (Step BondWord)). IsKind w) f p
chosen false x k p e = absurd (cc)

agreed_kind : (x y k : List (Step BondWord)) → IsKind x → IsKind y → agreed_bond x y ≡ Some k → IsKind k
agreed_kind [] y k p q e = let f : y ≡ k = cc in subst (λ (w : List (Step BondWord)). IsKind w) f q
agreed_kind (x ∷ xs) [] k p q e = let f : x ∷ xs ≡ k = cc in subst (λ (w : List (Step BondWord)). IsKind w) f p
agreed_kind (x ∷ xs) (y ∷ ys) k p q e = chosen (same_steps (x ∷ xs) (y ∷ ys)) (x ∷ xs) k p e

abbrev KindEntry : Entry (List (Step BondWord)) → Type 0
KindEntry = EntryIs agreed_bond (λ x. IsKind x.kind) (λ x. IsKind x.kind)

rings_kinds : (n : ℕ) (rings : List (Ring (Expression BondPrim)))
    → AllByRecursion KindEntry (map (ring_entry smarts_words n) rings)
rings_kinds n [] = tt
rings_kinds n (x ∷ rings) = (bond_leaves_one x.bond, rings_kinds n rings)

chain_kinds : (n : ℕ) (o : Option (ℕ × Option (Expression BondPrim)))
    → AllByRecursion KindEntry (chain_entry smarts_words n o)
chain_kinds n None = tt
chain_kinds n (Some before) = (bond_leaves_one before.1, tt)

entries_kinds : (n : ℕ) (nodes : Nodes) → AllByRecursion KindEntry (entries_from smarts_words n nodes)
entries_kinds n [] = tt
entries_kinds n (x ∷ nodes) =
    all-append KindEntry (node_entries smarts_words n x) (entries_from smarts_words (n + 1) nodes)
    (all-append KindEntry (chain_entry smarts_words n x.before) (map (ring_entry smarts_words n) x.node.rings)
    (chain_kinds n x.before) (rings_kinds n x.node.rings))
    (entries_kinds (n + 1) nodes)

pub kinds_all : (nodes : Nodes) (links : List (Link (List (Step BondWord))))
    → IsGraph smarts_words.agreed (entries_from smarts_words 0 nodes) links
    → AllByRecursion (λ x. IsKind x.kind) links
kinds_all nodes links graph =
    links_all agreed_bond (λ x. IsKind x.kind) (λ x. IsKind x.kind) (λ x y k p q e. agreed_kind x.kind y.kind k p q e)
    (entries_from smarts_words 0 nodes) links (entries_kinds 0 nodes) graph

-- Bonds join atoms of the nodes, whose places are below a number
module _ (c : ℕ) where
  abbrev pub BeforeBelow : Option (ℕ × Option (Expression BondPrim)) → Type 0
  BeforeBelow None = Unit {0}
  BeforeBelow (Some before) = before.0 < c

  abbrev pub Below : Placed Atom (Expression BondPrim) → Type 0
  Below x = BeforeBelow x.before

  joined_below : (at : ℕ) (joint : Joint (Expression BondPrim)) → at < c → BeforeBelow (joined_to at joint)
  joined_below at (bonded bond) h = h
  joined_below at dotted h = tt

  tail_below : (at n : ℕ) (tail : Tail Atom (Expression BondPrim)) → at < c → n + size_of tail ≤ c
      → AllByRecursion Below (placed_from at n tail)
  tail_below at n stop h e = tt
  tail_below at n (next joint node tail) h e = (
    joined_below at joint h,
    tail_below n (n + 1) tail (omega arith) (omega arith),
  )
  tail_below at n (branch joint node inner tail) h e = (
    joined_below at joint h,
    all-append Below (placed_from n (n + 1) inner) (placed_from at (n + 1 + size_of inner) tail)
        (tail_below n (n + 1) inner (omega arith) (omega arith))
        (tail_below at (n + 1 + size_of inner) tail h (omega arith)),
  )

  abbrev EndsEntry : Entry (List (Step BondWord)) → Type 0
  EndsEntry = EntryIs agreed_bond (λ x. (x.a < c) × (x.b < c)) (λ x. x.atom < c)

  rings_ends : (n : ℕ) → n < c → (rings : List (Ring (Expression BondPrim)))
      → AllByRecursion EndsEntry (map (ring_entry smarts_words n) rings)
  rings_ends n h [] = tt
  rings_ends n h (x ∷ rings) = (h, rings_ends n h rings)

  chain_ends : (n : ℕ) → n < c → (o : Option (ℕ × Option (Expression BondPrim))) → BeforeBelow o
      → AllByRecursion EndsEntry (chain_entry smarts_words n o)
  chain_ends n h None k = tt
  chain_ends n h (Some before) k = ((k, h), tt)

  entries_ends : (n : ℕ) (nodes : Nodes) → AllByRecursion Below nodes → n + length nodes ≤ c
      → AllByRecursion EndsEntry (entries_from smarts_words n nodes)
  entries_ends n [] h e = tt
  entries_ends n (x ∷ nodes) h e =
      let lt : n < c = omega arith in
      all-append EndsEntry (node_entries smarts_words n x) (entries_from smarts_words (n + 1) nodes)
      (all-append EndsEntry (chain_entry smarts_words n x.before) (map (ring_entry smarts_words n) x.node.rings)
      (chain_ends n lt x.before h.0) (rings_ends n lt x.node.rings))
      (entries_ends (n + 1) nodes h.1 (omega arith))

  pub ends_all : (nodes : Nodes) (links : List (Link (List (Step BondWord)))) → AllByRecursion Below nodes
      → length nodes ≤ c → IsGraph smarts_words.agreed (entries_from smarts_words 0 nodes) links
      → AllByRecursion (λ x. (x.a < c) × (x.b < c)) links
  ends_all nodes links h e graph =
      links_all agreed_bond (λ x. (x.a < c) × (x.b < c)) (λ x. x.atom < c) (λ x y k p q e. (p, q))
      (entries_from smarts_words 0 nodes) links (entries_ends 0 nodes h (omega arith)) graph

  tree_below : (n : ℕ) (tree : Tree) → n + 1 + size_of tree.tail ≤ c → AllByRecursion Below (placed_at n tree)
  tree_below n tree h = (tt, tail_below n (n + 1) tree.tail (omega arith) h)

pub tail_size : (at n : ℕ) (tail : Tail Atom (Expression BondPrim)) → length (placed_from at n tail) ≡ size_of tail
tail_size at n stop = refl
tail_size at n (next joint node tail) = let e = tail_size n (n + 1) tail in omega arith
tail_size at n (branch joint node inner tail) =
    let e = tail_size n (n + 1) inner in
    let f = tail_size at (n + 1 + size_of inner) tail in
    let g = length-append (placed_from n (n + 1) inner) (placed_from at (n + 1 + size_of inner) tail) in
    omega arith

pub nodes_below : (c n : ℕ) (items : List Item) → n + length (nodes_from n items) ≤ c
    → AllByRecursion (Below c) (nodes_from n items)
nodes_below c n [] h = tt
nodes_below c n (x ∷ items) h =
    let nodes = placed_at n (tree_of x) in
    let others = nodes_from (n + length nodes) items in
    let e = length-append nodes others in
    let f = tail_size n (n + 1) (tree_of x).tail in
    all-append (Below c) nodes others (tree_below c n (tree_of x) (omega arith))
    (nodes_below c (n + length nodes) items (omega arith))

pub placed_below : (c : ℕ) (tree : Tree) → length (placed_at 0 tree) ≤ c → AllByRecursion (Below c) (placed_at 0 tree)
placed_below c tree h = let f = tail_size 0 1 tree.tail in tree_below c 0 tree (omega arith)
