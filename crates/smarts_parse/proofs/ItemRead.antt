-- Items, one after another.
use Rattle.std.proofs.Common.{◌≡◌, ℕ, inl, true, false, List, [], ◌∷◌, ◌++◌, refl, sym, ◌∙◌, ap, append_assoc}
use Rattle.line_walk.specs.Tree as walk
use Rattle.line_walk.specs.Follow.{Begins}
use Rattle.line_walk.specs.Walk.{IsPartRead}
use Rattle.line_walk.proofs.Follow.{begins-append, begins_clash}
use Rattle.line_walk.proofs.Unique.{tails}
use Rattle.smarts_words.specs.Words.{smarts_words, BeginsAtom}
use Rattle.smarts_words.proofs.Apart.{smarts_apart}
use Rattle.smarts_parse.specs.Whole.{Tree, Nodes, Item, plain, group, item_text}
use Rattle.smarts_parse.specs.Draft.{Read, IsItemOf, IsItemRead}

-- what a tree is spelled as begins as an atom
pub tree_begins : (tree : Tree) (rest : List ℕ) → walk.IsTree smarts_words tree
    → Begins BeginsAtom (walk.spelling smarts_words tree ++ rest)
tree_begins tree rest is =
    let node = tree.first in
    let rings = walk.node_text smarts_words node in
    begins-append BeginsAtom (walk.spelling smarts_words tree) rest
    (begins-append BeginsAtom (walk.node_text smarts_words node) (walk.tail_text smarts_words tree.tail)
    (begins-append BeginsAtom (smarts_words.atom_text node.atom) _ (smarts_apart.atom_begins node.atom is.0.0)))

pub not_open : (tree : Tree) (rest bytes inside : List ℕ) → walk.IsTree smarts_words tree
    → bytes ≡ walk.spelling smarts_words tree ++ rest → bytes ≡ 40 ∷ inside → ⊥
not_open tree rest bytes inside is e f = begins_clash BeginsAtom (λ b. b ≡ 40) (walk.spelling smarts_words tree ++ rest)
    (40 ∷ inside) (λ b h k. smarts_apart.atom_or_walk b h (inl k)) (tree_begins tree rest is) refl (sym e ∙ f)

pub group_text : (tree : Tree) (rest : List ℕ)
    → item_text (group tree) ++ rest ≡ 40 ∷ (walk.spelling smarts_words tree ++ 41 ∷ rest)
group_text tree rest = ap (λ (v : List ℕ). 40 ∷ v) (append_assoc (walk.spelling smarts_words tree) (41 ∷ []) rest)

-- an item was read
pub plain_read : (front : Nodes) (old new : Read) (bytes rest : List ℕ)
    → IsPartRead smarts_words front old new bytes rest → IsItemRead front old new bytes false rest
plain_read front old new bytes rest p = record {
  item = plain p.tree;
  is = record { tree = p.is.0; spelled = p.is.1; stops = p.stops };
  holds = p.holds;
  depth = p.depth;
  grouped = refl;
}

pub group_read : (front : Nodes) (old new : Read) (bytes inside rest left : List ℕ) → bytes ≡ 40 ∷ inside
    → rest ≡ 41 ∷ left → IsPartRead smarts_words front old new inside rest
    → IsItemRead front old new bytes true left
group_read front old new bytes inside rest left e f p = record {
  item = group p.tree;
  is = record {
    tree = p.is.0;
    spelled = e ∙ ap (λ (v : List ℕ). 40 ∷ v) (p.is.1 ∙ ap (λ v. walk.spelling smarts_words p.tree ++ v) f)
        ∙ sym (group_text p.tree left);
    stops = tt;
  };
  holds = p.holds;
  depth = p.depth;
  grouped = refl;
}

-- which item the bytes may begin as, by their first byte
pub group_first : (bytes inside : List ℕ) → bytes ≡ 40 ∷ inside → (x : Item) (rest : List ℕ) → IsItemOf bytes x rest
    → (tree : Tree) × walk.IsPartOf smarts_words inside tree (41 ∷ rest)
group_first bytes inside e (plain tree) rest is = absurd (not_open tree rest bytes inside is.tree is.spelled e)
group_first bytes inside e (group tree) rest
    is = (tree, (is.tree, tails 40 40 inside _ (sym e ∙ is.spelled ∙ group_text tree rest)))
