-- A text has at most one tree, with its items and recursive parts.
use Rattle.std.proofs.Common.{◌≡◌, ℕ, inl, List, [], ◌∷◌, ◌++◌, refl, sym, ◌∙◌, ap, subst}
use Rattle.line_walk.specs.Tree as walk
use Rattle.line_walk.proofs.Unique.{one_part, one_tree, tails}
use Rattle.smarts_words.specs.Words.{smarts_words}
use Rattle.smarts_words.proofs.Apart.{smarts_apart}
use Rattle.smarts_parse.specs.Whole.{Tree, Item, plain, group, item_text, others_text, AreItems, Parts, none, part, part_texts, tree_atoms, AreParts, Whole, nodes_from, IsWholeOf}
use Rattle.line_walk.specs.Places.{atoms_by}
use Rattle.smarts_parse.specs.Draft.{IsItemOf}
use Rattle.smarts_parse.proofs.ItemRead.{not_open, group_text}
use Rattle.smarts_parse.proofs.ItemsRead.{stops_after, first_tree}

pub same_tree : (text : List ℕ) (s t : Tree) → walk.IsTreeOf smarts_words text s → walk.IsTreeOf smarts_words text t
    → s ≡ t
same_tree = one_tree smarts_words smarts_apart

same_item : (bytes : List ℕ) (x y : Item) (r s : List ℕ) → IsItemOf bytes x r → IsItemOf bytes y s → (x ≡ y) × (r ≡ s)
same_item bytes (plain t) (plain u) r s is it =
    let p = one_part smarts_words smarts_apart bytes t u r s is.stops it.stops (is.tree, is.spelled)
    (it.tree, it.spelled) in
    (ap (λ v. plain v) p.0, p.1)
same_item bytes (plain t) (group u) r s is it = absurd
    (not_open t r bytes _ is.tree is.spelled (it.spelled ∙ group_text u s))
same_item bytes (group t) (plain u) r s is it = absurd
    (not_open u s bytes _ it.tree it.spelled (is.spelled ∙ group_text t r))
same_item bytes (group t) (group u) r s is it =
    let inside = walk.spelling smarts_words t ++ 41 ∷ r in
    let e : inside ≡ walk.spelling smarts_words u ++ 41 ∷ s = tails 40 40 _ _ (sym (is.spelled ∙ group_text t r)
    ∙ it.spelled ∙ group_text u s) in
    let p = one_part smarts_words smarts_apart inside t u (41 ∷ r) (41 ∷ s) (inl refl) (inl refl) (is.tree, refl)
    (it.tree, e) in
    (ap (λ v. group v) p.0, tails 41 41 r s p.1)

item_of : (bytes : List ℕ) (x : Item) (xs : List Item) → AreItems x xs → bytes ≡ item_text x ++ others_text xs
    → IsItemOf bytes x (others_text xs)
item_of bytes x xs are e = record { tree = first_tree x xs are; spelled = e; stops = stops_after x xs are }

pub same_list : (x y : Item) (xs ys : List Item) → x ≡ y → xs ≡ ys → x ∷ xs ≡ y ∷ ys
same_list x y xs ys e f = cc

pub same_items : (bytes : List ℕ) (x : Item) (xs : List Item) (y : Item) (ys : List Item) → AreItems x xs
    → AreItems y ys → bytes ≡ item_text x ++ others_text xs → bytes ≡ item_text y ++ others_text ys
    → (x ≡ y) × (xs ≡ ys)
same_items bytes x [] y [] ax ay e f = (
  (same_item bytes x y [] [] (item_of bytes x [] ax e)
      (item_of bytes y [] ay f)).0,
  refl,
)
same_items bytes x [] y (v ∷ vs) ax ay e f = let p = (same_item bytes x y [] (others_text (v ∷ vs))
    (item_of bytes x [] ax e) (item_of bytes y (v ∷ vs) ay f)).1 in absurd (cc)
same_items bytes x (u ∷ us) y [] ax ay e f = let p = (same_item bytes x y (others_text (u ∷ us)) []
    (item_of bytes x (u ∷ us) ax e) (item_of bytes y [] ay f)).1 in absurd (cc)
same_items bytes x (u ∷ us) y (v ∷ vs) ax ay e f =
    let p = same_item bytes x y (others_text (u ∷ us)) (others_text (v ∷ vs)) (item_of bytes x (u ∷ us) ax e)
    (item_of bytes y (v ∷ vs) ay f) in
    let q = same_items (item_text u ++ others_text us) u us v vs ax.2 ay.2 refl (tails 46 46 _ _ p.1) in
    (p.0, same_list u v us vs q.0 q.1)

same_part : (s t : Tree) (p q r o : Parts) → s ≡ t → p ≡ q → r ≡ o → part s p r ≡ part t q o
same_part s t p q r o e f g = cc

pub same_parts : (texts : List (List ℕ)) (p q : Parts) → AreParts texts p → AreParts texts q → p ≡ q
same_parts [] none none h k = refl
same_parts [] none (part t i o) h k = absurd k
same_parts [] (part s i o) q h k = absurd h
same_parts (x ∷ xs) none q h k = absurd h
same_parts (x ∷ xs) (part s i o) none h k = absurd k
same_parts (x ∷ xs) (part s i o) (part t j u) h k =
    let e = same_tree x s t h.0 k.0 in
    let P : Tree → Type 0 = λ v. AreParts (part_texts (tree_atoms v)) j in
    same_part s t i j o u e (same_parts (part_texts (tree_atoms s)) i j h.1 (subst P (sym e) k.1))
    (same_parts xs o u h.2 k.2)

same_by : (v w : Whole) → v.first ≡ w.first → v.others ≡ w.others → v.parts ≡ w.parts → v ≡ w
same_by v w e f g =
    let F : Item → Whole = λ k. record { first = k; others = v.others; parts = v.parts } in
    let G : List Item → Whole = λ k. record { first = w.first; others = k; parts = v.parts } in
    let H : Parts → Whole = λ k. record { first = w.first; others = w.others; parts = k } in
    ap F e ∙ ap G f ∙ ap H g

pub one_whole : (text : List ℕ) (v w : Whole) → IsWholeOf text v → IsWholeOf text w → v ≡ w
one_whole text v w is it =
    let s = same_items text v.first v.others w.first w.others is.items it.items is.spelled it.spelled in
    let P : List Item → Type 0 = λ l. AreParts (part_texts (atoms_by smarts_words (nodes_from 0 l))) w.parts in
    same_by v w s.0 s.1 (same_parts (part_texts (atoms_by smarts_words (nodes_from 0 (v.first ∷ v.others)))) v.parts
    w.parts is.parts (subst P (sym (same_list v.first w.first v.others w.others s.0 s.1)) it.parts))
