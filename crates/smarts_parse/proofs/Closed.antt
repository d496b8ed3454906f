-- A draft is closed, one reader after another.
use Rattle.std.proofs.Common.{◌≡◌, ℕ, List, [], ◌∷◌, ◌++◌, reverse, Err, refl, sym, ◌∙◌, ap, subst}
use Rattle.std.proofs.lemmas.List.{append-nil, reverse-append}
use Rattle.std.specs.List.{AllByRecursion}
use Rattle.line_walk.specs.Places.{placed_nodes}
use Rattle.line_walk.specs.Walk.{Holds, IsGraphBy, IsClosing}
use Rattle.line_walk.specs.declared.fault.Fault.{Fault}
use Rattle.line_walk.specs.declared.fault.Fault.TheVariants as walk
use Rattle.smarts_words.specs.Words.{smarts_words}
use Rattle.smarts_parse.specs.declared.fault.SmartsFault.{SmartsFault}
use Rattle.smarts_parse.specs.declared.fault.SmartsFault.TheVariants.{Reaction, Syntax, Stereo, RingSet, Ring, Limit, NoMemory}
use Rattle.smarts_parse.specs.declared.draft.Draft.{Draft}
use Rattle.smarts_parse.specs.declared.close.Closed.{Closed}
use Rattle.smarts_parse.specs.Faults.{fault_of}
use Rattle.smarts_parse.specs.Whole.{Tree, Nodes, none, Whole, nodes_of}
use Rattle.smarts_parse.specs.Reading.{DoPair, DoRingsPair}
use Rattle.smarts_parse.specs.Draft.{Read, WalkGraph, AreRead, AreGraphs, IsDraftOf, AreClosed, IsOpenBy, AreOpenBy}
use Rattle.smarts_parse.proofs.Closing.{pair_closed, pair_open}

-- of the trees some are closed, and readers of the others are left
pub record ClosedSoFar (trees : List Tree) (graphs : List WalkGraph) (readers : List Read) : Type 0 where
  pub done : List Tree
  pub left : List Tree
  pub is : trees ≡ done ++ left
  pub graphs_of : AreGraphs done graphs
  pub read : AreRead left (reverse readers)

pub none_closed : (trees : List Tree) (readers : List Read) → AreRead trees (reverse readers)
    → ClosedSoFar trees [] readers
none_closed trees readers h = record { done = []; left = trees; is = refl; graphs_of = tt; read = h }

-- the next reader
pub record NextRead (trees : List Tree) (graphs : List WalkGraph) (readers : List Read) (reader : Read) : Type 0 where
  pub done : List Tree
  pub tree : Tree
  pub left : List Tree
  pub is : trees ≡ done ++ tree ∷ left
  pub graphs_of : AreGraphs done graphs
  pub held : Holds smarts_words (placed_nodes tree) reader
  pub read : AreRead left (reverse readers)

next_at : (trees : List Tree) (graphs : List WalkGraph) (readers : List Read) (reader : Read) (done left : List Tree)
    → trees ≡ done ++ left → AreGraphs done graphs → AreRead left (reader ∷ reverse readers)
    → NextRead trees graphs readers reader
next_at trees graphs readers reader done [] e g h = absurd h
next_at trees graphs readers reader done (tree ∷ left) e g h = record {
  done = done;
  tree = tree;
  left = left;
  is = e;
  graphs_of = g;
  held = h.0;
  read = h.1;
}

pub next_read : (trees : List Tree) (graphs : List WalkGraph) (all readers : List Read) (reader : Read)
    → all ≡ readers ++ reader ∷ [] → ClosedSoFar trees graphs all → NextRead trees graphs readers reader
next_read trees graphs all readers reader e c =
    let F : List Read → Type 0 = λ v. AreRead c.left v in
    next_at trees graphs readers reader c.done c.left c.is c.graphs_of
    (subst F (ap reverse e ∙ reverse-append readers (reader ∷ [])) c.read)

graphs_push : (trees : List Tree) (graphs : List WalkGraph) (tree : Tree) (graph : WalkGraph) → AreGraphs trees graphs
    → IsGraphBy smarts_words (placed_nodes tree) graph → AreGraphs (trees ++ tree ∷ []) (graphs ++ graph ∷ [])
graphs_push [] [] tree graph h is = (is, tt)
graphs_push [] (g ∷ graphs) tree graph h is = absurd h
graphs_push (t ∷ trees) [] tree graph h is = absurd h
graphs_push (t ∷ trees) (g ∷ graphs) tree graph h is = (h.0, graphs_push trees graphs tree graph h.1 is)

pub one_closed : (trees : List Tree) (graphs after : List WalkGraph) (readers : List Read) (reader : Read)
    (graph : WalkGraph) → (n : NextRead trees graphs readers reader)
    → IsGraphBy smarts_words (placed_nodes n.tree) graph → after ≡ graphs ++ graph ∷ []
    → ClosedSoFar trees after readers
one_closed trees graphs after readers reader graph n is e =
    let F : List WalkGraph → Type 0 = λ v. AreGraphs (n.done ++ n.tree ∷ []) v in
    record {
      done = n.done ++ n.tree ∷ [];
      left = n.left;
      is = n.is ∙ step n.done n.tree n.left;
      graphs_of = subst F (sym e) (graphs_push n.done graphs n.tree graph n.graphs_of is);
      read = n.read;
    }
  where
    step : (xs : List Tree) (x : Tree) (ys : List Tree) → xs ++ x ∷ ys ≡ (xs ++ x ∷ []) ++ ys
    step [] x ys = refl
    step (z ∷ xs) x ys = ap (λ v. z ∷ v) (step xs x ys)

all_at : (trees done left : List Tree) (graphs : List WalkGraph) → trees ≡ done ++ left → AreGraphs done graphs
    → AreRead left [] → AreGraphs trees graphs
all_at trees done [] graphs e g h =
    let F : List Tree → Type 0 = λ v. AreGraphs v graphs in
    subst F (sym (e ∙ append-nil done)) g
all_at trees done (t ∷ left) graphs e g h = absurd h

pub all_closed : (trees : List Tree) (graphs : List WalkGraph) (readers : List Read) → readers ≡ []
    → ClosedSoFar trees graphs readers → AreGraphs trees graphs
all_closed trees graphs readers e c =
    let F : List Read → Type 0 = λ v. AreRead c.left (reverse v) in
    all_at trees c.done c.left graphs c.is c.graphs_of (subst F e c.read)

-- a reader whose ring numbers do not pair
pub not_paired : (nodes : Nodes) (depth : ℕ) (e : Fault) → IsClosing smarts_words nodes depth (Err e) → ¬ DoPair nodes
not_paired nodes depth walk.Ring h p = h p.0 p.1
not_paired nodes depth walk.Syntax h p = h
not_paired nodes depth walk.NoMemory h p = h

member : (done left : List Tree) (tree : Tree)
    → AllByRecursion (λ t. DoPair (placed_nodes t)) (done ++ tree ∷ left) → DoPair (placed_nodes tree)
member [] left tree h = h.0
member (t ∷ done) left tree h = member done left tree h.1

pub part_open : (trees : List Tree) (graphs : List WalkGraph) (readers : List Read) (reader : Read) (depth : ℕ)
    (e : Fault) → (n : NextRead trees graphs readers reader)
    → IsClosing smarts_words (placed_nodes n.tree) depth (Err e) → AreOpenBy trees (fault_of e)
part_open trees graphs readers reader depth walk.Ring n h = λ k.
    let F : List Tree → Type 0 = λ v. AllByRecursion (λ t. DoPair (placed_nodes t)) v in
    not_paired (placed_nodes n.tree) depth walk.Ring h (member n.done n.left n.tree (subst F n.is k))
part_open trees graphs readers reader depth walk.Syntax n h = absurd h
part_open trees graphs readers reader depth walk.NoMemory n h = absurd h

pub top_open : (whole : Whole) (depth : ℕ) (e : Fault) → IsClosing smarts_words (nodes_of whole) depth (Err e)
    → IsOpenBy whole (fault_of e)
top_open whole depth walk.Ring h = λ k. not_paired (nodes_of whole) depth walk.Ring h k.0
top_open whole depth walk.Syntax h = absurd h
top_open whole depth walk.NoMemory h = absurd h

pub parts_open : (whole : Whole) (d : Draft) (e : SmartsFault) → (is : IsDraftOf whole d) → AreOpenBy is.trees e
    → IsOpenBy whole e
parts_open whole d Ring is h = λ k. h (pair_closed none is.trees whole.parts is.closing k.1).1
parts_open whole d NoMemory is h = tt
parts_open whole d Reaction is h = absurd h
parts_open whole d Syntax is h = absurd h
parts_open whole d Stereo is h = absurd h
parts_open whole d RingSet is h = absurd h
parts_open whole d Limit is h = absurd h

-- the ring numbers of what is closed pair
graphs_pair : (trees : List Tree) (graphs : List WalkGraph) → AreGraphs trees graphs
    → AllByRecursion (λ t. DoPair (placed_nodes t)) trees
graphs_pair [] [] h = tt
graphs_pair [] (g ∷ graphs) h = absurd h
graphs_pair (t ∷ trees) [] h = absurd h
graphs_pair (t ∷ trees) (g ∷ graphs) h = ((g.links.items, h.0.links), graphs_pair trees graphs h.1)

pub closed_pairs : (whole : Whole) (closed : Closed) → AreClosed whole closed → DoRingsPair whole
closed_pairs whole closed c = (
  (closed.top.links.items, c.top.links),
  pair_open none c.trees whole.parts c.closing tt (graphs_pair c.trees closed.parts.items c.parts),
)
