-- The answer from what is read.
use Rattle.std.proofs.Common.{◌≡◌, ℕ, ◌<◌, zero, suc, true, false, List, [], ◌++◌, length, Result, Ok, Err, refl, sym, ◌∙◌, ap, subst, arith}
use Rattle.std.proofs.lemmas.List.{append-nil, length-map, nil_from_length}
use Rattle.std.specs.List.{AllByRecursion}
use Rattle.std.specs.Result.{IfOk}
use Rattle.line_walk.specs.declared.pairs.Link.{Link}
use Rattle.line_walk.specs.declared.reader.Reader.{Reader}
use Rattle.line_walk.specs.declared.read.Graph.{Graph}
use Rattle.line_walk.specs.declared.fault.Fault.{Fault}
use Rattle.line_walk.specs.declared.fault.Fault.TheVariants.{Syntax, Ring, NoMemory}
use Rattle.line_walk.specs.Words.{Words}
use Rattle.line_walk.specs.Tree.{Tree, spelling, IsPartOf, IsTreeOf, depth_of}
use Rattle.line_walk.specs.Partners.{Entry, IsGraph}
use Rattle.line_walk.specs.Places.{Placed, entries_from, placed_nodes}
use Rattle.line_walk.specs.Reading.{IsReading}
use Rattle.line_walk.specs.Walk.{Holds, IsTreeRead, IsGraphBy, IsClosing}
use Rattle.line_walk.proofs.Paired.{paired_end, never_end}

module _ {V K : Type 0} (w : Words V K) where
  -- ring numbers that pair
  pub graph_read : (placed : List (Placed w.Atom w.Bond)) (reader : Reader V K) (graph : Graph V K)
      → Holds w placed reader → reader.pairs.clash ≡ false → length reader.pairs.waiting.items ≡ 0
      → graph.atoms.items ≡ reader.atoms.items → graph.links.items ≡ reader.pairs.links.items → IsGraphBy w placed graph
  graph_read placed reader graph holds clash none atoms links =
      let read = paired_end w.agreed (entries_from w 0 placed) (length placed) reader.pairs.waiting.items
      reader.pairs.links.items (nil_from_length reader.pairs.waiting.items none) (holds.pairs.paired clash) in
      let count : length placed ≡ length graph.atoms.items =
      sym (ap length atoms ∙ ap length holds.atoms ∙ length-map {A = Placed w.Atom w.Bond} {B = V} placed
      (λ x. w.atom_of x.node.atom)) in
      let ends = subst (λ (n : ℕ). AllByRecursion (λ x. (x.a < x.b) × (x.b < n)) reader.pairs.links.items) count
      (holds.pairs.paired clash).ends in
      record {
        atoms = atoms ∙ holds.atoms;
        links = subst (λ (v : List (Link K)). IsGraph w.agreed (entries_from w 0 placed) v) (sym links) read;
        ends = subst (λ (v : List (Link K)). AllByRecursion (λ x. (x.a < x.b) × (x.b < length graph.atoms.items)) v)
            (sym links) ends;
      }

  -- ring numbers that do not
  pub no_graph : (placed : List (Placed w.Atom w.Bond)) (reader : Reader V K) → Holds w placed reader
      → ((reader.pairs.clash ≡ false) × (length reader.pairs.waiting.items ≡ 0) → ⊥)
      → (links : List (Link K)) → IsGraph w.agreed (entries_from w 0 placed) links → ⊥
  no_graph placed reader holds not links graph =
      elim reader.pairs.clash as (λ b. reader.pairs.clash ≡ b → ⊥) [
        | true ↦ λ e. holds.pairs.never e [] links (subst (λ (v : List (Entry K)). IsGraph w.agreed v links)
            (sym (append-nil (entries_from w 0 placed))) graph)
        | false ↦ λ e. elim (length reader.pairs.waiting.items) as (λ n. length reader.pairs.waiting.items ≡ n → ⊥) [
          | zero ↦ λ l. not (e, l)
          | suc n ↦ λ l. never_end w.agreed (entries_from w 0 placed) (length placed) reader.pairs.waiting.items
              reader.pairs.links.items links (omega arith) (holds.pairs.paired e) graph
        ] refl
      ] refl

  -- a whole text is a part with nothing after it
  pub whole_part : (text : List ℕ) (tree : Tree w.Atom w.Bond) → IsTreeOf w text tree → IsPartOf w text tree []
  whole_part text tree h = (h.0, h.1 ∙ sym (append-nil (spelling w tree)))

  pub part_whole : (text rest : List ℕ) (tree : Tree w.Atom w.Bond) → length rest ≡ 0 → IsPartOf w text tree rest
      → IsTreeOf w text tree
  part_whole text rest tree none h = (
    h.0,
    h.1 ∙ ap (λ v. spelling w tree ++ v) (nil_from_length rest none)
        ∙ append-nil (spelling w tree),
  )

  -- what is answered where the tree is read
  pub reading_closed : (text : List ℕ) (reader : Reader V K) (result : Result (Graph V K) Fault)
      → (t : IsTreeRead w text reader) → IsClosing w (placed_nodes t.tree) reader.depth result → IsReading w text result
  reading_closed text reader (Ok graph) t h = (t.tree, t.is, (h.0.atoms, h.0.links))
  reading_closed text reader (Err Ring) t h = (t.tree, t.is, h)
  reading_closed text reader (Err Syntax) t h = absurd h
  reading_closed text reader (Err NoMemory) t h = tt

  pub ends_closed : (result : Result (Graph V K) Fault) (placed : List (Placed w.Atom w.Bond)) (depth : ℕ)
      → IsClosing w placed depth result
      → IfOk result (λ g. AllByRecursion (λ x. (x.a < x.b) × (x.b < length g.atoms.items)) g.links.items)
  ends_closed (Ok graph) placed depth h = h.0.ends
  ends_closed (Err fault) placed depth h = tt

  pub depth_closed : (text : List ℕ) (result : Result (Graph V K) Fault) (placed : List (Placed w.Atom w.Bond))
      (depth : ℕ) → IsClosing w placed depth result
      → ((tree : Tree w.Atom w.Bond) → IsTreeOf w text tree → depth ≡ depth_of tree.tail)
      → IfOk result (λ g. (tree : Tree w.Atom w.Bond) → IsTreeOf w text tree → g.depth ≡ depth_of tree.tail)
  depth_closed text (Ok graph) placed depth h f = λ tree is. h.1 ∙ f tree is
  depth_closed text (Err fault) placed depth h f = tt
