-- A pattern that asks for one recursive part at one atom matches where the part has an embedding.
use Rattle.std.proofs.Common.{◌≡◌, ◌↔◌, ◌+◌, ◌<◌, ◌∙◌, ℕ, zero, suc, Bool, List, [], ◌∷◌, length, map, get_or, slice_get, slice_index, Some, sym, ap, subst, arith}
use Rattle.std.proofs.lemmas.List.{length-map}
use Rattle.std.proofs.lemmas.Option.{none-some, same_Some, slice_get-get_or}
use Rattle.chem_core.specs.Molecule.{Molecule}
use Rattle.smarts_mean.specs.Table.{HoldsIn, Table}
use Rattle.smarts_parse.specs.declared.pattern.AtomPrim.{AtomPrim}
use Rattle.smarts_parse.specs.declared.pattern.AtomPrim.TheVariants as atoms
use Rattle.smarts_parse.specs.declared.pattern.Graph.{Graph}
use Rattle.smarts_parse.specs.declared.pattern.Pattern.{Pattern}
use Rattle.smarts_parse.specs.Pattern.{Term, Prim, GraphTerm, PatternTerm, graph_of, pattern_of}
use Rattle.smarts_parse.specs.Sound.{IsSoundPattern}
use Rattle.smarts_parse.specs.Truth.{AtomTrue}
use Rattle.smarts_parse.specs.Embedding.{Matches, PartsHold}
use Rattle.matcher.specs.Partial.{CanComplete, Parts}
use Rattle.matcher.specs.Parts.{AreNoted}
use Rattle.matcher.specs.Prepared.{ArePartMarks, IsOnlyPart}
use Rattle.matcher.specs.Ring.{AreRingMarks}
use Rattle.matcher.specs.Wanted.{AreWanted}
use Rattle.matcher.proofs.Asked.{asked_of}
use Rattle.matcher.proofs.Classes.{no_element}
use Rattle.matcher.proofs.Partials.{CanComplete-more, CanComplete-next}
use Rattle.matcher.proofs.OnlyAtoms.{all_one, no_bonds, one_grouped}
use Rattle.matcher.proofs.PartsHeld.{part_holds}
use Rattle.matcher.proofs.Places.{get_map}

-- the only element of a list
pub one_element : {X Y : Type 0} (f : X → Y) (xs : List X) (x : X) → length xs ≡ 1 → x ≡ get_or xs 0 x
    → map f xs ≡ f x ∷ []
one_element f [] x l e = absurd (omega arith)
one_element f (y ∷ []) x l e = ap (λ z. f z ∷ []) (sym e)
one_element f (y ∷ (z ∷ zs)) x l e = absurd (omega arith)

-- the one expression is true at the one atom
one_true : (parts : Parts) (m : Molecule) (a i : ℕ) (t e : Term AtomPrim) → AtomTrue parts t m a
    → slice_get (t ∷ []) i ≡ Some e → AtomTrue parts e m (slice_index (a ∷ []) i)
one_true parts m a zero t e h get = subst (λ x. AtomTrue parts x m a) (same_Some t e get) h
one_true parts m a (suc i) t e h get = absurd (none-some e get)

pub only_part_holds : (p : PatternTerm) (m : Molecule) (wanted : List ℕ) (k : ℕ) (g : GraphTerm) (table : Table)
    → IsSoundPattern p → AreWanted p wanted → k + 1 ≡ length p.recs
    → p.top.atoms ≡ Prim (atoms.Rec k) ∷ [] → slice_get p.recs k ≡ Some g → AreNoted p.recs m wanted k table
    → CanComplete (HoldsIn table) g m [] ↔ Matches p m
only_part_holds p m wanted k g table sound asked last is get noted =
    let n : ℕ = length p.recs in
    let next : suc k ≡ n = omega arith in
    let part = sound.parts k g get in
    let holds = λ (a : ℕ). part_holds p.recs m wanted k g a table get part.names (asked_of p wanted k g asked get) noted
    in
    let one : length p.top.atoms ≡ 1 = ap length is in (
      λ w.
          let first = CanComplete-next (HoldsIn table) g m [] part.some w in
          let a : ℕ = first.0 in
          let here : PartsHold p.recs m n k a = subst (λ j. PartsHold p.recs m j k a) next ((holds a).0 first.2) in (
            a ∷ [],
            record {
              one_each = sym one;
              in_range = all_one (λ x. x < length m.atoms) a first.1;
              distinct = λ i j d l r. absurd (omega arith);
              atoms = λ i e at. one_true (PartsHold p.recs m n) m a i (Prim (atoms.Rec k)) e
                  (get_or m.atoms a no_element, slice_get-get_or m.atoms a no_element first.1, here)
                  (subst (λ xs. slice_get xs i ≡ Some e) is at);
              bonds = λ i d l. absurd (no_bonds p.top sound.top.in_range sound.top.distinct one i d l);
              groups = one_grouped p.top.groups m a;
            },
          ),
      λ w.
          let a : ℕ = slice_index w.0 0 in
          let there = w.1.atoms 0 (Prim (atoms.Rec k)) (ap (λ (xs : List (Term AtomPrim)). slice_get xs 0) is) in
          CanComplete-more (HoldsIn table) g m [] a
          ((holds a).1 (subst (λ j. PartsHold p.recs m j k a) (sym next) there.2)),
    )

-- the graph of the only part is read
pub part_read : (p : Pattern) (part : ℕ) (g : Graph) → IsOnlyPart (pattern_of p) part → g ≡ get_or p.recs.items part g
    → slice_get (pattern_of p).recs part ≡ Some (graph_of g)
part_read p part g only is = get_map graph_of p.recs.items part g
    (let last = only.0 in omega (arith, length-map p.recs.items graph_of)) is

-- and its marks are those of the part
pub part_marked : (p : Pattern) (part : ℕ) (g : Graph) (marks : List Bool) → IsOnlyPart (pattern_of p) part
    → g ≡ get_or p.recs.items part g → AreRingMarks (graph_of g) marks → ArePartMarks (pattern_of p) marks part
part_marked p part g marks only is h other get = subst (λ x. AreRingMarks x marks)
    (same_Some (graph_of g) other (sym (part_read p part g only is) ∙ get)) h
