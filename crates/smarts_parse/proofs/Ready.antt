-- What one graph is built from.
use Rattle.std.proofs.Common.{◌≡◌, ℕ, ◌+◌, ◌-◌, ◌<◌, ◌≤◌, false, List, [], ◌∷◌, ◌++◌, length, map, drop, take, All, refl, sym, ◌∙◌, ap, subst, arith, length-append}
use Rattle.std.proofs.lemmas.List.Elements.{All-from_recursion}
use Rattle.std.specs.List.{list_any, AllByRecursion}
use Rattle.line_walk.specs.declared.pairs.Link.{Link}
use Rattle.smarts_words.specs.declared.word.Step.{Step}
use Rattle.smarts_words.specs.declared.word.BondWord.{BondWord}
use Rattle.smarts_words.specs.Bracket.{AtomValue}
use Rattle.smarts_parse.specs.Pattern.{GraphTerm}
use Rattle.smarts_parse.specs.Whole.{Nodes, part_texts}
use Rattle.smarts_parse.specs.Meaning.{postfix, atoms_steps, AreBondTerms, IsGraphTerm}
use Rattle.smarts_parse.specs.Reading.{is_stereo}
use Rattle.smarts_parse.specs.Steps.{IsValue}
use Rattle.smarts_parse.specs.Draft.{WalkGraph}
use Rattle.smarts_parse.specs.Build.{IsReady}
use Rattle.smarts_parse.proofs.Parts.{drop_first}
use Rattle.smarts_parse.proofs.Building.{values_all}
use Rattle.smarts_parse.proofs.Links.{IsKind, kinds_all}

take_first : (xs ys : List ℕ) → take (length xs) (xs ++ ys) ≡ xs
take_first [] ys = refl
take_first (x ∷ xs) ys = ap (λ v. x ∷ v) (take_first xs ys)

few_ends : (n : ℕ) → n ≤ 256 → (links : List (Link (List (Step BondWord))))
    → AllByRecursion (λ x. (x.a < x.b) × (x.b < n)) links → AllByRecursion (λ x. (x.a < 65536) × (x.b < 65536)) links
few_ends n l [] h = tt
few_ends n l (x ∷ links) h = let a = h.0.0 in let b = h.0.1 in ((omega arith, omega arith), few_ends n l links h.1)

module _ (nodes : Nodes) (front numbers : List ℕ) (written : WalkGraph) (open_numbers : List ℕ)
    (r : IsReady nodes front numbers written open_numbers) where
  pub own_texts : length (part_texts written.atoms.items) ≡ length numbers
  own_texts = ap (λ v. length (part_texts v)) r.is.atoms ∙ sym r.own

  open_count : length open_numbers ≡ length front + length numbers
  open_count = ap length r.numbered ∙ length-append front numbers

  pub few_texts : length (part_texts written.atoms.items) ≤ 64
  few_texts = let a = own_texts in let b = open_count in let c = r.few in omega arith

  pub enough_open : length (part_texts written.atoms.items) ≤ length open_numbers
  enough_open = let a = own_texts in let b = open_count in omega arith

  front_count : (n : ℕ) → n ≡ length open_numbers - length (part_texts written.atoms.items) → n ≡ length front
  front_count n e = let a = own_texts in let b = open_count in omega arith

  pub numbers_are : (n : ℕ) → n ≡ length open_numbers - length (part_texts written.atoms.items)
      → drop n open_numbers ≡ numbers
  numbers_are n e = ap (λ v. drop v open_numbers) (front_count n e) ∙ ap (λ v. drop (length front) v) r.numbered
      ∙ drop_first front numbers

  pub front_is : (n : ℕ) → n ≡ length open_numbers - length (part_texts written.atoms.items)
      → take n open_numbers ≡ front
  front_is n e = ap (λ v. take v open_numbers) (front_count n e) ∙ ap (λ v. take (length front) v) r.numbered
      ∙ take_first front numbers

  pub values_are : AllByRecursion IsValue written.atoms.items
  values_are = let F : List AtomValue → Type 0 = λ v. AllByRecursion IsValue v in
      subst F (sym r.is.atoms) (values_all nodes)

  pub plain_is : list_any (λ a. list_any is_stereo a.steps) written.atoms.items ≡ false
  plain_is = ap (list_any (λ a. list_any is_stereo a.steps)) r.is.atoms ∙ r.fit.plain

  pub kinds_are : All (λ x. IsKind x.kind) written.links.items
  kinds_are = All-from_recursion (λ (x : Link (List (Step BondWord))). IsKind x.kind) written.links.items
      (kinds_all nodes written.links.items r.is.links)

  pub ends_are : All (λ x. (x.a < 65536) × (x.b < 65536)) written.links.items
  ends_are =
      let few = r.fit.few in
      let count = ap length r.is.atoms in
      All-from_recursion (λ (x : Link (List (Step BondWord))). (x.a < 65536) × (x.b < 65536)) written.links.items
      (few_ends (length written.atoms.items) (omega arith) written.links.items r.is.ends)

  pub term_is : (g : GraphTerm) (groups : List ℕ) → map postfix g.atoms ≡ atoms_steps numbers written.atoms.items
      → AreBondTerms written.links.items g.bonds → g.groups ≡ groups → IsGraphTerm nodes numbers groups g
  term_is g groups e f k = record {
    atoms = e ∙ ap (atoms_steps numbers) r.is.atoms;
    links = written.links.items;
    pair = r.is.links;
    bonds = f;
    grouped = k;
  }
