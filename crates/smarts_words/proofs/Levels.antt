-- The postfix order of an expression, as it is reached from left to right.
use Rattle.std.proofs.Common.{◌≡◌, List, [], ◌∷◌, ◌++◌, map, refl, sym, ◌∙◌, ap, append_assoc}
use Rattle.smarts_words.specs.declared.word.Step.{Step}
use Rattle.smarts_words.specs.declared.word.Step.TheVariants as steps
use Rattle.smarts_words.specs.Expression.{Operand, Joining, semicolon, comma, ampersand, beside, at_first, levels, joined}
use Rattle.smarts_words.specs.State.{ors_ended, lows_ended}

module _ {P W : Type 0} (op : Operand P → List (Step W)) where
  abbrev ands_of : List (Operand P) → List (Step W)
  ands_of ands = joined steps.And (map op ands)

  abbrev ors_of : List (List (Operand P)) → List (Step W)
  ors_of ors = joined steps.Or (map ands_of ors)

  abbrev lows_of : List (List (List (Operand P))) → List (Step W)
  lows_of lows = joined steps.And (map ors_of lows)

  -- what is left, after the parts so far
  abbrev pub combined : List (List (Step W)) → List (List (Step W)) → List (List (Step W))
      → List (List (List (Operand P))) → List (Step W)
  combined lows ors ands [] = []
  combined lows ors ands ([] ∷ gs) = []
  combined lows ors ands ((h ∷ hs) ∷ gs) =
      joined steps.And (lows ++ joined steps.Or (ors ++ joined steps.And (ands ++ map op h) ∷ map ands_of hs)
      ∷ map ors_of gs)

  -- there is a first part, in it a first part, and in it a first operand
  pub data Full (ls : List (List (List (Operand P)))) : Type 0 where
    full : (h : List (Operand P)) (hs : List (List (Operand P))) (gs : List (List (List (Operand P))))
        → ls ≡ (h ∷ hs) ∷ gs → Full ls

  first_full : (x : Operand P) (ls : List (List (List (Operand P)))) → Full ls
      → Full (at_first (λ ors. at_first (λ ands. x ∷ ands) ors) ls)
  first_full x ls (full h hs gs e) = full (x ∷ h) hs gs (ap (λ v. at_first (λ ors. at_first (λ ands. x ∷ ands) ors) v)
      e)

  comma_full : (x : Operand P) (ls : List (List (List (Operand P)))) → Full ls
      → Full (at_first (λ ors. (x ∷ []) ∷ ors) ls)
  comma_full x ls (full h hs gs e) = full (x ∷ []) (h ∷ hs) gs (ap (λ v. at_first (λ ors. (x ∷ []) ∷ ors) v) e)

  pub levels_full : (x : Operand P) (more : List (Joining × Operand P)) → Full (levels x more)
  levels_full x [] = full (x ∷ []) [] [] refl
  levels_full x ((semicolon, y) ∷ more) = full (x ∷ []) [] (levels y more) refl
  levels_full x ((comma, y) ∷ more) = comma_full x (levels y more) (levels_full y more)
  levels_full x ((ampersand, y) ∷ more) = first_full x (levels y more) (levels_full y more)
  levels_full x ((beside, y) ∷ more) = first_full x (levels y more) (levels_full y more)

  -- the last operand
  pub combined_last : (lows ors ands : List (List (Step W))) (x : Operand P) → combined lows ors ands (levels x [])
      ≡ joined steps.And (lows_ended lows ors (ands ++ op x ∷ []))
  combined_last lows ors ands x = refl

  semicolon_by : (lows ors ands : List (List (Step W))) (x : Operand P) (ls : List (List (List (Operand P)))) → Full ls
      → combined lows ors ands (((x ∷ []) ∷ []) ∷ ls) ≡ combined (lows_ended lows ors (ands ++ op x ∷ [])) [] [] ls
  semicolon_by lows ors ands x ls (full h hs gs e) =
      let low = joined steps.Or (ors_ended ors (ands ++ op x ∷ [])) in
      ap (λ v. joined steps.And (lows ++ low ∷ map ors_of v)) e
      ∙ sym (ap (λ v. joined steps.And v) (append_assoc lows (low ∷ []) (map ors_of ((h ∷ hs) ∷ gs))))
      ∙ sym (ap (λ v. combined (lows ++ low ∷ []) [] [] v) e)

  pub combined_semicolon : (lows ors ands : List (List (Step W))) (x y : Operand P) (more : List (Joining × Operand P))
      → combined lows ors ands (levels x ((semicolon, y) ∷ more)) ≡ combined (lows_ended lows ors (ands ++ op x ∷ []))
      [] [] (levels y more)
  combined_semicolon lows ors ands x y more = semicolon_by lows ors ands x (levels y more) (levels_full y more)

  comma_by : (lows ors ands : List (List (Step W))) (x : Operand P) (ls : List (List (List (Operand P)))) → Full ls
      → combined lows ors ands (at_first (λ o. (x ∷ []) ∷ o) ls) ≡ combined lows (ors_ended ors (ands ++ op x ∷ [])) []
      ls
  comma_by lows ors ands x ls (full h hs gs e) =
      let one = joined steps.And (ands ++ op x ∷ []) in
      ap (λ v. combined lows ors ands (at_first (λ o. (x ∷ []) ∷ o) v)) e
      ∙ sym (ap (λ v. joined steps.And (lows ++ joined steps.Or v ∷ map ors_of gs))
      (append_assoc ors (one ∷ []) (joined steps.And (map op h) ∷ map ands_of hs)))
      ∙ sym (ap (λ v. combined lows (ors ++ one ∷ []) [] v) e)

  pub combined_comma : (lows ors ands : List (List (Step W))) (x y : Operand P) (more : List (Joining × Operand P))
      → combined lows ors ands (levels x ((comma, y) ∷ more)) ≡ combined lows (ors_ended ors (ands ++ op x ∷ [])) []
      (levels y more)
  combined_comma lows ors ands x y more = comma_by lows ors ands x (levels y more) (levels_full y more)

  and_by : (lows ors ands : List (List (Step W))) (x : Operand P) (ls : List (List (List (Operand P)))) → Full ls
      → combined lows ors ands (at_first (λ o. at_first (λ a. x ∷ a) o) ls) ≡ combined lows ors (ands ++ op x ∷ []) ls
  and_by lows ors ands x ls (full h hs gs e) =
      ap (λ v. combined lows ors ands (at_first (λ o. at_first (λ a. x ∷ a) o) v)) e
      ∙ sym (ap (λ v. joined steps.And (lows ++ joined steps.Or (ors ++ joined steps.And v ∷ map ands_of hs)
      ∷ map ors_of gs)) (append_assoc ands (op x ∷ []) (map op h)))
      ∙ sym (ap (λ v. combined lows ors (ands ++ op x ∷ []) v) e)

  pub combined_ampersand : (lows ors ands : List (List (Step W))) (x y : Operand P) (more : List (Joining × Operand P))
      → combined lows ors ands (levels x ((ampersand, y) ∷ more)) ≡ combined lows ors (ands ++ op x ∷ [])
      (levels y more)
  combined_ampersand lows ors ands x y more = and_by lows ors ands x (levels y more) (levels_full y more)

  pub combined_beside : (lows ors ands : List (List (Step W))) (x y : Operand P) (more : List (Joining × Operand P))
      → combined lows ors ands (levels x ((beside, y) ∷ more)) ≡ combined lows ors (ands ++ op x ∷ []) (levels y more)
  combined_beside lows ors ands x y more = and_by lows ors ands x (levels y more) (levels_full y more)

  whole_by : (ls : List (List (List (Operand P)))) → Full ls → combined [] [] [] ls ≡ lows_of ls
  whole_by ls (full h hs gs e) = ap (λ v. combined [] [] [] v) e ∙ sym (ap (λ v. lows_of v) e)

  -- from the beginning
  pub combined_whole : (x : Operand P) (more : List (Joining × Operand P)) → combined [] [] [] (levels x more)
      ≡ joined steps.And (map (λ ors. joined steps.Or (map (λ ands. joined steps.And (map op ands)) ors))
      (levels x more))
  combined_whole x more = whole_by (levels x more) (levels_full x more)
