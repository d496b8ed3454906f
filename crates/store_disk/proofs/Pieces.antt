-- Lists that are cut into pieces, each of which is answered by itself.
use Rattle.std.proofs.Common.{All, ap, arith, ◌≡◌, ◌∙◌, Bor, Err, List, [], ◌∷◌, map, Ok, Result, subst, sym, ℕ}
use Rattle.std.proofs.lemmas.List.Elements.{All-cons, All-nil}
use Rattle.std.specs.List.{AllZip, flat_map}
use Rattle.std.specs.Prelude.{Contains, IfOk, MatchResult, max}
use Rattle.std.specs.declared.alloc.AllocError.{AllocError}
use Rattle.std.specs.declared.alloc.Global.{Global}
use Rattle.std.specs.declared.vec.Vec.{Vec}
use Rattle.rayon.specs.Lists.{chunks_of}
use Rattle.rayon.proofs.ListFacts.{All-parts, AllZip-append}
use Rattle.rayon.proofs.ToStd.{chunks_of-concat}

module _ {A : Type 0} (P : A → Type 0) where
  -- what holds of each element of a list holds of each element of a piece
  pub in-pieces : (pieces : List (List A)) → All P (flat_map (λ l. l) pieces) → All (All P) pieces
  in-pieces [] h = All-nil (All P)
  in-pieces (piece ∷ pieces) h =
      let parts = All-parts P piece (flat_map (λ l. l) pieces) h in
      All-cons (All P) piece pieces parts.0 (in-pieces pieces parts.1)

  -- and of each element of a chunk
  pub in-chunks : (size : ℕ) (xs : List A) → All P xs → All (All P) (chunks_of (max size 1) xs)
  in-chunks size xs h =
      in-pieces (chunks_of (max size 1) xs) (subst (All P) (sym (chunks_of-concat (max size 1) xs (omega arith))) h)

-- what a `collect` into a result has collected, where the result is `Ok`
pub collected : {X : Type 0} (xs : List (Result X AllocError)) (r : Result (Vec X Global) AllocError) (v : Vec X Global)
    → r ≡ Ok v → MatchResult r (λ (c : Vec X Global). (ys : List X) × (xs ≡ map Ok ys) × (c.items ≡ ys))
    (λ (f : AllocError). Contains xs (Err f)) → xs ≡ map Ok v.items
collected {X} xs r v is h =
    let k = subst (λ (s : Result (Vec X Global) AllocError). MatchResult s
    (λ (c : Vec X Global). (ys : List X) × (xs ≡ map Ok ys) × (c.items ≡ ys)) (λ (f : AllocError). Contains xs (Err f)))
    is h in
    k.1 ∙ ap (λ (ys : List X). map Ok ys) (sym k.2)

module _ {A B : Type 0} (R : A → B → Type 0) where
  -- the answers to pieces side by side are those to the list
  pub side-by-side : (zs : List (Bor (List A))) (vs : List (Vec B Global))
      → AllZip (λ (z : Bor (List A)) (r : Result (Vec B Global) AllocError). IfOk r (λ v. AllZip R z.now v.items)) zs (map Ok vs)
      → AllZip R (flat_map (λ l. l) (map (λ (z : Bor (List A)). z.now) zs)) (flat_map (λ (v : Vec B Global). v.items) vs)
  side-by-side [] [] h = tt
  side-by-side [] (v ∷ vs) h = absurd h
  side-by-side (z ∷ zs) [] h = absurd h
  side-by-side (z ∷ zs) (v ∷ vs) h =
      AllZip-append R z.now (flat_map (λ l. l) (map (λ (z : Bor (List A)). z.now) zs)) v.items
      (flat_map (λ (v : Vec B Global). v.items) vs) h.0 (side-by-side zs vs h.1)

  -- the answers to chunks of a list are those to the list
  pub of-chunks : (size : ℕ) (xs : List A) (zs : List (Bor (List A)))
      → map (λ (z : Bor (List A)). z.now) zs ≡ chunks_of (max size 1) xs → (vs : List (Vec B Global))
      → AllZip (λ (z : Bor (List A)) (r : Result (Vec B Global) AllocError). IfOk r (λ v. AllZip R z.now v.items)) zs (map Ok vs)
      → AllZip R xs (flat_map (λ (v : Vec B Global). v.items) vs)
  of-chunks size xs zs shown vs h =
      let answers = flat_map (λ (v : Vec B Global). v.items) vs in
      subst (λ (l : List A). AllZip R l answers) (chunks_of-concat (max size 1) xs (omega arith))
      (subst (λ (cs : List (List A)). AllZip R (flat_map (λ l. l) cs) answers) shown (side-by-side zs vs h))
