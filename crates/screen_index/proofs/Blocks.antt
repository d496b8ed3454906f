-- The pairs of blocks, as one block changes.
use Rattle.std.proofs.Common.{◌≡◌, ◌≢◌, ◌+◌, ◌-◌, ◌<◌, ◌≤◌, ◌++◌, ◌∙◌, All, add-one, ap, ap₂, append_assoc, arith, Contains, drop, false, filter, get_or, inl, inr, length, List, [], ◌∷◌, map, min, refl, set, subst, suc, sym, take, true, zero, ℕ}
use Rattle.std.proofs.lemmas.Bool.{cases_lt}
use Rattle.std.proofs.lemmas.List.Concat.{flat_map-append}
use Rattle.std.proofs.lemmas.List.{append-nil, drop-set-lt, drop_all, get_or-drop, get_or-take, get_or_append_left, get_or_default, length-append, length-drop, length-take-le, map-append, take-set, take_all, take_more}
use Rattle.std.proofs.lemmas.List.Elements.{All-append, All-cons, All-contains, All-drop, All-nil, All-set, All-take, Contains-append_left, Contains-append_right, filter-append}
use Rattle.std.specs.List.{AllWithin, insert, remove}
use Rattle.std.specs.List.Sorted.{IsPartitionedBy}
use Rattle.screen_index.specs.declared.entry.Screened.{Screened}
use Rattle.screen_index.specs.Pairs.{AreBlocks, Ascend, Lacks, Rises, ends_at, ends_before, is_apart, joined, put_in, rank, rank_of, superseded}
use Rattle.screen_index.proofs.Places.{all-apart, all-before, apart, ascend-left, ascend-right, before-all, not-before, put-before, put-behind, rises-take, superseded-none}

module _ {V : Type 0} where
  -- what is before a block, and what is behind it
  abbrev pub Before : List (List (Screened V)) → ℕ → List (Screened V)
  Before bs i = joined (take i bs)

  abbrev pub Behind : List (List (Screened V)) → ℕ → List (Screened V)
  Behind bs i = joined (drop (suc i) bs)

  pub joined-at : (bs : List (List (Screened V))) (i : ℕ) (d : List (Screened V)) → i < length bs
      → joined bs ≡ Before bs i ++ (get_or bs i d ++ Behind bs i)
  joined-at [] i d less = absurd (omega (arith, less))
  joined-at (b ∷ bs) zero d less = refl
  joined-at (b ∷ bs) (suc i) d less =
      ap (λ l. b ++ l) (joined-at bs i d (omega (arith, less)))
      ∙ sym (append_assoc b (Before bs i) (get_or bs i d ++ Behind bs i))

  pub joined-set : (bs : List (List (Screened V))) (i : ℕ) (n : List (Screened V)) → i < length bs
      → joined (set bs i n) ≡ Before bs i ++ (n ++ Behind bs i)
  joined-set [] i n less = absurd (omega (arith, less))
  joined-set (b ∷ bs) zero n less = refl
  joined-set (b ∷ bs) (suc i) n less =
      ap (λ l. b ++ l) (joined-set bs i n (omega (arith, less))) ∙ sym (append_assoc b (Before bs i) (n ++ Behind bs i))

  pub joined-split : (bs : List (List (Screened V))) (i : ℕ) (l u : List (Screened V)) → i < length bs
      → joined (insert (set bs i l) (suc i) u) ≡ Before bs i ++ ((l ++ u) ++ Behind bs i)
  joined-split [] i l u less = absurd (omega (arith, less))
  joined-split (b ∷ bs) zero l u less = sym (append_assoc l u (joined bs))
  joined-split (b ∷ bs) (suc i) l u less =
      ap (λ x. b ++ x) (joined-split bs i l u (omega (arith, less)))
      ∙ sym (append_assoc b (Before bs i) ((l ++ u) ++ Behind bs i))

  pub joined-removed : (bs : List (List (Screened V))) (i : ℕ) → joined (remove bs i) ≡ Before bs i ++ Behind bs i
  joined-removed bs i = flat_map-append (λ b. b) (take i bs) (drop (suc i) bs)

  -- a pair of a block is a pair of all
  in-joined : (bs : List (List (Screened V))) (i : ℕ) (d : List (Screened V)) (x : Screened V) → i < length bs
      → Contains (get_or bs i d) x → Contains (joined bs) x
  in-joined [] i d x less c = absurd (omega (arith, less))
  in-joined (b ∷ bs) zero d x less c = Contains-append_left b (joined bs) x c
  in-joined (b ∷ bs) (suc i) d x less c =
      Contains-append_right b (joined bs) x (in-joined bs i d x (omega (arith, less)) c)

  -- a pair of one block is below a pair of a later one
  pub across : (bs : List (List (Screened V))) (i j : ℕ) (d : List (Screened V)) (x y : Screened V)
      → Ascend 0 (joined bs) → i < j
      → j < length bs → Contains (get_or bs i d) x → Contains (get_or bs j d) y → rank_of x < rank_of y
  across [] i j d x y up less within a b = absurd (omega (arith, within))
  across (b ∷ bs) i zero d x y up less within c e = absurd (omega (arith, less))
  across (b ∷ bs) zero (suc j) d x y up less within c e =
      let there = in-joined bs j d y (omega (arith, within)) e in
      let h = apart 0 b (joined bs) c.0 x up c.1 there.0 y there.1 in
      omega (arith, h, ap rank_of c.2, ap rank_of there.2)
  across (b ∷ bs) (suc i) (suc j) d x y up less within c e =
      across bs i j d x y (ascend-right 0 b (joined bs) up) (omega (arith, less)) (omega (arith, within)) c e

  pub block-ascends : (bs : List (List (Screened V))) (i : ℕ) (d : List (Screened V)) → Ascend 0 (joined bs)
      → i < length bs → Ascend 0 (get_or bs i d)
  block-ascends [] i d up less = absurd (omega (arith, less))
  block-ascends (b ∷ bs) zero d up less = ascend-left 0 b (joined bs) up
  block-ascends (b ∷ bs) (suc i) d up less =
      block-ascends bs i d (ascend-right 0 b (joined bs) up) (omega (arith, less))

  first-of : (xs : List (Screened V)) → 0 < length xs → (x : Screened V) × Contains xs x
  first-of [] some = absurd (omega (arith, some))
  first-of (x ∷ xs) some = (x, (0, omega arith, refl))

  -- the blocks that end before a place stand first
  pub blocks-parted : (r : ℕ) (bs : List (List (Screened V))) → AreBlocks bs → IsPartitionedBy (ends_before r) bs
  blocks-parted r bs (up, some) i j d le less t =
      elim (cases_lt i j) [
        | inl lt ↦
            let y = first-of (get_or bs j d) (some j d less) in
            let last = all-before r 0 (get_or bs j d) (block-ascends bs j d up less) t in
            before-all r (get_or bs i d) (λ k e within.
            let h = across bs i j d (get_or (get_or bs i d) k e) y.0 up lt less
            (k, within, get_or_default (get_or bs i d) k (get_or (get_or bs i d) k e) e within) y.1 in
            let l = All-contains (λ x. rank_of x < r) (get_or bs j d) y.0 last y.1 in
            omega (arith, h, l))
        | inr ge ↦
            let same : i ≡ j = omega (arith, le, ge) in
            ap (λ n. ends_before r (get_or bs n d)) same ∙ t
      ]

  -- what holds of the pairs of each block
  all-joined : (P : Screened V → Type 0) (bs : List (List (Screened V)))
      → ((k : ℕ) (d : List (Screened V)) → k < length bs → All P (get_or bs k d)) → All P (joined bs)
  all-joined P [] all = All-nil P
  all-joined P (b ∷ bs) all =
      All-append P b (joined bs) (all 0 b (omega arith))
      (all-joined P bs (λ k d less. all (suc k) d (omega (arith, less))))

  -- the pairs before the blocks that do not end before a place
  pub before-place : (r n : ℕ) (bs : List (List (Screened V))) → AreBlocks bs → n ≤ length bs
      → AllWithin (λ b. ends_before r b ≡ true) bs 0 n → All (λ x. rank_of x < r) (Before bs n)
  before-place r n bs (up, some) fits ends =
      all-joined (λ x. rank_of x < r) (take n bs) (λ k d less.
      let size = length-take-le n bs fits in
      let within : k < n = omega (arith, less, size) in
      subst (All (λ x. rank_of x < r)) (sym (get_or-take n bs k d within))
      (all-before r 0 (get_or bs k d) (block-ascends bs k d up (omega (arith, within, fits)))
      (ends k d (omega arith) within)))

  pub behind-place : (r n : ℕ) (bs : List (List (Screened V))) → AreBlocks bs
      → AllWithin (λ b. ends_before r b ≡ false) bs n (length bs) → All (λ x. r < rank_of x) (Behind bs n)
  behind-place r n bs (up, some) ends =
      all-joined (λ x. r < rank_of x) (drop (suc n) bs) (λ k d less.
      let size = length-drop (suc n) bs in
      let within : suc n + k < length bs = omega (arith, less, size) in
      let last = not-before r (get_or bs n d) (ends n d (omega arith) (omega (arith, within))) in
      subst (All (λ x. r < rank_of x)) (sym (get_or-drop (suc n) bs k d)) (λ i e inside.
      let b = get_or bs (suc n + k) d in
      let h = across bs n (suc n + k) d last.0 (get_or b i e) up (omega arith) within last.1
      (i, inside, get_or_default b i (get_or b i e) e inside) in
      let l = last.2 in
      omega (arith, h, l)))

  all-left : (P : Screened V → Type 0) (xs ys : List (Screened V)) → All P (xs ++ ys) → All P xs
  all-left P xs ys all k d less =
      subst P (get_or_append_left xs ys d k less) (all k d (omega (arith, less, length-append xs ys)))

  -- a block for a pair: what is before it, and what is behind
  pub record IsPlace (r : ℕ) (bs : List (List (Screened V))) (i : ℕ) : Type 0 where
    pub less : i < length bs
    pub before : All (λ x. rank_of x < r) (Before bs i)
    pub behind : All (λ x. r < rank_of x) (Behind bs i)

  -- the block that does not end before the place, or else the last one
  pub place-of : (r n i : ℕ) (bs : List (List (Screened V))) → n ≤ length bs → 0 < length bs → i ≡ min n (length bs - 1)
      → All (λ x. rank_of x < r) (Before bs n) → All (λ x. r < rank_of x) (joined (drop (n + 1) bs)) → IsPlace r bs i
  place-of r n i bs fits some is before behind =
      elim (cases_lt n (length bs)) [
        | inl lt ↦
            let same : n ≡ i = omega (arith, is, lt) in record {
              less = omega (arith, same, lt);
              before = subst (λ m. All (λ x. rank_of x < r) (Before bs m)) same before;
              behind = subst (λ m. All (λ x. r < rank_of x) (Behind bs m)) same
                  (subst (λ m. All (λ x. r < rank_of x) (joined (drop m bs))) (add-one n) behind);
            }
        | inr ge ↦
            let less : i < length bs = omega (arith, is, some) in
            let all : All (λ x. rank_of x < r) (joined bs) = subst (λ l. All (λ x. rank_of x < r) (joined l))
            (take_all n bs ge) before in record {
              less = less;
              before = all-left (λ x. rank_of x < r) (Before bs i) (get_or bs i [] ++ Behind bs i)
                  (subst (All (λ x. rank_of x < r)) (joined-at bs i [] less) all);
              behind = subst (λ l. All (λ x. r < rank_of x) (joined l))
                  (sym (drop_all (suc i) bs (omega (arith, is, ge)))) (All-nil (λ x. r < rank_of x));
            }
      ]

  -- a pair that goes into a block goes into all
  pub put-one : (x : Screened V) (bs : List (List (Screened V))) (i : ℕ) (b n : List (Screened V))
      → IsPlace (rank_of x) bs i
      → b ≡ get_or bs i b → n ≡ put_in x b → Before bs i ++ (n ++ Behind bs i) ≡ put_in x (joined bs)
  put-one x bs i b n at is new =
      ap (λ l. Before bs i ++ (l ++ Behind bs i)) new
      ∙ sym (ap (put_in x) (joined-at bs i b at.less
      ∙ ap (λ l. Before bs i ++ (l ++ Behind bs i)) (sym is))
      ∙ (put-behind x (Before bs i) (b ++ Behind bs i) at.before
      ∙ ap (λ l. Before bs i ++ l) (put-before x b (Behind bs i) at.behind)))

  pub lacks-block : (r : ℕ) (bs : List (List (Screened V))) (i : ℕ) (b : List (Screened V)) → i < length bs
      → b ≡ get_or bs i b → Lacks r (joined bs) → Lacks r b
  lacks-block r bs i b less is lacks k d within =
      All-contains (λ x. rank_of x ≢ r) (joined bs) (get_or b k d) lacks
      (in-joined bs i b (get_or b k d) less
      (subst (λ l. Contains l (get_or b k d)) is (k, within, get_or_default b k (get_or b k d) d within)))

  pub ascends-here : (bs : List (List (Screened V))) (i : ℕ) (b : List (Screened V)) → Ascend 0 (joined bs)
      → i < length bs → b ≡ get_or bs i b → Ascend 0 b
  ascends-here bs i b up less is = subst (Ascend 0) (sym is) (block-ascends bs i b up less)

  -- blocks after one is written, split or removed
  pub blocks-set : (bs : List (List (Screened V))) (i : ℕ) (n : List (Screened V)) → All (λ b. 0 < length b) bs
      → 0 < length n → All (λ b. 0 < length b) (set bs i n)
  blocks-set bs i n all some = All-set (λ (b : List (Screened V)). 0 < length b) bs i n some all

  pub blocks-split : (bs : List (List (Screened V))) (i j : ℕ) (l u : List (Screened V)) → All (λ b. 0 < length b) bs
      → 0 < length l → 0 < length u → All (λ b. 0 < length b) (insert (set bs i l) j u)
  blocks-split bs i j l u all lower upper =
      let P : List (Screened V) → Type 0 = λ b. 0 < length b in
      let more = blocks-set bs i l all lower in
      All-append P (take j (set bs i l)) (u ∷ drop j (set bs i l)) (All-take P j (set bs i l) more)
      (All-cons P u (drop j (set bs i l)) upper (All-drop P j (set bs i l) more))

  pub blocks-removed : (bs : List (List (Screened V))) (i : ℕ) → All (λ b. 0 < length b) bs
      → All (λ b. 0 < length b) (remove bs i)
  blocks-removed bs i all =
      let P : List (Screened V) → Type 0 = λ b. 0 < length b in
      All-append P (take i bs) (drop (suc i) bs) (All-take P i bs all) (All-drop P (suc i) bs all)

  -- what some places take out of a block that they fall into
  pub take-some : (ps : List (ℕ × ℕ)) (bs : List (List (Screened V))) (i : ℕ) (b n : List (Screened V)) → i < length bs
      → b ≡ get_or bs i b → filter (is_apart ps) (Before bs i) ≡ Before bs i
      → filter (is_apart ps) (Behind bs i) ≡ Behind bs i → n ≡ filter (is_apart ps) b
      → Before bs i ++ (n ++ Behind bs i) ≡ filter (is_apart ps) (joined bs)
  take-some ps bs i b n less is before behind new =
      ap (λ l. Before bs i ++ (l ++ Behind bs i)) new
      ∙ sym (ap (filter (is_apart ps)) (joined-at bs i b less ∙ ap (λ l. Before bs i ++ (l ++ Behind bs i)) (sym is))
      ∙ (filter-append (is_apart ps) (Before bs i) (b ++ Behind bs i)
      ∙ ap₂ (λ k l. k ++ l) before
      (filter-append (is_apart ps) b (Behind bs i) ∙ ap (λ l. filter (is_apart ps) b ++ l) behind)))

  -- the pairs before a block are apart from places that come after them
  pub apart-before : (ps : List (ℕ × ℕ)) (xs : List (Screened V)) (d : ℕ × ℕ) → Rises ps
      → All (λ x. rank_of x < rank (get_or ps 0 d).0 (get_or ps 0 d).1) xs → filter (is_apart ps) xs ≡ xs
  apart-before ps xs d up before =
      all-apart ps xs (λ k e less i x within same.
      let h = before i x within in
      let le = rises k e less in
      omega (arith, h, le, same))
    where
      rises : (k : ℕ) (e : ℕ × ℕ) → k < length ps
          → rank (get_or ps 0 d).0 (get_or ps 0 d).1 ≤ rank (get_or ps k e).0 (get_or ps k e).1
      rises zero e less =
          omega (arith, ap (λ (p : ℕ × ℕ). rank p.0 p.1) (get_or_default ps 0 d e less))
      rises (suc k) e less =
          let h = up 0 (suc k) e (omega arith) less in
          omega (arith, h, ap (λ (p : ℕ × ℕ). rank p.0 p.1) (get_or_default ps 0 d e (omega (arith, less))))

  -- and those behind it from places that it does not end before
  pub behind-block : (r i : ℕ) (bs : List (List (Screened V))) (d : List (Screened V)) → Ascend 0 (joined bs)
      → i < length bs → ends_before r (get_or bs i d) ≡ false → All (λ x. r < rank_of x) (Behind bs i)
  behind-block r i bs d up less ends =
      all-joined (λ x. r < rank_of x) (drop (suc i) bs) (λ k e inside.
      let size = length-drop (suc i) bs in
      let within : suc i + k < length bs = omega (arith, inside, size) in
      let last = not-before r (get_or bs i d) ends in
      subst (All (λ x. r < rank_of x)) (sym (get_or-drop (suc i) bs k e)) (λ j x less-j.
      let b = get_or bs (suc i + k) e in
      let same : get_or bs (suc i + k) d ≡ b = get_or_default bs (suc i + k) d e within in
      let h = across bs i (suc i + k) d last.0 (get_or b j x) up (omega arith) within last.1
      (subst (λ l. Contains l (get_or b j x)) (sym same)
      (j, less-j, get_or_default b j (get_or b j x) x less-j)) in
      let l = last.2 in
      omega (arith, h, l)))

  -- a block that ends before a place, and one that does not
  pub up-to-block : (r i n : ℕ) (bs : List (List (Screened V))) (b : List (Screened V)) → AreBlocks bs → i < length bs
      → n ≤ i + 1 → b ≡ get_or bs i b → ends_before r b ≡ true → All (λ x. rank_of x < r) (Before bs n)
  up-to-block r i n bs b are less fits is ends =
      before-place r n bs are (omega (arith, less, fits)) (λ k d low high.
      blocks-parted r bs are k i d (omega (arith, high, fits)) less
      (ap (ends_before r) (get_or_default bs i d b less ∙ sym is) ∙ ends))

  pub behind-this : (r i : ℕ) (bs : List (List (Screened V))) (b : List (Screened V)) → AreBlocks bs → i < length bs
      → b ≡ get_or bs i b → ends_before r b ≡ false → All (λ x. r < rank_of x) (joined (drop (i + 1) bs))
  behind-this r i bs b are less is ends =
      subst (λ m. All (λ x. r < rank_of x) (joined (drop m bs))) (sym (add-one i))
      (behind-block r i bs b are.0 less (ap (ends_before r) (sym is) ∙ ends))

  pub apart-behind : (ps : List (ℕ × ℕ)) (bs : List (List (Screened V))) (i : ℕ) (b : List (Screened V))
      → Ascend 0 (joined bs) → i < length bs → b ≡ get_or bs i b
      → ((d : ℕ × ℕ) → All (λ x. rank (get_or ps 0 d).0 (get_or ps 0 d).1 < rank_of x) (Behind bs i))
      → AllWithin (λ p. ends_before (rank p.0 p.1) b ≡ false) ps 1 (length ps)
      → filter (is_apart ps) (Behind bs i) ≡ Behind bs i
  apart-behind ps bs i b up less is first others =
      all-apart ps (Behind bs i) (λ k d within j x inside e. let h = above k d within j x inside in omega (arith, h, e))
    where
      above : (k : ℕ) (d : ℕ × ℕ) → k < length ps
          → All (λ x. rank (get_or ps k d).0 (get_or ps k d).1 < rank_of x) (Behind bs i)
      above zero d within = first d
      above (suc k) d within =
          let r = rank (get_or ps (suc k) d).0 (get_or ps (suc k) d).1 in
          behind-block r i bs b up less
          (subst (λ l. ends_before r l ≡ false) is (others (suc k) d (omega arith) within))

  -- the first of some places, those that one block does not end before, take pairs out of that block alone
  pub drop-some : (ps left : List (ℕ × ℕ)) (count i : ℕ) (bs : List (List (Screened V))) (b n : List (Screened V))
      (d : ℕ × ℕ) → left ≡ drop 1 ps
      → AreBlocks bs → Rises ps → 0 < length ps → count ≤ length left → i < length bs → b ≡ get_or bs i b
      → All (λ x. rank_of x < rank (get_or ps 0 d).0 (get_or ps 0 d).1) (Before bs i)
      → All (λ x. rank (get_or ps 0 d).0 (get_or ps 0 d).1 < rank_of x) (joined (drop (i + 1) bs))
      → AllWithin (λ p. ends_before (rank p.0 p.1) b ≡ false) left 0 count
      → n ≡ filter (is_apart (take (1 + count) ps)) b
      → Before bs i ++ (n ++ Behind bs i) ≡ filter (is_apart (take (1 + count) ps)) (joined bs)
  drop-some ps left count i bs b n d tail blocks up some fits less is before behind others new =
      take-some qs bs i b n less is
      (apart-before qs (Before bs i) d rises
      (subst (λ (p : ℕ × ℕ). All (λ x. rank_of x < rank p.0 p.1) (Before bs i)) (sym (at 0 d (omega arith))) before))
      (apart-behind qs bs i b blocks.0 less is
      (λ e. subst (λ (p : ℕ × ℕ). All (λ x. rank p.0 p.1 < rank_of x) (Behind bs i))
      (get_or_default ps 0 d e some ∙ sym (at 0 e (omega arith)))
      (subst (λ m. All (λ x. rank (get_or ps 0 d).0 (get_or ps 0 d).1 < rank_of x) (joined (drop m bs))) (add-one i)
      behind))
      rest) new
    where
      qs : List (ℕ × ℕ)
      qs = take (1 + count) ps

      within : 1 + count ≤ length ps
      within = let size = length-drop 1 ps in omega (arith, fits, size, some, ap (λ l. length l) tail)

      size : length qs ≡ 1 + count
      size = length-take-le (1 + count) ps within

      rises : Rises qs
      rises = rises-take (1 + count) ps within up

      at : (k : ℕ) (e : ℕ × ℕ) → k < 1 + count → get_or qs k e ≡ get_or ps k e
      at k e low = get_or-take (1 + count) ps k e low

      rest : AllWithin (λ p. ends_before (rank p.0 p.1) b ≡ false) qs 1 (length qs)
      rest zero e low high = absurd (omega (arith, low))
      rest (suc k) e low high =
          let one : 1 + k ≡ suc k = omega arith in
          subst (λ (p : ℕ × ℕ). ends_before (rank p.0 p.1) b ≡ false)
          (ap (λ l. get_or l k e) tail
          ∙ (get_or-drop 1 ps k e ∙ (ap (λ m. get_or ps m e) one ∙ sym (at (suc k) e (omega (arith, high, size))))))
          (others k e (omega arith) (omega (arith, high, size)))

  -- places behind all blocks take nothing out
  pub drop-none : (ps : List (ℕ × ℕ)) (n : ℕ) (bs : List (List (Screened V))) (d : ℕ × ℕ) → Rises ps → length bs ≤ n
      → All (λ x. rank_of x < rank (get_or ps 0 d).0 (get_or ps 0 d).1) (Before bs n)
      → joined bs ≡ filter (is_apart (take (length ps) ps)) (joined bs)
  drop-none ps n bs d up all before =
      sym (ap (λ l. filter (is_apart l) (joined bs)) (take_all (length ps) ps (omega arith))
      ∙ apart-before ps (joined bs) d up
      (subst (λ l. All (λ x. rank_of x < rank (get_or ps 0 d).0 (get_or ps 0 d).1) (joined l)) (take_all n bs all)
      before))

  -- a block that was emptied goes
  pub removed-is : (bs : List (List (Screened V))) (i : ℕ) (n : List (Screened V)) → remove (set bs i n) i ≡ remove bs i
  removed-is bs i n = ap₂ (λ k l. k ++ l) (take-set bs i n) (drop-set-lt (suc i) bs i n (omega arith))

  pub joined-emptied : (bs : List (List (Screened V))) (i : ℕ) (n : List (Screened V)) → n ≡ []
      → joined (remove (set bs i n) i) ≡ Before bs i ++ (n ++ Behind bs i)
  joined-emptied bs i n none =
      ap joined (removed-is bs i n)
      ∙ (joined-removed bs i ∙ ap (λ l. Before bs i ++ (l ++ Behind bs i)) (sym none))

  -- two blocks become one
  pub joined-merged : (bs : List (List (Screened V))) (i : ℕ) (d : List (Screened V)) → suc i < length bs
      → joined (set (remove bs (suc i)) i (get_or bs i d ++ get_or bs (suc i) d)) ≡ joined bs
  joined-merged [] i d less = absurd (omega (arith, less))
  joined-merged (b ∷ []) i d less = absurd (omega (arith, less))
  joined-merged (b ∷ e ∷ bs) zero d less = append_assoc b e (joined bs)
  joined-merged (b ∷ e ∷ bs) (suc i) d less = ap (λ l. b ++ l) (joined-merged (e ∷ bs) i d (omega (arith, less)))

  pub kept-below : (bs : List (List (Screened V))) (i : ℕ) (d : List (Screened V)) → suc i < length bs
      → get_or (remove bs (suc i)) i d ≡ get_or bs i d
  kept-below bs i d less =
      get_or_append_left (take (suc i) bs) (drop (suc (suc i)) bs) d i
      (omega (arith, less, length-take-le (suc i) bs (omega (arith, less))))
      ∙ get_or-take (suc i) bs i d (omega arith)

  -- the pairs of one block more
  pub joined-more : (bs : List (List (Screened V))) (i : ℕ) (d : List (Screened V)) → i < length bs
      → joined (take (i + 1) bs) ≡ joined (take i bs) ++ get_or bs i d
  joined-more bs i d less =
      ap joined (take_more bs i d less)
      ∙ (flat_map-append (λ b. b) (take i bs) (get_or bs i d ∷ [])
      ∙ ap (λ l. joined (take i bs) ++ l) (append-nil (get_or bs i d)))

  -- the pair at a place is in one block, if there is one
  pub supersede-one : (r until i : ℕ) (bs : List (List (Screened V))) (b n : List (Screened V)) → i < length bs
      → b ≡ get_or bs i b → All (λ x. rank_of x < r) (Before bs i)
      → All (λ x. r < rank_of x) (joined (drop (i + 1) bs)) → n ≡ superseded r until b
      → joined (set bs i n) ≡ superseded r until (joined bs)
  supersede-one r until i bs b n less is before behind new =
      let f : Screened V → Screened V = ends_at r until in
      let lower = superseded-none r until (Before bs i)
      (λ k d inside e. let h = before k d inside in omega (arith, h, e)) in
      let upper = superseded-none r until (Behind bs i) (λ k d inside e.
      let h = subst (λ m. All (λ x. r < rank_of x) (joined (drop m bs))) (add-one i) behind k d inside in
      omega (arith, h, e)) in
      joined-set bs i n less
      ∙ ap (λ l. Before bs i ++ (l ++ Behind bs i)) new
      ∙ sym (ap (map f) (joined-at bs i b less ∙ ap (λ l. Before bs i ++ (l ++ Behind bs i)) (sym is))
      ∙ (map-append f (Before bs i) (b ++ Behind bs i)
      ∙ ap₂ (λ k l. k ++ l) lower
      (map-append f b (Behind bs i) ∙ ap (λ l. map f b ++ l) upper)))

  pub supersede-none : (r until n : ℕ) (bs : List (List (Screened V))) → length bs ≤ n
      → All (λ x. rank_of x < r) (Before bs n) → joined bs ≡ superseded r until (joined bs)
  supersede-none r until n bs all before =
      sym (superseded-none r until (joined bs) (λ k d inside e.
      let h = subst (λ l. All (λ x. rank_of x < r) (joined l)) (take_all n bs all) before k d inside in
      omega (arith, h, e)))
