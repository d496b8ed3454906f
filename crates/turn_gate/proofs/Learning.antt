-- A look after a join, or before a split, keeps the rule. After a join it tells how both parts stand in what was seen.
use Rattle.std.proofs.Common.{◌≡◌, ℕ, ◌+◌, List, [], ◌∷◌, ◌++◌, length, set, get_or, refl, ap, ap₂, sym, ◌∙◌, subst, inl, inr, ⊎_elim, arith, Option, length-append}
use Rattle.atomic_table.specs.Table.{Step, keeps, Allows}
use Rattle.turn_gate.specs.declared.known.Known.{Known}
use Rattle.turn_gate.specs.Numbers.{own, longer, times}
use Rattle.turn_gate.specs.Rules.{AreAll, Course, Knows, OneHistory, PartsKnow}
use Rattle.turn_gate.specs.Steps.{Sat, sat, Learns, PartsSeen, settled, joined}
use Rattle.turn_gate.specs.declared.gate.Gate.{Gate}
use Rattle.turn_gate.specs.declared.gate.Pass.{Pass}
use Rattle.turn_gate.specs.Passes.{IsOf, Merged, known, sat_of}
use Rattle.turn_gate.proofs.Lists.{refits, cuts, of_front, longer_than, longer_is, empty_is, single_is}
use Rattle.turn_gate.proofs.Seats.{at_still}

module _ {E : Type 0} (number : E → ℕ) where
  in_seen : (h seen rest : List E) (ns : List ℕ) (ps : List (List ℕ × List E)) → h ≡ seen ++ rest
      → PartsKnow number h ns ps → PartsSeen number seen ps
  in_seen h seen rest ns [] is fit = tt
  in_seen h seen rest ns (p ∷ ps) is fit =
      let f = fit.0 in (
        (λ le. let t = cuts p.1 f.0 seen rest (sym f.1 ∙ is) le in
            (t.0, t.1, of_front number p.0 t.0 rest (ap (own number p.0) (sym t.2) ∙ f.2))),
        in_seen h seen rest ns ps is fit.1,
      )

module _ {V E O : Type 0} (stands : O → V → List E → Type 0) (number : E → ℕ) (first : V) (turns : ℕ) where
  pub learns : (slots id : ℕ) (m : Sat V E O) (st : Step (Option V)) → m.0.stage ≡ 0
      → Allows (OneHistory stands number first turns) slots id m 0 (λ n. n) (Learns number st m)
  learns slots id m st out s kept wide at lt =
      let was = kept.knows id m.0 at in
      let c : Course E O = kept.course in
      let w : Known V E O = settled c.origin m.0 in (
        w,
        keeps,
        tt,
        record {
          course = c;
          holder = kept.holder;
          begins = kept.begins;
          bounded = kept.bounded;
          words = ap (λ (l : List ℕ). set l 0 (get_or l 0 0)) kept.words;
          free = kept.free;
          held = λ busy. let h = kept.held busy in
              (h.0, at_still s.views id c.who m.0 w (λ v. v.stage) c.stage at refl h.1);
          home = kept.home;
          knows = refits (Knows number first turns c) s.views id w
              (record {
                first_is = was.first_is;
                turns_is = was.turns_is;
                origin_is = (refl, tt);
                rest = was.rest;
                seen_is = was.seen_is;
                others = was.others;
                mine = was.mine;
                turn = inl out;
                parts = tt;
                roots = was.roots;
              })
              (λ k v ne e. kept.knows k v e);
          longest = let l = kept.longest in
              (l.0, at_still s.views id l.0 m.0 w (λ v. v.seen) c.history at refl l.1);
          rooted = (kept.rooted.0, at_still s.views id c.root m.0 w (λ v. v.given) c.given at refl kept.rooted.1);
          had = λ n lt. at_still s.views id (c.owner n) m.0 w (λ v. times n v.numbers) 1 at refl (kept.had n lt);
          named = kept.named;
        },
        record {
          origin = c.origin;
          one = was.origin_is;
          is = refl;
          parts = in_seen number c.history m.0.seen was.rest m.0.numbers m.0.parts was.seen_is was.parts;
          named = λ root k ge.
              let all : m.0.given ≡ c.given = ⊎_elim (λ z. absurd (omega (arith, z))) (λ u. u.0) was.roots in
              of_front number (k ∷ []) m.0.seen was.rest (ap (own number (k ∷ [])) (sym was.seen_is) ∙
              kept.named k (omega (arith, all)));
        },
      )

-- where two origins are one, each of them is
both_are : {O : Type 0} (o : O) (xs ys : List O) → length xs ≡ 1 → length ys ≡ 1 → AreAll o (xs ++ ys)
    → (o ∷ [] ≡ xs) × (o ∷ [] ≡ ys)
both_are {O} o xs ys one two all =
    let x = single_is xs one in
    let y = single_is ys two in
    let here : AreAll o (x.0 ∷ y.0 ∷ []) = subst (λ (l : List O). AreAll o l)
    (ap (λ (l : List O). l ++ ys) x.1 ∙ ap (λ (l : List O). x.0 ∷ l) y.1) all in (
      ap (λ (z : O). z ∷ []) (sym here.0) ∙ sym x.1,
      ap (λ (z : O). z ∷ []) (sym here.1.0) ∙ sym y.1,
    )

-- a look without a join before it leaves what the pass knows
pub unchanged : {V E O : Type 0} (number : E → ℕ) (g : Gate V E O) (p : Pass V E O) (st : Step (Option V)) (found : ℕ)
    (n : Sat V E O) → IsOf g p → Learns number st (sat_of p) found n → n ≡ sat_of p
unchanged {V} {E} {O} number g p st found n of learned =
    let v : Known V E O = known p in
    let o = single_is v.origin of.placed in
    let here : AreAll learned.origin (o.0 ∷ []) = subst (λ (l : List O). AreAll learned.origin l) o.1 learned.one in
    let origin : learned.origin ∷ [] ≡ v.origin = ap (λ (z : O). z ∷ []) (sym here.0) ∙ sym o.1 in
    let parts : [] ≡ v.parts = sym (empty_is v.parts of.settled) in
    learned.is ∙ ap₂ (λ (os : List O) (ps : List (List ℕ × List E)).
    sat (record v { origin = os; parts = ps }) (sat_of p).1) origin parts

module _ {V E O : Type 0} (number : E → ℕ) (g : Gate V E O) (p o q : Pass V E O) (l : Sat V E O)
    (st : Step (Option V)) (found : ℕ) where
  pub merged_of : IsOf g p → IsOf g o → l ≡ sat (joined (known p) (known o)) (sat_of p).1
      → Learns number st l found (sat_of q) → Merged number p o q
  merged_of of of' is learned =
      let now : Learns number st (sat (joined (known p) (known o)) (sat_of p).1) found (sat_of q) =
      subst (λ (k : Sat V E O). Learns number st k found (sat_of q)) is learned in
      let long = longer_than (known p).seen (known o).seen in
      let its = now.parts.0 long.0 in
      let other = now.parts.1.0 long.1 in
      let given : (known q).given ≡ (known p).given + (known o).given = ap (λ (k : Sat V E O). k.0.given) now.is in
      let seen : (known q).seen ≡ longer (known p).seen (known o).seen = ap (λ (k : Sat V E O). k.0.seen) now.is in
      let origin : (known q).origin ≡ now.origin ∷ [] = ap (λ (k : Sat V E O). k.0.origin) now.is in
      let one = both_are now.origin (known p).origin (known o).origin of.placed of'.placed now.one in
      record {
        first = ap (λ (k : Sat V E O). k.0.first) now.is;
        origin = origin ∙ one.0;
        origin_other = origin ∙ one.1;
        numbers = ap (λ (k : Sat V E O). k.0.numbers) now.is;
        given = given;
        longer = ⊎_elim (λ z. inl (seen ∙ z)) (λ z. inr (seen ∙ z)) (longer_is (known p).seen (known o).seen);
        later = its.0;
        seen = seen ∙ its.1;
        none = its.2;
        later_other = other.0;
        seen_other = seen ∙ other.1;
        none_other = other.2;
        named = λ root k ge. ap (own number (k ∷ [])) seen ∙ now.named (omega (arith, given)) k (omega (arith, given));
      }

  pub still_of : IsOf g p → q.seat.table_id ≡ p.seat.table_id
      → l ≡ sat (joined (known p) (known o)) (sat_of p).1 → Learns number st l found (sat_of q) → IsOf g q
  still_of of same is learned =
      let now : Learns number st (sat (joined (known p) (known o)) (sat_of p).1) found (sat_of q) =
      subst (λ (k : Sat V E O). Learns number st k found (sat_of q)) is learned in
      let numbers : (known q).numbers ≡ (known p).numbers ++ (known o).numbers =
      ap (λ (k : Sat V E O). k.0.numbers) now.is in
      record {
        same = same ∙ of.same;
        limit = ap (λ (k : Sat V E O). k.0.turns) now.is ∙ of.limit;
        placed = ap (λ (k : Sat V E O). length k.0.origin) now.is;
        numbered = (let n' = ap length numbers in let lt = of.numbered in
            omega (arith, length-append (known p).numbers (known o).numbers));
        settled = ap (λ (k : Sat V E O). length k.0.parts) now.is;
        out = ap (λ (k : Sat V E O). k.0.stage) now.is ∙ of.out;
        empty = ap (λ (k : Sat V E O). length k.1) now.is ∙ of.empty;
      }
