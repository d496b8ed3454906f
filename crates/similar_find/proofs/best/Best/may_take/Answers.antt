use Rattle.std.proofs.Common.{refl, length, ◌≡◌, ◌-◌, Some, ◌∷◌, List, sym, ◌∙◌, subst, arith}
use Rattle.std.specs.Prelude.{slice_get}
use Rattle.similar_find.specs.Board.{Offer, Board, IsBest}
use Rattle.similar_find.proofs.Placed.{left-out-behind, left-out-below}
use Rattle.similar_find.proofs.best.Best.may_take.Goals as goal

pub returns-then-not-passes : goal.returns-then-not-passes
returns-then-not-passes c = record {
  same = λ no offered d v le are best.
      let x : Offer = (c.args.id, c.args.c, c.args.u) in
      let y : Offer = (c.args.id, d, v) in
      let i = c.self.inside in
      let board : Board = record { p = i.p; q = i.q; most = i.most; hits = i.hits.items } in
      subst (λ b. IsBest (y ∷ offered) b) c.self.view_is (left-out-below board offered x y are
      (subst (λ b. IsBest offered b) (sym c.self.view_is) best) le (sym c.passes.ensures ∙ c.if-not-passes.true));
}

pub returns-else-len-self : goal.returns-else-len-self
returns-else-len-self c = record {
  same = λ no offered d v le are best.
      let x : Offer = (c.args.id, c.args.c, c.args.u) in
      let y : Offer = (c.args.id, d, v) in
      let i = c.self.inside in
      let board : Board = record { p = i.p; q = i.q; most = i.most; hits = i.hits.items } in
      let hits = i.hits.items in
      let len = i.hits.ok.0 in
      let few = c.self.invariant.0 in
      let counted = c.len.ensures in
      let room = c.if-len-self.false in
      let full : length hits ≡ i.most = omega arith in
      let last = c.is_before_last.ensures.last no in
      let at = subst (λ (hs : List Offer). slice_get hs (length hs - 1) ≡ Some last.0) c.deref.ensures.value last.1 in
      subst (λ b. IsBest (y ∷ offered) b) c.self.view_is (left-out-behind board offered x y last.0 c.requires refl are
      (subst (λ b. IsBest offered b) (sym c.self.view_is) best) le full at last.2);
}
