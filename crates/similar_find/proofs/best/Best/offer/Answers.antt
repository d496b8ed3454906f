use Rattle.std.proofs.Common.{◌≡◌, ◌≢◌, ◌≤◌, ◌∷◌, ◌++◌, List, length, take, drop, refl, sym, ap, ◌∙◌, subst, arith}
use Rattle.std.specs.List.{insert}
use Rattle.similar_find.specs.Board.{Offer, Board, IsBest}
use Rattle.similar_find.proofs.Placed.{AskSame, Parts, at-place, passed-over, taken-in, where-on, where-behind, where-ok}
use Rattle.similar_find.proofs.best.Best.offer.Goals as goal

pub returns-then-not-passes-clause-best : goal.returns-then-not-passes-clause-best
returns-then-not-passes-clause-best c = λ offered are best.
    let x : Offer = (c.args.id, c.args.c, c.args.u) in
    let i = c.self.inside in
    let old : Board = record { p = i.p; q = i.q; most = i.most; hits = i.hits.items } in
    let before = subst (λ b. IsBest offered b) (sym c.self.view_is) best in
    let same : AskSame old old = record { p = refl; q = refl; most = refl } in
    subst (λ b. IsBest (x ∷ offered) b) c.self.view_is (passed-over old old offered x same are before
    (sym c.passes.ensures ∙ c.if-not-passes.true) refl)

pub returns-then-place-self-clause-best : goal.returns-then-place-self-clause-best
returns-then-place-self-clause-best c = λ offered are best.
    let x : Offer = (c.args.id, c.args.c, c.args.u) in
    let i = c.self.inside in
    let old : Board = record { p = i.p; q = i.q; most = i.most; hits = i.hits.items } in
    let hits : List Offer = c.self.inside.hits.items in
    let before = subst (λ b. IsBest offered b) (sym c.self.view_is) best in
    let same : AskSame old old = record { p = refl; q = refl; most = refl } in
    let len = c.self.inside.hits.ok.0 in
    let few = c.self.invariant.0 in
    let at : c.place_of-place.result ≡ c.self.inside.most = c.if-place-self.true in
    let P : List Offer → Type 0 = λ hs. Parts x hs c.place_of-place.result in
    let Q : List Offer → Type 0 = λ hs. c.place_of-place.result ≤ length hs in
    let bound = subst Q c.deref.ensures.value c.place_of-place.ensures.bound in
    let placed = at-place old offered x c.place_of-place.result are.0 are.2 before bound
    (subst P c.deref.ensures.value c.place_of-place.ensures.place) in
    subst (λ b. IsBest (x ∷ offered) b) c.self.view_is (taken-in old old offered x same are before
    (sym c.passes.ensures ∙ c.if-not-passes.false)
    (where-behind c.self.inside.most x hits (omega arith) (omega arith)
    (placed ∙ ap (λ n. take n hits ++ x ∷ drop n hits) at)))

pub returns-clause-best : goal.returns-clause-best
returns-clause-best c = λ offered are best.
    let x : Offer = (c.args.id, c.args.c, c.args.u) in
    let i = c.self.inside in
    let old : Board = record { p = i.p; q = i.q; most = i.most; hits = i.hits.items } in
    let hits : List Offer = c.self.inside.hits.items in
    let before = subst (λ b. IsBest offered b) (sym c.self.view_is) best in
    let new : Board = record { p = old.p; q = old.q; most = old.most; hits = c.insert.new.self.items } in
    let same : AskSame old new = record { p = refl; q = refl; most = refl } in
    let place = c.place_of-place.result in
    let len = c.self.inside.hits.ok.0 in
    let few = c.self.invariant.0 in
    let room = c.self.invariant.1 in
    let other : place ≢ c.self.inside.most = c.if-place-self.false in
    let P : List Offer → Type 0 = λ hs. Parts x hs place in
    let Q : List Offer → Type 0 = λ hs. place ≤ length hs in
    let bound = subst Q c.deref.ensures.value c.place_of-place.ensures.bound in
    let placed = at-place old offered x place are.0 are.2 before bound
    (subst P c.deref.ensures.value c.place_of-place.ensures.place) in
    let left = c.truncate.ensures.len in
    let kept = c.truncate.ensures.capacity in
    let ok = c.insert.ensures.succeeds (omega arith) in
    let items = c.insert.ensures.items ∙ where-ok c.insert.result _ _ ok
    ∙ ap (λ hs. insert hs place x) c.truncate.ensures.items in
    taken-in old new offered x same are before (sym c.passes.ensures ∙ c.if-not-passes.false)
    (items ∙ where-on c.self.inside.most place x hits (omega arith) placed)
