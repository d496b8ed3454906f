use Rattle.std.proofs.Common.{◌++◌, ◌∙◌, [], ◌∷◌, ap, filter, sym}
use Rattle.screen_index.specs.Pairs.{is_apart}
use Rattle.store_core.proofs.Indexed.{apart-in-turn}
use Rattle.store_core.proofs.kept.leave.Goals as goal

pub returns-then-not-is_full-clause-left : goal.returns-then-not-is_full-clause-left
returns-then-not-is_full-clause-left c =
    let xs = c.args.index.now.entries in
    ap (λ l. filter (is_apart l) xs) c.push.ensures.items
    ∙ sym (apart-in-turn c.args.gone.now.items (c.args.place ∷ []) xs)

pub returns-clause-left : goal.returns-clause-left
returns-clause-left c =
    ap (λ l. filter (is_apart l) c.drop_all.new.self.entries)
    (c.push-2.ensures.items ∙ ap (λ l. l ++ c.args.place ∷ []) c.clear.ensures)
    ∙ ap (filter (is_apart (c.args.place ∷ [])))
    (c.drop_all.ensures.entries ∙ ap (λ l. filter (is_apart l) c.args.index.now.entries) c.as_slice.ensures.value)
