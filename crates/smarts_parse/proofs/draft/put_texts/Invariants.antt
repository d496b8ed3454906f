use Rattle.std.proofs.Common.{◌≡◌, ◌++◌, map, take}
use Rattle.smarts_parse.specs.Draft.{left_of, at_level}
use Rattle.smarts_parse.proofs.draft.put_texts.Given as goal

abbrev pub invariant-loop-text : goal.invariant-loop-text
invariant-loop-text l = map left_of l.left.items ≡ map left_of l.initial.left.items
    ++ at_level l.level (map (λ v. v.items) (take l.text-index l.texts))
