use Rattle.std.proofs.Common.{◌≢◌, rules}
use Rattle.std.proofs.lemmas.Bool.{false≢true}
use Rattle.exact_find.proofs.Images.{as_map}
use Rattle.exact_find.proofs.Keys.{same-keys}
use Rattle.exact_find.proofs.walk.same.Goals as goal

pub returns-then-ne : goal.returns-then-ne
returns-then-ne c =
    let differ : c.key_of.result ≢ c.key_of-2.result = search rules in (
      (λ no'. absurd (false≢true no')),
      (λ same. absurd (differ (same-keys c.args.left.now c.args.right.now
          c.key_of.result c.key_of-2.result c.key_of.ensures.valid c.key_of-2.ensures.valid same c.key_of.ensures.key
          c.key_of-2.ensures.key))),
    )

pub returns-then-not-start : goal.returns-then-not-start
returns-then-not-start c = (
  (λ no'. absurd (false≢true no')),
  (λ same.
      let to = as_map c.args.left.now c.args.right.now c.key_of.ensures.valid same in
      absurd (c.start.ensures.refused c.if-not-start.true to.0 to.1 to.2)),
)
