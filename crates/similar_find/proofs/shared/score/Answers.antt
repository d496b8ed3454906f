use Rattle.std.proofs.Common.{◌∙◌, sym}
use Rattle.similar_find.proofs.Bits.{scored}
use Rattle.similar_find.proofs.shared.score.Goals as goal

pub overflow_sub-result : goal.overflow_sub-result
overflow_sub-result c =
    (scored c.args.left.now c.args.right.now c.args.left_bits c.args.right_bits c.count_shared-shared.result
    (c.count_shared-shared.ensures.length ∙ sym c.has.ensures.length) c.requires.left c.requires.right
    c.count_shared-shared.ensures.value).within

pub returns-clause-all : goal.returns-clause-all
returns-clause-all c =
    (scored c.args.left.now c.args.right.now c.args.left_bits c.args.right_bits c.count_shared-shared.result
    (c.count_shared-shared.ensures.length ∙ sym c.has.ensures.length) c.requires.left c.requires.right
    c.count_shared-shared.ensures.value).all

pub returns-clause-part : goal.returns-clause-part
returns-clause-part c =
    (scored c.args.left.now c.args.right.now c.args.left_bits c.args.right_bits c.count_shared-shared.result
    (c.count_shared-shared.ensures.length ∙ sym c.has.ensures.length) c.requires.left c.requires.right
    c.count_shared-shared.ensures.value).part

pub returns-clause-few : goal.returns-clause-few
returns-clause-few c =
    rw (sym c.count_shared-shared.ensures.length) (scored c.args.left.now c.args.right.now c.args.left_bits
    c.args.right_bits c.count_shared-shared.result (c.count_shared-shared.ensures.length ∙ sym c.has.ensures.length)
    c.requires.left c.requires.right c.count_shared-shared.ensures.value).few
