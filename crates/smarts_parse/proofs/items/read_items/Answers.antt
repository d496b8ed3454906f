use Rattle.std.proofs.Common.{◌≡◌, ◌≢◌, ◌-◌, ◌++◌, length, replicate, get_or, take, drop, ◌∙◌, ap, arith}
use Rattle.std.proofs.lemmas.Result.{err_from_is_err_and}
use Rattle.line_walk.proofs.Steps.{front_is}
use Rattle.smarts_parse.specs.declared.fault.SmartsFault.TheVariants.{NoMemory}
use Rattle.smarts_parse.specs.Whole.{others_text, nodes_from}
use Rattle.smarts_parse.proofs.Results.{if_err}
use Rattle.smarts_parse.proofs.ItemsRead.{count_few, grouped_few, so_far_none, first_item, so_far_more, so_far_all, not_dot}
use Rattle.smarts_parse.proofs.items.read_items.Goals as goal

pub items-init : goal.items-init
items-init c = let e = c.no_reader-reader.ensures
    in so_far_none c.args.text.now c.no_reader-reader.result c.new-groups.result.items e.holds e.closed e.depth
    c.new-groups.ensures.items

pub returns-in_err-is_group-clause-only : goal.returns-in_err-is_group-clause-only
returns-in_err-is_group-clause-only c x xs are spelled =
    let p = err_from_is_err_and c.from_residual.result c.from_residual.ensures.1 in
    let left = c.items.invariant.only (record { first = x; others = xs; are = are; spelled = spelled }) in
    if_err (λ e. e ≡ NoMemory) c.from_residual.result p.0 p.1 (p.2
    ∙ c.in_err-is_group.ensures.only left.first (others_text left.others) (first_item c.items.rest.now left))

pub group_after-group-requires : goal.group_after-group-requires
group_after-group-requires c =
    let few = count_few c.args.text.now c.items.rest.now c.items.reader c.items.groups.items c.items.count
    c.items.invariant in
    omega (arith, c.requires)

pub put_group-requires : goal.put_group-requires
put_group-requires c =
    let s = c.items.invariant in
    let r = c.in_ok-is_group.ensures.found (nodes_from 0 s.done) s.holds in
    let few = grouped_few _ _ _ _ _ _ _ _ s r in
    omega (arith, c.len.ensures)

pub returns-in-empty-clause-found : goal.returns-in-empty-clause-found
returns-in-empty-clause-found c =
    let s = c.items.invariant in
    let r = c.in_ok-is_group.ensures.found (nodes_from 0 s.done) s.holds in
    let size : c.len.result ≡ length c.item.new.reader.atoms.items = omega (arith, c.len.ensures) in
    let gs = c.items.groups.items in
    let put = c.in_ok-put_group.ensures ∙ ap (λ n. gs ++ replicate (n - length gs) c.group_after-group.result) size in
    so_far_all _ _ _ _ _ _ _ _ _ _ _ s r c.group_after-group.ensures c.max-count.ensures put (omega arith)

pub items-preserved : goal.items-preserved
items-preserved c =
    let s = c.items.invariant in
    let r = c.in_ok-is_group.ensures.found (nodes_from 0 s.done) s.holds in
    let f = front_is c.in_ok-is_group.after.now 46 (omega arith) (omega arith) in
    let size : c.len.result ≡ length c.item.new.reader.atoms.items = omega (arith, c.len.ensures) in
    let gs = c.items.groups.items in
    let put = c.in_ok-put_group.ensures ∙ ap (λ n. gs ++ replicate (n - length gs) c.group_after-group.result) size in
    let next = take (length c.in_ok-is_group.after.now - 1) (drop 1 c.in_ok-is_group.after.now) in
    so_far_more _ _ _ _ _ _ _ _ _ _ _ s r c.group_after-group.ensures c.max-count.ensures put next f
    c.in_ok-is_group.ensures.closed c.in_ok-is_group.ensures.only

pub returns-in_default-clause-only : goal.returns-in_default-clause-only
returns-in_default-clause-only c x xs are spelled =
    let left = c.items.invariant.only (record { first = x; others = xs; are = are; spelled = spelled }) in
    let k = c.in_ok-is_group.ensures.only left.first (others_text left.others) (first_item c.items.rest.now left) in
    let n : get_or c.in_ok-is_group.after.now 0 0 ≢ 46 = λ e. omega arith in
    absurd (not_dot c.in_ok-is_group.after.now left.others k (omega arith) n)
