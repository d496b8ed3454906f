use Rattle.std.proofs.Common.{◌≡◌, ◌+◌, ◌<◌, ◌≤◌, ◌∙◌, ap, arith, false, get_or, length, rules, Some, subst, sym, true}
use Rattle.std.proofs.lemmas.List.{get_or_default}
use Rattle.record_versions.specs.Entries.{IsLeastUnread, IsRead, IsReadBefore}
use Rattle.record_versions.specs.Rows.{Row}
use Rattle.record_versions.proofs.Order.{Ascends, IsNextAt, all-read, first-unread, is-read, is-unread, read-more}
use Rattle.record_versions.proofs.chain.Chain.unread_from.Goals as goal

pub returns-then-not-is_read : goal.returns-then-not-is_read
returns-then-not-is_read g c =
    let items = c.self.inside.entries.entries in
    let ks = c.args.self.now.entries in
    let live = c.args.live.now in
    let place = c.loop-place.place in
    let x = c.index.result.now in
    let next = c.version_at.result in
    let same = ap (λ (r : Row g.row.V.Denot). r.entries) c.self.view_is in
    let less : place < length ks = omega (arith, ap (λ l. length l) same) in
    let up : Ascends ks = subst Ascends same c.self.invariant in
    let is : x ≡ get_or ks place x = c.index.ensures ∙ ap (λ l. get_or l place x) same in
    let no : c.is_read.result ≡ false = search rules in
    let behind = c.before-place.ensures.behind place x (omega arith) (omega arith) in
    let late : c.args.from ≤ (get_or ks place x).version = omega (
      arith,
      behind,
      ap (λ l. (get_or l place x).version) same,
    ) in
    subst (λ y. IsLeastUnread live c.args.from ks (Some y.version)) (sym is)
    (first-unread live c.args.from place ks x less up c.loop-place.invariant late
    (is-unread live place ks x next less up (subst (λ l. IsNextAt l (place + 1) next) same c.version_at.ensures)
    (subst (λ y. IsReadBefore y.version next live false) is
    (subst (λ b. IsReadBefore x.version next live b) no c.is_read.ensures))))

pub loop-place-preserved : goal.loop-place-preserved
loop-place-preserved g c =
    let items = c.self.inside.entries.entries in
    let ks = c.args.self.now.entries in
    let live = c.args.live.now in
    let place = c.loop-place.place in
    let x = c.index.result.now in
    let next = c.version_at.result in
    let same = ap (λ (r : Row g.row.V.Denot). r.entries) c.self.view_is in
    let less : place < length ks = omega (arith, ap (λ l. length l) same) in
    let up : Ascends ks = subst Ascends same c.self.invariant in
    let is : x ≡ get_or ks place x = c.index.ensures ∙ ap (λ l. get_or l place x) same in
    let yes : c.is_read.result ≡ true = search rules in
    read-more live c.args.from place ks c.loop-place.invariant
    (λ d. subst (IsRead live ks) (get_or_default ks place x d less)
    (is-read live place ks x next less up (subst (λ l. IsNextAt l (place + 1) next) same c.version_at.ensures)
    (subst (λ y. IsReadBefore y.version next live true) is
    (subst (λ b. IsReadBefore x.version next live b) yes c.is_read.ensures))))

pub returns : goal.returns
returns g c =
    let same = ap (λ (r : Row g.row.V.Denot). r.entries) c.self.view_is in
    all-read c.args.live.now c.args.from c.loop-place.place c.args.self.now.entries
    (omega (arith, ap (λ l. length l) same)) c.loop-place.invariant
