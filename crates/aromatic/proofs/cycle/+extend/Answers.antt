use Rattle.std.proofs.Common.{◌≡◌, ◌≢◌, ◌≤◌, ◌<◌, ◌∷◌, [], length, set, ◌+◌, ◌-◌, List, ◌++◌, sym, ap, ◌∙◌, arith, get_or, Ok, true, false}
use Rattle.std.proofs.lemmas.Bool.{false_from_ne_true, false≢true}
use Rattle.std.proofs.lemmas.List.{take_at, length_push, length-set}
use Rattle.aromatic.specs.declared.links.Link.{Link}
use Rattle.aromatic.specs.Links.{links_in}
use Rattle.aromatic.specs.Route.{CanReach, IsRoute, atoms_of, last_of}
use Rattle.aromatic.proofs.Routes.{atom_at, atoms_of-push, completes-here, completes-less, flags-back, flags-push, length-atoms_of, length-links_in, linked_at, near_enough, nowhere_more, reach-new, reach-none, reached, steps-push, sum_by-atoms_of, trail-next}
use Rattle.aromatic.proofs.cycle.+extend.Goals as goal
use Rattle.aromatic.proofs.cycle.+extend.Goals.{then-may_go_to+in_ok-push+in_ok-found+else-found, else-may_go_to}

pub is_huckel-requires-clause-in_range : goal.is_huckel-requires-clause-in_range
is_huckel-requires-clause-in_range t c =
    let path : List Link = c.args.path.now.links.items in
    rw c.deref-then-last-target.ensures.value (λ k d lt. rw (
      c.requires.each,
      ← length-links_in c.args.links.now,
      ← atom_at path k d lt,
    ) (c.requires.trail.in_range k (omega (arith, length-atoms_of path))))

pub returns-then-last-target-clause-found : goal.returns-then-last-target-clause-found
returns-then-last-target-clause-found t c = λ yes.
    let path : List Link = c.args.path.now.links.items in
    let is : c.is_huckel.result ≡ true = cc in
    let at : last_of (atoms_of path) ≡ c.args.target = rw c.deref.ensures.value at (sym c.last_of-last.ensures
    ∙ c.if-last-target.true) in
    let e = rw c.deref-then-last-target.ensures.value at c.is_huckel.ensures in
    let route : IsRoute (links_in c.args.links.now) c.args.gives.now c.args.target (atoms_of path) =
    record {
      trail = c.requires.trail;
      three = rw length-atoms_of (e.0 is).0;
      ends = at;
      count =
          rw sum_by-atoms_of (e.0 is).1;
    } in
    completes-here (links_in c.args.links.now) c.args.gives.now c.args.target path c.requires.steps route

pub returns-then-last-target-clause-none : goal.returns-then-last-target-clause-none
returns-then-last-target-clause-none t c = λ no reach.
    let path : List Link = c.args.path.now.links.items in
    let is : c.is_huckel.result ≡ false = cc in
    let at : last_of (atoms_of path) ≡ c.args.target = rw c.deref.ensures.value at (sym c.last_of-last.ensures
    ∙ c.if-last-target.true) in
    let e = rw c.deref-then-last-target.ensures.value at c.is_huckel.ensures in
    let route = reached (links_in c.args.links.now) c.args.gives.now c.args.target (atoms_of path) c.requires.trail at
    reach in
    false≢true (sym is ∙ e.1 (rw length-atoms_of at route.three, rw sum_by-atoms_of at route.count))

pub may_go_to-requires-clause-in_range : goal.may_go_to-requires-clause-in_range
may_go_to-requires-clause-in_range t c =
    let link = linked_at (links_in c.args.links.now) c.last_of-last.result c.links_of-link-items.result.now
    c.loop-link.link-index _ c.links_of-link-items.ensures c.loop-link-test.true in
    rw c.requires.distances.count (c.requires.closed c.last_of-last.result _ (_, link))

pub may_go_to-requires-clause-flagged : goal.may_go_to-requires-clause-flagged
may_go_to-requires-clause-flagged t c =
    let link = linked_at (links_in c.args.links.now) c.last_of-last.result c.links_of-link-items.result.now
    c.loop-link.link-index _ c.links_of-link-items.ensures c.loop-link-test.true in
    rw (c.loop-link.invariant.flags, c.requires.flag_each, ← length-links_in c.args.links.now)
    (c.requires.closed c.last_of-last.result _ (_, link))

pub push-requires : goal.push-requires
push-requires t c =
    let link = linked_at (links_in c.args.links.now) c.last_of-last.result c.links_of-link-items.result.now
    c.loop-link.link-index _ c.links_of-link-items.ensures c.loop-link-test.true in
    rw (c.loop-link.invariant.flags, c.requires.flag_each, ← length-links_in c.args.links.now)
    (c.requires.closed c.last_of-last.result _ (_, link))

pub index_mut-requires : goal.index_mut-requires
index_mut-requires t c =
    let link = linked_at (links_in c.args.links.now) c.last_of-last.result c.links_of-link-items.result.now
    c.loop-link.link-index _ c.links_of-link-items.ensures c.loop-link-test.true in
    let flagged = rw c.loop-link.invariant.flags at (c.in_ok-found.ensures.flags ∙ c.in_ok-push.ensures.flags) in
    let long : Rattle.std.specs.Vec.vec_len c.extend.new.path.flags ≡ length c.args.path.now.flags.items =
    c.extend.new.path.flags.ok.0 ∙ ap (λ xs. length xs) flagged ∙ length-set c.args.path.now.flags.items _ true in
    rw (c.from.ensures, long, c.requires.flag_each, ← length-links_in c.args.links.now)
    (c.requires.closed c.last_of-last.result _ (_, link))

pub returns-then-found-clause-flags : goal.returns-then-found-clause-flags
returns-then-found-clause-flags t c =
    let flagged = rw c.loop-link.invariant.flags at (c.in_ok-found.ensures.flags ∙ c.in_ok-push.ensures.flags) in
    let may = (rw c.loop-link.invariant.flags at c.may_go_to.ensures).0 c.if-may_go_to.true in
    rw (c.from.ensures, flagged) (flags-back c.args.path.now.flags.items _ may.1)

pub extend-requires : goal.extend-requires
extend-requires t c =
    let links : List (List Link) = links_in c.args.links.now in
    let path : List Link = c.args.path.now.links.items in
    let next : Link = get_or c.links_of-link-items.result.now c.loop-link.link-index (record { to = 0; bond = 0 }) in
    let trail = c.requires.trail in
    let some : 1 ≤ length (atoms_of path) = trail.some in
    let long : length (atoms_of path) ≡ length path = length-atoms_of path in
    let same = c.loop-link.invariant.same in
    let last : c.last_of-last.result ≡ last_of (atoms_of path) = rw c.deref.ensures.value at c.last_of-last.ensures in
    let are = rw last at c.links_of-link-items.ensures in
    let link = linked_at links (last_of (atoms_of path)) c.links_of-link-items.result.now c.loop-link.link-index
    (record { to = 0; bond = 0 }) are c.loop-link-test.true in
    let may = (rw (same, c.loop-link.invariant.flags) at c.may_go_to.ensures).0 c.if-may_go_to.true in
    let room : length path < 18 = omega (arith, may.0) in
    let few : length (atoms_of path) < 18 = omega arith in
    let push : c.push.new.self.links.items ≡ path ++ next ∷ [] = rw same at c.in_ok-push.ensures.links in
    let more : length c.push.new.self.links.items ≡ length path + 1 = ap length push ∙ length_push path next in
    let on = trail-next links (atoms_of path) next c.requires.closed trail few link
    (λ q. false≢true (sym may.1 ∙ (c.requires.flags next.to).1 q)) in
    let flags = c.loop-link.invariant.flags in
    let within : next.to < length c.args.path.now.flags.items =
    rw (c.requires.flag_each, ← length-links_in c.args.links.now) (c.requires.closed _ next.to (next.bond, link)) in
    let flagged : c.push.new.self.flags.items ≡ set c.args.path.now.flags.items next.to true =
    rw flags at c.in_ok-push.ensures.flags in
    let steps = steps-push links path next (omega arith) c.requires.steps link in
    let falls : 18 - length c.push.new.self.links.items < 18 - length path = omega arith in (
      omega (arith, c.decreases, falls),
      (
        c.requires.closed,
        (
          c.requires.each,
          (
            c.requires.distances,
            (
              rw (push, atoms_of-push) on,
              (
                rw push steps,
                (
                  ap (λ xs. length xs) flagged ∙ length-set c.args.path.now.flags.items next.to true
                      ∙ c.requires.flag_each,
                  rw (push, flagged) (flags-push c.args.path.now.flags.items path next within
                      c.requires.flags),
                ),
              ),
            ),
          ),
        ),
      ),
    )

pub returns-then-found-clause-found : goal.returns-then-found-clause-found
returns-then-found-clause-found t c = λ _.
    let push = rw c.loop-link.invariant.same at c.in_ok-push.ensures.links in
    completes-less (links_in c.args.links.now) c.args.gives.now c.args.target c.args.path.now.links.items _
    c.extend.new.path.links.items (rw push at (c.in_ok-found.ensures.found (ap (λ b. Ok b) c.if-found.true)))

pub loop-link-preserved : goal.loop-link-preserved
loop-link-preserved t c =
    let links : List (List Link) = links_in c.args.links.now in
    let path : List Link = c.args.path.now.links.items in
    let nexts : List Link = c.links_of-link-items.result.now in
    let next : Link = get_or nexts c.loop-link.link-index (record { to = 0; bond = 0 }) in
    let same = c.loop-link.invariant.same in
    let long : length (atoms_of path) ≡ length path = length-atoms_of path in
    elim c.if-may_go_to.branch [
      | then-may_go_to+in_ok-push+in_ok-found+else-found w ↦
          let push : w.push.new.self.links.items ≡ path ++ next ∷ [] = rw same at w.in_ok-push.ensures.links in
          let no = ap (λ b. Ok b) w.if-found.false in
          let kept : w.extend.new.path.links.items ≡ path ++ next ∷ [] = w.in_ok-found.ensures.kept no ∙ push in
          let len : Rattle.std.specs.Vec.vec_len w.extend.new.path.links ≡ length path + 1 =
          w.extend.new.path.links.ok.0 ∙ ap length kept ∙ length_push path next in
          let cut : w.pop.new.self.items ≡ path = w.pop.ensures.rest
          ∙ rw kept (take_at path (next ∷ []) (Rattle.std.specs.Vec.vec_len w.extend.new.path.links - 1)
          (omega arith)) in
          let may = (rw (same, c.loop-link.invariant.flags) at c.may_go_to.ensures).0 w.if-may_go_to.true in
          let flagged = rw c.loop-link.invariant.flags at (w.in_ok-found.ensures.flags ∙ w.in_ok-push.ensures.flags) in
          let back : set w.extend.new.path.flags.items w.from.result false ≡ c.args.path.now.flags.items =
          rw (w.from.ensures, flagged) (flags-back c.args.path.now.flags.items next.to may.1) in
          record {
            same = ap (λ v. v.links.items) w.path-is ∙ cut;
            flags = ap (λ v. v.flags.items) w.path-is ∙ back;
            none = nowhere_more (λ l. CanReach links c.args.gives.now c.args.target (atoms_of path ++ l.to ∷ [])) nexts
                c.loop-link.link-index (record { to = 0; bond = 0 }) c.loop-link-test.true c.loop-link.invariant.none
                (λ reach. w.in_ok-found.ensures.none no (rw (push, atoms_of-push) reach));
          }
      | else-may_go_to w ↦
          let may = rw (same, c.loop-link.invariant.flags) at c.may_go_to.ensures in
          record {
            same = ap (λ v. v.links.items) w.path-is ∙ same;
            flags = ap (λ v. v.flags.items) w.path-is ∙ c.loop-link.invariant.flags;
            none = nowhere_more (λ l. CanReach links c.args.gives.now c.args.target (atoms_of path ++ l.to ∷ [])) nexts
                c.loop-link.link-index (record { to = 0; bond = 0 }) c.loop-link-test.true c.loop-link.invariant.none
                (λ reach.
                let near = near_enough links c.args.gives.now c.args.target c.args.distances.now (atoms_of path) next.to
                c.requires.distances reach in
                false≢true (sym w.if-may_go_to.false
                ∙ may.1 (
                  rw long at near,
                  false_from_ne_true _ (λ old.
                      reach-new links c.args.gives.now c.args.target (atoms_of path) next.to
                      ((c.requires.flags next.to).0 old) reach),
                )));
          }
    ]

pub returns-clause-none : goal.returns-clause-none
returns-clause-none t c = λ _ reach.
    let path : List Link = c.args.path.now.links.items in
    let last : c.last_of-last.result ≡ last_of (atoms_of path) = rw c.deref.ensures.value at c.last_of-last.ensures in
    let are = rw last at c.links_of-link-items.ensures in
    let away : last_of (atoms_of path) ≢ c.args.target = rw last at c.if-last-target.false in
    reach-none (links_in c.args.links.now) c.args.gives.now c.args.target (atoms_of path)
    c.links_of-link-items.result.now c.requires.trail.some away are (λ k d lt.
    c.loop-link.invariant.none k d (omega arith)) reach
