use Rattle.std.proofs.Common.{◌⊎◌, inl, inr, refl, [], ◌∷◌, lit≤}
use Rattle.path_print.specs.Arms.{IsBitAt, IsBitThrough, IsBitAround, views_around}
use Rattle.path_print.proofs.Ways.{sets_same}
use Rattle.path_print.proofs.Around.{none_all, around_all, single_there, single_back, sets_then}
use Rattle.path_print.proofs.molecule.mark_through.Goals as goal

pub mark_odd-requires-clause-row : goal.mark_odd-requires-clause-row
mark_odd-requires-clause-row c =
    none_all (views_around c.args.middle.now) c.args.middle.now.atom c.none.result c.none.ensures

pub returns : goal.returns
returns c =
    let middle = c.args.middle.now in
    let views = views_around middle in
    let F = IsBitThrough views middle.atom in
    let zero = sets_same (IsBitAt views (middle.atom ∷ [])) (F 0 0) c.args.print.now c.mark_path.new.print
    (single_there views middle.atom) (single_back views middle.atom) c.mark_path.ensures in
    let four = sets_then (F 2 1) (F 2 2) c.mark_even.new.print c.mark_odd-2.new.print c.mark_even-2.new.print
    c.mark_odd-2.ensures c.mark_even-2.ensures in
    let three = sets_then (F 1 1) (λ bit. F 2 1 bit ⊎ F 2 2 bit) c.mark_odd.new.print c.mark_even.new.print
    c.mark_even-2.new.print c.mark_even.ensures four in
    let two = sets_then (F 1 0) (λ bit. F 1 1 bit ⊎ (F 2 1 bit ⊎ F 2 2 bit)) c.mark_path.new.print c.mark_odd.new.print
    c.mark_even-2.new.print c.mark_odd.ensures three in
    let one = sets_then (F 0 0) (λ bit. F 1 0 bit ⊎ (F 1 1 bit ⊎ (F 2 1 bit ⊎ F 2 2 bit))) c.args.print.now
    c.mark_path.new.print c.mark_even-2.new.print zero two in
    sets_same (λ bit. F 0 0 bit ⊎ (F 1 0 bit ⊎ (F 1 1 bit ⊎ (F 2 1 bit ⊎ F 2 2 bit)))) (IsBitAround views middle.atom)
    c.args.print.now c.mark_even-2.new.print
    (λ bit h. elim h [
      | inl a ↦ (0, 0, lit≤ tt, inl refl, a)
      | inr g ↦ elim g [
        | inl a ↦ (1, 0, lit≤ tt, inr refl, a)
        | inr i ↦ elim i [
          | inl a ↦ (1, 1, lit≤ tt, inl refl, a)
          | inr j ↦ elim j [
            | inl a ↦ (2, 1, lit≤ tt, inr refl, a)
            | inr a ↦ (2, 2, lit≤ tt, inl refl, a)
          ]
        ]
      ]
    ]) (around_all views middle.atom) one
