use Rattle.std.proofs.Common.{◌≡◌, ◌-◌, ◌<◌, ◌∙◌, ap, ap₂, arith, Contains, filter, length, refl, slice_index, subst, sym, take}
use borrow.Rule.Slice.PartMut.{put_mid}
use Rattle.std.specs.List.Sorted.{IsPermutation}
use Rattle.std.proofs.lemmas.List.{get_or-take, length-take-le}
use Rattle.std.specs.List.{range_with_len}
use Rattle.std.proofs.lemmas.List.Sorted.{IsPermutation-put_mid, IsPermutation-trans, length_permutation}
use Rattle.snap_registry.specs.Pins.{is_other, pins_of}
use Rattle.snap_registry.proofs.Arrays.{Leaves, held-turned, slot-held}
use Rattle.snap_registry.proofs.Order.{slots-apart, slots-length}
use Rattle.snap_registry.proofs.Registry.unpin.Goals as goal

pub place_of-place-requires : goal.place_of-place-requires
place_of-place-requires c =
    let n = slots-length c.self.inside.slots c.self.invariant.1 in
    let held : Contains (pins_of (take c.self.inside.held c.self.inside.slots)
    (take c.self.inside.held c.self.inside.versions)) c.args.pin =
    subst (λ l. Contains l c.args.pin) (sym c.self.view_is) c.requires.held in
    slot-held c.args.pin (take c.self.inside.held c.self.inside.slots)
    (take c.self.inside.held c.self.inside.versions) held

pub invariant_of-self : goal.invariant_of-self
invariant_of-self c =
    let held = c.self.inside.held in
    let place = c.place_of-place.result in
    let slots = c.self.inside.slots in
    let versions = c.self.inside.versions in
    let moved : IsPermutation slots (put_mid place (held - place) slots c.rotate_left.new.self) = IsPermutation-put_mid
    place (held - place) slots c.rotate_left.new.self c.rotate_left.ensures.permutation in (
      omega (arith, c.self.invariant.0),
      IsPermutation-trans (range_with_len 0 64) slots _ c.self.invariant.1 moved,
      length_permutation versions _ (IsPermutation-put_mid place
          (held - place) versions c.rotate_left-2.new.self c.rotate_left-2.ensures.permutation) ∙ c.self.invariant.2,
    )

pub returns : goal.returns
returns c =
    let held = c.self.inside.held in
    let place = c.place_of-place.result in
    let slots = c.self.inside.slots in
    let versions = c.self.inside.versions in
    let slot = c.args.pin.slot in
    let n = slots-length slots c.self.invariant.1 in
    let few : length (take held slots) ≡ held = length-take-le held slots (omega (arith, n, c.self.invariant.0)) in
    let within : place < held = omega (arith, few, c.place_of-place.ensures.within) in
    let at : slice_index slots place ≡ slot = sym (get_or-take held slots place 0 within)
    ∙ c.place_of-place.ensures.place in
    let left : Leaves place (held - place) (held - 1) held slot slots versions =
    held-turned place (held - place - 1) (held - 1) (held - place) (held - 1) held slot slots versions
    (slots-apart slots c.self.invariant.1)
    (omega (arith, n, c.self.invariant.2)) (omega (arith, within)) (omega (arith, within, n, c.self.invariant.0)) at
    (omega (arith, within)) refl (omega (arith, within)) in
    ap₂ (λ ys zs. pins_of (take (held - 1) (put_mid place (held - place) slots ys))
    (take (held - 1) (put_mid place (held - place) versions zs))) c.rotate_left.ensures.after
    c.rotate_left-2.ensures.after
    ∙ (left ∙ ap (λ l. filter (is_other slot) l) c.self.view_is)
