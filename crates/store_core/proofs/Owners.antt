-- Whose the pins are makes no difference to a store.
use Rattle.std.proofs.Common.{◌≡◌, ◌∙◌, ap, List, [], ◌∷◌, map, refl, subst, sym, ℕ}
use Rattle.snap_registry.specs.declared.Pin.{Pin}
use Rattle.store_machine.specs.Laws.{IsSound}
use Rattle.store_machine.specs.Owners.{SameButOwners, SoundnessAsksNoOwner, unowned}
use Rattle.store_machine.specs.declared.machine.Held.{Held}
use Rattle.store_machine.specs.declared.machine.State.{State}
use Rattle.store_core.specs.Stored.{AsksNoOwner, Served, StandsFor, StoreTerm, alone, pin_of, served}
use Rattle.store_core.proofs.Rows.{pins-stand}

pin_from : ℕ × ℕ → Pin
pin_from x = record { slot = x.0; version = x.1 }

from-unowned : (ps : List Held) → map pin_of ps ≡ map pin_from (map unowned ps)
unfolding pin_from
from-unowned [] = refl
from-unowned (p ∷ ps) = ap (λ (l : List Pin). pin_of p ∷ l) (from-unowned ps)

same-pins : (ps qs : List Held) → map unowned qs ≡ map unowned ps → map pin_of qs ≡ map pin_of ps
same-pins ps qs e = from-unowned qs ∙ (ap (map pin_from) e ∙ sym (from-unowned ps))

stands-too : SoundnessAsksNoOwner → (store : StoreTerm) (s t : State) → SameButOwners s t
    → StandsFor store (served s) → StandsFor store (served t)
stands-too law store s t same h =
    let v : Served = record (served s) { pins = t.pins } in
    let is : served t ≡ v = ap served same.rest in
    let sound : IsSound (alone v) = law (alone (served s)) (alone v) (record { rest = refl; pins = same.pins }) h.sound
    in
    subst (StandsFor store) (sym is)
    (pins-stand store (served s) t.pins store.pins h sound (same-pins s.pins t.pins same.pins ∙ h.pins))

pub asks-no-owner : SoundnessAsksNoOwner → AsksNoOwner
asks-no-owner law store s t same = (
  stands-too law store s t same,
  λ at. record {
    sound = law s t same at.sound;
    serves = ap (λ (x : State). x.serves) same.rest ∙ at.serves;
    copy = ap (λ (x : State). x.copy) same.rest ∙ at.copy;
    finish = ap (λ (x : State). x.finish) same.rest ∙ at.finish;
    generation = ap (λ (x : State). x.generation) same.rest ∙ at.generation;
    stands = stands-too law store s t same at.stands;
  },
)
