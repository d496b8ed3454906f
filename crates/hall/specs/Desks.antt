-- For callers: the parts of a hall's history that a pass saw at a desk.
use Rattle.std.specs.Prelude.{◌≡◌, ◌≤◌, ◌++◌, List, [], length, refl, ℕ}
use Rattle.std.proofs.Common.{◌∙◌, ap, append_assoc, sym}
use Rattle.std.proofs.lemmas.List.{append-nil}
use Rattle.store_machine.proofs.Joins.{calms-join, runs-join}
use Rattle.store_machine.specs.Runs.{IsCalm, IsRun}
use Rattle.store_machine.specs.declared.machine.State.{State}
use Rattle.store_machine.specs.declared.machine.Step.{Step}
use Rattle.turn_gate.specs.Numbers.{has}
use Rattle.hall.specs.declared.desk.Desk.{Desk}
use Rattle.hall.specs.declared.hall.Hall.{Hall}
use Rattle.hall.specs.declared.hall.HallPass.{HallPass}
use Rattle.hall.specs.declared.kept.Origin.{Origin}
use Rattle.hall.specs.Histories.{after}
use Rattle.hall.specs.Passes.{IsFrom, IsOf, known}

module _ {D : Type 0} where
  -- the state after all that the pass has seen
  abbrev pub IsAt : HallPass D → State → Type 0
  IsAt p s = (origin : Origin D) × IsFrom origin p × (s ≡ after origin.state (known p).seen)

  -- it has seen an event for each of the hall's turns
  abbrev pub IsWorn : HallPass D → Type 0
  IsWorn p = length (known p).seen ≡ (known p).turns

  -- a pass later: of each of its halls, with the same numbers. It has not seen more events than there are turns
  pub record Stays (p q : HallPass D) : Type 0 where
    pub of : (h : Hall D) → IsOf h p → IsOf h q
    pub origin : (known q).origin ≡ (known p).origin
    pub numbers : (known q).numbers ≡ (known p).numbers
    pub given : (known q).given ≡ (known p).given
    pub turns : (known q).turns ≡ (known p).turns
    pub within : length (known p).seen ≤ (known p).turns → length (known q).seen ≤ (known q).turns

  -- the events that it has seen since are a part of the one run of its hall
  pub record Stretches (p q : HallPass D) (s : State) (steps : List Step) (t : State) : Type 0 where
    pub begins : IsAt p s
    pub ends : IsAt q t
    pub seen : (known q).seen ≡ (known p).seen ++ steps
    pub stays : Stays p q
    pub run : IsRun s steps t
    pub calm : IsCalm steps

  pub still : (p : HallPass D) → Stays p p
  still p = record {
    of = λ h is. is;
    origin = refl;
    numbers = refl;
    given = refl;
    turns = refl;
    within = λ few. few;
  }

  pub later : (p q r : HallPass D) → Stays p q → Stays q r → Stays p r
  later p q r a b = record {
    of = λ h is. b.of h (a.of h is);
    origin = b.origin ∙ a.origin;
    numbers = b.numbers ∙ a.numbers;
    given = b.given ∙ a.given;
    turns = b.turns ∙ a.turns;
    within = λ few. b.within (a.within few);
  }

  pub stays : (p : HallPass D) (s : State) → IsAt p s → Stretches p p s [] s
  stays p s at = record {
    begins = at;
    ends = at;
    seen = sym (append-nil (known p).seen);
    stays = still p;
    run = refl;
    calm = tt;
  }

  pub joins : (p q r : HallPass D) (s t u : State) (xs ys : List Step) → Stretches p q s xs t → Stretches q r t ys u
      → Stretches p r s (xs ++ ys) u
  joins p q r s t u xs ys a b = record {
    begins = a.begins;
    ends = b.ends;
    seen = b.seen ∙ (ap (λ (l : List Step). l ++ ys) a.seen ∙ append_assoc (known p).seen xs ys);
    stays = later p q r a.stays b.stays;
    run = runs-join xs ys s t u a.run b.run;
    calm = calms-join xs ys a.calm b.calm;
  }

  pub lands : (p q : HallPass D) (s t : State) (xs : List Step) → Stretches p q s xs t
      → IsAt q t × IsRun s xs t × IsCalm xs
  lands p q s t xs a = (a.ends, a.run, a.calm)

  pub same : (p q : HallPass D) (s t : State) (xs : List Step) (n : ℕ) → Stretches p q s xs t
      → has (known q).numbers n ≡ has (known p).numbers n
  same p q s t xs n a = ap (λ (l : List ℕ). has l n) a.stays.numbers

-- the pass that is at a desk, and its hall
abbrev pub pass_of : {R D : Type 0} → Desk R D → HallPass D
pass_of d = d.pass

abbrev pub hall_of : {R D : Type 0} → Desk R D → Hall D
hall_of d = d.hall.now
