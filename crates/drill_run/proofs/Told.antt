-- What a drill told, wherever it is cut.
use Rattle.std.proofs.Common.{◌≡◌, ◌++◌, ◌∙◌, ap, append_assoc, List, subst, sym}
use Rattle.dialogue.specs.Dialogue.{AreExchanged, calls_in}
use Rattle.dialogue.proofs.Exchanges.{calls-parts, exchanged-parts}
use Rattle.session_acts.specs.Cursors.{Calls}
use Rattle.drill_run.specs.Talking.{Exchange, begun, drills}
use Rattle.drill_run.specs.Truths.{DrillsAreTrue}
use Rattle.drill_run.proofs.Parts.{Halves, halves}
use Rattle.drill_run.proofs.Shared.{LastPartIsTrue}

pub drills-are-true : LastPartIsTrue → DrillsAreTrue
drills-are-true law size exchanges kept s t steps more h sound run made number before part after e anew is =
    let so_far : List Exchange = before ++ part in
    let cut : exchanges ≡ so_far ++ after = e ∙ sym (append_assoc before part after) in
    let own = exchanged-parts drills (begun size) kept so_far after
    (subst (λ (l : List Exchange). AreExchanged drills (begun size) l kept) cut h) in
    let calls : calls_in drills exchanges ++ more ≡ calls_in drills so_far ++ (calls_in drills after ++ more) =
    ap (λ (l : List Exchange). calls_in drills l ++ more) cut
    ∙ (ap (λ (l : Calls). l ++ more) (calls-parts drills so_far after)
    ∙ append_assoc (calls_in drills so_far) (calls_in drills after) more) in
    let k : Halves s t steps (calls_in drills so_far) (calls_in drills after ++ more) =
    halves s t steps (calls_in drills so_far) (calls_in drills after ++ more) run (made ∙ calls) in
    let told = law size number before part own.0 s k.middle k.front own.1 anew is sound k.to k.first in
    record {
      first = k.front;
      left = k.back;
      there = k.middle;
      cut = k.whole;
      made = k.first;
      run = k.to;
      own = told.0;
      are = told.1;
      are_true = told.2;
    }
