-- What `bulk` puts.
use Rattle.std.proofs.Common.{◌≡◌, ◌∙◌, ℕ, List, [], ◌++◌, Option, None, Some, Result, Ok, Err, Vec, IfOk, refl, sym, ap, subst, append-nil}
use Rattle.std.specs.declared.alloc.Global.{Global}
use Rattle.chem_gen.specs.Script.{script_of}
use Rattle.chem_gen.specs.Summary.{summary_of}
use Rattle.session_acts.specs.Cursors.{Calls}
use Rattle.session_acts.specs.Served.{Writes}
use Rattle.dialogue.specs.declared.end.EndStatus.TheVariants.{Done}
use Rattle.chem_shell.specs.Runs.{AreOfRun, IsTranscript}
use Rattle.chem_shell.specs.Serving.{IsScriptServed}
use Rattle.chem_shell.specs.Summed.{IsSummary, IsSummaryPrefix, WritesNothing}
use Rattle.chem_shell.specs.declared.request.Plan.{Plan}
use Rattle.chem_shell.proofs.Asked.{SamePlan, some_same}

-- where nothing was put
pub nothing_unmoved : (before : Option (List ℕ)) → WritesNothing before before
nothing_unmoved None = tt
nothing_unmoved (Some old) = ([], ap Some (sym (append-nil old)), refl)

-- the same at a plan that asks for the same
summary_same : (p q : Plan) (text : List ℕ) → SamePlan p q → IsSummary q text → IsSummary p text
summary_same p q text same is = rw (same.commits, same.page, same.seed, same.count) is

pub all_same : (p q : Plan) (before after : Option (List ℕ)) → SamePlan p q
    → Writes before after (IsSummary q) → Writes before after (IsSummary p)
all_same p q None after same h = tt
all_same p q (Some old) after same h = (h.0, h.1, summary_same p q h.0 same h.2)

pub prefix_same : (p q : Plan) (before after : Option (List ℕ)) → SamePlan p q
    → Writes before after (IsSummaryPrefix q) → Writes before after (IsSummaryPrefix p)
prefix_same p q None after same h = tt
prefix_same p q (Some old) after same h = (h.0, h.1, (h.2.0, h.2.1, summary_same p q h.2.0 same h.2.2))

-- the summary of what a session put for the generated script
pub summed_of : {E : Type 0} (p : Plan) (script before after : List ℕ) (left : Option (List ℕ))
    (r : Result (Vec ℕ Global) E)
    → script ≡ script_of p.seed p.count → before ≡ []
    → (calls : Calls) (run : AreOfRun p.commits calls)
    → IsScriptServed Done p.page (Some script) left (Some before) (Some after) calls run.last.history
    → IfOk r (λ text. text.items ≡ summary_of p.seed p.count after) → IfOk r (λ text. IsSummary p text.items)
summed_of p script before after left (Ok text) is none calls run served e =
    let w = served.script in
    let put : after ≡ w.0 = some_same after (before ++ w.0) w.1 ∙ ap (λ (l : List ℕ). l ++ w.0) none in (
      w.0,
      subst (λ (s : List ℕ). IsTranscript p.commits p.page s w.0) is (calls, run, w.2),
      e ∙ ap (λ (l : List ℕ). summary_of p.seed p.count l) put,
    )
summed_of p script before after left (Err fault) is none calls run served e = tt
