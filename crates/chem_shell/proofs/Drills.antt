-- What a drill leaves of an end: whole dialogues and beginnings, true by the run; and where none was begun.
use Rattle.std.proofs.Common.{◌≡◌, ◌≢◌, ◌⊎◌, ◌∙◌, ℕ, List, [], ◌∷◌, ◌++◌, Option, None, Some, IfSome, refl, sym, ap, subst, inl, inr, append-nil, append_assoc, arith}
use Rattle.dialogue.proofs.Exchanges.{begin-more, calls-more, exchanged-more, text-more}
use Rattle.dialogue.proofs.Turning.{served-none}
use Rattle.dialogue.specs.Dialogue.{BeginWith, IsCut, IsDialogue, IsPrefixOf, IsPut, Stops}
use Rattle.dialogue.specs.Talked.{Begins, EndsAs, IsServed, IsServedBy, Writes}
use Rattle.drill_run.specs.Acts.{all_of}
use Rattle.drill_run.specs.Talking.{Exchange, Kept, Said, begun, drills}
use Rattle.drill_run.specs.Truths.{AreAllTold, DrillsAreTrue}
use Rattle.io_edge.specs.Lines.{TextLine, lines_of}
use Rattle.io_edge.specs.declared.sinks.Sink as put
use Rattle.io_edge.specs.declared.sources.Source as taken
use Rattle.serve_ends.specs.Status.{IsStatusOf}
use Rattle.serve_ends.specs.declared.end.End.{End}
use Rattle.session_acts.specs.Cursors.{Calls, unpins}
use Rattle.dialogue.specs.declared.end.EndStatus.{EndStatus}
use Rattle.dialogue.specs.declared.end.EndStatus.TheVariants.{Done, SourceFault, SinkFault, NoMemory, InputTooLong, Worn}
use Rattle.store_core.specs.Stored.{empty}
use Rattle.store_machine.specs.Runs.{IsRun}
use Rattle.store_machine.specs.declared.machine.State.{State}
use Rattle.store_machine.specs.declared.machine.Step.{Step}
use Rattle.chem_shell.specs.Drills.{AreOfDrill, IsDrillBy, IsDrillPrefixBy, IsTrueDrill, IsTrueDrillPrefix, ServesDrill}
use Rattle.chem_shell.specs.Ends.{with_status}
use Rattle.chem_shell.specs.Status.{IsInputStatus}
use Rattle.chem_shell.specs.declared.request.Plan.{Plan}
use Rattle.chem_shell.specs.declared.settings.TheConstants.{INPUT_LIMIT}
use Rattle.chem_shell.proofs.Empty.{empty-sound}
use Rattle.chem_shell.proofs.Transcripts.{done_of, end_of, input_fault_of, none_taken, none_true, writes_as}

nothing_begins : (page : ℕ) (script : List ℕ) → IsDrillPrefixBy page script [] []
nothing_begins page script = (
  [],
  begun page,
  inl (lines_of script, record { exchanges = []; begin = refl; exchanged = refl; made = refl; said = refl }),
  refl,
)

-- however a drill ended, it put a prefix
served_begins : (ended : EndStatus) (page : ℕ) (script : List ℕ) (calls : Calls) (text : List ℕ) → ended ≢ Worn
    → IsServed drills ended (begun page) (lines_of script) calls text → IsDrillPrefixBy page script calls text
served_begins Done page script calls text fit (own, kept, d, all) = (own, kept, inl ([], d), all)
served_begins SourceFault page script calls text fit (own, kept, d, all) = (own, kept, inl d, all)
served_begins InputTooLong page script calls text fit (own, kept, d, all) = (own, kept, inl d, all)
served_begins SinkFault page script calls text fit d = d
served_begins NoMemory page script calls text fit d = d
served_begins Worn page script calls text fit d = absurd (fit refl)

module _ (law : DrillsAreTrue) (commits page : ℕ) (script : List ℕ) (calls : Calls) (run : AreOfDrill commits calls)
  where
    -- lines that were answered told what the run has
    told : (own rest : Calls) (text : List ℕ) (left : List TextLine) (kept : Kept) → calls ≡ own ++ rest
        → (d : IsDialogue drills (begun page) (lines_of script) left own text kept)
        → AreAllTold (empty commits) run.steps page d.exchanges
    told own rest text left kept e d =
        law page d.exchanges kept (empty commits) run.last run.steps rest d.exchanged (empty-sound commits) run.run
        (run.all ∙ (e ∙ ap (λ (l : Calls). l ++ rest) d.made))

    -- the whole
    whole_true : (text : List ℕ) → IsDrillBy page script calls text
        → IsTrueDrill (empty commits) run.steps page script calls text
    whole_true text (own, kept, d, all) = ((own, kept, d, all), told own (unpins (all_of kept.all)) text [] kept all d)

    module _ (text : List ℕ) (drill : IsDrillPrefixBy page script calls text) where
      -- lines that were answered whole, by the first calls
      as_beginning : (left : List TextLine) (own rest : Calls) (kept : Kept) (replies : List ℕ) → calls ≡ own ++ rest
          → IsDialogue drills (begun page) (lines_of script) left own replies kept → IsPrefixOf text replies
          → IsTrueDrillPrefix (empty commits) run.steps page script calls text
      as_beginning left own rest kept replies all d part = record {
        drill = drill;
        left = left;
        own = own;
        replies = replies;
        kept = kept;
        dialogue = d;
        said = part;
        made = (rest, sym all);
        told = told own rest replies left kept all d;
      }

      -- the first lines were answered whole, and of the next one's answer a part was put
      abbrev Last : Kept → Kept → List TextLine → Calls → List ℕ → Type 0
      Last kept between left its part = IsPut drills between left its part kept ⊎ IsCut drills between left its part kept

      answered : (own rest : Calls) (kept : Kept) → calls ≡ own ++ rest
          → (s : Stops drills (begun page) (lines_of script) own text (Last kept)) → (request more : List TextLine)
          (said : Said) → BeginWith drills s.left request more → drills.Answers s.between request s.its said kept
          → IsPrefixOf s.part said.text → IsTrueDrillPrefix (empty commits) run.steps page script calls text
      answered own rest kept all s request more said next answer first =
          let d = s.answered in
          let x : Exchange = record { request = request; calls = s.its; reply = said } in
          as_beginning more own rest kept (s.replies ++ said.text) all (record {
            exchanges = d.exchanges ++ x ∷ [];
            begin = begin-more drills d.exchanges x (lines_of script) s.left more d.begin next;
            exchanged = exchanged-more drills (begun page) s.between kept d.exchanges x d.exchanged answer;
            made = s.made ∙ (ap (λ (l : Calls). l ++ s.its) d.made ∙ sym (calls-more drills d.exchanges x));
            said = ap (λ (l : List ℕ). l ++ said.text) d.said ∙ sym (text-more drills d.exchanges x);
          }) (
            first.0,
            ap (λ (l : List ℕ). l ++ first.0) s.put
                ∙ (append_assoc s.replies s.part first.0 ∙ ap (λ (l : List ℕ). s.replies ++ l) first.1),
          )

      begins_true : (own rest : Calls) (kept : Kept) → calls ≡ own ++ rest
          → Begins drills (begun page) (lines_of script) own kept text
          → IsTrueDrillPrefix (empty commits) run.steps page script calls text
      begins_true own rest kept all (inl b) = as_beginning b.0 own rest kept text all b.1 ([], append-nil text)
      begins_true own rest kept all (inr s) = by s.last where
        cut : (q : IsCut drills s.between s.left s.its s.part kept)
            → IsTrueDrillPrefix (empty commits) run.steps page script calls text
        cut q = elim q.cuts.2 [
          | inl c ↦ answered own rest kept all s q.request q.more c.0 q.next (q.cuts.0, q.cuts.1, c.1)
              (c.0.text, ap (λ (l : List ℕ). l ++ c.0.text) q.none)
          | inr c ↦ as_beginning s.left s.own (s.its ++ rest) s.between s.replies
              (all ∙ (ap (λ (l : Calls). l ++ rest) s.made ∙ append_assoc s.own s.its rest)) s.answered (
                [],
                append-nil text
                    ∙ (s.put ∙ (ap (λ (l : List ℕ). s.replies ++ l) q.none ∙ append-nil s.replies)),
              )
        ]

        by : Last kept s.between s.left s.its s.part
            → IsTrueDrillPrefix (empty commits) run.steps page script calls text
        by (inl q) = answered own rest kept all s q.request q.more q.reply q.next q.answers q.first
        by (inr q) = cut q

      prefix_true : IsTrueDrillPrefix (empty commits) run.steps page script calls text
      prefix_true = begins_true drill.0 (unpins (all_of drill.1.all)) drill.1 drill.3 drill.2

prefix_of : DrillsAreTrue → (ended : EndStatus) (commits page : ℕ) (input before after : Option (List ℕ))
    (calls : Calls) (run : AreOfDrill commits calls) → ended ≢ Worn
    → IfSome input (λ bytes. Writes before after (IsServed drills ended (begun page) (lines_of bytes) calls))
    → IfSome input (λ bytes. Writes before after (IsTrueDrillPrefix (empty commits) run.steps page bytes calls))
prefix_of law ended commits page None before after calls run fit s = tt
prefix_of law ended commits page (Some bytes) before after calls run fit s = writes_as before after
    (IsServed drills ended (begun page) (lines_of bytes) calls)
    (IsTrueDrillPrefix (empty commits) run.steps page bytes calls)
    (λ text is. prefix_true law commits page bytes calls run text (served_begins ended page bytes calls text fit is)) s

-- and the whole, where it came to the input's end
whole_of : DrillsAreTrue → (ended : EndStatus) (commits page : ℕ) (input before after : Option (List ℕ))
    (calls : Calls) (run : AreOfDrill commits calls) → ended ≡ Done
    → IfSome input (λ bytes. Writes before after (IsServed drills ended (begun page) (lines_of bytes) calls))
    → IfSome input (λ bytes. Writes before after (IsTrueDrill (empty commits) run.steps page bytes calls))
whole_of law ended commits page None before after calls run e s = tt
whole_of law ended commits page (Some bytes) before after calls run e s = writes_as before after
    (IsDrillBy page bytes calls) (IsTrueDrill (empty commits) run.steps page bytes calls)
    (λ text d. whole_true law commits page bytes calls run text d)
    (subst (λ x. Writes before after (IsServed drills x (begun page) (lines_of bytes) calls)) e s)

-- what a drill leaves of an end
pub drill_of : DrillsAreTrue → {S K : Type 0} (source : taken.Ghosts S) (sink : put.Ghosts K) (ended : EndStatus)
    (plan : Plan) (calls : Calls) (old new : End S K) → ended ≢ Worn → IsStatusOf ended new.status
    → AreOfDrill plan.commits calls
    → IsServedBy drills ended (begun plan.page) (source.left old.source) (source.left new.source)
    (sink.written old.sink) (sink.written new.sink) calls → EndsAs source sink ended INPUT_LIMIT old.source new.source old.sink new.sink
    → ServesDrill plan source.left sink.written old new
drill_of law source sink ended plan calls old new fit is run drilled ends =
    let input = source.left old.source in
    let before = sink.written old.sink in
    let after = sink.written new.sink in
    record {
      status = end_of ended new.status fit is;
      calls = calls;
      run = run;
      prefix = prefix_of law ended plan.commits plan.page input before after calls run fit drilled.script;
      all = λ e. whole_of law ended plan.commits plan.page input before after calls run (done_of ended new.status is e)
          drilled.script;
      taken = λ e. drilled.taken (input_fault_of ended new.status is e);
      done = λ e. ends.done (done_of ended new.status is e);
      within = ends.within;
    }

-- no calls are those of no run
abbrev none_of_drill : (commits : ℕ) → AreOfDrill commits []
none_of_drill commits = record { steps = []; last = empty commits; run = refl; all = refl }

-- a drill for which memory ran out before it began
pub drilled_none : (commits page : ℕ) (input before : Option (List ℕ))
    → (calls : Calls) × AreOfDrill commits calls
    × IsServedBy drills NoMemory (begun page) input input before before calls
drilled_none commits page input before = ([], none_of_drill commits, served-none drills (begun page) input before)

-- where nothing was answered, nothing was told
nothing_told : (s : State) (steps : List Step) (page : ℕ) → AreAllTold s steps page []
nothing_told s steps page number [] [] after e anew is = record {
  first = [];
  left = steps;
  there = s;
  cut = refl;
  made = refl;
  run = refl;
  own = [];
  are = refl;
  are_true = none_true s.history page;
}
nothing_told s steps page number [] (x ∷ part) after e anew is = absurd (cc e)
nothing_told s steps page number (x ∷ before) part after e anew is = absurd (cc e)

nothing_true : (commits page : ℕ) (input before : Option (List ℕ))
    → IfSome input (λ bytes. Writes before before (IsTrueDrillPrefix (empty commits) [] page bytes []))
nothing_true commits page None before = tt
nothing_true commits page (Some bytes) None = tt
nothing_true commits page (Some bytes) (Some old) = (
  [],
  ap Some (sym (append-nil old)),
  record {
    drill = nothing_begins page bytes;
    left = lines_of bytes;
    own = [];
    replies = [];
    kept = begun page;
    dialogue = record { exchanges = []; begin = refl; exchanged = refl; made = refl; said = refl };
    said = ([], refl);
    made = ([], refl);
    told = nothing_told (empty commits) [] page;
  },
)

pub drill_unmoved : {S K : Type 0} (plan : Plan) (left : S → Option (List ℕ)) (written : K → Option (List ℕ))
    (end : End S K) → ServesDrill plan left written end (with_status 8 end)
drill_unmoved plan left written end = record {
  status = inr (inr (inr (inl refl)));
  calls = [];
  run = none_of_drill plan.commits;
  prefix = nothing_true plan.commits plan.page (left end.source) (written end.sink);
  all = λ e. absurd (omega (arith, e));
  taken = λ e. absurd (no_input e);
  done = λ e. absurd (omega (arith, e));
  within = none_taken (left end.source) INPUT_LIMIT;
}
  where
    no_input : IsInputStatus 8 → ⊥
    no_input (inl e) = omega (arith, e)
    no_input (inr e) = omega (arith, e)

-- the same at a plan that asks for the same
pub drill_same : {S K : Type 0} (left : S → Option (List ℕ)) (written : K → Option (List ℕ)) (p q : Plan)
    (old new : End S K) → p.commits ≡ q.commits → p.page ≡ q.page → ServesDrill q left written old new
    → ServesDrill p left written old new
drill_same left written p q old new commits page d = record {
  status = d.status;
  calls = d.calls;
  run = record {
    steps = d.run.steps;
    last = d.run.last;
    run = subst (λ (n : ℕ). IsRun (empty n) d.run.steps d.run.last) (sym commits) d.run.run;
    all = d.run.all;
  };
  prefix = subst (λ (n : ℕ). IfSome (left old.source) (λ script. Writes (written old.sink) (written new.sink)
      (IsTrueDrillPrefix (empty n) d.run.steps p.page script d.calls))) (sym commits)
      (subst (λ (n : ℕ). IfSome (left old.source) (λ script. Writes (written old.sink) (written new.sink)
      (IsTrueDrillPrefix (empty q.commits) d.run.steps n script d.calls))) (sym page) d.prefix);
  all = λ e. subst (λ (n : ℕ). IfSome (left old.source) (λ script. Writes (written old.sink) (written new.sink)
      (IsTrueDrill (empty n) d.run.steps p.page script d.calls))) (sym commits)
      (subst (λ (n : ℕ). IfSome (left old.source) (λ script. Writes (written old.sink) (written new.sink)
      (IsTrueDrill (empty q.commits) d.run.steps n script d.calls))) (sym page) (d.all e));
  taken = λ e. rw page (d.taken e);
  done = d.done;
  within = d.within;
}
