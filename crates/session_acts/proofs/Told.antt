-- What a session served is true: its dialogue's calls are the first of its calls in the run.
use Rattle.std.proofs.Common.{◌≡◌, ◌⊎◌, ◌++◌, ◌∙◌, ap, append-nil, append_assoc, inl, inr, List, [], ◌∷◌, subst, sym, ℕ}
use Rattle.dialogue.proofs.Exchanges.{begin-more, calls-more, exchanged-more, text-more}
use Rattle.dialogue.specs.Dialogue.{BeginWith, IsCut, IsPut, Stops, calls_in}
use Rattle.dialogue.specs.Talked.{Begins, InAnswer, InClosing}
use Rattle.dialogue.specs.declared.end.EndStatus.TheVariants.{Done, SourceFault, SinkFault, NoMemory, InputTooLong, Worn}
use Rattle.io_edge.specs.Lines.{TextLine}
use Rattle.shell_lang.specs.Reply.{text_of}
use Rattle.store_machine.specs.Runs.{calls_of}
use Rattle.store_machine.specs.declared.machine.History.{History}
use Rattle.session_acts.specs.Acts.{Lines}
use Rattle.session_acts.specs.Cursors.{Calls, unpins}
use Rattle.session_acts.specs.Served.{IsDialogue, IsPrefixOf, IsTranscript, IsTranscriptPrefix, IsWholePrefix, WornAt}
use Rattle.session_acts.specs.Talking.{Exchange, Kept, begun, sessions}
use Rattle.session_acts.specs.Truths.{AreTrue, DialoguesAreTrue, IsInRun, IsTrueBeginning, IsTrueTranscript, ServicesAreTrue}

module _ (law : DialoguesAreTrue) (size : ℕ) (lines : List TextLine) (h : History) (calls : Calls)
    (r : IsInRun calls h) where
  -- the law of a dialogue whose calls are the first ones
  true_by : (own rest : Calls) (text : List ℕ) (left : List TextLine) (kept : Kept) → calls ≡ own ++ rest
      → (d : IsDialogue size lines left own text kept) → AreTrue h size d.exchanges
  true_by own rest text left kept e d =
      let made : calls_of r.own r.steps ≡ calls_in sessions d.exchanges ++ (rest ++ r.more) =
      r.made ∙ (ap (λ (l : Calls). l ++ r.more) e ∙ (append_assoc own rest r.more
      ∙ ap (λ (l : Calls). l ++ (rest ++ r.more)) d.made)) in
      subst (λ (g : History). AreTrue g size d.exchanges) (sym r.is)
      (law r.before r.after r.steps r.own size d.exchanges (rest ++ r.more) kept r.sound r.run r.calm made d.exchanged)

  whole_true : (text : List ℕ) → IsTranscript size lines calls text → IsTrueTranscript h size lines calls text
  whole_true text (own, kept, d, all) = record {
    own = own;
    left_kept = kept;
    dialogue = d;
    made = (unpins kept.standing.cursors, sym all);
    are_true = true_by own (unpins kept.standing.cursors) text [] kept all d;
  }

  -- requests that were answered whole, by the first calls
  as_beginning : (left : List TextLine) (own rest : Calls) (kept : Kept) (text replies : List ℕ)
      → calls ≡ own ++ rest → IsDialogue size lines left own replies kept → IsPrefixOf text replies
      → IsTrueBeginning h size lines calls text
  as_beginning left own rest kept text replies all d part = record {
    left = left;
    own = own;
    replies = replies;
    left_kept = kept;
    dialogue = d;
    said = part;
    made = (rest, sym all);
    are_true = true_by own rest replies left kept all d;
  }

  whole_beginning_true : (text : List ℕ) → IsWholePrefix size lines calls text
      → IsTrueBeginning h size lines calls text
  whole_beginning_true text (own, kept, (left, d), all) =
      as_beginning left own (unpins kept.standing.cursors) kept text text all d ([], append-nil text)

  -- the first requests were answered whole, and of the next one's reply a part was put
  abbrev Last : Kept → Kept → List TextLine → Calls → List ℕ → Type 0
  Last kept between left its part =
      IsPut sessions between left its part kept ⊎ IsCut sessions between left its part kept

  answered : (own rest : Calls) (kept : Kept) (text : List ℕ) → calls ≡ own ++ rest
      → (s : Stops sessions (begun size) lines own text (Last kept)) → (request more : List TextLine) (said : Lines)
      → BeginWith sessions s.left request more → sessions.Answers s.between request s.its said kept
      → IsPrefixOf s.part (text_of said) → IsTrueBeginning h size lines calls text
  answered own rest kept text all s request more said next answer first =
      let d = s.answered in
      let x : Exchange = record { request = request; calls = s.its; reply = said } in
      as_beginning more own rest kept text (s.replies ++ text_of said) all (record {
        exchanges = d.exchanges ++ x ∷ [];
        begin = begin-more sessions d.exchanges x lines s.left more d.begin next;
        exchanged = exchanged-more sessions (begun size) s.between kept d.exchanges x d.exchanged answer;
        made = s.made
            ∙ (ap (λ (l : Calls). l ++ s.its) d.made ∙ sym (calls-more sessions d.exchanges x));
        said = ap (λ (l : List ℕ). l ++ text_of said) d.said ∙ sym (text-more sessions d.exchanges x);
      }) (
        first.0,
        ap (λ (l : List ℕ). l ++ first.0) s.put
            ∙ (append_assoc s.replies s.part first.0 ∙ ap (λ (l : List ℕ). s.replies ++ l) first.1),
      )

  begins_true : (own rest : Calls) (kept : Kept) (text : List ℕ) → calls ≡ own ++ rest
      → Begins sessions (begun size) lines own kept text → IsTrueBeginning h size lines calls text
  begins_true own rest kept text all (inl b) = as_beginning b.0 own rest kept text text all b.1 ([], append-nil text)
  begins_true own rest kept text all (inr s) = by s.last where
    by : Last kept s.between s.left s.its s.part → IsTrueBeginning h size lines calls text
    by (inl q) = answered own rest kept text all s q.request q.more q.reply q.next q.answers q.first
    by (inr q) = answered own rest kept text all s q.request q.more q.cuts.0 q.next (q.cuts.1, q.cuts.2)
        (text_of q.cuts.0, ap (λ (l : List ℕ). l ++ text_of q.cuts.0) q.none)

  beginning_true : (text : List ℕ) → IsTranscriptPrefix size lines calls text → IsTrueBeginning h size lines calls text
  beginning_true text (own, kept, begins, all) = begins_true own (unpins kept.standing.cursors) kept text all begins

  worn_true : (text : List ℕ) → WornAt size lines calls text → IsTrueBeginning h size lines calls text
  worn_true text (InAnswer s) = as_beginning s.left s.own s.its s.between text s.replies s.made s.answered (
    [],
    append-nil text ∙ (s.put ∙ (ap (λ (l : List ℕ). s.replies ++ l) s.last.none ∙ append-nil s.replies)),
  )
  worn_true text (InClosing own part kept begins first made) = begins_true own part kept text made begins

pub services-are-true : DialoguesAreTrue → ServicesAreTrue
services-are-true law Done size lines calls text h r is = whole_true law size lines h calls r text is
services-are-true law Worn size lines calls text h r is = worn_true law size lines h calls r text is
services-are-true law SourceFault size lines calls text h r is = whole_beginning_true law size lines h calls r text is
services-are-true law SinkFault size lines calls text h r is = beginning_true law size lines h calls r text is
services-are-true law NoMemory size lines calls text h r is = beginning_true law size lines h calls r text is
services-are-true law InputTooLong size lines calls text h r is = whole_beginning_true law size lines h calls r text is
