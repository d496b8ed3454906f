-- The commits of a journal are read one after the other.
use Rattle.std.proofs.Common.{◌≡◌, ◌⊎◌, ◌≤◌, ◌+◌, ◌++◌, ◌∙◌, ap, append_assoc, false, length, List, [], ◌∷◌, refl, Some, subst, sym, ℕ}
use Rattle.std.proofs.lemmas.List.{append-nil}
use Rattle.commit_log.proofs.Taken.{changes_push, payloads_push, takes_more, takes_none}
use Rattle.commit_log.specs.Change.{Change, change_of, written}
use Rattle.commit_log.specs.Log.{DamagesLog, IsLogged, Takes, Unread, changes_of, payloads}
use Rattle.commit_log.specs.declared.change.Commit.{Commit}
use Rattle.disk_edge.specs.Disk.{DiskModel, IfTold}
use Rattle.journal_core.specs.Journal.{Reads, Rests}
use Rattle.journal_core.proofs.LookLaws.{looks_twice}
use Rattle.journal_core.specs.Looks.{Looks}
use Rattle.journal_core.specs.Records.{Breaks, prefix}
use Rattle.journal_core.specs.Standing.{Standing}
use Rattle.store_disk.specs.Replays.{IsReadTo}

module _ {D : Type 0} (model : DiskModel D) (old : Standing D) where
  -- these commits were read from where the journal stood to where it stands
  pub record Reading (now : Standing D) (log : List Commit) : Type 0 where
    pub settled : now.doubt ≡ false
    pub header : now.header ≡ old.header
    pub left : now.left ≡ old.left
    pub takes : Takes old.place log now.place
    pub reads : (front : List ℕ) (before : List (List ℕ)) → Reads model old front before
        → Reads model now front (before ++ payloads (changes_of log))
    pub looks : Looks model old.disk now.disk

  pub reading-none : old.doubt ≡ false → Looks model old.disk old.disk → Reading old []
  reading-none settled looks = record {
    settled = settled;
    header = refl;
    left = refl;
    takes = takes_none old.place;
    reads = λ front before q. subst (Reads model old front) (sym (append-nil before)) q;
    looks = looks;
  }

  -- one more, and what is read then
  more-payloads : (log : List Commit) (c : Commit) → payloads (changes_of log) ++ written (change_of c.wire) ∷ []
      ≡ payloads (changes_of (log ++ c ∷ []))
  more-payloads log c =
      sym (payloads_push (changes_of log) (change_of c.wire))
      ∙ ap (λ (cs : List Change). payloads cs) (sym (changes_push log c))

  module _ (parts : (d : D) (t v u : ℕ) (c : List ℕ) → t ≤ v → v ≤ u
      → model.images_between d t u c → model.images_between d t v c ⊎ model.images_between d v u c)
      (now new : Standing D) (log : List Commit) (r : Reading now log) where
    pub reading-more : (c : Commit) → (c.at ≡ now.place) × IsLogged (change_of c.wire)
        × (new.place ≡ c.at + 5 + length (written (change_of c.wire)))
        → ((front : List ℕ) (ps : List (List ℕ)) → Reads model now front ps
        → Reads model new front (ps ++ written (change_of c.wire) ∷ []))
        → new.doubt ≡ false → (new.header ≡ now.header) × (new.left ≡ now.left) → Looks model now.disk new.disk
        → Reading new (log ++ c ∷ [])
    reading-more c found reads settled header looks = record {
      settled = settled;
      header = header.0 ∙ r.header;
      left = header.1 ∙ r.left;
      takes = subst (Takes old.place (log ++ c ∷ []))
          (sym (found.2 ∙ ap (λ (n : ℕ). n + 5 + length (written (change_of c.wire))) found.0))
          (takes_more old.place now.place log c r.takes found.0 found.1);
      reads = λ front before q. subst (Reads model new front)
          (append_assoc before (payloads (changes_of log)) (written (change_of c.wire) ∷ [])
          ∙ ap (λ (ps : List (List ℕ)). before ++ ps) (more-payloads log c))
          (reads front (before ++ payloads (changes_of log)) (r.reads front before q));
      looks = looks_twice model parts old.disk now.disk new.disk r.looks looks;
    }

    pub looks-more : Looks model now.disk new.disk → Looks model old.disk new.disk
    looks-more looks = looks_twice model parts old.disk now.disk new.disk r.looks looks

    -- no more, at a gate that is not open
    pub read-to : (content_is_image : (d : D) (l : List ℕ) → model.content d ≡ Some l → model.images d l)
        → new.place ≡ now.place → ((front : List ℕ) (ps : List (List ℕ)) → Reads model now front ps
        → Rests model new front ps) → Looks model now.disk new.disk → IsReadTo model old new log
    read-to content_is_image place rests looks = record {
      takes = subst (Takes old.place log) (sym place) r.takes;
      is_log = λ front before q l told. record {
        opens = (rests front (before ++ payloads (changes_of log)) (r.reads front before q)).each l
            (content_is_image new.disk l (looks.narrows.same ∙ r.looks.narrows.same ∙ told));
        logged = r.takes.logged;
      };
      rests = λ front before q. rests front (before ++ payloads (changes_of log)) (r.reads front before q);
    }

    -- what is there is broken or not read
    pub log-damaged : (at : ℕ) → ((front : List ℕ) (ps : List (List ℕ)) → Reads model now front ps
        → (at ≡ length (prefix front ps))
        × IfTold (model.content now.disk) (λ l. Breaks front ps l ⊎ Unread front ps l))
        → (front : List ℕ) (before : List (List ℕ)) → Reads model old front before
        → IfTold (model.content old.disk) (DamagesLog front before at)
    log-damaged at found front before q l told =
        let damage = found front (before ++ payloads (changes_of log)) (r.reads front before q) in
        record {
          changes = changes_of log;
          logged = r.takes.logged;
          place = damage.0;
          damage = damage.1 l (r.looks.narrows.same ∙ told);
        }
