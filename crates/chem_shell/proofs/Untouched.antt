-- Where nothing was done, and the same at a plan that asks for the same.
use Rattle.std.proofs.Common.{◌≡◌, ◌⊎◌, ◌∙◌, List, Option, ℕ, arith, refl, sym, ap, subst, inl, inr}
use Rattle.disk_edge.specs.Disk.{DiskModel, Same}
use Rattle.journal_core.specs.Looks.{Narrows, Stays}
use Rattle.store_disk.specs.declared.disks.Disks.{Disks}
use Rattle.chem_shell.specs.Ends.{ServesBulk, ServesScript, with_status}
use Rattle.session_acts.specs.Cursors.{Calls}
use Rattle.std.specs.List.{AllZip}
use Rattle.chem_shell.specs.OnDisks.{AreAtDesks, AreOnDisks, Creates, IsRefused, IsRefusedAs, RunsOn, ServesOn}
use Rattle.chem_shell.specs.declared.request.Plan.{Plan}
use Rattle.serve_ends.specs.declared.end.End.{End}
use Rattle.chem_shell.proofs.Asked.{SamePlan}
use Rattle.chem_shell.proofs.Summaries as summaries

stays_same : {D : Type 0} (model : DiskModel D) (a a' : D) → a' ≡ a → Stays model a a'
stays_same model a a' same = (
  ap model.content same,
  subst (λ d. Same (model.images a) (model.images d)) (sym same)
      (record { no_more = λ c i. i; no_fewer = λ c i. i }),
)

-- the same run, by the commits of a plan that asks for the same
abbrev on_same : {D : Type 0} (model : DiskModel D) (p q : Plan) (disks disks' : Disks D) (calls : Calls)
    → p.commits ≡ q.commits → AreOnDisks model q.commits disks disks' calls
    → AreOnDisks model p.commits disks disks' calls
on_same model p q disks disks' calls commits on = record {
  first = on.first;
  steps = on.steps;
  last = on.last;
  opened = record {
    serves = on.opened.serves;
    limit = on.opened.limit ∙ sym commits;
    pins = on.opened.pins;
    base = on.opened.base;
    copy = on.opened.copy;
    doubt = on.opened.doubt;
    finish = on.opened.finish;
    kept = on.opened.kept;
  };
  sound = on.sound;
  opens = on.opens;
  run = on.run;
  calm = on.calm;
  all = on.all;
  loaded = on.loaded;
  ended = on.ended;
  later = on.later;
  clocked = on.clocked;
  now = on.now;
  loading_a = on.loading_a;
  loading_b = on.loading_b;
  moments = on.moments;
  left = on.left;
  causes = on.causes;
  begins = on.begins;
  ends = on.ends;
}

module _ {D S K : Type 0} (model : DiskModel D) (disks disks' : Disks D) where
  pub refused_unmoved : Narrows model disks.a disks'.a → Narrows model disks.b disks'.b → (end : End S K)
      → IsRefused model disks disks' end (with_status 8 end)
  refused_unmoved read_a read_b end =
      record { status = inr (inr (inr refl)); end = refl; disk_a = read_a; disk_b = read_b }

  pub runs_same : (left : S → Option (List ℕ)) (written : K → Option (List ℕ)) (p q : Plan) (old new : End S K)
      → p.commits ≡ q.commits → p.page ≡ q.page
      → IsRefused model disks disks' old new ⊎ RunsOn model left written q disks disks' old new
      → IsRefused model disks disks' old new ⊎ RunsOn model left written p disks disks' old new
  runs_same left written p q old new commits page (inl r) = inl r
  runs_same left written p q old new commits page (inr r) = inr (record {
    calls = r.calls;
    on = on_same model p q disks disks' r.calls commits r.on;
    script = subst (λ (k : ℕ). ServesScript left written k r.calls r.on.last.history old new) (sym page) r.script;
  })

  pub serves_same : (left : S → Option (List ℕ)) (written : K → Option (List ℕ)) (p q : Plan)
      (status : ℕ) (old new : List (End S K)) → p.commits ≡ q.commits → p.page ≡ q.page
      → AllZip (IsRefusedAs model disks disks' status) old new ⊎ ServesOn model left written q disks disks' old new
      → AllZip (IsRefusedAs model disks disks' status) old new ⊎ ServesOn model left written p disks disks' old new
  serves_same left written p q status old new commits page (inl r) = inl r
  serves_same left written p q status old new commits page (inr r) = inr (record {
    calls = r.calls;
    on = on_same model p q disks disks' r.calls commits r.on;
    each = subst (λ (k : ℕ). AreAtDesks left written k r.on.steps r.on.last.history 1 old new) (sym page) r.each;
    owners = r.owners;
    worn = r.worn;
  })

-- where memory ran out before anything was done, `init` leaves the disks as they were
pub creates_nothing : {D : Type 0} (model : DiskModel D) (disks disks' : Disks D) (status : ℕ) → status ≡ 8
    → disks' ≡ disks → Narrows model disks.b disks'.b → Creates model disks disks' status
creates_nothing model disks disks' status is same read_b = record {
  status_is = inr (inr (inl is));
  done = λ e. absurd (omega (arith, is, e));
  done_b = λ e. absurd (omega (arith, is, e));
  not_empty = λ e. absurd (omega (arith, is, e));
  stays = λ e. stays_same model disks.a disks'.a (ap (λ (d : Disks _). d.a) same);
  stays_b = λ e. absurd (omega (arith, is, e));
  narrows_b = read_b;
  kept = λ e. absurd (omega (arith, is, e));
  kept_b = λ e. absurd (omega (arith, is, e));
}

-- the summary at a plan that asks for the same
pub bulk_same : {S K : Type 0} (written : K → Option (List ℕ)) (p q : Plan) (old new : End S K) → SamePlan p q
    → ServesBulk q written old new → ServesBulk p written old new
bulk_same written p q old new same s = record {
  status = s.status;
  source = s.source;
  all = λ e. summaries.all_same p q (written old.sink) (written new.sink) same (s.all e);
  prefix = λ e. summaries.prefix_same p q (written old.sink) (written new.sink) same (s.prefix e);
  nothing = s.nothing;
}

pub bulk_unmoved : {S K : Type 0} (plan : Plan) (written : K → Option (List ℕ)) (end : End S K)
    → ServesBulk plan written end (with_status 8 end)
bulk_unmoved plan written end = record {
  status = inr (inr refl);
  source = refl;
  all = λ e. absurd (omega (arith, e));
  prefix = λ e. absurd (omega (arith, e));
  nothing = λ e. summaries.nothing_unmoved (written end.sink);
}
