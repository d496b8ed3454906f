use Rattle.std.proofs.Common.{refl, ap, ◌∙◌, sym, subst, inl, inr, Err, ℕ}
use Rattle.std.specs.List.{AllZip}
use Rattle.std.proofs.lemmas.Bool.{eqb-false}
use Rattle.chem_shell.specs.Contents.{disks_of}
use Rattle.chem_shell.specs.Ends.{HasEndCauses, with_status}
use Rattle.chem_shell.specs.OnDisks.{IsRefusedAs}
use Rattle.chem_shell.specs.declared.request.Verb.TheVariants.{Mem, Init, Run, Serve, Bulk, Drill}
use Rattle.chem_shell.proofs.Asked.{one_plan, plan_within}
use Rattle.chem_shell.proofs.Drills.{drill_same, drill_unmoved}
use Rattle.chem_shell.proofs.Ends.{first_of_alike, leaves_by, refused_all, zip_mapped, zip_weaker}
use Rattle.chem_shell.proofs.EndCounts.{fits, no_ends, none_mapped}
use Rattle.chem_shell.proofs.Transcripts.{mem_same, mem_unmoved}
use Rattle.chem_shell.proofs.Untouched.{bulk_same, bulk_unmoved, creates_nothing, refused_unmoved, runs_same, serves_same}
use Rattle.chem_shell.proofs.top.chemdb.Goals as goal

pub returns-in-Err-Usage-clause-end_causes : goal.returns-in-Err-Usage-clause-end_causes
returns-in-Err-Usage-clause-end_causes g c =
    zip_mapped (HasEndCauses g.S.Source.left g.S.Source.faults g.K.Sink.faults) (with_status 2) (λ e. record {
      source_fault = λ q. absurd (eqb-false 2 3 refl q);
      sink_fault = λ q. absurd (eqb-false 2 4 refl q);
      input_too_long = λ q. absurd (eqb-false 2 9 refl q);
    }) _ _ c.unserved.ensures.ends

pub returns-in-Err-Usage-clause-mem : goal.returns-in-Err-Usage-clause-mem
returns-in-Err-Usage-clause-mem g c = λ plan asks verb.
    absurd (c.in-Err-Usage.ensures.usage (ap Err c.in-Err-Usage.field-0-is) (plan, asks))

pub returns-in-Err-Usage-clause-init : goal.returns-in-Err-Usage-clause-init
returns-in-Err-Usage-clause-init g c = λ plan asks verb.
    absurd (c.in-Err-Usage.ensures.usage (ap Err c.in-Err-Usage.field-0-is) (plan, asks))

pub returns-in-Err-Usage-clause-run : goal.returns-in-Err-Usage-clause-run
returns-in-Err-Usage-clause-run g c = λ plan asks verb.
    absurd (c.in-Err-Usage.ensures.usage (ap Err c.in-Err-Usage.field-0-is) (plan, asks))

pub returns-in-Err-Usage-clause-serve : goal.returns-in-Err-Usage-clause-serve
returns-in-Err-Usage-clause-serve g c = λ plan asks verb.
    absurd (c.in-Err-Usage.ensures.usage (ap Err c.in-Err-Usage.field-0-is) (plan, asks))

pub returns-in-Err-Usage-clause-bulk : goal.returns-in-Err-Usage-clause-bulk
returns-in-Err-Usage-clause-bulk g c = λ plan asks verb.
    absurd (c.in-Err-Usage.ensures.usage (ap Err c.in-Err-Usage.field-0-is) (plan, asks))

pub returns-in-Err-Usage-clause-drill : goal.returns-in-Err-Usage-clause-drill
returns-in-Err-Usage-clause-drill g c = λ plan asks verb.
    absurd (c.in-Err-Usage.ensures.usage (ap Err c.in-Err-Usage.field-0-is) (plan, asks))

pub returns-in-Err-NoMemory-clause-end_causes : goal.returns-in-Err-NoMemory-clause-end_causes
returns-in-Err-NoMemory-clause-end_causes g c =
    zip_mapped (HasEndCauses g.S.Source.left g.S.Source.faults g.K.Sink.faults) (with_status 8) (λ e. record {
      source_fault = λ q. absurd (eqb-false 8 3 refl q);
      sink_fault = λ q. absurd (eqb-false 8 4 refl q);
      input_too_long = λ q. absurd (eqb-false 8 9 refl q);
    }) _ _ c.unserved-in-Err-NoMemory.ensures.ends

pub returns-in-Err-NoMemory-clause-overall : goal.returns-in-Err-NoMemory-clause-overall
returns-in-Err-NoMemory-clause-overall g c = λ asks some.
    c.unserved-in-Err-NoMemory.ensures.status
    ∙ sym (first_of_alike c.args.ends.items c.unserved-in-Err-NoMemory.result.ends.items 8 some
    c.unserved-in-Err-NoMemory.ensures.ends)

pub returns-in-Err-NoMemory-clause-mem : goal.returns-in-Err-NoMemory-clause-mem
returns-in-Err-NoMemory-clause-mem g c = λ plan asks verb. (
  c.unserved-in-Err-NoMemory.ensures.disks,
  zip_mapped _ (with_status 8) (λ e. mem_unmoved plan g.S.Source.left g.K.Sink.written e) _ _
      c.unserved-in-Err-NoMemory.ensures.ends,
)

pub returns-in-Err-NoMemory-clause-init : goal.returns-in-Err-NoMemory-clause-init
returns-in-Err-NoMemory-clause-init g c = λ plan asks verb. (
  none_mapped (with_status 8) _ _ (no_ends c.args.ends.items _ plan asks verb c.requires.ends)
      c.unserved-in-Err-NoMemory.ensures.ends,
  creates_nothing g.D.Disk.model (record { a = c.args.a; b = c.args.b }) (disks_of c.unserved-in-Err-NoMemory.result)
      c.unserved-in-Err-NoMemory.result.status c.unserved-in-Err-NoMemory.ensures.status
      c.unserved-in-Err-NoMemory.ensures.disks c.unserved-in-Err-NoMemory.ensures.read_b,
)

pub returns-in-Err-NoMemory-clause-run : goal.returns-in-Err-NoMemory-clause-run
returns-in-Err-NoMemory-clause-run g c = λ plan asks verb.
    let r = c.unserved-in-Err-NoMemory.ensures in
    zip_mapped _ (with_status 8)
    (λ e. inl (refused_unmoved g.D.Disk.model (record { a = c.args.a; b = c.args.b })
    (disks_of c.unserved-in-Err-NoMemory.result) r.read_a r.read_b e)) _ _ r.ends

pub returns-in-Err-NoMemory-clause-serve : goal.returns-in-Err-NoMemory-clause-serve
returns-in-Err-NoMemory-clause-serve g c = λ plan asks verb.
    let r = c.unserved-in-Err-NoMemory.ensures in
    let new = c.unserved-in-Err-NoMemory.result in
    inl (subst (λ (n : ℕ). AllZip (IsRefusedAs g.D.Disk.model (record { a = c.args.a; b = c.args.b }) (disks_of new) n)
    c.args.ends.items new.ends.items) (sym r.status)
    (refused_all g.D.Disk.model g.S.Source.left g.S.Source.faults g.K.Sink.written g.K.Sink.faults
    (record { a = c.args.a; b = c.args.b }) (disks_of new) 8 _ _ (inr (inr (inr refl))) r.read_a r.read_b r.ends))

pub returns-in-Err-NoMemory-clause-bulk : goal.returns-in-Err-NoMemory-clause-bulk
returns-in-Err-NoMemory-clause-bulk g c = λ plan asks verb. (
  c.unserved-in-Err-NoMemory.ensures.disks,
  zip_mapped _ (with_status 8) (λ e. bulk_unmoved plan g.K.Sink.written e) _ _ c.unserved-in-Err-NoMemory.ensures.ends,
)

pub returns-in-Err-NoMemory-clause-drill : goal.returns-in-Err-NoMemory-clause-drill
returns-in-Err-NoMemory-clause-drill g c = λ plan asks verb. (
  c.unserved-in-Err-NoMemory.ensures.disks,
  zip_mapped _ (with_status 8) (λ e. drill_unmoved plan g.S.Source.left g.K.Sink.written e) _ _
      c.unserved-in-Err-NoMemory.ensures.ends,
)

pub carry_out-requires-clause-plan : goal.carry_out-requires-clause-plan
carry_out-requires-clause-plan g c κs within = plan_within _ c.in-Ok.plan c.in-Ok.ensures.ok

pub carry_out-requires-clause-ends : goal.carry_out-requires-clause-ends
carry_out-requires-clause-ends g c κs within =
    fits c.args.ends.items _ c.in-Ok.plan c.in-Ok.ensures.ok c.requires.ends

pub returns-in-Ok-clause-usage : goal.returns-in-Ok-clause-usage
returns-in-Ok-clause-usage g c = λ two asks. c.carry_out.ensures.status two

pub returns-in-Ok-clause-no_plan : goal.returns-in-Ok-clause-no_plan
returns-in-Ok-clause-no_plan g c = λ none. absurd (none (c.in-Ok.plan, c.in-Ok.ensures.ok))

pub returns-in-Ok-clause-no_plan_takes_nothing : goal.returns-in-Ok-clause-no_plan_takes_nothing
returns-in-Ok-clause-no_plan_takes_nothing g c = λ none. absurd (none (c.in-Ok.plan, c.in-Ok.ensures.ok))

pub returns-in-Ok-clause-no_plan_disks : goal.returns-in-Ok-clause-no_plan_disks
returns-in-Ok-clause-no_plan_disks g c = λ none. absurd (none (c.in-Ok.plan, c.in-Ok.ensures.ok))

pub returns-in-Ok-clause-overall : goal.returns-in-Ok-clause-overall
returns-in-Ok-clause-overall g c = λ asks some. c.carry_out.ensures.overall some

pub returns-in-Ok-clause-end_causes : goal.returns-in-Ok-clause-end_causes
returns-in-Ok-clause-end_causes g c = c.carry_out.ensures.end_causes

pub returns-in-Ok-clause-disk_fault : goal.returns-in-Ok-clause-disk_fault
returns-in-Ok-clause-disk_fault g c = c.carry_out.ensures.causes.disk_fault

pub returns-in-Ok-clause-not_a_store : goal.returns-in-Ok-clause-not_a_store
returns-in-Ok-clause-not_a_store g c = c.carry_out.ensures.causes.not_a_store

pub returns-in-Ok-clause-damaged : goal.returns-in-Ok-clause-damaged
returns-in-Ok-clause-damaged g c = c.carry_out.ensures.causes.damaged

pub returns-in-Ok-clause-place : goal.returns-in-Ok-clause-place
returns-in-Ok-clause-place g c = c.carry_out.ensures.causes.undamaged

pub returns-in-Ok-clause-mem : goal.returns-in-Ok-clause-mem
returns-in-Ok-clause-mem g c = λ plan asks verb.
    let same = one_plan _ plan c.in-Ok.plan asks c.in-Ok.ensures.ok in
    let left = leaves_by g.D.Disk.model g.S.Source.left g.S.Source.faults g.K.Sink.written g.K.Sink.faults
    c.in-Ok.plan.command Mem c.in-Ok.plan (record { a = c.args.a; b = c.args.b }) c.args.ends.items c.carry_out.result
    (sym same.command ∙ verb) c.carry_out.ensures.leaves in (
      left.0,
      zip_weaker _ _ (λ old new s. mem_same g.S.Source.left g.K.Sink.written plan c.in-Ok.plan old new same.commits
          same.page s) c.args.ends.items c.carry_out.result.ends.items left.1,
    )

pub returns-in-Ok-clause-init : goal.returns-in-Ok-clause-init
returns-in-Ok-clause-init g c = λ plan asks verb.
    let same = one_plan _ plan c.in-Ok.plan asks c.in-Ok.ensures.ok in
    let left = leaves_by g.D.Disk.model g.S.Source.left g.S.Source.faults g.K.Sink.written g.K.Sink.faults
    c.in-Ok.plan.command Init c.in-Ok.plan (record { a = c.args.a; b = c.args.b }) c.args.ends.items c.carry_out.result
    (sym same.command ∙ verb) c.carry_out.ensures.leaves in
    left

pub returns-in-Ok-clause-run : goal.returns-in-Ok-clause-run
returns-in-Ok-clause-run g c = λ plan asks verb.
    let same = one_plan _ plan c.in-Ok.plan asks c.in-Ok.ensures.ok in
    let left = leaves_by g.D.Disk.model g.S.Source.left g.S.Source.faults g.K.Sink.written g.K.Sink.faults
    c.in-Ok.plan.command Run c.in-Ok.plan (record { a = c.args.a; b = c.args.b }) c.args.ends.items c.carry_out.result
    (sym same.command ∙ verb) c.carry_out.ensures.leaves in
    zip_weaker _ _ (λ old new s. runs_same g.D.Disk.model (record { a = c.args.a; b = c.args.b })
    (disks_of c.carry_out.result) g.S.Source.left g.K.Sink.written plan c.in-Ok.plan old new same.commits same.page s)
    c.args.ends.items c.carry_out.result.ends.items left

pub returns-in-Ok-clause-serve : goal.returns-in-Ok-clause-serve
returns-in-Ok-clause-serve g c = λ plan asks verb.
    let same = one_plan _ plan c.in-Ok.plan asks c.in-Ok.ensures.ok in
    let left = leaves_by g.D.Disk.model g.S.Source.left g.S.Source.faults g.K.Sink.written g.K.Sink.faults
    c.in-Ok.plan.command Serve c.in-Ok.plan (record { a = c.args.a; b = c.args.b }) c.args.ends.items c.carry_out.result
    (sym same.command ∙ verb) c.carry_out.ensures.leaves in
    serves_same g.D.Disk.model (record { a = c.args.a; b = c.args.b }) (disks_of c.carry_out.result) g.S.Source.left
    g.K.Sink.written plan c.in-Ok.plan c.carry_out.result.status c.args.ends.items c.carry_out.result.ends.items
    same.commits same.page left

pub returns-in-Ok-clause-bulk : goal.returns-in-Ok-clause-bulk
returns-in-Ok-clause-bulk g c = λ plan asks verb.
    let same = one_plan _ plan c.in-Ok.plan asks c.in-Ok.ensures.ok in
    let left = leaves_by g.D.Disk.model g.S.Source.left g.S.Source.faults g.K.Sink.written g.K.Sink.faults
    c.in-Ok.plan.command Bulk c.in-Ok.plan (record { a = c.args.a; b = c.args.b }) c.args.ends.items c.carry_out.result
    (sym same.command ∙ verb) c.carry_out.ensures.leaves in (
      left.0,
      zip_weaker _ _ (λ old new s. bulk_same g.K.Sink.written plan c.in-Ok.plan old new same s) c.args.ends.items
          c.carry_out.result.ends.items left.1,
    )

pub returns-in-Ok-clause-drill : goal.returns-in-Ok-clause-drill
returns-in-Ok-clause-drill g c = λ plan asks verb.
    let same = one_plan _ plan c.in-Ok.plan asks c.in-Ok.ensures.ok in
    let left = leaves_by g.D.Disk.model g.S.Source.left g.S.Source.faults g.K.Sink.written g.K.Sink.faults
    c.in-Ok.plan.command Drill c.in-Ok.plan (record { a = c.args.a; b = c.args.b }) c.args.ends.items c.carry_out.result
    (sym same.command ∙ verb) c.carry_out.ensures.leaves in (
      left.0,
      zip_weaker _ _ (λ old new s. drill_same g.S.Source.left g.K.Sink.written plan c.in-Ok.plan old new same.commits
          same.page s) c.args.ends.items c.carry_out.result.ends.items left.1,
    )
