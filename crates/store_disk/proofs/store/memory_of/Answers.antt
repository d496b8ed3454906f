use Rattle.std.proofs.Common.{◌⊎◌, ◌+◌, ◌*◌, ◌≤◌, ◌∙◌, ap, arith, inl, inr, subst, sym, Vec, ℕ}
use Rattle.std.proofs.lemmas.Result.{IfOk-weaker}
use Rattle.std.specs.declared.alloc.Global.{Global}
use Rattle.commit_log.specs.Base.{entries_of}
use Rattle.commit_log.specs.Log.{changes_of}
use Rattle.commit_log.specs.declared.base.BaseEntry.{BaseEntry}
use Rattle.journal_core.proofs.LookLaws.{looks_twice}
use Rattle.journal_core.specs.declared.format.TheConstants.{LONGEST_PAYLOAD}
use Rattle.journal_core.specs.declared.header.Header.{Header}
use Rattle.store_disk.specs.Replays.{IsReplayed, LacksText, Stops}
use Rattle.store_disk.proofs.Loads.{as-read, commits, disallows, loaded, near, states}
use Rattle.store_disk.proofs.Results.{damaged-after, on-damaged}
use Rattle.store_disk.proofs.store.memory_of.Goals as goal

pub returns-in_err-base-clause-damaged : goal.returns-in_err-base-clause-damaged
returns-in_err-base-clause-damaged g c =
    let version = ap (λ (h : Header). h.base_version) c.header-version.ensures in
    let few : c.args.journal.now.header.base_version ≤ 16777215 =
    omega (arith, c.if-version-gt-MOST_COMMITS.false, version) in
    damaged-after (Vec (ℕ × BaseEntry) Global) c.in_err-base.field-0.0 c.from_residual.result c.from_residual.ensures.1
    (states g.D.Disk.model c.args.journal.now c.requires.opening few c.in_err-base.ensures.some_left)
    c.in_err-base.ensures.damaged

pub returns-clause-looks : goal.returns-clause-looks
returns-clause-looks g c =
    looks_twice g.D.Disk.model g.met.D.Disk.parts c.args.journal.now.disk c.read_base.new.journal.disk
    c.replay.new.journal.disk c.read_base.ensures.looks c.replay.ensures.looks

pub returns-clause-loaded : goal.returns-clause-loaded
returns-clause-loaded g c =
    let version = ap (λ (h : Header). h.base_version) c.header-version.ensures in
    let few : c.args.journal.now.header.base_version ≤ 16777215 =
    omega (arith, c.if-version-gt-MOST_COMMITS.false, version) in
    let base = c.in_ok-base.ensures in
    IfOk-weaker c.replay.result _ _
    (λ memory r. loaded g.D.Disk.model c.args.journal.now c.requires.opening few c.in_ok-base.base.items
    c.read_base.new.journal base.takes base.all.0 base.reads base.none c.read_base.ensures.looks.narrows.same
    r.0 c.replay.new.journal r.1.takes r.1.is_log memory c.args.commits
    (as-read (λ v b. IsReplayed memory c.args.commits v (entries_of b) (changes_of r.0)) _ _ _ _ version
    c.deref.ensures.value r.2) r.1.rests)
    c.replay.ensures.ok

pub returns-clause-place : goal.returns-clause-place
returns-clause-place g c =
    let version = ap (λ (h : Header). h.base_version) c.header-version.ensures in
    let few : c.args.journal.now.header.base_version ≤ 16777215 =
    omega (arith, c.if-version-gt-MOST_COMMITS.false, version) in
    let base = c.in_ok-base.ensures in
    IfOk-weaker c.replay.result _ _
    (λ memory r. subst (λ (h : Header). c.replay.new.journal.place
    ≤ 20 + (5 + LONGEST_PAYLOAD) * (h.base_count + memory.version))
    (sym (c.replay.ensures.header ∙ c.read_base.ensures.header))
    (near g.D.Disk.model c.args.journal.now c.requires.opening few c.in_ok-base.base.items
    c.read_base.new.journal base.takes base.all.0 base.reads base.none c.read_base.ensures.looks.narrows.same
    r.0 c.replay.new.journal r.1.takes r.1.is_log memory c.args.commits
    (as-read (λ v b. IsReplayed memory c.args.commits v (entries_of b) (changes_of r.0)) _ _ _ _ version
    c.deref.ensures.value r.2)))
    c.replay.ensures.ok

pub returns-clause-damaged : goal.returns-clause-damaged
returns-clause-damaged g c =
    let version = ap (λ (h : Header). h.base_version) c.header-version.ensures in
    let few : c.args.journal.now.header.base_version ≤ 16777215 =
    omega (arith, c.if-version-gt-MOST_COMMITS.false, version) in
    let base = c.in_ok-base.ensures in
    on-damaged c.replay.result
    (λ at damage. elim damage [
      | inl broken ↦
          commits g.D.Disk.model c.args.journal.now c.requires.opening few c.in_ok-base.base.items
          c.read_base.new.journal base.takes base.all.0 base.reads base.none c.read_base.ensures.looks.narrows.same at
          broken
      | inr r ↦
          disallows g.D.Disk.model c.args.journal.now c.requires.opening few c.in_ok-base.base.items
          c.read_base.new.journal base.takes base.all.0 base.reads base.none c.read_base.ensures.looks.narrows.same
          r.0 c.replay.new.journal r.1.takes r.1.is_log at
          (as-read (λ v b. LacksText b at ⊎ Stops v (entries_of b) r.0 at) _ _ _ _ version c.deref.ensures.value r.2)
    ])
    c.replay.ensures.damaged
