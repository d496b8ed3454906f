use Rattle.std.proofs.Common.{All, Bor, Result, subst, sym, ℕ}
use Rattle.std.specs.List.{AllZip}
use Rattle.std.specs.Prelude.{IfOk}
use Rattle.std.specs.declared.alloc.AllocError.{AllocError}
use Rattle.std.specs.declared.alloc.Global.{Global}
use Rattle.std.specs.declared.vec.Vec.{Vec}
use Rattle.std.proofs.Common.{List}
use Rattle.rayon.proofs.ListFacts.{IfOk-then}
use Rattle.std.proofs.Common.{Option}
use Rattle.commit_log.specs.declared.base.BaseEntry.{BaseEntry}
use Rattle.mol_finish.specs.declared.fault.TextFault.{TextFault}
use Rattle.store_core.specs.Records.{Shared}
use Rattle.store_machine.specs.History.{IsId}
use Rattle.store_disk.specs.Texts.{AreRecords, IsRecord}
use Rattle.store_disk.proofs.Pieces.{collected, in-chunks, of-chunks}
use Rattle.store_disk.proofs.texts.read_records.Goals as goal

pub collect-requires-clause-ready : goal.collect-requires-clause-ready
collect-requires-clause-ready g c κs within =
    let P : ℕ × BaseEntry → Type 0 = λ (e : ℕ × BaseEntry). IsId e.1.id in
    rw (c.map.ensures.base, c.with_min_len.ensures.base, c.par_chunks.ensures.slice, c.par_chunks.ensures.size)
    (λ k d less x is. (
      subst (All P) (sym is) (in-chunks P c.piece_size.result c.args.entries.now c.requires k d less),
      λ y post. tt,
    ))

pub returns-in-Ok : goal.returns-in-Ok
returns-in-Ok g c =
    let h = c.in_ok-read.ensures in
    let chain = rw (
      c.map.ensures.base,
      c.map.ensures.f,
      c.with_min_len.ensures.base,
      c.par_chunks.ensures.slice,
      c.par_chunks.ensures.size,
    ) at h.1 in
    let pieces = c.in-Ok.pieces in
    let got = collected h.0 c.in_ok-read.read pieces c.in-Ok.is h.2 in
    IfOk-then c.joined.result _ _ c.joined.ensures (λ all items.
    rw items (of-chunks IsRecord c.piece_size.result c.args.entries.now chain.0 chain.1 pieces.items
    (subst (λ (rs : List (Result (Vec (Result (Option Shared) TextFault) Global) AllocError)).
    AllZip (λ (z : Bor (List (ℕ × BaseEntry))) r. IfOk r (λ v. AreRecords z.now v.items)) chain.0 rs) got chain.2)))
