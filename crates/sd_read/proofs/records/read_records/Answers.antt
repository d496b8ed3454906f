use Rattle.std.proofs.Common.{◌≡◌, ℕ, ◌+◌, ◌<◌, ◌^◌, Bor, length, subst, ⊎_elim, arith}
use Rattle.std.proofs.lemmas.Bool.{cases_lt}
use Rattle.std.specs.List.{AllZip}
use Rattle.std.specs.declared.vec.Vec.{Vec}
use Rattle.std.specs.declared.alloc.Global.{Global}
use Rattle.rayon.proofs.ListFacts.{IfOk-then}
use Rattle.rayon.proofs.ToStd.{slice-length}
use Rattle.sd_read.specs.Records.{AreMade, IsMade}
use Rattle.sd_read.proofs.Numbered.{made-from}
use Rattle.sd_read.proofs.records.read_records.Goals as goal

pub returns : goal.returns
returns g c =
    IfOk-then c.collect.result _ _ c.collect.ensures (λ answers h.
    let chain = rw (
      c.map.ensures.base,
      c.map.ensures.f,
      c.with_min_len.ensures.base,
      c.enumerate.ensures.base,
      c.enumerate.ensures.offset,
      c.par_iter.ensures,
    ) at h.1 in
    let pairs = chain.1 in
    let texts = c.args.texts.now in
    let first = c.args.first in
    let long : length pairs.0 ≡ length texts = slice-length pairs.0 texts pairs.1 in
    let few : 0 + length pairs.0 < 2 ^ 64 =
    ⊎_elim (λ lt. omega (arith, lt, long))
    (λ ge. absurd (omega (arith, (c.requires.ids 4294967296 (omega (arith, ge))).1))) (cases_lt (length texts) (2 ^ 64)) in
    let made = made-from first 0 pairs.0 h.0 few
    (subst (λ ps. AllZip (λ (p : ℕ × Bor (Vec ℕ Global)) a. IsMade (first + p.0) p.1.now.items a) ps h.0)
    pairs.2 chain.2) in
    let from : first + 0 ≡ first = omega arith in
    rw h.2 (subst (λ n. AreMade n texts h.0) from (subst (λ ts. AreMade (first + 0) ts h.0) pairs.1 made)))
