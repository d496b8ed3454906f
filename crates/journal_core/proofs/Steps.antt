-- What each synced write of a journal leaves, for any content and images.
use Rattle.std.proofs.Common.{◌≡◌, ◌+◌, ℕ, List, [], ◌∷◌, ◌++◌, length, Option, Some, sym, subst, arith}
use Rattle.disk_edge.specs.Disk.{written, Torn, Exactly, Tears, Becomes, IfTold}
use Rattle.disk_edge.specs.TornLaws.{torn_written}
use Rattle.journal_core.specs.Records.{IsShort, body, prefix, Opens, Staged}
use Rattle.journal_core.proofs.Told.{becomes_told}
use Rattle.journal_core.proofs.RecordLaws.{opened}
use Rattle.journal_core.proofs.Crash.{torn_behind, written_behind, torn_gate, written_gate}

-- the payload stands behind the gate, all of it on the disk
pub record AtStage (front : List ℕ) (payloads : List (List ℕ)) (payload : List ℕ) (content : Option (List ℕ))
    (images : List ℕ → Type 0) : Type 0 where
  pub bytes : List ℕ
  pub told : content ≡ Some bytes
  pub exactly : Exactly bytes images
  pub staged : Staged front payloads payload bytes
  pub opens : Opens front payloads bytes

module _ (front : List ℕ) (payloads : List (List ℕ)) (payload : List ℕ) (place : ℕ)
    (at : place ≡ length (prefix front payloads)) where
  pub behind : (n : ℕ) (d c : List ℕ) → Opens front payloads d → Torn (place + 1) n d c → Opens front payloads c
  behind n d c e torn = torn_behind front payloads n d c e (subst (λ (p : ℕ). Torn (p + 1) n d c) at torn)

  pub gate : (d c : List ℕ) → Staged front payloads payload d → Torn place 1 d c → Staged front payloads payload c
  gate d c e torn = torn_gate front payloads payload d c e (subst (λ (p : ℕ). Torn p 1 d c) at torn)

  pub stage_done : IsShort payload → (bytes : List ℕ) (old new : Option (List ℕ)) (before after : List ℕ → Type 0)
      (l : List ℕ) → bytes ≡ body payload ++ 0 ∷ [] → old ≡ Some l
      → before l → ((c : List ℕ) → before c → Opens front payloads c) → Becomes old new (written (place + 1) bytes)
      → IfTold new (λ k. Exactly k after)
      → AtStage front payloads payload new after
  stage_done few bytes old new before after l is_bytes is_told is_image each becomes synced =
      let told = becomes_told old new (written (place + 1) bytes) l is_told becomes in
      record {
        bytes = written (place + 1) bytes l;
        told = told;
        exactly = synced (written (place + 1) bytes l) told;
        staged = subst (λ (p : ℕ). Staged front payloads payload (written (p + 1) bytes l)) (sym at)
            (subst (λ (b : List ℕ). Staged front payloads payload (written (length (prefix front payloads) + 1) b l))
            (sym is_bytes)
            (written_behind front payloads payload l few (each l is_image)));
        opens = behind (length bytes) l (written (place + 1) bytes l) (each l is_image)
            (torn_written (place + 1) bytes l);
      }

  -- each image of a stage whose gate is torn
  pub stage_torn : (content : Option (List ℕ)) (images : List ℕ → Type 0)
      (stage : AtStage front payloads payload content images) (d c : List ℕ) → images d → Torn place 1 d c
      → Staged front payloads payload c
  stage_torn content images stage d c image torn =
      gate d c (subst (Staged front payloads payload) (sym (stage.exactly.only d image)) stage.staged) torn

  -- a gate that is written open, over bytes with the record behind it
  pub written_open : (l : List ℕ) → Staged front payloads payload l
      → Opens front (payloads ++ payload ∷ []) (written place (0x5a ∷ []) l)
  written_open l e = subst (λ (p : ℕ). Opens front (payloads ++ payload ∷ []) (written p (0x5a ∷ []) l)) (sym at)
      (opened front payloads payload (written (length (prefix front payloads)) (0x5a ∷ []) l) e.rest e.fit e.few
      (written_gate front payloads payload l 0x5a e))

  pub written_closed : (l : List ℕ) → Staged front payloads payload l → Opens front payloads (written place (0 ∷ []) l)
  written_closed l e = subst (λ (p : ℕ). Opens front payloads (written p (0 ∷ []) l)) (sym at) (record {
    gate = 0;
    rest = body payload ++ 0 ∷ e.rest;
    is = written_gate front payloads payload l 0 e;
    shut = λ is. omega (arith, is);
    fit = e.fit;
  })

  -- a torn gate may be open
  pub stage_open : (content : Option (List ℕ)) (images after : List ℕ → Type 0)
      (stage : AtStage front payloads payload content images) → Tears place 1 images after
      → (c : List ℕ) × after c × Opens front (payloads ++ payload ∷ []) c
  stage_open content images after stage tears = (
    written place (0x5a ∷ []) stage.bytes,
    tears.all (written place (0x5a ∷ []) stage.bytes) stage.bytes stage.exactly.is
        (torn_written place (0x5a ∷ []) stage.bytes),
    written_open stage.bytes stage.staged,
  )
