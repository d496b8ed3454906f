-- What a crash leaves of a journal's bytes, in each of the steps of an append and of a settling.
use Rattle.std.proofs.Common.{◌≡◌, ◌≤◌, ℕ, ◌+◌, min, List, [], ◌∷◌, ◌++◌, length, get_or, take, drop, refl, sym, ◌∙◌, ap, arith, append_assoc, length-append, take-append-drop}
use Rattle.std.proofs.lemmas.List.{take_at, drop_at, drop_more}
use Rattle.disk_edge.specs.Disk.{written, Torn}
use Rattle.journal_core.specs.Records.{IsShort, body, prefix, Opens, Staged}

module _ (front : List ℕ) (payloads : List (List ℕ)) where
  -- the front of bytes that have more
  kept : (bytes : List ℕ) (gate : ℕ) (rest : List ℕ) → bytes ≡ prefix front payloads ++ gate ∷ rest
      → take (length (prefix front payloads) + 1) bytes ≡ prefix front payloads ++ gate ∷ []
  kept bytes gate rest is =
      ap (λ (l : List ℕ). take (length (prefix front payloads) + 1) l) (is
      ∙ sym (append_assoc (prefix front payloads) (gate ∷ []) rest))
      ∙ take_at (prefix front payloads ++ gate ∷ []) rest (length (prefix front payloads) + 1)
      (length-append (prefix front payloads) (gate ∷ []))

  back : (bytes : List ℕ) (gate : ℕ) (rest : List ℕ) → bytes ≡ prefix front payloads ++ gate ∷ rest
      → drop (length (prefix front payloads) + 1) bytes ≡ rest
  back bytes gate rest is =
      ap (λ (l : List ℕ). drop (length (prefix front payloads) + 1) l) (is
      ∙ sym (append_assoc (prefix front payloads) (gate ∷ []) rest))
      ∙ drop_at (prefix front payloads ++ gate ∷ []) rest (length (prefix front payloads) + 1)
      (length-append (prefix front payloads) (gate ∷ []))

  gate_prefix : (bytes : List ℕ) (gate : ℕ) (rest : List ℕ) → bytes ≡ prefix front payloads ++ gate ∷ rest
      → take (length (prefix front payloads)) bytes ≡ prefix front payloads
  gate_prefix bytes gate rest is = ap (λ (l : List ℕ). take (length (prefix front payloads)) l) is
      ∙ take_at (prefix front payloads) (gate ∷ rest) (length (prefix front payloads)) refl

  long : (bytes : List ℕ) (gate : ℕ) (rest : List ℕ) → bytes ≡ prefix front payloads ++ gate ∷ rest
      → length (prefix front payloads) + 1 ≤ length bytes
  long bytes gate rest is = omega (arith, ap length is, length-append (prefix front payloads) (gate ∷ rest))

  -- a write behind the gate leaves the gate
  pub torn_behind : (n : ℕ) (d c : List ℕ) → Opens front payloads d → Torn (length (prefix front payloads) + 1) n d c
      → Opens front payloads c
  torn_behind n d c e torn =
      let least : length (prefix front payloads) + 1 ≡ min (length (prefix front payloads) + 1) (length d) =
      omega (arith, long d e.gate e.rest e.is) in
      let stays : take (length (prefix front payloads) + 1) c ≡ prefix front payloads ++ e.gate ∷ [] =
      ap (λ (k : ℕ). take k c) least ∙ torn.before ∙ kept d e.gate e.rest e.is in
      record {
        gate = e.gate;
        rest = drop (length (prefix front payloads) + 1) c;
        is = sym (take-append-drop (length (prefix front payloads) + 1) c)
            ∙ ap (λ (l : List ℕ). l ++ drop (length (prefix front payloads) + 1) c) stays
            ∙ append_assoc (prefix front payloads) (e.gate ∷ []) (drop (length (prefix front payloads) + 1) c);
        shut = e.shut;
        fit = e.fit;
      }

  pub written_behind : (payload l : List ℕ) → IsShort payload → Opens front payloads l
      → Staged front payloads payload (written (length (prefix front payloads) + 1) (body payload ++ 0 ∷ []) l)
  written_behind payload l few e =
      let rest = drop (length (prefix front payloads) + 1 + length (body payload ++ 0 ∷ [])) l in
      record {
        gate = e.gate;
        rest = rest;
        is = ap (λ (k : List ℕ). k ++ (body payload ++ 0 ∷ []) ++ rest) (kept l e.gate e.rest e.is)
            ∙ append_assoc (prefix front payloads ++ e.gate ∷ []) (body payload ++ 0 ∷ []) rest
            ∙ append_assoc (prefix front payloads) (e.gate ∷ []) ((body payload ++ 0 ∷ []) ++ rest)
            ∙ ap (λ (k : List ℕ). prefix front payloads ++ e.gate ∷ k) (append_assoc (body payload) (0 ∷ []) rest);
        fit = e.fit;
        few = few;
      }

  -- a write of the gate leaves all else
  pub torn_gate : (payload d c : List ℕ) → Staged front payloads payload d → Torn (length (prefix front payloads)) 1 d c
      → Staged front payloads payload c
  torn_gate payload d c e torn =
      let tail = body payload ++ 0 ∷ e.rest in
      let gate = get_or c (length (prefix front payloads)) 0 in
      let least : length (prefix front payloads) ≡ min (length (prefix front payloads)) (length d) =
      omega (arith, long d e.gate tail e.is) in
      let stays : take (length (prefix front payloads)) c ≡ prefix front payloads =
      ap (λ (k : ℕ). take k c) least ∙ torn.before ∙ gate_prefix d e.gate tail e.is in
      let behind : drop (length (prefix front payloads)) c ≡ gate ∷ tail =
      drop_more c (length (prefix front payloads)) 0 (omega (arith, torn.no_shorter, long d e.gate tail e.is))
      ∙ ap (λ (l : List ℕ). gate ∷ l) (torn.after ∙ back d e.gate tail e.is) in
      record {
        gate = gate;
        rest = e.rest;
        is = sym (take-append-drop (length (prefix front payloads)) c)
            ∙ ap (λ (l : List ℕ). l ++ drop (length (prefix front payloads)) c) stays
            ∙ ap (λ (l : List ℕ). prefix front payloads ++ l) behind;
        fit = e.fit;
        few = e.few;
      }

  pub written_gate : (payload l : List ℕ) (gate : ℕ) (e : Staged front payloads payload l)
      → written (length (prefix front payloads)) (gate ∷ []) l
      ≡ prefix front payloads ++ gate ∷ (body payload ++ 0 ∷ e.rest)
  written_gate payload l gate e =
      let tail = body payload ++ 0 ∷ e.rest in
      ap (λ (k : List ℕ). k ++ (gate ∷ []) ++ drop (length (prefix front payloads) + 1) l)
      (gate_prefix l e.gate tail e.is)
      ∙ ap (λ (k : List ℕ). prefix front payloads ++ (gate ∷ []) ++ k) (back l e.gate tail e.is)
      ∙ append_assoc (prefix front payloads) (gate ∷ []) tail
