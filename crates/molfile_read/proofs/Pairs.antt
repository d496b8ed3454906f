-- Pairs that are read one after another.
use Rattle.std.proofs.Common.{◌≡◌, ℕ, ◌+◌, ◌-◌, ◌<◌, List, [], ◌∷◌, ◌++◌, Option, Some, None, refl, sym, ◌∙◌, ap, append_assoc}
use Rattle.std.proofs.lemmas.List.{append-nil}
use Rattle.std.specs.Option.{option_map, option_and_then}
use Rattle.molfile_read.specs.declared.setting.Tag.{Tag}
use Rattle.molfile_read.specs.declared.setting.Setting.{Setting}
use Rattle.molfile_read.specs.Properties.{setting_at, nothing_in, pairs_in}
use Rattle.molfile_read.proofs.Steps.{one_less}

abbrev pub added : List Setting → Option (List Setting) → Option (List Setting)
added old read = option_map (λ xs. old ++ xs) read

added_more : (old : List Setting) (s : Setting) (read : Option (List Setting))
    → added old (option_map (λ xs. s ∷ xs) read) ≡ added (old ++ s ∷ []) read
added_more old s None = refl
added_more old s (Some xs) = ap (λ w. Some w) (sym (append_assoc old (s ∷ []) xs))

abbrev one : Tag → ℕ → ℕ → Option (Setting × List (List ℕ)) → Option (List Setting)
one tag atoms k o = option_and_then (λ p. option_map (λ others. p.0 ∷ others) (pairs_in tag atoms k p.1)) o

pub pairs_more : (tag : Tag) (atoms n i : ℕ) (old : List Setting) (s : Setting) (ws after : List (List ℕ))
    (whole : Option (List Setting)) → i < n → setting_at tag atoms ws ≡ Some (s, after)
    → added old (pairs_in tag atoms (n - i) ws) ≡ whole → added (old ++ s ∷ []) (pairs_in tag atoms (n - (i + 1)) after)
    ≡ whole
pairs_more tag atoms n i old s ws after whole lt e so =
    sym (added_more old s (pairs_in tag atoms (n - (i + 1)) after))
    ∙ sym (ap (λ k. added old (pairs_in tag atoms k ws)) (one_less n i lt)
    ∙ ap (λ o. added old (one tag atoms (n - (i + 1)) o)) e) ∙ so

pub pairs_stop : (tag : Tag) (atoms n i : ℕ) (old : List Setting) (ws : List (List ℕ)) (whole : Option (List Setting))
    → i < n → setting_at tag atoms ws ≡ None
    → added old (pairs_in tag atoms (n - i) ws) ≡ whole → whole ≡ None
pairs_stop tag atoms n i old ws whole lt e so =
    sym so ∙ ap (λ k. added old (pairs_in tag atoms k ws)) (one_less n i lt)
    ∙ ap (λ o. added old (one tag atoms (n - (i + 1)) o)) e

pub nothing_more : (old : List Setting) (ws : List (List ℕ)) → ws ≡ [] → added old (nothing_in ws) ≡ Some old
nothing_more old ws e = ap (λ w. added old (nothing_in w)) e ∙ ap (λ w. Some w) (append-nil old)

pub added_none : (old : List Setting) (read : Option (List Setting)) → added old read ≡ None → read ≡ None
added_none old None e = refl
added_none old (Some xs) e = absurd (cc)
