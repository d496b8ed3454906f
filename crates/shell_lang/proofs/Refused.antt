-- Why what follows a first word is refused.
use Rattle.std.proofs.Common.{◌≡◌, inl, inr, ℕ, List, ◌∷◌, ◌++◌, Err, refl, subst, decimal}
use Rattle.std.specs.List.{Contains}
use Rattle.shell_lang.specs.declared.word.Word.TheVariants as words
use Rattle.shell_lang.specs.declared.command.LineRefusal.{LineRefusal}
use Rattle.shell_lang.specs.declared.command.LineRefusal.TheVariants as refusals
use Rattle.shell_lang.specs.Command.{Command, Register, RegisterNew, Revise, RegisterMol, ReviseMol, RegisterSd, Withdraw, Show, Data, IsNoFirst, IsNoIdentifier, HasNoSpace}
use Rattle.shell_lang.specs.Cut.{Follows, FirstPart, IsRest}
use Rattle.shell_lang.proofs.Cuts.{has_space, no_space, no_space_first}

pub registration_refused : (rest : List ℕ) (e : LineRefusal) →
    (e ≡ refusals.Id →
    (part : List ℕ) × HasNoSpace part × ((text : List ℕ) × (rest ≡ part ++ 32 ∷ text)) × IsNoIdentifier part) →
    (e ≡ refusals.Syntax → HasNoSpace rest) → IsRest words.Register rest (Err e)
registration_refused rest refusals.Id id syntax = let h = id refl in inl (h.0, (h.1, h.2.0, h.2.1), h.3)
registration_refused rest refusals.Syntax id syntax = (
  λ c h. no_registration rest (syntax refl) c h,
  λ part h. syntax refl (has_space rest part h.1 h.2),
  λ part count h. h,
)
  where
    no_registration : (rest : List ℕ) → HasNoSpace rest → (c : Command) → Follows words.Register rest c → ⊥
    no_registration rest n (Register id text) h = n (has_space rest (decimal id) text h.1)
    no_registration rest n c h = h

pub new_refused : (rest : List ℕ) (e : LineRefusal) →
    (e ≡ refusals.Id →
    (part : List ℕ) × HasNoSpace part × ((text : List ℕ) × (rest ≡ part ++ 32 ∷ text)) × IsNoIdentifier part) →
    (e ≡ refusals.Syntax → HasNoSpace rest) → IsRest words.RegisterNew rest (Err e)
new_refused rest refusals.Id id syntax = let h = id refl in inl (h.0, (h.1, h.2.0, h.2.1), h.3)
new_refused rest refusals.Syntax id syntax = (
  λ c h. no_new rest (syntax refl) c h,
  λ part h. syntax refl (has_space rest part h.1 h.2),
  λ part count h. h,
)
  where
    no_new : (rest : List ℕ) → HasNoSpace rest → (c : Command) → Follows words.RegisterNew rest c → ⊥
    no_new rest n (RegisterNew id text) h = n (has_space rest (decimal id) text h.1)
    no_new rest n c h = h

pub revision_refused : (rest : List ℕ) (e : LineRefusal) →
    (e ≡ refusals.Id →
    (part : List ℕ) × HasNoSpace part × ((text : List ℕ) × (rest ≡ part ++ 32 ∷ text)) × IsNoIdentifier part) →
    (e ≡ refusals.Syntax → HasNoSpace rest) → IsRest words.Revise rest (Err e)
revision_refused rest refusals.Id id syntax = let h = id refl in inl (h.0, (h.1, h.2.0, h.2.1), h.3)
revision_refused rest refusals.Syntax id syntax = (
  λ c h. no_revision rest (syntax refl) c h,
  λ part h. syntax refl (has_space rest part h.1 h.2),
  λ part count h. h,
)
  where
    no_revision : (rest : List ℕ) → HasNoSpace rest → (c : Command) → Follows words.Revise rest c → ⊥
    no_revision rest n (Revise id text) h = n (has_space rest (decimal id) text h.1)
    no_revision rest n c h = h

pub data_refused : (rest : List ℕ) (e : LineRefusal) →
    (e ≡ refusals.Id →
    (part : List ℕ) × HasNoSpace part × ((text : List ℕ) × (rest ≡ part ++ 32 ∷ text)) × IsNoIdentifier part) →
    (e ≡ refusals.Syntax → HasNoSpace rest) → IsRest words.Data rest (Err e)
data_refused rest refusals.Id id syntax = let h = id refl in inl (h.0, (h.1, h.2.0, h.2.1), h.3)
data_refused rest refusals.Syntax id syntax = (
  λ c h. no_data rest (syntax refl) c h,
  λ part h. syntax refl (has_space rest part h.1 h.2),
  λ part count h. h,
)
  where
    no_data : (rest : List ℕ) → HasNoSpace rest → (c : Command) → Follows words.Data rest c → ⊥
    no_data rest n (Data id name) h = n (has_space rest (decimal id) name h.1)
    no_data rest n c h = h

pub register_mol_refused : (rest : List ℕ) (e : LineRefusal) →
    (e ≡ refusals.Id → HasNoSpace rest × IsNoIdentifier rest) → (e ≡ refusals.Syntax → Contains rest 32) →
    IsRest words.RegisterMol rest (Err e)
register_mol_refused rest refusals.Id id syntax = let h = id refl in inl (rest, (h.0, refl), h.1)
register_mol_refused rest refusals.Syntax id syntax = (
  λ c h. no_register_mol rest (syntax refl) c h,
  λ part h. h.0 (subst (λ (r : List ℕ). Contains r 32) h.1 (syntax refl)),
  λ part count h. h,
)
  where
    no_register_mol : (rest : List ℕ) → Contains rest 32 → (c : Command) → Follows words.RegisterMol rest c → ⊥
    no_register_mol rest held (RegisterMol id) h = no_space id h.0 (subst (λ (r : List ℕ). Contains r 32) h.1 held)
    no_register_mol rest held c h = h

pub revise_mol_refused : (rest : List ℕ) (e : LineRefusal) →
    (e ≡ refusals.Id → HasNoSpace rest × IsNoIdentifier rest) → (e ≡ refusals.Syntax → Contains rest 32) →
    IsRest words.ReviseMol rest (Err e)
revise_mol_refused rest refusals.Id id syntax = let h = id refl in inl (rest, (h.0, refl), h.1)
revise_mol_refused rest refusals.Syntax id syntax = (
  λ c h. no_revise_mol rest (syntax refl) c h,
  λ part h. h.0 (subst (λ (r : List ℕ). Contains r 32) h.1 (syntax refl)),
  λ part count h. h,
)
  where
    no_revise_mol : (rest : List ℕ) → Contains rest 32 → (c : Command) → Follows words.ReviseMol rest c → ⊥
    no_revise_mol rest held (ReviseMol id) h = no_space id h.0 (subst (λ (r : List ℕ). Contains r 32) h.1 held)
    no_revise_mol rest held c h = h

pub withdraw_refused : (rest : List ℕ) (e : LineRefusal) → (e ≡ refusals.Id → HasNoSpace rest × IsNoIdentifier rest) →
    (e ≡ refusals.Syntax → Contains rest 32) → IsRest words.Withdraw rest (Err e)
withdraw_refused rest refusals.Id id syntax = let h = id refl in inl (rest, (h.0, refl), h.1)
withdraw_refused rest refusals.Syntax id syntax = (
  λ c h. no_withdraw rest (syntax refl) c h,
  λ part h. h.0 (subst (λ (r : List ℕ). Contains r 32) h.1 (syntax refl)),
  λ part count h. h,
)
  where
    no_withdraw : (rest : List ℕ) → Contains rest 32 → (c : Command) → Follows words.Withdraw rest c → ⊥
    no_withdraw rest held (Withdraw id) h = no_space id h.0 (subst (λ (r : List ℕ). Contains r 32) h.1 held)
    no_withdraw rest held c h = h

pub show_refused : (rest : List ℕ) (e : LineRefusal) → (e ≡ refusals.Id → HasNoSpace rest × IsNoIdentifier rest) →
    (e ≡ refusals.Syntax → Contains rest 32) → IsRest words.Show rest (Err e)
show_refused rest refusals.Id id syntax = let h = id refl in inl (rest, (h.0, refl), h.1)
show_refused rest refusals.Syntax id syntax = (
  λ c h. no_show rest (syntax refl) c h,
  λ part h. h.0 (subst (λ (r : List ℕ). Contains r 32) h.1 (syntax refl)),
  λ part count h. h,
)
  where
    no_show : (rest : List ℕ) → Contains rest 32 → (c : Command) → Follows words.Show rest c → ⊥
    no_show rest held (Show id) h = no_space id h.0 (subst (λ (r : List ℕ). Contains r 32) h.1 held)
    no_show rest held c h = h

pub register_sd_refused : (rest : List ℕ) (e : LineRefusal) →
    (e ≡ refusals.Id →
    (part : List ℕ) × (count : ℕ) × FirstPart words.RegisterSd rest part count × IsNoFirst part count) →
    (e ≡ refusals.Syntax → (part : List ℕ) (count : ℕ) → ¬ FirstPart words.RegisterSd rest part count) →
    IsRest words.RegisterSd rest (Err e)
register_sd_refused rest refusals.Id id syntax = inr (id refl)
register_sd_refused rest refusals.Syntax id syntax =
    (λ c h. no_records rest (syntax refl) c h, λ part h. h, syntax refl)
  where
    no_records : (rest : List ℕ) → ((part : List ℕ) (count : ℕ) → ¬ FirstPart words.RegisterSd rest part count) →
        (c : Command) → Follows words.RegisterSd rest c → ⊥
    no_records rest none (RegisterSd id count) h =
        none (decimal id) count (no_space_first id count h.1, h.0, h.2)
    no_records rest none c h = h
