-- A line is read in one way.
use Rattle.std.proofs.Common.{◌≡◌, inl, inr, ℕ, ◌^◌, ◌<◌, List, [], ◌∷◌, ◌++◌, refl, sym, ◌∙◌, ap, subst, arith, decimal, codes, Result, Ok, Err, ◌==◌, if◌then◌else◌}
use Rattle.std.proofs.lemmas.Fmt.{decimal_injective}
use Rattle.std.proofs.lemmas.List.{append_cancel_left}
use Rattle.shell_lang.specs.declared.word.Word.{Word}
use Rattle.shell_lang.specs.declared.word.Word.TheVariants as words
use Rattle.shell_lang.specs.declared.command.LineRefusal.{LineRefusal}
use Rattle.shell_lang.specs.declared.command.LineRefusal.TheVariants as refusals
use Rattle.shell_lang.specs.Word.{word_text}
use Rattle.store_machine.specs.History.{IsId}
use Rattle.shell_lang.specs.Command.{Command, Empty, Register, RegisterNew, Revise, RegisterMol, ReviseMol, RegisterSd, Withdraw, Show, Data, Search, Same, Similar, Start, Next, Close, Watch, Hits, Unwatch, Prune, Compact, Stats, AreIds, IsCount, IsNoFirst, IsNoIdentifier, IsSimilarity, HasNoSpace, Spells, HasIdentifierPart, TakesRecords, IsLine}
use Rattle.shell_lang.specs.Cut.{Follows, IdentifierPart}
use Rattle.shell_lang.proofs.Cuts.{IsAlone, same_number, no_space, no_space_first, no_space_named, one_split, one_cut, one_word, word_space, cut_of, part_cut_of, spelled_after, has_space, not_alone}

-- which of the commands it is
abbrev kind : Command → ℕ
kind Empty = 0
kind (Register id text) = 1
kind (Revise id text) = 2
kind (RegisterMol id) = 3
kind (ReviseMol id) = 4
kind (Withdraw id) = 5
kind (Show id) = 6
kind (Search pattern) = 7
kind (Start name pattern) = 8
kind (Next name) = 9
kind (Close name) = 10
kind Prune = 11
kind Stats = 12
kind (RegisterNew id text) = 13
kind (Same text) = 14
kind (Similar p q k text) = 15
kind (RegisterSd id count) = 16
kind (Data id name) = 17
kind (Watch name text) = 18
kind (Hits name) = 19
kind (Unwatch name) = 20
kind Compact = 21

abbrev kind_after : Word → ℕ
kind_after words.Register = 1
kind_after words.Revise = 2
kind_after words.RegisterMol = 3
kind_after words.ReviseMol = 4
kind_after words.Withdraw = 5
kind_after words.Show = 6
kind_after words.Search = 7
kind_after words.Open = 8
kind_after words.Next = 9
kind_after words.Close = 10
kind_after words.RegisterNew = 13
kind_after words.Same = 14
kind_after words.Similar = 15
kind_after words.RegisterSd = 16
kind_after words.Data = 17
kind_after words.Watch = 18
kind_after words.Hits = 19
kind_after words.Unwatch = 20

follow_kind : (w : Word) (rest : List ℕ) (c : Command) → Follows w rest c → kind c ≡ kind_after w
follow_kind words.Register rest (Register id text) h = refl
follow_kind words.RegisterNew rest (RegisterNew id text) h = refl
follow_kind words.Revise rest (Revise id text) h = refl
follow_kind words.RegisterMol rest (RegisterMol id) h = refl
follow_kind words.ReviseMol rest (ReviseMol id) h = refl
follow_kind words.RegisterSd rest (RegisterSd id count) h = refl
follow_kind words.Withdraw rest (Withdraw id) h = refl
follow_kind words.Show rest (Show id) h = refl
follow_kind words.Data rest (Data id name) h = refl
follow_kind words.Search rest (Search pattern) h = refl
follow_kind words.Same rest (Same text) h = refl
follow_kind words.Similar rest (Similar p q k text) h = refl
follow_kind words.Open rest (Start name pattern) h = refl
follow_kind words.Next rest (Next name) h = refl
follow_kind words.Close rest (Close name) h = refl
follow_kind words.Watch rest (Watch name text) h = refl
follow_kind words.Hits rest (Hits name) h = refl
follow_kind words.Unwatch rest (Unwatch name) h = refl
follow_kind w rest c h = absurd h

-- which of the lines without a space it is
abbrev kind_alone : List ℕ → ℕ
kind_alone [] = 0
kind_alone (b ∷ bs) = if b == 112 then 11 else if b == 99 then 21 else 12

kind_without_space : (line : List ℕ) (c : Command) → HasNoSpace line → Spells line c → kind c ≡ kind_alone line
kind_without_space line Empty n h = ap kind_alone (sym h)
kind_without_space line Prune n h = ap kind_alone (sym h)
kind_without_space line Compact n h = ap kind_alone (sym h)
kind_without_space line Stats n h = ap kind_alone (sym h)
kind_without_space line (Register id text) n h =
    absurd (n (has_space line (codes "register") (decimal id ++ 32 ∷ text) h.1))
kind_without_space line (RegisterNew id text) n h =
    absurd (n (has_space line (codes "register-new") (decimal id ++ 32 ∷ text) h.1))
kind_without_space line (Revise id text) n h =
    absurd (n (has_space line (codes "revise") (decimal id ++ 32 ∷ text) h.1))
kind_without_space line (RegisterMol id) n h = absurd (n (has_space line (codes "register-mol") (decimal id) h.1))
kind_without_space line (ReviseMol id) n h = absurd (n (has_space line (codes "revise-mol") (decimal id) h.1))
kind_without_space line (RegisterSd id count) n h =
    absurd (n (has_space line (codes "register-sd") (decimal id ++ 32 ∷ decimal count) h.2))
kind_without_space line (Withdraw id) n h = absurd (n (has_space line (codes "withdraw") (decimal id) h.1))
kind_without_space line (Show id) n h = absurd (n (has_space line (codes "show") (decimal id) h.1))
kind_without_space line (Data id name) n h =
    absurd (n (has_space line (codes "data") (decimal id ++ 32 ∷ name) h.1))
kind_without_space line (Search pattern) n h = absurd (n (has_space line (codes "search") pattern h))
kind_without_space line (Same text) n h = absurd (n (has_space line (codes "same") text h))
kind_without_space line (Similar p q k text) n h = absurd (n (has_space line (codes "similar") _ h.1))
kind_without_space line (Start name pattern) n h = absurd (n (has_space line (codes "open") (name ++ 32 ∷ pattern) h.1))
kind_without_space line (Next name) n h = absurd (n (has_space line (codes "next") name h.1))
kind_without_space line (Close name) n h = absurd (n (has_space line (codes "close") name h.1))
kind_without_space line (Watch name text) n h = absurd (n (has_space line (codes "watch") (name ++ 32 ∷ text) h.1))
kind_without_space line (Hits name) n h = absurd (n (has_space line (codes "hits") name h.1))
kind_without_space line (Unwatch name) n h = absurd (n (has_space line (codes "unwatch") name h.1))

same_kind : (line : List ℕ) (c d : Command) → Spells line c → Spells line d → kind c ≡ kind d
same_kind line c d p q =
    let alone : IsAlone line → kind c ≡ kind d =
    λ a. kind_without_space line c (λ held. not_alone line held a) p
    ∙ sym (kind_without_space line d (λ held. not_alone line held a) q) in
    elim (cut_of line c p) [
      | inl a ↦ alone a
      | inr x ↦ elim (cut_of line d q) [
        | inl b ↦ alone b
        | inr y ↦
            let s = one_cut line x.rest y.rest x.word y.word x.is y.is in
            follow_kind x.word x.rest c x.follows ∙ (ap kind_after s.0 ∙ sym (follow_kind y.word y.rest d y.follows))
      ]
    ]

-- an identifier and a text behind the same word
same_registration : (m n : ℕ) (t u : List ℕ) → IsId m → IsId n →
    decimal m ++ 32 ∷ t ≡ decimal n ++ 32 ∷ u → (m ≡ n) × (t ≡ u)
same_registration m n t u p q e = same_number m n t u (omega arith) (omega arith) e

same_identifier : (m n : ℕ) → IsId m → IsId n → decimal m ≡ decimal n → m ≡ n
same_identifier m n p q e = decimal_injective m n (omega arith) (omega arith) e

-- a first identifier and a number of records behind the same word
same_count : (a b : ℕ) → IsCount a → IsCount b → decimal a ≡ decimal b → a ≡ b
same_count a b p q e = decimal_injective a b (omega arith) (omega arith) e

same_records : (m n a b : ℕ) → IsCount a → AreIds m a → IsCount b → AreIds n b →
    decimal m ++ 32 ∷ decimal a ≡ decimal n ++ 32 ∷ decimal b → (m ≡ n) × (a ≡ b)
same_records m n a b few are small all e =
    let same = same_number m n (decimal a) (decimal b) (omega arith) (omega arith) e in
    (same.0, same_count a b few small same.1)

-- what stands behind the same word and a space
behind : (word : List ℕ) (line r s : List ℕ) → line ≡ word ++ 32 ∷ r → line ≡ word ++ 32 ∷ s → r ≡ s
behind word line r s e f = let h : 32 ∷ r ≡ 32 ∷ s = append_cancel_left word (32 ∷ r) (32 ∷ s) (sym e ∙ f) in cc

-- the three numbers of `similar` are small
similar_part : (p q k : ℕ) → IsSimilarity p q k → p < 2 ^ 64
similar_part p q k is = omega (arith, is.part, is.whole.1)

similar_whole : (p q k : ℕ) → IsSimilarity p q k → q < 2 ^ 64
similar_whole p q k is = omega (arith, is.whole.1)

similar_few : (p q k : ℕ) → IsSimilarity p q k → k < 2 ^ 64
similar_few p q k is = omega (arith, is.few.1)

pub same_command : (line : List ℕ) (c d : Command) → Spells line c → Spells line d → c ≡ d
same_command line Empty Empty p q = refl
same_command line Prune Prune p q = refl
same_command line Compact Compact p q = refl
same_command line Stats Stats p q = refl
same_command line (Register m t) (Register n u) p q =
    let same = same_registration m n t u p.0 q.0 (behind (codes "register") line _ _ p.1 q.1) in
    ap (λ i. Register i t) same.0 ∙ ap (λ (w : List ℕ). Register n w) same.1
same_command line (RegisterNew m t) (RegisterNew n u) p q =
    let same = same_registration m n t u p.0 q.0 (behind (codes "register-new") line _ _ p.1 q.1) in
    ap (λ i. RegisterNew i t) same.0 ∙ ap (λ (w : List ℕ). RegisterNew n w) same.1
same_command line (Revise m t) (Revise n u) p q =
    let same = same_registration m n t u p.0 q.0 (behind (codes "revise") line _ _ p.1 q.1) in
    ap (λ i. Revise i t) same.0 ∙ ap (λ (w : List ℕ). Revise n w) same.1
same_command line (RegisterMol m) (RegisterMol n) p q =
    ap RegisterMol (same_identifier m n p.0 q.0 (behind (codes "register-mol") line _ _ p.1 q.1))
same_command line (ReviseMol m) (ReviseMol n) p q =
    ap ReviseMol (same_identifier m n p.0 q.0 (behind (codes "revise-mol") line _ _ p.1 q.1))
same_command line (RegisterSd m a) (RegisterSd n b) p q =
    let same = same_records m n a b p.0 p.1 q.0 q.1 (behind (codes "register-sd") line _ _ p.2 q.2) in
    ap (λ i. RegisterSd i a) same.0 ∙ ap (λ i. RegisterSd n i) same.1
same_command line (Withdraw m) (Withdraw n) p q =
    ap Withdraw (same_identifier m n p.0 q.0 (behind (codes "withdraw") line _ _ p.1 q.1))
same_command line (Show m) (Show n) p q = ap Show (same_identifier m n p.0 q.0 (behind (codes "show") line _ _ p.1 q.1))
same_command line (Data m t) (Data n u) p q =
    let same = same_registration m n t u p.0 q.0 (behind (codes "data") line _ _ p.1 q.1) in
    ap (λ i. Data i t) same.0 ∙ ap (λ (w : List ℕ). Data n w) same.1
same_command line (Search t) (Search u) p q = ap Search (behind (codes "search") line _ _ p q)
same_command line (Same t) (Same u) p q = ap Same (behind (codes "same") line _ _ p q)
same_command line (Similar a b c t) (Similar d e f u) p q =
    let first =
    same_number a d _ _ (similar_part a b c p.0) (similar_part d e f q.0) (behind (codes "similar") line _ _ p.1 q.1) in
    let second = same_number b e _ _ (similar_whole a b c p.0) (similar_whole d e f q.0) first.1 in
    let third = same_number c f t u (similar_few a b c p.0) (similar_few d e f q.0) second.1 in
    let x : a ≡ d = first.0 in
    let y : b ≡ e = second.0 in
    let z : c ≡ f = third.0 in
    let w : t ≡ u = third.1 in
    cc
same_command line (Next t) (Next u) p q = ap Next (behind (codes "next") line _ _ p.1 q.1)
same_command line (Close t) (Close u) p q = ap Close (behind (codes "close") line _ _ p.1 q.1)
same_command line (Hits t) (Hits u) p q = ap Hits (behind (codes "hits") line _ _ p.1 q.1)
same_command line (Unwatch t) (Unwatch u) p q = ap Unwatch (behind (codes "unwatch") line _ _ p.1 q.1)
same_command line (Start a t) (Start b u) p q =
    let same =
    one_split a b t u (no_space_named a p.0) (no_space_named b q.0) (behind (codes "open") line _ _ p.1 q.1) in
    ap (λ (w : List ℕ). Start w t) same.0 ∙ ap (λ (w : List ℕ). Start b w) same.1
same_command line (Watch a t) (Watch b u) p q =
    let same =
    one_split a b t u (no_space_named a p.0) (no_space_named b q.0) (behind (codes "watch") line _ _ p.1 q.1) in
    ap (λ (w : List ℕ). Watch w t) same.0 ∙ ap (λ (w : List ℕ). Watch b w) same.1
same_command line c d p q = absurd (let k = same_kind line c d p q in omega arith)

-- a part that is no identifier stands where none does
no_part : (w : Word) (rest part : List ℕ) (c : Command) → Follows w rest c → IdentifierPart w rest part →
    IsNoIdentifier part → ⊥
no_part words.Register rest part (Register id text) h p none =
    none id h.0 (one_split part (decimal id) p.1 text p.0 (no_space id h.0) (sym p.2 ∙ h.1)).0
no_part words.RegisterNew rest part (RegisterNew id text) h p none =
    none id h.0 (one_split part (decimal id) p.1 text p.0 (no_space id h.0) (sym p.2 ∙ h.1)).0
no_part words.Revise rest part (Revise id text) h p none =
    none id h.0 (one_split part (decimal id) p.1 text p.0 (no_space id h.0) (sym p.2 ∙ h.1)).0
no_part words.RegisterMol rest part (RegisterMol id) h p none = none id h.0 (sym p.1 ∙ h.1)
no_part words.ReviseMol rest part (ReviseMol id) h p none = none id h.0 (sym p.1 ∙ h.1)
no_part words.Withdraw rest part (Withdraw id) h p none = none id h.0 (sym p.1 ∙ h.1)
no_part words.Show rest part (Show id) h p none = none id h.0 (sym p.1 ∙ h.1)
no_part words.RegisterSd rest part c h p none = p
no_part words.Data rest part (Data id name) h p none =
    none id h.0 (one_split part (decimal id) p.1 name p.0 (no_space id h.0) (sym p.2 ∙ h.1)).0
no_part words.Search rest part c h p none = p
no_part words.Same rest part c h p none = p
no_part words.Similar rest part c h p none = p
no_part words.Open rest part c h p none = p
no_part words.Next rest part c h p none = p
no_part words.Close rest part c h p none = p
no_part words.Watch rest part c h p none = p
no_part words.Hits rest part c h p none = p
no_part words.Unwatch rest part c h p none = p
no_part w rest part c h p none = h

-- no command has a part for an identifier that is none
no_identifier_refused : (line part : List ℕ) (c : Command) → Spells line c → HasIdentifierPart line part →
    IsNoIdentifier part → ⊥
no_identifier_refused line part c h p none =
    let x = part_cut_of line part p in
    let y = spelled_after line (word_text x.word) x.rest c x.is (word_space x.word) h in
    no_part y.0 x.rest part c y.2
    (subst (λ (w : Word). IdentifierPart w x.rest part) (sym (one_word y.0 x.word y.1)) x.follows) none

-- no first identifier is a part that is none
no_first : (part : List ℕ) (count : ℕ) (c : Command) → HasNoSpace part → IsCount count → IsNoFirst part count →
    Follows words.RegisterSd (part ++ 32 ∷ decimal count) c → ⊥
no_first part count (RegisterSd id n) k few none h =
    let same = one_split part (decimal id) (decimal count) (decimal n) k (no_space_first id n h.1) h.2 in
    none id (subst (λ m. AreIds id m) (sym (same_count count n few h.0 same.1)) h.1) same.0
no_first part count c k few none h = h

no_first_refused : (line part : List ℕ) (count : ℕ) (c : Command) → Spells line c → TakesRecords line part count →
    IsNoFirst part count → ⊥
no_first_refused line part count c h (k, few, e) none =
    let x = spelled_after line (codes "register-sd") (part ++ 32 ∷ decimal count) c e (word_space words.RegisterSd) h in
    no_first part count c k few none
    (subst (λ (w : Word). Follows w (part ++ 32 ∷ decimal count) c) (one_word x.0 words.RegisterSd x.1) x.2)

pub same_reading : (line : List ℕ) (a b : Result Command LineRefusal) → IsLine line a → IsLine line b → a ≡ b
same_reading line (Ok c) (Ok d) p q = ap Ok (same_command line c d p q)
same_reading line (Ok c) (Err refusals.Id) p (inl (part, q, none)) =
    absurd (no_identifier_refused line part c p q none)
same_reading line (Ok c) (Err refusals.Id) p (inr (part, count, q, none)) =
    absurd (no_first_refused line part count c p q none)
same_reading line (Ok c) (Err refusals.Syntax) p q = absurd (q.0 c p)
same_reading line (Err refusals.Id) (Ok d) (inl (part, p, none)) q =
    absurd (no_identifier_refused line part d q p none)
same_reading line (Err refusals.Id) (Ok d) (inr (part, count, p, none)) q =
    absurd (no_first_refused line part count d q p none)
same_reading line (Err refusals.Id) (Err refusals.Id) p q = refl
same_reading line (Err refusals.Id) (Err refusals.Syntax) (inl (part, p, none)) q = absurd (q.1 part p)
same_reading line (Err refusals.Id) (Err refusals.Syntax) (inr (part, count, p, none)) q = absurd (q.2 part count p)
same_reading line (Err refusals.Syntax) (Ok d) p q = absurd (p.0 d q)
same_reading line (Err refusals.Syntax) (Err refusals.Id) p (inl (part, q, none)) = absurd (p.1 part q)
same_reading line (Err refusals.Syntax) (Err refusals.Id) p (inr (part, count, q, none)) = absurd (p.2 part count q)
same_reading line (Err refusals.Syntax) (Err refusals.Syntax) p q = refl
