-- The steps of a graph: none, with one bond more, and what is read from them.
use Rattle.std.proofs.Common.{◌≡◌, ◌≢◌, ◌⊎◌, ℕ, ◌+◌, ◌-◌, ◌<◌, ◌≤◌, List, length, map, max, set, take, drop, get_or, All, false, true, sym, ap, ◌∙◌, subst, arith, inl, inr}
use Rattle.std.proofs.lemmas.Bool.{cases_eq}
use Rattle.std.proofs.lemmas.List.{get_or-drop, get_or-map, get_or-set_other, get_or-set_same, get_or-take, length-map, length-set, take-map, drop-map, length-take, length-drop}
use Rattle.std.proofs.lemmas.List.Elements.{All-drop, All-take}
use Rattle.smarts_parse.specs.declared.pattern.PatBond.{PatBond}
use Rattle.smarts_parse.specs.declared.pattern.AtomPrim.{AtomPrim}
use Rattle.smarts_parse.specs.Pattern.{BondTerm, GraphTerm, Term, bond_of}
use Rattle.smarts_parse.specs.Sound.{pattern_ends}
use Rattle.matcher.specs.declared.plan.EarlierBonds.{EarlierBonds}
use Rattle.matcher.specs.Class.{Covers}
use Rattle.matcher.specs.Plan.{ArePlanned, AreCovered, AreRepeats, IsReady, IsRepeat, step_at}

abbrev pub empty : EarlierBonds
empty = record { from = 0; to = 0; classes = 0; again = false }

-- one bond more
pub planned_more : (bonds : List BondTerm) (n atoms : ℕ) (steps : List EarlierBonds) (h : ℕ) (next : EarlierBonds) (bond : BondTerm)
    → ArePlanned bonds n atoms steps → n < length bonds → ((d : BondTerm) → get_or bonds n d ≡ bond)
    → max bond.a bond.b ≡ h → h < atoms → ((step_at steps h).to ≡ 0 → next.from ≡ n)
    → ((step_at steps h).to ≢ 0 → next.from ≡ (step_at steps h).from) → next.to ≡ n + 1
    → ArePlanned bonds (n + 1) atoms (set steps h next)
planned_more bonds n atoms steps h next bond before short is high lt fresh again to = record {
  room = subst (λ k. atoms ≤ k) (sym (length-set steps h next)) before.room;
  within = λ k d l. elim (cases_eq (max (get_or bonds k d).a (get_or bonds k d).b) h) [
    | inl same ↦
        let read : step_at (set steps h next) (max (get_or bonds k d).a (get_or bonds k d).b)
        ≡ next = ap (step_at (set steps h next)) same ∙ here in
        let from = ap (λ (s : EarlierBonds). s.from) read in
        let end = ap (λ (s : EarlierBonds). s.to) read in
        elim (cases_eq k n) [
          | inl last ↦ (let le = from_le in omega arith, omega arith)
          | inr early ↦
              let old = before.within k d (omega arith) in
              let old0 : (step_at steps h).from ≤ k = subst (λ x. (step_at steps x).from ≤ k) same old.0 in
              let old1 : k < (step_at steps h).to = subst (λ x. k < (step_at steps x).to) same old.1 in
              let kept : next.from ≡ (step_at steps h).from = again (λ z. omega arith) in
              (omega arith, omega arith)
        ]
    | inr apart ↦
        let read : step_at (set steps h next) (max (get_or bonds k d).a (get_or bonds k d).b)
        ≡ step_at steps (max (get_or bonds k d).a (get_or bonds k d).b) = other _ apart in
        elim (cases_eq k n) [
          | inl last ↦ absurd (apart (ap (λ (b : BondTerm). max b.a b.b) (ap (λ i. get_or bonds i d) last ∙ is d)
              ∙ high))
          | inr early ↦ subst (λ (s : EarlierBonds). (s.from ≤ k) × (k < s.to)) (sym read) (before.within k d (omega arith))
        ]
  ];
  ends = λ k l. elim (cases_eq k h) [
    | inl same ↦ let e = ap (λ (s : EarlierBonds). s.to) (ap (step_at (set steps h next)) same ∙ here) in omega arith
    | inr apart ↦ let e = ap (λ (s : EarlierBonds). s.to) (other k apart) in let old = before.ends k l in omega arith
  ];
  proper = λ k l. elim (cases_eq k h) [
    | inl same ↦
        let e = ap (λ (s : EarlierBonds). s.to) (ap (step_at (set steps h next)) same ∙ here) in
        let f = ap (λ (s : EarlierBonds). s.from) (ap (step_at (set steps h next)) same ∙ here) in
        let le = from_le in
        inr (omega arith)
    | inr apart ↦ subst (λ (s : EarlierBonds). (s.to ≡ 0) ⊎ (s.from < s.to)) (sym (other k apart)) (before.proper k l)
  ];
  first = λ k d l some. elim (cases_eq k h) [
    | inl same ↦
        let read : step_at (set steps h next) k ≡ next = ap (step_at (set steps h next)) same ∙ here in
        subst (λ (s : EarlierBonds). max (get_or bonds s.from d).a (get_or bonds s.from d).b ≡ k) (sym read)
        (elim (before.proper h lt) [
          | inl none ↦ ap (λ (b : BondTerm). max b.a b.b) (ap (λ i. get_or bonds i d) (fresh none) ∙ is d) ∙ high
              ∙ sym same
          | inr some' ↦
              let kept : next.from ≡ (step_at steps h).from = again (λ z. omega arith) in
              ap (λ i. max (get_or bonds i d).a (get_or bonds i d).b) kept ∙ before.first h d lt some' ∙ sym same
        ])
    | inr apart ↦
        let read : step_at (set steps h next) k ≡ step_at steps k = other k apart in
        subst (λ (s : EarlierBonds). max (get_or bonds s.from d).a (get_or bonds s.from d).b ≡ k) (sym read)
        (before.first k d l (subst (λ (s : EarlierBonds). s.from < s.to) read some))
  ];
}
  where
    here : step_at (set steps h next) h ≡ next
    here = get_or-set_same steps h next empty (let r = before.room in omega arith)

    other : (k : ℕ) → (k ≡ h → ⊥) → step_at (set steps h next) k ≡ step_at steps k
    other k apart = get_or-set_other steps h k next empty apart

    from_le : next.from ≤ n
    from_le = elim (before.proper h lt) [
      | inl none ↦ let e = fresh none in omega arith
      | inr some ↦ let e : next.from ≡ (step_at steps h).from = again (λ z. omega arith) in let old = before.ends h lt
          in omega arith
    ]

-- the first bond of a step that is not empty: its higher end is the atom, and its ends are apart
pub first_bond : (bonds : List PatBond) (g : GraphTerm) (steps : List EarlierBonds) (k : ℕ) (bond : PatBond)
    → g.bonds ≡ map bond_of bonds → IsReady g steps → k < length g.atoms → (step_at steps k).from < (step_at steps k).to
    → bond ≡ get_or bonds (step_at steps k).from bond → (max bond.a bond.b ≡ k) × (bond.a ≢ bond.b)
    × ((d : BondTerm) → get_or g.bonds (step_at steps k).from d ≡ bond_of bond)
first_bond bonds g steps k bond same ready lt some is =
    let place : ℕ = (step_at steps k).from in
    let end = ready.planned.ends k lt in
    let size : length g.bonds ≡ length bonds = ap length same ∙ length-map bonds bond_of in
    let within : place < length bonds = omega arith in
    let read : (d : BondTerm) → get_or g.bonds place d ≡ bond_of bond = λ d. ap (λ bs. get_or bs place d) same
    ∙ get_or-map bond_of bonds place bond d within ∙ ap bond_of (sym is) in
    let ends = ready.searchable.apart place (0, 0)
    (subst (λ n. place < n) (sym (length-map g.bonds (λ (b : BondTerm). (b.a, b.b)))) (omega arith)) in
    let pair : get_or (pattern_ends g) place (0, 0) ≡ (bond.a, bond.b) = get_or-map
    (λ (b : BondTerm). (b.a, b.b)) g.bonds place (bond_of bond) (0, 0) (omega arith)
    ∙ ap (λ (b : BondTerm). (b.a, b.b)) (read (bond_of bond)) in (
      sym (ap (λ (b : BondTerm). max b.a b.b) (read (bond_of bond))) ∙ ready.planned.first k (bond_of bond) lt some,
      subst (λ (e : ℕ × ℕ). e.0 ≢ e.1) pair ends,
      read,
    )

-- what holds of a step's other bonds and of its first holds of all bonds of its atom
pub all_of_step : (bonds : List PatBond) (g : GraphTerm) (steps : List EarlierBonds) (h : ℕ) (P : BondTerm → Type 0)
    → g.bonds ≡ map bond_of bonds → IsReady g steps
    → All (λ (b : BondTerm). max b.a b.b ≡ h → P b)
    (map bond_of (take ((step_at steps h).to - ((step_at steps h).from + 1))
    (drop ((step_at steps h).from + 1) bonds)))
    → ((d : BondTerm) → (step_at steps h).from < (step_at steps h).to → P (get_or g.bonds (step_at steps h).from d))
    → All (λ (b : BondTerm). max b.a b.b ≡ h → P b) g.bonds
all_of_step bonds g steps h P same ready others first k d l high =
    let place : ℕ = (step_at steps h).from in
    let end : ℕ = (step_at steps h).to in
    let w = ready.planned.within k d l in
    let w0 : place ≤ k = subst (λ x. (step_at steps x).from ≤ k) high w.0 in
    let w1 : k < end = subst (λ x. k < (step_at steps x).to) high w.1 in
    let size : length g.bonds ≡ length bonds = ap length same ∙ length-map bonds bond_of in
    elim (cases_eq k place) [
      | inl at ↦ subst (λ i. P (get_or g.bonds i d)) (sym at) (first d (omega arith))
      | inr after ↦
          let rest : List PatBond = take (end - (place + 1)) (drop (place + 1) bonds) in
          let j : ℕ = k - (place + 1) in
          let back : place + 1 + j ≡ k = omega arith in
          let moved : map bond_of rest ≡ take (end - (place + 1)) (drop (place + 1) (map bond_of bonds)) =
          sym (take-map bond_of (end - (place + 1)) (drop (place + 1) bonds))
          ∙ ap (λ xs. take (end - (place + 1)) xs) (sym (drop-map bond_of (place + 1) bonds)) in
          let read : get_or (map bond_of rest) j d ≡ get_or g.bonds k d =
          ap (λ xs. get_or xs j d) moved ∙ get_or-take (end - (place + 1)) (drop (place + 1) (map bond_of bonds)) j d
          (omega arith) ∙ get_or-drop (place + 1) (map bond_of bonds) j d
          ∙ ap (λ i. get_or (map bond_of bonds) i d) back ∙ ap (λ bs. get_or bs k d) (sym same) in
          let short : j < length (map bond_of rest) = rw (length-map, length-take, length-drop) (omega arith) in
          subst P read (others j d short (ap (λ (b : BondTerm). max b.a b.b) read ∙ high))
    ]

-- and the other way
pub step_of_all : (bonds : List PatBond) (g : GraphTerm) (P : BondTerm → Type 0) (n s : ℕ) → g.bonds ≡ map bond_of bonds
    → All P g.bonds → All P (map bond_of (take n (drop s bonds)))
step_of_all bonds g P n s same all =
    let moved : map bond_of (take n (drop s bonds)) ≡ take n (drop s (map bond_of bonds)) = sym
    (take-map bond_of n (drop s bonds)) ∙ ap (λ xs. take n xs) (sym (drop-map bond_of s bonds)) in
    subst (All P) (sym moved) (All-take P n (drop s (map bond_of bonds))
    (All-drop P s (map bond_of bonds) (subst (All P) same all)))

-- the higher end of a bond is an atom of the graph
pub high_below : (bonds : List PatBond) (g : GraphTerm) (k : ℕ) (bond : PatBond) → k < length bonds
    → bond ≡ get_or bonds k bond → All (λ (e : ℕ × ℕ). (e.0 < length g.atoms) × (e.1 < length g.atoms))
    (map (λ (b : BondTerm). (b.a, b.b)) (map bond_of bonds)) → max bond.a bond.b < length g.atoms
high_below bonds g k bond l is ends =
    let inside : k < length (map bond_of bonds) = subst (λ n. k < n) (sym (length-map bonds bond_of)) l in
    let pair : get_or (map (λ (b : BondTerm). (b.a, b.b)) (map bond_of bonds)) k (0, 0) ≡ (bond.a, bond.b) =
    get_or-map (λ (b : BondTerm). (b.a, b.b)) (map bond_of bonds) k (bond_of bond) (0, 0) inside
    ∙ ap (λ (b : BondTerm). (b.a, b.b)) (get_or-map bond_of bonds k bond (bond_of bond) l ∙ ap bond_of (sym is)) in
    let both = subst (λ (e : ℕ × ℕ). (e.0 < length g.atoms) × (e.1 < length g.atoms)) pair
    (ends k (0, 0) (subst (λ n. k < n) (sym (length-map (map bond_of bonds) (λ (b : BondTerm). (b.a, b.b))))
    inside)) in
    let a : bond.a < length g.atoms = both.0 in
    let b : bond.b < length g.atoms = both.1 in
    omega arith

-- one bond more, as it is read from memory
pub planned_next : (bonds : List PatBond) (g : GraphTerm) (n : ℕ) (steps : List EarlierBonds) (h : ℕ) (next : EarlierBonds)
    (bond : PatBond) → g.bonds ≡ map bond_of bonds → ArePlanned g.bonds n (length g.atoms) steps → n < length bonds
    → bond ≡ get_or bonds n bond
    → h ≡ max bond.a bond.b → h < length g.atoms → ((step_at steps h).to ≡ 0 → next.from ≡ n)
    → ((step_at steps h).to ≢ 0 → next.from ≡ (step_at steps h).from) → next.to ≡ n + 1
    → ArePlanned g.bonds (n + 1) (length g.atoms) (set steps h next)
planned_next bonds g n steps h next bond same before short is high lt fresh again to =
    let size : length g.bonds ≡ length bonds = ap length same ∙ length-map bonds bond_of in
    planned_more g.bonds n (length g.atoms) steps h next (bond_of bond) before (omega arith)
    (λ d. ap (λ bs. get_or bs n d) same ∙ get_or-map bond_of bonds n bond d short ∙ ap bond_of (sym is))
    (sym high) lt fresh again to

-- classes are kept where a step with the same is written
pub covered_set : (atoms : List (Term AtomPrim)) (n : ℕ) (steps : List EarlierBonds) (h : ℕ) (next : EarlierBonds)
    → AreCovered atoms n steps → h < length steps → next.classes ≡ (step_at steps h).classes
    → AreCovered atoms n (set steps h next)
covered_set atoms n steps h next before lt same k l d = elim (cases_eq k h) [
  | inl at ↦
      let read : (step_at (set steps h next) k).classes ≡ (step_at steps k).classes =
      ap (λ (s : EarlierBonds). s.classes) (ap (step_at (set steps h next)) at ∙ get_or-set_same steps h next empty lt) ∙ same
      ∙ ap (λ i. (step_at steps i).classes) (sym at) in
      subst (λ (c : ℕ). Covers c (get_or atoms k d)) (sym read) (before k l d)
  | inr apart ↦ subst (λ (s : EarlierBonds). Covers s.classes (get_or atoms k d))
      (sym (get_or-set_other steps h k next empty apart)) (before k l d)
]

-- and those of one step more
pub covered_more : (atoms : List (Term AtomPrim)) (n : ℕ) (steps : List EarlierBonds) (next : EarlierBonds) → AreCovered atoms n steps
    → n < length steps → ((d : Term AtomPrim) → Covers next.classes (get_or atoms n d))
    → AreCovered atoms (n + 1) (set steps n next)
covered_more atoms n steps next before lt here k l d = elim (cases_eq k n) [
  | inl at ↦ subst (λ i. Covers (step_at (set steps n next) i).classes (get_or atoms i d)) (sym at)
      (subst (λ (s : EarlierBonds). Covers s.classes (get_or atoms n d)) (sym (get_or-set_same steps n next empty lt)) (here d))
  | inr apart ↦ subst (λ (s : EarlierBonds). Covers s.classes (get_or atoms k d))
      (sym (get_or-set_other steps n k next empty apart)) (before k (omega arith) d)
]

-- what is said of repeats is kept where a step that says the same is written
pub repeats_set : (atoms : List (Term AtomPrim)) (n : ℕ) (steps : List EarlierBonds) (h : ℕ) (next : EarlierBonds)
    → AreRepeats atoms n steps → h < length steps → next.again ≡ (step_at steps h).again
    → AreRepeats atoms n (set steps h next)
repeats_set atoms n steps h next before lt same k l yes' = elim (cases_eq k h) [
  | inl at ↦
      let read : (step_at (set steps h next) k).again ≡ (step_at steps k).again =
      ap (λ (s : EarlierBonds). s.again) (ap (step_at (set steps h next)) at ∙ get_or-set_same steps h next empty lt)
      ∙ same ∙ ap (λ i. (step_at steps i).again) (sym at) in
      before k l (sym read ∙ yes')
  | inr apart ↦ before k l
      (ap (λ (s : EarlierBonds). s.again) (sym (get_or-set_other steps h k next empty apart)) ∙ yes')
]

-- and of one step more
pub repeats_more : (atoms : List (Term AtomPrim)) (n : ℕ) (steps : List EarlierBonds) (next : EarlierBonds)
    → AreRepeats atoms n steps → n < length steps → (next.again ≡ true → IsRepeat atoms n)
    → AreRepeats atoms (n + 1) (set steps n next)
repeats_more atoms n steps next before lt here k l yes' = elim (cases_eq k n) [
  | inl at ↦ subst (IsRepeat atoms) (sym at)
      (here (ap (λ (s : EarlierBonds). s.again) (sym (ap (step_at (set steps n next)) at
      ∙ get_or-set_same steps n next empty lt)) ∙ yes'))
  | inr apart ↦ before k (omega arith)
      (ap (λ (s : EarlierBonds). s.again) (sym (get_or-set_other steps n k next empty apart)) ∙ yes')
]

-- no bond yet, of one step more
pub none_more : (steps : List EarlierBonds) (n : ℕ) (next : EarlierBonds) → ((k : ℕ) → k < n → (step_at steps k).to ≡ 0)
    → n < length steps → next.to ≡ 0 → (k : ℕ) → k < n + 1 → (step_at (set steps n next) k).to ≡ 0
none_more steps n next before lt none k l = elim (cases_eq k n) [
  | inl at ↦ ap (λ (s : EarlierBonds). s.to) (ap (step_at (set steps n next)) at ∙ get_or-set_same steps n next empty lt) ∙ none
  | inr apart ↦ ap (λ (s : EarlierBonds). s.to) (get_or-set_other steps n k next empty apart) ∙ before k (omega arith)
]
