-- Being better is a strict order, and of two identifiers one is better.
use Rattle.std.proofs.Common.{◌≡◌, ◌≢◌, ℕ, ◌+◌, ◌*◌, ◌<◌, ◌≤◌, inl, inr, true, false, ap, arith, sym, ◌∙◌}
use Rattle.std.proofs.Math.Nat.{mul-le-mul_left}
use Rattle.std.proofs.lemmas.Bool.Decides.{nat_tests}
use Rattle.std.proofs.lemmas.Bool.{cases_lt}
use Rattle.similar_find.specs.Board.{Board, Offer, is_better, passes}

-- the same as a fact
pub record Better (x y : Offer) : Type 0 where
  pub less : y.1 * x.2 ≤ x.1 * y.2
  pub tie : x.1 * y.2 ≡ y.1 * x.2 → x.0 < y.0

pub better-to : (x y : Offer) → is_better x y ≡ true → Better x y
better-to x y e = record { less = grind (arith, nat_tests); tie = λ f. grind (arith, nat_tests) }

pub better-from : (x y : Offer) → Better x y → is_better x y ≡ true
better-from x y h = let a = h.less in let b = h.tie in grind (arith, nat_tests)

pub better-itself : (x : Offer) → is_better x x ≡ false
better-itself x = grind (arith, nat_tests)

pub better-turned : (x y : Offer) → is_better x y ≡ true → is_better y x ≡ false
better-turned x y e = grind (arith, nat_tests)

pub better-either : (x y : Offer) → x.0 ≢ y.0 → is_better x y ≡ false → is_better y x ≡ true
better-either x y ne e = grind (arith, nat_tests)

-- a / u is at least b / v, and b / v at least c / w
least : (a b c u v w : ℕ) → 0 < v → b * u ≤ a * v → c * v ≤ b * w → c * u ≤ a * w
least a b c u v w hv h k = elim (cases_lt (a * w) (c * u)) [
  | inl lt ↦
      let p = mul-le-mul_left {m = b * u} {n = a * v} w h in
      let q = mul-le-mul_left {m = c * v} {n = b * w} u k in
      let more : a * w + 1 ≤ c * u = omega arith in
      let r = mul-le-mul_left {m = a * w + 1} {n = c * u} v more in
      absurd (omega arith)
  | inr le ↦ le
]

-- equal ends make all equal
all_equal : (a b c u v w : ℕ) → 0 < u → 0 < w → b * u ≤ a * v → c * v ≤ b * w → a * w ≡ c * u
    → (a * v ≡ b * u) × (b * w ≡ c * v)
all_equal a b c u v w hu hw h k e = (
  elim (cases_lt (b * u) (a * v)) [
    | inl lt ↦
        let more : b * u + 1 ≤ a * v = omega arith in
        let p = mul-le-mul_left {m = b * u + 1} {n = a * v} w more in
        let q = mul-le-mul_left {m = c * v} {n = b * w} u k in
        let z : v * (a * w) ≡ v * (c * u) = let F : ℕ → ℕ = λ n. v * n in ap F e in
        absurd (omega arith)
    | inr le ↦ omega arith
  ],
  elim (cases_lt (c * v) (b * w)) [
    | inl lt ↦
        let more : c * v + 1 ≤ b * w = omega arith in
        let p = mul-le-mul_left {m = c * v + 1} {n = b * w} u more in
        let q = mul-le-mul_left {m = b * u} {n = a * v} w h in
        let z : v * (a * w) ≡ v * (c * u) = let F : ℕ → ℕ = λ n. v * n in ap F e in
        absurd (omega arith)
    | inr le ↦ omega arith
  ],
)

pub better-on : (x y z : Offer) → 0 < x.2 → 0 < y.2 → 0 < z.2 → is_better x y ≡ true → is_better y z ≡ true
    → is_better x z ≡ true
better-on x y z hx hy hz e f =
    let p = better-to x y e in
    let q = better-to y z f in
    better-from x z (record {
      less = least x.1 y.1 z.1 x.2 y.2 z.2 hy p.less q.less;
      tie = λ same.
          let both = all_equal x.1 y.1 z.1 x.2 y.2 z.2 hx hz p.less q.less same in
          let a = p.tie both.0 in
          let b = q.tie both.1 in
          omega arith;
    })

-- a fraction that is no greater than one that does not pass
pub fails-too : (board : Board) (x y : Offer) → 0 < y.2 → y.1 * x.2 ≤ x.1 * y.2 → passes board x ≡ false
    → passes board y ≡ false
fails-too board x y hy le e = elim (cases_lt (y.1 * board.q) (board.p * y.2)) [
  | inl lt ↦ grind (arith, nat_tests)
  | inr more ↦
      let p = least x.1 y.1 board.p x.2 y.2 board.q hy le more in
      absurd (grind (arith, nat_tests))
]

-- one that is better than an offer is better than one of no greater fraction under its identifier
pub better-than-less : (last x y : Offer) → 0 < last.2 → 0 < x.2 → 0 < y.2 → last.0 ≢ y.0 → x.0 ≡ y.0
    → y.1 * x.2 ≤ x.1 * y.2 → is_better x last ≡ false → is_better last y ≡ true
better-than-less last x y hl hx hy ne same le e =
    let p = better-to last x (better-either x last (λ s. ne (sym s ∙ same)) e) in
    better-from last y (record {
      less = least last.1 x.1 y.1 last.2 x.2 y.2 hx p.less le;
      tie = λ f.
          let both = all_equal last.1 x.1 y.1 last.2 x.2 y.2 hl hy p.less le f in
          let a = p.tie both.0 in
          omega arith;
    })
