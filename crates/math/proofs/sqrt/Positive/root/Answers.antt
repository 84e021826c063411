-- `math::sqrt::Positive::root` meets its contract: nothing wraps, and the radicand, times 2 ^ 52, is the scaled number.
use Rattle.std.proofs.Common.{◌≡◌, ℕ, ◌+◌, ◌*◌, ◌/◌, ◌%◌, ◌^◌, ◌<◌, ◌≤◌, sym, ap, ◌∙◌, ap₂, lt_of_lt_of_le, mod-eq_of_lt, arith, lit≤}
use Rattle.math.specs.Sqrt as spec
use Rattle.math.proofs.sqrt.SqrtOpen.{positive_root_is}
use Rattle.math.proofs.sqrt.SqrtScale.{normalised, scaled_bounds, word_bounds, word-scaled}
use Rattle.math.proofs.sqrt.SqrtRounded.{rounded-within}
use Rattle.math.proofs.sqrt.Positive.root.Goals as goal
use Rattle.math.proofs.sqrt.Positive.root.Goals.{After-rounded}

-- the shift loses nothing
word_is : (b e m : ℕ) → 0 < b → b < spec.infinity_pattern → e ≡ spec.exponent b → m ≡ spec.significand b →
    m * 2 ^ (e % 2) % 2 ^ 64 ≡ spec.significand b * 2 ^ (spec.exponent b % 2)
word_is b e m p h x y = rw (x, y) (mod-eq_of_lt (lt_of_lt_of_le (word_bounds b p h).1 (lit≤ tt)))

word-within : (b e m : ℕ) → 0 < b → b < spec.infinity_pattern → e ≡ spec.exponent b → m ≡ spec.significand b
    → (2 ^ 52 ≤ m * 2 ^ (e % 2) % 2 ^ 64) × (m * 2 ^ (e % 2) % 2 ^ 64 < 2 ^ 54)
word-within b e m p h x y = rw (word_is b e m p h x y) (word_bounds b p h)

pub overflow_mul-result : goal.overflow_mul-result
overflow_mul-result c =
    let self = c.args.self in
    omega (arith, c.exponent-e.ensures, (normalised self.bits self.above_zero self.finite).last)

pub invariant_of-radicand : goal.invariant_of-radicand
invariant_of-radicand c =
    let self = c.args.self in
    let within = word-within self.bits _ _ self.above_zero self.finite c.exponent-e.ensures c.significand.ensures in
    record { low = within.0; high = within.1 }

root_is : (c : After-rounded) → c.rounded.result ≡ spec.rounded (spec.scaled c.args.self.bits)
root_is c =
    let self = c.args.self in
    c.rounded.ensures
    ∙ ap (λ (n : ℕ). spec.rounded (n * 2 ^ 52)) (word_is self.bits _ _ self.above_zero self.finite c.exponent-e.ensures c.significand.ensures)
    ∙ ap spec.rounded (word-scaled self.bits)

pub overflow_add-result-2 : goal.overflow_add-result-2
overflow_add-result-2 c =
    let self = c.args.self in
    omega (
      arith,
      root_is c,
      c.exponent-e.ensures,
      (normalised self.bits self.above_zero self.finite).last,
      (rounded-within (spec.scaled self.bits) (scaled_bounds self.bits self.above_zero self.finite)).high,
    )

pub returns : goal.returns
returns c = ap₂ (λ (e r : ℕ). (e / 2 + 485) * 2 ^ 52 + r) c.exponent-e.ensures (root_is c) ∙ sym (positive_root_is c.args.self.bits)
