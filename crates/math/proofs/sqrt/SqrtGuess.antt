-- What a root and a remainder say of the rounded root, and the check of a guess: the digits h and l of a root
-- r = h · 2 ^ 21 + l, and what their square leaves at each step.
use Rattle.std.proofs.Common.{◌≡◌, ℕ, ◌+◌, ◌-◌, ◌*◌, ◌%◌, ◌^◌, ◌<◌, ◌≤◌, sym, ◌∙◌, ⊎_elim, mul-le-mul, arith, le-ltb, lt-ltb}
use Rattle.math.specs.Sqrt.{root, rounded}
use Rattle.math.proofs.sqrt.RootFloor.{root_floor, floor_unique, floor_of_remainder}
use Rattle.math.proofs.sqrt.SqrtOpen.{rounded_is}
use Rattle.math.proofs.sqrt.SqrtUnits.{le_or_lt}

-- ---- the remainder

module _ (n r m : ℕ) (low : n < 4 ^ 53) (whole : r * r + m ≡ n) where
  root_is : m ≤ 2 * r → r ≡ root 53 n
  root_is l = floor_unique n _ _ (floor_of_remainder n r m whole l) (root_floor 53 n low)

  -- at most r
  pub stays : m ≤ r → r ≡ rounded n
  stays h = sym (rounded_is n ∙ rw (← root_is (omega arith), le-ltb (r * r + r) n (omega arith)))

  -- above r, and not above that of r
  rises_here : r < m → m ≤ 2 * r → r + 1 ≡ rounded n
  rises_here h l = sym (rounded_is n ∙ rw (← root_is l, lt-ltb (r * r + r) n (omega arith)))

-- above r, up to where that of r + 1 is above r + 1
pub rises : (n r m : ℕ) → n < 4 ^ 53 → r * r + m ≡ n → r < m → m ≤ 3 * r + 2 → r + 1 ≡ rounded n
rises n r m b e h k =
    ⊎_elim (rises_here n r m b e h) (λ (l : 2 * r < m). stays n (r + 1) (m - (2 * r + 1)) b (omega arith) (omega arith)) (le_or_lt m (2 * r))

-- ---- the check

-- a product of numbers of few digits
pub product_below : (a b p q : ℕ) → a < p → b < q → a * b < p * q
product_below a b p q h k = omega (arith, mul-le-mul h k)

pub remainder_is : (n h l a b m : ℕ) → h < 2 ^ 32 → l < 2 ^ 25 → 2 ^ 52 ≤ n
    → (a + h * h) % 2 ^ 64 ≡ n * 2 ^ 10 → a < 2 ^ 35
    → (b + h * l) % 2 ^ 64 ≡ a * 2 ^ 20 → b < 2 ^ 36
    → (m + l * l) % 2 ^ 64 ≡ b * 2 ^ 22 → m < 2 ^ 57
    → (h * 2 ^ 21 + l) * (h * 2 ^ 21 + l) + m ≡ n * 2 ^ 52
remainder_is n h l a b m s t p e i f j g k =
    let square = product_below h h (2 ^ 32) (2 ^ 32) s s in
    let cross = product_below h l (2 ^ 32) (2 ^ 25) s t in
    let last = product_below l l (2 ^ 25) (2 ^ 25) t t in
    let first : h * h + a ≡ n * 2 ^ 10 = omega arith in
    let second : h * l + b ≡ a * 2 ^ 20 = omega arith in
    let third : l * l + m ≡ b * 2 ^ 22 = omega arith in
    omega (arith, first, second, third)
