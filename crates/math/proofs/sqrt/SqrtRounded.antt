-- The rounding: the rounded root of a scaled number is less than a half away from the true one, and has its leading
-- digit at place 52.
use Rattle.std.proofs.Common.{◌≡◌, ℕ, ◌+◌, ◌-◌, ◌*◌, ◌^◌, ◌<◌, ◌≤◌, Bool, true, false, cond, ltb, refl, mul-le-mul, lt_of_not-le, arith, ltb-false, ltb-true}
use Rattle.math.specs.Sqrt.{root, rounded}
use Rattle.math.proofs.sqrt.SqrtOpen.{rounded_is}
use Rattle.math.proofs.sqrt.RootFloor.{Floor, root_floor, floor_low, floor_high}
use Rattle.math.proofs.sqrt.SqrtScale.{Scaled}

pub record Within (n s : ℕ) : Type 0 where
  pub low : 2 ^ 52 ≤ s
  pub high : s < 2 ^ 53
  -- (s − 1/2)² < n < (s + 1/2)², between whole numbers
  pub above : s * s < n + s
  pub below : n ≤ s * s + s

root-low : (n r : ℕ) → Scaled n → Floor n r → 2 ^ 52 ≤ r
root-low n r b f = floor_low n r (2 ^ 52) f b.low

root_high : (n r : ℕ) → Scaled n → Floor n r → r < 2 ^ 53
root_high n r b f = floor_high n r (2 ^ 53) f (omega (arith, b.high))

-- the largest root has no remainder that rounds up
next_low : (n r : ℕ) → Scaled n → r * r + r < n → r + 1 < 2 ^ 53
next_low n r b h = lt_of_not-le no
  where
    no : 2 ^ 53 ≤ r + 1 → ⊥
    no g =
        let l : 2 ^ 53 - 1 ≤ r = omega arith in
        omega (arith, mul-le-mul l l, b.high)

up : (n r : ℕ) → Scaled n → Floor n r → r * r + r < n → Within n (r + 1)
up n r b f h = record { low = omega (arith, root-low n r b f); high = next_low n r b h; above = omega arith; below = omega (arith, f.high) }

down : (n r : ℕ) → Scaled n → Floor n r → n ≤ r * r + r → Within n r
down n r b f h = record { low = root-low n r b f; high = root_high n r b f; above = omega (arith, root-low n r b f, f.low); below = h }

pick : (n r : ℕ) → Scaled n → Floor n r → (t : Bool) → ltb (r * r + r) n ≡ t → Within n (cond t (r + 1) r)
pick n r b f true e = up n r b f (ltb-true _ _ e)
pick n r b f false e = down n r b f (ltb-false _ _ e)

pub rounded-within : (n : ℕ) → Scaled n → Within n (rounded n)
rounded-within n b = rw (rounded_is n) (pick n (root 53 n) b (root_floor 53 n (omega (arith, b.high))) (ltb (root 53 n * root 53 n + root 53 n) n) refl)
