-- The floor root: `root k n` is the one r with r · r ≤ n < (r + 1) · (r + 1), for every n below 4 ^ k.
use Rattle.std.proofs.Common.{◌≡◌, ℕ, zero, suc, ◌+◌, ◌*◌, ◌/◌, ◌^◌, ◌<◌, ◌≤◌, Bool, true, false, cond, leb, refl, le_of_suc-le-suc, mul-le-mul, le_antisymm}
use Rattle.std.proofs.Common.{pow-suc, lt_of_not-le, arith, leb-false, leb-true}
use Rattle.math.specs.Sqrt.{root}

pub record Floor (n r : ℕ) : Type 0 where
  pub low : r * r ≤ n
  pub high : n < (r + 1) * (r + 1)

digit-one : (n r : ℕ) → Floor (n / 4) r → (2 * r + 1) * (2 * r + 1) ≤ n → Floor n (2 * r + 1)
digit-one n r f h = record { low = h; high = omega arith }

digit-zero : (n r : ℕ) → Floor (n / 4) r → n < (2 * r + 1) * (2 * r + 1) → Floor n (2 * r)
digit-zero n r f h = record { low = omega arith; high = h }

next-digit : (n r : ℕ) → Floor (n / 4) r → (t : Bool) → leb ((2 * r + 1) * (2 * r + 1)) n ≡ t → Floor n (cond t (2 * r + 1) (2 * r))
next-digit n r f true e = digit-one n r f (leb-true _ _ e)
next-digit n r f false e = digit-zero n r f (leb-false _ _ e)

quarter : (n p : ℕ) → n < p * 4 → n / 4 < p
quarter n p h = omega arith

pub root_floor : (k n : ℕ) → n < 4 ^ k → Floor n (root k n)
unfolding root
root_floor zero n h = record { low = omega arith; high = omega arith }
root_floor (suc k) n h =
    next-digit n (root k (n / 4)) (root_floor k (n / 4) (quarter n (4 ^ k) (rw pow-suc at h)))
    (leb ((2 * root k (n / 4) + 1) * (2 * root k (n / 4) + 1)) n) refl

-- no whole number between the floor root and the true one
pub floor_low : (n r a : ℕ) → Floor n r → a * a ≤ n → a ≤ r
floor_low n r a f l = le_of_suc-le-suc (lt_of_not-le too_large)
  where
    too_large : suc r ≤ a → ⊥
    too_large h = omega (arith, mul-le-mul h h, f.high)

pub floor_high : (n r a : ℕ) → Floor n r → n < a * a → r < a
floor_high n r a f l = lt_of_not-le too_small
  where
    too_small : a ≤ r → ⊥
    too_small h = omega (arith, mul-le-mul h h, f.low)

pub floor_unique : (n r s : ℕ) → Floor n r → Floor n s → r ≡ s
floor_unique n r s f g = le_antisymm (floor_low n s r g f.low) (floor_low n r s f g.low)

-- a root with a remainder of at most twice the root is the floor root
pub floor_of_remainder : (n r m : ℕ) → r * r + m ≡ n → m ≤ 2 * r → Floor n r
floor_of_remainder n r m e l = record { low = omega arith; high = omega arith }
