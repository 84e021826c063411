-- The square root on values: `sqrt_of` of a pattern's float is the float of the pattern's root (`sqrt_of_bits`), so
-- that what SqrtNearest says of patterns holds of floats: `sqrt_nearest_value` for every float that is finite and above
-- zero, `sqrt_special_value` for every other.
use Rattle.std.proofs.Common.{◌≡◌, ℕ, zero, suc, ◌+◌, ◌*◌, ◌/◌, ◌%◌, ◌^◌, ◌<◌, ◌≤◌, Bool, true, false, cond, not, T, eqb, leb, pos, sym, refl, ap, ◌∙◌, subst}
use Rattle.std.proofs.Common.{mul-le-mul_right, lt_of_mul-lt-mul_right, mul-lt-mul_of_pos_right, mul-pos, lt_of_not-le, not-le_of_lt, arith, ltb→lt, pow_pos}
use Rattle.std.proofs.Common.{ltb-true, leb-false}
use native.Mathlib.Nat.{eq_of_mul-eq-mul_right}
use lib.Ieee.{Float, nan, inf, fin, binary64, up, down, lt, fits, is_nan, odd, of_fields, of_bits, to_bits}
use lib.Ieee.Bits.{of_bits-to_bits, of_bits-fits, to_bits-lt, to_bits-of_bits, nan_bits_is, nan_bits_above}
use lib.Ieee.Exact.{HasValue}
use lib.Ieee.Order.{transfer}
use lib.Ieee.Positive.{num, den, positive, den_pos, positive_of_value, value→cross, value_pos}
use borrow.Author.Tests.{eqb-false}
use Rattle.math.specs.Nan.{only_nan, nan_read}
use Rattle.math.specs.Scalar.{f0}
use Rattle.math.specs.Sqrt.{infinity_pattern, sqrt_bits, sqrt_of}
use Rattle.math.specs.SqrtExamples.{sqrt_examples}
use Rattle.math.proofs.sqrt.SqrtNearest.{Nearest, sqrt_nearest}
use Rattle.math.proofs.sqrt.SqrtOpen.{sqrt_of_is, sqrt_bits_above}
use Rattle.math.proofs.sqrt.SqrtUnits.{units, units-low, units_mono, units_strict, units_value}

-- ---- the claims

-- finite and without a sign: +0 and what is above it
abbrev pub unsigned : Float → Bool
unsigned nan = false
unsigned (inf s) = false
unsigned (fin s m e) = not s

-- The midpoint between y and z is (y + z) / 2. Its square and x, each float as the fraction num / den, are these two
-- numbers over one denominator.
abbrev pub midpoint² : Float → Float → Float → ℕ
midpoint² x y z = let s = num y * den z + num z * den y in s * s * den x

abbrev pub radicand : Float → Float → Float → ℕ
radicand x y z = let d = den y * den z in 4 * num x * (d * d)

-- y is the double nearest to the square root of x: it is finite and above zero, and of every other double z from +0 up
-- the true root lies strictly on y's side of the midpoint between the two. (A negative z is further away than +0.)
-- Where x is the square of a double, that double is y.
pub record NearestRoot (x y : Float) : Type 0 where
  pub held : T (fits binary64 y)
  pub finite : T (positive y)
  pub above : (z : Float) → T (fits binary64 z) → T (unsigned z) → T (lt y z) → radicand x y z < midpoint² x y z
  pub below : (z : Float) → T (fits binary64 z) → T (unsigned z) → T (lt z y) → midpoint² x y z < radicand x y z
  pub exact : (z : Float) → T (fits binary64 z) → T (unsigned z) → num z * num z * den x ≡ num x * (den z * den z) → z ≡ y

pub record SpecialRoots : Type 0 where
  pub zero_stays : (s : Bool) → sqrt_of (fin s 0 (pos 0)) ≡ fin s 0 (pos 0)
  pub infinity_stays : sqrt_of (inf false) ≡ inf false
  pub of_nan : sqrt_of nan ≡ nan
  pub of_negative : (x : Float) → T (fits binary64 x) → T (lt x f0) → sqrt_of x ≡ nan

-- ---- every pattern of 64 digits

pub sqrt_of_bits : (b : ℕ) → b < 2 ^ 64 → sqrt_of (of_bits binary64 b) ≡ of_bits binary64 (sqrt_bits b)
sqrt_of_bits b h = go (is_nan (of_bits binary64 b)) refl
  where
    go : (t : Bool) → is_nan (of_bits binary64 b) ≡ t → sqrt_of (of_bits binary64 b) ≡ of_bits binary64 (sqrt_bits b)
    go false e = sqrt_of_is _ ∙ ap (λ (n : ℕ). of_bits binary64 (sqrt_bits n)) (to_bits-of_bits binary64 b h (rw e tt))
    go true e =
        let above : infinity_pattern < b % 2 ^ 63 = ltb-true _ _ (sym (nan_bits_above binary64 b) ∙ nan_bits_is binary64 b ∙ e) in
        ap sqrt_of (only_nan _ e) ∙ sqrt_examples.value_nan ∙ sym (ap (of_bits binary64) (sqrt_bits_above b (omega arith) (omega arith)) ∙ nan_read)

-- ---- an unsigned float has a pattern below infinity's

odd_sign_clear : (s : Bool) (q k l : ℕ) → T (unsigned (odd 53 s q k l)) → T (not s)
unfolding odd
odd_sign_clear s zero k l u = u
odd_sign_clear s (suc q) k l u = u

unsigned_of : (v : Float) (a c : ℕ) → HasValue v false a c → T (unsigned v)
unsigned_of nan a c h = absurd h
unsigned_of (inf s) a c h = absurd h
unsigned_of (fin s m e) a c h = subst (λ (b : Bool). T (not b)) (sym h.0) tt

infinite : (s : Bool) (b : Bool) → T (unsigned (cond b (inf s) nan)) → ⊥
infinite s true t = t
infinite s false t = t

fields_unsigned : (s : Bool) (x t : ℕ) → T (unsigned (of_fields binary64 s x t)) → T (not s) × (x ≡ 2047 → ⊥)
unfolding of_fields
fields_unsigned s zero t u = (odd_sign_clear s t 0 1074 u, λ e. omega arith)
fields_unsigned s (suc x) t u = go (eqb (suc x) 2047) refl
  where
    go : (b : Bool) → eqb (suc x) 2047 ≡ b → T (not s) × (suc x ≡ 2047 → ⊥)
    go true e = absurd (infinite s (eqb t 0) (rw e at u))
    go false e = (odd_sign_clear s (2 ^ 52 + t) x 1074 (rw e at u), eqb-false (suc x) 2047 e)

low_bits : (b : ℕ) → b < 2 ^ 64 → T (unsigned (of_bits binary64 b)) → b < infinity_pattern
unfolding of_bits
low_bits b h u = go (leb (2 ^ 63) b) refl
  where
    fields : T (not (leb (2 ^ 63) b)) × (b % 2 ^ 63 / 2 ^ 52 ≡ 2047 → ⊥)
    fields = fields_unsigned (leb (2 ^ 63) b) (b % 2 ^ 63 / 2 ^ 52) (b % 2 ^ 52) u

    go : (t : Bool) → leb (2 ^ 63) b ≡ t → b < infinity_pattern
    go true e = absurd (rw e at fields.0)
    go false e = lt_of_not-le (λ (l : infinity_pattern ≤ b). fields.1 (omega (arith, leb-false (2 ^ 63) b e)))

-- z is the float of a pattern, and so many units of 2 ^ −1074
record InUnits (z : Float) (b : ℕ) : Type 0 where
  pub read : of_bits binary64 b ≡ z
  pub value : HasValue z false (units b) (2 ^ 1074)
  pub scaled : num z * 2 ^ 1074 ≡ units b * den z

of_pattern : (z : Float) (b : ℕ) → of_bits binary64 b ≡ z → b < infinity_pattern → InUnits z b
of_pattern z b e l =
    let v : HasValue z false (units b) (2 ^ 1074) = subst (λ (w : Float). HasValue w false (units b) (2 ^ 1074)) e (units_value b l) in
    record { read = e; value = v; scaled = value→cross z (units b) (2 ^ 1074) v }

module _ (z : Float) (f : T (fits binary64 z)) (u : T (unsigned z)) where
  low : to_bits binary64 z < infinity_pattern
  low = low_bits (to_bits binary64 z) (to_bits-lt binary64 z f) (rw (of_bits-to_bits binary64 z f) u)

  in_units : InUnits z (to_bits binary64 z)
  in_units = of_pattern z (to_bits binary64 z) (of_bits-to_bits binary64 z f) low

lt→cross : (y z : Float) → T (unsigned y) → T (unsigned z) → T (lt y z) → num y * den z < num z * den y
unfolding lt
lt→cross nan z u v h = absurd u
lt→cross (inf s) z u v h = absurd u
lt→cross (fin true m e) z u v h = absurd u
lt→cross (fin false m e) nan u v h = absurd v
lt→cross (fin false m e) (inf t) u v h = absurd v
lt→cross (fin false m e) (fin true n d) u v h = absurd v
lt→cross (fin false m e) (fin false n d) u v h = ltb→lt _ _ h

-- the order of floats is that of their patterns
bits_lt : (y z : Float) (b c : ℕ) → InUnits y b → InUnits z c → num y * den z < num z * den y → b < c
bits_lt y z b c p q h = lt_of_not-le (λ l. not-le_of_lt h (same_order l))
  where
    same_order : c ≤ b → num z * den y ≤ num y * den z
    same_order l =
        transfer (num z) (num y) (den z) (den y) (units c) (units b) (2 ^ 1074) (2 ^ 1074) (pow_pos 1074) (pow_pos 1074)
        q.scaled p.scaled (mul-le-mul_right (2 ^ 1074) (units_mono c b l))

-- ---- from units to fractions: x is a / D, and y + z is m / D

module _ (D a m n e s d : ℕ) (x-is : n * D ≡ a * e) (sum_is : s * D ≡ m * d) (p : 0 < e * (d * d)) where
  radicand_is : 4 * n * (d * d) * (D * D) ≡ 4 * (a * D) * (e * (d * d))
  radicand_is = omega (arith, ap (λ (k : ℕ). k * (D * (d * d))) x-is)

  midpoint_is : s * s * e * (D * D) ≡ m * m * (e * (d * d))
  midpoint_is = omega (arith, ap (λ (k : ℕ). k * k * e) sum_is)

  scaled_above : 4 * (a * D) < m * m → 4 * n * (d * d) < s * s * e
  scaled_above h = lt_of_mul-lt-mul_right (D * D) (rw (radicand_is, midpoint_is) (mul-lt-mul_of_pos_right h p))

  scaled-below : m * m < 4 * (a * D) → s * s * e < 4 * n * (d * d)
  scaled-below h = lt_of_mul-lt-mul_right (D * D) (rw (radicand_is, midpoint_is) (mul-lt-mul_of_pos_right h p))

exact_units : (D a c n e m d : ℕ) → n * D ≡ a * e → m * D ≡ c * d → 0 < e * (d * d) → m * m * e ≡ n * (d * d) → c * c ≡ a * D
exact_units D a c n e m d x-is z-is p h =
    eq_of_mul-eq-mul_right (e * (d * d)) p (c * c) (a * D)
    (omega (arith, ap (λ (k : ℕ). k * k * e) z-is, ap (λ (k : ℕ). k * (D * (d * d))) x-is, ap (λ (k : ℕ). k * (D * D)) h))

sum-units : (D b c ny dy nz dz : ℕ) → ny * D ≡ b * dy → nz * D ≡ c * dz → (ny * dz + nz * dy) * D ≡ (b + c) * (dy * dz)
sum-units D b c ny dy nz dz p q = omega (arith, ap (λ (k : ℕ). k * dz) p, ap (λ (k : ℕ). k * dy) q)

-- ---- a float that is finite and above zero

positive_unsigned : (v : Float) → T (positive v) → T (unsigned v)
positive_unsigned nan t = t
positive_unsigned (inf s) t = t
positive_unsigned (fin true m e) t = t
positive_unsigned (fin false m e) t = tt

module _ (x : Float) (f : T (fits binary64 x)) (p : T (positive x)) where
  abbrev b : ℕ
  b = to_bits binary64 x

  abbrev y : Float
  y = sqrt_of x

  x_in : InUnits x b
  x_in = in_units x f (positive_unsigned x p)

  nearest : Nearest b (sqrt_bits b)
  nearest = sqrt_nearest b above_zero (low x f (positive_unsigned x p))
    where
      above_zero : 0 < b
      above_zero =
          let v = value_pos x (units b) (2 ^ 1074) p (pow_pos 1074) x_in.value in
          lt_of_not-le (λ (l : b ≤ 0). omega (arith, units_mono b 0 l, units-low 0 (omega arith)))

  y_in : InUnits y (sqrt_bits b)
  y_in = of_pattern y (sqrt_bits b) (sym (sqrt_of_is x)) nearest.finite

  y-unsigned : T (unsigned y)
  y-unsigned = unsigned_of y (units (sqrt_bits b)) (2 ^ 1074) y_in.value

  module _ (z : Float) (g : T (fits binary64 z)) (u : T (unsigned z)) where
    abbrev c : ℕ
    c = to_bits binary64 z

    z_in : InUnits z c
    z_in = in_units z g u

    sum_is : (num y * den z + num z * den y) * 2 ^ 1074 ≡ (units (sqrt_bits b) + units c) * (den y * den z)
    sum_is = sum-units (2 ^ 1074) (units (sqrt_bits b)) (units c) (num y) (den y) (num z) (den z) y_in.scaled z_in.scaled

    over_zero : 0 < den x * (den y * den z * (den y * den z))
    over_zero = mul-pos (den_pos x) (mul-pos (mul-pos (den_pos y) (den_pos z)) (mul-pos (den_pos y) (den_pos z)))

    root_above : T (lt y z) → radicand x y z < midpoint² x y z
    root_above h =
        scaled_above (2 ^ 1074) (units b) (units (sqrt_bits b) + units c) (num x) (den x) (num y * den z + num z * den y) (den y * den z)
        x_in.scaled sum_is over_zero (nearest.above c (bits_lt y z (sqrt_bits b) c y_in z_in (lt→cross y z y-unsigned u h)))

    root_below : T (lt z y) → midpoint² x y z < radicand x y z
    root_below h =
        scaled-below (2 ^ 1074) (units b) (units (sqrt_bits b) + units c) (num x) (den x) (num y * den z + num z * den y) (den y * den z)
        x_in.scaled sum_is over_zero (nearest.below c (bits_lt z y c (sqrt_bits b) z_in y_in (lt→cross z y u y-unsigned h)))

    root_exact : num z * num z * den x ≡ num x * (den z * den z) → z ≡ y
    root_exact h =
        let q = mul-pos (den_pos x) (mul-pos (den_pos z) (den_pos z)) in
        let e = exact_units (2 ^ 1074) (units b) (units c) (num x) (den x) (num z) (den z) x_in.scaled z_in.scaled q h in
        sym z_in.read ∙ ap (of_bits binary64) (nearest.exact c e) ∙ y_in.read

  pub sqrt_nearest_value : NearestRoot x (sqrt_of x)
  sqrt_nearest_value = record {
    held = rw (sqrt_of_is x) (of_bits-fits binary64 (sqrt_bits b));
    finite = positive_of_value y (units (sqrt_bits b)) (2 ^ 1074) y_in.value (omega (arith, units_strict 0 (sqrt_bits b) (omega (arith, nearest.normal))));
    above = root_above;
    below = root_below;
    exact = root_exact;
  }

-- ---- every other float

zeros : (s : Bool) → sqrt_of (fin s 0 (pos 0)) ≡ fin s 0 (pos 0)
unfolding sqrt_of
zeros true = refl
zeros false = refl

infinity : sqrt_of (inf false) ≡ inf false
unfolding sqrt_of
infinity = refl

negative_bits : (x : Float) → T (lt x f0) → 2 ^ 63 ≤ to_bits binary64 x
unfolding lt to_bits of_bits
negative_bits nan h = absurd h
negative_bits (inf true) h = omega arith
negative_bits (inf false) h = absurd h
negative_bits (fin true m e) h = omega arith
negative_bits (fin false m e) h = absurd (omega (arith, ltb→lt (m * up e * 1) (0 * 1 * down e) h))

not_zero : (x : Float) → T (fits binary64 x) → T (lt x f0) → to_bits binary64 x ≡ 2 ^ 63 → ⊥
unfolding lt of_bits
not_zero x f h e = subst (λ (v : Float). T (lt v f0)) (sym (of_bits-to_bits binary64 x f) ∙ ap (of_bits binary64) e) h

negative : (x : Float) → T (fits binary64 x) → T (lt x f0) → sqrt_of x ≡ nan
negative x f h =
    let low = negative_bits x h in
    let high = to_bits-lt binary64 x f in
    let other : to_bits binary64 x % 2 ^ 63 ≡ 0 → ⊥ = λ e. not_zero x f h (omega arith) in
    sqrt_of_is x ∙ ap (of_bits binary64) (sqrt_bits_above (to_bits binary64 x) (omega arith) other) ∙ nan_read

pub sqrt_special_value : SpecialRoots
sqrt_special_value = record { zero_stays = zeros; infinity_stays = infinity; of_nan = sqrt_examples.value_nan; of_negative = negative }
