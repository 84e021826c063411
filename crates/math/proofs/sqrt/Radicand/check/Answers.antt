-- `math::sqrt::Radicand::check` meets its contract: if no remainder is too large, the last is the root's, and says how
-- to round.
use Rattle.std.proofs.Common.{◌≡◌, ℕ, ◌+◌, ◌-◌, ◌*◌, ◌/◌, ◌%◌, ◌^◌, ◌<◌, ◌≤◌, arith}
use Rattle.math.proofs.sqrt.SqrtGuess.{stays, rises, product_below, remainder_is}
use Rattle.math.proofs.sqrt.Radicand.check.Goals as goal

-- x - y, modulo 2 ^ 64
abbrev wrapped : ℕ → ℕ → ℕ
wrapped x y = (x + (2 ^ 64 - y)) % 2 ^ 64

goes_back : (x y : ℕ) → x < 2 ^ 64 → y < 2 ^ 64 → (wrapped x y + y) % 2 ^ 64 ≡ x
goes_back x y p q = omega arith

module _ (n h g : ℕ) (low : 2 ^ 52 ≤ n) (high : n < 2 ^ 54) (few : h < 2 ^ 32) (short : g < 2 ^ 29) where
  abbrev first : ℕ
  first = wrapped (n * 2 ^ 10) (h * h)

  -- the second digits
  abbrev last : ℕ
  last = first * g / 2 ^ 39

  abbrev second : ℕ
  second = wrapped (first * 2 ^ 20) (h * last)

  abbrev third : ℕ
  third = wrapped (second * 2 ^ 22) (last * last)

  abbrev digits : ℕ
  digits = h * 2 ^ 21 + last

  square_leaves : first < 2 ^ 35 → second < 2 ^ 36 → third ≤ 3 * digits + 2 → digits * digits + third ≡ n * 2 ^ 52
  square_leaves p q r =
      let below = product_below first g (2 ^ 35) (2 ^ 29) p short in
      let l : last < 2 ^ 25 = omega arith in
      let a = goes_back (n * 2 ^ 10) (h * h) (omega arith) (omega (arith, product_below h h (2 ^ 32) (2 ^ 32) few few)) in
      let b = goes_back (first * 2 ^ 20) (h * last) (omega arith) (omega (arith, product_below h last (2 ^ 32) (2 ^ 25) few l)) in
      let c = goes_back (second * 2 ^ 22) (last * last) (omega arith) (omega (arith, product_below last last (2 ^ 25) (2 ^ 25) l l)) in
      remainder_is n h last first second third few l low a p b q c (omega arith)

pub returns-then-rem-r-2 : goal.returns-then-rem-r-2
returns-then-rem-r-2 c =
    let r = c.args.self in
    let g = c.args.g in
    let leaves = square_leaves r.n g.root g.inverse r.low r.high g.root_digits g.inverse_digits
    c.if-a-ge34359738368.false c.if-b-ge68719476736.false c.if-rem-r.false in
    rises _ _ _ (omega (arith, r.high)) leaves c.if-rem-r-2.true c.if-rem-r.false

pub returns-else-rem-r-2 : goal.returns-else-rem-r-2
returns-else-rem-r-2 c =
    let r = c.args.self in
    let g = c.args.g in
    let leaves = square_leaves r.n g.root g.inverse r.low r.high g.root_digits g.inverse_digits
    c.if-a-ge34359738368.false c.if-b-ge68719476736.false c.if-rem-r.false in
    stays _ _ _ (omega (arith, r.high)) leaves c.if-rem-r-2.false
