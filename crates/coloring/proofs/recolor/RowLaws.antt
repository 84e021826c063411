-- Where the entries of n splines lie: entry (a, b) at a * n + b, and the row of v from v * n on; and the matrix of a
-- sound table.
use mathlib.Core.Path.{◌≡◌}
use mathlib.Core.List.{List}
use Prim.Native.Nat.{ℕ, ◌+◌, ◌-◌, ◌*◌, ◌≤◌, ◌<◌}
use native.Mathlib.Nat.{suc-mul, mul-le-mul, mul-le-mul_right}
use native.Mathlib.Omega.{arith}
use lib.ListN.{length, take, drop, get_or, length-take, length-drop}
use lib.Seq.{get_or-take, get_or-drop}
use lib.Arith.{digits_lt}
use Rattle.coloring.specs.Recolor.{row, Offerable}
use Rattle.coloring.specs.SplineTable.{entry}

pub square_below : {n : ℕ} → n ≤ 64 → n * n ≤ 4096
square_below h = mul-le-mul h h

pub row_inside : (n v : ℕ) → v < n → v * n + n ≤ n * n
row_inside n v h = rw suc-mul at (mul-le-mul_right n h)

-- both entries of a pair that may be offered
pub pair_inside : {coloring edge_matrix : List ℕ} {a b : ℕ} → Offerable coloring edge_matrix a b
    → (a * length coloring + b < length edge_matrix) × (b * length coloring + a < length edge_matrix)
pair_inside o = (rw o.entries (digits_lt o.first o.second), rw o.entries (digits_lt o.second o.first))

pub row-length : (n v : ℕ) (edge_matrix : List ℕ) → length edge_matrix ≡ n * n → v < n → length (row n edge_matrix v) ≡ n
unfolding row
row-length n v edge_matrix e h = simp (length-take, length-drop) (omega (arith, row_inside n v h))

-- the row as the code cuts it out
pub row-part : (n v : ℕ) (edge_matrix : List ℕ) → take (v * n + n - v * n) (drop (v * n) edge_matrix) ≡ row n edge_matrix v
unfolding row
row-part n v edge_matrix =
    let e : v * n + n - v * n ≡ n = omega arith in
    rw e

-- a spline's row holds its entries
pub row-entry : (n : ℕ) (edge_matrix : List ℕ) (v j : ℕ) → j < n → get_or (row n edge_matrix v) j 0 ≡ entry n edge_matrix v j
unfolding row
row-entry n edge_matrix v j h = rw (get_or-take, get_or-drop)

-- a matrix of n × n entries of 0 and 1, the same both ways round, and 0 of a spline with itself
pub record Matrix (n : ℕ) (edge_matrix : List ℕ) : Type 0 where
  pub size : length edge_matrix ≡ n * n
  pub low : (i j : ℕ) → i < n → j < n → entry n edge_matrix i j ≤ 1
  pub symmetric : (i j : ℕ) → i < n → j < n → entry n edge_matrix i j ≡ entry n edge_matrix j i
  pub loopless : (i : ℕ) → i < n → entry n edge_matrix i i ≡ 0
