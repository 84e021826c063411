-- `color_numbers` meets its contract: the numbers before the place are replaced.
use mathlib.Core.Path.{◌≡◌}
use mathlib.Core.List.{◌++◌, map}
use Prim.Native.Nat.{ℕ}
use lib.ListN.{take, drop}
use Rattle.geometry.specs.EdgeColor.{bits_of}
use Rattle.coloring.specs.Values.{spline_color}
use Rattle.coloring.proofs.values.color_numbers.Given as goal

-- the byte of a colour by its number
abbrev pub byte : ℕ → ℕ
byte color = bits_of (spline_color color)

abbrev pub invariant-loop-color : goal.invariant-loop-color
invariant-loop-color l = map byte l.initial.colors ≡ take l.color-index l.colors ++ map byte (drop l.color-index l.colors)
