-- The eight colours by their bits: a test that passes at each of them passes at any; what two colours share is the and
-- of their bits, and the other channels are its exclusive or with 7.
use Prim.Native.Nat.{◌-◌}
use mathlib.Core.Bool.{Bool, ◌&&◌}
use mathlib.Core.Path.{◌≡◌}
use lib.Bits.{bit_and, bit_xor}
use lib.Dec.{T, eqb, eqb→eq}
use lib.Ieee.Fits.{and_l, and_r}
use Rattle.geometry.specs.EdgeColor.{bits_of}
use Rattle.geometry.specs.declared.edge_color.EdgeColor.{EdgeColor}
use Rattle.geometry.specs.declared.edge_color.EdgeColor.TheVariants.{Black, Red, Green, Yellow, Blue, Magenta, Cyan, White}
use Rattle.coloring.specs.Switching.{shared}

abbrev every_color : (EdgeColor → Bool) → Bool
every_color test = test Black && (test Red && (test Green && (test Yellow && (test Blue && (test Magenta && (test Cyan && test White))))))

at-color : (test : EdgeColor → Bool) → T (every_color test) → (c : EdgeColor) → T (test c)
at-color test p c =
    let p1 = and_r (test Black) _ p in
    let p2 = and_r (test Red) _ p1 in
    let p3 = and_r (test Green) _ p2 in
    let p4 = and_r (test Yellow) _ p3 in
    let p5 = and_r (test Blue) _ p4 in
    let p6 = and_r (test Magenta) _ p5 in
    elim c as (λ k. T (test k)) [
      | Black ↦ and_l (test Black) _ p
      | Red ↦ and_l (test Red) _ p1
      | Green ↦ and_l (test Green) _ p2
      | Yellow ↦ and_l (test Yellow) _ p3
      | Blue ↦ and_l (test Blue) _ p4
      | Magenta ↦ and_l (test Magenta) _ p5
      | Cyan ↦ and_l (test Cyan) _ p6
      | White ↦ and_r (test Cyan) _ p6
    ]

abbrev same_shared : EdgeColor → EdgeColor → Bool
unfolding shared
same_shared a b = eqb (bit_and (bits_of a) (bits_of b)) (shared a b)

pub and_shared : (a b : EdgeColor) → bit_and (bits_of a) (bits_of b) ≡ shared a b
unfolding shared
and_shared a b = eqb→eq (bit_and (bits_of a) (bits_of b)) (shared a b) (at-color (same_shared a) (at-color (λ a. every_color (same_shared a)) tt a) b)

abbrev same_unshared : EdgeColor → EdgeColor → Bool
unfolding shared
same_unshared a b = eqb (bit_xor (shared a b) 7) (7 - shared a b)

pub xor_shared : (a b : EdgeColor) → bit_xor (shared a b) 7 ≡ 7 - shared a b
unfolding shared
xor_shared a b = eqb→eq (bit_xor (shared a b) 7) (7 - shared a b) (at-color (same_unshared a) (at-color (λ a. every_color (same_unshared a)) tt a) b)
