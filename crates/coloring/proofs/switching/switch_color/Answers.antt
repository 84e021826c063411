-- `switch_color`: of the eight colours and the two draws, the bits turn as the definition says.
use Prim.Native.Nat.{ℕ, zero, suc, ◌+◌, ◌*◌, ◌/◌, ◌%◌, ◌^◌, ◌<◌}
use mathlib.Core.Path.{◌≡◌, refl, ap}
use native.Mathlib.Omega.{arith}
use lib.Bits.{bit_and, bit_or}
use Rattle.geometry.specs.EdgeColor.{bits_of, from_bits}
use Rattle.geometry.specs.declared.edge_color.EdgeColor.{EdgeColor}
use Rattle.geometry.specs.declared.edge_color.EdgeColor.TheVariants.{Black, Red, Green, Yellow, Blue, Magenta, Cyan, White}
use Rattle.coloring.specs.declared.seed.Draw.{Draw}
use Rattle.coloring.specs.Seed.{seed_extract2}
use Rattle.coloring.specs.declared.switching.Pen.{Pen}
use Rattle.coloring.specs.Switching.{switch_color, turn_left}
use Rattle.coloring.proofs.switching.switch_color.Goals as goal

-- the source's turn, in the eight bits of a byte
abbrev turned : ℕ → ℕ → ℕ
turned bits k =
    let shifted = (bits * 2 ^ k) % 2 ^ 8 in
    bit_and (bit_or shifted (shifted / 2 ^ 3)) 7

turns : (color : EdgeColor) (value : ℕ) → value < 2 → from_bits (turned (bits_of color) (1 + value)) ≡ turn_left (1 + value) color
unfolding turn_left
turns color zero h = elim color as (λ k. from_bits (turned (bits_of k) (1 + 0)) ≡ turn_left (1 + 0) k)
    [ Black ↦ refl | Red ↦ refl | Green ↦ refl | Yellow ↦ refl | Blue ↦ refl | Magenta ↦ refl | Cyan ↦ refl | White ↦ refl ]
turns color (suc zero) h =
    elim color as (λ k. from_bits (turned (bits_of k) (1 + 1)) ≡ turn_left (1 + 1) k)
    [ Black ↦ refl | Red ↦ refl | Green ↦ refl | Yellow ↦ refl | Blue ↦ refl | Magenta ↦ refl | Cyan ↦ refl | White ↦ refl ]
turns color (suc (suc value)) h = absurd (omega arith)

switches : (pen : Pen) (draw : Draw) (bits : ℕ) (color : EdgeColor)
    → draw ≡ seed_extract2 pen.seed → bits ≡ bits_of pen.color → color ≡ from_bits (turned bits (1 + draw.value))
    → record { color = color; seed = draw.seed } ≡ switch_color pen
unfolding switch_color
switches pen draw bits color d b e =
    rw (e, b, d) (ap (λ (c : EdgeColor). record { color = c; seed = pen.seed / 2 }) (turns pen.color (pen.seed % 2) (omega arith)))

pub returns : goal.returns
returns c =
    switches c.args.pen c.seed_extract-draw.result c.bits.result
    c.from_bits.result c.seed_extract-draw.ensures c.bits.ensures c.from_bits.ensures
