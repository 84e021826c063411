-- The colours of splines: how many simple colouring gives, and how they are stored as bytes one after the other.
use mathlib.Core.Path.{◌≡◌, refl, ap, sym, ◌∙◌}
use mathlib.Core.List.{List, [], ◌∷◌, map}
use Prim.Native.Nat.{ℕ, zero, suc, ◌+◌, ◌<◌}
use native.Mathlib.Omega.{arith}
use lib.ListN.{length, set, length-set, length-map}
use Rattle.geometry.specs.EdgeColor.{bits_of}
use Rattle.geometry.specs.declared.edge_color.EdgeColor.{EdgeColor}
use Rattle.coloring.specs.Lists.{over_from}
use Rattle.coloring.proofs.Writing.{over-all, over-next, over_nothing}
use Rattle.coloring.specs.declared.switching.Pen.{Pen}
use Rattle.coloring.specs.Switching.{SplineColors, ColorsHeld, switch_color_banned, banned_before}
use Rattle.coloring.specs.Simple.{simple_from}

pub simple_length : (initial : EdgeColor) (k : ℕ) (pen : Pen) → length (simple_from initial k pen).colors ≡ k
unfolding simple_from
simple_length initial zero pen = refl
simple_length initial (suc k) pen = ap suc (simple_length initial k (switch_color_banned (banned_before initial k) pen))

-- The bytes will be the colours `all`: i of n are there already, and `rest` is still to be drawn.
pub record Drawing (all : SplineColors) (n i : ℕ) (bytes : List ℕ) (rest : SplineColors) : Type 0 where
  pub long : length bytes ≡ n
  pub colors_so_far : map bits_of all.colors ≡ over_from i (map bits_of rest.colors) bytes
  pub pen_so_far : all.pen ≡ rest.pen

pub drawing_starts : (all : SplineColors) (bytes : List ℕ) → length all.colors ≡ length bytes → Drawing all (length bytes) 0 bytes all
drawing_starts all bytes l =
    record { long = refl; colors_so_far = sym (over-all (map bits_of all.colors) bytes (sym l ∙ sym (length-map all.colors bits_of))); pen_so_far = refl }

module _ {all : SplineColors} {n i : ℕ} {bytes : List ℕ} where
  pub drawing_next : (color : EdgeColor) (rest : List EdgeColor) (pen : Pen) → i < n → Drawing all n i bytes (record { colors = color ∷ rest; pen = pen })
      → Drawing all n (i + 1) (set bytes i (bits_of color)) (record { colors = rest; pen = pen })
  drawing_next color rest pen h d =
      record {
        long = length-set bytes i (bits_of color) ∙ d.long;
        colors_so_far = d.colors_so_far ∙ over-next i (bits_of color) (map bits_of rest) bytes (omega (arith, d.long));
        pen_so_far = d.pen_so_far;
      }

  pub drawing_ends : (pen : Pen) → Drawing all n i bytes (record { colors = []; pen = pen }) → ColorsHeld all bytes pen
  drawing_ends pen d = record { colors_are = sym (d.colors_so_far ∙ over_nothing i bytes); pen_is = sym d.pen_so_far }
