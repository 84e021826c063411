-- The flags of a contour, place by place: which of them are corners.
use mathlib.Core.Path.{◌≡◌, refl, ap, ◌∙◌}
use Rattle.std.proofs.Common.{unwrap_or}
use Rattle.std.specs.List.{position, position_from}
use Rattle.std.proofs.lemmas.Iterator.Adapters.{position_from-zero}
use mathlib.Core.Bool.{Bool, true, false}
use mathlib.Core.List.{List, [], ◌∷◌}
use Prim.Native.Nat.{ℕ, suc, ◌+◌, ◌≤◌, ◌<◌}
use native.Mathlib.Omega.{arith}
use native.Mathlib.Numerals.{add-one}
use lib.ListN.{length, drop, get_or, drop_of_length-le}
use lib.Seq.{drop-cons}
use mir.Val.{bool_byte}
use Rattle.coloring.specs.Bools.{split}
use Rattle.coloring.specs.Corners.{corners_from, corners_of, corner_count, first_corner}

-- a flag counts for at most one
pub flag_few : (flag : Bool) → bool_byte flag ≤ 1
flag_few true = omega arith
flag_few false = omega arith

module _ (flags : List Bool) (i : ℕ) where
  pub places_corner : i < length flags → get_or flags i false ≡ true → corners_from i (drop i flags) ≡ i ∷ corners_from (i + 1) (drop (i + 1) flags)
  unfolding corners_from
  places_corner h t = rw (drop-cons flags i false h, t, add-one)

  pub places-none : i < length flags → get_or flags i false ≡ false → corners_from i (drop i flags) ≡ corners_from (i + 1) (drop (i + 1) flags)
  unfolding corners_from
  places-none h t = rw (drop-cons flags i false h, t, add-one)

  pub places_end : length flags ≤ i → corners_from i (drop i flags) ≡ []
  unfolding corners_from
  places_end h = rw (drop_of_length-le flags h)

  -- a flag more, counted
  pub places_counted : i < length flags
      → bool_byte (get_or flags i false) + length (corners_from (i + 1) (drop (i + 1) flags)) ≡ length (corners_from i (drop i flags))
  places_counted h =
      split (get_or flags i false) (λ t. rw (t, places_corner h t) (omega arith)) (λ t. rw (t, places-none h t) (omega arith))

-- as the library finds them
found_from : (i : ℕ) (flags : List Bool) → unwrap_or (position_from (λ flag. flag) i flags) 0 ≡ get_or (corners_from i flags) 0 0
unfolding corners_from
found_from i [] = refl
found_from i (true ∷ flags) = refl
found_from i (false ∷ flags) = rw add-one (found_from (suc i) flags)

pub found : (flags : List Bool) → unwrap_or (position (λ flag. flag) flags) 0 ≡ first_corner flags
unfolding first_corner corners_of
found flags = ap (λ place. unwrap_or place 0) (position_from-zero (λ flag. flag) flags) ∙ found_from 0 flags

-- there are no more corners than edges
places-few : (i : ℕ) (flags : List Bool) → length (corners_from i flags) ≤ length flags
unfolding corners_from
places-few i [] = omega arith
places-few i (true ∷ flags) = omega (arith, places-few (suc i) flags)
places-few i (false ∷ flags) = omega (arith, places-few (suc i) flags)

pub corners-few : (flags : List Bool) → corner_count flags ≤ length flags
unfolding corner_count corners_of
corners-few flags = places-few 0 flags

-- the first is a place of the contour
places-within : (i high : ℕ) (flags : List Bool) → i + length flags ≤ high → 0 < length (corners_from i flags) → get_or (corners_from i flags) 0 0 < high
unfolding corners_from
places-within i high [] f h = absurd (omega arith)
places-within i high (true ∷ flags) f h = omega arith
places-within i high (false ∷ flags) f h = places-within (suc i) high flags (omega arith) h

pub first-within : (flags : List Bool) → 0 < corner_count flags → first_corner flags < length flags
unfolding corner_count first_corner corners_of
first-within flags h = places-within 0 (length flags) flags (omega arith) h
