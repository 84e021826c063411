-- The search for corners along the directions of a contour, place by place.
use mathlib.Core.Path.{◌≡◌, refl, ap, ◌∙◌}
use mathlib.Core.List.{List, [], ◌∷◌}
use Prim.Native.Nat.{ℕ, zero, suc, ◌+◌, ◌-◌, ◌*◌, ◌≤◌, ◌<◌}
use native.Mathlib.Omega.{arith}
use lib.Ieee.{Float}
use lib.ListN.{drop, drop_of_length-le}
use lib.Seq.{drop-drop}
use Rattle.math.specs.declared.vector2.Vector2.{Vector2}
use Rattle.coloring.specs.declared.directions.Ends.{Ends}
use Rattle.coloring.specs.Lists.{last_of}
use Rattle.coloring.specs.Corners.{is_corner, flags_after, flags_between}
use Rattle.coloring.specs.Directions.{ends_at, decode_ends}
use Rattle.coloring.proofs.directions.DirectionLaws.{decode-length, decode-next}

last-decoded : (n : ℕ) (places : List Float) → last_of (ends_at places) (decode_ends n (drop 4 places)) ≡ ends_at (drop (4 * n) places)
unfolding last_of decode_ends
last-decoded zero places = refl
last-decoded (suc n) places =
    let next : 4 + 4 * n ≡ 4 * suc n = omega arith in
    last-decoded n (drop 4 places) ∙ ap ends_at (drop-drop (4 * n) 4 places ∙ ap (λ k. drop k places) next)

module _ (threshold : Float) where
  pub flags-start : (n : ℕ) (places : List Float) → 0 < n
      → flags_between threshold (decode_ends n places)
      ≡ flags_after threshold (ends_at (drop (4 * (n - 1)) places)).end (decode_ends n places)
  unfolding flags_between decode_ends
  flags-start zero places h = absurd (omega arith)
  flags-start (suc n) places h =
      let last : n ≡ suc n - 1 = omega arith in
      ap (λ (d : Ends). flags_after threshold d.end (decode_ends (suc n) places))
      (last-decoded n places ∙ ap (λ k. ends_at (drop (4 * k) places)) last)

module _ (threshold : Float) (n : ℕ) (places : List Float) (prev : Vector2) (i : ℕ) where
  abbrev found : List Ends
  found = decode_ends n places

  abbrev here : Ends
  here = ends_at (drop (4 * i) places)

  pub flags-next : i < n
      → flags_after threshold prev (drop i found) ≡ is_corner prev here.start threshold ∷ flags_after threshold here.end (drop (i + 1) found)
  unfolding flags_after
  flags-next h = rw (decode-next n places i h)

  pub flags_end : n ≤ i → flags_after threshold prev (drop i found) ≡ []
  unfolding flags_after
  flags_end h = rw (drop_of_length-le found {i = i} (omega (arith, decode-length n places)))
