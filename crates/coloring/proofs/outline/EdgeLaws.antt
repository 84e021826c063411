-- The edges of outline buffers: as many as kinds, each from its own eight places, and those of a part of the buffers.
use mathlib.Core.Path.{◌≡◌, refl, ap}
use mathlib.Core.List.{List, [], ◌∷◌}
use Prim.Native.Nat.{ℕ, zero, suc, ◌+◌, ◌-◌, ◌*◌, ◌≤◌, ◌<◌}
use native.Mathlib.Omega.{arith}
use lib.Ieee.{Float}
use lib.ListN.{length, take, drop, get_or}
use lib.Seq.{drop-drop, take-take}
use Rattle.geometry.specs.declared.edge_segment.EdgeSegment.{EdgeSegment}
use Rattle.coloring.specs.Outline.{edge_stored, edges_of}
use Rattle.coloring.proofs.Lists.{drop-take}

pub edges-length : (kinds : List ℕ) (points : List Float) → length (edges_of kinds points) ≡ length kinds
unfolding edges_of
edges-length [] points = refl
edges-length (k ∷ kinds) points = ap suc (edges-length kinds (drop 8 points))

edges-drop : (i : ℕ) (kinds : List ℕ) (points : List Float) → drop i (edges_of kinds points) ≡ edges_of (drop i kinds) (drop (8 * i) points)
unfolding edges_of
edges-drop zero kinds points = refl
edges-drop (suc i) [] points = refl
edges-drop (suc i) (k ∷ kinds) points =
    let e : 8 + 8 * i ≡ 8 * suc i = omega arith in
    rw (edges-drop i kinds (drop 8 points), drop-drop (8 * i) 8 points, e)

edges-take : (m : ℕ) (kinds : List ℕ) (points : List Float) → take m (edges_of kinds points) ≡ edges_of (take m kinds) (take (8 * m) points)
unfolding edges_of
edges-take zero kinds points = refl
edges-take (suc m) [] points = refl
edges-take (suc m) (k ∷ kinds) points =
    let e : 8 * suc m ≡ 8 + 8 * m = omega arith in
    rw (edges-take m kinds (drop 8 points), e, drop-take 8 (8 * m) points, take-take 8 (8 + 8 * m) points (omega arith))

-- the edges of a contour are those of its parts of the buffers
edges-part : (at m : ℕ) (kinds : List ℕ) (points : List Float)
    → edges_of (take m (drop at kinds)) (take (8 * m) (drop (8 * at) points)) ≡ take m (drop at (edges_of kinds points))
edges-part at m kinds points = rw (edges-drop at kinds points, edges-take m (drop at kinds) (drop (8 * at) points))

pub edges_at : (kinds : List ℕ) (points : List Float) (i : ℕ) (d : EdgeSegment) → i < length kinds
    → get_or (edges_of kinds points) i d ≡ edge_stored (get_or kinds i 0) (take 8 (drop (8 * i) points))
unfolding edges_of
edges_at [] points i d h = absurd (omega arith)
edges_at (k ∷ kinds) points zero d h = refl
edges_at (k ∷ kinds) points (suc i) d h =
    let e : 8 + 8 * i ≡ 8 * suc i = omega arith in
    rw (edges_at kinds (drop 8 points) i d (omega arith), drop-drop (8 * i) 8 points, e)

-- the same for the parts from `at` up to `end`
pub edges-between : (at end : ℕ) (kinds : List ℕ) (points : List Float) → at ≤ end
    → edges_of (take (end - at) (drop at kinds)) (take (8 * end - 8 * at) (drop (8 * at) points)) ≡ take (end - at) (drop at (edges_of kinds points))
edges-between at end kinds points h =
    let m : 8 * end - 8 * at ≡ 8 * (end - at) = omega arith in
    rw m (edges-part at (end - at) kinds points)
