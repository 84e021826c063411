-- A job as it is stored: what one record more adds, and that the buffers follow it.
use mathlib.Core.Path.{◌≡◌, refl, sym, ap, ◌∙◌}
use mathlib.Core.List.{List, [], ◌∷◌, ◌++◌, map, map-append, append-nil, append_assoc, flatten}
use Prim.Native.Nat.{ℕ, suc, ◌+◌, ◌-◌, ◌<◌, ◌≤◌}
use native.Mathlib.Omega.{arith}
use lib.ListN.{length, get_or, set, length-append, length-map}
use Rattle.geometry.specs.declared.edge_segment.EdgeSegment.{EdgeSegment}
use Rattle.geometry.specs.declared.edge_segment.EdgeSegment.TheVariants as segment
use Rattle.geometry.specs.EdgeSegment.{to_stored}
use Rattle.coloring.specs.Sizes.{sizes}
use Rattle.job.specs.Records.{kind_number, kind_of}
use Rattle.job.specs.Job.{with_edge}
use Rattle.job.specs.Progress.{edge_count}
use Rattle.job.specs.Buffers.{kinds_stored, points_stored}

-- ---- lists

-- a list more, joined with the others
pub concat_snoc : {A : Type 0} (xss : List (List A)) (xs : List A) → flatten (xss ++ (xs ∷ [])) ≡ flatten xss ++ xs
unfolding flatten
concat_snoc [] xs = append-nil xs
concat_snoc (ys ∷ xss) xs = ap (λ r. ys ++ r) (concat_snoc xss xs) ∙ sym (append_assoc ys (flatten xss) xs)

-- ---- an edge more

pub lengths-edge : (contours : List (List EdgeSegment)) (e : EdgeSegment) → 0 < length contours
    → sizes (with_edge contours e) ≡ set (sizes contours) (length contours - 1) (get_or (sizes contours) (length contours - 1) 0 + 1)
unfolding with_edge
lengths-edge [] e h = absurd (omega arith)
lengths-edge (c ∷ []) e h = ap (λ (n : ℕ). n ∷ []) (length-append c (e ∷ []))
lengths-edge (c ∷ d ∷ contours) e h =
    let one : suc (suc (length contours)) - 1 ≡ suc (suc (length contours) - 1) = omega arith in
    rw one (ap (λ (r : List ℕ). length c ∷ r) (lengths-edge (d ∷ contours) e (omega arith)))

-- the last contour is no longer than all of them
pub last-few : (contours : List (List EdgeSegment)) → 0 < length contours → get_or (sizes contours) (length contours - 1) 0 ≤ edge_count contours
unfolding flatten
last-few [] h = absurd (omega arith)
last-few (c ∷ []) h = omega (arith, length-append c [])
last-few (c ∷ d ∷ contours) h =
    let one : suc (suc (length contours)) - 1 ≡ suc (suc (length contours) - 1) = omega arith in
    rw one (omega (arith, last-few (d ∷ contours) (omega arith), length-append c (flatten (d ∷ contours))))

pub kind-number : (e : EdgeSegment) → (to_stored e).kind ≡ kind_number (kind_of e)
unfolding to_stored
kind-number (segment.Line p0 p1) = refl
kind-number (segment.Quadratic p0 p1 p2) = refl
kind-number (segment.Cubic p0 p1 p2 p3) = refl

pub kinds-edge : (edges : List EdgeSegment) (e : EdgeSegment) → kinds_stored (edges ++ (e ∷ [])) ≡ kinds_stored edges ++ ((to_stored e).kind ∷ [])
kinds-edge edges e = map-append _ edges (e ∷ [])

pub places-edge : (edges : List EdgeSegment) (e : EdgeSegment) → points_stored (edges ++ (e ∷ [])) ≡ points_stored edges ++ (to_stored e).points
places-edge edges e = ap flatten (map-append (λ (x : EdgeSegment). (to_stored x).points) edges (e ∷ []))
    ∙ concat_snoc (map (λ (x : EdgeSegment). (to_stored x).points) edges) (to_stored e).points

pub kinds-length : (edges : List EdgeSegment) → length (kinds_stored edges) ≡ length edges
kinds-length edges = length-map edges (λ (e : EdgeSegment). (to_stored e).kind)
