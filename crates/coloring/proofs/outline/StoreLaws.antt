-- Edges that are written to the buffers of a result: kinds, and eight point places an edge.
use mathlib.Core.Path.{◌≡◌, refl, sym, ap, ◌∙◌}
use mathlib.Core.List.{List, [], ◌∷◌, ◌++◌, map, map-append, append_assoc, flatten}
use Prim.Native.Nat.{ℕ, ◌+◌, ◌*◌, ◌≤◌}
use native.Mathlib.Omega.{arith}
use lib.ListN.{length, length-map}
use Rattle.geometry.specs.declared.edge_segment.EdgeSegment.{EdgeSegment}
use Rattle.coloring.specs.declared.outline.ResultBuffers.{ResultBuffers}
use Rattle.coloring.proofs.Writing.{over_nothing, over-more}
use Rattle.coloring.specs.Outline.{kind_stored, places_stored, SameBuffers, StoredFrom}
use Rattle.coloring.specs.Sizes.{points-length}

pub flatten-append : {A : Type 0} (xs ys : List (List A)) → flatten (xs ++ ys) ≡ flatten xs ++ flatten ys
unfolding flatten
flatten-append [] ys = refl
flatten-append (x ∷ xs) ys = rw (flatten-append xs ys, append_assoc)

-- the places of some edges and then others
pub points-append : (xs ys : List EdgeSegment) → flatten (map places_stored (xs ++ ys)) ≡ flatten (map places_stored xs) ++ flatten (map places_stored ys)
points-append xs ys = rw (map-append places_stored xs ys) (flatten-append (map places_stored xs) (map places_stored ys))

-- ---- result buffers that are written

pub same_self : (out : ResultBuffers) → SameBuffers out out
same_self out =
    record {
      lengths_same = refl;
      kinds_same = refl;
      points_same = refl;
      colors_same = refl;
      lengths_long = refl;
      kinds_long = refl;
      points_long = refl;
      colors_long = refl;
    }

pub same_again : {a b c : ResultBuffers} → SameBuffers a b → SameBuffers b c → SameBuffers a c
same_again p q =
    record {
      lengths_same = q.lengths_same ∙ p.lengths_same;
      kinds_same = q.kinds_same ∙ p.kinds_same;
      points_same = q.points_same ∙ p.points_same;
      colors_same = q.colors_same ∙ p.colors_same;
      lengths_long = q.lengths_long ∙ p.lengths_long;
      kinds_long = q.kinds_long ∙ p.kinds_long;
      points_long = q.points_long ∙ p.points_long;
      colors_long = q.colors_long ∙ p.colors_long;
    }

pub stored_none : (i : ℕ) (out : ResultBuffers) → StoredFrom i [] out out
unfolding flatten
stored_none i out =
    record {
      same = same_self out;
      lengths_are = refl;
      kinds_are = sym (over_nothing i out.kinds.now);
      points_are = sym (over_nothing (8 * i) out.points.now);
      colors_are = refl;
    }

-- some edges, and others after them
pub stored_more : {i n m : ℕ} (xs ys : List EdgeSegment) {a b c : ResultBuffers} → length xs ≡ n → i + n ≡ m
    → m ≤ length a.kinds.now → 8 * m ≤ length a.points.now → StoredFrom i xs a b → StoredFrom m ys b c → StoredFrom i (xs ++ ys) a c
stored_more {i} {n} {m} xs ys {a} {b} {c} long next kinds_fit points_fit s t =
    let kinds_long : length (map kind_stored xs) ≡ n = length-map xs kind_stored ∙ long in
    let points_long : length (flatten (map places_stored xs)) ≡ 8 * n = points-length xs ∙ ap (λ k. 8 * k) long in
    let eight : 8 * i + 8 * n ≡ 8 * m = omega arith in
    record {
      same = same_again s.same t.same;
      lengths_are = t.lengths_are ∙ s.lengths_are;
      kinds_are =
          t.kinds_are
          ∙ rw (s.kinds_are, map-append kind_stored xs ys, over-more i n (map kind_stored xs) (map kind_stored ys) a.kinds.now kinds_long (omega arith), next);
      points_are =
          t.points_are
          ∙ rw (
            s.points_are,
            points-append xs ys,
            over-more (8 * i) (8 * n) (flatten (map places_stored xs)) (flatten (map places_stored ys)) a.points.now points_long (omega arith),
            eight,
          );
      colors_are = t.colors_are ∙ s.colors_are;
    }
