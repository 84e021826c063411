-- The balanced division of a teardrop, for every number of edges: its runs, the sum of its numbers, and where it
-- differs from the source's.
use Prim.Native.Nat.{ℕ, zero, suc, ◌+◌, ◌-◌, ◌*◌, ◌/◌, ◌%◌, ◌≤◌, ◌<◌}
use mathlib.Core.Bool.{Bool, true, false, not, ◌&&◌}
use mathlib.Core.Path.{◌≡◌, refl, ap, ◌∙◌}
use mathlib.Core.List.{List, [], ◌∷◌, ◌++◌, map, map-append}
use native.Mathlib.Nat.{add-zero, zero-add, add-suc, suc-add}
use native.Mathlib.Omega.{arith}
use lib.Dec.{ltb, eqb}
use lib.IntN.{ℤ, pos, negsuc, pred_ℤ, ◌+ℤ◌, +ℤ_idl, pred_ℤ-+ℤ}
use lib.Ieee.{Float}
use lib.ListN.{length, take, drop, replicate}
use borrow.Author.Tests.{not-true, lt-ltb, le-ltb, le-leb, lt-leb, ltb-true, ltb-false, eqb-true, eqb-false}
use Rattle.coloring.specs.declared.settings.Division.TheVariants.{Source, Balanced}
use Rattle.coloring.specs.declared.settings.Marking.{Marking}
use Rattle.coloring.specs.Bools.{and_left, and_right}
use Rattle.coloring.specs.Lists.{range, all}
use Rattle.coloring.specs.Trichotomy.{symmetrical_trichotomy, balanced}
use Rattle.coloring.specs.Corners.{Cornered, corner_count, find_corners, flags_in}
use Rattle.coloring.specs.Layout.{splits, layout}
use Rattle.coloring.specs.Teardrop.{third_of, runs}
use Rattle.coloring.specs.Splines.{spline_count, paint, paint_contours}
use Rattle.coloring.specs.Values.{middle_value}
use Rattle.coloring.specs.Outline.{Outline, Result, contours}
use Rattle.coloring.specs.Shape.{painted}
use Rattle.coloring.specs.EdgeColoring.{edge_coloring, settings_of}
use Rattle.coloring.specs.Sizes.{paint-one, paint-spread, layout-split, layout-flagged, split-few, split-length}
use Rattle.coloring.proofs.Thirds.{Third, in_first, in_middle, in_last, third}
use Rattle.coloring.proofs.corners.FlagLaws.{corners-few}

-- ---- the rule by its ranges

module _ (p n : ℕ) where
  near_start : 46 * p < 15 * (n - 1) → balanced p n ≡ negsuc 0
  unfolding balanced
  near_start h = rw (lt-ltb (46 * p) (15 * (n - 1)) h)

  between : 15 * (n - 1) ≤ 46 * p → 46 * p ≤ 31 * (n - 1) → balanced p n ≡ pos 0
  unfolding balanced
  between h k = rw (le-ltb (46 * p) (15 * (n - 1)) h, le-leb (46 * p) (31 * (n - 1)) k)

  near_end : 31 * (n - 1) < 46 * p → balanced p n ≡ pos 1
  unfolding balanced
  near_end h = rw (le-ltb (46 * p) (15 * (n - 1)) (omega arith), lt-leb (46 * p) (31 * (n - 1)) h)

-- ---- the runs

-- the edges of each outer run: 15(n-1) by 46, rounded up
abbrev pub outer : ℕ → ℕ
outer n = (15 * (n - 1) + 45) / 46

range-append : (i j k : ℕ) → range i (j + k) ≡ range i j ++ range (i + j) k
unfolding range
range-append i zero k = rw (zero-add k, add-zero i)
range-append i (suc j) k = rw (suc-add j k) (ap (λ (l : List ℕ). i ∷ l) (range-append (suc i) j k ∙ rw (add-suc i j, suc-add i j)))

map_constant : {A : Type 0} (f : ℕ → A) (a : A) (i k : ℕ) → ((p : ℕ) → i ≤ p → p < i + k → f p ≡ a) → map f (range i k) ≡ replicate k a
unfolding range
map_constant f a i zero same = refl
map_constant f a i (suc k) same =
    rw (same i (omega arith) (omega arith), map_constant f a (suc i) k (λ p low high. same p (omega arith) (omega arith)))

module _ (n : ℕ) where
  abbrev inner : ℕ
  inner = n - 2 * outer n

  -- the three parts of the places
  cut_in_three : range 0 n ≡ range 0 (outer n) ++ (range (outer n) inner ++ range (outer n + inner) (outer n))
  cut_in_three =
      let whole : n ≡ outer n + (inner + outer n) = omega arith in
      ap (range 0) whole
      ∙ range-append 0 (outer n) (inner + outer n)
      ∙ rw (zero-add (outer n)) (ap (λ (l : List ℕ). range 0 (outer n) ++ l) (range-append (outer n) inner (outer n)))

  -- the two outer runs are equally long: at 47 edges 15, 17, 15
  pub balanced-runs : {A : Type 0} (first middle last : A)
      → runs Balanced first middle last n ≡ replicate (outer n) first ++ (replicate inner middle ++ replicate (outer n) last)
  unfolding runs
  balanced-runs {A} first middle last =
      let at : ℕ → A = λ i. third_of first middle last (balanced i n) in
      let starts = map_constant at first 0 (outer n) (λ p low high. ap (third_of first middle last) (near_start p n (omega arith))) in
      let middles = map_constant at middle (outer n) inner (λ p low high. ap (third_of first middle last) (between p n (omega arith) (omega arith))) in
      let ends = map_constant at last (outer n + inner) (outer n) (λ p low high. ap (third_of first middle last) (near_end p n (omega arith))) in
      rw (cut_in_three, map-append, map-append, starts, middles, ends)

  -- the middle one is never empty
  pub middle_some : 3 ≤ n → 1 ≤ inner
  middle_some h = omega arith

-- ---- the sum of its numbers

unfoldable pub sum : List ℤ → ℤ
sum [] = pos 0
sum (k ∷ ks) = k +ℤ sum ks

ones : (k : ℕ) → sum (replicate k (pos 1)) ≡ pos k
unfolding sum
ones zero = refl
ones (suc k) = rw (ones k) (ap pos (omega arith))

zeros : (k : ℕ) (ks : List ℤ) → sum (replicate k (pos 0) ++ ks) ≡ sum ks
unfolding sum
zeros zero ks = refl
zeros (suc k) ks = +ℤ_idl _ ∙ zeros k ks

minus_ones : (j k : ℕ) (ks : List ℤ) → sum ks ≡ pos (j + k) → sum (replicate k (negsuc 0) ++ ks) ≡ pos j
unfolding sum
minus_ones j zero ks e = e ∙ rw add-zero
minus_ones j (suc k) ks e = rw (minus_ones (suc j) k ks (e ∙ ap pos (omega arith))) (pred_ℤ-+ℤ (pos 0) (pos (suc j)) ∙ ap pred_ℤ (+ℤ_idl (pos (suc j))))

-- the three numbers are their own runs
own_run : (n : ℕ) → map (λ p. balanced p n) (range 0 n) ≡ runs Balanced (negsuc 0) (pos 0) (pos 1) n
unfolding runs
own_run n = each (range 0 n)
  where
    at : (p : ℕ) (t : ℤ) → Third p n t → t ≡ third_of (negsuc 0) (pos 0) (pos 1) t
    at p t (in_first h) = refl
    at p t in_middle = refl
    at p t (in_last h k) = refl

    each : (places : List ℕ) → map (λ p. balanced p n) places ≡ map (λ p. third_of (negsuc 0) (pos 0) (pos 1) (balanced p n)) places
    each [] = refl
    each (p ∷ places) = cc (at p (balanced p n) (third Balanced p n), each places)

pub sums_to_zero : (n : ℕ) → sum (map (λ p. balanced p n) (range 0 n)) ≡ pos 0
sums_to_zero n =
    rw (own_run n, balanced-runs n (negsuc 0) (pos 0) (pos 1))
    (minus_ones 0 (outer n) _ (zeros (inner n) _ ∙ ones (outer n) ∙ ap pos (omega arith)))

-- ---- where it differs from the source's

-- at 31 of 46 parts of the way, where that is a place
pub differs_at : (n k : ℕ) → n - 1 ≡ 46 * k → (balanced (31 * k) n ≡ pos 0) × (symmetrical_trichotomy (31 * k) n ≡ pos 1)
unfolding symmetrical_trichotomy
differs_at n k e = (
  between (31 * k) n (omega arith) (omega arith),
  rw (le-ltb (46 * (31 * k)) (15 * (n - 1)) (omega arith), le-ltb (46 * (31 * k)) (31 * (n - 1)) (omega arith)),
)

-- and nowhere else
pub same_elsewhere : (p n : ℕ) → (46 * p ≡ 31 * (n - 1) → ⊥) → balanced p n ≡ symmetrical_trichotomy p n
unfolding symmetrical_trichotomy balanced
same_elsewhere p n h = by_tests (ltb (46 * p) (31 * (n - 1))) refl
  where
    by_tests : (b : Bool) → ltb (46 * p) (31 * (n - 1)) ≡ b → balanced p n ≡ symmetrical_trichotomy p n
    by_tests true e = let below : 46 * p < 31 * (n - 1) = ltb-true _ _ e in rw (e, le-leb (46 * p) (31 * (n - 1)) (omega arith))
    by_tests false e =
        let above : 31 * (n - 1) ≤ 46 * p = ltb-false _ _ e in
        rw (e, lt-leb (46 * p) (31 * (n - 1)) (omega arith))

pub differs_only : (p n : ℕ) → (balanced p n ≡ symmetrical_trichotomy p n → ⊥) → (k : ℕ) × (n - 1 ≡ 46 * k) × (p ≡ 31 * k)
differs_only p n h = by_tie (eqb (46 * p) (31 * (n - 1))) refl
  where
    by_tie : (b : Bool) → eqb (46 * p) (31 * (n - 1)) ≡ b → (k : ℕ) × (n - 1 ≡ 46 * k) × (p ≡ 31 * k)
    by_tie true e =
        let tie : 46 * p ≡ 31 * (n - 1) = eqb-true _ _ e in
        (3 * p - 2 * (n - 1), omega arith, omega arith)
    by_tie false e = absurd (h (same_elsewhere p n (eqb-false _ _ e)))

-- ---- what is painted

-- of a number of edges that is not one more than a multiple of 46 the runs are the same
pub runs_same : {A : Type 0} (first middle last : A) (n : ℕ) → 0 < (n - 1) % 46 → runs Balanced first middle last n ≡ runs Source first middle last n
unfolding runs
runs_same {A} first middle last n h = each (range 0 n)
  where
    each : (places : List ℕ)
        → map (λ i. third_of first middle last (balanced i n)) places ≡ map (λ i. third_of first middle last (symmetrical_trichotomy i n)) places
    each [] = refl
    each (i ∷ places) =
        rw (same_elsewhere i n (λ tie. let whole : n - 1 ≡ 46 * (3 * i - 2 * (n - 1)) = omega arith in omega arith), each places)

-- a contour for which they are not: one corner, and one edge more than a multiple of 46
abbrev pub tied : List Bool → Bool
tied flags = eqb (corner_count flags) 1 && eqb ((length flags - 1) % 46) 0

module _ {A : Type 0} (middle : A) where
  pub paint_same : (values : List A) (flags : List Bool) → tied flags ≡ false → paint Balanced middle values flags ≡ paint Source middle values flags
  paint_same values flags free = by_count (eqb (corner_count flags) 1) refl
    where
      by_count : (b : Bool) → eqb (corner_count flags) 1 ≡ b → paint Balanced middle values flags ≡ paint Source middle values flags
      by_count true e =
          let rest = eqb-false ((length flags - 1) % 46) 0 (rw e at free) in
          rw (paint-one Balanced middle values flags e, paint-one Source middle values flags e, runs_same _ middle _ (length flags) (omega arith))
      by_count false e = rw (paint-spread Balanced middle values flags e, paint-spread Source middle values flags e)

  contours_same : (values : List A) (contours : List (List Bool)) → all (λ flags. not (tied flags)) contours ≡ true
      → paint_contours Balanced middle values contours ≡ paint_contours Source middle values contours
  unfolding paint_contours
  contours_same values [] free = refl
  contours_same values (flags ∷ rest) free =
      let here = not-true (tied flags) (and_left (not (tied flags)) _ free) in
      let count = spline_count flags in
      rw (paint_same (take count values) flags here, contours_same (drop count values) rest (and_right (not (tied flags)) _ free))

-- so colourings differ only where such a contour is in the result
pub coloring_same : (marking : Marking) (threshold : Float) (o : Outline) (distances : List Float) (old : Result)
    → all (λ flags. not (tied flags)) (flags_in (map layout (find_corners threshold (contours o)).contours)) ≡ true
    → edge_coloring (settings_of Balanced marking threshold) o distances old ≡ edge_coloring (settings_of Source marking threshold) o distances old
unfolding edge_coloring painted
coloring_same marking threshold o distances old free = rw (contours_same (middle_value marking) _ _ free)

-- and a contour that is split, which then has 3 or 6 edges, is none
pub split_free : (contour : Cornered) → length contour.corners ≡ length contour.edges → splits contour.corners ≡ true
    → tied (layout contour).corners ≡ false
split_free contour l e =
    let few = split-few contour.corners e in
    let some = corners-few contour.corners in
    let laid : length (layout contour).corners ≡ 3 * length contour.edges =
    layout-flagged contour l ∙ ap (λ (c : Cornered). length c.edges) (layout-split contour e) ∙ split-length contour in
    rw (laid, thirds_free (length contour.edges) (omega arith) (omega arith)) (and_false (eqb (corner_count (layout contour).corners) 1))
  where
    thirds_free : (m : ℕ) → 1 ≤ m → m ≤ 2 → eqb ((3 * m - 1) % 46) 0 ≡ false
    thirds_free zero some few = absurd (omega arith)
    thirds_free (suc zero) some few = refl
    thirds_free (suc (suc zero)) some few = refl
    thirds_free (suc (suc (suc m))) some few = absurd (omega arith)

    and_false : (b : Bool) → (b && false) ≡ false
    and_false true = refl
    and_false false = refl
