-- The source's own loops, written down literally, give what the definitions give: `source_loop_lem` for the loop around
-- a contour with two corners or more (`(start + i) % m`, on to the next spline at its corner; coloring/mod.rs and
-- by_distance.rs), and `break_splits` for the collecting pass of a teardrop, whose second spline begins at m / 2.
use Prim.Native.Nat.{ℕ, zero, suc, ◌+◌, ◌-◌, ◌/◌, ◌%◌, ◌≤◌, ◌<◌}
use mathlib.Core.Bool.{Bool, true, false, cond, ◌&&◌}
use mathlib.Core.Path.{◌≡◌, refl, sym, ap, ◌∙◌}
use mathlib.Core.List.{List, [], ◌∷◌, ◌++◌, map, map-append, append_assoc}
use native.Mathlib.Nat.{mod-eq_of_lt, mod-eq-sub-mod, zero-add, add-zero}
use native.Mathlib.Omega.{arith}
use lib.Dec.{ltb, eqb}
use lib.IntN.{ℤ}
use lib.ListN.{length, get_or, set, take, drop, replicate, length-append, length-drop, length-replicate, take-append-drop}
use lib.Seq.{drop-cons, set_at, length-take-le}
use borrow.Author.Tests.{lt-ltb, le-ltb, eq-eqb, ne_eqb}
use Rattle.coloring.specs.Lists.{range}
use Rattle.coloring.specs.declared.settings.Division.{Division}
use Rattle.coloring.specs.Trichotomy.{third_by}
use Rattle.coloring.specs.Corners.{corners_from, corners_of, corner_count}
use Rattle.coloring.specs.Teardrop.{third_of, runs}
use Rattle.coloring.specs.Splines.{spread, paint}
use Rattle.coloring.specs.Values.{no_spline}
use Rattle.coloring.specs.Sizes.{paint-spread}
use Rattle.coloring.proofs.Thirds.{Third, in_first, in_middle, in_last, third}

-- ---- the loop around a contour

-- the spline at a place, after the one before it
unfoldable pub next_spline : List ℕ → ℕ → ℕ → ℕ
next_spline corners spline index = cond (ltb (suc spline) (length corners) && eqb (get_or corners (suc spline) 0) index) (suc spline) spline

-- the places in order, each with the value of its spline
unfoldable pub go_round : {A : Type 0} → List ℕ → List A → A → List ℕ → ℕ → List A → List A
go_round corners values d [] spline out = out
go_round corners values d (index ∷ places) spline out =
    let now = next_spline corners spline index in
    go_round corners values d places now (set out index (get_or values now d))

unfoldable pub source_loop : {A : Type 0} → List ℕ → List A → A → ℕ → List A → List A
unfolding go_round
source_loop corners values d m out = go_round corners values d (map (λ i. (get_or corners 0 0 + i) % m) (range 0 m)) 0 out

-- ---- the places in the order (start + i) mod m

range-append : (i a b : ℕ) → range i (a + b) ≡ range i a ++ range (i + a) b
unfolding range
range-append i zero b = let e : 0 + b ≡ b = omega arith in rw (e, add-zero i)
range-append i (suc a) b =
    let e : suc a + b ≡ suc (a + b) = omega arith in
    let f : suc i + a ≡ i + suc a = omega arith in
    rw (e, ← f) (ap (λ (l : List ℕ). i ∷ l) (range-append (suc i) a b))

module _ (start m : ℕ) where
  near : (i n : ℕ) → start + i + n ≤ m → map (λ i. (start + i) % m) (range i n) ≡ range (start + i) n
  unfolding range
  near i zero h = refl
  near i (suc n) h =
      let here : (start + i) % m ≡ start + i = mod-eq_of_lt (omega arith) in
      let next : start + suc i ≡ suc (start + i) = omega arith in
      rw here (ap (λ (l : List ℕ). (start + i) ∷ l) (near (suc i) n (omega arith) ∙ rw next))

  around : (k n : ℕ) → start ≤ m → k + n ≤ start → start < m → map (λ i. (start + i) % m) (range (m - start + k) n) ≡ range k n
  unfolding range
  around k zero s h l = refl
  around k (suc n) s h l =
      let sum : start + (m - start + k) ≡ m + k = omega arith in
      let past : (m + k) % m ≡ (m + k - m) % m = mod-eq-sub-mod (omega arith) in
      let back : m + k - m ≡ k = omega arith in
      let here : (start + (m - start + k)) % m ≡ k = rw sum (past ∙ rw back (mod-eq_of_lt (omega arith))) in
      let next : suc (m - start + k) ≡ m - start + suc k = omega arith in
      rw (here, next) (ap (λ (l : List ℕ). k ∷ l) (around (suc k) n s (omega arith) l))

  order : start < m → map (λ i. (start + i) % m) (range 0 m) ≡ range start (m - start) ++ range 0 start
  order h =
      let whole : range 0 m ≡ range 0 (m - start) ++ range (m - start + 0) start =
      ap (range 0) (omega arith) ∙ range-append 0 (m - start) start ∙ ap (λ (k : ℕ). range 0 (m - start) ++ range k start) (omega arith) in
      rw (
        whole,
        map-append (λ i. (start + i) % m) (range 0 (m - start)) (range (m - start + 0) start),
        near 0 (m - start) (omega arith),
        around 0 start (omega arith) (omega arith) h,
        add-zero,
      )

-- ---- which splines the loop meets

module _ {A : Type 0} where
  -- what stands from place k on begins with an element
  head_at : (k : ℕ) (xs : List A) (x d : A) (rest : List A) → drop k xs ≡ x ∷ rest → (k < length xs) × (get_or xs k d ≡ x) × (drop (suc k) xs ≡ rest)
  head_at zero [] x d rest e = let z : ◌≡◌ {A = ℕ} 0 1 = cc in absurd (omega arith)
  head_at zero (y ∷ xs) x d rest e = (omega arith, cc, cc)
  head_at (suc k) [] x d rest e = let z : ◌≡◌ {A = ℕ} 0 1 = cc in absurd (omega arith)
  head_at (suc k) (y ∷ xs) x d rest e = let r = head_at k xs x d rest e in (omega (arith, r.0), r.1, r.2)

least : (i : ℕ) (flags : List Bool) → 0 < length (corners_from i flags) → i ≤ get_or (corners_from i flags) 0 0
unfolding corners_from
least i [] h = absurd (omega arith)
least i (true ∷ flags) h = omega arith
least i (false ∷ flags) h = omega (arith, least (suc i) flags h)

module _ (corners : List ℕ) (spline j : ℕ) where
  at_corner : (rest : List ℕ) → drop (suc spline) corners ≡ j ∷ rest → next_spline corners spline j ≡ suc spline
  unfolding next_spline
  at_corner rest e =
      let r = head_at (suc spline) corners j 0 rest e in
      rw (lt-ltb (suc spline) (length corners) r.0, eq-eqb (get_or corners (suc spline) 0) j r.1)

  beyond : length corners ≤ suc spline → next_spline corners spline j ≡ spline
  unfolding next_spline
  beyond h = rw (le-ltb (suc spline) (length corners) h)

  between : (flags : List Bool) (next : List ℕ) → next ≡ corners_from (suc j) flags → drop (suc spline) corners ≡ next → next_spline corners spline j ≡ spline
  unfolding next_spline
  between flags [] n e = beyond (omega (arith, length-drop (suc spline) corners, ap length e))
  between flags (k ∷ rest) n e =
      let r = head_at (suc spline) corners k 0 rest e in
      let above : suc j ≤ k = omega (arith, least (suc j) flags (omega (arith, ap length n)), ap (λ (l : List ℕ). get_or l 0 0) n) in
      rw (lt-ltb (suc spline) (length corners) r.0, ne_eqb (get_or corners (suc spline) 0) j (λ same. omega (arith, r.1)))

module _ {A : Type 0} (corners : List ℕ) (values : List A) (d : A) where
  abbrev value_of : ℕ → A
  value_of spline = get_or values spline d

  stored : (done out : List A) (x v : A) → set (done ++ (x ∷ out)) (length done) v ≡ (done ++ (v ∷ [])) ++ out
  stored done out x v = set_at done x out v (length done) refl ∙ sym (append_assoc done (v ∷ []) out)

  one_more : (done : List A) (v : A) → length (done ++ (v ∷ [])) ≡ suc (length done)
  one_more done v = length-append done (v ∷ []) ∙ omega arith

  -- one place
  step : (done out : List A) (x : A) (spline : ℕ) (places : List ℕ) {now : ℕ} → next_spline corners spline (length done) ≡ now
      → go_round corners values d (length done ∷ places) spline (done ++ (x ∷ out)) ≡ go_round corners values d places now
      ((done ++ (value_of now ∷ [])) ++ out)
  unfolding go_round
  step done out x spline places {now} e =
      ap (λ (k : ℕ). go_round corners values d places k (set (done ++ (x ∷ out)) (length done) (value_of k))) e
      ∙ ap (go_round corners values d places now) (stored done out x (value_of now))

  -- the places from `length done` on, with the flags `flags`, and then `places`
  along : (flags : List Bool) (done out : List A) (spline : ℕ) (places : List ℕ) → length values ≡ length corners → length out ≡ length flags
      → drop (suc spline) corners ≡ corners_from (length done) flags
      → go_round corners values d (range (length done) (length flags) ++ places) spline (done ++ out)
      ≡ go_round corners values d places (spline + length (corners_from (length done) flags))
      (done ++ spread (value_of spline) (drop (suc spline) values) flags)
  unfolding range spread corners_from go_round
  along [] done [] spline places v l c = rw (add-zero spline)
  along [] done (x ∷ out) spline places v l c = absurd (omega arith)
  along (flag ∷ flags) done [] spline places v l c = absurd (omega arith)
  along (true ∷ flags) done (x ∷ out) spline places v l c =
      let r = head_at (suc spline) corners (length done) 0 (corners_from (suc (length done)) flags) c in
      let value = value_of (suc spline) in
      let size = one_more done value in
      let next = drop-cons values (suc spline) d (omega (arith, r.0)) in
      let others = corners_from (suc (length done)) flags in
      let sum : spline + suc (length others) ≡ suc spline + length others = omega arith in
      let rest = along flags (done ++ (value ∷ [])) out (suc spline) places v (omega arith) (rw size r.2) in
      step done out x spline (range (suc (length done)) (length flags) ++ places) (at_corner corners spline (length done) others c)
      ∙ rw (next, sum) (rw (size, append_assoc done (value ∷ []) (spread value (drop (suc (suc spline)) values) flags)) at rest)
  along (false ∷ flags) done (x ∷ out) spline places v l c =
      let value = value_of spline in
      let size = one_more done value in
      let others = corners_from (suc (length done)) flags in
      let rest = along flags (done ++ (value ∷ [])) out spline places v (omega arith) (rw size c) in
      step done out x spline (range (suc (length done)) (length flags) ++ places) (between corners spline (length done) flags others refl c)
      ∙ (rw (size, append_assoc done (value ∷ []) (spread value (drop (suc spline) values) flags)) at rest)

  -- the places before the first corner: the last spline's
  before : (n : ℕ) (done out rest : List A) (spline : ℕ) → length out ≡ n → length corners ≤ suc spline
      → go_round corners values d (range (length done) n) spline (done ++ (out ++ rest)) ≡ done ++ (replicate n (value_of spline) ++ rest)
  unfolding go_round range
  before zero done [] rest spline l h = refl
  before zero done (x ∷ out) rest spline l h = absurd (omega arith)
  before (suc n) done [] rest spline l h = absurd (omega arith)
  before (suc n) done (x ∷ out) rest spline l h =
      let value = value_of spline in
      let size = one_more done value in
      step done (out ++ rest) x spline (range (suc (length done)) n) (beyond corners spline (length done) h)
      ∙ (rw (size, append_assoc done (value ∷ []) (replicate n value ++ rest)) at (before n (done ++ (value ∷ [])) out rest spline (omega arith) h))

-- ---- flags up to the first corner

-- so many without a corner, and then one
abbrev up_to : ℕ → List Bool → List Bool
up_to n rest = replicate n false ++ (true ∷ rest)

spread-up_to : {A : Type 0} (value : A) (values : List A) (n : ℕ) (flags : List Bool)
    → spread value values (replicate n false ++ flags) ≡ replicate n value ++ spread value values flags
unfolding spread
spread-up_to value values zero flags = refl
spread-up_to value values (suc n) flags = ap (λ l. value ∷ l) (spread-up_to value values n flags)

corners-up_to : (i n : ℕ) (rest : List Bool) → corners_from i (up_to n rest) ≡ (i + n) ∷ corners_from (suc (i + n)) rest
unfolding corners_from
corners-up_to i zero rest = rw (add-zero i)
corners-up_to i (suc n) rest = let e : suc i + n ≡ i + suc n = omega arith in corners-up_to (suc i) n rest ∙ rw e

-- a contour with a corner has such flags
split-up_to : (i : ℕ) (flags : List Bool) → 0 < length (corners_from i flags) → (n : ℕ) × (rest : List Bool) × (flags ≡ up_to n rest)
unfolding corners_from
split-up_to i [] h = absurd (omega arith)
split-up_to i (true ∷ flags) h = (0, flags, refl)
split-up_to i (false ∷ flags) h = let r = split-up_to (suc i) flags h in (suc r.0, r.1, ap (λ (l : List Bool). false ∷ l) r.2)

-- ---- so the loop gives what is painted

module _ {A : Type 0} (middle : A) (values out : List A) where
  loop_up_to : (n : ℕ) (rest : List Bool) (corners : List ℕ) → corners ≡ n ∷ corners_from (suc n) rest
      → length values ≡ length corners → length out ≡ length (up_to n rest)
      → source_loop corners values middle (length (up_to n rest)) out ≡ spread (get_or values (length values - 1) middle) values (up_to n rest)
  unfolding source_loop spread corners_from
  loop_up_to n rest corners c v o =
      let m = length (up_to n rest) in
      let k = length (corners_from (suc n) rest) in
      let long : m ≡ n + suc (length rest) =
      length-append (replicate n false) (true ∷ rest) ∙ ap (λ (j : ℕ). j + suc (length rest)) (length-replicate n false) in
      let count : length corners ≡ suc k = ap length c in
      let size : length (take n out) ≡ n = length-take-le n out (omega arith) in
      let first = get_or values 0 middle in
      let tail = spread first (drop 1 values) rest in
      let places : map (λ i. (get_or corners 0 0 + i) % m) (range 0 m) ≡ range n (suc (length rest)) ++ range 0 n =
      rw (ap (λ (l : List ℕ). get_or l 0 0) c) (order n m (omega arith) ∙ ap (λ (j : ℕ). range n j ++ range 0 n) (omega arith)) in
      let passed =
      along corners values middle (false ∷ rest) (take n out) (drop n out) 0 (range 0 n) v (length-drop n out ∙ omega arith) (rw size (ap (drop 1) c)) in
      let closed = before corners values middle n [] (take n out) (first ∷ tail) (0 + k) size (omega arith) in
      let last : 0 + k ≡ length values - 1 = omega arith in
      let final = get_or values (length values - 1) middle in
      let whole : values ≡ first ∷ drop 1 values = drop-cons values 0 middle (omega arith) in
      ap (λ (p : List ℕ). go_round corners values middle p 0 out) places
      ∙ (rw (size, take-append-drop n out) at passed)
      ∙ closed
      ∙ ap (λ (j : ℕ). replicate n (get_or values j middle) ++ (first ∷ tail)) last
      ∙ sym (spread-up_to final values n (true ∷ rest) ∙ ap (λ (l : List A). replicate n final ++ spread final l (true ∷ rest)) whole)

-- the loop of a contour with two corners or more, whatever stood in its places before
pub source_loop_lem : {A : Type 0} (division : Division) (middle : A) (values out : List A) (flags : List Bool)
    → 2 ≤ corner_count flags → length values ≡ corner_count flags → length out ≡ length flags
    → source_loop (corners_of flags) values middle (length flags) out ≡ paint division middle values flags
unfolding corner_count corners_of
source_loop_lem division middle values out flags two v o =
    let r = split-up_to 0 flags (omega arith) in
    let corners = corners_of flags in
    let c : corners ≡ r.0 ∷ corners_from (suc r.0) r.1 = ap (corners_from 0) r.2 ∙ corners-up_to 0 r.0 r.1 ∙ rw zero-add in
    let loop = loop_up_to middle values out r.0 r.1 corners c v (o ∙ ap length r.2) in
    (rw (← r.2) at loop) ∙ sym (paint-spread division middle values flags (ne_eqb (corner_count flags) 1 (λ e. omega arith)))

-- ---- the break of a teardrop

-- the collecting pass over the m edges of a teardrop from its corner on: a White edge has no spline; the second spline
-- begins at m / 2
unfoldable pub collect_runs : Division → ℕ → ℕ → List ℕ
collect_runs division first m =
    map (λ i. let spline = cond (ltb i (m / 2)) first (suc first) in third_of spline no_spline spline (third_by division i m)) (range 0 m)

-- all of -1 stands before the break, and all of 1 after it
pub break_splits : (division : Division) (first m : ℕ) → 3 ≤ m → collect_runs division first m ≡ runs division first no_spline (suc first) m
unfolding collect_runs runs
break_splits division first m h = each (range 0 m)
  where
    spline : ℕ → ℕ
    spline i = cond (ltb i (m / 2)) first (suc first)

    by_third : (i : ℕ) (t : ℤ) → Third i m t → third_of (spline i) no_spline (spline i) t ≡ third_of first no_spline (suc first) t
    by_third i t (in_first below) = rw (lt-ltb i (m / 2) (omega arith))
    by_third i t in_middle = refl
    by_third i t (in_last after above) = rw (le-ltb i (m / 2) (omega arith))

    each : (places : List ℕ)
        → map (λ i. third_of (spline i) no_spline (spline i) (third_by division i m)) places
        ≡ map (λ i. third_of first no_spline (suc first) (third_by division i m)) places
    each [] = refl
    each (i ∷ places) = rw (by_third i (third_by division i m) (third division i m), each places)
