-- The starting colours, spline by spline: each is a colour, and the row of a spline counts only as far as there are
-- colours.
use mathlib.Core.Path.{◌≡◌, refl, ap, ◌∙◌}
use mathlib.Core.Bool.{Bool, true, false, not, cond, ◌&&◌, ◌||◌}
use mathlib.Core.List.{List, [], ◌∷◌, ◌++◌}
use Prim.Native.Nat.{ℕ, zero, suc, ◌+◌, ◌-◌, ◌%◌, ◌<◌, ◌≤◌}
use native.Mathlib.Nat.{not-suc-le-zero, le_of_suc-le-suc, sub-zero, zero-add}
use native.Mathlib.Numerals.{add-one}
use native.Mathlib.Omega.{arith}
use lib.Dec.{eqb}
use lib.ListN.{length, get_or, take, set, length-append}
use lib.Seq.{length-take-le, take-suc-set, take_all}
use Rattle.coloring.specs.declared.seed.Draw.{Draw}
use Rattle.coloring.specs.Recolor.{row, uses, vertex_possible_colors}
use Rattle.coloring.specs.SecondDegree.{starting_color, color_from, color_second_degree_graph}

-- ---- one spline

pub starting_below : (possible i seed : ℕ) → (starting_color possible i seed).value < 3
unfolding starting_color
starting_below zero i seed = omega arith
starting_below (suc zero) i seed = omega arith
starting_below (suc (suc zero)) i seed = omega arith
starting_below (suc (suc (suc zero))) i seed = omega arith
starting_below (suc (suc (suc (suc zero)))) i seed = omega arith
starting_below (suc (suc (suc (suc (suc zero))))) i seed = chosen (eqb (seed % 2) 0)
  where
    chosen : (b : Bool) → cond b 2 0 < 3
    chosen true = omega arith
    chosen false = omega arith
starting_below (suc (suc (suc (suc (suc (suc zero)))))) i seed = omega arith
starting_below (suc (suc (suc (suc (suc (suc (suc zero))))))) i seed = omega arith
starting_below (suc (suc (suc (suc (suc (suc (suc (suc p)))))))) i seed = omega arith

-- entries beyond the colours count for nothing
uses_enough : (c k : ℕ) (coloring entries : List ℕ) → length coloring ≤ k → uses c coloring (take k entries) ≡ uses c coloring entries
unfolding uses
uses_enough c k [] entries h = refl
uses_enough c zero (x ∷ coloring) entries h = absurd (not-suc-le-zero h)
uses_enough c (suc k) (x ∷ coloring) [] h = refl
uses_enough c (suc k) (x ∷ coloring) (e ∷ entries) h =
    ap (λ b. (not (eqb e 0) && eqb x c) || b) (uses_enough c k coloring entries (le_of_suc-le-suc h))

pub free_enough : (k : ℕ) (coloring entries : List ℕ) → length coloring ≤ k
    → vertex_possible_colors coloring (take k entries) ≡ vertex_possible_colors coloring entries
unfolding vertex_possible_colors
free_enough k coloring entries h =
    rw (uses_enough 0 k coloring entries h, uses_enough 1 k coloring entries h, uses_enough 2 k coloring entries h)

-- ---- the others

snoc_color : (coloring : List ℕ) (c : ℕ) → ((i : ℕ) → get_or coloring i 0 < 3) → c < 3 → (i : ℕ) → get_or (coloring ++ c ∷ []) i 0 < 3
snoc_color [] c h k zero = k
snoc_color [] c h k (suc i) = omega arith
snoc_color (x ∷ coloring) c h k zero = h 0
snoc_color (x ∷ coloring) c h k (suc i) = snoc_color coloring c (λ j. h (suc j)) k i

module _ (n : ℕ) (edge_matrix : List ℕ) where
  -- spline i, of those before it that are coloured
  abbrev pub next : ℕ → List ℕ → ℕ → Draw
  next i coloring seed = starting_color (vertex_possible_colors coloring (row n edge_matrix i)) i seed

  -- the first
  pub color-start : (seed : ℕ) → color_from n edge_matrix (n - 0) seed [] ≡ color_second_degree_graph n edge_matrix seed
  unfolding color_second_degree_graph
  color-start seed = ap (λ k. color_from n edge_matrix k seed []) (sub-zero n)

  -- one more, stored at its place
  pub color-more : (i seed : ℕ) (coloring : List ℕ) → i < n → length coloring ≡ n
      → color_from n edge_matrix (n - (i + 1)) (next i (take i coloring) seed).seed (take (i + 1) (set coloring i (next i (take i coloring) seed).value))
      ≡ color_from n edge_matrix (n - i) seed (take i coloring)
  unfolding color_from
  color-more i seed coloring h size =
      let less : n - i ≡ suc (n - (i + 1)) = omega arith in
      let before : length (take i coloring) ≡ i = length-take-le i coloring (omega arith) in
      rw (add-one i, take-suc-set coloring i _ (omega arith), ← add-one i, less, before, color_from)

  -- the last
  pub color_end : (i seed : ℕ) (coloring : List ℕ) → n ≤ i → length coloring ≡ n → color_from n edge_matrix (n - i) seed (take i coloring) ≡ coloring
  unfolding color_from
  color_end i seed coloring h size =
      let none : n - i ≡ 0 = omega arith in
      rw (none, color_from) (take_all i coloring (omega arith))

  -- ---- each spline has a colour

  from-length : (k seed : ℕ) (coloring : List ℕ) → length (color_from n edge_matrix k seed coloring) ≡ length coloring + k
  unfolding color_from
  from-length zero seed coloring = omega arith
  from-length (suc k) seed coloring =
      from-length k _ _ ∙ omega (arith, length-append coloring ((next (length coloring) coloring seed).value ∷ []))

  pub graph_length : (seed : ℕ) → length (color_second_degree_graph n edge_matrix seed) ≡ n
  unfolding color_second_degree_graph
  graph_length seed = from-length n seed [] ∙ zero-add n

  from-color : (k seed : ℕ) (coloring : List ℕ) → ((i : ℕ) → get_or coloring i 0 < 3) → (i : ℕ) → get_or (color_from n edge_matrix k seed coloring) i 0 < 3
  unfolding color_from
  from-color zero seed coloring h = h
  from-color (suc k) seed coloring h =
      from-color k _ _ (snoc_color coloring _ h (starting_below (vertex_possible_colors coloring (row n edge_matrix (length coloring))) (length coloring) seed))

  pub graph_color : (seed i : ℕ) → get_or (color_second_degree_graph n edge_matrix seed) i 0 < 3
  unfolding color_second_degree_graph
  graph_color seed = from-color n seed [] (λ i. omega arith)
