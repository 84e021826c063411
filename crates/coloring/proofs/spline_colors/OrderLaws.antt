-- The pairs in order: two different splines each; the zero pairs entered, and the others offered one by one.
use mathlib.Core.Path.{◌≡◌, refl, sym, ap, ap₂, ◌∙◌, subst}
use mathlib.Core.Bool.{Bool, true, false, not}
use mathlib.Core.List.{List, [], ◌∷◌, map, map-map}
use Prim.Native.Nat.{ℕ, zero, suc, ◌+◌, ◌*◌, ◌<◌, ◌≤◌}
use native.Mathlib.Omega.{arith}
use lib.Ieee.{Float}
use lib.Arith.{digits_lt}
use lib.ListN.{length, get_or, take, drop, replicate, length-replicate, length-set, drop_of_length-le}
use lib.Dec.{ltb}
use borrow.Author.Tests.{ltb-false}
use Rattle.std.proofs.Common.{Some, None, cond}
use Rattle.std.specs.List.{position, position_or_len}
use Rattle.std.specs.Option.{unwrap_or}
use Rattle.coloring.specs.SplineTable.{Table, table_of, enter_pair, try_add_edge}
use Rattle.coloring.specs.Sequence.{Pair, run}
use Rattle.coloring.specs.PairOrder.{pairs_from, SplinePair, with_distances, pair_order}
use Rattle.coloring.specs.Pairs.{pair_of, spline_pair, Each, Two, TwoEach}
use Rattle.coloring.specs.SecondDegree.{color_second_degree_graph}
use Rattle.coloring.specs.SplineColors.{is_zero, zero_pairs, other_pairs, enter_pairs, start_table, OfferableAll, Ordered, offer_in_order, color_in_order}
use Rattle.coloring.specs.declared.pair_order.GraphEdge.{GraphEdge}
use Rattle.coloring.proofs.Lists.{drop-next}
use Rattle.coloring.proofs.recolor.RowLaws.{Matrix}
use Rattle.coloring.proofs.spline_table.TableLaws.{matrix_sound, enter_matrix}
use Rattle.coloring.proofs.spline_table.OfferLaws.{Unrefused}
use Rattle.coloring.proofs.spline_table.ClashLaws.{Sound, offer-sound}
use Rattle.coloring.proofs.pair_order.EachLaws.{each_at, each_map, each_sort}
use Rattle.coloring.proofs.pair_order.PairLaws.{two_from}
use Rattle.coloring.proofs.second_degree.StartingLaws.{graph_length, graph_color}

-- ---- two different splines

module _ (n : ℕ) where
  two_distances : (pairs : List Pair) (distances : List Float) → Each (Two n) pairs → Each (λ p. Two n p.pair) (with_distances pairs distances)
  unfolding Each with_distances
  two_distances [] distances e = tt
  two_distances (p ∷ pairs) [] e = tt
  two_distances (p ∷ pairs) (d ∷ distances) e = (e.0, two_distances pairs distances e.1)

  two-order : (distances : List Float) → Each (λ p. Two n p.pair) (pair_order n distances)
  unfolding pair_order
  two-order distances = each_sort _ (λ p. p.distance) _ (two_distances (pairs_from 0 n) distances (two_from n 0 n (omega arith)))

  pub two_ordered : (distances : List Float) (order : List GraphEdge) → map spline_pair order ≡ pair_order n distances → TwoEach n order
  two_ordered distances order e = each_map (λ p. Two n p.pair) spline_pair order (rw e (two-order distances))

-- ---- the start table

no_entry : (k i : ℕ) → ◌≡◌ {A = ℕ} (get_or (replicate k 0) i 0) 0
no_entry zero i = refl
no_entry (suc k) zero = refl
no_entry (suc k) (suc i) = no_entry k i

matrix_none : (n : ℕ) → Matrix n (replicate (n * n) 0)
matrix_none n =
    record {
      size = length-replicate (n * n) 0;
      low = λ i j h k. rw no_entry (omega arith);
      symmetric = λ i j h k. no_entry (n * n) _ ∙ sym (no_entry (n * n) _);
      loopless = λ i h. no_entry (n * n) _;
    }

matrix_pairs : (n : ℕ) (edges : List GraphEdge) (edge_matrix : List ℕ) → TwoEach n edges → Matrix n edge_matrix
    → Matrix n (enter_pairs n (map pair_of edges) edge_matrix)
unfolding Each enter_pairs
matrix_pairs n [] edge_matrix a m = m
matrix_pairs n (e ∷ edges) edge_matrix a m =
    let two = a.0 in
    matrix_pairs n edges _ a.1 (enter_matrix n edge_matrix (pair_of e) two.first two.second two.different 1 (omega arith) m)

pub length_pairs : (n : ℕ) (pairs : List Pair) (edge_matrix : List ℕ) → length (enter_pairs n pairs edge_matrix) ≡ length edge_matrix
unfolding enter_pairs
length_pairs n [] edge_matrix = refl
length_pairs n (p ∷ pairs) edge_matrix = length_pairs n pairs _ ∙ length-set _ _ _ ∙ length-set _ _ _

module _ (n : ℕ) (edges : List GraphEdge) (k : ℕ) (d : GraphEdge) (h : k < length edges) where
  abbrev here : GraphEdge
  here = get_or edges k d

  -- the entries of the pair at a place
  pub entries_inside : TwoEach n edges → (edge_matrix : List ℕ) → length edge_matrix ≡ n * n
      → (here.a * n + here.b < length edge_matrix) × (here.b * n + here.a < length edge_matrix)
  entries_inside t edge_matrix e =
      let two : Two n (pair_of here) = each_at (λ e. Two n (pair_of e)) edges d t k h in
      rw e (digits_lt two.first two.second, digits_lt two.second two.first)

  -- the pairs from it on
  pub enter_next : (edge_matrix : List ℕ)
      → enter_pairs n (map pair_of (drop (k + 1) edges)) (enter_pair n edge_matrix here.a here.b 1) ≡ enter_pairs n (map pair_of (drop k edges)) edge_matrix
  unfolding enter_pairs
  enter_next edge_matrix = rw (drop-next edges k d h)

pub enter_end : (n : ℕ) (edges : List GraphEdge) (k : ℕ) (edge_matrix : List ℕ) → length edges ≤ k
    → enter_pairs n (map pair_of (drop k edges)) edge_matrix ≡ edge_matrix
unfolding enter_pairs
enter_end n edges k edge_matrix h = rw (drop_of_length-le edges h)

-- ---- the zero pairs are the first

abbrev pub ZerosFirst : List GraphEdge → ℕ → Type 0
ZerosFirst order k =
    (map pair_of (take k order) ≡ zero_pairs (map spline_pair order)) × (map pair_of (drop k order) ≡ other_pairs (map spline_pair order))

-- as many as come before the first that is not at distance zero
abbrev zeros_in : List GraphEdge → ℕ
zeros_in order = position_or_len (λ e. not (is_zero (spline_pair e))) order

zeros-split : (order : List GraphEdge) → (zeros_in order ≤ length order) × ZerosFirst order (zeros_in order)
unfolding zero_pairs other_pairs
zeros-split [] = (omega arith, (refl, refl))
zeros-split (e ∷ order) = go (is_zero (spline_pair e)) refl (zeros-split order)
  where
    more : 1 + zeros_in order ≡ suc (zeros_in order)
    more = omega arith

    go : (b : Bool) → is_zero (spline_pair e) ≡ b → (zeros_in order ≤ length order) × ZerosFirst order (zeros_in order)
        → (zeros_in (e ∷ order) ≤ length (e ∷ order)) × ZerosFirst (e ∷ order) (zeros_in (e ∷ order))
    go true z rest =
        rw (z, more) (omega (arith, rest.0), (ap (λ l. pair_of e ∷ l) rest.1.0, rest.1.1))
    go false z rest =
        rw z (omega arith, (refl, sym (map-map (λ (p : SplinePair). p.pair) spline_pair (e ∷ order))))

pub zeros_first : (order : List GraphEdge) → let k = unwrap_or (position (λ e. not (is_zero (spline_pair e))) order) (length order) in ZerosFirst order k
zeros_first order = go (ltb (zeros_in order) (length order)) refl (zeros-split order)
  where
    go : (b : Bool) → ltb (zeros_in order) (length order) ≡ b → (zeros_in order ≤ length order) × ZerosFirst order (zeros_in order)
        → ZerosFirst order (unwrap_or (cond b (Some (zeros_in order)) None) (length order))
    go true e rest = rest.1
    go false e rest =
        let all : zeros_in order ≡ length order = omega (arith, ltb-false _ _ e, rest.0) in
        rw all at rest.1

-- ---- the other pairs, one by one

module _ (n : ℕ) (edges : List GraphEdge) (whole : Table) where
  -- the table, with the pairs from place k on still to be offered
  pub record Offers (t : Table) (k : ℕ) : Type 0 where
    pub is_sound : Sound n t
    pub rest : (run t (map pair_of (drop k edges))).table ≡ whole

  module _ (few : n ≤ 64) (all : TwoEach n edges) (t : Table) (k : ℕ) (o : Offers t k) (d : GraphEdge) (h : k < length edges) where
    abbrev edge : GraphEdge
    edge = get_or edges k d

    -- no check refuses the pair at place k
    pub checked : Unrefused t edge.a edge.b
    checked =
        let two : Two n (pair_of edge) = each_at (λ e. Two n (pair_of e)) edges d all k h in
        let s = o.is_sound in
        record {
          few = rw s.splines few;
          size = s.size;
          is_sound = s.is_sound;
          first = rw s.splines two.first;
          second = rw s.splines two.second;
          different = two.different;
        }

    pub offer-next : (after : Table) → after ≡ (try_add_edge t edge.a edge.b).table → Offers after (k + 1)
    unfolding run
    offer-next after q =
        let rule = offer-sound t edge.a edge.b checked in
        let here = ap (map pair_of) (drop-next edges k d h) in
        let next = (try_add_edge t edge.a edge.b).table in
        rw q (record {
          is_sound = subst (λ m. Sound m next) o.is_sound.splines rule.1;
          rest =
              ap (λ (s : Table). (run s (map pair_of (drop (k + 1) edges))).table) (ap (λ r. r.table) (sym rule.0))
              ∙ ap (λ l. (run t l).table) (sym here) ∙ o.rest;
        })

  pub offers_end : (t : Table) (k : ℕ) → Offers t k → length edges ≤ k → t ≡ whole
  unfolding run
  offers_end t k o h = ap (λ l. (run t (map pair_of l)).table) (sym (drop_of_length-le edges h)) ∙ o.rest

-- ---- the whole

module _ (n : ℕ) (before after coloring : List ℕ) (order zeros others : List GraphEdge) (seed : ℕ) (o : Ordered n before order)
    (z : map pair_of zeros ≡ zero_pairs (map spline_pair order)) (r : map pair_of others ≡ other_pairs (map spline_pair order))
    (entered : after ≡ enter_pairs n (map pair_of zeros) before) (colors : coloring ≡ color_second_degree_graph n after seed) where
  abbrev table : Table
  table = table_of coloring after

  -- the table before the offers
  starts : table ≡ start_table n (zero_pairs (map spline_pair order)) seed
  unfolding start_table
  starts =
      let entries = entered ∙ ap₂ (enter_pairs n) z o.none in
      ap₂ (λ (c m : List ℕ). table_of c m) (colors ∙ ap (λ m. color_second_degree_graph n m seed) entries) entries

  pub offerable : TwoEach n zeros → TwoEach n others → OfferableAll coloring after others
  offerable t u =
      let m : Matrix n after = rw (entered, o.none) (matrix_pairs n zeros (replicate (n * n) 0) t (matrix_none n)) in
      let splines : length coloring ≡ n = ap length colors ∙ graph_length n after seed in
      record {
        few = rw splines o.few;
        entries = rw splines m.size;
        is_sound = matrix_sound _ (rw splines m) (λ i h. rw colors (graph_color n after seed i));
        pairs = rw splines u;
      }

  -- and after them
  pub ends : (t : Table) → t ≡ (run table (map pair_of others)).table → t.coloring ≡ color_in_order n (map spline_pair order) seed
  unfolding offer_in_order
  ends t e = ap (λ (s : Table). s.coloring) (e ∙ ap₂ (λ s l. (run s l).table) starts r)
