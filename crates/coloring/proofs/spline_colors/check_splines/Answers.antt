-- `check_splines` meets its contract: each test that passes decides one test of the definition.
use mathlib.Core.Path.{◌≡◌, ◌∙◌}
use mathlib.Core.Bool.{true, ◌&&◌, and-false}
use Prim.Native.Nat.{◌*◌, ◌-◌, ◌/◌}
use lib.Dec.{leb, eqb}
use lib.ListN.{length}
use borrow.Author.Tests.{le-leb, lt-leb, eq-eqb, ne_eqb, not-true, not-false}
use Rattle.coloring.specs.Answers.{first_refusal}
use Rattle.coloring.proofs.spline_colors.check_splines.Goals as goal
use Rattle.coloring.proofs.spline_colors.check_splines.Goals.{Else-distances-gt-MAX_DISTANCES, Else-distances-pair_count}
use Rattle.coloring.proofs.spline_colors.check_splines.Goals.{then-splines-gt-MAX_SPLINES-via-then-splines-gt-MAX_SPLINES}
use Rattle.coloring.proofs.spline_colors.check_splines.Goals.{then-splines-gt-MAX_SPLINES-via-else-splines-gt-MAX_SPLINES+then-distances-gt-MAX_DISTANCES}

pub returns-then-splines-gt-MAX_SPLINES : goal.returns-then-splines-gt-MAX_SPLINES
unfolding first_refusal
returns-then-splines-gt-MAX_SPLINES c =
    elim c.then-splines-gt-MAX_SPLINES.branch [
      | then-splines-gt-MAX_SPLINES-via-then-splines-gt-MAX_SPLINES w ↦
          rw (lt-leb c.args.splines 64 w.if-splines-gt-MAX_SPLINES.true)
      | then-splines-gt-MAX_SPLINES-via-else-splines-gt-MAX_SPLINES+then-distances-gt-MAX_DISTANCES w ↦
          rw (lt-leb (length c.args.distances.now) 2016 w.if-distances-gt-MAX_DISTANCES.true, and-false (leb c.args.splines 64))
    ]

-- there are not too many
module _ (c : Else-distances-gt-MAX_DISTANCES) where
  few : (leb c.args.splines 64 && leb (length c.args.distances.now) 2016) ≡ true
  few = rw (le-leb c.args.splines 64 c.if-splines-gt-MAX_SPLINES.false, le-leb (length c.args.distances.now) 2016 c.if-distances-gt-MAX_DISTANCES.false)

pub returns-then-distances-pair_count : goal.returns-then-distances-pair_count
unfolding first_refusal
returns-then-distances-pair_count c =
    let checked = (goal.at.returns-then-distances-pair_count c).Else-distances-gt-MAX_DISTANCES in
    rw (few checked, ← c.pair_count.ensures, ne_eqb (length c.args.distances.now) c.pair_count.result c.if-distances-pair_count.true)

-- the distances are as many as the pairs
module _ (c : Else-distances-pair_count) where
  count : let a = c.args in eqb (length a.distances.now) (a.splines * (a.splines - 1) / 2) ≡ true
  count = eq-eqb _ _ (c.if-distances-pair_count.false ∙ c.pair_count.ensures)

pub returns-then-not-distances_valid : goal.returns-then-not-distances_valid
unfolding first_refusal
returns-then-not-distances_valid c =
    let checked = (goal.at.returns-then-not-distances_valid c).Else-distances-gt-MAX_DISTANCES in
    let counted = (goal.at.returns-then-not-distances_valid c).Else-distances-pair_count in
    rw (few checked, count counted, ← c.distances_valid.ensures, not-true c.distances_valid.result c.if-not-distances_valid.true-raw)

pub returns : goal.returns
unfolding first_refusal
returns c =
    let checked = (goal.at.returns c).Else-distances-gt-MAX_DISTANCES in
    let counted = (goal.at.returns c).Else-distances-pair_count in
    rw (few checked, count counted, ← c.distances_valid.ensures, not-false c.distances_valid.result c.if-not-distances_valid.false-raw)
