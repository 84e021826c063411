-- The answers for `count_corners`, by the invariant of Invariants.antt.
use native.Mathlib.Omega.{arith}
use mathlib.Core.Path.{ap}
use mathlib.Core.Bool.{false}
use lib.ListN.{length, get_or}
use Rattle.coloring.specs.Corners.{corners_of, corner_count}
use Rattle.coloring.proofs.corners.FlagLaws.{places_end, places_counted, flag_few}
use Rattle.coloring.proofs.corners.count_corners.Goals as goal

pub loop-flag-init : goal.loop-flag-init
unfolding corner_count corners_of
loop-flag-init c = (omega arith, omega arith)

pub loop-flag-preserved : goal.loop-flag-preserved
loop-flag-preserved c =
    let s = c.loop-flag in (
      omega (arith, c.from-count.ensures, flag_few (get_or c.args.flags.now s.flag-index false)),
      omega (arith, c.from-count.ensures, s.invariant.1, places_counted c.args.flags.now s.flag-index c.loop-flag-test.true),
    )

pub returns : goal.returns
returns c = omega (arith, c.loop-flag.invariant.1, ap length (places_end c.args.flags.now c.loop-flag.flag-index c.loop-flag-test.false))
