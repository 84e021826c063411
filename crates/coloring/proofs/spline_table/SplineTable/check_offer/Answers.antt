-- `check_offer` meets its contract: the refusals in their order.
use mathlib.Core.Path.{sym, ◌∙◌}
use borrow.Author.Tests.{leb-false, eqb-false, not-true, not-false}
use Rattle.coloring.specs.SplineTable.{Table, table_in}
use Rattle.coloring.proofs.spline_table.OfferLaws.{check-many, check-lengths, check_unsound, check-first, check-second, check_equal, check_passes}
use Rattle.coloring.proofs.spline_table.SplineTable.check_offer.Goals as goal
use Rattle.coloring.proofs.spline_table.SplineTable.check_offer.Goals.{Start, then-n-a-via-else-n-a+else-n-b+then-a-b, then-n-a-via-else-n-a+then-n-b}
use Rattle.coloring.proofs.spline_table.SplineTable.check_offer.Goals.{then-n-a-via-then-n-a}

abbrev given : Start → Table
given start = table_in start.args.self.now

pub returns-then-n-gt-MAX_SPLINES : goal.returns-then-n-gt-MAX_SPLINES
returns-then-n-gt-MAX_SPLINES c =
    sym (check-many (given (goal.at.returns-then-n-gt-MAX_SPLINES c).Start) c.args.a c.args.b c.if-n-gt-MAX_SPLINES.true)

pub returns-then-self-n : goal.returns-then-self-n
returns-then-self-n c =
    sym (check-lengths (given (goal.at.returns-then-self-n c).Start) c.args.a c.args.b c.if-n-gt-MAX_SPLINES.false c.if-self-n.true)

pub returns-then-not-is_sound : goal.returns-then-not-is_sound
returns-then-not-is_sound c =
    sym
    (check_unsound (given (goal.at.returns-then-not-is_sound c).Start) c.args.a c.args.b c.if-n-gt-MAX_SPLINES.false c.if-self-n.false
    (sym c.is_sound.ensures ∙ not-true _ c.if-not-is_sound.true-raw))

pub returns-then-n-a : goal.returns-then-n-a
returns-then-n-a c =
    let few = c.if-n-gt-MAX_SPLINES.false in
    let size = c.if-self-n.false in
    let t = given (goal.at.returns-then-n-a c).Start in
    elim c.then-n-a.branch [
      | then-n-a-via-then-n-a w ↦ sym (check-first t c.args.a c.args.b few size w.if-n-a.true)
      | then-n-a-via-else-n-a+then-n-b w ↦ sym (check-second t c.args.a c.args.b few size w.if-n-b.true)
      | then-n-a-via-else-n-a+else-n-b+then-a-b w ↦ sym (check_equal t c.args.a c.args.b few size w.if-a-b.true)
    ]

pub returns : goal.returns
returns c =
    sym (check_passes (given (goal.at.returns c).Start) c.args.a c.args.b (record {
      few = c.if-n-gt-MAX_SPLINES.false;
      size = c.if-self-n.false;
      is_sound = sym c.is_sound.ensures ∙ not-false _ c.if-not-is_sound.false-raw;
      first = c.if-n-a.false;
      second = leb-false _ _ c.if-n-b.false-raw;
      different = eqb-false _ _ c.if-a-b.false-raw;
    }))
