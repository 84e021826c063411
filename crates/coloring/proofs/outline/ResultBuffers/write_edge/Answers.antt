-- `ResultBuffers::write_edge` meets its contract: the kind at its place, and eight places in theirs.
use mathlib.Core.Path.{refl, sym, ◌∙◌}
use mathlib.Core.List.{[], append-nil, flatten}
use Prim.Native.Nat.{◌+◌, ◌*◌}
use native.Mathlib.Omega.{arith}
use lib.ListN.{length-set}
use Rattle.coloring.proofs.Writing.{over-length, over-next, over_nothing}
use Rattle.coloring.specs.Outline.{kind_stored, places_stored}
use Rattle.coloring.specs.Sizes.{places-length}
use Rattle.coloring.proofs.outline.ResultBuffers.write_edge.Goals as goal

pub returns : goal.returns
unfolding flatten
returns c =
    let i = c.args.i in
    let old = c.args.self.now in
    let places = places_stored c.args.e in
    let long = places-length c.args.e in
    rw (c.write_from.ensures, c.to_stored-stored.ensures) (record {
      same = record {
        lengths_same = refl;
        kinds_same = refl;
        points_same = refl;
        colors_same = refl;
        lengths_long = refl;
        kinds_long = length-set old.kinds.now i (kind_stored c.args.e);
        points_long = over-length (8 * i) 8 places old.points.now long (omega arith);
        colors_long = refl;
      };
      lengths_are = refl;
      kinds_are = sym (over-next i (kind_stored c.args.e) [] old.kinds.now (omega arith) ∙ over_nothing (i + 1) _);
      points_are = rw (append-nil places) refl;
      colors_are = refl;
    })
