-- `job::listing::Writer::put_listing` meets its contract: the lines, then the two counts.
use Rattle.std.proofs.Common.{ℕ, List, length, ◌++◌}
use Rattle.coloring.specs.Outline.{cut}
use Rattle.job.specs.Listing.{edges_word, stand_ins_word, shape_lines, word_line, HasRoom}
use Rattle.job.proofs.listing.ListingLaws.{listing_parts}
use Rattle.job.proofs.listing.WriterLaws.{room_first, room_then, writes_then}
use Rattle.job.proofs.listing.Writer.put_listing.Goals as goal
use Rattle.job.proofs.listing.Writer.put_listing.Goals.{Start, After-put_shape}

module _ (c : Start) where
  abbrev lines : List ℕ
  lines = shape_lines 0 (cut c.args.lengths.now c.args.edges.kinds.now) (cut c.args.lengths.now c.args.edges.colors.now)

  abbrev edges : List ℕ
  edges = word_line edges_word (length c.args.edges.kinds.now)

  abbrev last : List ℕ
  last = word_line stand_ins_word c.args.stand_ins

  room : HasRoom c.args.self.now (lines ++ (edges ++ last))
  room = rw (listing_parts c.args.lengths.now c.args.edges.kinds.now c.args.edges.colors.now c.args.stand_ins c.requires.sizes.2) at c.requires.room

-- room for what follows the lines
counts : (c : After-put_shape) → let s = (goal.at.After-put_shape c).Start in HasRoom c.put_shape.new.self (edges s ++ last s)
counts c = let s = (goal.at.After-put_shape c).Start in room_then (lines s) (edges s ++ last s) (room s) c.put_shape.ensures

pub put_shape-requires-clause-room : goal.put_shape-requires-clause-room
put_shape-requires-clause-room c =
    let s = (goal.at.put_shape-requires-clause-room c).Start in
    room_first (lines s) (edges s ++ last s) (room s)

pub put_word_line-requires : goal.put_word_line-requires
put_word_line-requires c =
    let s = (goal.at.put_word_line-requires c).Start in
    (c.args.edges.few, room_first (edges s) (last s) (counts (goal.at.put_word_line-requires c).After-put_shape))

pub put_word_line-requires-2 : goal.put_word_line-requires-2
put_word_line-requires-2 c =
    let s = (goal.at.put_word_line-requires-2 c).Start in
    (c.requires.sizes.1, room_then (edges s) (last s) (counts (goal.at.put_word_line-requires-2 c).After-put_shape) c.put_word_line.ensures)

pub returns : goal.returns
returns c =
    let s = (goal.at.returns c).Start in
    rw (listing_parts c.args.lengths.now c.args.edges.kinds.now c.args.edges.colors.now c.args.stand_ins c.requires.sizes.2)
    (writes_then (lines s) (edges s ++ last s) (room s) c.put_shape.ensures
    (writes_then (edges s) (last s) (counts (goal.at.returns c).After-put_shape) c.put_word_line.ensures c.put_word_line-2.ensures))
