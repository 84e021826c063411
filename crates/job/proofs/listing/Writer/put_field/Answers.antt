-- `job::listing::Writer::put_field` meets its contract: the number, then the byte.
use Rattle.std.proofs.Common.{[], ◌∷◌}
use Rattle.job.specs.Listing.{decimal}
use Rattle.job.proofs.listing.WriterLaws.{room_first, room_then, writes_then}
use Rattle.job.proofs.listing.Writer.put_field.Goals as goal

pub put_decimal-requires : goal.put_decimal-requires
put_decimal-requires c = (c.requires.0, room_first (decimal c.args.n) (c.args.byte ∷ []) c.requires.1)

pub put-requires : goal.put-requires
put-requires c = room_then (decimal c.args.n) (c.args.byte ∷ []) c.requires.1 c.put_decimal.ensures

pub returns : goal.returns
returns c = writes_then (decimal c.args.n) (c.args.byte ∷ []) c.requires.1 c.put_decimal.ensures c.put.ensures
