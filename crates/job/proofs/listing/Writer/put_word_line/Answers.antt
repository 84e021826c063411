-- `job::listing::Writer::put_word_line` meets its contract: the word, then the number.
use Rattle.job.specs.Listing.{word_line, field, newline}
use Rattle.job.proofs.listing.WriterLaws.{room_first, room_then, writes_then}
use Rattle.job.proofs.listing.Writer.put_word_line.Goals as goal
use Rattle.job.proofs.listing.Writer.put_word_line.Goals.{Start}

pub put-requires : goal.put-requires
unfolding word_line
put-requires c = room_first c.args.word.now (field c.args.n newline) c.requires.1

pub put_field-requires : goal.put_field-requires
unfolding word_line
put_field-requires c = (c.requires.0, room_then c.args.word.now (field c.args.n newline) c.requires.1 c.put.ensures)

pub returns : goal.returns
unfolding word_line
returns c = writes_then c.args.word.now (field c.args.n newline) c.requires.1 c.put.ensures c.put_field.ensures
