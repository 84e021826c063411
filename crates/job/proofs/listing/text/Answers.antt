-- `job::listing::text` meets its contract: its own buffers hold every result, and every text has room.
use Rattle.std.proofs.Common.{◌≡◌, length, ap, arith}
use Rattle.job.specs.Listing.{file_text, HasRoom}
use Rattle.job.proofs.AnswerLaws.{text_few}
use Rattle.job.proofs.listing.WriterLaws.{printed}
use Rattle.job.proofs.listing.text.Goals as goal
use Rattle.job.proofs.listing.text.Goals.{After-new-writer}

room : (c : After-new-writer) → HasRoom c.new-writer.result (file_text c.args.file.now)
room c =
    let start : c.new-writer.result.at ≡ 0 = c.new-writer.ensures.at in
    let size : length c.new-writer.result.out.now ≡ length c.args.out.now = ap length c.new-writer.ensures.out in
    record { fits = omega (arith, text_few c.args.file.now) }

pub put_answer-requires-clause-room : goal.put_answer-requires-clause-room
put_answer-requires-clause-room c = room (goal.at.put_answer-requires-clause-room c).After-new-writer

pub returns : goal.returns
returns c =
    printed c.new-writer.ensures.at c.new-writer.ensures.out (room (goal.at.returns c).After-new-writer) c.put_answer.ensures
