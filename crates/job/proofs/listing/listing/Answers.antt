-- `job::listing::listing` meets its contract: the text is written apart, and copied where it fits.
use Rattle.std.proofs.Common.{◌++◌, drop, ◌∙◌}
use Rattle.coloring.specs.Lists.{over}
use Rattle.job.specs.Listing.{file_text}
use Rattle.job.proofs.AnswerLaws.{take-over, list_short, list_fits}
use Rattle.job.proofs.listing.listing.Goals as goal

pub returns-then-n-out : goal.returns-then-n-out
returns-then-n-out c = list_short c.args.file.now c.args.out.now c.text-n.result c.text-n.ensures.counts c.if-n-out.true

pub returns : goal.returns
unfolding over
returns c =
    let file = c.args.file.now in
    let n = c.text-n.result in
    let copied = c.copy_from_slice.ensures.after ∙ take-over (file_text file) _ c.text-n.ensures.holds c.text-n.ensures.counts in
    list_fits file c.args.out.now n c.text-n.ensures.counts (c.copy_from_slice.new.self ++ drop n c.args.out.now) c.if-n-out.false
    (rw (copied, c.text-n.ensures.counts))
