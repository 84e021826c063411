-- `job::listing::Writer::put_answer` meets its contract: the listing of the coloured shape, or the refusal's line.
use Rattle.std.proofs.Common.{◌≡◌, sym, ap, ◌∙◌, length-take-le}
use Rattle.coloring.specs.Outline.{result_in, outcome, colored_answer}
use Rattle.coloring.specs.Refusal.{refusal_number}
use Rattle.job.specs.Listing.{refusal_line, file_text}
use Rattle.job.proofs.AnswerLaws.{Front, front, refused_text}
use Rattle.job.proofs.listing.Writer.put_answer.Goals as goal
use Rattle.job.proofs.listing.Writer.put_answer.Goals.{In-Ok, In-Err}

-- a file that was coloured
at_front : (c : In-Ok)
    → Front c.args.file.now c.in-Ok.counts.contours c.in-Ok.counts.edges c.in-Ok.counts.stand_ins (result_in c.color-colored.new.out)
at_front c =
    let out = result_in c.color-colored.new.out in
    front c.args.file.now (result_in c.args.shape) c.requires.holds_results c.in-Ok.counts out
    (ap (λ r. outcome (colored_answer r) out) (sym c.in-Ok.is) ∙ c.color-colored.ensures.colored)

-- a file that was refused
refused : (c : In-Err) → file_text c.args.file.now ≡ refusal_line (refusal_number c.in-Err.refusal)
refused c =
    let out = result_in c.color-colored.new.out in
    refused_text c.args.file.now (result_in c.args.shape) c.requires.holds_results (refusal_number c.in-Err.refusal) out
    (ap (λ r. outcome (colored_answer r) out) (sym c.in-Err.is) ∙ c.color-colored.ensures.colored)

pub slice_bounds-edges-end : goal.slice_bounds-edges-end
slice_bounds-edges-end c = sym (length-take-le _ _ (at_front (goal.at.slice_bounds-edges-end c).In-Ok).kinds-within)

pub slice_bounds-edges-end-in-Ok : goal.slice_bounds-edges-end-in-Ok
slice_bounds-edges-end-in-Ok c = sym (length-take-le _ _ (at_front (goal.at.slice_bounds-edges-end-in-Ok c).In-Ok).colors-within)

pub slice_bounds-put_listing-end : goal.slice_bounds-put_listing-end
slice_bounds-put_listing-end c = sym (length-take-le _ _ (at_front (goal.at.slice_bounds-put_listing-end c).In-Ok).lengths-within)

pub invariant_of-edges-clause-colored : goal.invariant_of-edges-clause-colored
invariant_of-edges-clause-colored c = (at_front (goal.at.invariant_of-edges-clause-colored c).In-Ok).colored

pub invariant_of-edges-clause-few : goal.invariant_of-edges-clause-few
invariant_of-edges-clause-few c = (at_front (goal.at.invariant_of-edges-clause-few c).In-Ok).few

pub put_listing-requires : goal.put_listing-requires
put_listing-requires c =
    let shown = at_front (goal.at.put_listing-requires c).In-Ok in
    record { sizes = shown.listable; room = rw shown.text at c.requires.room }

pub put_refusal-requires : goal.put_refusal-requires
put_refusal-requires c = rw (refused (goal.at.put_refusal-requires c).In-Err) at c.requires.room

pub returns-in-Ok : goal.returns-in-Ok
returns-in-Ok c = rw (at_front (goal.at.returns-in-Ok c).In-Ok).text c.put_listing.ensures

pub returns-in-Err : goal.returns-in-Err
returns-in-Err c = rw (refused (goal.at.returns-in-Err c).In-Err) c.put_refusal.ensures
