-- `job::records::read_record` meets its contract: two letters, then what follows them.
use Rattle.std.proofs.Common.{◌≡◌, Some, drop, sym, ap, ◌∙◌}
use Rattle.std.proofs.lemmas.List.{take_rest}
use Rattle.job.specs.Records.{found_of, read_marked, read_record}
use Rattle.job.proofs.records.RecordLaws.{no_letters, two_letters}
use Rattle.job.proofs.records.read_record.Goals as goal
use Rattle.job.proofs.records.read_record.Goals.{After-mark_of}

-- what is read by the mark of the two letters
marked : (c : After-mark_of) → read_record c.args.s c.args.bytes.now ≡ read_marked c.args.s c.mark_of.result (drop 2 c.args.bytes.now)
marked c =
    two_letters c.args.s c.args.bytes.now c.in-len2-up.len_at_least ∙ ap (λ m. read_marked c.args.s m (drop 2 c.args.bytes.now)) (sym c.mark_of.ensures)

pub returns-in_default : goal.returns-in_default
returns-in_default c = sym (ap found_of (no_letters c.args.s c.args.bytes.now c.in_default.len_below))

pub returns-in_default-mark_of : goal.returns-in_default-mark_of
unfolding read_marked
returns-in_default-mark_of c =
    ap found_of
    (ap (λ m. read_marked c.args.s m (drop 2 c.args.bytes.now)) (sym c.in_default-mark_of.is)
    ∙ sym (marked (goal.at.returns-in_default-mark_of c).After-mark_of))

pub returns : goal.returns
returns c =
    c.read_marked.ensures
    ∙ ap found_of
    (ap (read_marked c.args.s (Some c.in-Some.mark)) (take_rest c.args.bytes.now 2)
    ∙ ap (λ m. read_marked c.args.s m (drop 2 c.args.bytes.now)) (sym c.in-Some.is)
    ∙ sym (marked (goal.at.returns c).After-mark_of))
