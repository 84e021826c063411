-- `read_record` meets its contract: the first 16 bytes and those after them stand side by side.
use Rattle.std.proofs.Common.{◌≡◌, ℕ, ◌+◌, ◌-◌, ◌≤◌, List, ◌++◌, arith, length, take, drop, sym, ◌∙◌, subst, length-append, length-drop, length-take-le}
use Rattle.std.proofs.Common.{append_assoc}
use Rattle.std.proofs.Math.Seq.{take-append_seam}
use Rattle.std.specs.Io.KnownBytes.{Consumes}
use Rattle.std.proofs.KnownBytes.{Consumes-trans}
use borrow.Rule.Slice.PartMut.{put_mid}
use Rattle.replay.proofs.read_record.Goals as goal

-- the head of a buffer, and what is put after it
joined : (head rest tail : List ℕ) → take (length head + length tail) (put_mid (length head) (length tail) (head ++ rest) tail) ≡ head ++ tail
joined head rest tail = rw (take-append_seam, ← append_assoc, ← length-append, take-append_seam)

pub slice_bounds-record_bytes-end-2 : goal.slice_bounds-record_bytes-end-2
slice_bounds-record_bytes-end-2 g c =
    let head = c.read_full.new.space in
    let rest = drop 16 c.args.space.now in
    let front : length head ≡ 16 = c.read_full.auto.space ∙ length-take-le 16 c.args.space.now c.requires in
    sym (length-take-le 16 (head ++ rest) (omega (arith, length-append head rest)))

pub returns-clause-bytes : goal.returns-clause-bytes
returns-clause-bytes g c =
    let n = c.record_bytes-size.result in
    let head = c.read_full.new.space in
    let rest = drop 16 c.args.space.now in
    let front : length head ≡ 16 = c.read_full.auto.space ∙ length-take-le 16 c.args.space.now c.requires in
    let back : n - 16 ≤ length (drop 16 (head ++ rest)) = omega (arith, length-drop 16 (head ++ rest), c.if-size-space.false) in
    let tail = c.read_full-2.new.space in
    let size : length tail ≡ n - 16 = c.read_full-2.auto.space ∙ length-take-le (n - 16) (drop 16 (head ++ rest)) back in
    let both : 16 + (n - 16) ≡ n = omega (arith, c.if-size-lt16.false) in
    subst (Consumes _ _) (sym (rw (front, size, both) at (joined head rest tail))) (Consumes-trans _ _ _ _ _ (c.in_ok-read_full.ensures c.if-not-branch.false)
    (c.in_ok-read_full-2.ensures c.if-not-branch-2.false))
