-- `read_full` meets its contract: what a read adds follows what was filled before.
use Rattle.std.proofs.Common.{◌≡◌, ℕ, ◌+◌, ◌-◌, ◌≤◌, List, ◌++◌, rules, length, take, drop, sym, ap, ◌∙◌, subst, le_refl, drop_at, length-take-le}
use Rattle.std.proofs.lemmas.Slice.{take-put_mid_below}
use Rattle.std.specs.Io.KnownBytes.{Consumes}
use Rattle.std.proofs.KnownBytes.{Consumes-trans}
use borrow.Rule.Slice.PartMut.{put_mid, post_of}
use lib.Seq.{take-add, take-append-le}
use Rattle.channels.proofs.read_full.Goals as goal

-- what was filled, and what the read put after it
grown : (at n : ℕ) (old new : List ℕ) → at ≤ length old → n ≤ length new
    → take at old ++ take n new ≡ take (at + n) (put_mid at (length old - at) old new)
grown at n old new within fits =
    let k = length old - at in
    let whole = put_mid at k old new in
    let after = post_of at k old in
    let kept : take at whole ≡ take at old = take-put_mid_below _ _ _ _ _ (le_refl _) within in
    let put : take n (drop at whole) ≡ take n new =
    ap (take n) (drop_at (take at old) (new ++ after) at (length-take-le at old within)) ∙ take-append-le n new after fits in
    sym (take-add at n whole ∙ ap (λ xs. xs ++ take n (drop at whole)) kept ∙ ap (λ xs. take at old ++ xs) put)

pub loop-done-preserved : goal.loop-done-preserved
loop-done-preserved g c =
    let filled = grown c.loop-done.done c.in_ok-n.n c.loop-done.space c.read.new.buf c.loop-done.invariant.1 c.in_ok-n.ensures.bound.0 in
    (search rules, search rules, subst (Consumes _ _) filled (Consumes-trans _ _ _ _ _ c.loop-done.invariant.2 c.in_ok-n.ensures.bytes.0))
