-- The answers for `write_floats`, by the invariant of Invariants.antt.
use Rattle.std.proofs.Common.{◌≡◌, ℕ, List, [], ◌/◌, length, get_or, refl, sym, ap, ◌∙◌, arith, add-one, Float, length-set}
use lib.Ieee.{nan, binary64, of_bits}
use lib.Seq.{take_all}
use Rattle.std.specs.Int.{w64, from_le_bytes}
use Rattle.coloring.specs.Lists.{over}
use Rattle.job.specs.Patterns.{words, floats}
use Rattle.job.proofs.patterns.PatternLaws.{word_at, floats_at, floats-length}
use Rattle.job.proofs.buffers.BufferLaws.{over-next, over-all}
use Rattle.job.proofs.buffers.write_floats.Goals as goal

pub loop-i-init : goal.loop-i-init
unfolding over
loop-i-init c = (refl, refl)

pub loop-i-preserved : goal.loop-i-preserved
loop-i-preserved c =
    let bytes = c.args.bytes.now in
    let i = c.loop-i.i in
    let n = length c.args.to.now in
    let all = floats (words n bytes) in
    let here = ap (λ (ws : List (List ℕ)). from_le_bytes w64 (get_or ws i [])) c.as_chunks.ensures.front
    ∙ word_at (length bytes / 8) i bytes (omega arith) (omega arith) in
    let value : c.float.result ≡ get_or all i nan =
    c.float.ensures ∙ ap (of_bits binary64) (c.from_le_bytes.ensures ∙ here) ∙ sym (floats_at n i bytes nan (omega arith)) in
    let more = over-next all c.args.to.now i nan (omega (arith, floats-length n bytes)) (omega (arith, floats-length n bytes)) in
    (rw length-set c.loop-i.invariant.0, rw (value, c.loop-i.invariant.1, add-one) more)

pub returns : goal.returns
returns c =
    let n = length c.args.to.now in
    let all = floats (words n c.args.bytes.now) in
    let many = floats-length n c.args.bytes.now in
    c.loop-i.invariant.1 ∙ ap (λ (xs : List Float). over xs c.args.to.now) (take_all c.loop-i.i all (omega (arith, many)))
    ∙ over-all all c.args.to.now (omega (arith, many))
