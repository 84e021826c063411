-- `job::buffers::write_points` meets its contract: the control points, then +0.
use Rattle.std.proofs.Common.{◌≡◌, ℕ, ◌*◌, ◌-◌, length, arith, ap, ◌∙◌}
use Rattle.job.specs.Records.{controls}
use Rattle.job.proofs.buffers.BufferLaws.{places_from}
use Rattle.job.proofs.buffers.write_points.Goals as goal

pub returns : goal.returns
returns c =
    let kind = c.args.kind in
    let split = c.split_at_mut-points in
    let points : length split.result.0.now ≡ 2 * controls kind = split.ensures.front_len ∙ ap (λ (n : ℕ). 2 * n) c.controls.ensures in
    let unused : length split.result.1.now ≡ 8 - 2 * controls kind = omega (arith, split.ensures.back_len, c.controls.ensures) in
    rw (c.write_floats.ensures, c.fill.ensures.after, points, unused) (places_from kind c.args.body.now)
