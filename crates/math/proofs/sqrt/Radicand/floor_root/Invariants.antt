-- `math::sqrt::Radicand::floor_root` meets its contract. The loop's invariant: after i turns the square of the root's
-- digits, with what is left over, and below them the digits not taken yet, are n · 4 ^ i.
use Rattle.std.proofs.Common.{◌≡◌, ℕ, ◌+◌, ◌*◌, ◌^◌, ◌<◌, ◌≤◌}
use Rattle.math.proofs.sqrt.Radicand.floor_root.Given as goal

pub record Taken (n i root rem rest : ℕ) : Type 0 where
  pub turns : i ≤ 53
  pub whole : (root * root + rem) * 2 ^ 54 + rest ≡ n * 4 ^ i
  pub digits : root < 2 ^ i
  pub over : rem ≤ 2 * root
  pub low : rest < 2 ^ 54

abbrev pub invariant-loop : goal.invariant-loop
invariant-loop l = Taken l.fn.self.n l.counter l.s.0 l.s.1.0 l.rest
