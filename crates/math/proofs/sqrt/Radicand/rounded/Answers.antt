-- `math::sqrt::Radicand::rounded` meets its contract: by each of three ways.
use Rattle.std.proofs.Common.{◌*◌, ◌^◌, arith}
use Rattle.math.proofs.sqrt.SqrtGuess.{stays}
use Rattle.math.proofs.sqrt.Radicand.rounded.Goals as goal

pub returns-then-q-self : goal.returns-then-q-self
returns-then-q-self c =
    let a = c.args in
    stays (a.self.n * 2 ^ 52) (a.q * 2 ^ 27) 0 (omega arith) (omega (arith, c.if-q-self.true)) (omega arith)
