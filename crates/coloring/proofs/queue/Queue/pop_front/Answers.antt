-- `Queue::pop_front` meets its contract: nobody waits, or the first is taken off the ring.
use mathlib.Core.Path.{refl}
use native.Mathlib.Omega.{arith}
use Rattle.coloring.specs.Queue.{ring}
use Rattle.coloring.proofs.queue.RingLaws.{ring_first, ring_rest}
use Rattle.coloring.proofs.queue.Queue.pop_front.Goals as goal

pub returns-then-self-eq0 : goal.returns-then-self-eq0
unfolding ring
returns-then-self-eq0 c = rw c.if-self-eq0.true (record { first = refl; rest = refl })

pub returns : goal.returns
returns c =
    let q = c.args.self.now in
    record { first = ring_first q.places q.head q.waiting (omega arith); rest = ring_rest q.places q.head q.waiting (omega arith) }
