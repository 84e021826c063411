-- `Queue::push_back` meets its contract: the ring with one more at its end.
use native.Mathlib.Omega.{arith}
use Rattle.coloring.proofs.queue.RingLaws.{ring-length, ring_push}
use Rattle.coloring.proofs.queue.Queue.push_back.Goals as goal

pub overflow_add-self : goal.overflow_add-self
overflow_add-self c = omega (arith, rw ring-length at c.requires)

pub overflow_add-self-2 : goal.overflow_add-self-2
overflow_add-self-2 c = omega (arith, rw ring-length at c.requires)

pub returns : goal.returns
returns c = let q = c.args.self.now in ring_push q.places q.head q.waiting c.args.spline q.ring.0 q.ring.1 (rw ring-length at c.requires)
