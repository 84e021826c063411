-- `Queue::new` meets its contract: nobody waits.
use mathlib.Core.Path.{refl}
use Rattle.coloring.specs.Queue.{ring}
use Rattle.coloring.proofs.queue.Queue.new.Goals as goal

pub returns : goal.returns
unfolding ring
returns c = refl
