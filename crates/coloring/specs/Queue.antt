-- The queue of a walk as the code holds it: a ring of 64 numbers, the place of the first, and how many wait.
use Rattle.std.specs.Prelude.{List, [], ◌∷◌, ℕ, zero, suc, ◌+◌, ◌%◌, get_or}
use Rattle.coloring.specs.declared.queue.Queue.{Queue}

-- the splines that wait, the first at `head`
unfoldable pub ring : List ℕ → ℕ → ℕ → List ℕ
ring places head zero = []
ring places head (suc waiting) = get_or places head 0 ∷ ring places ((head + 1) % 64) waiting

abbrev pub waits : Queue → List ℕ
waits q = ring q.places q.head q.waiting
