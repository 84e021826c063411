-- The answer to an offer as C sees it: one number.
use Rattle.std.specs.Prelude.{ℕ, ◌+◌}
use Rattle.coloring.specs.SplineTable.{OfferAnswer, kept, declined, refused}

-- the counter and 256 where the pair is kept, 512 where it is declined; or 768 and the number of the refusal
abbrev pub answer_code : OfferAnswer → ℕ
answer_code (kept counter) = 256 + counter
answer_code (declined counter) = 512 + counter
answer_code (refused number) = 768 + number
