-- What follows from the limits (coloring's Limits) for a job file, its buffers and its text.
use Rattle.std.specs.Prelude.{ℕ}

-- eight places for each edge of a job, and of a result
abbrev pub max_places : ℕ
max_places = 2048

abbrev pub max_result_places : ℕ
max_result_places = 4064

-- bytes of an accepted file: 19 + 2 + 64 · 2 + 256 · 66 + 4 + 2,016 · 8 + 2
abbrev pub max_file : ℕ
max_file = 33179

-- the first bytes of a file that decide how it is read, and a few to spare
abbrev pub deciding_bytes : ℕ
deciding_bytes = 34000

-- bytes of a text: 508 lines of 11, one of 10 and the last one of 13
abbrev pub max_text : ℕ
max_text = 5611
