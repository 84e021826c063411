-- Draws from a seed, after `seed_extract2` and `seed_extract3` of coloring/mod.rs (SCOPE, leaf 6).
use Rattle.std.specs.Prelude.{ℕ, ◌/◌, ◌%◌}
use Rattle.coloring.specs.declared.seed.Draw.{Draw}

-- the seed mod n, and its nth part
abbrev pub seed_extract : ℕ → ℕ → Draw
seed_extract n seed = record { value = seed % n; seed = seed / n }

abbrev pub seed_extract2 : ℕ → Draw
seed_extract2 = seed_extract 2

abbrev pub seed_extract3 : ℕ → Draw
seed_extract3 = seed_extract 3
