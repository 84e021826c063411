-- Lists by place: a list from a place on and around, and back; numbers added up.
use Rattle.std.specs.Prelude.{ℕ, ◌+◌, ◌-◌, List, [], ◌∷◌, ◌++◌, length, take, drop}

-- the list from place k on, then what stands before it
unfoldable pub rotate : {A : Type 0} → ℕ → List A → List A
rotate k xs = drop k xs ++ take k xs

-- what was listed in the order (start + i) mod m, by place
unfoldable pub by_place : {A : Type 0} → ℕ → List A → List A
unfolding rotate
by_place start xs = rotate (length xs - start) xs

unfoldable pub total : List ℕ → ℕ
total [] = 0
total (n ∷ numbers) = n + total numbers
