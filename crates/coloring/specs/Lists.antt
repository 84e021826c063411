-- Lists: ranges, the last element, a test of all elements, a part written over what stood there.
use Rattle.std.specs.Prelude.{ℕ, zero, suc, ◌≡◌, refl, Bool, List, [], ◌∷◌, ◌++◌, map, length, take, drop}
use Rattle.std.specs.List.{list_all}
use Rattle.std.proofs.Common.{ap}

-- i, i + 1, .., k of them
unfoldable pub range : ℕ → ℕ → List ℕ
range i zero = []
range i (suc k) = i ∷ range (suc i) k

pub length-range : (i k : ℕ) → length (range i k) ≡ k
unfolding range
length-range i zero = refl
length-range i (suc k) = ap suc (length-range (suc i) k)

-- the last of a list that begins with x
unfoldable pub last_of : {A : Type 0} → A → List A → A
last_of x [] = x
last_of x (y ∷ xs) = last_of y xs

abbrev pub all : {A : Type 0} → (A → Bool) → List A → Bool
all test xs = list_all test xs

-- a written part, and what stood beyond it
unfoldable pub over : {A : Type 0} → List A → List A → List A
over written old = written ++ drop (length written) old

-- the same from place n on
unfoldable pub over_from : {A : Type 0} → ℕ → List A → List A → List A
unfolding over
over_from n written old = take n old ++ over written (drop n old)

-- ---- a part of what is mapped is mapped from that part

module _ {A B : Type 0} (f : A → B) where
  pub map-take : (n : ℕ) (xs : List A) → map f (take n xs) ≡ take n (map f xs)
  map-take zero xs = refl
  map-take (suc n) [] = refl
  map-take (suc n) (x ∷ xs) = ap (λ (ys : List B). f x ∷ ys) (map-take n xs)

  pub map-drop : (n : ℕ) (xs : List A) → map f (drop n xs) ≡ drop n (map f xs)
  map-drop zero xs = refl
  map-drop (suc n) [] = refl
  map-drop (suc n) (x ∷ xs) = map-drop n xs
