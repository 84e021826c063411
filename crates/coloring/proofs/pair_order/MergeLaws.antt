-- Two lists merged by a key, of equal ones the first list's first: the definition of it, and a step.
use mathlib.Core.Path.{◌≡◌, refl}
use mathlib.Core.Bool.{Bool, true, false}
use mathlib.Core.List.{List, [], ◌∷◌}
use lib.Ieee.{Float, lt}

-- of two lists the one whose first comes next: the second only where it is below the first, or the first is used up
unfoldable pub takes_second : {A : Type 0} → (A → Float) → List A → List A → Bool
unfolding lt
takes_second key [] ys = true
takes_second key (x ∷ xs) [] = false
takes_second key (x ∷ xs) (y ∷ ys) = lt (key y) (key x)

-- x, once those of a list that are below it have gone, and the rest of both
unfoldable pub merge_first : {A : Type 0} → (A → Float) → A → (List A → List A) → List A → List A
unfolding lt
merge_first key x rest [] = x ∷ rest []
merge_first key x rest (y ∷ ys) = elim (lt (key y) (key x)) [ true ↦ y ∷ merge_first key x rest ys | false ↦ x ∷ rest (y ∷ ys) ]

unfoldable pub merge_by : {A : Type 0} → (A → Float) → List A → List A → List A
unfolding merge_first
merge_by key [] ys = ys
merge_by key (x ∷ xs) ys = merge_first key x (merge_by key xs) ys

-- where the first list's first comes next
module _ {A : Type 0} (key : A → Float) where
  pub merge_first_lem : (x : A) (xs ys : List A) → takes_second key (x ∷ xs) ys ≡ false → merge_by key (x ∷ xs) ys ≡ x ∷ merge_by key xs ys
  unfolding takes_second merge_by merge_first
  merge_first_lem x xs [] e = refl
  merge_first_lem x xs (y ∷ ys) e = rw (e, merge_first)
