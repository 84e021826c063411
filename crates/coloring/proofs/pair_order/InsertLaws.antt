-- Where an element goes in a sorted list, by the first that is there.
use mathlib.Core.Path.{◌≡◌}
use mathlib.Core.Bool.{true, false}
use mathlib.Core.List.{List, ◌∷◌}
use lib.Ieee.{Float, lt}
use Rattle.coloring.specs.PairOrder.{insert_by}

module _ {A : Type 0} (key : A → Float) where
  pub insert_here : (x y : A) (ys : List A) → lt (key y) (key x) ≡ false → insert_by key x (y ∷ ys) ≡ x ∷ y ∷ ys
  unfolding insert_by
  insert_here x y ys e = rw (e, insert_by)

  pub insert_later : (x y : A) (ys : List A) → lt (key y) (key x) ≡ true → insert_by key x (y ∷ ys) ≡ y ∷ insert_by key x ys
  unfolding insert_by
  insert_later x y ys e = rw (e, insert_by)
