-- What the splines have, spread over the edges place by place.
use mathlib.Core.Path.{◌≡◌, refl}
use mathlib.Core.Bool.{Bool, true, false}
use mathlib.Core.List.{List, [], ◌∷◌}
use Prim.Native.Nat.{ℕ, suc, ◌+◌, ◌≤◌, ◌<◌}
use native.Mathlib.Numerals.{add-one}
use lib.ListN.{length, drop, get_or, drop_of_length-le}
use lib.Seq.{drop-cons}
use Rattle.coloring.specs.Splines.{spread}

module _ {A : Type 0} where
  module _ (value : A) (values : List A) (flags : List Bool) (i : ℕ) (h : i < length flags) where
    -- a corner begins the next spline; beyond the last one nothing changes
    pub spread_corner : get_or flags i false ≡ true
        → spread value values (drop i flags)
        ≡ get_or values 0 value ∷ spread (get_or values 0 value) (drop 1 values) (drop (i + 1) flags)
    unfolding spread
    spread_corner t = rw (drop-cons flags i false h, t, add-one) (begun values)
      where
        begun : (values : List A)
            → spread value values (true ∷ drop (suc i) flags) ≡ get_or values 0 value ∷ spread (get_or values 0 value) (drop 1 values) (drop (suc i) flags)
        begun [] = refl
        begun (next ∷ values) = refl

    pub spread-edge : get_or flags i false ≡ false → spread value values (drop i flags) ≡ value ∷ spread value values (drop (i + 1) flags)
    unfolding spread
    spread-edge t = rw (drop-cons flags i false h, t, add-one)

  pub spread_end : (value : A) (values : List A) (flags : List Bool) (i : ℕ) → length flags ≤ i → spread value values (drop i flags) ≡ []
  unfolding spread
  spread_end value values flags i h = rw (drop_of_length-le flags h)
